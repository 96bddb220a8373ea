-- Forms whose values are there at once.
use Rattle.std.proofs.Common.{◌≡◌, ℕ, zero, suc, ◌+◌, ◌-◌, ◌<◌, arith, List, [], ◌∷◌, ◌++◌, Option, Some, None, Ok, refl, ap, sym, ◌∙◌, add_assoc}
use Rattle.lisp_data.specs.Name.{Name}
use Rattle.lisp_data.specs.Value.{Val}
use Rattle.clos_forms.specs.Form.{Form, Forms, cons, operator_in, parts_in}
use Rattle.clos_forms.specs.Operator as of
use Rattle.clos_forms.specs.Operator.{Operator}
use Rattle.clos_machine.specs.clos_world.Globals.{global_value}
use Rattle.clos_machine.specs.clos_world.World.{State, Denoted, held, in_slot, local_named}
use Rattle.clos_machine.specs.Machine.{Leads, Turns, Took, at, at_once, inside, resume, acted}
use Rattle.clos_machine.specs.clos_meaning.Contexts.{Context}
use Rattle.clos_machine.specs.clos_meaning.Meaning.{closed, collect, meaning, operated}
use Rattle.clos_machine.specs.clos_meaning.Outcome.{Eval, Gave, then_do}
use Rattle.clos_machine.specs.clos_meaning.SlotNames.{name_read, place_denoted, slot_place}
use Rattle.clos_machine.specs.clos_meaning.Variables.{found_value, or_global, variable_value}
use Rattle.clos_machine.specs.declared.machine.Action.{Action}
use Rattle.clos_machine.specs.declared.machine.Doing.{Doing}
use Rattle.clos_machine.specs.declared.machine.Machine.{Machine}

-- a name with a value of its own stands for no slot
no_place : (o : Option Denoted) (global : Option Val) (v : Val) → Some v ≡ or_global o global → slot_place o ≡ None
no_place None global v e = refl
no_place (Some (held x)) global v e = refl
no_place (Some (in_slot slot object)) global v e = absurd (cc e)

pub reads_value : (ev : Eval) (env : Context) (name : Name) (v : Val) (w : State) (t : ℕ) → Some v ≡ found_value w name
    → name_read ev env name (place_denoted w name) w t ≡ Gave v w t
reads_value ev env name v w t e =
    ap (λ o. name_read ev env name o w t) (no_place (local_named w.locals name) (global_value w.globals name) v e) ∙ sym (ap (λ x. variable_value name x w t) e)

gives_at_once : (ev : Eval) (env : Context) (o : Operator) (ps : Forms) (v : Val) (w : State) (t : ℕ) → Some v ≡ at_once w o → operated ev env o ps w t ≡ Gave v w t
gives_at_once ev env (of.constant u) ps v w t e = cc
gives_at_once ev env (of.variable name) ps v w t e = reads_value ev env name v w t e
gives_at_once ev env of.no_value ps v w t e = cc
gives_at_once ev env (of.function c) ps v w t e = cc
gives_at_once ev env of.if_form ps v w t e = cc
gives_at_once ev env of.cond ps v w t e = cc
gives_at_once ev env of.clause ps v w t e = cc
gives_at_once ev env of.when ps v w t e = cc
gives_at_once ev env of.unless ps v w t e = cc
gives_at_once ev env of.and_form ps v w t e = cc
gives_at_once ev env of.or_form ps v w t e = cc
gives_at_once ev env of.progn ps v w t e = cc
gives_at_once ev env of.prog1 ps v w t e = cc
gives_at_once ev env (of.let_form bs) ps v w t e = cc
gives_at_once ev env (of.let_in_order bs) ps v w t e = cc
gives_at_once ev env (of.setq ns) ps v w t e = cc
gives_at_once ev env of.setf ps v w t e = cc
gives_at_once ev env of.incf ps v w t e = cc
gives_at_once ev env of.decf ps v w t e = cc
gives_at_once ev env (of.place p) ps v w t e = cc
gives_at_once ev env (of.dotimes name b) ps v w t e = cc
gives_at_once ev env (of.with_slots bs) ps v w t e = cc
gives_at_once ev env of.call_next_method ps v w t e = cc
gives_at_once ev env of.next_method_p ps v w t e = cc
gives_at_once ev env (of.call name) ps v w t e = cc
gives_at_once ev env (of.call_method m ns) ps v w t e = cc

one_more : (t : ℕ) → 1 + t ≡ suc t
one_more t = omega arith

ready : (n : ℕ) (env : Context) (f : Form) (v : Val) (w : State) (t : ℕ) → 0 < n → Some v ≡ at_once w (operator_in f) → meaning n env f w (1 + t) ≡ Gave v w t
ready zero env f v w t h e = absurd (omega (arith, h))
ready (suc n) env f v w t h e =
    ap (meaning (suc n) env f w) (one_more t) ∙ gives_at_once (meaning n) env (operator_in f) (parts_in f) v w t e

-- one more form is taken
pub took_one : (n : ℕ) (env : Context) (w : State) (fs : Forms) (vs : List Val) (s : ℕ) (f : Form) (fs' : Forms) (vs' : List Val) (s' : ℕ) (v : Val)
    → 0 < n → 0 < s' → Some v ≡ at_once w (operator_in f) → Took n env w fs vs s (cons f fs') vs' s' → Took n env w fs vs s fs' (vs' ++ v ∷ []) (s' - 1)
took_one n env w fs vs s f fs' vs' s' v h k e r = record {
  taken = r.taken + 1;
  steps = r.steps ∙ omega (arith, k);
  same = λ go t.
      sym (ap (λ o. then_do o (λ u. collect (meaning n) env fs' (vs' ++ u ∷ []) go)) (ready n env f v w t h e))
      ∙ r.same go (1 + t) ∙ ap (collect (meaning n) env fs vs go w) (sym (add_assoc r.taken 1 t));
}

pub turns_of_took : (m : Machine) (a : Action) (w : State) (s : ℕ) (fs : Forms) (vs : List Val) (fs' : Forms) (vs' : List Val) (s' : ℕ) (d : Doing) (n : Machine)
    → Took m.room m.context (at m w) fs vs s fs' vs' s' → Leads (inside m (collect (meaning m.room) m.context fs' vs' (acted (meaning m.room) m.context a))) w (Ok d) n
    → Turns (inside m (collect (meaning m.room) m.context fs vs (acted (meaning m.room) m.context a))) w s (Ok d) n w s'
turns_of_took m a w s fs vs fs' vs' s' d n r h =
    (r.taken, r.steps, λ t. h t ∙ ap (λ o. closed (resume m.levels m.context o)) (r.same (acted (meaning m.room) m.context a) t))
