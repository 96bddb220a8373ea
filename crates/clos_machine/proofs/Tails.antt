-- Tail position: where a body ends on top of the levels, what its caller gets does not depend on the context and the variables before.
use Rattle.std.proofs.Common.{arith, ◌≡◌, ℕ, ◌-◌, ◌∷◌, ◌++◌, [], List, length, reverse, Option, Some, None, true, false, refl, ap, sym, subst, ◌∙◌}
use Rattle.std.specs.Prelude.{Result, Bool, if◌then◌else◌, slice_get}
use Rattle.std.proofs.lemmas.List.{length-append, reverse-append, reverse-reverse}
use Rattle.lisp_data.specs.Value.{Val}
use Rattle.clos_forms.specs.Form.{Form, Forms, nil, cons}
use Rattle.clos_meaning.specs.clos_world.World.{State, Local, bound_as, outermost}
use Rattle.clos_meaning.specs.clos_world.declared.condition.Stop.{Stop}
use Rattle.clos_meaning.specs.Bodies.{restoring, scoped}
use Rattle.clos_meaning.specs.Contexts.{Context}
use Rattle.clos_meaning.specs.Control.{sequence}
use Rattle.clos_meaning.specs.Meaning.{closed, meaning}
use Rattle.clos_meaning.specs.Outcome.{Out, Run, Eval, Gave, then_do, is_true}
use Rattle.clos_meaning.specs.Variables.{within}
use Rattle.clos_machine.specs.Machine.{Leads, after, at, below, denote, ends_body, followed, given_to, gives_last, inside, is_end, none_left, resume}
use Rattle.clos_machine.specs.declared.machine.Control.{Control}
use Rattle.clos_machine.specs.declared.machine.Control.TheVariants.{Progn, Prog1, If, When, Unless, And, Or}
use Rattle.clos_machine.specs.declared.machine.Doing.{Doing}
use Rattle.clos_machine.specs.declared.machine.Doing.TheVariants.{Start}
use Rattle.clos_machine.specs.declared.machine.Frame.{Frame}
use Rattle.clos_machine.specs.declared.machine.Frame.TheVariants.{Rest, Keep, Clause, Collect, Body, Bind, Scope, InOrder, Aside, Count, Turn, Setq, Setf, Changed, Default, Filled, Updated, Truth, Slots}
use Rattle.clos_machine.specs.declared.machine.Level.{Level}
use Rattle.clos_machine.specs.declared.machine.Machine.{Machine}
use Rattle.clos_machine.proofs.Turns.{leads_same, then_gave, then_then}

-- whether the last of some levels is an end
abbrev end_in : Option Level → Bool
end_in None = false
end_in (Some l) = is_end l.frame

last_is : (l : Level) (ls : List Level) → slice_get (ls ++ l ∷ []) (length ls) ≡ Some l
last_is l [] = refl
last_is l (x ∷ ls) = last_is l ls

last_on_top : (ls : List Level) → end_in (slice_get (reverse ls) (length (reverse ls) - 1)) ≡ ends_body ls
last_on_top [] = refl
last_on_top (l ∷ ls) =
    ap (λ xs. end_in (slice_get xs (length xs - 1))) (reverse-append (l ∷ []) ls)
    ∙ ap (λ n. end_in (slice_get (reverse ls ++ l ∷ []) n)) (omega (arith, length-append (reverse ls) (l ∷ [])))
    ∙ ap end_in (last_is l (reverse ls))

-- the last of the levels in the vector is the one on top
pub end_on_top : (ls : List Level) (o : Option Level) → o ≡ slice_get ls (length ls - 1) → end_in o ≡ ends_body (reverse ls)
end_on_top ls o h =
    ap end_in h ∙ ap (λ xs. end_in (slice_get xs (length xs - 1))) (sym (reverse-reverse ls)) ∙ last_on_top (reverse ls)

-- an end has no forms left
pub record End (f : Frame) : Type 0 where
  pub saved : Context
  pub locals : List Local
  pub is : f ≡ Body nil saved locals

end_of_body : (rest : Forms) (saved : Context) (locals : List Local) → none_left rest ≡ true → End (Body rest saved locals)
end_of_body nil saved locals h = record { saved = saved; locals = locals; is = refl }
end_of_body (cons f fs) saved locals h = absurd (cc h)

end_has : (f : Frame) → is_end f ≡ true → End f
end_has (Rest c fs) h = absurd (cc h)
end_has (Keep fs v) h = absurd (cc h)
end_has (Clause fs cs) h = absurd (cc h)
end_has (Collect action rest values) h = absurd (cc h)
end_has (Body rest saved locals) h = end_of_body rest saved locals h
end_has (Bind b) h = absurd (cc h)
end_has (Scope outer rest) h = absurd (cc h)
end_has (InOrder outer name plan forms) h = absurd (cc h)
end_has (Aside b) h = absurd (cc h)
end_has (Count l) h = absurd (cc h)
end_has (Turn l counter rest) h = absurd (cc h)
end_has (Setq f place rest) h = absurd (cc h)
end_has (Setf rest) h = absurd (cc h)
end_has (Changed p t vs amount) h = absurd (cc h)
end_has (Default c e place vs) h = absurd (cc h)
end_has (Filled f) h = absurd (cc h)
end_has (Updated i v) h = absurd (cc h)
end_has Truth h = absurd (cc h)
end_has (Slots f rest) h = absurd (cc h)

-- in tail position a change of the variables is nothing, and neither is the context
in_tail : (ls : List Level) (env env' : Context) (o : Out) (change : List Local → List Local) → ends_body ls ≡ true
    → resume ls env (then_do o (λ v w s. Gave v (bound_as (change w.locals) w) s)) ≡ resume ls env' o
in_tail [] env env' o change h = absurd (cc h)
in_tail (l ∷ ls) env env' o change h =
    let e : End l.frame = end_has l.frame h in
    let then_changed : Out = then_do o (λ v w s. Gave v (bound_as (change w.locals) w) s) in
    subst (λ f. resume ls (below env f) (then_do then_changed (after (meaning l.room) env f)) ≡ resume ls (below env' f) (then_do o (after (meaning l.room) env' f)))
    (sym e.is)
    (ap (resume ls e.saved) (then_then o (λ v w s. Gave v (bound_as (change w.locals) w) s) (restoring e.locals)))

-- after the last form of a body nothing more is done
pub last_of : (ev : Eval) (env : Context) (rest : Forms) (o : Out) → none_left rest ≡ true → then_do o (sequence ev env rest) ≡ o
last_of ev env nil o h = then_gave o
last_of ev env (cons f fs) o h = absurd (cc h)

-- a body begins in its own context and with its own variables
pub entered : (m : Machine) (env env' saved : Context) (ls ls' outer : List Local) (f : Form) (rest : Forms) (v : Val) (run : Run) (w : State)
    (r : Result Doing Stop) (n : Machine) → saved ≡ m.context → outer ≡ m.locals → env' ≡ env → ls' ≡ ls
    → ((t : ℕ) → then_do (then_do (meaning m.room env f (bound_as ls w) t) (sequence (meaning m.room) env rest)) (restoring m.locals) ≡ run (at m w) t)
    → Leads (given_to (record m { context = env'; locals = ls' }) (Body (cons f rest) saved outer) v) w r n → Leads (inside m run) w r n
entered m env env' saved ls ls' outer f rest v run w r n is_saved is_outer is_env is_ls h =
    leads_same (given_to (record m { context = env'; locals = ls' }) (Body (cons f rest) saved outer) v) (inside m run) w r n
    (λ t. (λ i. closed (resume m.levels (is_saved i)
    (then_do (then_do (meaning m.room (is_env i) f (bound_as (is_ls i) w) t) (sequence (meaning m.room) (is_env i) rest)) (restoring (is_outer i)))))
    ∙ ap (λ o. closed (resume m.levels m.context o)) (h t))

-- the same in tail position, of a form alone
pub entered_last : (m : Machine) (env : Context) (ls : List Local) (f : Form) (run : Run) (w : State) → ends_body m.levels ≡ true
    → ((t : ℕ) → scoped (meaning m.room env f) ls (at m w) t ≡ run (at m w) t)
    → (t : ℕ) → denote (record m { context = env; locals = ls }) (Start f) w t ≡ inside m run w t
entered_last m env ls f run w e h t =
    ap closed (sym (in_tail m.levels m.context env (meaning m.room env f (bound_as ls w) t) (λ all. m.locals) e) ∙ ap (resume m.levels m.context) (h t))

-- the last form of a body in tail position
pub begun_last : (m : Machine) (f : Form) (rest : Forms) (saved : Context) (outer : List Local) (v : Val) (w : State) → none_left rest ≡ true → ends_body m.levels ≡ true
    → (t : ℕ) → denote m (Start f) w t ≡ given_to m (Body (cons f rest) saved outer) v w t
begun_last m f rest saved outer v w h e t =
    let o : Out = meaning m.room m.context f (at m w) t in
    sym (ap closed
    (ap (λ x. resume m.levels saved (then_do x (restoring outer))) (last_of (meaning m.room) m.context rest o h)
    ∙ in_tail m.levels saved m.context o (λ all. outer) e))

-- the last form within names that are gone after it, in tail position
pub within_last : (m : Machine) (outer : ℕ) (f : Form) (rest : Forms) (v : Val) (run : Run) (w : State) → none_left rest ≡ true → ends_body m.levels ≡ true
    → ((t : ℕ) → within (meaning m.room) m.context outer (cons f rest) v (at m w) t ≡ run (at m w) t)
    → (t : ℕ) → denote m (Start f) w t ≡ inside m run w t
within_last m outer f rest v run w h e k t =
    let o : Out = meaning m.room m.context f (at m w) t in
    ap closed
    (sym (ap (λ x. resume m.levels m.context (then_do x (λ v w s. Gave v (bound_as (outermost outer w.locals) w) s))) (last_of (meaning m.room) m.context rest o h)
    ∙ in_tail m.levels m.context m.context o (outermost outer) e)
    ∙ ap (resume m.levels m.context) (k t))

-- what follows the last form, where its value is given as it is
followed_last : (ev : Eval) (env : Context) (c : Control) (rest : Forms) (v : Val) (w : State) (s : ℕ) → gives_last c ≡ true → none_left rest ≡ true
    → followed ev env c rest v w s ≡ Gave v w s
followed_last ev env c (cons f fs) v w s g h = absurd (cc h)
followed_last ev env Progn nil v w s g h = refl
followed_last ev env Prog1 nil v w s g h = refl
followed_last ev env If nil v w s g h = absurd (cc g)
followed_last ev env When nil v w s g h = absurd (cc g)
followed_last ev env Unless nil v w s g h = absurd (cc g)
followed_last ev env And nil v w s g h = elim (is_true v) as (λ b. (if b then Gave v w s else Gave v w s) ≡ Gave v w s) [ true ↦ refl | false ↦ refl ]
followed_last ev env Or nil v w s g h = elim (is_true v) as (λ b. (if b then Gave v w s else Gave v w s) ≡ Gave v w s) [ true ↦ refl | false ↦ refl ]

-- so its own value is the whole's
pub last_alone : (ev : Eval) (env : Context) (c : Control) (rest : Forms) (o : Out) → gives_last c ≡ true → none_left rest ≡ true
    → then_do o (followed ev env c rest) ≡ o
last_alone ev env c rest o g h = (λ i. then_do o (λ v w s. followed_last ev env c rest v w s g h i)) ∙ then_gave o
