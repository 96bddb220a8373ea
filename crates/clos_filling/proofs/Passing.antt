-- Slots that are filled one after another.
use Rattle.std.specs.Global.{Box}
use Rattle.std.proofs.Common.{◌≡◌, ℕ, suc, ◌+◌, ◌<◌, ◌≤◌, List, [], ◌∷◌, false, Some, Result, Ok, Err, drop, get_or, length, arith, add-one, refl, ap, sym, subst, ◌∙◌}
use Rattle.std.specs.Prelude.{if◌then◌else◌}
use Rattle.std.proofs.Math.ListN.{drop_of_length-le}
use Rattle.std.proofs.Math.Seq.{drop-cons}
use Rattle.lisp_data.specs.Value.{Val}
use Rattle.lisp_data.specs.Value.{instance}
use Rattle.lisp_data.specs.declared.ids.InstanceId.{InstanceId}
use Rattle.lisp_data.specs.declared.value.Value.TheVariants.{Instance}
use Rattle.clos_forms.specs.Form.{Form}
use Rattle.clos_machine.specs.clos_world.clos_store.Store.{with_slot}
use Rattle.clos_machine.specs.clos_world.declared.condition.Condition.{Condition}
use Rattle.clos_machine.specs.clos_world.declared.condition.ConditionKind.TheVariants.{StepLimit}
use Rattle.clos_machine.specs.clos_world.declared.condition.Stop.{Stop}
use Rattle.clos_machine.specs.clos_world.declared.condition.Stop.TheVariants.{Refused}
use Rattle.clos_machine.specs.Machine.{Leads, Turns, at, denote, inside, resume, slots_left, subject_of, fill_with}
use Rattle.clos_machine.specs.clos_meaning.Contexts.{Context}
use Rattle.clos_machine.specs.clos_meaning.Meaning.{closed, meaning}
use Rattle.clos_machine.specs.declared.machine.Doing.{Doing}
use Rattle.clos_machine.specs.declared.machine.Doing.TheVariants.{Tend, Give}
use Rattle.clos_machine.specs.declared.machine.Filling.{Filling}
use Rattle.clos_machine.specs.declared.machine.InstanceTask.TheVariants.{Fill}
use Rattle.clos_machine.specs.declared.machine.Machine.{Machine}
use Rattle.clos_machine.proofs.Runs.{turns_of_leads, stops_at_once, turns_same}
use Rattle.clos_machine.proofs.Turns.{leads_same}
use Rattle.clos_class.specs.declared.effective_slots.EffectiveSlot.{EffectiveSlot}
use Rattle.clos_machine.specs.clos_world.World.{State, Local, bound_as}
use Rattle.clos_machine.specs.clos_meaning.Filling.{Filler, Subject, fill, filled_by, filler, nothing, initform}
use Rattle.clos_machine.specs.clos_meaning.Filling as filler
use Rattle.clos_machine.specs.clos_meaning.Outcome.{Gave, Stopped, Run, Eval, then_do}
use Rattle.clos_filling.specs.Fillers.{Fills, Finds, filler_in, first_filled, is_nothing, pending}
use Rattle.clos_filling.specs.declared.filling.Found.{Found}
use Rattle.clos_filling.specs.declared.filling.Found.TheVariants as found

module _ (w : State) (f : Subject) where
  -- a slot that is filled with nothing is passed over
  pub pending_goes : (slot : EffectiveSlot) (slots : List EffectiveSlot) → nothing ≡ filler w f slot → pending w f slots ≡ pending w f (slot ∷ slots)
  pending_goes slot slots e = ap (λ x. if is_nothing x then pending w f slots else slot ∷ slots) e

  something : (x : Found) → is_nothing (filler_in x) ≡ false
  something (found.Value v) = refl
  something (found.Initform g) = refl

  pub pending_stays : (slot : EffectiveSlot) (slots : List EffectiveSlot) (x : Found) → filler_in x ≡ filler w f slot → pending w f (slot ∷ slots) ≡ slot ∷ slots
  pending_stays slot slots x e =
      ap (λ y. if is_nothing y then pending w f slots else slot ∷ slots) (sym e) ∙ ap (λ b. if b then pending w f slots else slot ∷ slots) (something x)

  -- ---- the loop over the slots

  pub passed_over : (all : List EffectiveSlot) (k : ℕ) (slot : EffectiveSlot) → k < length all → slot ≡ get_or all k slot → nothing ≡ filler w f slot
      → pending w f (drop (k + 1) all) ≡ pending w f (drop k all)
  passed_over all k slot p e h =
      ap (λ n. pending w f (drop n all)) (add-one k) ∙ pending_goes slot (drop (suc k) all) h
      ∙ ap (λ s. pending w f (s ∷ drop (suc k) all)) e ∙ ap (pending w f) (sym (drop-cons all k slot p))

  pub none_left : (all : List EffectiveSlot) (k : ℕ) (xs : List EffectiveSlot) → length all ≤ k → pending w f (drop k all) ≡ pending w f xs → pending w f xs ≡ []
  none_left all k xs p e = sym e ∙ ap (pending w f) (drop_of_length-le all p)

  pub found_at : (all : List EffectiveSlot) (k : ℕ) (xs : List EffectiveSlot) (slot : EffectiveSlot) (x : Found) → k < length all → slot ≡ get_or all k slot
      → filler_in x ≡ filler w f slot → pending w f (drop k all) ≡ pending w f xs → Finds w f all xs (Some (k, x))
  found_at all k xs slot x p e h i =
      let at_k : drop k all ≡ slot ∷ drop (suc k) all = drop-cons all k slot p ∙ ap (λ s. s ∷ drop (suc k) all) (sym e) in
      (sym i ∙ ap (pending w f) at_k ∙ pending_stays slot (drop (suc k) all) x h ∙ sym at_k, subst (λ l. Fills w f l x) (sym at_k) (sym h))

  -- ---- what is filled

  module _ (ev : Eval) (env : Context) where
    by : (x : Filler) (slot : EffectiveSlot) (slots : List EffectiveSlot) (k : ℕ) → x ≡ filler w f slot
        → fill ev env f slots w k ≡ fill ev env f (pending w f slots) w k → fill ev env f (slot ∷ slots) w k ≡ fill ev env f (pending w f (slot ∷ slots)) w k
    by nothing slot slots k e h =
        ap (λ y. filled_by ev env f slot (λ u j. fill ev env f slots u j) y w k) (sym e) ∙ h ∙ ap (λ l. fill ev env f l w k) (pending_goes slot slots e)
    by (filler.value v) slot slots k e h = ap (λ l. fill ev env f l w k) (sym (ap (λ y. if is_nothing y then pending w f slots else slot ∷ slots) (sym e)))
    by (initform g) slot slots k e h = ap (λ l. fill ev env f l w k) (sym (ap (λ y. if is_nothing y then pending w f slots else slot ∷ slots) (sym e)))

    -- slots that are filled with nothing may be passed over
    pub fill_pending : (slots : List EffectiveSlot) (k : ℕ) → fill ev env f slots w k ≡ fill ev env f (pending w f slots) w k
    fill_pending [] k = refl
    fill_pending (slot ∷ slots) k = by (filler w f slot) slot slots k refl (fill_pending slots k)

    -- the next one is filled with a value
    pub fill_value : (slots : List EffectiveSlot) (x : Found) (v : Val) (k : ℕ) → filler_in x ≡ filler.value v → Fills w f slots x → first_filled ev env f slots v w k ≡ fill ev env f slots w k
    fill_value [] x v k e h = absurd h
    fill_value (slot ∷ slots) x v k e h = sym (ap (λ y. filled_by ev env f slot (λ u j. fill ev env f slots u j) y w k) (h ∙ e))

-- ---- with other variables

pub pending_bound : (ls : List Local) (w : State) (f : Subject) (slots : List EffectiveSlot) → pending (bound_as ls w) f slots ≡ pending w f slots
pending_bound ls w f [] = refl
pending_bound ls w f (slot ∷ slots) = ap (λ l. if is_nothing (filler w f slot) then l else slot ∷ slots) (pending_bound ls w f slots)

fills_bound : (ls : List Local) (w : State) (f : Subject) (slots : List EffectiveSlot) (x : Found) → Fills w f slots x → Fills (bound_as ls w) f slots x
fills_bound ls w f [] x h = h
fills_bound ls w f (slot ∷ slots) x h = h

fill_form : (ev : Eval) (env : Context) (w : State) (f : Subject) (slots : List EffectiveSlot) (g : Form) (k : ℕ) → Fills w f slots (found.Initform g)
    → then_do (ev env g w k) (λ v. fill_with ev env f slots v) ≡ fill ev env f slots w k
fill_form ev env w f [] g k h = absurd h
fill_form ev env w f (slot ∷ slots) g k h = sym (ap (λ y. filled_by ev env f slot (λ u j. fill ev env f slots u j) y w k) h)

-- ---- the turns of the machine

module _ (m : Machine) (f : Subject) where
  abbrev pub filling_slots : List EffectiveSlot → Run
  filling_slots slots = fill (meaning m.room) m.context f slots

  abbrev pub filling_first : List EffectiveSlot → Val → Run
  filling_first slots v = first_filled (meaning m.room) m.context f slots v

  to_pending : (slots : List EffectiveSlot) (all : List EffectiveSlot) (w : State) (t : ℕ) → pending w f slots ≡ all → filling_slots all (at m w) t ≡ filling_slots slots (at m w) t
  to_pending slots all w t e =
      sym (fill_pending (at m w) f (meaning m.room) m.context slots t ∙ ap (λ l. filling_slots l (at m w) t) (pending_bound m.locals w f slots ∙ e))

  pub fill_ends : (slots : List EffectiveSlot) (id : InstanceId) (w : State) (s : ℕ) → pending w f slots ≡ [] → f.instance ≡ id.0
      → Turns (inside m (filling_slots slots)) w s (Ok (Give (Instance id))) m w s
  fill_ends slots id w s e h =
      turns_of_leads (inside m (filling_slots slots)) w s (Ok (Give (Instance id))) m
      (λ t. ap (λ o. closed (resume m.levels m.context o)) (ap (λ i. Gave (instance i) (at m w) t) (sym h) ∙ to_pending slots [] w t e))

  pub fill_goes : (n : Machine) (slots all : List EffectiveSlot) (x : Found) (v : Val) (w : State) (s : ℕ) (r : Result Doing Stop) (w' : State) (s' : ℕ)
      → filler_in x ≡ filler.value v → pending w f slots ≡ all → Fills w f all x
      → Turns (inside m (filling_first all v)) w s r n w' s' → Turns (inside m (filling_slots slots)) w s r n w' s'
  fill_goes n slots all x v w s r w' s' e h k l =
      turns_same (inside m (filling_first all v)) (inside m (filling_slots slots)) w s r n w' s'
      (λ t. ap (λ o. closed (resume m.levels m.context o))
      (fill_value (at m w) f (meaning m.room) m.context all x v t e (fills_bound m.locals w f all x k) ∙ to_pending slots all w t h)) l

  pub fill_evaluates : (n : Machine) (slots all : List EffectiveSlot) (x : Found) (g : Form) (w : State) (s : ℕ) (r : Result Doing Stop)
      → x ≡ found.Initform g → pending w f slots ≡ all → Fills w f all x
      → Leads (inside m (λ u k. then_do (meaning m.room m.context g u k) (λ v. fill_with (meaning m.room) m.context f all v))) w r n
      → Turns (inside m (filling_slots slots)) w s r n w s
  fill_evaluates n slots all x g w s r e h k l =
      turns_of_leads (inside m (filling_slots slots)) w s r n
      (leads_same (inside m (λ u k. then_do (meaning m.room m.context g u k) (λ v. fill_with (meaning m.room) m.context f all v))) (inside m (filling_slots slots)) w r n
      (λ t. ap (λ o. closed (resume m.levels m.context o))
      (fill_form (meaning m.room) m.context (at m w) f all g t (fills_bound m.locals w f all (found.Initform g) (subst (Fills w f all) e k)) ∙ to_pending slots all w t h)) l)

  pub first_ends : (slots : List EffectiveSlot) (v : Val) (id : InstanceId) (w : State) (s : ℕ) → slots ≡ [] → f.instance ≡ id.0
      → Turns (inside m (filling_first slots v)) w s (Ok (Give (Instance id))) m w s
  first_ends slots v id w s e h =
      turns_of_leads (inside m (filling_first slots v)) w s (Ok (Give (Instance id))) m
      (λ t. ap (λ o. closed (resume m.levels m.context o)) (ap (λ i. Gave (instance i) (at m w) t) (sym h) ∙ ap (λ l. filling_first l v (at m w) t) (sym e)))

  pub first_no_step : (n : Machine) (slots : List EffectiveSlot) (slot : EffectiveSlot) (rest : List EffectiveSlot) (v : Val) (c : Condition) (w : State) (s : ℕ)
      → slots ≡ slot ∷ rest → s ≡ 0 → c ≡ record { kind = StepLimit; items = [] } → Turns (inside m (filling_first slots v)) w s (Err (Refused c)) n w s
  first_no_step n slots slot rest v c w s e z k =
      stops_at_once m n (filling_first slots v) w s c
      (ap (λ l. filling_first l v (at m w) s) e ∙ ap (filling_first (slot ∷ rest) v (at m w)) z ∙ ap (λ x. Stopped x (at m w) 0) (sym k) ∙ ap (Stopped c (at m w)) (sym z))

  pub first_next : (slots : List EffectiveSlot) (slot : EffectiveSlot) (rest : List EffectiveSlot) (v : Val) (g : Box Filling) (w w' : State) (s s' : ℕ)
      → slots ≡ slot ∷ rest → subject_of g.value ≡ f → slots_left g.value ≡ rest → s ≡ 1 + s' → w' ≡ record w { store = with_slot f.instance slot.name (Some v) w.store }
      → Turns (inside m (filling_first slots v)) w s (Ok (Tend (Fill g))) m w' s'
  first_next slots slot rest v g w w' s s' e i j z k = (
    1,
    z,
    λ t. ap (λ u. denote m (Tend (Fill g)) u t) k
        ∙ ap (λ o. closed (resume m.levels m.context o))
        (ap (λ x. fill (meaning m.room) m.context x (slots_left g.value) (record (at m w) { store = with_slot f.instance slot.name (Some v) w.store }) t) i
        ∙ ap (λ l. filling_slots l (record (at m w) { store = with_slot f.instance slot.name (Some v) w.store }) t) j
        ∙ ap (filling_first (slot ∷ rest) v (at m w)) (sym (one_more t)) ∙ ap (λ l. filling_first l v (at m w) (1 + t)) (sym e)),
  )
    where
      one_more : (t : ℕ) → 1 + t ≡ suc t
      one_more t = omega arith
