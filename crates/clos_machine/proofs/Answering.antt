-- Runs in which functions that the host stored may have answered.
use Rattle.std.proofs.Common.{◌≡◌, ℕ, Bool, true, false, List, [], ◌∷◌, ◌++◌, Option, Some, None, Result, Ok, Err, refl, ap, sym, subst, ◌∙◌, append-nil}
use Rattle.std.specs.Prelude.{ℤ, option_map, if◌then◌else◌}
use Rattle.lisp_data.specs.Value.{Val}
use Rattle.lisp_data.specs.declared.value.Value.{Value}
use Rattle.clos_meaning.specs.Host.{Host, answered_by, may_answer}
use Rattle.clos_meaning.specs.Outcome.{Asked, End, Gave, Given, Looked, Noted, Out, Run, Signalled, Stopped, ends_in, leaves, then_do}
use Rattle.clos_meaning.specs.clos_world.World.{State}
use Rattle.clos_meaning.specs.clos_world.declared.condition.Condition.{Condition}
use Rattle.clos_meaning.specs.clos_world.declared.condition.Stop.{Stop}
use Rattle.clos_meaning.specs.clos_world.declared.condition.Stop.TheVariants.{Refused, Storage}
use Rattle.clos_machine.specs.Machine.{Answers, AnswersWith, leaves_by}
use Rattle.clos_machine.proofs.Runs.{quiet_answered}

-- ---- what follows an outcome, with the answers that it needs

-- where it gave a value
abbrev goes_to : Host → Option End → (Val → Run) → List ℤ → Option End
goes_to host None go more = None
goes_to host (Some (Given v w s)) go more = answered_by host (go v w s) more
goes_to host (Some (Signalled c w s)) go more = None

-- an answer that may be given
pub permitted : {A : Type 0} (b : Bool) (o : Option A) (a : A) → (if b then o else None) ≡ Some a → (b ≡ true) × (o ≡ Some a)
permitted true o a h = (refl, h)
permitted false o a h = absurd (cc h)

pub answered_then : (host : Host) (o : Out) (go : Val → Run) (used more : List ℤ) (v : Val) (u : State) (k : ℕ)
    → answered_by host o used ≡ Some (Given v u k)
    → answered_by host (then_do o go) (used ++ more) ≡ answered_by host (go v u k) more
answered_then host (Gave x w s) go [] more v u k h = ap (λ y. goes_to host y go more) h
answered_then host (Gave x w s) go (y ∷ ys) more v u k h = absurd (cc h)
answered_then host (Stopped c w s) go [] more v u k h = absurd (cc h)
answered_then host (Stopped c w s) go (y ∷ ys) more v u k h = absurd (cc h)
answered_then host (Noted n o) go used more v u k h = answered_then host o go used more v u k h
answered_then host (Looked name f) go used more v u k h = answered_then host (f (option_map (λ g. g.takes) (host name))) go used
    more v u k h
answered_then host (Asked name xs f) go [] more v u k h = absurd (cc h)
answered_then host (Asked name xs f) go (y ∷ ys) more v u k h =
    let p : (may_answer (host name) xs y ≡ true) × (answered_by host (f y) ys ≡ Some (Given v u k)) =
    permitted (may_answer (host name) xs y) (answered_by host (f y) ys) (Given v u k) h in
    ap (λ b. if b then answered_by host (then_do (f y) go) (ys ++ more) else None) p.0 ∙ answered_then host (f y) go ys more v u k p.1

pub stopped_then : (host : Host) (o : Out) (go : Val → Run) (used : List ℤ) (c : Condition) (u : State) (k : ℕ)
    → answered_by host o used ≡ Some (Signalled c u k)
    → answered_by host (then_do o go) used ≡ Some (Signalled c u k)
stopped_then host (Gave x w s) go [] c u k h = absurd (cc h)
stopped_then host (Gave x w s) go (y ∷ ys) c u k h = absurd (cc h)
stopped_then host (Stopped d w s) go [] c u k h = h
stopped_then host (Stopped d w s) go (y ∷ ys) c u k h = absurd (cc h)
stopped_then host (Noted n o) go used c u k h = stopped_then host o go used c u k h
stopped_then host (Looked name f) go used c u k h = stopped_then host (f (option_map (λ g. g.takes) (host name))) go used c u k h
stopped_then host (Asked name xs f) go [] c u k h = absurd (cc h)
stopped_then host (Asked name xs f) go (y ∷ ys) c u k h =
    let p : (may_answer (host name) xs y ≡ true) × (answered_by host (f y) ys ≡ Some (Signalled c u k)) =
    permitted (may_answer (host name) xs y) (answered_by host (f y) ys) (Signalled c u k) h in
    ap (λ b. if b then answered_by host (then_do (f y) go) ys else None) p.0 ∙ stopped_then host (f y) go ys c u k p.1

some_same : (o p : End) → Some o ≡ Some p → o ≡ p
some_same o p e = cc e

-- with no step left, what follows changes nothing
pub leaves_then : (host : Host) (o : Out) (go : Val → Run) (used : List ℤ) (u : State) → leaves_by host o used u 0
    → ((v : Val) → leaves (go v u 0) u 0) → leaves_by host (then_do o go) used u 0
leaves_then host (Gave x w s) go [] u h q =
    let l : (w ≡ u) × (s ≡ 0) = subst (λ o. ends_in o u 0) (sym (some_same (Given x w s) h.0 h.1)) h.2 in
    quiet_answered host (go x w s) u 0 (subst (λ y. leaves (go x y s) u 0) (sym l.0) (subst (λ i. leaves (go x u i) u 0) (sym l.1) (q x)))
leaves_then host (Gave x w s) go (y ∷ ys) u h q = absurd (cc h.1)
leaves_then host (Stopped c w s) go [] u h q = h
leaves_then host (Stopped c w s) go (y ∷ ys) u h q = absurd (cc h.1)
leaves_then host (Noted n o) go used u h q = leaves_then host o go used u h q
leaves_then host (Looked name f) go used u h q = leaves_then host (f (option_map (λ g. g.takes) (host name))) go used u h q
leaves_then host (Asked name xs f) go [] u h q = absurd (cc h.1)
leaves_then host (Asked name xs f) go (y ∷ ys) u h q =
    let p : (may_answer (host name) xs y ≡ true) × (answered_by host (f y) ys ≡ Some h.0) = permitted (may_answer (host name) xs y)
    (answered_by host (f y) ys) h.0 h.1 in
    let r : leaves_by host (then_do (f y) go) ys u 0 = leaves_then host (f y) go ys u (h.0, p.1, h.2) q in
    (r.0, ap (λ b. if b then answered_by host (then_do (f y) go) ys else None) p.0 ∙ r.1, r.2)

-- ---- whole runs

-- one in which nothing was asked
pub answers_with : (host : Host) (run : Run) (w : State) (s : ℕ) (past : List ℤ) (r : Result Value Stop) (w' : State) (s' : ℕ)
    → Answers run w s r w' s' → AnswersWith host run w s past r w' s' past
answers_with host run w s past (Ok v) w' s' h = ([], sym (append-nil past), ap (λ o. answered_by host o []) h)
answers_with host run w s past (Err (Refused c)) w' s' h = ([], sym (append-nil past), ap (λ o. answered_by host o []) h)
answers_with host run w s past (Err Storage) w' s' h = ([], sym (append-nil past), h.0, h.1, quiet_answered host (run w h.0) w' 0 h.2)

-- a run that does the same from there
pub answers_as : (host : Host) (run run' : Run) (w : State) (s : ℕ) (past : List ℤ) (r : Result Value Stop) (w' : State) (s' : ℕ)
    (past' : List ℤ) → ((i : ℕ) → run w i ≡ run' w i)
    → AnswersWith host run w s past r w' s' past' → AnswersWith host run' w s past r w' s' past'
answers_as host run run' w s past (Ok v) w' s' past' e a = (a.0, a.1, ap (λ o. answered_by host o a.0) (sym (e s)) ∙ a.2)
answers_as host run run' w s past (Err (Refused c)) w' s' past' e a = (a.0, a.1, ap (λ o. answered_by host o a.0) (sym (e s)) ∙ a.2)
answers_as host run run' w s past (Err Storage) w' s' past' e a =
    (a.0, a.1, a.2, a.3, (a.4.0, ap (λ o. answered_by host o a.0) (sym (e a.2)) ∙ a.4.1, a.4.2))
