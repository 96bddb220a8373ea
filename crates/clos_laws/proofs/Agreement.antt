-- Sessions in one state reply the same.
use Rattle.std.proofs.Common.{◌≡◌, ℕ, List, ◌++◌, Some, ap, sym, subst, ◌∙◌}
use Rattle.std.proofs.lemmas.List.{append_cancel_left}
use Rattle.std.specs.Prelude.{ℤ}
use Rattle.lisp_data.specs.ValueView.{value_of}
use Rattle.lisp_data.specs.Value.{Val}
use Rattle.clos_session.specs.clos_perform.Step.{step}
use Rattle.clos_session.specs.clos_machine.clos_meaning.Host.{Host, answered_by}
use Rattle.clos_session.specs.clos_machine.clos_meaning.Outcome.{End, Given, Out, Signalled, ends_in}
use Rattle.clos_session.specs.clos_world.Condition.{number_of}
use Rattle.clos_session.specs.clos_world.World.{State}
use Rattle.clos_session.specs.clos_world.declared.condition.Condition.{Condition as Signal}
use Rattle.clos_session.specs.declared.session.Reply.TheVariants.{Value, Condition, Storage}
use Rattle.clos_laws.specs.Agreement.{RepliesAgree}

-- the answers that came after the same ones are the same
used_same : (past after xs ys : List ℤ) → after ≡ past ++ xs → after ≡ past ++ ys → xs ≡ ys
used_same past after xs ys h g = append_cancel_left past xs ys (sym h ∙ g)

-- by the same answers it ends the same
one_end : (host : Host) (o : Out) (xs ys : List ℤ) (a b : End) → xs ≡ ys → answered_by host o xs ≡ Some a → answered_by host o ys ≡ Some b → a ≡ b
one_end host o xs ys a b e h g = let p : answered_by host o xs ≡ answered_by host o ys = ap (answered_by host o) e in cc

both_given : (v x : Val) (w u : State) (s k : ℕ) → Given v w s ≡ Given x u k → (v ≡ x) × (w ≡ u)
both_given v x w u s k h = (cc, cc)

both_signalled : (c d : Signal) (w u : State) (s k : ℕ) → Signalled c w s ≡ Signalled d u k → (c ≡ d) × (w ≡ u)
both_signalled c d w u s k h = (cc, cc)

one_state : (e : End) (w u : State) → ends_in e w 0 → ends_in e u 0 → w ≡ u
one_state (Given v t s) w u h g = sym h.0 ∙ g.0
one_state (Signalled c t s) w u h g = sym h.0 ∙ g.0

pub replies_agree : RepliesAgree
replies_agree host d s w u t past after (Value v) (Value x) h g =
    both_given (value_of v) (value_of x) u t h.0 g.0
    (one_end host (step d w s) h.1 g.1 (Given (value_of v) u h.0) (Given (value_of x) t g.0) (used_same past after h.1 g.1 h.2 g.2) h.3 g.3)
replies_agree host d s w u t past after (Value v) (Condition n xs) h g =
    let p : Given (value_of v) u h.0 ≡ Signalled (record { kind = g.0; items = xs }) t g.1 =
    one_end host (step d w s) h.1 g.2 (Given (value_of v) u h.0) (Signalled (record { kind = g.0; items = xs }) t g.1)
    (used_same past after h.1 g.2 h.2 g.4) h.3 g.5 in cc
replies_agree host d s w u t past after (Value v) (Storage k) h g = tt
replies_agree host d s w u t past after (Condition n xs) (Value v) h g =
    let p : Signalled (record { kind = h.0; items = xs }) u h.1 ≡ Given (value_of v) t g.0 =
    one_end host (step d w s) h.2 g.1 (Signalled (record { kind = h.0; items = xs }) u h.1) (Given (value_of v) t g.0)
    (used_same past after h.2 g.1 h.4 g.2) h.5 g.3 in cc
replies_agree host d s w u t past after (Condition n xs) (Condition m ys) h g =
    let c : Signal = record { kind = h.0; items = xs } in
    let b : Signal = record { kind = g.0; items = ys } in
    let p : (c ≡ b) × (u ≡ t) =
    both_signalled c b u t h.1 g.1 (one_end host (step d w s) h.2 g.2 (Signalled c u h.1) (Signalled b t g.1) (used_same past after h.2 g.2 h.4 g.4) h.5 g.5) in
    (h.3 ∙ ap (λ y. number_of y.kind) p.0 ∙ sym g.3, ap (λ y. y.items) p.0, p.1)
replies_agree host d s w u t past after (Condition n xs) (Storage k) h g = tt
replies_agree host d s w u t past after (Storage k) (Value v) h g = tt
replies_agree host d s w u t past after (Storage k) (Condition n xs) h g = tt
replies_agree host d s w u t past after (Storage k) (Storage j) h g = λ e.
    let a = h.3 in
    let b = g.3 in
    let same : a.0 ≡ b.0 =
    one_end host (step d w k) h.0 g.0 a.0 b.0 (used_same past after h.0 g.0 h.2 g.2) a.1
    (subst (λ i. answered_by host (step d w i) g.0 ≡ Some b.0) (sym e) b.1) in
    one_state a.0 u t a.2 (subst (λ i. ends_in i t 0) (sym same) b.2)
