use Rattle.std.proofs.Common.{◌≡◌, List, ℕ, true, ap, arith, length, map, subst, sym}
use Rattle.std.specs.Prelude.{slice_set}
use Rattle.std.proofs.lemmas.List.{length-map}
use Rattle.clos_precedence.specs.Precedence.{has}
use Rattle.clos_hierarchy.specs.inner.Below.{Grows}
use Rattle.clos_hierarchy.proofs.Under.{grows_set, grows_through, inserted_keeps, inserted_there, there}
use Rattle.clos_hierarchy.proofs.below.Below.note.Goals as goal

pub returns-in_err-insert-clause-grows : goal.returns-in_err-insert-clause-grows
returns-in_err-insert-clause-grows c =
    grows_through c.args.self.now c.reach.new.self (map (λ s. s.keys) (slice_set c.self.inside.rows.items c.args.row c.insert.new.self)) c.in_ok-reach.ensures.grows
    (subst (λ (v : List (List ℕ)). Grows v (map (λ s. s.keys) (slice_set c.self.inside.rows.items c.args.row c.insert.new.self))) c.self.view_is
    (grows_set (λ s. s.keys) c.self.inside.rows.items c.args.row c.index_mut.result.now c.insert.new.self c.index_mut.ensures.value
    (λ k h. subst (λ (ks : List ℕ). has ks k ≡ true) (sym c.in_err-insert.ensures.err) h)))

pub returns-clause-grows : goal.returns-clause-grows
returns-clause-grows c =
    grows_through c.args.self.now c.reach.new.self (map (λ s. s.keys) (slice_set c.self.inside.rows.items c.args.row c.insert.new.self)) c.in_ok-reach.ensures.grows
    (subst (λ (v : List (List ℕ)). Grows v (map (λ s. s.keys) (slice_set c.self.inside.rows.items c.args.row c.insert.new.self))) c.self.view_is
    (grows_set (λ s. s.keys) c.self.inside.rows.items c.args.row c.index_mut.result.now c.insert.new.self c.index_mut.ensures.value
    (λ k h. subst (λ (ks : List ℕ). has ks k ≡ true) (sym c.in_ok-insert.ensures.keys) (inserted_keeps c.index_mut.result.now.keys c.args.class.0 k h))))

pub returns-clause-noted : goal.returns-clause-noted
returns-clause-noted c =
    let l : length (map (λ s. s.keys) c.self.inside.rows.items) ≡ length c.reach.new.self = ap length c.self.view_is in
    let m : length (map (λ s. s.keys) c.self.inside.rows.items) ≡ length c.self.inside.rows.items = length-map c.self.inside.rows.items (λ s. s.keys) in
    subst (λ (ks : List ℕ). has ks c.args.class.0 ≡ true) (sym (there (λ s. s.keys) c.self.inside.rows.items c.args.row c.insert.new.self (omega (arith, l, m, c.in_ok-reach.ensures.reached))))
    (subst (λ (ks : List ℕ). has ks c.args.class.0 ≡ true) (sym c.in_ok-insert.ensures.keys) (inserted_there c.index_mut.result.now.keys c.args.class.0))
