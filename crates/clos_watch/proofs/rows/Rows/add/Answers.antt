use Rattle.std.proofs.Common.{◌≡◌, List, ℕ, ap, arith, length, map, ◌∙◌}
use Rattle.std.specs.Prelude.{◌==◌, if◌then◌else◌}
use Rattle.std.proofs.lemmas.List.{length-map}
use Rattle.clos_watch.specs.Watching.{row_at, with_place}
use Rattle.clos_watch.proofs.Places.{on_err, set_row, set_same}
use Rattle.clos_watch.proofs.rows.Rows.add.Goals as goal

pub returns-in_err-insert-clause-err : goal.returns-in_err-insert-clause-err
returns-in_err-insert-clause-err c =
    let l : length (map (λ s. s.keys) c.self.inside.rows.items) ≡ length c.reach.new.self = ap length c.self.view_is in
    let m : length (map (λ s. s.keys) c.self.inside.rows.items) ≡ length c.self.inside.rows.items = length-map c.self.inside.rows.items (λ s. s.keys) in
    on_err c.from_residual-in_err-insert.result _ (λ n.
    set_same (λ s. s.keys) c.self.inside.rows.items c.args.number c.index_mut.result.now c.insert.new.self (omega (arith, l, m, c.in_ok-reach.ensures.reached)) c.index_mut.ensures.value c.in_err-insert.ensures.err n
    ∙ ap (λ (rows : List (List ℕ)). row_at rows n) c.self.view_is ∙ c.in_ok-reach.ensures.same n)

pub returns-clause-ok : goal.returns-clause-ok
returns-clause-ok c = λ n.
    let l : length (map (λ s. s.keys) c.self.inside.rows.items) ≡ length c.reach.new.self = ap length c.self.view_is in
    let m : length (map (λ s. s.keys) c.self.inside.rows.items) ≡ length c.self.inside.rows.items = length-map c.self.inside.rows.items (λ s. s.keys) in
    set_row (λ s. s.keys) (λ xs. with_place xs c.args.place) c.self.inside.rows.items c.args.number c.index_mut.result.now c.insert.new.self (omega (arith, l, m, c.in_ok-reach.ensures.reached)) c.index_mut.ensures.value c.in_ok-insert.ensures.keys n
    ∙ ap (λ (rows : List (List ℕ)). if c.args.number == n then with_place (row_at rows n) c.args.place else row_at rows n) c.self.view_is
    ∙ ap (λ (xs : List ℕ). if c.args.number == n then with_place xs c.args.place else xs) (c.in_ok-reach.ensures.same n)
