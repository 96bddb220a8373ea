use Rattle.std.proofs.Common.{◌≡◌, List, ℕ, ap, arith, length, map, ◌∙◌}
use Rattle.std.specs.Prelude.{◌==◌, if◌then◌else◌}
use Rattle.std.proofs.lemmas.List.{length-map}
use Rattle.clos_watch.specs.Watching.{row_at, without_place}
use Rattle.clos_watch.proofs.Places.{nothing_to_remove, same_removed, set_row}
use Rattle.clos_watch.proofs.rows.Rows.remove.Goals as goal

pub returns-then-number-len : goal.returns-then-number-len
returns-then-number-len c = λ n.
    set_row (λ s. s.keys) (λ xs. without_place xs c.args.place) c.self.inside.rows.items c.args.number c.index_mut.result.now c.shift_remove.new.self (omega (arith, c.if-number-len.true, c.len.ensures)) c.index_mut.ensures.value
    (c.shift_remove.ensures.keys ∙ same_removed c.index_mut.result.now.keys c.args.place) n
    ∙ ap (λ (rows : List (List ℕ)). if c.args.number == n then without_place (row_at rows n) c.args.place else row_at rows n) c.self.view_is

pub returns-else-number-len : goal.returns-else-number-len
returns-else-number-len c = λ n.
    let l : length (map (λ s. s.keys) c.self.inside.rows.items) ≡ length c.args.self.now = ap length c.self.view_is in
    let m : length (map (λ s. s.keys) c.self.inside.rows.items) ≡ length c.self.inside.rows.items = length-map c.self.inside.rows.items (λ s. s.keys) in
    nothing_to_remove c.args.self.now c.args.number c.args.place n (omega (arith, l, m, c.if-number-len.false, c.len.ensures))
