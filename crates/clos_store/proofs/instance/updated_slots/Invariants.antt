use Rattle.std.proofs.Common.{◌≡◌, ◌++◌, length, map}
use Rattle.clos_store.specs.Store.{if_bound}
use Rattle.clos_store.specs.Update.{slot_of}
use Rattle.clos_store.proofs.instance.updated_slots.Given as goal

abbrev pub invariant-loop-name : goal.invariant-loop-name
invariant-loop-name l =
    l.slots.items ++ map (λ n. if_bound (slot_of l.fn.cells l.fn.instance n)) l.left ≡ map (λ n. if_bound (slot_of l.fn.cells l.fn.instance n)) l.fn.names

abbrev pub decreases-loop-name : goal.decreases-loop-name
decreases-loop-name l = length l.left
