use Rattle.std.proofs.Common.{◌≡◌, length, nat_eq}
use Rattle.std.specs.List.{list_any}
use Rattle.clos_cache.specs.ChangeView.{numbers_of}
use Rattle.clos_cache.proofs.change.is_among.Given as goal

-- it is among them where it is among what is left of them
abbrev pub invariant-loop-first : goal.invariant-loop-first
invariant-loop-first l = list_any (nat_eq l.fn.class.0) (numbers_of l.left) ≡ list_any (nat_eq l.fn.class.0)
    (numbers_of l.fn.classes)

abbrev pub decreases-loop-first : goal.decreases-loop-first
decreases-loop-first l = length l.left
