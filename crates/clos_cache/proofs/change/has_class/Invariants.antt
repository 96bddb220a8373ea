use Rattle.std.proofs.Common.{◌≡◌, length}
use Rattle.clos_cache.specs.Cache.{has_class}
use Rattle.clos_cache.specs.ChangeView.{numbers_of}
use Rattle.clos_cache.specs.KeyView.{arguments_in}
use Rattle.clos_cache.proofs.change.has_class.Given as goal

-- one of them is, where one of what is left of them is
abbrev pub invariant-loop-first : goal.invariant-loop-first
invariant-loop-first l = has_class (numbers_of l.fn.classes) (arguments_in l.left) ≡ has_class (numbers_of l.fn.classes)
    (arguments_in l.fn.arguments)

abbrev pub decreases-loop-first : goal.decreases-loop-first
decreases-loop-first l = length l.left
