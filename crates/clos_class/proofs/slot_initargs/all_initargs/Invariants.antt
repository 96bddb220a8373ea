use Rattle.std.proofs.Common.{◌≡◌, length}
use Rattle.std.specs.HashMap.{get}
use Rattle.std.specs.List.{flat_map}
use Rattle.lisp_data.specs.Name.{Name, same_name}
use Rattle.clos_precedence.specs.PrecedenceView.{numbers}
use Rattle.clos_class.specs.Slots.{initargs, specifiers}
use Rattle.clos_class.specs.SlotsView.{slots_in}
use Rattle.clos_class.specs.inner.Building.{or_no_names, with_names}
use Rattle.clos_class.proofs.slot_initargs.all_initargs.Given as goal

abbrev pub invariant-loop-class : goal.invariant-loop-class
invariant-loop-class l =
    (n : Name)
    → with_names (or_no_names (get same_name l.found n)) (flat_map (λ s. s.initargs) (specifiers (slots_in l.fn.classes) (numbers l.left) n))
    ≡ initargs (slots_in l.fn.classes) (numbers l.fn.list) n

abbrev pub decreases-loop-class : goal.decreases-loop-class
decreases-loop-class l = length l.left
