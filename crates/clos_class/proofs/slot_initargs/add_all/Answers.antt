use Rattle.std.proofs.Common.{◌∷◌, [], ap, sym, ◌∙◌}
use Rattle.std.specs.HashMap.{get}
use Rattle.std.specs.List.{flat_map}
use Rattle.lisp_data.specs.Name.{same_name}
use Rattle.clos_class.specs.Slots.{called}
use Rattle.clos_class.specs.inner.Building.{or_no_names, with_names}
use Rattle.clos_class.proofs.Added.{more_initargs}
use Rattle.clos_class.proofs.slot_initargs.add_all.Goals as goal

pub loop-slot-preserved : goal.loop-slot-preserved
loop-slot-preserved c = λ n.
    more_initargs n (or_no_names (get same_name c.loop-slot.found n)) (or_no_names (get same_name c.add.new.found n)) (c.in-Some.slot.now ∷ []) c.in-Some.others.now (c.in_ok-add.ensures n)
    ∙ ap (λ ss. with_names (or_no_names (get same_name c.loop-slot.found n)) (flat_map (λ s. s.initargs) (called n ss))) (sym c.in-Some.ensures.cases.0)
    ∙ c.loop-slot.invariant n
