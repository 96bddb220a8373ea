use Rattle.std.proofs.Common.{rules, ap, sym, ◌∙◌}
use Rattle.std.specs.HashMap.{get}
use Rattle.std.specs.List.{flat_map}
use Rattle.lisp_data.specs.Name.{same_name}
use Rattle.clos_precedence.specs.PrecedenceView.{numbers}
use Rattle.clos_class.specs.Slots.{called, specifiers}
use Rattle.clos_class.specs.SlotsView.{slots_in}
use Rattle.clos_class.specs.inner.Building.{or_no_names, with_names}
use Rattle.clos_class.proofs.Added.{more_initargs}
use Rattle.clos_class.proofs.Gathered.{from_none}
use Rattle.clos_class.proofs.slot_initargs.all_initargs.Goals as goal

pub loop-class-init : goal.loop-class-init
loop-class-init c = λ n. from_none (get same_name c.new-found.result n) (flat_map (λ s. s.initargs) (specifiers (slots_in c.args.classes.now) (numbers c.args.list.now) n)) (search rules)

pub loop-class-preserved : goal.loop-class-preserved
loop-class-preserved c = λ n.
    more_initargs n (or_no_names (get same_name c.loop-class.found n)) (or_no_names (get same_name c.add_all.new.found n)) (slots_in c.args.classes.now c.in-Some.class.now.0)
    (flat_map (slots_in c.args.classes.now) (numbers c.in-Some.others.now))
    (c.in_ok-add_all.ensures n ∙ ap (λ ss. with_names (or_no_names (get same_name c.loop-class.found n)) (flat_map (λ s. s.initargs) (called n ss))) c.slots.ensures)
    ∙ ap (λ cs. with_names (or_no_names (get same_name c.loop-class.found n)) (flat_map (λ s. s.initargs) (specifiers (slots_in c.args.classes.now) (numbers cs) n))) (sym c.in-Some.ensures.cases.0)
    ∙ c.loop-class.invariant n
