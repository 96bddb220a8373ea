use Rattle.std.proofs.Common.{Option, List, arith, map, ap, sym, ◌∙◌}
use Rattle.std.specs.HashMap.{get}
use Rattle.lisp_data.specs.Name.{Name, same_name}
use Rattle.clos_forms.specs.Form.{Form}
use Rattle.clos_class.specs.declared.direct.SlotAllocation.{SlotAllocation}
use Rattle.clos_class.specs.declared.effective_slots.Specified.{Specified}
use Rattle.clos_class.specs.inner.Building.{no_slots, or_no_names, slot_by, with_slots}
use Rattle.clos_class.specs.SlotsView.{defaults_in, slots_in}
use Rattle.clos_class.proofs.Combined.{is_effective, own_names}
use Rattle.clos_class.proofs.effective.find_effective.Goals as goal

abbrev allocations : Specified → Name → Option SlotAllocation
allocations s n = get same_name s.allocations n

abbrev initargs : Specified → Name → List Name
initargs s n = or_no_names (get same_name s.initargs n)

abbrev initforms : Specified → Name → Option Form
initforms s n = get same_name s.initforms n

pub invariant_of-effective : goal.invariant_of-effective
invariant_of-effective c =
    let s = c.in_ok-specified.specified in
    own_names (allocations s) (initargs s) (initforms s) c.in_ok-names.names
    ∙ ap (map (λ s. s.name)) (ap (map (slot_by (allocations s) (initargs s) (initforms s))) (sym c.as_slice-2.ensures) ∙ sym c.in_ok-slots.ensures)

pub returns : goal.returns
returns c =
    let s = c.in_ok-specified.specified in record {
      kept = is_effective (slots_in c.args.classes.now) (defaults_in c.args.classes.now) c.args.list.now (allocations s) (initargs s) (initforms s) c.in_ok-names.names c.in_ok-new.field-0.value
          c.in_ok-specified.ensures.allocations c.in_ok-specified.ensures.initargs c.in_ok-specified.ensures.initforms c.in_ok-names.ensures
          (ap (λ e. e.layout) c.in_ok-new.ensures.ok ∙ c.in_ok-layout.ensures ∙ ap (with_slots (allocations s) no_slots) c.as_slice.ensures)
          (ap (λ e. e.slots) c.in_ok-new.ensures.ok ∙ c.in_ok-slots.ensures ∙ ap (map (slot_by (allocations s) (initargs s) (initforms s))) c.as_slice-2.ensures)
          (ap (λ e. e.defaults) c.in_ok-new.ensures.ok ∙ c.in_ok-defaults.ensures)
          (omega arith);
    }
