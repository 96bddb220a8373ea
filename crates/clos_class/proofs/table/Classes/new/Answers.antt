use Rattle.clos_class.specs.SlotsView.{says_nothing}
use Rattle.clos_class.proofs.Standing.{first_kept}
use Rattle.clos_class.proofs.table.Classes.new.Goals as goal

pub invariant_of-result : goal.invariant_of-result
invariant_of-result c =
    first_kept c.in_ok-table.table.classes c.in_ok-rows.rows.items c.deref.result.now says_nothing c.in_ok-kept.kept.items c.in_ok-rows.ensures c.deref.ensures.value c.in_ok-kept.ensures.len c.in_ok-kept.ensures.each
