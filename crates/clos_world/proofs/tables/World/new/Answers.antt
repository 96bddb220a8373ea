use Rattle.std.proofs.Common.{ap, subst, sym, ◌∙◌}
use Rattle.clos_generic.specs.Table.{Table}
use Rattle.clos_generic.specs.TableView.{AreThere}
use Rattle.clos_world.specs.Hearing.{hearing_of}
use Rattle.clos_world.specs.Initial.{initial}
use Rattle.clos_world.specs.Kept.{AreNow}
use Rattle.clos_world.specs.World.{State}
use Rattle.clos_world.proofs.Kept.{none_kept}
use Rattle.clos_world.proofs.Methods.{first_there}
use Rattle.clos_world.proofs.tables.World.new.Goals as goal

pub returns-clause-seen : goal.returns-clause-seen
returns-clause-seen c =
    let i : State = initial c.args.limits c.args.dependents.items in
    let later : State =
    record i {
      generics = c.in_ok-generics.generics.table;
      combinations = c.in_ok-combinations.combinations;
      functions = c.new-5.result;
      setters = c.new-6.result;
      globals = c.new-7.result;
      hearing = hearing_of c.new-8.result;
      written = c.new-9.result.items;
    } in
    ap (λ o. record later { classes = o.classes; store = o.contents }) c.in_ok-objects.ensures
    ∙ ap (λ x. record later { generics = x }) c.in_ok-generics.ensures
    ∙ ap (λ x. record later { generics = i.generics; combinations = x }) c.in_ok-combinations.ensures.table
    ∙ ap (λ x. record i {
      functions = x;
      setters = c.new-6.result;
      globals = c.new-7.result;
      hearing = hearing_of c.new-8.result;
      written = c.new-9.result.items;
    }) c.new-5.ensures
    ∙ ap (λ x. record i { setters = x; globals = c.new-7.result; hearing = hearing_of c.new-8.result; written = c.new-9.result.items }) c.new-6.ensures
    ∙ ap (λ x. record i { globals = x; hearing = hearing_of c.new-8.result; written = c.new-9.result.items }) c.new-7.ensures
    ∙ ap (λ x. record i { hearing = x; written = c.new-9.result.items }) c.new-8.ensures
    ∙ ap (λ x. record i { written = x }) c.new-9.ensures.items

pub invariant_of-result : goal.invariant_of-result
invariant_of-result c = record {
  kept = subst (λ es. ∥ AreNow c.in_ok-objects.objects.classes c.in_ok-generics.generics.table c.in_ok-combinations.combinations es ∥₁)
      (sym c.new-4.ensures)
      (none_kept c.in_ok-objects.objects.classes c.in_ok-generics.generics.table c.in_ok-combinations.combinations
      (subst (λ (t : Table). AreThere t.functions t.methods) (sym c.in_ok-generics.ensures)
      (first_there c.args.limits.generics c.args.limits.methods)));
}
