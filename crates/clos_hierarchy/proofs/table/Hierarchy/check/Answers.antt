use Rattle.std.proofs.Common.{◌≡◌, map, subst}
use Rattle.std.proofs.lemmas.Result.{IfOk-weaker}
use Rattle.clos_hierarchy.specs.Classes.{listing, with_class}
use Rattle.clos_hierarchy.specs.Table.{or_standard}
use Rattle.clos_hierarchy.proofs.table.Hierarchy.check.Goals as goal

pub returns-clause-lists : goal.returns-clause-lists
returns-clause-lists c =
    IfOk-weaker c.check_place.result _ _
    (λ r h. subst (λ t. r.listings ≡ map (λ n. listing (with_class t.classes c.args.name.now (or_standard c.args.superclasses.items)) n) r.touched) c.self.view_is
    (subst (λ above. r.listings ≡ map (λ n. listing (with_class c.self.inside.definitions c.args.name.now above) n) r.touched) c.in_ok-above.ensures (h c.self.invariant.0)))
    c.check_place.ensures.lists
