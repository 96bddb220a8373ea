use Rattle.std.proofs.Common.{List, [], ◌∷◌, refl}
use Rattle.std.specs.Prelude.{codes}
use Rattle.clos_hierarchy.specs.Initial.{Row}
use Rattle.clos_hierarchy.proofs.Listed.{stepped}
use Rattle.clos_hierarchy.proofs.predefined.add_objects_and_numbers.Goals as goal

abbrev left_6 : List Row
left_6 = []

abbrev left_5 : List Row
left_5 = (codes "NUMBER", codes "T" ∷ []) ∷ left_6

abbrev left_4 : List Row
left_4 = (codes "REAL", codes "NUMBER" ∷ codes "T" ∷ []) ∷ left_5

abbrev left_3 : List Row
left_3 = (codes "RATIONAL", codes "REAL" ∷ codes "NUMBER" ∷ codes "T" ∷ []) ∷ left_4

abbrev left_2 : List Row
left_2 = (codes "INTEGER", codes "RATIONAL" ∷ codes "REAL" ∷ codes "NUMBER" ∷ codes "T" ∷ []) ∷ left_3

abbrev left_1 : List Row
left_1 = (codes "STANDARD-OBJECT", codes "T" ∷ []) ∷ left_2

pub returns-clause-defined : goal.returns-clause-defined
returns-clause-defined c =
    stepped c.args.definitions.now c.add.new.definitions c.add-6.new.definitions (codes "T", []) left_1 c.in_ok-add.ensures.defined
    (stepped c.add.new.definitions c.add-2.new.definitions c.add-6.new.definitions (codes "STANDARD-OBJECT", codes "T" ∷ []) left_2 c.in_ok-add-2.ensures.defined
    (stepped c.add-2.new.definitions c.add-3.new.definitions c.add-6.new.definitions (codes "INTEGER", codes "RATIONAL" ∷ codes "REAL" ∷ codes "NUMBER" ∷ codes "T" ∷ []) left_3 c.in_ok-add-3.ensures.defined
    (stepped c.add-3.new.definitions c.add-4.new.definitions c.add-6.new.definitions (codes "RATIONAL", codes "REAL" ∷ codes "NUMBER" ∷ codes "T" ∷ []) left_4 c.in_ok-add-4.ensures.defined
    (stepped c.add-4.new.definitions c.add-5.new.definitions c.add-6.new.definitions (codes "REAL", codes "NUMBER" ∷ codes "T" ∷ []) left_5 c.in_ok-add-5.ensures.defined
    (stepped c.add-5.new.definitions c.add-6.new.definitions c.add-6.new.definitions (codes "NUMBER", codes "T" ∷ []) left_6 c.in_ok-add-6.ensures.defined refl)))))
