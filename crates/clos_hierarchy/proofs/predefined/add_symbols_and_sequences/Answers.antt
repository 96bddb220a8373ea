use Rattle.std.proofs.Common.{List, [], ◌∷◌, refl}
use Rattle.std.specs.Prelude.{codes}
use Rattle.clos_hierarchy.specs.Initial.{Row}
use Rattle.clos_hierarchy.proofs.Listed.{stepped}
use Rattle.clos_hierarchy.proofs.predefined.add_symbols_and_sequences.Goals as goal

abbrev left_8 : List Row
left_8 = []

abbrev left_7 : List Row
left_7 = (codes "ARRAY", codes "T" ∷ []) ∷ left_8

abbrev left_6 : List Row
left_6 = (codes "VECTOR", codes "ARRAY" ∷ codes "SEQUENCE" ∷ codes "T" ∷ []) ∷ left_7

abbrev left_5 : List Row
left_5 = (codes "STRING", codes "VECTOR" ∷ codes "ARRAY" ∷ codes "SEQUENCE" ∷ codes "T" ∷ []) ∷ left_6

abbrev left_4 : List Row
left_4 = (codes "CONS", codes "LIST" ∷ codes "SEQUENCE" ∷ codes "T" ∷ []) ∷ left_5

abbrev left_3 : List Row
left_3 = (codes "SEQUENCE", codes "T" ∷ []) ∷ left_4

abbrev left_2 : List Row
left_2 = (codes "LIST", codes "SEQUENCE" ∷ codes "T" ∷ []) ∷ left_3

abbrev left_1 : List Row
left_1 = (codes "SYMBOL", codes "T" ∷ []) ∷ left_2

pub returns-clause-defined : goal.returns-clause-defined
returns-clause-defined c =
    stepped c.args.definitions.now c.add.new.definitions c.add-8.new.definitions (codes "NULL", codes "SYMBOL" ∷ codes "LIST" ∷ codes "SEQUENCE" ∷ codes "T" ∷ []) left_1 c.in_ok-add.ensures.defined
    (stepped c.add.new.definitions c.add-2.new.definitions c.add-8.new.definitions (codes "SYMBOL", codes "T" ∷ []) left_2 c.in_ok-add-2.ensures.defined
    (stepped c.add-2.new.definitions c.add-3.new.definitions c.add-8.new.definitions (codes "LIST", codes "SEQUENCE" ∷ codes "T" ∷ []) left_3 c.in_ok-add-3.ensures.defined
    (stepped c.add-3.new.definitions c.add-4.new.definitions c.add-8.new.definitions (codes "SEQUENCE", codes "T" ∷ []) left_4 c.in_ok-add-4.ensures.defined
    (stepped c.add-4.new.definitions c.add-5.new.definitions c.add-8.new.definitions (codes "CONS", codes "LIST" ∷ codes "SEQUENCE" ∷ codes "T" ∷ []) left_5 c.in_ok-add-5.ensures.defined
    (stepped c.add-5.new.definitions c.add-6.new.definitions c.add-8.new.definitions (codes "STRING", codes "VECTOR" ∷ codes "ARRAY" ∷ codes "SEQUENCE" ∷ codes "T" ∷ []) left_6 c.in_ok-add-6.ensures.defined
    (stepped c.add-6.new.definitions c.add-7.new.definitions c.add-8.new.definitions (codes "VECTOR", codes "ARRAY" ∷ codes "SEQUENCE" ∷ codes "T" ∷ []) left_7 c.in_ok-add-7.ensures.defined
    (stepped c.add-7.new.definitions c.add-8.new.definitions c.add-8.new.definitions (codes "ARRAY", codes "T" ∷ []) left_8 c.in_ok-add-8.ensures.defined refl)))))))
