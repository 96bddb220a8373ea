-- The parts and shapes that the code's stand for.
use Rattle.std.specs.Prelude.{map}
use Rattle.lisp_data.specs.DatumView.{datum_of}
use Rattle.clos_forms.specs.Part as of
use Rattle.clos_forms.specs.OperatorView.{operator_of}
use Rattle.clos_forms.specs.declared.part.Part.{Part}
use Rattle.clos_forms.specs.declared.part.Shape.{Shape}

-- the same role, with the datum to which the code refers
abbrev pub part_of : Part → of.Part
part_of p = record { role = p.role; datum = datum_of p.datum.now }

-- the operator and the parts that the code's stand for, in the same order
abbrev pub shape_told : Shape → of.Shape
shape_told s = record { operator = operator_of s.operator; parts = map part_of s.parts.items }
