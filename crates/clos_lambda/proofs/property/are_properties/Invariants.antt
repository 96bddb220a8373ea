use Rattle.std.proofs.Common.{◌≡◌, map}
use Rattle.lisp_data.specs.Datum.{size_of_data}
use Rattle.clos_lambda.specs.Property.{are_properties}
use Rattle.clos_lambda.proofs.property.are_properties.Given as goal

abbrev pub invariant-loop-key : goal.invariant-loop-key
invariant-loop-key l = are_properties (map (λ t. t.now) l.texts) l.rest ≡ are_properties (map (λ t. t.now) l.texts) l.properties

abbrev pub decreases-loop-key : goal.decreases-loop-key
decreases-loop-key l = size_of_data l.rest
