use Rattle.std.proofs.Common.{◌≡◌, ℕ, ◌<◌, true}
use Rattle.std.specs.Prelude.{slice_get}
use Rattle.lisp_data.specs.ValueView.{value_of}
use Rattle.lisp_data.specs.declared.value.Value.{Value}
use Rattle.clos_method.specs.Applicable.{is_eql_to}
use Rattle.clos_generic.specs.inner.EqlObjects.{is_noted}
use Rattle.clos_generic.proofs.eql_objects.EqlObjects.note.Given as goal

abbrev pub invariant-loop-place : goal.invariant-loop-place
invariant-loop-place l = record {
  kept : (place : ℕ) (v : Value) → is_noted l.initial.self place v ≡ true → is_noted l.self place v ≡ true;
  noted : (place : ℕ) (v : Value) → place < l.place → is_eql_to (value_of v) (slice_get l.specializers place) ≡ true
      → is_noted l.self place v ≡ true;
}
