use Rattle.std.proofs.Common.{◌≡◌, ℕ, take, true}
use Rattle.std.specs.Prelude.{slice_get, vec_len, vec_capacity}
use Rattle.clos_generic.specs.inner.EqlObjects.{KeepNotes}
use Rattle.clos_generic.specs.inner.Reserved.{HasRoom, is_added}
use Rattle.clos_generic.specs.TableView.{functions_in}
use Rattle.clos_generic.proofs.functions.reserve_each.Given as goal

abbrev pub invariant-loop-place : goal.invariant-loop-place
invariant-loop-place l = record {
  same : functions_in l.functions.items ≡ functions_in l.initial.functions.items;
  rooms : (g : ℕ) → is_added g (take l.place l.ids.items) ≡ true → HasRoom l.methods (slice_get l.functions.items g);
  notes : KeepNotes l.initial.functions.items l.functions.items;
  len : vec_len l.functions ≡ vec_len l.initial.functions;
  capacity : vec_capacity l.functions ≡ vec_capacity l.initial.functions;
}
