-- What `equal` and `equal_data` answer, as the tests behind `==`.
use Rattle.std.proofs.Common.{◌≡◌, ◌↔◌, Bool}
use Rattle.std.specs.Prelude.{IsTrue}
use Rattle.std.specs.Bool.{one_answer}
use Rattle.lisp_data.specs.Value.{Val}
use Rattle.lisp_data.specs.inner.ValueCode.{value_code}
use Rattle.lisp_data.specs.Datum.{Dat}
use Rattle.lisp_data.specs.inner.DatumCode.{datum_code}
use Rattle.lisp_data.specs.Keys.{same_value, same_datum}
use Rattle.lisp_data.specs.Same.{same-Decides}

pub value_answer : (r : Bool) (v w : Val) → (IsTrue r ↔ (v ≡ w)) → r ≡ same_value v w
value_answer r v w h = one_answer r (same_value v w) (h.0, h.1) (same-Decides value_code v w)

pub datum_answer : (r : Bool) (d e : Dat) → (IsTrue r ↔ (d ≡ e)) → r ≡ same_datum d e
datum_answer r d e h = one_answer r (same_datum d e) (h.0, h.1) (same-Decides datum_code d e)
