-- What EQL finds, from what the values tell.
use Rattle.std.proofs.Common.{◌≡◌, ◌↔◌, Bool, false, Ok, sym, ap}
use Rattle.std.specs.Prelude.{IsTrue}
use Rattle.std.proofs.lemmas.Bool.Decides.{same_from_decides}
use Rattle.lisp_data.specs.Equality.{is_by_object}
use Rattle.lisp_data.specs.Keys.{same_value}
use Rattle.lisp_data.specs.Same.{same-Decides}
use Rattle.lisp_data.specs.Value.{Val}
use Rattle.lisp_data.specs.inner.ValueCode.{value_code}
use Rattle.lisp_prims.specs.Predicates.{eql_of}

pub eql_found : (v w : Val) (r : Bool) → false ≡ is_by_object v w → (IsTrue r ↔ (v ≡ w)) → eql_of (v, w) ≡ Ok r
eql_found v w r told same =
    rw (sym told) (ap Ok (same_from_decides (same_value v w) r (same-Decides value_code v w) same))
