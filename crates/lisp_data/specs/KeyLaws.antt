-- The laws of `==` and of hashing for names, values and data.
use Rattle.std.proofs.Common.{◌≡◌, Bool, true, false, ap, ◌∙◌, sym, refl, true≢false}
use Rattle.std.specs.Prelude.{IsTrue}
use Rattle.std.specs.Bool.{Decides}
use Rattle.std.specs.Cmp.{IsEquivalence, decided, first_so, second_so}
use Rattle.std.specs.Str.{bytes_eq}
use Rattle.std.proofs.lemmas.Slice.Eq.{bytes_eq-Decides}
use Rattle.lisp_data.specs.Name.{Name, same_kind, same_name}
use Rattle.lisp_data.specs.Value.{Val}
use Rattle.lisp_data.specs.inner.ValueCode.{value_code}
use Rattle.lisp_data.specs.Datum.{Dat}
use Rattle.lisp_data.specs.inner.DatumCode.{datum_code}
use Rattle.lisp_data.specs.Keys.{same_value, same_datum, value_writes, datum_writes, name_writes}
use Rattle.lisp_data.specs.Same.{both_so, same-Decides}

kinds_alike : (a b : Bool) → same_kind a b ≡ true → a ≡ b
kinds_alike true true h = refl
kinds_alike false false h = refl
kinds_alike true false h = absurd (true≢false (sym h))
kinds_alike false true h = absurd (true≢false (sym h))

kind_itself : (a : Bool) → same_kind a a ≡ true
kind_itself true = refl
kind_itself false = refl

from_same_name : (a b : Name) → same_name a b ≡ true → a ≡ b
from_same_name a b h = λ i. record {
  text = (bytes_eq-Decides a.text b.text).0 (second_so (same_kind a.keyword b.keyword) (bytes_eq a.text b.text) h) i;
  keyword = kinds_alike a.keyword b.keyword (first_so (same_kind a.keyword b.keyword) (bytes_eq a.text b.text) h) i;
}

to_same_name : (a b : Name) → a ≡ b → same_name a b ≡ true
to_same_name a b p =
    ap (λ c. same_name a c) (sym p)
    ∙ both_so (same_kind a.keyword a.keyword) (bytes_eq a.text a.text) (kind_itself a.keyword) ((bytes_eq-Decides a.text a.text).1 refl)

pub same_name-Decides : (a b : Name) → Decides (same_name a b) (a ≡ b)
same_name-Decides a b = (from_same_name a b, to_same_name a b)

pub names_equiv : IsEquivalence same_name
names_equiv = decided same_name same_name-Decides

pub values_equiv : IsEquivalence same_value
values_equiv = decided same_value (same-Decides value_code)

pub data_equiv : IsEquivalence same_datum
data_equiv = decided same_datum (same-Decides datum_code)

pub names_feed : (a b : Name) → IsTrue (same_name a b) → name_writes a ≡ name_writes b
names_feed a b h = ap name_writes (from_same_name a b h)

pub values_feed : (v w : Val) → IsTrue (same_value v w) → value_writes v ≡ value_writes w
values_feed v w h = ap value_writes ((same-Decides value_code v w).0 h)

pub data_feed : (d e : Dat) → IsTrue (same_datum d e) → datum_writes d ≡ datum_writes e
data_feed d e h = ap datum_writes ((same-Decides datum_code d e).0 h)
