-- Specializers (HyperSpec 7.6.2).
use Rattle.std.specs.Prelude.{◌≡◌, ℕ, ◌==◌, Bool, true, false, List, map, refl}
use Rattle.std.specs.Cmp.Lexicographic.{pointwise}
use Rattle.std.specs.Coded.{Coded, code_by, coded⊎, coded_ℕ}
use Rattle.std.proofs.Common.{◌⊎◌, inl, inr}
use Rattle.lisp_data.specs.Keys.{same_value}
use Rattle.lisp_data.specs.Print.{Specializer, on_class, on_eql}
use Rattle.lisp_data.specs.Value.{Val, string, list, cons}
use Rattle.lisp_data.specs.inner.ValueCode.{value_code}
use Rattle.lisp_data.specs.ValueView.{value_of}
use Rattle.clos_method.specs.declared.specializer.Specializer as code
use Rattle.clos_method.specs.declared.specializer.Specializer.TheVariants.{Class, Eql}

abbrev pub specializer_of : code.Specializer → Specializer
specializer_of (Class c) = on_class c.0
specializer_of (Eql v) = on_eql (value_of v)

abbrev pub specializers_in : List code.Specializer → List Specializer
specializers_in ss = map specializer_of ss

-- whether both are one class, or one object
abbrev pub same_specializer : Specializer → Specializer → Bool
same_specializer (on_class c) (on_class d) = c == d
same_specializer (on_eql v) (on_eql w) = same_value v w
same_specializer (on_class c) (on_eql v) = false
same_specializer (on_eql v) (on_class c) = false

abbrev pub same_specializers : List Specializer → List Specializer → Bool
same_specializers xs ys = pointwise same_specializer xs ys

-- An eql specializer's object is one that EQL tells by its value: no string, and no list but NIL.
abbrev pub is_permitted : Val → Bool
is_permitted (string s) = false
is_permitted (list (cons v l)) = false
is_permitted _ = true

-- ---- how the logic stores one

abbrev to_sum : Specializer → ℕ ⊎ Val
to_sum (on_class c) = inl c
to_sum (on_eql v) = inr v

abbrev from_sum : ℕ ⊎ Val → Specializer
from_sum (inl c) = on_class c
from_sum (inr v) = on_eql v

pub back : (s : Specializer) → from_sum (to_sum s) ≡ s
back (on_class c) = refl
back (on_eql v) = refl

abbrev pub specializer_code : Coded Specializer
specializer_code = code_by (ℕ ⊎ Val) (coded⊎ coded_ℕ value_code) to_sum from_sum back
