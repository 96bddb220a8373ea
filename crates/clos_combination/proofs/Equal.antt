-- Values that are equal are one value.
use Rattle.std.proofs.Common.{◌≡◌, Bool, true, false, refl, ap, ◌∙◌, sym}
use Rattle.lisp_data.specs.KeyLaws.{same_name-Decides}
use Rattle.lisp_data.specs.Keys.{same_value}
use Rattle.lisp_data.specs.Name.{Name, same_name}
use Rattle.lisp_data.specs.Same.{same-Decides}
use Rattle.lisp_data.specs.Value.{Val, integer, symbol, string, list, class, generic, method, instance}
use Rattle.lisp_data.specs.inner.ValueCode.{value_code}
use Rattle.clos_combination.specs.Pattern.{are_equal, is_symbol_named}

-- of two tests that hold in the same cases both hold or neither
agreeing : (b c : Bool) → (b ≡ true → c ≡ true) → (c ≡ true → b ≡ true) → b ≡ c
agreeing true c h g = sym (h refl)
agreeing false true h g = g refl
agreeing false false h g = refl

abbrev name_in : Val → Name → Name
name_in (symbol n) other = n
name_in v other = other

-- a test that never holds
never : (b : Bool) → (b ≡ true → ⊥) → b ≡ false
never true h = absurd (h refl)
never false h = refl

no_symbol : (n : Name) (v : Val) → is_symbol_named n v ≡ false → (symbol n ≡ v → ⊥) → same_value (symbol n) v ≡ is_symbol_named n v
no_symbol n v e h = never (same_value (symbol n) v) (λ b. h ((same-Decides value_code (symbol n) v).0 b)) ∙ sym e

is_it : (n : Name) (v : Val) → same_value (symbol n) v ≡ is_symbol_named n v
is_it n (symbol m) =
    agreeing (same_value (symbol n) (symbol m)) (same_name n m)
    (λ e. (same_name-Decides n m).1 (ap (λ v. name_in v n) ((same-Decides value_code (symbol n) (symbol m)).0 e)))
    (λ e. (same-Decides value_code (symbol n) (symbol m)).1 (ap symbol ((same_name-Decides n m).0 e)))
is_it n (integer i) = no_symbol n (integer i) refl (λ e. absurd (cc e))
is_it n (string s) = no_symbol n (string s) refl (λ e. absurd (cc e))
is_it n (list l) = no_symbol n (list l) refl (λ e. absurd (cc e))
is_it n (class c) = no_symbol n (class c) refl (λ e. absurd (cc e))
is_it n (generic g) = no_symbol n (generic g) refl (λ e. absurd (cc e))
is_it n (method m) = no_symbol n (method m) refl (λ e. absurd (cc e))
is_it n (instance i) = no_symbol n (instance i) refl (λ e. absurd (cc e))

pub same_are_equal : (v q : Val) → same_value v q ≡ are_equal v q
same_are_equal (symbol n) q = is_it n q
same_are_equal (integer i) q = refl
same_are_equal (string s) q = refl
same_are_equal (list l) q = refl
same_are_equal (class c) q = refl
same_are_equal (generic g) q = refl
same_are_equal (method m) q = refl
same_are_equal (instance i) q = refl
