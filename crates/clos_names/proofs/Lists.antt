-- Lists of names.
use Rattle.std.proofs.Common.{◌≡◌, ℕ, zero, suc, List, [], ◌∷◌, Bool, true, false, ◌||◌, map, refl, ap}
use Rattle.std.specs.Prelude.{is_some, option_map, slice_get, Option, Some, None, not, ◌&&◌, if◌then◌else◌}
use Rattle.std.specs.Borrow.{Bor}
use Rattle.std.specs.List.{list_any}
use Rattle.std.specs.Str.{bytes_eq}
use Rattle.clos_names.specs.Special.{entry_of, special_of, specials, special_operators, told}
use Rattle.clos_names.specs.Names.{is_one_of}
use Rattle.lisp_data.specs.Name.{Name}
use Rattle.clos_names.specs.declared.special.Special.{Special}

pub any_of_map : {A B : Type 0} (f : A → B) (p : B → Bool) (xs : List A) → list_any p (map f xs) ≡ list_any (λ x. p (f x)) xs
any_of_map f p [] = refl
any_of_map f p (x ∷ xs) = ap (λ b. p (f x) || b) (any_of_map f p xs)

some_or : (b : Bool) (s : Special) (es : List (List ℕ × Special)) (t : List ℕ) (r : Bool) → is_some (entry_of es t) ≡ r → is_some (if b then Some s else entry_of es t) ≡ (b || r)
some_or true s es t r h = refl
some_or false s es t r h = h

-- a table has an entry where one of its names is meant
pub has_entry : (es : List (List ℕ × Special)) (t : List ℕ) → is_some (entry_of es t) ≡ list_any (λ u. bytes_eq u t) (map (λ (e : List ℕ × Special). e.0) es)
has_entry [] t = refl
has_entry (e ∷ es) t = some_or (bytes_eq e.0 t) e.1 es t (list_any (λ u. bytes_eq u t) (map (λ (e : List ℕ × Special). e.0) es)) (has_entry es t)

unless_keyword : (b : Bool) (x : Option Special) (r : Bool) → is_some x ≡ r → is_some (if b then None else x) ≡ (not b && r)
unless_keyword true x r h = refl
unless_keyword false x r h = h

pub special_is_one : (name : Name) → is_some (special_of name) ≡ is_one_of special_operators name
special_is_one name = unless_keyword name.keyword (entry_of specials name.text) _ (has_entry specials name.text)

-- the name at a place of a table
pub name_at : (es : List (Bor (List ℕ) × Special)) (i : ℕ) → option_map (λ (e : Bor (List ℕ) × Special). e.0.now) (slice_get es i) ≡ slice_get (map (λ (e : List ℕ × Special). e.0) (map told es)) i
name_at [] i = refl
name_at (e ∷ es) zero = refl
name_at (e ∷ es) (suc i) = name_at es i
