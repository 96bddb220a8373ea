-- One element of a list is changed.
use Rattle.std.proofs.Common.{◌≡◌, ℕ, zero, suc, List, [], ◌∷◌, Option, Some, None, ◌<◌, ◌≤◌, length, arith, map, refl, ap, sym, ◌∙◌, subst}
use Rattle.std.specs.Prelude.{slice_get, slice_set, slice_index_or, Result, Ok, Err, OnOk, OnErr}
use Rattle.clos_generic.specs.Table.{Function, methods_in, with_changed}
use Rattle.clos_method.specs.MethodIds.{method_numbers}
use Rattle.clos_generic.specs.TableView.{functions_in}
use Rattle.clos_generic.specs.declared.function.Function as code

-- seen through a view
pub changed_at : {A B : Type 0} (view : A → B) (change : B → B) (xs : List A) (i : ℕ) (x y : A) → x ≡ slice_index_or xs i x → view y ≡ change (view x)
    → map view (slice_set xs i y) ≡ with_changed change i (map view xs)
changed_at view change [] i x y e h = refl
changed_at view change (z ∷ zs) zero x y e h = ap (λ b. b ∷ map view zs) (h ∙ ap (λ v. change (view v)) e)
changed_at view change (z ∷ zs) (suc i) x y e h = ap (λ l. view z ∷ l) (changed_at view change zs i x y e h)

-- The element is seen the same.
pub unchanged_at : {A B : Type 0} (view : A → B) (xs : List A) (i : ℕ) (x y : A) → x ≡ slice_index_or xs i x → view y ≡ view x → map view (slice_set xs i y) ≡ map view xs
unchanged_at view [] i x y e h = refl
unchanged_at view (z ∷ zs) zero x y e h = ap (λ b. b ∷ map view zs) (h ∙ ap view e)
unchanged_at view (z ∷ zs) (suc i) x y e h = ap (λ l. view z ∷ l) (unchanged_at view zs i x y e h)

-- What is said of each element, if there is one, is said after the change too.
pub said_of_changed : {A : Type 0} (P Q : Option A → Type 0) (xs : List A) (i : ℕ) (x y : A) (j : ℕ) → x ≡ slice_index_or xs i x
    → ((o : Option A) → P o → Q o) → (P (Some x) → Q (Some y)) → P (slice_get xs j) → Q (slice_get (slice_set xs i y) j)
said_of_changed P Q [] i x y j e k c h = k None h
said_of_changed P Q (z ∷ zs) zero x y zero e k c h = c (subst (λ w. P (Some w)) (sym e) h)
said_of_changed P Q (z ∷ zs) zero x y (suc j) e k c h = k (slice_get zs j) h
said_of_changed P Q (z ∷ zs) (suc i) x y zero e k c h = k (Some z) h
said_of_changed P Q (z ∷ zs) (suc i) x y (suc j) e k c h = said_of_changed P Q zs i x y j e k c h

-- the changed one
pub changed_there : {A : Type 0} (xs : List A) (i : ℕ) (y : A) → i < length xs → slice_get (slice_set xs i y) i ≡ Some y
changed_there [] i y h = absurd (omega (arith, h))
changed_there (x ∷ xs) zero y h = refl
changed_there (x ∷ xs) (suc i) y h = changed_there xs i y (omega (arith, h))

pub length_of_changed : {A : Type 0} (change : A → A) (xs : List A) (i : ℕ) → length (with_changed change i xs) ≡ length xs
length_of_changed change [] i = refl
length_of_changed change (x ∷ xs) zero = refl
length_of_changed change (x ∷ xs) (suc i) = ap suc (length_of_changed change xs i)

pub on_ok : {A E P Q : Type 0} (r : Result A E) → (P → Q) → OnOk r P → OnOk r Q
on_ok (Ok x) f h = f h
on_ok (Err e) f h = tt

pub on_err : {A E P Q : Type 0} (r : Result A E) → (P → Q) → OnErr r P → OnErr r Q
on_err (Ok x) f h = tt
on_err (Err e) f h = f h

pub methods_there : (fs : List code.Function) (i : ℕ) (f : code.Function) → i < length fs → f ≡ slice_index_or fs i f → methods_in (slice_get (functions_in fs) i) ≡ method_numbers f.methods.items
methods_there [] i f h e = absurd (omega (arith, h))
methods_there (g ∷ fs) zero f h e = ap (λ x. method_numbers x.methods.items) (sym e)
methods_there (g ∷ fs) (suc i) f h e = methods_there fs i f (omega (arith, h)) e

-- There is no such element.
pub past_all : {A : Type 0} (change : A → A) (xs : List A) (i : ℕ) → length xs ≤ i → with_changed change i xs ≡ xs
past_all change [] i h = refl
past_all change (x ∷ xs) zero h = absurd (omega (arith, h))
past_all change (x ∷ xs) (suc i) h = ap (λ l. x ∷ l) (past_all change xs i (omega (arith, h)))

pub methods_past_all : (fs : List Function) (i : ℕ) → length fs ≤ i → methods_in (slice_get fs i) ≡ []
methods_past_all [] i h = refl
methods_past_all (f ∷ fs) zero h = absurd (omega (arith, h))
methods_past_all (f ∷ fs) (suc i) h = methods_past_all fs i (omega (arith, h))
