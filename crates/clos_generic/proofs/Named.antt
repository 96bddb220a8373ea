-- Generic functions found by their names.
use Rattle.std.proofs.Common.{◌≡◌, ℕ, zero, suc, Bool, true, false, List, [], ◌∷◌, ◌++◌, Option, Some, None, length, ◌≤◌, ◌+◌, arith, refl, sym, ap, ◌∙◌, true≢false}
use Rattle.std.specs.Prelude.{◌==◌, not, option_map, position, nat_lt, if◌then◌else◌}
use Rattle.std.specs.List.{position_or_len}
use Rattle.std.specs.Option.{option_or}
use Rattle.std.proofs.lemmas.List.Folds.{position_or_len_push}
use Rattle.std.proofs.lemmas.List.{length_push, map-append}
use Rattle.lisp_data.specs.Name.{Name}
use Rattle.lisp_data.specs.declared.ids.GenericId.{GenericId}
use Rattle.lisp_data.specs.KeyLaws.{same_name-Decides}
use Rattle.clos_forms.specs.declared.operator.FunctionName.{FunctionName}
use Rattle.clos_forms.specs.declared.operator.FunctionName.TheVariants.{Symbol, Setf}
use Rattle.clos_generic.specs.Table.{Function, named_in, same_function, with_changed}
use Rattle.clos_generic.specs.TableView.{IsIndexed, function_of, functions_in, noted}
use Rattle.clos_generic.specs.declared.function.Function as code
use Rattle.clos_generic.proofs.Changed.{length_of_changed}

-- ---- one more function

at_most_by : {X : Type 0} (p : X → Bool) (x : X) (xs : List X) (b : Bool) → p x ≡ b → position_or_len p xs ≤ length xs → position_or_len p (x ∷ xs) ≤ length (x ∷ xs)
at_most_by p x xs true e h = let i : position_or_len p (x ∷ xs) ≡ 0 = cc in omega (arith, i)
at_most_by p x xs false e h = let i : position_or_len p (x ∷ xs) ≡ 1 + position_or_len p xs = cc in omega (arith, i, h)

at_most : {X : Type 0} (p : X → Bool) (xs : List X) → position_or_len p xs ≤ length xs
at_most p [] = omega (arith)
at_most p (x ∷ xs) = at_most_by p x xs (p x) refl (at_most p xs)

abbrev place : ℕ → ℕ → Option ℕ
place m l = if nat_lt m l then Some m else None

abbrev last_if : Bool → ℕ → Option ℕ
last_if b n = if b then Some n else None

-- the first place that passes, with one more at the end
joined : (a n m l : ℕ) (b : Bool) → a ≤ n → m ≡ (if a == n then n + (if b then 0 else 1) else a) → l ≡ n + 1 → place m l ≡ option_or (place a n) (last_if b n)
joined a n m l true h e g = grind arith
joined a n m l false h e g = grind arith

with_last : {X : Type 0} (p : X → Bool) (xs : List X) (y : X) → position p (xs ++ y ∷ []) ≡ option_or (position p xs) (last_if (p y) (length xs))
with_last p xs y = joined (position_or_len p xs) (length xs) (position_or_len p (xs ++ y ∷ [])) (length (xs ++ y ∷ [])) (p y) (at_most p xs) (position_or_len_push p xs y) (length_push xs y)

numbers_of : (o : Option GenericId) (id : GenericId) (n : ℕ) (b : Bool) → id.0 ≡ n → option_map (λ g. g.0) (option_or o (if b then Some id else None)) ≡ option_or (option_map (λ g. g.0) o) (last_if b n)
numbers_of None id n true e = ap Some e
numbers_of None id n false e = refl
numbers_of (Some i) id n b e = refl

-- all are still found, the new one too where its name is new
pub one_more : (fs : List Function) (f : Function) (name : FunctionName) (id : GenericId) (o p : Option GenericId) → option_map (λ i. i.0) o ≡ named_in fs name → p ≡ option_or o (noted f.name id name)
    → id.0 ≡ length fs → option_map (λ i. i.0) p ≡ named_in (fs ++ f ∷ []) name
one_more fs f name id o p e h l =
    ap (option_map (λ i. i.0)) h ∙ numbers_of o id (length fs) (same_function f.name name) l ∙ ap (λ v. option_or v (last_if (same_function f.name name) (length fs))) e
    ∙ sym (with_last (λ h. same_function h.name name) fs f)

pub one_more_seen : (fs : List code.Function) (f : code.Function) → functions_in (fs ++ f ∷ []) ≡ functions_in fs ++ function_of f ∷ []
one_more_seen fs f = map-append function_of fs (f ∷ [])

-- ---- a function that keeps its name

same_place : {X : Type 0} (p : X → Bool) (change : X → X) → ((x : X) → p (change x) ≡ p x) → (xs : List X) (i : ℕ) → position_or_len p (with_changed change i xs) ≡ position_or_len p xs
same_place p change h [] i = refl
same_place p change h (x ∷ xs) zero = ap (λ b. if not b then 1 + position_or_len p xs else 0) (h x)
same_place p change h (x ∷ xs) (suc i) = ap (λ k. if not (p x) then 1 + k else 0) (same_place p change h xs i)

pub same_names : (change : Function → Function) → ((f : Function) → (change f).name ≡ f.name) → (fs : List Function) (i : ℕ) (name : FunctionName) → named_in (with_changed change i fs) name ≡ named_in fs name
same_names change h fs i name =
    ap (λ m. place m (length (with_changed change i fs))) (same_place (λ f. same_function f.name name) change (λ f. ap (λ n. same_function n name) (h f)) fs i)
    ∙ ap (place (position_or_len (λ f. same_function f.name name) fs)) (length_of_changed change fs i)

pub still_indexed : (change : Function → Function) → ((f : Function) → (change f).name ≡ f.name) → (called : Name → FunctionName) (numbered : Name → Option GenericId) (fs gs : List Function) (i : ℕ)
    → IsIndexed fs called numbered → gs ≡ with_changed change i fs → IsIndexed gs called numbered
still_indexed change h called numbered fs gs i k e = λ name. k name ∙ sym (ap (λ l. named_in l (called name)) e ∙ same_names change h fs i (called name))

pub same_indexed : (called : Name → FunctionName) (numbered : Name → Option GenericId) (fs gs : List Function) → IsIndexed fs called numbered → gs ≡ fs → IsIndexed gs called numbered
same_indexed called numbered fs gs k e = λ name. k name ∙ sym (ap (λ l. named_in l (called name)) e)

pub one_more_indexed : (called : Name → FunctionName) (before after : Name → Option GenericId) (fs gs : List Function) (f : Function) (id : GenericId) → IsIndexed fs called before
    → ((n : Name) → after n ≡ option_or (before n) (noted f.name id (called n))) → id.0 ≡ length fs → gs ≡ fs ++ f ∷ [] → IsIndexed gs called after
one_more_indexed called before after fs gs f id k h l e = λ n. one_more fs f (called n) id (before n) (after n) (k n) (h n) l ∙ ap (λ x. named_in x (called n)) (sym e)

-- ---- one name

pub one_name : (a b : FunctionName) → same_function a b ≡ true → a ≡ b
one_name (Symbol a) (Symbol b) h = ap Symbol ((same_name-Decides a b).0 h)
one_name (Symbol a) (Setf b) h = absurd (true≢false (sym h))
one_name (Setf a) (Symbol b) h = absurd (true≢false (sym h))
one_name (Setf a) (Setf b) h = ap Setf ((same_name-Decides a b).0 h)
