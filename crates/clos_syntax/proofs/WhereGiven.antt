-- What holds of a value that may be there, and of each of a list.
use Rattle.std.proofs.Common.{◌≡◌, Bool, true, false, List, [], ◌∷◌, All, Option, Some, None, length, refl, arith}
use Rattle.std.specs.Prelude.{IfSome, ⊤, if◌then◌else◌}
use Rattle.std.proofs.lemmas.List.Elements.{All-nil, All-cons, All-head}
use Rattle.lisp_data.specs.Datum.{Dat, Dats, nil, cons, length_of}
use Rattle.clos_forms.specs.Binding.{each}
use Rattle.clos_forms.specs.Fault.{◌>>=◌}
use Rattle.clos_forms.specs.Sequence.{single}

-- ---- what holds of a value that may be there

-- what holds of everything
pub nothing : {A : Type 0} (o : Option A) → IfSome o (λ a. ⊤)
nothing (Some a) = tt
nothing None = tt

pub passes : {A B : Type 0} (P : B → Type 0) (o : Option A) (k : A → Option B) → ((a : A) → IfSome (k a) P) → IfSome (o >>= k) P
passes P (Some a) k h = h a
passes P None k h = tt

pub keeps : {A B : Type 0} (Q : A → Type 0) (P : B → Type 0) (o : Option A) (k : A → Option B) → IfSome o Q → ((a : A) → Q a → IfSome (k a) P) → IfSome (o >>= k) P
keeps Q P (Some a) k q h = h a q
keeps Q P None k q h = tt

pub follows : {A : Type 0} (Q P : A → Type 0) (o : Option A) → IfSome o Q → ((a : A) → Q a → P a) → IfSome o P
follows Q P (Some a) q h = h a q
follows Q P None q h = tt

pub either : {A : Type 0} (P : A → Type 0) (b : Bool) (x y : Option A) → IfSome x P → IfSome y P → IfSome (if b then x else y) P
either P true x y p q = p
either P false x y p q = q

-- ---- lists

pub one_for_each : {A : Type 0} (f : Dat → Option A) (l : Dats) → IfSome (each f l) (λ xs. length xs ≡ length_of l)
one_for_each f nil = refl
one_for_each f (cons d l) =
    passes (λ xs. length xs ≡ length_of (cons d l)) (f d) (λ x. each f l >>= λ xs. Some (x ∷ xs))
    (λ x. keeps (λ xs. length xs ≡ length_of l) (λ xs. length xs ≡ length_of (cons d l)) (each f l) (λ xs. Some (x ∷ xs)) (one_for_each f l)
    (λ xs q. omega (arith, q)))

pub all_of_each : {A : Type 0} (P : A → Type 0) (f : Dat → Option A) (h : (d : Dat) → IfSome (f d) P) (l : Dats) → IfSome (each f l) (All P)
all_of_each P f h nil = All-nil P
all_of_each P f h (cons d l) =
    keeps P (All P) (f d) (λ x. each f l >>= λ xs. Some (x ∷ xs)) (h d)
    (λ x p. keeps (All P) (All P) (each f l) (λ xs. Some (x ∷ xs)) (all_of_each P f h l) (λ xs ps. All-cons P x xs p ps))

-- what the only thing of a list is
pub single_law : {A : Type 0} (P : A → Type 0) (xs : List A) → All P xs → IfSome (single xs) (λ o. IfSome o P)
single_law P [] h = tt
single_law P (x ∷ []) h = All-head P x [] h
single_law P (x ∷ y ∷ xs) h = tt

-- what holds of each value that may be given
pub each_given : {A : Type 0} (P : A → Type 0) (o : Option A) → ((a : A) → o ≡ Some a → P a) → IfSome o P
each_given P (Some a) h = h a refl
each_given P None h = tt
