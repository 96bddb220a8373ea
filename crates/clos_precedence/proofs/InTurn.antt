-- What is found is a class precedence list.
use Rattle.std.proofs.Common.{◌≡◌, ℕ, zero, suc, ◌==◌, Bool, true, false, List, [], ◌∷◌, Option, Some, None, inl, inr, length, refl, subst}
use Rattle.std.specs.Prelude.{◌||◌, ◌⊎◌, option_map, if◌then◌else◌}
use Rattle.std.proofs.lemmas.Bool.{eqb-true}
use Rattle.clos_precedence.specs.Precedence.{Supers, has, is_free, is_nearer, Next, InTurn, IsPrecedenceList, next_above, are_done, if_all_done, with_first, in_turn, precedence_list, Upward, IsFamily}
use Rattle.clos_precedence.proofs.Truth.{and_left, and_right, or_left, after_first, nothing}
use Rattle.clos_precedence.proofs.Unique.{Covers}
use Rattle.clos_precedence.proofs.Before.{stuck}
use Rattle.clos_precedence.proofs.Next.{Inside, Closed, free_at, next_found, closed_more, inside_more}

-- ---- what is found is a class precedence list

pub moved_back : (a b c : Bool) → ((a || b) || c) ≡ true → (b || (a || c)) ≡ true
moved_back true true c h = refl
moved_back true false c h = refl
moved_back false b c h = h

pub covers_back : (all done l : List ℕ) (x : ℕ) → Covers all (x ∷ done) l → Covers all done (x ∷ l)
covers_back all done l x h y a = moved_back (x == y) (has done y) (has l y) (h y a)

abbrev pub Fits : Supers → List ℕ → List ℕ → List ℕ → Type 0
Fits f all done l = InTurn f all done l × Covers all done l

pub some_list : (l m : List ℕ) → Some l ≡ Some m → l ≡ m
some_list l m h = cc

pub each_by : (done ys : List ℕ) (y x : ℕ) (b : Bool) → (y == x) ≡ b → has done y ≡ true → has (y ∷ ys) x ≡ true → (has ys x ≡ true → has done x ≡ true) → has done x ≡ true
each_by done ys y x true e h k r = subst (λ v. has done v ≡ true) (eqb-true y x e) h
each_by done ys y x false e h k r = r (after_first (y == x) (has ys x) e k)

pub are_done_each : (done all : List ℕ) → are_done done all ≡ true → (x : ℕ) → has all x ≡ true → has done x ≡ true
are_done_each done [] h x k = cc
are_done_each done (y ∷ ys) h x k =
    each_by done ys y x (y == x) refl (and_left (has done y) (are_done done ys) h) k (λ e. are_done_each done ys (and_right (has done y) (are_done done ys) h) x e)

pub fits_end : (f : Supers) (all done l : List ℕ) (b : Bool) → are_done done all ≡ b → if_all_done b ≡ Some l → Fits f all done l
fits_end f all done l true e h = subst (λ v. Fits f all done v) (some_list [] l h) (tt, λ x a. or_left (has done x) false (are_done_each done all e x a))
fits_end f all done l false e h = cc

pub fits_first : (f : Supers) (all done : List ℕ) (x : ℕ) (o : Option (List ℕ)) (l : List ℕ) → Next f all done x → option_map (λ xs. x ∷ xs) o ≡ Some l
    → ((xs : List ℕ) → o ≡ Some xs → Fits f all (x ∷ done) xs) → Fits f all done l
fits_first f all done x None l p h r = cc
fits_first f all done x (Some xs) l p h r =
    let q : Fits f all (x ∷ done) xs = r xs refl in
    subst (λ v. Fits f all done v) (some_list (x ∷ xs) l h) ((p, q.0), covers_back all done xs x q.1)

pub fits_next : (f : Supers) (all done : List ℕ) (rest : ℕ → Option (List ℕ)) (o : Option ℕ) (l : List ℕ) → with_first o (if_all_done (are_done done all)) rest ≡ Some l
    → ((x : ℕ) → o ≡ Some x → Next f all done x) → ((x : ℕ) (xs : List ℕ) → Next f all done x → rest x ≡ Some xs → Fits f all (x ∷ done) xs) → Fits f all done l
fits_next f all done rest None l h p r = fits_end f all done l (are_done done all) refl h
fits_next f all done rest (Some x) l h p r = fits_first f all done x (rest x) l (p x refl) h (λ xs e. r x xs (p x refl) e)

pub in_turn_fits : (n : ℕ) (f : Supers) (all done l : List ℕ) → Upward f all → Closed f all done → Inside all done → in_turn n f all done ≡ Some l → Fits f all done l
in_turn_fits zero f all done l u c i h = fits_end f all done l (are_done done all) refl h
in_turn_fits (suc n) f all done l u c i h =
    fits_next f all done (λ x. in_turn n f all (x ∷ done)) (next_above f all done done) l h (λ x e. next_found f all done x u c i e)
    (λ x xs p e. in_turn_fits n f all (x ∷ done) xs u (closed_more f all done x p.2 c) (inside_more all done x p.0 i) e)

-- ---- the family of a class: itself and its superclasses

pub only_self : (f : Supers) (c : ℕ) (all : List ℕ) (y : ℕ) → (y ≡ c) ⊎ ((k : ℕ) × (has all k ≡ true) × (has (f k) y ≡ true)) → is_free f all [] y ≡ true
    → (y ≡ c) ⊎ (is_nearer f [] c y ≡ true)
only_self f c all y (inl e) h = inl e
only_self f c all y (inr p) h = stuck [] (f p.0) p.0 y refl (λ w e. nothing e) p.2 (free_at f all [] y p.0 h p.1)

pub first_next : (f : Supers) (c : ℕ) (all : List ℕ) → IsFamily f c all → is_free f all [] c ≡ true → Next f all [] c
first_next f c all m h = (m.self, refl, h, λ y a n l. only_self f c all y (m.below y a) l)

pub list_by : (f : Supers) (c : ℕ) (all l : List ℕ) (b : Bool) → IsFamily f c all → is_free f all [] c ≡ b
    → (if b then option_map (λ xs. c ∷ xs) (in_turn (length all) f all (c ∷ [])) else None) ≡ Some l → Fits f all [] l
list_by f c all l true m e h =
    let p : Next f all [] c = first_next f c all m e in
    fits_first f all [] c (in_turn (length all) f all (c ∷ [])) l p h
    (λ xs k. in_turn_fits (length all) f all (c ∷ []) xs m.upward (closed_more f all [] c e (λ w g. nothing g)) (inside_more all [] c m.self (λ w g. nothing g)) k)
list_by f c all l false m e h = cc

-- what is found is a class precedence list
pub found_is_one : (f : Supers) (c : ℕ) (all l : List ℕ) → IsFamily f c all → precedence_list f c all ≡ Some l → IsPrecedenceList f all l
found_is_one f c all l m h =
    let p : Fits f all [] l = list_by f c all l (is_free f all [] c) m refl h in
    (p.0, λ x a. p.1 x a)
