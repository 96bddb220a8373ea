-- What is found is the one class precedence list, or there is none.
use Rattle.std.proofs.Common.{◌≡◌, ℕ, zero, suc, ◌==◌, Bool, true, false, List, [], ◌∷◌, Option, Some, None, inl, inr, length, ◌≤◌, arith, refl, sym, subst}
use Rattle.std.specs.Prelude.{◌&&◌, ◌⊎◌, option_map, if◌then◌else◌}
use Rattle.std.proofs.lemmas.Bool.{eq-eqb}
use Rattle.clos_precedence.specs.Precedence.{Supers, has, is_free, Next, next_above, are_done, if_all_done, with_first, in_turn, precedence_list, IsFamily, Circle, Tells}
use Rattle.clos_precedence.proofs.Truth.{or_left, or_right, nothing}
use Rattle.clos_precedence.proofs.Unique.{at_most_one}
use Rattle.clos_precedence.proofs.Next.{Inside, Closed, free_at, are_free, first_free, next_found, closed_more, inside_more}
use Rattle.clos_precedence.proofs.InTurn.{found_is_one}
use Rattle.clos_precedence.proofs.NoList.{head_done, walk, without, Left, left_more, length_without, fewer, length_removed, Only, only_more, rest_none, all_done, not_ended, first_is, none_is_none}
use Rattle.clos_precedence.proofs.Circle.{circling}

pub none_free : {A : Type 0} (f : Supers) (c : ℕ) (all done : List ℕ) (x : ℕ) → Closed f all done → Inside all done → has done c ≡ true → next_above f all done done ≡ None
    → has done x ≡ false → is_free f all done x ≡ true → (x ≡ c) ⊎ ((k : ℕ) × (has all k ≡ true) × (has (f k) x ≡ true)) → A
none_free f c all done x cl i h n d g (inl e) = let k : has done x ≡ true = subst (λ v. has done v ≡ true) (sym e) h in cc
none_free f c all done x cl i h n d g (inr q) =
    let a : has done q.0 ≡ true = head_done done (f q.0) q.0 x (has done q.0) refl (are_free f all done q.0 cl q.1) q.2 (free_at f all done x q.0 g q.1) in
    walk f all done done q.0 x (first_free f all done x q.0 cl i a q.2 d g) a n

pub not_free_by : (f : Supers) (c : ℕ) (all done : List ℕ) (y : ℕ) (b : Bool) → IsFamily f c all → Closed f all done → Inside all done → has done c ≡ true
    → next_above f all done done ≡ None → has all y ≡ true → has done y ≡ false → is_free f all done y ≡ b → is_free f all done y ≡ false
not_free_by f c all done y true m cl i h n a d e = none_free f c all done y cl i h n d e (m.below y a)
not_free_by f c all done y false m cl i h n a d e = e

pub left_one_by : (all done ys : List ℕ) (y : ℕ) (b : Bool) → has done y ≡ b → (b && are_done done ys) ≡ false → has all y ≡ true
    → (are_done done ys ≡ false → (z : ℕ) × (has all z ≡ true) × (has done z ≡ false)) → (z : ℕ) × (has all z ≡ true) × (has done z ≡ false)
left_one_by all done ys y true e h a r = r h
left_one_by all done ys y false e h a r = (y, a, e)

pub left_one : (all done ys : List ℕ) → are_done done ys ≡ false → ((y : ℕ) → has ys y ≡ true → has all y ≡ true) → (y : ℕ) × (has all y ≡ true) × (has done y ≡ false)
left_one all done [] h s = cc
left_one all done (y ∷ ys) h s =
    left_one_by all done ys y (has done y) refl h (s y (or_left (y == y) (has ys y) (eq-eqb y y refl))) (λ e. left_one all done ys e (λ z k. s z (or_right (y == z) (has ys z) k)))

pub ended_circle : (f : Supers) (c : ℕ) (all done : List ℕ) (b : Bool) → IsFamily f c all → Closed f all done → Inside all done → has done c ≡ true → next_above f all done done ≡ None
    → are_done done all ≡ b → if_all_done b ≡ None → Circle f all
ended_circle f c all done true m cl i h n e g = cc
ended_circle f c all done false m cl i h n e g =
    let q : (y : ℕ) × (has all y ≡ true) × (has done y ≡ false) = left_one all done all e (λ y k. k) in
    circling f all done q.0 m.upward (λ y a d. not_free_by f c all done y (is_free f all done y) m cl i h n a d refl) q.1 q.2

pub circle_first : {A : Type 0} (f : Supers) (c : ℕ) (all done : List ℕ) (rest : ℕ → Option (List ℕ)) (o : Option ℕ) → with_first o (if_all_done (are_done done all)) rest ≡ None
    → (o ≡ None → if_all_done (are_done done all) ≡ None → A) → ((x : ℕ) → o ≡ Some x → rest x ≡ None → A) → A
circle_first f c all done rest None h r s = r refl h
circle_first f c all done rest (Some x) h r s = s x refl (rest_none x (rest x) h)

pub none_circle : (n : ℕ) (f : Supers) (c : ℕ) (all done left : List ℕ) → IsFamily f c all → Closed f all done → Inside all done → has done c ≡ true
    → Left all done left → Only all done left → length left ≤ n → in_turn n f all done ≡ None → Circle f all
none_circle zero f c all done [] m cl i h g o s e = not_ended (are_done done all) (all_done all done all g (λ y a. a)) e
none_circle zero f c all done (y ∷ ys) m cl i h g o s e = absurd (omega (arith, s))
none_circle (suc n) f c all done left m cl i h g o s e =
    circle_first f c all done (λ v. in_turn n f all (v ∷ done)) (next_above f all done done) e (λ k j. ended_circle f c all done (are_done done all) m cl i h k refl j)
    (λ x k j.
    let p : Next f all done x = next_found f all done x m.upward cl i k in
    none_circle n f c all (x ∷ done) (without x left) m (closed_more f all done x p.2 cl) (inside_more all done x p.0 i)
    (or_right (x == c) (has done c) h) (left_more all done left x g) (only_more all done left x o)
    (fewer (length_removed x left (g x p.0 p.1)) s) j)

pub start_free : (f : Supers) (c : ℕ) (all : List ℕ) (y : ℕ) (b : Bool) → IsFamily f c all → is_free f all [] c ≡ false → has all y ≡ true → is_free f all [] y ≡ b → is_free f all [] y ≡ false
start_free f c all y true m h a e = first_is f c all y m h e (m.below y a)
start_free f c all y false m h a e = e

pub circle_of : (f : Supers) (c : ℕ) (all : List ℕ) (b : Bool) → IsFamily f c all → is_free f all [] c ≡ b
    → (if b then option_map (λ xs. c ∷ xs) (in_turn (length all) f all (c ∷ [])) else None) ≡ None → Circle f all
circle_of f c all false m e h = circling f all [] c m.upward (λ y a d. start_free f c all y (is_free f all [] y) m e a refl) m.self refl
circle_of f c all true m e h =
    none_circle (length all) f c all (c ∷ []) (without c all) m (closed_more f all [] c e (λ w g. nothing g)) (inside_more all [] c m.self (λ w g. nothing g))
    (or_left (c == c) false (eq-eqb c c refl)) (left_more all [] all c (λ y a n. a)) (only_more all [] all c (λ y a. (a, refl))) (length_without c all)
    (rest_none c (in_turn (length all) f all (c ∷ [])) h)

pub tells_by : (f : Supers) (c : ℕ) (all : List ℕ) (o : Option (List ℕ)) → IsFamily f c all → precedence_list f c all ≡ o → Tells f all o
tells_by f c all (Some l) m e = (found_is_one f c all l m e, λ k p. at_most_one f all k l p (found_is_one f c all l m e))
tells_by f c all None m e = ((λ k p. none_is_none f c all k m e p), circle_of f c all (is_free f all [] c) m refl e)

-- what is found is the one class precedence list, or there is none
pub tells : (f : Supers) (c : ℕ) (all : List ℕ) (o : Option (List ℕ)) → o ≡ precedence_list f c all → IsFamily f c all → Tells f all o
tells f c all o e m = tells_by f c all o m (sym e)
