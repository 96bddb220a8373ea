-- Where none is found, none fits.
use Rattle.std.proofs.Common.{◌≡◌, ℕ, zero, suc, ◌==◌, Bool, true, false, List, [], ◌∷◌, Option, Some, None, inl, inr, length, ◌<◌, ◌≤◌, arith, refl, ap, sym, subst, ◌∙◌}
use Rattle.std.specs.Prelude.{◌||◌, ◌⊎◌, option_map, if◌then◌else◌}
use Rattle.std.proofs.lemmas.Bool.{eqb-true, eq-eqb}
use Rattle.clos_precedence.specs.Precedence.{Supers, has, are_before_done, is_free, Next, InTurn, IsPrecedenceList, first_left, if_free, or_else, next_above, are_done, if_all_done, with_first, in_turn, precedence_list, IsFamily}
use Rattle.clos_precedence.proofs.Truth.{both, or_left, or_right, after_first, neither, kept_or, only_left, not_either, nothing}
use Rattle.clos_precedence.proofs.Unique.{next_same, Covers, none_more, covers_on}
use Rattle.clos_precedence.proofs.Before.{AreFree, stuck}
use Rattle.clos_precedence.proofs.Next.{Inside, Closed, free_at, are_free, first_free, none_some, next_found, closed_more, inside_more}
use Rattle.clos_precedence.proofs.InTurn.{Fits, first_next}

-- ---- where none is found, none fits

pub head_done : (done zs : List ℕ) (p y : ℕ) (b : Bool) → has done p ≡ b → AreFree done p zs → has zs y ≡ true → are_before_done done y p zs ≡ true → has done p ≡ true
head_done done zs p y true e g h k = e
head_done done zs p y false e g h k = stuck done zs p y e g h k

pub neither_found : (o p : Option ℕ) → or_else o p ≡ None → (o ≡ None) × (p ≡ None)
neither_found None p h = (refl, h)
neither_found (Some x) p h = cc

pub walk_by : {A : Type 0} (f : Supers) (all done ks : List ℕ) (k x z : ℕ) (b : Bool) → (z == k) ≡ b → if_free f all done (first_left done (f k)) ≡ Some x
    → if_free f all done (first_left done (f z)) ≡ None → has (z ∷ ks) k ≡ true → (has ks k ≡ true → A) → A
walk_by f all done ks k x z true e h g i r = none_some (ap (λ v. if_free f all done (first_left done (f v))) (eqb-true z k e) ∙ h) g
walk_by f all done ks k x z false e h g i r = r (after_first (z == k) (has ks k) e i)

pub walk : {A : Type 0} (f : Supers) (all done ks : List ℕ) (k x : ℕ) → if_free f all done (first_left done (f k)) ≡ Some x → has ks k ≡ true
    → next_above f all done ks ≡ None → A
walk f all done [] k x h g n = cc
walk f all done (z ∷ zs) k x h g n =
    let p : (if_free f all done (first_left done (f z)) ≡ None) × (next_above f all done zs ≡ None) =
    neither_found (if_free f all done (first_left done (f z))) (next_above f all done zs) n in
    walk_by f all done zs k x z (z == k) refl h p.0 g (λ e. walk f all done zs k x h e p.1)

pub no_next_by : {A : Type 0} (f : Supers) (c : ℕ) (all done : List ℕ) (x : ℕ) → Closed f all done → Inside all done → has done c ≡ true → next_above f all done done ≡ None
    → Next f all done x → (x ≡ c) ⊎ ((k : ℕ) × (has all k ≡ true) × (has (f k) x ≡ true)) → A
no_next_by f c all done x cl i h n p (inl e) = let k : has done x ≡ true = subst (λ v. has done v ≡ true) (sym e) h in let g : has done x ≡ false = p.1 in cc
no_next_by f c all done x cl i h n p (inr q) =
    let a : has done q.0 ≡ true = head_done done (f q.0) q.0 x (has done q.0) refl (are_free f all done q.0 cl q.1) q.2 (free_at f all done x q.0 p.2 q.1) in
    walk f all done done q.0 x (first_free f all done x q.0 cl i a q.2 p.1 p.2) a n

-- ---- as long as there are some left, fewer are left each time

-- those without this one
abbrev pub without : ℕ → List ℕ → List ℕ
without x [] = []
without x (y ∷ ys) = if y == x then without x ys else y ∷ without x ys

-- those of all that are not done are left
abbrev pub Left : List ℕ → List ℕ → List ℕ → Type 0
Left all done left = (y : ℕ) → has all y ≡ true → has done y ≡ false → has left y ≡ true

pub kept_by : (x y z : ℕ) (zs : List ℕ) (b : Bool) → (z == x) ≡ b → (x == y) ≡ false → has (z ∷ zs) y ≡ true → (has zs y ≡ true → has (without x zs) y ≡ true)
    → has (if b then without x zs else z ∷ without x zs) y ≡ true
kept_by x y z zs true e h k r = r (after_first (z == y) (has zs y) (ap (λ v. v == y) (eqb-true z x e) ∙ h) k)
kept_by x y z zs false e h k r = kept_or (z == y) (has zs y) (has (without x zs) y) k r

pub kept : (x y : ℕ) (l : List ℕ) → (x == y) ≡ false → has l y ≡ true → has (without x l) y ≡ true
kept x y [] h k = k
kept x y (z ∷ zs) h k = kept_by x y z zs (z == x) refl h k (λ e. kept x y zs h e)

pub left_more : (all done left : List ℕ) (x : ℕ) → Left all done left → Left all (x ∷ done) (without x left)
left_more all done left x h y a n =
    let p : ((x == y) ≡ false) × (has done y ≡ false) = neither (x == y) (has done y) n in
    kept x y left p.0 (h y a p.1)

pub done_by : (done : List ℕ) (x : ℕ) (b : Bool) → has done x ≡ b → (has done x ≡ false → false ≡ true) → has done x ≡ true
done_by done x true e h = e
done_by done x false e h = let k : false ≡ true = h e in cc

pub shorter_by : (x : ℕ) (ys : List ℕ) (b : Bool) (y : ℕ) → length (without x ys) ≤ length ys → length (if b then without x ys else y ∷ without x ys) ≤ length (y ∷ ys)
shorter_by x ys true y h = omega (arith, h)
shorter_by x ys false y h = omega (arith, h)

pub length_without : (x : ℕ) (l : List ℕ) → length (without x l) ≤ length l
length_without x [] = omega arith
length_without x (y ∷ ys) = shorter_by x ys (y == x) y (length_without x ys)

pub removed_by : (x : ℕ) (ys : List ℕ) (b : Bool) (y : ℕ) → (b || has ys x) ≡ true → length (without x ys) ≤ length ys
    → (has ys x ≡ true → length (without x ys) < length ys) → length (if b then without x ys else y ∷ without x ys) < length (y ∷ ys)
removed_by x ys true y h k r = omega (arith, k)
removed_by x ys false y h k r = let q : length (without x ys) < length ys = r h in omega (arith, q)

pub fewer : {a b n : ℕ} → a < b → b ≤ suc n → a ≤ n
fewer h k = omega (arith, h, k)

pub length_removed : (x : ℕ) (l : List ℕ) → has l x ≡ true → length (without x l) < length l
length_removed x [] h = cc
length_removed x (y ∷ ys) h = removed_by x ys (y == x) y h (length_without x ys) (λ e. length_removed x ys e)

-- those left are of all these, and not done
abbrev pub Only : List ℕ → List ℕ → List ℕ → Type 0
Only all done left = (y : ℕ) → has left y ≡ true → (has all y ≡ true) × (has done y ≡ false)

pub not_equal_by : (x y z : ℕ) (b : Bool) → (x == y) ≡ b → (z == x) ≡ false → (z == y) ≡ true → (x == y) ≡ false
not_equal_by x y z true e h k =
    let g : (z == x) ≡ true = eq-eqb z x (eqb-true z y k ∙ sym (eqb-true x y e)) in
    cc
not_equal_by x y z false e h k = e

pub still_by : (x y z : ℕ) (zs : List ℕ) (b d : Bool) → (z == x) ≡ b → (z == y) ≡ d → has (if b then without x zs else z ∷ without x zs) y ≡ true
    → (has (without x zs) y ≡ true → (has zs y ≡ true) × ((x == y) ≡ false)) → (has (z ∷ zs) y ≡ true) × ((x == y) ≡ false)
still_by x y z zs true d e g h r = (or_right (z == y) (has zs y) (r h).0, (r h).1)
still_by x y z zs false true e g h r = (or_left (z == y) (has zs y) g, not_equal_by x y z (x == y) refl e g)
still_by x y z zs false false e g h r =
    let q : (has zs y ≡ true) × ((x == y) ≡ false) = r (after_first (z == y) (has (without x zs) y) g h) in
    (or_right (z == y) (has zs y) q.0, q.1)

pub still : (x y : ℕ) (l : List ℕ) → has (without x l) y ≡ true → (has l y ≡ true) × ((x == y) ≡ false)
still x y [] h = cc
still x y (z ∷ zs) h = still_by x y z zs (z == x) (z == y) refl refl h (λ e. still x y zs e)

pub only_more : (all done left : List ℕ) (x : ℕ) → Only all done left → Only all (x ∷ done) (without x left)
only_more all done left x h y k =
    let p : (has left y ≡ true) × ((x == y) ≡ false) = still x y left k in
    let q : (has all y ≡ true) × (has done y ≡ false) = h y p.0 in
    (q.0, not_either (x == y) (has done y) p.1 q.1)

pub rest_none : (x : ℕ) (o : Option (List ℕ)) → option_map (λ xs. x ∷ xs) o ≡ None → o ≡ None
rest_none x None h = refl
rest_none x (Some xs) h = cc

pub all_done : (all done ys : List ℕ) → Left all done [] → ((y : ℕ) → has ys y ≡ true → has all y ≡ true) → are_done done ys ≡ true
all_done all done [] g s = refl
all_done all done (y ∷ ys) g s =
    both (has done y) (are_done done ys) (done_by done y (has done y) refl (g y (s y (or_left (y == y) (has ys y) (eq-eqb y y refl)))))
    (all_done all done ys g (λ z e. s z (or_right (y == z) (has ys z) e)))

pub covered : (all done ys : List ℕ) → Covers all done [] → ((y : ℕ) → has ys y ≡ true → has all y ≡ true) → are_done done ys ≡ true
covered all done [] g s = refl
covered all done (y ∷ ys) g s =
    both (has done y) (are_done done ys) (only_left (has done y) (g y (s y (or_left (y == y) (has ys y) (eq-eqb y y refl)))))
    (covered all done ys g (λ z e. s z (or_right (y == z) (has ys z) e)))

pub not_ended : {A : Type 0} (b : Bool) → b ≡ true → if_all_done b ≡ None → A
not_ended true h k = cc
not_ended false h k = cc

pub none_left : {A : Type 0} (n : ℕ) (f : Supers) (c : ℕ) (all done : List ℕ) (rest : ℕ → Option (List ℕ)) (o : Option ℕ) → ((x : ℕ) → o ≡ Some x → Next f all done x)
    → with_first o (if_all_done (are_done done all)) rest ≡ None → Covers all done [] → A
none_left n f c all done rest None p e g = not_ended (are_done done all) (covered all done all g (λ y a. a)) e
none_left n f c all done rest (Some x) p e g = let q : Next f all done x = p x refl in none_more (has done x) q.1 (g x q.0)

pub first_of : {A : Type 0} (f : Supers) (c : ℕ) (all done : List ℕ) (rest : ℕ → Option (List ℕ)) (o : Option ℕ) (x : ℕ) → IsFamily f c all → Closed f all done → Inside all done
    → has done c ≡ true → next_above f all done done ≡ o → with_first o (if_all_done (are_done done all)) rest ≡ None → Next f all done x → (rest x ≡ None → A) → A
first_of f c all done rest None x m cl i h e n p r = no_next_by f c all done x cl i h e p (m.below x p.0)
first_of f c all done rest (Some z) x m cl i h e n p r =
    r (subst (λ v. rest v ≡ None) (next_same f all done z x (next_found f all done z m.upward cl i e) p) (rest_none z (rest z) n))

pub none_fits : {A : Type 0} (n : ℕ) (f : Supers) (c : ℕ) (all done left l : List ℕ) → IsFamily f c all → Closed f all done → Inside all done → has done c ≡ true
    → Left all done left → Only all done left → length left ≤ n → in_turn n f all done ≡ None → Fits f all done l → A
none_fits zero f c all done [] l m cl i h g o s e p = not_ended (are_done done all) (all_done all done all g (λ y a. a)) e
none_fits zero f c all done (y ∷ ys) l m cl i h g o s e p = absurd (omega (arith, s))
none_fits (suc n) f c all done left [] m cl i h g o s e p =
    none_left n f c all done (λ v. in_turn n f all (v ∷ done)) (next_above f all done done) (λ x k. next_found f all done x m.upward cl i k) e p.1
none_fits (suc n) f c all done left (x ∷ xs) m cl i h g o s e p =
    first_of f c all done (λ v. in_turn n f all (v ∷ done)) (next_above f all done done) x m cl i h refl e p.0.0
    (λ k. none_fits n f c all (x ∷ done) (without x left) xs m (closed_more f all done x p.0.0.2 cl) (inside_more all done x p.0.0.0 i)
    (or_right (x == c) (has done c) h) (left_more all done left x g) (only_more all done left x o)
    (fewer (length_removed x left (g x p.0.0.0 p.0.0.1)) s) k (p.0.1, covers_on all done xs x p.1))

pub first_is : {A : Type 0} (f : Supers) (c : ℕ) (all : List ℕ) (x : ℕ) → IsFamily f c all → is_free f all [] c ≡ false → is_free f all [] x ≡ true
    → (x ≡ c) ⊎ ((k : ℕ) × (has all k ≡ true) × (has (f k) x ≡ true)) → A
first_is f c all x m h g (inl e) = let k : is_free f all [] c ≡ true = subst (λ v. is_free f all [] v ≡ true) e g in cc
first_is f c all x m h g (inr p) = stuck [] (f p.0) p.0 x refl (λ w e. nothing e) p.2 (free_at f all [] x p.0 g p.1)

pub none_by : {A : Type 0} (f : Supers) (c : ℕ) (all l : List ℕ) (b : Bool) → IsFamily f c all → is_free f all [] c ≡ b
    → (if b then option_map (λ xs. c ∷ xs) (in_turn (length all) f all (c ∷ [])) else None) ≡ None → Fits f all [] l → A
none_by f c all [] b m e h p = nothing (p.1 c m.self)
none_by f c all (x ∷ xs) false m e h p = first_is f c all x m e p.0.0.2 (m.below x p.0.0.0)
none_by f c all (x ∷ xs) true m e h p =
    let same : x ≡ c = next_same f all [] x c p.0.0 (first_next f c all m e) in
    none_fits (length all) f c all (c ∷ []) (without c all) xs m (closed_more f all [] c e (λ w g. nothing g)) (inside_more all [] c m.self (λ w g. nothing g))
    (or_left (c == c) false (eq-eqb c c refl)) (left_more all [] all c (λ y a n. a)) (only_more all [] all c (λ y a. (a, refl))) (length_without c all)
    (rest_none c (in_turn (length all) f all (c ∷ [])) h)
    (subst (λ v. InTurn f all (v ∷ []) xs) same p.0.1, covers_on all [] xs c (subst (λ v. Covers all [] (v ∷ xs)) same p.1))

-- where none is found, there is none
pub none_is_none : {A : Type 0} (f : Supers) (c : ℕ) (all l : List ℕ) → IsFamily f c all → precedence_list f c all ≡ None → IsPrecedenceList f all l → A
none_is_none f c all l m h p = none_by f c all l (is_free f all [] c) m refl h (p.0, λ x a. p.1 x a)
