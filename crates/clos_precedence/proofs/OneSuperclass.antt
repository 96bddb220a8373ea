-- A class with one direct superclass stands before that one's class precedence list.
use Rattle.std.proofs.Common.{◌≡◌, ℕ, ◌==◌, Bool, true, false, List, [], ◌∷◌, ◌++◌, inl, inr, refl, sym, subst}
use Rattle.std.specs.Prelude.{not, ◌||◌, ◌⊎◌}
use Rattle.std.proofs.lemmas.Bool.{eqb-true, eq-eqb}
use Rattle.clos_precedence.specs.Precedence.{Supers, has, are_before_done, is_free, is_nearer, Next, InTurn, IsPrecedenceList, Upward, IsFamily}
use Rattle.clos_precedence.proofs.Truth.{and_left, and_right, both, or_left, or_right, after_first, turned, nothing, kept_or, not_either, neither, only_left}
use Rattle.clos_precedence.proofs.Before.{stuck}
use Rattle.clos_precedence.proofs.Next.{free_at}

-- ---- one more class, the first of all

has_more : (done : List ℕ) (c x : ℕ) → has done x ≡ true → has (done ++ c ∷ []) x ≡ true
has_more [] c x h = nothing h
has_more (y ∷ ys) c x h = kept_or (y == x) (has ys x) (has (ys ++ c ∷ []) x) h (λ e. has_more ys c x e)

has_no_more : (done : List ℕ) (c x : ℕ) → (c == x) ≡ false → has done x ≡ false → has (done ++ c ∷ []) x ≡ false
has_no_more [] c x h k = not_either (c == x) false h refl
has_no_more (y ∷ ys) c x h k = let p : ((y == x) ≡ false) × (has ys x ≡ false) = neither (y == x) (has ys x) k in not_either (y == x) (has (ys ++ c ∷ []) x) p.0 (has_no_more ys c x h p.1)

has_it : (done : List ℕ) (c : ℕ) → has (done ++ c ∷ []) c ≡ true
has_it [] c = or_left (c == c) false (eq-eqb c c refl)
has_it (y ∷ ys) c = or_right (y == c) (has (ys ++ c ∷ []) c) (has_it ys c)

before_more : (done : List ℕ) (c x p : ℕ) (zs : List ℕ) → are_before_done done x p zs ≡ true → are_before_done (done ++ c ∷ []) x p zs ≡ true
before_more done c x p [] h = refl
before_more done c x p (z ∷ zs) h =
    both (not (z == x) || has (done ++ c ∷ []) p) (are_before_done (done ++ c ∷ []) x z zs)
    (kept_or (not (z == x)) (has done p) (has (done ++ c ∷ []) p) (and_left (not (z == x) || has done p) (are_before_done done x z zs) h) (λ e. has_more done c p e))
    (before_more done c x z zs (and_right (not (z == x) || has done p) (are_before_done done x z zs) h))

free_more : (f : Supers) (ks done : List ℕ) (c x : ℕ) → is_free f ks done x ≡ true → is_free f ks (done ++ c ∷ []) x ≡ true
free_more f [] done c x h = refl
free_more f (k ∷ ks) done c x h =
    both (are_before_done (done ++ c ∷ []) x k (f k)) (is_free f ks (done ++ c ∷ []) x)
    (before_more done c x k (f k) (and_left (are_before_done done x k (f k)) (is_free f ks done x) h))
    (free_more f ks done c x (and_right (are_before_done done x k (f k)) (is_free f ks done x) h))

-- where c is none of a list, it does not matter there
abbrev Other : ℕ → List ℕ → Type 0
Other c l = (y : ℕ) → has l y ≡ true → (c == y) ≡ false

had : (done : List ℕ) (c x : ℕ) → (c == x) ≡ false → has (done ++ c ∷ []) x ≡ true → has done x ≡ true
had [] c x h k = nothing (after_first (c == x) false h k)
had (y ∷ ys) c x h k = kept_or (y == x) (has (ys ++ c ∷ []) x) (has ys x) k (λ e. had ys c x h e)

before_less : (done : List ℕ) (c x p : ℕ) (zs : List ℕ) → (c == p) ≡ false → Other c zs → are_before_done (done ++ c ∷ []) x p zs ≡ true → are_before_done done x p zs ≡ true
before_less done c x p [] e o h = refl
before_less done c x p (z ∷ zs) e o h =
    both (not (z == x) || has done p) (are_before_done done x z zs)
    (kept_or (not (z == x)) (has (done ++ c ∷ []) p) (has done p) (and_left (not (z == x) || has (done ++ c ∷ []) p) (are_before_done (done ++ c ∷ []) x z zs) h) (λ k. had done c p e k))
    (before_less done c x z zs (o z (or_left (z == z) (has zs z) (eq-eqb z z refl))) (λ y k. o y (or_right (z == y) (has zs y) k))
    (and_right (not (z == x) || has (done ++ c ∷ []) p) (are_before_done (done ++ c ∷ []) x z zs) h))

free_less : (f : Supers) (ks done : List ℕ) (c x : ℕ) → Other c ks → ((k : ℕ) → has ks k ≡ true → Other c (f k)) → is_free f ks (done ++ c ∷ []) x ≡ true → is_free f ks done x ≡ true
free_less f [] done c x o s h = refl
free_less f (k ∷ ks) done c x o s h =
    let m : has (k ∷ ks) k ≡ true = or_left (k == k) (has ks k) (eq-eqb k k refl) in
    both (are_before_done done x k (f k)) (is_free f ks done x)
    (before_less done c x k (f k) (o k m) (s k m) (and_left (are_before_done (done ++ c ∷ []) x k (f k)) (is_free f ks (done ++ c ∷ []) x) h))
    (free_less f ks done c x (λ y e. o y (or_right (k == y) (has ks y) e)) (λ j e. s j (or_right (k == j) (has ks j) e))
    (and_right (are_before_done (done ++ c ∷ []) x k (f k)) (is_free f ks (done ++ c ∷ []) x) h))

nearer_more : (f : Supers) (ks : List ℕ) (c x y : ℕ) → is_nearer f ks x y ≡ true → is_nearer f (ks ++ c ∷ []) x y ≡ true
nearer_more f [] c x y h = nothing h
nearer_more f (k ∷ ks) c x y h =
    both (not (has (f k) y)) (has (f k) x || is_nearer f (ks ++ c ∷ []) x y) (and_left (not (has (f k) y)) (has (f k) x || is_nearer f ks x y) h)
    (kept_or (has (f k) x) (is_nearer f ks x y) (is_nearer f (ks ++ c ∷ []) x y) (and_right (not (has (f k) y)) (has (f k) x || is_nearer f ks x y) h) (λ e. nearer_more f ks c x y e))

-- ---- the list

nearest_by : (f : Supers) (done : List ℕ) (c x y : ℕ) → (y ≡ x) ⊎ (is_nearer f done x y ≡ true) → (y ≡ x) ⊎ (is_nearer f (done ++ c ∷ []) x y ≡ true)
nearest_by f done c x y (inl e) = inl e
nearest_by f done c x y (inr h) = inr (nearer_more f done c x y h)

not_had : (done : List ℕ) (c y : ℕ) (b : Bool) → has done y ≡ b → has (done ++ c ∷ []) y ≡ false → has done y ≡ false
not_had done c y true e h = let g : has (done ++ c ∷ []) y ≡ true = has_more done c y e in cc
not_had done c y false e h = e

among_by : (all done : List ℕ) (c y : ℕ) (b : Bool) → (c == y) ≡ b → has (c ∷ all) y ≡ true → has (done ++ c ∷ []) y ≡ false → (has all y ≡ true) × (has done y ≡ false)
among_by all done c y true e h k = let g : has (done ++ c ∷ []) y ≡ true = subst (λ v. has (done ++ c ∷ []) v ≡ true) (eqb-true c y e) (has_it done c) in cc
among_by all done c y false e h k = (after_first (c == y) (has all y) e h, not_had done c y (has done y) refl k)

nearest_more : (f : Supers) (c : ℕ) (all done : List ℕ) (x y : ℕ) → Upward f all → Other c all → Next f all done x → has (c ∷ all) y ≡ true → has (done ++ c ∷ []) y ≡ false
    → is_free f all (done ++ c ∷ []) y ≡ true → (y ≡ x) ⊎ (is_nearer f (done ++ c ∷ []) x y ≡ true)
nearest_more f c all done x y u o p a n l =
    let q : (has all y ≡ true) × (has done y ≡ false) = among_by all done c y (c == y) refl a n in
    nearest_by f done c x y (p.3 y q.0 q.1 (free_less f all done c y o (λ k e z g. o z (u k z e g)) l))

next_more : (f : Supers) (c d : ℕ) (all done : List ℕ) (x : ℕ) → Upward f all → f c ≡ d ∷ [] → Other c all → Next f all done x → Next f (c ∷ all) (done ++ c ∷ []) x
next_more f c d all done x u s o p = (
  or_right (c == x) (has all x) p.0,
  has_no_more done c x (o x p.0) p.1,
  both (are_before_done (done ++ c ∷ []) x c (f c)) (is_free f all (done ++ c ∷ []) x)
      (subst (λ l. are_before_done (done ++ c ∷ []) x c l ≡ true) (sym s) (both (not (d == x) || has (done ++ c ∷ []) c) true (or_right (not (d == x)) (has (done ++ c ∷ []) c) (has_it done c)) refl))
      (free_more f all done c x p.2),
  λ y a n l. nearest_more f c all done x y u o p a n (and_right (are_before_done (done ++ c ∷ []) y c (f c)) (is_free f all (done ++ c ∷ []) y) l),
)

turn_more : (f : Supers) (c d : ℕ) (all done l : List ℕ) → Upward f all → f c ≡ d ∷ [] → Other c all → InTurn f all done l → InTurn f (c ∷ all) (done ++ c ∷ []) l
turn_more f c d all done [] u s o p = tt
turn_more f c d all done (x ∷ l) u s o p = (next_more f c d all done x u s o p.0, turn_more f c d all (x ∷ done) l u s o p.1)

other : (c y : ℕ) (all : List ℕ) (b : Bool) → (c == y) ≡ b → has all y ≡ true → has all c ≡ false → (c == y) ≡ false
other c y all true e h n = let g : has all c ≡ true = subst (λ v. has all v ≡ true) (sym (eqb-true c y e)) h in cc
other c y all false e h n = e

-- d comes after c, and each other after one of its subclasses
not_d : {A : Type 0} (f : Supers) (c d y : ℕ) → f c ≡ d ∷ [] → y ≡ d → are_before_done [] y c (f c) ≡ true → A
not_d f c d y s e h = stuck [] (f c) c y refl (λ w g. nothing g) (subst (λ l. has l y ≡ true) (sym s) (or_left (d == y) false (eq-eqb d y (sym e)))) h

only_by : (f : Supers) (c d : ℕ) (all : List ℕ) (y : ℕ) → IsFamily f d all → f c ≡ d ∷ [] → Other c all → (y ≡ d) ⊎ ((k : ℕ) × (has all k ≡ true) × (has (f k) y ≡ true))
    → is_free f (c ∷ all) [] y ≡ true → (y ≡ c) ⊎ (is_nearer f [] c y ≡ true)
only_by f c d all y m s o (inl e) l = not_d f c d y s e (and_left (are_before_done [] y c (f c)) (is_free f all [] y) l)
only_by f c d all y m s o (inr q) l = stuck [] (f q.0) q.0 y refl (λ w g. nothing g) q.2 (free_at f all [] y q.0 (and_right (are_before_done [] y c (f c)) (is_free f all [] y) l) q.1)

only_c_free : (f : Supers) (c d : ℕ) (all : List ℕ) (y : ℕ) → IsFamily f d all → f c ≡ d ∷ [] → Other c all → (b : Bool) → (c == y) ≡ b → has (c ∷ all) y ≡ true
    → is_free f (c ∷ all) [] y ≡ true → (y ≡ c) ⊎ (is_nearer f [] c y ≡ true)
only_c_free f c d all y m s o true e a l = inl (sym (eqb-true c y e))
only_c_free f c d all y m s o false e a l = only_by f c d all y m s o (m.below y (after_first (c == y) (has all y) e a)) l

apart_by : (x z : ℕ) (b : Bool) → (z == x) ≡ b → (x == z) ≡ false → (z == x) ≡ false
apart_by x z true e h = let g : (x == z) ≡ true = eq-eqb x z (sym (eqb-true z x e)) in cc
apart_by x z false e h = e

apart : (x z : ℕ) (b : Bool) → (x == z) ≡ b → (x == z) ≡ false → (z == x) ≡ false
apart x z b e h = apart_by x z (z == x) refl h

member_d : (d : ℕ) (all : List ℕ) (z : ℕ) → has all d ≡ true → has (d ∷ []) z ≡ true → has all z ≡ true
member_d d all z h e = subst (λ v. has all v ≡ true) (eqb-true d z (only_left (d == z) e)) h

-- none comes before c
unmoved : (x p : ℕ) (zs : List ℕ) → ((z : ℕ) → has zs z ≡ true → (x == z) ≡ false) → are_before_done [] x p zs ≡ true
unmoved x p [] o = refl
unmoved x p (z ∷ zs) o =
    both (not (z == x) || false) (are_before_done [] x z zs) (or_left (not (z == x)) false (turned (z == x) (apart x z (x == z) refl (o z (or_left (z == z) (has zs z) (eq-eqb z z refl))))))
    (unmoved x z zs (λ y e. o y (or_right (z == y) (has zs y) e)))

free_first : (f : Supers) (c : ℕ) (ks : List ℕ) → ((k : ℕ) → has ks k ≡ true → Other c (f k)) → is_free f ks [] c ≡ true
free_first f c [] o = refl
free_first f c (k ∷ ks) o =
    both (are_before_done [] c k (f k)) (is_free f ks [] c) (unmoved c k (f k) (o k (or_left (k == k) (has ks k) (eq-eqb k k refl))))
    (free_first f c ks (λ j e. o j (or_right (k == j) (has ks j) e)))

c_first : (f : Supers) (c d : ℕ) (all : List ℕ) → IsFamily f d all → f c ≡ d ∷ [] → Other c all → Next f (c ∷ all) [] c
c_first f c d all m s o = (
  or_left (c == c) (has all c) (eq-eqb c c refl),
  refl,
  both (are_before_done [] c c (f c)) (is_free f all [] c) (unmoved c c (f c) (λ z e. o z (member_d d all z m.self (subst (λ l. has l z ≡ true) s e))))
      (free_first f c all (λ k e z g. o z (m.upward k z e g))),
  λ y a n l. only_c_free f c d all y m s o (c == y) refl a l,
)

covers_more : (c : ℕ) (all l : List ℕ) → ((x : ℕ) → has all x ≡ true → has l x ≡ true) → (x : ℕ) → has (c ∷ all) x ≡ true → has (c ∷ l) x ≡ true
covers_more c all l h x a = kept_or (c == x) (has all x) (has l x) a (λ e. h x e)

-- the class before the list of its superclass
pub one_superclass : (f : Supers) (c d : ℕ) (all l : List ℕ) → IsFamily f d all → f c ≡ d ∷ [] → has all c ≡ false → IsPrecedenceList f all l → IsPrecedenceList f (c ∷ all) (c ∷ l)
one_superclass f c d all l m s n p =
    let o : Other c all = λ y e. other c y all (c == y) refl e n in
    ((c_first f c d all m s o, turn_more f c d all [] l m.upward s o p.0), covers_more c all l p.1)
