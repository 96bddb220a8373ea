-- At most one class precedence list fits.
use Rattle.std.proofs.Common.{◌≡◌, ℕ, ◌==◌, Bool, true, false, List, [], ◌∷◌, inl, inr, refl, ap, sym, subst, ◌∙◌}
use Rattle.std.specs.Prelude.{not, ◌&&◌, ◌||◌, ◌⊎◌}
use Rattle.clos_precedence.specs.Precedence.{Supers, has, is_nearer, Next, InTurn, IsPrecedenceList}

-- ---- at most one class comes next

pub not_both : (a b c d : Bool) → (not b && (a || c)) ≡ true → (not a && (b || d)) ≡ true → (c ≡ true) × (d ≡ true)
not_both true true c d h k = cc
not_both true false c d h k = cc
not_both false true c d h k = cc
not_both false false c d h k = (h, k)

pub not_both_nearer : {A : Type 0} (f : Supers) (ks : List ℕ) (x y : ℕ) → is_nearer f ks x y ≡ true → is_nearer f ks y x ≡ true → A
not_both_nearer f [] x y h k = cc
not_both_nearer f (z ∷ zs) x y h k =
    let p : (is_nearer f zs x y ≡ true) × (is_nearer f zs y x ≡ true) = not_both (has (f z) x) (has (f z) y) (is_nearer f zs x y) (is_nearer f zs y x) h k in
    not_both_nearer f zs x y p.0 p.1

pub same_of : (f : Supers) (done : List ℕ) (x y : ℕ) → (y ≡ x) ⊎ (is_nearer f done x y ≡ true) → (x ≡ y) ⊎ (is_nearer f done y x ≡ true) → x ≡ y
same_of f done x y (inl e) k = sym e
same_of f done x y (inr h) (inl e) = e
same_of f done x y (inr h) (inr k) = not_both_nearer f done x y h k

pub next_same : (f : Supers) (all done : List ℕ) (x y : ℕ) → Next f all done x → Next f all done y → x ≡ y
next_same f all done x y p q = same_of f done x y (p.3 y q.0 q.1 q.2) (q.3 x p.0 p.1 p.2)

-- ---- at most one list fits

abbrev pub Covers : List ℕ → List ℕ → List ℕ → Type 0
Covers all done l = (x : ℕ) → has all x ≡ true → (has done x || has l x) ≡ true

pub none_more : {A : Type 0} (a : Bool) → a ≡ false → (a || false) ≡ true → A
none_more true h k = cc
none_more false h k = cc

pub moved : (a b c : Bool) → (b || (a || c)) ≡ true → ((a || b) || c) ≡ true
moved true b c h = refl
moved false b c h = h

pub covers_on : (all done l : List ℕ) (x : ℕ) → Covers all done (x ∷ l) → Covers all (x ∷ done) l
covers_on all done l x h y k = moved (x == y) (has done y) (has l y) (h y k)

pub unique_from : (f : Supers) (all done l m : List ℕ) → InTurn f all done l → InTurn f all done m → Covers all done l → Covers all done m → l ≡ m
unique_from f all done [] [] p q g h = refl
unique_from f all done [] (y ∷ m) p q g h = none_more (has done y) q.0.1 (g y q.0.0)
unique_from f all done (x ∷ l) [] p q g h = none_more (has done x) p.0.1 (h x p.0.0)
unique_from f all done (x ∷ l) (y ∷ m) p q g h =
    let e : x ≡ y = next_same f all done x y p.0 q.0 in
    ap (λ z. z ∷ l) e ∙ ap (λ zs. y ∷ zs) (unique_from f all (y ∷ done) l m (subst (λ z. InTurn f all (z ∷ done) l) e p.1) q.1
    (covers_on all done l y (subst (λ z. Covers all done (z ∷ l)) e g)) (covers_on all done m y h))

pub at_most_one : (f : Supers) (all l m : List ℕ) → IsPrecedenceList f all l → IsPrecedenceList f all m → l ≡ m
at_most_one f all l m p q = unique_from f all [] l m p.0 q.0 p.1 q.1
