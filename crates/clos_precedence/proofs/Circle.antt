-- Where none is found, classes come before one another in a circle.
use Rattle.std.proofs.Common.{◌≡◌, ℕ, zero, suc, ◌==◌, Bool, true, false, List, [], ◌∷◌, length, ◌≤◌, arith, refl, subst}
use Rattle.std.specs.Prelude.{not, ◌&&◌, ◌||◌}
use Rattle.std.proofs.lemmas.Bool.{eqb-true, eq-eqb}
use Rattle.clos_precedence.specs.Precedence.{Supers, has, are_before_done, is_free, Upward, stands_before, Before, Leads, Circle}
use Rattle.clos_precedence.proofs.Truth.{both, or_left, or_right, after_first, neither, nothing}
use Rattle.clos_precedence.proofs.NoList.{without, kept, fewer, length_removed}

-- those left, of which none is free
abbrev pub NoneFree : Supers → List ℕ → List ℕ → Type 0
NoneFree f all done = (y : ℕ) → has all y ≡ true → has done y ≡ false → is_free f all done y ≡ false

pub stands_first : (p z y x : ℕ) (zs : List ℕ) → p ≡ y → (z == x) ≡ true → stands_before y x (p ∷ (z ∷ zs)) ≡ true
stands_first p z y x zs e h = or_left ((p == y) && (z == x)) (stands_before y x (z ∷ zs)) (both (p == y) (z == x) (eq-eqb p y e) h)

-- what stands before x in the list, and is not done
abbrev pub Unmet : List ℕ → ℕ → List ℕ → Type 0
Unmet done x l = (y : ℕ) × (stands_before y x l ≡ true) × (has done y ≡ false) × (has l y ≡ true)

pub unmet_later : (done : List ℕ) (x p z : ℕ) (zs : List ℕ) → Unmet done x (z ∷ zs) → Unmet done x (p ∷ (z ∷ zs))
unmet_later done x p z zs u = (u.0, or_right ((p == u.0) && (z == x)) (stands_before u.0 x (z ∷ zs)) u.1, u.2, or_right (p == u.0) (has (z ∷ zs) u.0) u.3)

pub unmet_by : (done : List ℕ) (x p z : ℕ) (zs : List ℕ) (a b : Bool) → (z == x) ≡ a → has done p ≡ b → ((not a || b) && are_before_done done x z zs) ≡ false
    → (are_before_done done x z zs ≡ false → Unmet done x (z ∷ zs)) → Unmet done x (p ∷ (z ∷ zs))
unmet_by done x p z zs true false e g h r = (p, stands_first p z p x zs refl e, g, or_left (p == p) (has (z ∷ zs) p) (eq-eqb p p refl))
unmet_by done x p z zs true true e g h r = unmet_later done x p z zs (r h)
unmet_by done x p z zs false b e g h r = unmet_later done x p z zs (r h)

pub unmet : (done : List ℕ) (x p : ℕ) (zs : List ℕ) → are_before_done done x p zs ≡ false → Unmet done x (p ∷ zs)
unmet done x p [] h = cc
unmet done x p (z ∷ zs) h = unmet_by done x p z zs (z == x) (has done p) refl refl h (λ e. unmet done x z zs e)

-- one that is left comes before it
abbrev pub LeftBefore : Supers → List ℕ → List ℕ → ℕ → Type 0
LeftBefore f all done x = (y : ℕ) × Before f all y x × (has all y ≡ true) × (has done y ≡ false)

pub member_of : (f : Supers) (all : List ℕ) (k y : ℕ) (b : Bool) → Upward f all → has all k ≡ true → (k == y) ≡ b → has (k ∷ f k) y ≡ true → has all y ≡ true
member_of f all k y true u h e g = subst (λ v. has all v ≡ true) (eqb-true k y e) h
member_of f all k y false u h e g = u k y h (after_first (k == y) (has (f k) y) e g)

pub left_before_by : (f : Supers) (all done : List ℕ) (x k : ℕ) (ks : List ℕ) (b : Bool) → Upward f all → ((j : ℕ) → has (k ∷ ks) j ≡ true → has all j ≡ true)
    → are_before_done done x k (f k) ≡ b → (b && is_free f ks done x) ≡ false → (is_free f ks done x ≡ false → LeftBefore f all done x) → LeftBefore f all done x
left_before_by f all done x k ks true u s e h r = r h
left_before_by f all done x k ks false u s e h r =
    let m : has all k ≡ true = s k (or_left (k == k) (has ks k) (eq-eqb k k refl)) in
    let q : Unmet done x (k ∷ f k) = unmet done x k (f k) e in
    (q.0, (k, m, q.1), member_of f all k q.0 (k == q.0) u m refl q.3, q.2)

pub left_before : (f : Supers) (all done : List ℕ) (x : ℕ) (ks : List ℕ) → Upward f all → ((j : ℕ) → has ks j ≡ true → has all j ≡ true) → is_free f ks done x ≡ false
    → LeftBefore f all done x
left_before f all done x [] u s h = cc
left_before f all done x (k ∷ ks) u s h =
    left_before_by f all done x k ks (are_before_done done x k (f k)) u s refl h (λ e. left_before f all done x ks u (λ j g. s j (or_right (k == j) (has ks j) g)) e)

-- each comes before the next
abbrev pub Linked : Supers → List ℕ → ℕ → List ℕ → Type 0
Linked f all x [] = Unit {0}
Linked f all x (z ∷ zs) = Before f all x z × Linked f all z zs

pub closing_by : (f : Supers) (all : List ℕ) (q x p : ℕ) (trail : List ℕ) (b : Bool) → (x == p) ≡ b → Before f all q x → has (x ∷ trail) p ≡ true
    → (has trail p ≡ true → (xs : List ℕ) × Leads f all x xs p) → (xs : List ℕ) × Leads f all q xs p
closing_by f all q x p trail true e h g r = ([], subst (λ v. Before f all q v) (eqb-true x p e) h)
closing_by f all q x p trail false e h g r = let s : (xs : List ℕ) × Leads f all x xs p = r (after_first (x == p) (has trail p) e g) in (x ∷ s.0, (h, s.1))

-- back to one that was met
pub closing : (f : Supers) (all : List ℕ) (q x p : ℕ) (trail : List ℕ) → Before f all q x → Linked f all x trail → has (x ∷ trail) p ≡ true → (xs : List ℕ) × Leads f all q xs p
closing f all q x p [] h l g = closing_by f all q x p [] (x == p) refl h g (λ e. nothing e)
closing f all q x p (z ∷ zs) h l g = closing_by f all q x p (z ∷ zs) (x == p) refl h g (λ e. closing f all x z p zs l.0 l.1 e)

-- those of the left that were not met
abbrev pub Unvisited : List ℕ → List ℕ → List ℕ → List ℕ → Type 0
Unvisited all done met left = (y : ℕ) → has all y ≡ true → has done y ≡ false → has met y ≡ false → has left y ≡ true

pub unvisited_more : (all done met left : List ℕ) (x : ℕ) → Unvisited all done met left → Unvisited all done (x ∷ met) (without x left)
unvisited_more all done met left x h y a n k =
    let p : ((x == y) ≡ false) × (has met y ≡ false) = neither (x == y) (has met y) k in
    kept x y left p.0 (h y a n p.1)

pub no_member : {A : Type 0} (l : List ℕ) (y : ℕ) → has l y ≡ true → length l ≤ 0 → A
no_member [] y h k = cc
no_member (x ∷ xs) y h k = absurd (omega (arith, k))

pub circle_by : (n : ℕ) (f : Supers) (all done left : List ℕ) (x : ℕ) (trail : List ℕ) → Upward f all → NoneFree f all done → Unvisited all done (x ∷ trail) left → length left ≤ n
    → Linked f all x trail → (q : LeftBefore f all done x) → (b : Bool) → has (x ∷ trail) q.0 ≡ b → Circle f all
circle_by n f all done left x trail u m v s l q true e = let c : (xs : List ℕ) × Leads f all q.0 xs q.0 = closing f all q.0 x q.0 trail q.1 l e in (q.0, c.0, c.1)
circle_by zero f all done left x trail u m v s l q false e = no_member left q.0 (v q.0 q.2 q.3 e) s
circle_by (suc n) f all done left x trail u m v s l q false e =
    let p : LeftBefore f all done q.0 = left_before f all done q.0 all u (λ j k. k) (m q.0 q.2 q.3) in
    circle_by n f all done (without q.0 left) q.0 (x ∷ trail) u m (unvisited_more all done (x ∷ trail) left q.0 v)
    (fewer (length_removed q.0 left (v q.0 q.2 q.3 e)) s) (q.1, l) p (has (q.0 ∷ (x ∷ trail)) p.0) refl

-- where none of those left is free, some of them come before one another
pub circling : (f : Supers) (all done : List ℕ) (x : ℕ) → Upward f all → NoneFree f all done → has all x ≡ true → has done x ≡ false → Circle f all
circling f all done x u m a d =
    let q : LeftBefore f all done x = left_before f all done x all u (λ j e. e) (m x a d) in
    circle_by (length all) f all done all x [] u m (λ y h k g. h) (omega arith) tt q (has (x ∷ []) q.0) refl
