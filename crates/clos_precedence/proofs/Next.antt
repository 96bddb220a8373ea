-- What is found going back comes next.
use Rattle.std.proofs.Common.{◌≡◌, ℕ, ◌==◌, Bool, true, false, List, [], ◌∷◌, Option, Some, None, inl, inr, refl, ap, sym, subst, ◌∙◌}
use Rattle.std.specs.Prelude.{not, ◌||◌, ◌⊎◌, if◌then◌else◌}
use Rattle.std.proofs.lemmas.Bool.{eqb-true, eq-eqb}
use Rattle.clos_precedence.specs.Precedence.{Supers, has, are_before_done, is_free, is_nearer, Next, first_left, if_free, or_else, next_above, Upward}
use Rattle.clos_precedence.proofs.Truth.{and_left, and_right, both, or_left, or_right, nearer_if, or_between, after_first}
use Rattle.clos_precedence.proofs.Before.{AreFree, only_first}

-- ---- the class that is found comes next

-- what is known of those that are done, the latest first
abbrev pub Inside : List ℕ → List ℕ → Type 0
Inside all done = (k : ℕ) → has done k ≡ true → has all k ≡ true

abbrev pub Closed : Supers → List ℕ → List ℕ → Type 0
Closed f all done = (w : ℕ) → has done w ≡ true → is_free f all done w ≡ true

pub free_by : (f : Supers) (zs done : List ℕ) (y k z : ℕ) (b : Bool) → (z == k) ≡ b → is_free f (z ∷ zs) done y ≡ true → has (z ∷ zs) k ≡ true
    → (has zs k ≡ true → are_before_done done y k (f k) ≡ true) → are_before_done done y k (f k) ≡ true
free_by f zs done y k z true e h g r =
    subst (λ x. are_before_done done y x (f x) ≡ true) (eqb-true z k e) (and_left (are_before_done done y z (f z)) (is_free f zs done y) h)
free_by f zs done y k z false e h g r = r (after_first (z == k) (has zs k) e g)

pub free_at : (f : Supers) (ks done : List ℕ) (y k : ℕ) → is_free f ks done y ≡ true → has ks k ≡ true → are_before_done done y k (f k) ≡ true
free_at f [] done y k h g = cc
free_at f (z ∷ zs) done y k h g = free_by f zs done y k z (z == k) refl h g (λ e. free_at f zs done y k (and_right (are_before_done done y z (f z)) (is_free f zs done y) h) e)

pub are_free : (f : Supers) (all done : List ℕ) (k : ℕ) → Closed f all done → has all k ≡ true → AreFree done k (f k)
are_free f all done k c h = λ w e. free_at f all done w k (c w e) h

pub first_free : (f : Supers) (all done : List ℕ) (y k : ℕ) → Closed f all done → Inside all done → has done k ≡ true → has (f k) y ≡ true → has done y ≡ false
    → is_free f all done y ≡ true → if_free f all done (first_left done (f k)) ≡ Some y
first_free f all done y k c i h g n l =
    ap (if_free f all done) (only_first done (f k) k y (are_free f all done k c (i k h)) g n (free_at f all done y k l (i k h)))
    ∙ ap (λ b. if b then Some y else None) l

pub some_same : (z x : ℕ) → Some z ≡ Some x → z ≡ x
some_same z x h = cc

pub none_some : {A : Type 0} {o : Option ℕ} {y : ℕ} → o ≡ Some y → o ≡ None → A
none_some h k = cc

pub some_by : (f : Supers) (all done : List ℕ) (z x : ℕ) (b : Bool) → is_free f all done z ≡ b → (if b then Some z else None) ≡ Some x
    → (Some z ≡ Some x) × (is_free f all done x ≡ true)
some_by f all done z x true e h = (h, subst (λ v. is_free f all done v ≡ true) (some_same z x h) e)
some_by f all done z x false e h = cc

pub if_free_some : (f : Supers) (all done : List ℕ) (o : Option ℕ) (x : ℕ) → if_free f all done o ≡ Some x → (o ≡ Some x) × (is_free f all done x ≡ true)
if_free_some f all done None x h = cc
if_free_some f all done (Some z) x h = some_by f all done z x (is_free f all done z) refl h

pub left_by : (done zs : List ℕ) (z x : ℕ) (b : Bool) → has done z ≡ b → (if b then first_left done zs else Some z) ≡ Some x
    → (first_left done zs ≡ Some x → (has zs x ≡ true) × (has done x ≡ false)) → (has (z ∷ zs) x ≡ true) × (has done x ≡ false)
left_by done zs z x true e h r = (or_right (z == x) (has zs x) (r h).0, (r h).1)
left_by done zs z x false e h r =
    (or_left (z == x) (has zs x) (eq-eqb z x (some_same z x h)), subst (λ v. has done v ≡ false) (some_same z x h) e)

pub first_left_is : (done zs : List ℕ) (x : ℕ) → first_left done zs ≡ Some x → (has zs x ≡ true) × (has done x ≡ false)
first_left_is done [] x h = cc
first_left_is done (z ∷ zs) x h = left_by done zs z x (has done z) refl h (λ e. first_left_is done zs x e)

-- what is found among the direct superclasses of these
pub record Found (f : Supers) (all done ks : List ℕ) (x : ℕ) : Type 0 where
  pub below : ℕ
  pub among : has ks below ≡ true
  pub direct : has (f below) x ≡ true
  pub left : has done x ≡ false
  pub free : is_free f all done x ≡ true

pub found_later : (f : Supers) (all done ks : List ℕ) (k x : ℕ) → Found f all done ks x → Found f all done (k ∷ ks) x
found_later f all done ks k x r = record { below = r.below; among = or_right (k == r.below) (has ks r.below) r.among; direct = r.direct; left = r.left; free = r.free }

pub found_here : (f : Supers) (all done ks : List ℕ) (k x : ℕ) → if_free f all done (first_left done (f k)) ≡ Some x → Found f all done (k ∷ ks) x
found_here f all done ks k x h =
    let p : (first_left done (f k) ≡ Some x) × (is_free f all done x ≡ true) = if_free_some f all done (first_left done (f k)) x h in
    let q : (has (f k) x ≡ true) × (has done x ≡ false) = first_left_is done (f k) x p.0 in
    record { below = k; among = or_left (k == k) (has ks k) (eq-eqb k k refl); direct = q.0; left = q.1; free = p.1 }

pub found_by : (f : Supers) (all done ks : List ℕ) (k x : ℕ) (o : Option ℕ) → if_free f all done (first_left done (f k)) ≡ o → or_else o (next_above f all done ks) ≡ Some x
    → (next_above f all done ks ≡ Some x → Found f all done ks x) → Found f all done (k ∷ ks) x
found_by f all done ks k x None e h r = found_later f all done ks k x (r h)
found_by f all done ks k x (Some z) e h r = found_here f all done ks k x (e ∙ h)

pub found : (f : Supers) (all done ks : List ℕ) (x : ℕ) → next_above f all done ks ≡ Some x → Found f all done ks x
found f all done [] x h = cc
found f all done (k ∷ ks) x h =
    found_by f all done ks k x (if_free f all done (first_left done (f k))) refl h (λ e. found f all done ks x e)

-- Any other that could come next is not nearer.
pub nearer_later : (f : Supers) (ks : List ℕ) (k x y : ℕ) → has (f k) y ≡ false → (y ≡ x) ⊎ (is_nearer f ks x y ≡ true) → (y ≡ x) ⊎ (is_nearer f (k ∷ ks) x y ≡ true)
nearer_later f ks k x y h (inl e) = inl e
nearer_later f ks k x y h (inr g) = inr (nearer_if (has (f k) x) (has (f k) y) (is_nearer f ks x y) h (or_right (has (f k) x) (is_nearer f ks x y) g))

pub nearer_by : (f : Supers) (all done ks : List ℕ) (k x y : ℕ) (b : Bool) (o : Option ℕ) → has (f k) y ≡ b → if_free f all done (first_left done (f k)) ≡ o
    → or_else o (next_above f all done ks) ≡ Some x
    → (has (f k) y ≡ true → if_free f all done (first_left done (f k)) ≡ Some y)
    → (next_above f all done ks ≡ Some x → (y ≡ x) ⊎ (is_nearer f ks x y ≡ true))
    → (y ≡ x) ⊎ (is_nearer f (k ∷ ks) x y ≡ true)
nearer_by f all done ks k x y true None e g h s r = none_some (s e) g
nearer_by f all done ks k x y true (Some z) e g h s r = inl (some_same y x (sym (s e) ∙ g ∙ h))
nearer_by f all done ks k x y false None e g h s r = nearer_later f ks k x y e (r h)
nearer_by f all done ks k x y false (Some z) e g h s r =
    let p : (first_left done (f k) ≡ Some x) × (is_free f all done x ≡ true) = if_free_some f all done (first_left done (f k)) x (g ∙ h) in
    inr (nearer_if (has (f k) x) (has (f k) y) (is_nearer f ks x y) e (or_left (has (f k) x) (is_nearer f ks x y) (first_left_is done (f k) x p.0).0))

pub nearest : (f : Supers) (all done ks : List ℕ) (x y : ℕ) → Closed f all done → Inside all done → Inside done ks → next_above f all done ks ≡ Some x
    → has done y ≡ false → is_free f all done y ≡ true → (y ≡ x) ⊎ (is_nearer f ks x y ≡ true)
nearest f all done [] x y c i s h n l = cc
nearest f all done (k ∷ ks) x y c i s h n l =
    nearer_by f all done ks k x y (has (f k) y) (if_free f all done (first_left done (f k))) refl refl h
    (λ e. first_free f all done y k c i (s k (or_left (k == k) (has ks k) (eq-eqb k k refl))) e n l)
    (λ e. nearest f all done ks x y c i (λ j u. s j (or_right (k == j) (has ks j) u)) e n l)

pub next_found : (f : Supers) (all done : List ℕ) (x : ℕ) → Upward f all → Closed f all done → Inside all done → next_above f all done done ≡ Some x → Next f all done x
next_found f all done x u c i h =
    let r : Found f all done done x = found f all done done x h in
    (u r.below x (i r.below r.among) r.direct, r.left, r.free, λ y a n l. nearest f all done done x y c i (λ j e. e) h n l)

-- ---- what stays true after one more is done

pub before_more : (done : List ℕ) (d y p : ℕ) (zs : List ℕ) → are_before_done done y p zs ≡ true → are_before_done (d ∷ done) y p zs ≡ true
before_more done d y p [] h = refl
before_more done d y p (z ∷ zs) h =
    both (not (z == y) || ((d == p) || has done p)) (are_before_done (d ∷ done) y z zs)
    (or_between (not (z == y)) (d == p) (has done p) (and_left (not (z == y) || has done p) (are_before_done done y z zs) h))
    (before_more done d y z zs (and_right (not (z == y) || has done p) (are_before_done done y z zs) h))

pub free_more : (f : Supers) (ks done : List ℕ) (d y : ℕ) → is_free f ks done y ≡ true → is_free f ks (d ∷ done) y ≡ true
free_more f [] done d y h = refl
free_more f (k ∷ ks) done d y h =
    both (are_before_done (d ∷ done) y k (f k)) (is_free f ks (d ∷ done) y)
    (before_more done d y k (f k) (and_left (are_before_done done y k (f k)) (is_free f ks done y) h))
    (free_more f ks done d y (and_right (are_before_done done y k (f k)) (is_free f ks done y) h))

pub one_by : (P : ℕ → Type 0) (done : List ℕ) (x k : ℕ) (b : Bool) → (x == k) ≡ b → P x → ((j : ℕ) → has done j ≡ true → P j) → has (x ∷ done) k ≡ true → P k
one_by P done x k true e p h g = subst P (eqb-true x k e) p
one_by P done x k false e p h g = h k (after_first (x == k) (has done k) e g)

-- of one more and those before
pub one_more : (P : ℕ → Type 0) (done : List ℕ) (x : ℕ) → P x → ((k : ℕ) → has done k ≡ true → P k) → (k : ℕ) → has (x ∷ done) k ≡ true → P k
one_more P done x p h k g = one_by P done x k (x == k) refl p h g

pub closed_more : (f : Supers) (all done : List ℕ) (x : ℕ) → is_free f all done x ≡ true → Closed f all done → Closed f all (x ∷ done)
closed_more f all done x h c = one_more (λ w. is_free f all (x ∷ done) w ≡ true) done x (free_more f all done x x h) (λ w e. free_more f all done x w (c w e))

pub inside_more : (all done : List ℕ) (x : ℕ) → has all x ≡ true → Inside all done → Inside all (x ∷ done)
inside_more all done x h i = one_more (λ k. has all k ≡ true) done x h i
