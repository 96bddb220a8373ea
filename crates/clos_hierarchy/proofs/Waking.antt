-- Classes are woken one after another, until no other is ready.
use Rattle.std.proofs.Common.{◌≡◌, ◌⊎◌, inl, inr, ℕ, ◌==◌, ◌+◌, ◌<◌, ◌≤◌, ◌++◌, Bool, true, false, true≢false, List, [], ◌∷◌, length, reverse, arith, refl, ap, sym, subst, ◌∙◌}
use Rattle.std.specs.Prelude.{◌&&◌, ◌||◌, nat_lt, slice_index, if◌then◌else◌}
use Rattle.std.proofs.lemmas.Bool.{eqb-true, ltb-true}
use Rattle.clos_precedence.specs.Precedence.{has}
use Rattle.clos_precedence.specs.OrderView.{with_all_seen, with_seen}
use Rattle.clos_precedence.proofs.Lists.{reversed}
use Rattle.clos_precedence.proofs.Truth.{and_left, neither, nothing}
use Rattle.clos_precedence.proofs.Members.{Once, below, first_or_later, has_first, has_later, in_either, is_below, length_below, no_more}
use Rattle.clos_hierarchy.specs.Classes.{Classes, Listing, are_defined, is_based, is_lacking, names_above, superclasses}
use Rattle.clos_hierarchy.specs.inner.Direct.{Index}
use Rattle.clos_hierarchy.specs.inner.Waking.{Wakes}
use Rattle.clos_hierarchy.specs.inner.Woken.{Asleep, Sleeps, all_said, below_class, is_ready}
use Rattle.clos_hierarchy.proofs.Climbing.{Place, each, found, is_there, later, once_all, place_by, stays}
use Rattle.clos_hierarchy.proofs.Naming.{below_it}
use Rattle.clos_hierarchy.proofs.Ready.{not_ready, not_ready_by}

-- these are awake, and those directly below the first so many of them were looked at
pub record Waking (cs : Classes) (of : ℕ → Listing) (d : Index) (c : ℕ) (all : List ℕ) (place : ℕ) : Type 0 where
  pub once : Once all
  pub waited : (n : ℕ) → has all n ≡ true → (n < length cs.names) × (is_lacking (of n) ≡ true)
  pub own : (all ≡ []) ⊎ (has all c ≡ true)
  pub done : List ℕ
  pub among : (n : ℕ) → has done n ≡ true → has all n ≡ true
  pub reached : (k : ℕ) → k < place → has done (slice_index (reverse all) k) ≡ true
  pub asleep : Asleep cs of d c → (n : ℕ) → is_lacking (of n) ≡ true → has all n ≡ false → is_ready cs of done n ≡ false

not_both : (a b : Bool) → (a && b) ≡ false → a ≡ true → b ≡ false
not_both true b h e = h
not_both false b h e = absurd (true≢false (sym e))

module _ (cs : Classes) (of : ℕ → Listing) where
  -- a class that is ready is one
  ready_below : (ws : List ℕ) (n : ℕ) → is_ready cs of ws n ≡ true → n < length cs.names
  ready_below ws n h =
      ltb-true n (length cs.names) (and_left (nat_lt n (length cs.names)) (are_defined cs (names_above cs n)) (and_left (is_based cs n) (all_said of ws (superclasses cs n)) h))

  -- ---- of these classes, one after another

  pub wakes_first : (all old : List ℕ) → Wakes cs of all all old old
  wakes_first all old = record { met = []; is = refl; waited = λ n h. nothing h; asleep = λ n h k. absurd (true≢false (sym h ∙ k)) }

  all_asleep : (old met : List ℕ) (n : ℕ) → is_ready cs of (with_all_seen old met) n ≡ false → is_ready cs of old n ≡ false
  all_asleep old met n h = not_ready of cs old (with_all_seen old met) n (λ x k. later old met x k) h

  pub wakes_skip : (all left old now : List ℕ) (x : ℕ) → Wakes cs of all (x ∷ left) old now → (is_lacking (of x) ≡ true → is_ready cs of now x ≡ false) → Wakes cs of all left old now
  wakes_skip all left old now x w r = record { met = w.met; is = w.is; waited = w.waited; asleep = λ n h k l m. by n (x == n) refl h k l m }
    where
      by : (n : ℕ) (b : Bool) → (x == n) ≡ b → has all n ≡ true → has left n ≡ false → is_lacking (of n) ≡ true → has now n ≡ false → is_ready cs of old n ≡ false
      by n true e h k l m =
          let q : is_ready cs of now n ≡ false = subst (λ v. is_lacking (of v) ≡ true → is_ready cs of now v ≡ false) (eqb-true x n e) r l in
          all_asleep old w.met n (ap (λ v. is_ready cs of v n) (sym w.is) ∙ q)
      by n false e h k l m = w.asleep n h (ap (λ b. b || has left n) e ∙ k) l m

  seen_end : (old met : List ℕ) (x : ℕ) → with_seen (with_all_seen old met) x ≡ with_all_seen old (met ++ x ∷ [])
  seen_end old [] x = refl
  seen_end old (y ∷ ys) x = seen_end (with_seen old y) ys x

  seen_has : (now : List ℕ) (x n : ℕ) (b : Bool) → has now x ≡ b → has (if b then now else x ∷ now) n ≡ false → ((x == n) ≡ false) × (has now n ≡ false)
  seen_has now x n true e h = (by (x == n) refl, h)
    where
      by : (b : Bool) → (x == n) ≡ b → b ≡ false
      by true f = absurd (true≢false (sym (subst (λ v. has now v ≡ true) (eqb-true x n f) e) ∙ h))
      by false f = refl
  seen_has now x n false e h = neither (x == n) (has now n) h

  pub wakes_take : (all left old now new : List ℕ) (x : ℕ) → Wakes cs of all (x ∷ left) old now → is_lacking (of x) ≡ true → is_ready cs of now x ≡ true → new ≡ with_seen now x → Wakes cs of all left old new
  wakes_take all left old now new x w l r e = record {
    met = w.met ++ x ∷ [];
    is = e ∙ ap (λ v. with_seen v x) w.is ∙ seen_end old w.met x;
    waited = λ n h. by n (in_either w.met (x ∷ []) n h);
    asleep = λ n h k m i. let s : ((x == n) ≡ false) × (has now n ≡ false) = seen_has now x n (has now x) refl (ap (λ v. has v n) (sym e) ∙ i) in w.asleep n h (ap (λ b. b || has left n) s.0 ∙ k) m s.1;
  }
    where
      at : (n : ℕ) → (x ≡ n) ⊎ (has [] n ≡ true) → (n < length cs.names) × (is_lacking (of n) ≡ true)
      at n (inl q) = subst (λ v. (v < length cs.names) × (is_lacking (of v) ≡ true)) q (ready_below now x r, l)
      at n (inr k) = nothing k

      by : (n : ℕ) → (has w.met n ≡ true) ⊎ (has (x ∷ []) n ≡ true) → (n < length cs.names) × (is_lacking (of n) ≡ true)
      by n (inl k) = w.waited n k
      by n (inr k) = at n (first_or_later x n [] k)

  -- ---- of all classes

  module _ (d : Index) (c : ℕ) where
    -- at first none is, or the class that was defined
    pub waking_none : (is_lacking (of c) ≡ true → is_ready cs of [] c ≡ false) → Waking cs of d c [] 0
    waking_none r = record {
      once = tt;
      waited = λ n h. nothing h;
      own = inl refl;
      done = [];
      among = λ n h. h;
      reached = λ k h. absurd (omega (arith, h));
      asleep = λ a n l h. by a n (c == n) refl l;
    }
      where
        by : Asleep cs of d c → (n : ℕ) (b : Bool) → (c == n) ≡ b → is_lacking (of n) ≡ true → is_ready cs of [] n ≡ false
        by a n true e l = subst (λ v. is_lacking (of v) ≡ true → is_ready cs of [] v ≡ false) (eqb-true c n e) r l
        by a n false e l = a.sleep n e l refl

    pub waking_one : is_lacking (of c) ≡ true → is_ready cs of [] c ≡ true → Waking cs of d c (c ∷ []) 0
    waking_one l r = record {
      once = (refl, tt);
      waited = λ n h. at n (first_or_later c n [] h);
      own = inr (has_first c []);
      done = [];
      among = λ n h. nothing h;
      reached = λ k h. absurd (omega (arith, h));
      asleep = λ a n m h. a.sleep n (neither (c == n) (has [] n) h).0 m refl;
    }
      where
        at : (n : ℕ) → (c ≡ n) ⊎ (has [] n ≡ true) → (n < length cs.names) × (is_lacking (of n) ≡ true)
        at n (inl q) = subst (λ v. (v < length cs.names) × (is_lacking (of v) ≡ true)) q (ready_below [] c r, l)
        at n (inr k) = nothing k

    module _ (all now : List ℕ) (place x : ℕ) (g : Waking cs of d c all place) (l : place < length all) (e : x ≡ slice_index (reverse all) place) (w : Wakes cs of (below_class cs d x) [] all now) where
      here : has all x ≡ true
      here = subst (λ v. has all v ≡ true) (sym e) (is_there all place l)

      still : (n : ℕ) → has all n ≡ true → has now n ≡ true
      still n h = subst (λ v. has v n ≡ true) (sym w.is) (later all w.met n h)

      done_among : (n : ℕ) → has (x ∷ g.done) n ≡ true → has all n ≡ true
      done_among n h = by (first_or_later x n g.done h)
        where
          by : (x ≡ n) ⊎ (has g.done n ≡ true) → has all n ≡ true
          by (inl q) = subst (λ v. has all v ≡ true) q here
          by (inr k) = g.among n k

      own_there : (all ≡ []) ⊎ (has all c ≡ true) → has all c ≡ true
      own_there (inl q) = let z : length all ≡ 0 = ap length q in absurd (omega (arith, l, z))
      own_there (inr h) = h

      reached_by : (k : ℕ) → (k ≡ place) ⊎ (k < place) → has (x ∷ g.done) (slice_index (reverse all) k) ≡ true
      reached_by k (inl q) = subst (λ v. has (x ∷ g.done) v ≡ true) (e ∙ ap (slice_index (reverse all)) (sym q)) (has_first x g.done)
      reached_by k (inr h) = has_later x (slice_index (reverse all) k) g.done (g.reached k h)

      place_there : (k : ℕ) → (k ≡ place) ⊎ (k < place) → k < length all
      place_there k (inl q) = omega (arith, q, l)
      place_there k (inr h) = omega (arith, h, l)

      reached_now : (k : ℕ) → k < place + 1 → has (x ∷ g.done) (slice_index (reverse now) k) ≡ true
      reached_now k h =
          let q : (k ≡ place) ⊎ (k < place) = place_by k place (k == place) refl (omega (arith, h)) in
          subst (λ v. has (x ∷ g.done) v ≡ true) (sym (ap (λ v. slice_index (reverse v) k) w.is ∙ stays all w.met k (place_there k q))) (reached_by k q)

      not_before : (n : ℕ) (b : Bool) → has all n ≡ b → has now n ≡ false → b ≡ false
      not_before n true h k = absurd (true≢false (sym (still n h) ∙ k))
      not_before n false h k = refl

      another : (n : ℕ) (b : Bool) → (c == n) ≡ b → has all n ≡ false → b ≡ false
      another n true h k = absurd (true≢false (sym (subst (λ v. has all v ≡ true) (eqb-true c n h) (own_there g.own)) ∙ k))
      another n false h k = refl

      asleep_now : Asleep cs of d c → (n : ℕ) (b : Bool) → has (superclasses cs n) x ≡ b → is_lacking (of n) ≡ true → has now n ≡ false → has all n ≡ false → is_ready cs of (x ∷ g.done) n ≡ false
      asleep_now a n true s m h k =
          not_ready of cs (x ∷ g.done) all n done_among (w.asleep n (below_it cs d n x (λ y. a.direct n y (another n (c == n) refl k)) s) refl m h)
      asleep_now a n false s m h k = not_ready_by of cs x g.done (x ∷ g.done) n (λ y i. first_or_later x y g.done i) s (g.asleep a n m k)

      pub waking_next : Waking cs of d c now (place + 1)
      waking_next = record {
        once = subst Once (sym w.is) (once_all all w.met g.once);
        waited = λ n h. each (λ y. (y < length cs.names) × (is_lacking (of y) ≡ true)) all w.met g.waited w.waited n (subst (λ v. has v n ≡ true) w.is h);
        own = inr (still c (own_there g.own));
        done = x ∷ g.done;
        among = λ n h. still n (done_among n h);
        reached = reached_now;
        asleep = λ a n m h. asleep_now a n (has (superclasses cs n) x) refl m h (not_before n (has all n) refl h);
      }

    -- each class is woken once, so there are no more than there are classes
    pub never_more : (all : List ℕ) (place : ℕ) → Waking cs of d c all place → length all ≤ length cs.names
    never_more all place g =
        let p : length all ≤ length (below (length cs.names)) = no_more all (below (length cs.names)) g.once (λ x h. is_below (length cs.names) x (g.waited x h).0) in
        let q : length (below (length cs.names)) ≡ length cs.names = length_below (length cs.names) in omega (arith, p, q)

    -- ---- at the end

    module _ (all xs : List ℕ) (place : ℕ) (g : Waking cs of d c all place) (e : xs ≡ reverse all) where
      same : (n : ℕ) → has xs n ≡ has all n
      same n = ap (λ v. has v n) e ∙ reversed all n

      pub waking_waited : (n : ℕ) → has xs n ≡ true → (n < length cs.names) × (is_lacking (of n) ≡ true)
      waking_waited n h = g.waited n (sym (same n) ∙ h)

      pub waking_done : length all ≤ place → Asleep cs of d c → (n : ℕ) → Sleeps cs of xs n
      waking_done l a n m h = not_ready of cs xs g.done n (λ x k. done x (found all x (sym (same x) ∙ k))) (g.asleep a n m (sym (same n) ∙ h))
        where
          done : (x : ℕ) → Place all x → has g.done x ≡ true
          done x p = let k : p.0 < length all = p.1 in subst (λ v. has g.done v ≡ true) p.2 (g.reached p.0 (omega (arith, k, l)))
