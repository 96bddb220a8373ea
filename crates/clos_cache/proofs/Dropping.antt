-- Dropping what a change concerns, from the last place of the index down.
use Rattle.std.proofs.Common.{◌≡◌, ◌≢◌, ◌⊎◌, inl, inr, ℕ, ◌+◌, ◌-◌, ◌<◌, ◌≤◌, Bool, true, false, cond, List, length, Option, Some, None, IsSome, OnSome, option_map, refl, ap, subst, ◌∙◌, sym, true≢false, eqb-true, eq-eqb, ◌==◌, arith}
use Rattle.std.specs.List.{slice_get, swap_remove}
use Rattle.std.specs.Map.{lookup}
use Rattle.std.proofs.lemmas.Option.{slice_get_past, slice_get_within}
use Rattle.slab.specs.Slab.{Slab, Updates, get, slab_len}
use Rattle.clos_cache.specs.Cache.{Change, Drops, concerns, found, left_of}
use Rattle.clos_cache.specs.CacheView.{AreApart, AreThere, AsMany, kept_in, kept_of}
use Rattle.clos_cache.specs.ChangeView.{ConcernedAt, concerned_at, concerns_entry, concerns_place}
use Rattle.clos_cache.specs.Key.{Key, same_key}
use Rattle.clos_cache.specs.KeyLaws.{same_key-Decides}
use Rattle.clos_cache.specs.declared.cache.Entry.{Entry}
use Rattle.clos_cache.proofs.Finding.{at, found_in}
use Rattle.clos_cache.proofs.Places.{looked_up, moved, one_item, one_key}

module _ {T : Type 0} (change : Change) where
  -- the loop over the places has come down to this one
  pub record Dropping (first : List (Key × ℕ)) (old : Slab (Entry T)) (es : List (Key × ℕ)) (now : Slab (Entry T))
      (left : ℕ) : Type 0 where
    pub there : AreThere es now
    pub apart : AreApart es
    pub as_many : AsMany es now
    pub same : (q : Key) → left_of change q (found (kept_in es now) q) ≡ left_of change q (found (kept_in first old) q)
    pub none : (i : ℕ) → left ≤ i → concerned_at change es now i ≡ false

  pub begins : (es : List (Key × ℕ)) (entries : Slab (Entry T)) (n : ℕ) → AreThere es entries → AreApart es
      → AsMany es entries → n ≡ length es → Dropping es entries es entries n
  begins es entries n there apart many h = record {
    there = there;
    apart = apart;
    as_many = many;
    same = λ q. refl;
    none = λ i k. ap (concerns_place change entries) (slice_get_past es i (subst (λ m. m ≤ i) h k));
  }

  module _ (first es : List (Key × ℕ)) (old now : Slab (Entry T)) (left i : ℕ) (d : Dropping first old es now left)
      (next : i + 1 ≡ left) where
    pub passes : concerned_at change es now i ≡ false → Dropping first old es now i
    passes h = record {
      there = d.there;
      apart = d.apart;
      as_many = d.as_many;
      same = d.same;
      none = λ j k. none_from j (j == i) refl k;
    } where
      none_from : (j : ℕ) (b : Bool) → (j == i) ≡ b → i ≤ j → concerned_at change es now j ≡ false
      none_from j true t k = ap (concerned_at change es now) (eqb-true j i t) ∙ h
      none_from j false t k =
          let apart : j ≢ i = λ p. true≢false (sym (eq-eqb j i p) ∙ t) in d.none j (omega (arith, apart, k, next))

    -- an entry that it concerns goes, and its key with it
    module _ (c : ConcernedAt change es now i) (es' : List (Key × ℕ)) (now' : Slab (Entry T))
        (gone : es' ≡ swap_remove es i (c.key, c.place))
        (looked : (q : Key) → lookup (same_key q) es' ≡ cond (same_key c.key q) None (lookup (same_key q) es))
        (updates : Updates now now' c.place None) (shorter : length es' + 1 ≡ length es)
        (fewer : slab_len now' + 1 ≡ slab_len now) where
      within : i < length es
      within = slice_get_within es i (c.key, c.place) c.there

      -- what is at a place now was at one that is not the one gone, and no earlier
      record From (j : ℕ) (f : Key × ℕ) : Type 0 where
        pub place : ℕ
        pub there : slice_get es place ≡ Some f
        pub fits : j + 1 < length es
        pub how : ((j ≡ i) × (place ≡ length es - 1)) ⊎ ((j ≢ i) × (place ≡ j))

      from : (j : ℕ) (f : Key × ℕ) → slice_get es' j ≡ Some f → From j f
      from j f h =
          let m = moved es i j (c.key, c.place) f within (ap (λ l. slice_get l j) (sym gone) ∙ h) in
          elim m.1 [
            | inl k ↦ record { place = length es - 1; there = k.1; fits = m.0; how = inl (k.0, refl) }
            | inr k ↦ record { place = j; there = k.1; fits = m.0; how = inr (k.0, refl) }
          ]

      is_other : (j : ℕ) (f : Key × ℕ) → From j f → f.1 ≢ c.place
      is_other j f m p =
          let same : m.place ≡ i = d.apart m.place i f (c.key, c.place) m.there c.there p in
          elim m.how [
            | inl k ↦ let fits = m.fits in absurd (omega (arith, fits, same, k.0, k.1))
            | inr k ↦ k.0 (sym k.1 ∙ same)
          ]

      kept_same : (j : ℕ) (f : Key × ℕ) → From j f → get now' f.1 ≡ get now f.1
      kept_same j f m = updates.others f.1 (is_other j f m)

      there' : AreThere es' now'
      there' j f h = let m = from j f h in subst IsSome (sym (kept_same j f m)) (d.there m.place f m.there)

      same_from : (j k : ℕ) (e f : Key × ℕ) (m : From j e) (n : From k f) → m.place ≡ n.place → j ≡ k
      same_from j k e f m n same =
          let first = m.fits in
          let second = n.fits in
          elim m.how [
            | inl a ↦ elim n.how [ inl b ↦ a.0 ∙ sym b.0 | inr b ↦ absurd (omega (arith, second, same, a.1, b.1)) ]
            | inr a ↦ elim n.how [ inl b ↦ absurd (omega (arith, first, same, a.1, b.1)) | inr b ↦ sym a.1 ∙ same ∙ b.1 ]
          ]

      apart' : AreApart es'
      apart' j k e f h l p =
          let m = from j e h in
          let n = from k f l in
          same_from j k e f m n (d.apart m.place n.place e f m.there n.there p)

      is_later : (j : ℕ) (f : Key × ℕ) (m : From j f) → i ≤ j → left ≤ m.place
      is_later j f m k =
          let fits = m.fits in
          elim m.how [
            | inl a ↦ omega (arith, fits, next, a.0, a.1)
            | inr a ↦ omega (arith, next, k, a.0, a.1)
          ]

      none_there : (j : ℕ) (o : Option (Key × ℕ)) → slice_get es' j ≡ o → i ≤ j → concerns_place change now' o ≡ false
      none_there j None h k = refl
      none_there j (Some f) h k =
          let m = from j f h in
          ap (concerns_entry change f.0) (kept_same j f m) ∙ ap (concerns_place change now) (sym m.there)
          ∙ d.none m.place (is_later j f m k)

      same_for : (q : Key) (b : Bool) (o : Option ℕ) → same_key c.key q ≡ b → lookup (same_key q) es ≡ o
          → left_of change q (at now' (cond b None o)) ≡ left_of change q (at now o)
      same_for q true o t h =
          let keys = (same_key-Decides c.key q).0 t in
          let place = sym h ∙ ap (λ k. lookup (same_key k) es) (sym keys) ∙ c.first in
          let concerned = ap (λ k. concerns change k (kept_of c.entry)) (sym keys) ∙ c.concerned in
          sym (ap (λ r. left_of change q (at now r)) place
          ∙ ap (λ x. left_of change q (option_map kept_of x)) c.holds
          ∙ ap (λ b. cond b None (Some (kept_of c.entry))) concerned)
      same_for q false None t h = refl
      same_for q false (Some r) t h =
          ap (λ x. left_of change q (option_map kept_of x))
          (updates.others r
          (λ p. true≢false
          (sym ((same_key-Decides c.key q).1 (one_key es d.apart c.key q c.place c.first (h ∙ ap Some p))) ∙ t)))

      pub removes : Dropping first old es' now' i
      removes = record {
        there = there';
        apart = apart';
        as_many = let many = d.as_many in omega (arith, shorter, fewer, many);
        same = λ q.
            ap (left_of change q) (found_in es' now' q there' ∙ ap (at now') (looked q))
            ∙ same_for q (same_key c.key q) (lookup (same_key q) es) refl refl
            ∙ ap (left_of change q) (sym (found_in es now q d.there))
            ∙ d.same q;
        none = λ j k. none_there j (slice_get es' j) refl k;
      }

    -- .. as it was taken from the index and the slab
    pub takes : (c : ConcernedAt change es now i) (z : Key × ℕ) (es' : List (Key × ℕ)) (now' : Slab (Entry T))
        → Some z ≡ slice_get es i → es' ≡ swap_remove es i z
        → ((q : Key) → lookup (same_key q) es' ≡ cond (same_key z.0 q) None (lookup (same_key q) es))
        → Updates now now' z.1 None → length es' + 1 ≡ length es
        → (o : Option (Entry T)) → o ≡ get now z.1 → OnSome o (slab_len now' + 1 ≡ slab_len now) → Dropping first old es' now' i
    takes c z es' now' at gone looked updates shorter o is fewer =
        let one = one_item z (c.key, c.place) (at ∙ c.there) in
        removes c es' now' (gone ∙ ap (swap_remove es i) one)
        (λ q. looked q ∙ ap (λ (y : Key × ℕ). cond (same_key y.0 q) None (lookup (same_key q) es)) one)
        (subst (λ (y : Key × ℕ). Updates now now' y.1 None) one updates) shorter
        (subst (λ o. OnSome o (slab_len now' + 1 ≡ slab_len now)) (is ∙ ap (λ (y : Key × ℕ). get now y.1) one ∙ c.holds) fewer)

  module _ (first es : List (Key × ℕ)) (old now : Slab (Entry T)) (d : Dropping first old es now 0) where
    unconcerned : (q : Key) (x : Option (Entry T)) → concerns_entry change q x ≡ false
        → left_of change q (option_map kept_of x) ≡ option_map kept_of x
    unconcerned q None h = refl
    unconcerned q (Some x) h = ap (λ b. cond b None (Some (kept_of x))) h

    all_left : (q : Key) (o : Option ℕ) → lookup (same_key q) es ≡ o → left_of change q (at now o) ≡ at now o
    all_left q None h = refl
    all_left q (Some p) h =
        let a = looked_up (same_key q) es p h in
        let keys = (same_key-Decides q a.entry.0).0 a.passes in
        let at_place = sym (ap (concerns_place change now) a.there) ∙ d.none a.place (omega arith) in
        unconcerned q (get now p)
        (subst (λ r. concerns_entry change q (get now r) ≡ false) a.is
        (subst (λ k. concerns_entry change k (get now a.entry.1) ≡ false) (sym keys) at_place))

    pub ends : Drops change (kept_in first old) (kept_in es now)
    ends q =
        let f = found_in es now q d.there in
        f ∙ sym (all_left q (lookup (same_key q) es) refl) ∙ ap (left_of change q) (sym f) ∙ d.same q
