-- The dependents that a session was handed, of which one after another changes.
use Rattle.std.proofs.Common.{◌≡◌, ◌⊎◌, inl, inr, ℕ, zero, suc, ◌==◌, ◌+◌, ◌<◌, ◌≤◌, Bool, true, false, List, [], ◌∷◌, Some, length, arith, refl, ap, sym, subst, ◌∙◌}
use Rattle.std.specs.Prelude.{map, slice_get, slice_index_or, slice_set}
use Rattle.std.proofs.lemmas.Bool.{eqb-false, eqb-true}
use Rattle.clos_watch.specs.Watching.{Watching, times_told}
use Rattle.clos_watch.specs.declared.notice.Notice.{Notice}

module _ {D : Type 0} where
  pub set_length : (ds : List D) (p : ℕ) (e : D) → length (slice_set ds p e) ≡ length ds
  set_length [] p e = refl
  set_length (d ∷ ds) zero e = refl
  set_length (d ∷ ds) (suc p) e = ap suc (set_length ds p e)

  get_here : (ds : List D) (p : ℕ) (e : D) → p < length ds → slice_get (slice_set ds p e) p ≡ Some e
  get_here [] p e h = absurd (omega (arith, h))
  get_here (d ∷ ds) zero e h = refl
  get_here (d ∷ ds) (suc p) e h = get_here ds p e (omega (arith, h))

  get_there : (ds : List D) (p q : ℕ) (e : D) → (p ≡ q → ⊥) → slice_get (slice_set ds p e) q ≡ slice_get ds q
  get_there [] p q e h = refl
  get_there (d ∷ ds) zero zero e h = absurd (h refl)
  get_there (d ∷ ds) zero (suc q) e h = refl
  get_there (d ∷ ds) (suc p) zero e h = refl
  get_there (d ∷ ds) (suc p) (suc q) e h = get_there ds p q e (λ i. h (ap suc i))

  pub some_is : (d e : D) → Some d ≡ Some e → d ≡ e
  some_is d e h = cc

  -- what stands at a place after another one came to stand at p
  pub at_place : (ds : List D) (p q : ℕ) (e f : D) → p < length ds → slice_get (slice_set ds p e) q ≡ Some f → ((p ≡ q) × (e ≡ f)) ⊎ (((p ≡ q) → ⊥) × (slice_get ds q ≡ Some f))
  at_place ds p q e f l h = by (p == q) refl
    where
      by : (b : Bool) → (p == q) ≡ b → ((p ≡ q) × (e ≡ f)) ⊎ (((p ≡ q) → ⊥) × (slice_get ds q ≡ Some f))
      by true i = let k : p ≡ q = eqb-true p q i in inl (k, some_is e f (sym (get_here ds p e l) ∙ subst (λ v. slice_get (slice_set ds p e) v ≡ Some f) (sym k) h))
      by false i = inr (eqb-false p q i, sym (get_there ds p q e (eqb-false p q i)) ∙ h)

  pub got_below : (ds : List D) (p : ℕ) (d : D) → slice_get ds p ≡ Some d → p < length ds
  got_below [] p d h = cc
  got_below (x ∷ ds) zero d h = omega arith
  got_below (x ∷ ds) (suc p) d h = let l : p < length ds = got_below ds p d h in omega (arith, l)

  pub index_get : (ds : List D) (p : ℕ) (x : D) → p < length ds → slice_get ds p ≡ Some (slice_index_or ds p x)
  index_get [] p x h = absurd (omega (arith, h))
  index_get (d ∷ ds) zero x h = refl
  index_get (d ∷ ds) (suc p) x h = index_get ds p x (omega (arith, h))

  pub map_set : {N : Type 0} (name : D → N) (ds : List D) (p : ℕ) (d e : D) → slice_get ds p ≡ Some d → name e ≡ name d
      → map name (slice_set ds p e) ≡ map name ds
  map_set name [] p d e h q = refl
  map_set name (x ∷ ds) zero d e h q = ap (λ n. n ∷ map name ds) (q ∙ ap name (sym (some_is x d h)))
  map_set name (x ∷ ds) (suc p) d e h q = ap (λ ns. name x ∷ ns) (map_set name ds p d e h q)

  -- ---- they are prepared, one after another

  module _ {N : Type 0} (name : D → N) (told : D → List Notice) (room : D → ℕ) (w : Watching) (ns : List Notice) (old : List D) where
    -- those before this place have room, and none heard more or has less room
    pub record Prepares (now : List D) (place : ℕ) : Type 0 where
      pub same : length now ≡ length old
      pub names : map name now ≡ map name old
      pub ready : (p : ℕ) (d : D) → p < place → slice_get now p ≡ Some d → times_told w ns p ≤ room d
      pub kept : (p : ℕ) (d e : D) → slice_get old p ≡ Some d → slice_get now p ≡ Some e → (told e ≡ told d) × (room d ≤ room e)

    pub prepares_first : Prepares old 0
    prepares_first = record {
      same = refl;
      names = refl;
      ready = λ p d l h. absurd (omega (arith, l));
      kept = λ p d e g h. let q : d ≡ e = some_is d e (sym g ∙ h) in (ap told (sym q), subst (λ v. room d ≤ room v) q (omega arith));
    }

    -- the one at this place was prepared
    module _ (now : List D) (place : ℕ) (d e : D) (g : Prepares now place) (l : place < length now) (h : slice_get now place ≡ Some d) (t : told e ≡ told d) (r : room d ≤ room e) where
      kept_by : (p : ℕ) (c f : D) → slice_get old p ≡ Some c → ((place ≡ p) × (e ≡ f)) ⊎ (((place ≡ p) → ⊥) × (slice_get now p ≡ Some f)) → (told f ≡ told c) × (room c ≤ room f)
      kept_by p c f i (inl k) =
          let m : (told d ≡ told c) × (room c ≤ room d) = g.kept place c d (subst (λ v. slice_get old v ≡ Some c) (sym k.0) i) h in
          let n : room c ≤ room d = m.1 in
          subst (λ v. (told v ≡ told c) × (room c ≤ room v)) k.1 (t ∙ m.0, omega (arith, n, r))
      kept_by p c f i (inr k) = g.kept p c f i k.1

      pub kept_then : (p : ℕ) (c f : D) → slice_get old p ≡ Some c → slice_get (slice_set now place e) p ≡ Some f → (told f ≡ told c) × (room c ≤ room f)
      kept_then p c f i j = kept_by p c f i (at_place now place p e f l j)

      ready_by : times_told w ns place ≤ room e → (p : ℕ) (f : D) → p < place + 1 → ((place ≡ p) × (e ≡ f)) ⊎ (((place ≡ p) → ⊥) × (slice_get now p ≡ Some f)) → times_told w ns p ≤ room f
      ready_by m p f i (inl k) = subst (λ v. times_told w ns p ≤ room v) k.1 (subst (λ v. times_told w ns v ≤ room e) k.0 m)
      ready_by m p f i (inr k) = g.ready p f (omega (arith, i, k.0)) k.1

      module _ (m : name e ≡ name d) where
        pub names_then : map name (slice_set now place e) ≡ map name old
        names_then = map_set name now place d e h m ∙ g.names

        pub prepares_next : times_told w ns place ≤ room e → Prepares (slice_set now place e) (place + 1)
        prepares_next k = record {
          same = set_length now place e ∙ g.same;
          names = names_then;
          ready = λ p f i j. ready_by k p f i (at_place now place p e f l j);
          kept = kept_then;
        }
