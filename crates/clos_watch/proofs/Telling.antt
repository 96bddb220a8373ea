-- The dependents of a metaobject are told, one after another.
use Rattle.std.proofs.Common.{◌≡◌, ◌⊎◌, inl, inr, ℕ, suc, ◌==◌, ◌<◌, ◌++◌, Bool, true, false, List, [], ◌∷◌, Some, length, arith, refl, ap, sym, subst, ◌∙◌}
use Rattle.std.specs.Prelude.{not, ◌&&◌, ◌||◌, map, slice_get, slice_index_or, slice_set, if◌then◌else◌}
use Rattle.std.proofs.lemmas.Bool.{eq-eqb, eqb-false, eqb-true}
use Rattle.clos_watch.specs.Rows.{Once}
use Rattle.clos_watch.specs.Watching.{has}
use Rattle.clos_watch.specs.declared.notice.Notice.{Notice}
use Rattle.clos_watch.proofs.Handed.{at_place, got_below, index_get, map_set, set_length, some_is}

has_first : (q : ℕ) (ps : List ℕ) → has (q ∷ ps) q ≡ true
has_first q ps = ap (λ b. b || has ps q) (eq-eqb q q refl)

other_by : (p q : ℕ) (ps : List ℕ) (b : Bool) → (p == q) ≡ b → ((q ≡ p) → ⊥) → has (q ∷ ps) p ≡ has ps p
other_by p q ps true e n = absurd (n (sym (eqb-true p q e)))
other_by p q ps false e n = ap (λ b. b || has ps p) e

or_later : (a b : Bool) → b ≡ true → (a || b) ≡ true
or_later true b h = refl
or_later false b h = h

-- of these places, so many are left
module _ {D N : Type 0} (name : D → N) (told : D → List Notice) (room : D → ℕ) (n : Notice) (row : List ℕ) (old : List D) where
  -- what one that has heard the notice, or has not, is to the one that stood there
  abbrev Hears : Bool → D → D → Type 0
  Hears b d e = (told e ≡ (if b then told d ++ n ∷ [] else told d)) × ((if b then suc (room e) else room e) ≡ room d)

  pub record Tells (now : List D) (left : List ℕ) : Type 0 where
    pub same : length now ≡ length old
    pub names : map name now ≡ map name old
    pub once : Once left
    pub among : (p : ℕ) → has left p ≡ true → has row p ≡ true
    pub heard : (p : ℕ) (d e : D) → slice_get old p ≡ Some d → slice_get now p ≡ Some e → Hears (has row p && not (has left p)) d e

  not_yet : (a b : Bool) → b ≡ true → (a && not b) ≡ false
  not_yet true b h = ap not h
  not_yet false b h = refl

  first_by : (p : ℕ) (d e : D) (b : Bool) → has row p ≡ b → d ≡ e → Hears (b && not b) d e
  first_by p d e true h q = (ap told (sym q), ap room (sym q))
  first_by p d e false h q = (ap told (sym q), ap room (sym q))

  pub tells_first : Once row → Tells old row
  tells_first o = record {
    same = refl;
    names = refl;
    once = o;
    among = λ p h. h;
    heard = λ p d e h i. first_by p d e (has row p) refl
        (some_is d e (sym h ∙ i));
  }

  module _ (now : List D) (q : ℕ) (rest : List ℕ) (g : Tells now (q ∷ rest)) where
    pub in_row : has row q ≡ true
    in_row = g.among q (has_first q rest)

    -- the one that is told next has heard nothing yet
    pub before : (d c : D) → slice_get old q ≡ Some d → slice_get now q ≡ Some c → (told c ≡ told d) × (room c ≡ room d)
    before d c h i = subst (λ b. Hears b d c) (not_yet (has row q) (has (q ∷ rest) q) (has_first q rest)) (g.heard q d c h i)

    -- no one stands there
    past_by : (p : ℕ) (b : Bool) → (p == q) ≡ b → q ≡ p ⊎ ((q ≡ p) → ⊥)
    past_by p true e = inl (sym (eqb-true p q e))
    past_by p false e = inr (λ k. eqb-false p q e (sym k))

    past_heard : (p : ℕ) (d f : D) → (q < length old → ⊥) → slice_get old p ≡ Some d → slice_get now p ≡ Some f → q ≡ p ⊎ ((q ≡ p) → ⊥)
        → Hears (has row p && not (has rest p)) d f
    past_heard p d f z h j (inl k) = absurd (z (subst (λ v. v < length old) (sym k) (got_below old p d h)))
    past_heard p d f z h j (inr k) = subst (λ v. Hears (has row p && not v) d f) (other_by p q rest (p == q) refl k) (g.heard p d f h j)

    pub tells_past : (q < length now → ⊥) → Tells now rest
    tells_past z =
        let m : q < length old → ⊥ = λ l. let e : length now ≡ length old = g.same in z (omega (arith, l, e)) in
        record {
          same = g.same;
          names = g.names;
          once = g.once.1;
          among = λ p h. g.among p (or_later (p == q) (has rest p) h);
          heard = λ p d f h j. past_heard p d f m h j (past_by p (p == q) refl);
        }

    module _ (c e : D) (l : q < length now) (i : slice_get now q ≡ Some c) (t : told e ≡ told c ++ n ∷ []) (r : suc (room e) ≡ room c) where
      here : (d : D) → slice_get old q ≡ Some d → Hears (has row q && not (has rest q)) d e
      here d h =
          let b : (told c ≡ told d) × (room c ≡ room d) = before d c h i in
          let k : (has row q && not (has rest q)) ≡ true = ap (λ v. v && not (has rest q)) in_row ∙ ap not g.once.0 in
          subst (λ v. Hears v d e) (sym k) (t ∙ ap (λ xs. xs ++ n ∷ []) b.0, r ∙ b.1)

      heard_by : (p : ℕ) (d f : D) → slice_get old p ≡ Some d → ((q ≡ p) × (e ≡ f)) ⊎ (((q ≡ p) → ⊥) × (slice_get now p ≡ Some f)) → Hears (has row p && not (has rest p)) d f
      heard_by p d f h (inl k) = subst (λ v. Hears (has row p && not (has rest p)) d v) k.1 (subst (λ v. slice_get old v ≡ Some d → Hears (has row v && not (has rest v)) d e) k.0 (here d) h)
      heard_by p d f h (inr k) = subst (λ v. Hears (has row p && not v) d f) (other_by p q rest (p == q) refl k.0) (g.heard p d f h k.1)

      pub tells_next : name e ≡ name c → Tells (slice_set now q e) rest
      tells_next m = record {
        same = set_length now q e ∙ g.same;
        names = map_set name now q c e i m ∙ g.names;
        once = g.once.1;
        among = λ p h. g.among p (or_later (p == q) (has rest p) h);
        heard = λ p d f h j. heard_by p d f h (at_place now q p e f l j);
      }

  pub taken : (now : List D) (left : List ℕ) (q : ℕ) (rest : List ℕ) → Tells now left → left ≡ q ∷ rest → Tells now (q ∷ rest)
  taken now left q rest g e = subst (Tells now) e g

  -- one that is there has room
  pub has_room : (now : List D) (q : ℕ) (rest : List ℕ) (x : D) → Tells now (q ∷ rest) → q < length now
      → ((p : ℕ) (d : D) → has row p ≡ true → slice_get old p ≡ Some d → 0 < room d)
      → 0 < room (slice_index_or now q x)
  has_room now q rest x g l r =
      let e : length now ≡ length old = g.same in
      let h : slice_get old q ≡ Some (slice_index_or old q x) = index_get old q x (omega (arith, l, e)) in
      let b : room (slice_index_or now q x) ≡ room (slice_index_or old q x) =
      (before now q rest g (slice_index_or old q x) (slice_index_or now q x) h (index_get now q x l)).1 in
      let m : 0 < room (slice_index_or old q x) = r q (slice_index_or old q x) (in_row now q rest g) h in omega (arith, b, m)

  all_by : (a : Bool) → (a && not false) ≡ a
  all_by true = refl
  all_by false = refl

  pub tells_last : (now : List D) (left : List ℕ) → Tells now left → length left ≡ 0 → (p : ℕ) (d e : D) → slice_get old p ≡ Some d → slice_get now p ≡ Some e → Hears (has row p) d e
  tells_last now [] g z p d e h i = subst (λ b. Hears b d e) (all_by (has row p)) (g.heard p d e h i)
  tells_last now (q ∷ rest) g z p d e h i = absurd (omega (arith, z))
