-- What dependents in a list heard, and have room for, by their places.
use Rattle.std.proofs.Common.{◌≡◌, ℕ, zero, suc, ◌+◌, ◌<◌, ◌≤◌, ◌++◌, Bool, true, false, List, [], ◌∷◌, Option, Some, None, Result, Ok, Err, length, append_assoc, append-nil, arith, refl, ap, sym, subst, ◌∙◌}
use Rattle.std.specs.Prelude.{OnOk, drop, map, option_map, slice_get, take, unwrap_or, if◌then◌else◌}
use Rattle.std.proofs.lemmas.List.{length-map}
use Rattle.lisp_data.specs.Name.{Name, same_name}
use Rattle.clos_watch.specs.Handed.{at_place, place_of}
use Rattle.clos_watch.specs.Watching.{Watching, heard_after, heard_by, heard_from, hears, times_told}
use Rattle.clos_watch.specs.declared.notice.Notice.{Notice}
use Rattle.clos_watch.proofs.Handed.{got_below}

on_ok : {T E A B : Type 0} (r : Result T E) → (A → B) → OnOk r A → OnOk r B
on_ok (Ok v) f h = f h
on_ok (Err e) f h = h

-- ---- the place of a name

further : (k : ℕ) (o : Option ℕ) → option_map (λ i. k + i) (option_map suc o) ≡ option_map (λ i. k + 1 + i) o
further k None = refl
further k (Some i) = let e : k + suc i ≡ k + 1 + i = omega arith in ap Some e

pub place_found : (k : ℕ) (n : Name) (ns : List Name) (name : Name) (found : Option ℕ) → option_map (λ i. k + i)
    (place_of (n ∷ ns) name) ≡ found → same_name n name ≡ true → Some k ≡ found
place_found k n ns name found e h =
    let z : k ≡ k + 0 = omega arith in
    ap Some z ∙ sym (ap (λ b. option_map (λ i. k + i) (if b then Some 0 else option_map suc (place_of ns name))) h) ∙ e

pub place_later : (k : ℕ) (n : Name) (ns : List Name) (name : Name) (found : Option ℕ) → option_map (λ i. k + i)
    (place_of (n ∷ ns) name) ≡ found → same_name n name ≡ false
    → option_map (λ i. k + 1 + i) (place_of ns name) ≡ found
place_later k n ns name found e h =
    sym (further k (place_of ns name)) ∙ sym (ap (λ b. option_map (λ i. k + i) (if b then Some 0 else option_map suc (place_of ns name))) h)
    ∙ e

module _ {D : Type 0} where
  not_there : (ds : List D) (p : ℕ) → p < length ds → slice_get ds p ≡ None → ⊥
  not_there [] p h e = omega (arith, h)
  not_there (d ∷ ds) zero h e = cc
  not_there (d ∷ ds) (suc p) h e = not_there ds p (omega (arith, h)) e

  pub past : (ds : List D) (p : ℕ) → length ds ≤ p → slice_get ds p ≡ None
  past [] p h = refl
  past (d ∷ ds) zero h = absurd (omega (arith, h))
  past (d ∷ ds) (suc p) h = past ds p (omega (arith, h))

  cut : (xs ys : List D) → take (length xs) (xs ++ ys) ≡ xs
  cut [] ys = refl
  cut (x ∷ xs) ys = ap (λ zs. x ∷ zs) (cut xs ys)

  -- a slice of the whole list that was written to
  pub written : {N : Type 0} (name : D → N) (old now : List D) (n : ℕ) → n ≡ length old → map name now ≡ map name old
      → take n (now ++ drop (length now) old) ≡ now
  written name old now n e m =
      let l : length now ≡ length old = sym (length-map now name) ∙ ap length m ∙ length-map old name in
      ap (λ k. take k (now ++ drop (length now) old)) (e ∙ sym l) ∙ cut now (drop (length now) old)

  -- what holds of each that is there
  module _ (room : D → ℕ) (want : ℕ → ℕ) (ds : List D) (h : (p : ℕ) (d : D) → slice_get ds p ≡ Some d → want p ≤ room d) where
    ready_by : (p : ℕ) (o : Option D) → p < length ds → slice_get ds p ≡ o → want p ≤ at_place room 0 o
    ready_by p None l e = absurd (not_there ds p l e)
    ready_by p (Some d) l e = h p d e

    pub ready_at : {N : Type 0} (name : D → N) (p : ℕ) → p < length (map name ds) → want p ≤ at_place room 0 (slice_get ds p)
    ready_at name p l = let e : length (map name ds) ≡ length ds = length-map ds name in ready_by p (slice_get ds p)
        (omega (arith, l, e)) refl

  pub all_ready : {N T E : Type 0} (name : D → N) (room : D → ℕ) (want : ℕ → ℕ) (ds new : List D) (r : Result T E) → ds ≡ new
      → OnOk r ((p : ℕ) (d : D) → slice_get new p ≡ Some d → want p ≤ room d)
      → OnOk r ((p : ℕ) → p < length (map name ds) → want p ≤ at_place room 0 (slice_get ds p))
  all_ready name room want ds new r e h =
      subst (λ xs. OnOk r ((p : ℕ) → p < length (map name xs) → want p ≤ at_place room 0 (slice_get xs p))) (sym e)
      (on_ok r (λ f p l. ready_at room want new f name p l) h)

  -- the same, the other way round
  pub there_ready : (room : D → ℕ) (want : ℕ → ℕ) (ds : List D) {N : Type 0} (name : D → N)
      → ((p : ℕ) → p < length (map name ds) → want p ≤ at_place room 0 (slice_get ds p))
      → (p : ℕ) (d : D) → slice_get ds p ≡ Some d → want p ≤ room d
  there_ready room want ds name h p d e =
      let l : p < length ds = got_below ds p d e in
      let m : length (map name ds) ≡ length ds = length-map ds name in
      subst (λ o. want p ≤ at_place room 0 o) e (h p (omega (arith, l, m)))

  -- what one has heard, in the list of what each has heard
  pub told_there : (told : D → List Notice) (ds : List D) (p : ℕ) (d : D) → slice_get ds p ≡ Some d
      → unwrap_or (slice_get (map told ds) p) [] ≡ told d
  told_there told [] p d e = absurd (cc e)
  told_there told (x ∷ ds) zero d e = cc e
  told_there told (x ∷ ds) (suc p) d e = told_there told ds p d e

  pub told_nowhere : (told : D → List Notice) (ds : List D) (p : ℕ) → slice_get ds p ≡ None → unwrap_or (slice_get (map told ds) p) [] ≡ []
  told_nowhere told [] p e = refl
  told_nowhere told (x ∷ ds) zero e = absurd (cc e)
  told_nowhere told (x ∷ ds) (suc p) e = told_nowhere told ds p e

  -- where each has heard what it had heard
  same_told : (told : D → List Notice) (old now : List D) → length now ≡ length old
      → ((p : ℕ) (d e : D) → slice_get old p ≡ Some d → slice_get now p ≡ Some e → told e ≡ told d) → map told now ≡ map told old
  same_told told [] [] l h = refl
  same_told told [] (e ∷ es) l h = absurd (omega (arith, l))
  same_told told (d ∷ ds) [] l h = absurd (omega (arith, l))
  same_told told (d ∷ ds) (e ∷ es) l h =
      ap (λ x. x ∷ map told es) (h 0 d e refl refl)
      ∙ ap (λ xs. told d ∷ xs) (same_told told ds es (omega (arith, l)) (λ p x y f g. h (suc p) x y f g))

  -- where each has heard those of these notices that it hears
  all_told : (told : D → List Notice) (w : Watching) (all : List Notice) (n : ℕ) (old now : List D) → length now ≡ length old
      → ((p : ℕ) (d e : D) → slice_get old p ≡ Some d → slice_get now p ≡ Some e → told e ≡ told d ++ heard_by w all (n + p))
      → map told now ≡ heard_from w all n (map told old)
  all_told told w all n [] [] l h = refl
  all_told told w all n [] (e ∷ es) l h = absurd (omega (arith, l))
  all_told told w all n (d ∷ ds) [] l h = absurd (omega (arith, l))
  all_told told w all n (d ∷ ds) (e ∷ es) l h =
      let z : n + 0 ≡ n = omega arith in
      ap (λ x. x ∷ map told es) (h 0 d e refl refl ∙ ap (λ k. told d ++ heard_by w all k) z)
      ∙ ap (λ xs. (told d ++ heard_by w all n) ∷ xs)
      (all_told told w all (suc n) ds es (omega (arith, l))
      (λ p x y f g. let s : n + suc p ≡ suc n + p = omega arith in h (suc p) x y f g ∙ ap (λ k. told x ++ heard_by w all k) s))

  module _ (told : D → List Notice) (room : D → ℕ) (old now : List D)
      (h : (p : ℕ) (d e : D) → slice_get old p ≡ Some d → slice_get now p ≡ Some e → (told e ≡ told d) × (room d ≤ room e)) where
    kept_by : (p : ℕ) (o n : Option D) → length now ≡ length old → slice_get old p ≡ o → slice_get now p ≡ n
        → at_place room 0 o ≤ at_place room 0 n
    kept_by p None n l e f = omega arith
    kept_by p (Some d) None l e f = let m : p < length old = got_below old p d e in absurd (not_there now p (omega (arith, l, m)) f)
    kept_by p (Some d) (Some x) l e f = (h p d x e f).1

    module _ {N : Type 0} (name : D → N) (ds : List D) (e : ds ≡ now) (m : map name now ≡ map name old) where
      as_long : length now ≡ length old
      as_long = sym (length-map now name) ∙ ap length m ∙ length-map old name

      pub room_kept : (p : ℕ) → at_place room 0 (slice_get old p) ≤ at_place room 0 (slice_get ds p)
      room_kept p =
          subst (λ xs. at_place room 0 (slice_get old p) ≤ at_place room 0 (slice_get xs p)) (sym e)
          (kept_by p (slice_get old p) (slice_get now p) as_long refl refl)

      pub told_kept : map told ds ≡ map told old
      told_kept = ap (map told) e ∙ same_told told old now as_long (λ p d x f g. (h p d x f g).0)

  -- ---- of these notices, so many are left to be told

  module _ {N : Type 0} (name : D → N) (told : D → List Notice) (room : D → ℕ) (w : Watching) (all : List Notice) (old : List D) where
    abbrev Hears : List Notice → ℕ → D → D → Type 0
    Hears left p d e = (told e ++ heard_by w left p ≡ told d ++ heard_by w all p) × (times_told w left p ≤ room e)

    pub record TellsOn (now : List D) (left : List Notice) : Type 0 where
      pub names : map name now ≡ map name old
      pub heard : (p : ℕ) (d e : D) → slice_get old p ≡ Some d → slice_get now p ≡ Some e → Hears left p d e

    some_is : (d e : D) → Some d ≡ Some e → d ≡ e
    some_is d e h = cc

    pub tells_on_first : ((p : ℕ) (d : D) → slice_get old p ≡ Some d → times_told w all p ≤ room d) → TellsOn old all
    tells_on_first h = record {
      names = refl;
      heard = λ p d e f g. let q : d ≡ e = some_is d e (sym f ∙ g) in (ap (λ v. told v ++ heard_by w all p) (sym q), h p e g);
    }

    module _ (now : List D) (x : Notice) (rest : List Notice) (g : TellsOn now (x ∷ rest)) where
      hears_room : (p : ℕ) (c : D) (b : Bool) → b ≡ true → (if b then suc (times_told w rest p) else times_told w rest p) ≤ room c
          → 0 < room c
      hears_room p c true h l = omega (arith, l)
      hears_room p c false h l = cc

      -- what stood at the place before
      there_before : (p : ℕ) (c : D) (o : Option D) → slice_get old p ≡ o → slice_get now p ≡ Some c → (d : D) × (slice_get old p ≡ Some d)
      there_before p c None e h =
          let l : p < length now = got_below now p c h in
          let m : length now ≡ length old = sym (length-map now name) ∙ ap length g.names ∙ length-map old name in absurd
          (not_there old p (omega (arith, l, m)) e)
      there_before p c (Some d) e h = (d, e)

      pub has_room : (p : ℕ) (c : D) → hears w x p ≡ true → slice_get now p ≡ Some c → 0 < room c
      has_room p c h i =
          let b : (d : D) × (slice_get old p ≡ Some d) = there_before p c (slice_get old p) refl i in
          hears_room p c (hears w x p) h (g.heard p b.0 c b.1 i).1

      module _ (now' : List D)
          (t : (p : ℕ) (c e : D) → slice_get now p ≡ Some c → slice_get now' p ≡ Some e
          → told e ≡ (if hears w x p then told c ++ x ∷ [] else told c))
          (r : (p : ℕ) (c e : D) → slice_get now p ≡ Some c → slice_get now' p ≡ Some e
          → (if hears w x p then suc (room e) else room e) ≡ room c) where
        told_by : (p : ℕ) (d c e : D) (b : Bool) → told e ≡ (if b then told c ++ x ∷ [] else told c)
            → (if b then suc (room e) else room e) ≡ room c
            → told c ++ (if b then x ∷ heard_by w rest p else heard_by w rest p) ≡ told d ++ heard_by w all p
            → (if b then suc (times_told w rest p) else times_told w rest p) ≤ room c → Hears rest p d e
        told_by p d c e true h k m n = (
          ap (λ xs. xs ++ heard_by w rest p) h ∙ append_assoc (told c) (x ∷ []) (heard_by w rest p)
              ∙ m,
          omega (arith, k, n),
        )
        told_by p d c e false h k m n = (ap (λ xs. xs ++ heard_by w rest p) h ∙ m, omega (arith, k, n))

        there_now : map name now' ≡ map name now → (p : ℕ) (e : D) (o : Option D) → slice_get now p ≡ o → slice_get now' p ≡ Some e
            → (c : D) × (slice_get now p ≡ Some c)
        there_now s p e None f h =
            let l : p < length now' = got_below now' p e h in
            let m : length now' ≡ length now = sym (length-map now' name) ∙ ap length s ∙ length-map now name in absurd
            (not_there now p (omega (arith, l, m)) f)
        there_now s p e (Some c) f h = (c, f)

        heard_next : map name now' ≡ map name now → (p : ℕ) (d e : D) → slice_get old p ≡ Some d → slice_get now' p ≡ Some e
            → Hears rest p d e
        heard_next s p d e f h =
            let c : (c : D) × (slice_get now p ≡ Some c) = there_now s p e (slice_get now p) refl h in
            let k : Hears (x ∷ rest) p d c.0 = g.heard p d c.0 f c.1 in
            told_by p d c.0 e (hears w x p) (t p c.0 e c.1 h) (r p c.0 e c.1 h) k.0 k.1

        tells_on_next : map name now' ≡ map name now → TellsOn now' rest
        tells_on_next s = record { names = s ∙ g.names; heard = heard_next s }

    -- also where it was a slice of the list that was written to
    pub tells_on_written : (now : List D) (x : Notice) (rest : List Notice) (now' ds : List D) → TellsOn now (x ∷ rest) → ds ≡ now'
        → ((p : ℕ) (c e : D) → slice_get now p ≡ Some c → slice_get now' p ≡ Some e
        → told e ≡ (if hears w x p then told c ++ x ∷ [] else told c))
        → ((p : ℕ) (c e : D) → slice_get now p ≡ Some c → slice_get now' p ≡ Some e
        → (if hears w x p then suc (room e) else room e) ≡ room c)
        → map name now' ≡ map name now → TellsOn ds rest
    tells_on_written now x rest now' ds g e t r s = subst (λ v. TellsOn v rest) (sym e) (tells_on_next now x rest g now' t r s)

    pub left_are : (now : List D) (left : List Notice) (x : Notice) (rest : List Notice) → TellsOn now left → left ≡ x ∷ rest
        → TellsOn now (x ∷ rest)
    left_are now left x rest g e = subst (TellsOn now) e g

    told_last : (now : List D) (left : List Notice) → TellsOn now left → length left ≡ 0 → (p : ℕ) (d e : D) → slice_get old p ≡ Some d
        → slice_get now p ≡ Some e
        → told e ≡ told d ++ heard_by w all p
    told_last now [] g z p d e f h = sym (append-nil (told e)) ∙ (g.heard p d e f h).0
    told_last now (x ∷ rest) g z p d e f h = absurd (omega (arith, z))

    pub tells_on_last : (now : List D) (left : List Notice) → TellsOn now left → length left ≡ 0 → map told now ≡ heard_after w all (map told old)
    tells_on_last now left g z =
        all_told told w all 0 old now (sym (length-map now name) ∙ ap length g.names ∙ length-map old name)
        (λ p d e f h. let n : p ≡ 0 + p = omega arith in told_last now left g z p d e f h ∙ ap (λ k. told d ++ heard_by w all k) n)
