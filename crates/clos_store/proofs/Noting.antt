-- What is noted of instances stays right.
use Rattle.std.proofs.Common.{◌≡◌, ◌⊎◌, inl, inr, ℕ, zero, suc, ◌+◌, ◌≤◌, ◌<◌, ◌++◌, Bool, true, false, true≢false, List, [], ◌∷◌, Option, Some, None, length, length-append, arith, refl, ap, sym, subst, ◌∙◌}
use Rattle.std.specs.Prelude.{◌-◌, ◌==◌, IsSome, is_some, not, slice_get, slice_set, unwrap_or, if◌then◌else◌}
use Rattle.std.specs.Map.{lookup}
use Rattle.std.specs.Option.{option_map_or}
use Rattle.std.proofs.lemmas.Bool.{eqb-true}
use Rattle.std.proofs.lemmas.List.{length-set}
use Rattle.lisp_data.specs.Name.{Name, same_name}
use Rattle.lisp_data.specs.Value.{Val}
use Rattle.lisp_data.specs.declared.ids.CellId.{CellId}
use Rattle.clos_class.specs.Slots.{Layout, same_layout}
use Rattle.clos_class.specs.Table.{Table}
use Rattle.clos_store.specs.Objects.{due, due_for, layout, layout_for, unless_kept}
use Rattle.clos_store.specs.Store.{Contents, Object, Slots, instance, kept_layout, place_named, shared_of, slot_names, with_cell_named, with_changed, with_instance, with_place, with_slot, with_value}
use Rattle.clos_store.specs.Update.{alone, updated, with_change, with_update}
use Rattle.clos_store.specs.inner.Noted.{AreNoted}

abbrev Notes : Type 0
Notes = List (Option ℕ)

-- that this is noted of the instance at this place
abbrev Says : Notes → ℕ → ℕ → Type 0
Says ks n m = slice_get ks n ≡ Some (Some m)

not_said : {X : Type 0} {m : ℕ} → ◌≡◌ {A = Option (Option ℕ)} (Some None) (Some (Some m)) → X
not_said e = absurd (true≢false (sym (ap (λ o. is_some (unwrap_or o None)) e)))

not_there : {X : Type 0} {m : ℕ} → ◌≡◌ {A = Option (Option ℕ)} None (Some (Some m)) → X
not_there e = absurd (true≢false (sym (ap is_some e)))

-- ---- one comes at the end

said_before : (ks : Notes) (n m : ℕ) → Says (ks ++ None ∷ []) n m → Says ks n m
said_before [] zero m h = not_said h
said_before [] (suc n) m h = not_there h
said_before (k ∷ ks) zero m h = h
said_before (k ∷ ks) (suc n) m h = said_before ks n m h

-- the instance of which something is noted is the same
same_before : (ks : Notes) (os : List Object) (o : Object) (n m : ℕ) → length ks ≡ length os → Says ks n m → slice_get (os ++ o ∷ []) n ≡ slice_get os n
same_before [] os o n m e h = not_there h
same_before (k ∷ ks) [] o n m e h = absurd (omega (arith, e))
same_before (k ∷ ks) (x ∷ os) o zero m e h = refl
same_before (k ∷ ks) (x ∷ os) o (suc n) m e h = same_before ks os o n m (omega (arith, e)) h

with_one_more : (t : Table) (w : Contents) (now : ℕ) (ks : Notes) (o : Object) → AreNoted t w now ks → AreNoted t (with_instance o w) now (ks ++ None ∷ [])
with_one_more t w now ks o h = record {
  each = length-append ks (None ∷ []) ∙ ap (λ n. n + 1) h.each ∙ sym (length-append w.instances (o ∷ []));
  past = λ n m s. h.past n m (said_before ks n m s);
  up_to_date = λ n s. ap (due_for t) (same_before ks w.instances o n now h.each (said_before ks n now s)) ∙ h.up_to_date n (said_before ks n now s);
}

-- ---- one changes

length_changed : (change : Object → Object) (i : ℕ) (os : List Object) → length (with_changed change i os) ≡ length os
length_changed change i [] = refl
length_changed change zero (o ∷ os) = refl
length_changed change (suc i) (o ∷ os) = ap suc (length_changed change i os)

said_besides : (ks : Notes) (i n m : ℕ) → Says (slice_set ks i None) n m → Says ks n m
said_besides [] i n m h = h
said_besides (k ∷ ks) zero zero m h = not_said h
said_besides (k ∷ ks) zero (suc n) m h = h
said_besides (k ∷ ks) (suc i) zero m h = h
said_besides (k ∷ ks) (suc i) (suc n) m h = said_besides ks i n m h

same_besides : (ks : Notes) (os : List Object) (change : Object → Object) (i n m : ℕ) → Says (slice_set ks i None) n m → slice_get (with_changed change i os) n ≡ slice_get os n
same_besides [] os change i n m h = not_there h
same_besides (k ∷ ks) [] change i n m h = refl
same_besides (k ∷ ks) (o ∷ os) change zero zero m h = not_said h
same_besides (k ∷ ks) (o ∷ os) change zero (suc n) m h = refl
same_besides (k ∷ ks) (o ∷ os) change (suc i) zero m h = refl
same_besides (k ∷ ks) (o ∷ os) change (suc i) (suc n) m h = same_besides ks os change i n m h

with_one_changed : (t : Table) (w : Contents) (now : ℕ) (ks : Notes) (change : Object → Object) (i : ℕ) → AreNoted t w now ks
    → AreNoted t (record w { instances = with_changed change i w.instances }) now (slice_set ks i None)
with_one_changed t w now ks change i h = record {
  each = length-set ks i None ∙ h.each ∙ sym (length_changed change i w.instances);
  past = λ n m s. h.past n m (said_besides ks i n m s);
  up_to_date = λ n s. ap (due_for t) (same_besides ks w.instances change i n now s) ∙ h.up_to_date n (said_besides ks i n now s);
}

pub noted_update : (t : Table) (w v : Contents) (now i : ℕ) (ks new : Notes) (l : Layout) → AreNoted t w now ks → v ≡ with_update i l w → new ≡ slice_set ks (i - 1) None
    → AreNoted t v now new
noted_update t w v now i ks new l h e k =
    subst (λ x. AreNoted t x now new) (sym e) (subst (AreNoted t (with_update i l w) now) (sym k) (with_one_changed t w now ks (λ o. updated w.cells o.class l o) (i - 1) h))

pub noted_change : (t : Table) (w v : Contents) (now i c : ℕ) (ks new : Notes) (l : Layout) → AreNoted t w now ks → IsSome (instance w i) → v ≡ with_change i c l w
    → new ≡ slice_set ks (i - 1) None ++ None ∷ [] → AreNoted t v now new
noted_change t w v now i c ks new l h there e k = by (instance w i) refl there
  where
    changed : Contents
    changed = record w { instances = with_changed (updated w.cells c l) (i - 1) w.instances }

    by : (o : Option Object) → instance w i ≡ o → IsSome o → AreNoted t v now new
    by None q h = absurd (true≢false (sym h))
    by (Some x) q there =
        subst (λ u. AreNoted t u now new) (sym (e ∙ ap (λ o. record changed { instances = changed.instances ++ alone o }) q))
        (subst (AreNoted t (with_instance x changed) now) (sym k)
        (with_one_more t changed now (slice_set ks (i - 1) None) x (with_one_changed t w now ks (updated w.cells c l) (i - 1) h)))

pub noted_instance : (t : Table) (w v : Contents) (now : ℕ) (ks new : Notes) (o : Object) → AreNoted t w now ks → v ≡ with_instance o w → new ≡ ks ++ None ∷ [] → AreNoted t v now new
noted_instance t w v now ks new o h e k = subst (λ x. AreNoted t x now new) (sym e) (subst (AreNoted t (with_instance o w) now) (sym k) (with_one_more t w now ks o h))

-- ---- a slot has another value

names_stay : (name : Name) (value : Option Val) (ss : Slots) → slot_names (with_value name value ss) ≡ slot_names ss
names_stay name value [] = refl
names_stay name value (s ∷ ss) =
    elim (same_name name s.0)
    as (λ b. slot_names (if b then (s.0, value) ∷ ss else s ∷ with_value name value ss) ≡ s.0 ∷ slot_names ss)
    [ true ↦ refl | false ↦ ap (λ l. s.0 ∷ l) (names_stay name value ss) ]

due_stays : (t : Table) (name : Name) (value : Option Val) (o : Object) → due_for t (Some (record o { slots = with_value name value o.slots })) ≡ due_for t (Some o)
due_stays t name value o = by (layout t o.class)
  where
    by : (l : Option Layout) → unless_kept (record o { slots = with_value name value o.slots }) l ≡ unless_kept o l
    by None = refl
    by (Some l) = ap (λ ns. if same_layout (record { locals = ns; shared = o.shared }) l then None else Some l) (names_stay name value o.slots)

same_due : (t : Table) (change : Object → Object) (i n : ℕ) (os : List Object) → ((o : Object) → due_for t (Some (change o)) ≡ due_for t (Some o))
    → due_for t (slice_get (with_changed change i os) n) ≡ due_for t (slice_get os n)
same_due t change i n [] h = refl
same_due t change zero zero (o ∷ os) h = h o
same_due t change zero (suc n) (o ∷ os) h = refl
same_due t change (suc i) zero (o ∷ os) h = refl
same_due t change (suc i) (suc n) (o ∷ os) h = same_due t change i n os h

with_value_set : (t : Table) (w : Contents) (now i : ℕ) (ks : Notes) (name : Name) (value : Option Val) (p : Option ℕ) → AreNoted t w now ks → AreNoted t (with_place i name value w p) now ks
with_value_set t w now i ks name value None h = by (lookup (same_name name) (shared_of w i))
  where
    by : (c : Option CellId) → AreNoted t (with_cell_named c value w) now ks
    by None = h
    by (Some c) = record { each = h.each; past = h.past; up_to_date = h.up_to_date }
with_value_set t w now i ks name value (Some p) h = record {
  each = h.each ∙ sym (length_changed (λ o. record o { slots = with_value name value o.slots }) (i - 1) w.instances);
  past = h.past;
  up_to_date = λ n s. same_due t (λ o. record o { slots = with_value name value o.slots }) (i - 1) n w.instances (due_stays t name value) ∙ h.up_to_date n s;
}

pub noted_slot : (t : Table) (w v : Contents) (now i : ℕ) (ks : Notes) (name : Name) (value : Option Val) → AreNoted t w now ks → v ≡ with_slot i name value w → AreNoted t v now ks
noted_slot t w v now i ks name value h e = subst (λ x. AreNoted t x now ks) (sym e) (with_value_set t w now i ks name value (place_named w i name) h)

-- ---- one is seen to be up to date

said_then : (ks : Notes) (i n m now : ℕ) → Says (slice_set ks i (Some now)) n m → Says ks n m ⊎ ((n ≡ i) × (m ≡ now))
said_then [] i n m now h = inl h
said_then (k ∷ ks) zero zero m now h = inr (refl, sym (ap (λ o. unwrap_or (unwrap_or o None) now) h))
said_then (k ∷ ks) zero (suc n) m now h = inl h
said_then (k ∷ ks) (suc i) zero m now h = inl h
said_then (k ∷ ks) (suc i) (suc n) m now h = by (said_then ks i n m now h)
  where
    by : Says ks n m ⊎ ((n ≡ i) × (m ≡ now)) → Says ks n m ⊎ ((suc n ≡ suc i) × (m ≡ now))
    by (inl s) = inl s
    by (inr e) = inr (ap suc e.0, e.1)

-- the instance of this number is the one at the place before it
placed : (t : Table) (w : Contents) (i : ℕ) → 0 < i → due t w i ≡ None → due_for t (slice_get w.instances (i - 1)) ≡ None
placed t w i p d = by (i == 0) refl d
  where
    by : (b : Bool) → (i == 0) ≡ b → due_for t (if b then None else slice_get w.instances (i - 1)) ≡ None → due_for t (slice_get w.instances (i - 1)) ≡ None
    by true e d = let q = eqb-true i 0 e in absurd (omega (arith, p, q))
    by false e d = d

pub noted_seen : (t : Table) (w : Contents) (now i : ℕ) (ks new : Notes) → AreNoted t w now ks → 0 < i → due t w i ≡ None → new ≡ slice_set ks (i - 1) (Some now) → AreNoted t w now new
noted_seen t w now i ks new h p d k = subst (AreNoted t w now) (sym k) (record {
  each = length-set ks (i - 1) (Some now) ∙ h.each;
  past = λ n m s. past n m (said_then ks (i - 1) n m now s);
  up_to_date = λ n s. up_to_date n (said_then ks (i - 1) n now now s);
})
  where
    past : (n m : ℕ) → Says ks n m ⊎ ((n ≡ i - 1) × (m ≡ now)) → m ≤ now
    past n m (inl s) = h.past n m s
    past n m (inr e) = let q = e.1 in omega (arith, q)

    up_to_date : (n : ℕ) → Says ks n now ⊎ ((n ≡ i - 1) × (now ≡ now)) → due_for t (slice_get w.instances n) ≡ None
    up_to_date n (inl s) = h.up_to_date n s
    up_to_date n (inr e) = subst (λ k. due_for t (slice_get w.instances k) ≡ None) (sym e.0) (placed t w i p d)

pub due_noted : (t : Table) (w : Contents) (now i : ℕ) (ks : Notes) → AreNoted t w now ks → Says ks (i - 1) now → due t w i ≡ None
due_noted t w now i ks h s =
    elim (i == 0) as (λ b. due_for t (if b then None else slice_get w.instances (i - 1)) ≡ None) [ true ↦ refl | false ↦ h.up_to_date (i - 1) s ]

-- ---- a class is defined

pub noted_definition : (t u : Table) (w v : Contents) (now next : ℕ) (ks : Notes) → AreNoted t w now ks → v.instances ≡ w.instances → next ≡ now + 1 → AreNoted u v next ks
noted_definition t u w v now next ks h e k = record {
  each = h.each ∙ ap length (sym e);
  past = λ n m s. let p = h.past n m s in omega (arith, p, k);
  up_to_date = λ n s. let p = h.past n next s in absurd (omega (arith, p, k));
}

-- ---- the layout that is due

pub none_due : (t : Table) (o : Option Object) → layout_for t o ≡ None → due_for t o ≡ None
none_due t None h = refl
none_due t (Some o) h = ap (unless_kept o) h

pub none_stale : (t : Table) (o : Option Object) (l : Layout) → layout_for t o ≡ Some l → option_map_or (λ o. not (same_layout (kept_layout o) l)) o false ≡ false → due_for t o ≡ None
none_stale t None l h e = refl
none_stale t (Some o) l h e = ap (unless_kept o) h ∙ by (same_layout (kept_layout o) l) e
  where
    by : (b : Bool) → not b ≡ false → ◌≡◌ {A = Option Layout} (if b then None else Some l) None
    by true e = refl
    by false e = absurd (true≢false e)

pub one_stale : (t : Table) (o : Option Object) (l : Layout) → layout_for t o ≡ Some l → option_map_or (λ o. not (same_layout (kept_layout o) l)) o false ≡ true → due_for t o ≡ Some l
one_stale t None l h e = absurd (true≢false (sym e))
one_stale t (Some o) l h e = ap (unless_kept o) h ∙ by (same_layout (kept_layout o) l) e
  where
    by : (b : Bool) → not b ≡ true → ◌≡◌ {A = Option Layout} (if b then None else Some l) (Some l)
    by true e = absurd (true≢false (sym e))
    by false e = refl
