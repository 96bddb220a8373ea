-- Instances that are given another layout.
use Rattle.std.proofs.Common.{◌≡◌, ℕ, zero, suc, ◌-◌, ◌++◌, true, false, List, [], ◌∷◌, Option, None, length, map, refl, ap, sym, subst, ◌∙◌, true≢false}
use Rattle.std.specs.Prelude.{IsSome, not, slice_get, slice_set, slice_index_or, ◌==◌, if◌then◌else◌}
use Rattle.std.specs.List.{filter, zip}
use Rattle.std.proofs.lemmas.List.{length-map}
use Rattle.lisp_data.specs.Name.{Name}
use Rattle.lisp_data.specs.Value.{Val}
use Rattle.lisp_data.specs.declared.ids.CellId.{CellId}
use Rattle.clos_class.specs.Slots.{Layout}
use Rattle.clos_store.specs.Store.{Contents, Held, Object, Slots, instance, slot_names, with_changed}
use Rattle.clos_store.specs.Update.{added, alone, bound, is_among, lost, updated, with_change, with_update}
use Rattle.clos_store.specs.UpdateView.{Tells, values_of}
use Rattle.clos_store.specs.declared.update.Discarded.{Discarded}
use Rattle.clos_store.proofs.Slots.{changed_there, names_of_zip}

-- ---- its slots

-- names beside what each has
pub slots_updated : (names : List Name) (f : Name → Option Val) → zip names (map f names) ≡ map {B = Name × Option Val} (λ n. (n, f n)) names
slots_updated [] f = refl
slots_updated (n ∷ ns) f = ap (λ l. (n, f n) ∷ l) (slots_updated ns f)

pub length_updated : (names : List Name) (f : Name → Option Val) → length (map f names) ≡ length names
length_updated names f = length-map names f

-- ---- what is told of it

-- the names of the slots that are lost are the names that are
names_of_lost : (names : List Name) (ss : Slots) → filter (λ n. not (is_among names n)) (slot_names ss) ≡ slot_names (lost names ss)
names_of_lost names [] = refl
names_of_lost names (s ∷ ss) =
    elim (not (is_among names s.0))
    as (λ b. (if b then s.0 ∷ filter (λ n. not (is_among names n)) (slot_names ss) else filter (λ n. not (is_among names n)) (slot_names ss)) ≡ slot_names (if b then s ∷ lost names ss else lost names ss))
    [ true ↦ ap (λ l. s.0 ∷ l) (names_of_lost names ss) | false ↦ names_of_lost names ss ]

-- what is told of an instance whose slots are names beside values
pub told_of_slots : (d : Discarded) (o : Object) (class : ℕ) (kept ks names ns : List Name) (slots ss : List (Option Val)) (shared : List (Name × CellId))
    → record { class = class; slots = zip kept slots; shared = shared } ≡ o → length slots ≡ length kept → ks ≡ kept → ss ≡ slots → ns ≡ names
    → d.added.items ≡ added o ns → d.discarded.items ≡ filter (λ n. not (is_among names n)) ks → values_of d.values.items ≡ bound (lost names (zip ks ss)) → Tells d o names
told_of_slots d o class kept ks names ns slots ss shared e l k z n a b v = record {
  added = a ∙ ap (added o) n;
  discarded = b ∙ ap (filter (λ n. not (is_among names n))) (k ∙ sym (names_of_zip kept slots l)) ∙ names_of_lost names (zip kept slots)
      ∙ ap (λ (x : Object). slot_names (lost names x.slots)) e;
  values = v ∙ ap (λ x. bound (lost names (zip x ss))) k ∙ ap (λ x. bound (lost names (zip kept x))) z ∙ ap (λ (x : Object). bound (lost names x.slots)) e;
}

-- ---- the store

pub updated_there : (w v : Held) (i : ℕ) (l : Layout) (o p : Object) (cs : List (Option Val)) (k : ℕ) → w ≡ v → o ≡ slice_index_or w.contents.instances (i - 1) o
    → cs ≡ w.contents.cells → k ≡ o.class → p ≡ updated cs k l o
    → record w { contents = record w.contents { instances = slice_set w.contents.instances (i - 1) p } } ≡ record v { contents = with_update i l v.contents }
updated_there w v i l o p cs k is e c h q =
    ap (λ os. record w { contents = record w.contents { instances = os } })
    (changed_there w.contents.instances (i - 1) o p (λ x. updated w.contents.cells x.class l x) e
    (q ∙ ap (λ x. updated x k l o) c ∙ ap (λ x. updated w.contents.cells x l o) h))
    ∙ ap (λ (u : Held). record u { contents = with_update i l u.contents }) is

-- the instance of this number by itself
alone_there : (w : Contents) (i : ℕ) (x : Object) → IsSome (instance w i) → x ≡ slice_index_or w.instances (i - 1) x → alone (instance w i) ≡ x ∷ []
alone_there w i x h e =
    (elim (i == 0)
    as (λ b. IsSome (if b then None else slice_get w.instances (i - 1)) → alone (if b then None else slice_get w.instances (i - 1)) ≡ x ∷ [])
    [ true ↦ λ h. absurd (true≢false (sym h)) | false ↦ λ h. found w.instances (i - 1) x h e ]) h
  where
    found : (os : List Object) (n : ℕ) (x : Object) → IsSome (slice_get os n) → x ≡ slice_index_or os n x → alone (slice_get os n) ≡ x ∷ []
    found [] n x h e = absurd (true≢false (sym h))
    found (o ∷ os) zero x h e = ap (λ y. y ∷ []) (sym e)
    found (o ∷ os) (suc n) x h e = found os n x h e

pub change_there : (w v : Held) (i c : ℕ) (l : Layout) (o p x y q : Object) (js ks : List Object) (cs : List (Option Val)) → w ≡ v → IsSome (instance v.contents i)
    → o ≡ slice_index_or w.contents.instances (i - 1) o → cs ≡ w.contents.cells → p ≡ updated cs c l o → js ≡ w.contents.instances
    → x ≡ slice_index_or js (i - 1) x → q ≡ x → y ≡ p → ks ≡ slice_set js (i - 1) y ++ q ∷ []
    → record w { contents = record w.contents { instances = ks } } ≡ record v { contents = with_change i c l v.contents }
change_there w v i c l o p x y q js ks cs is s e k h j z g f m =
    ap (λ os. record w { contents = record w.contents { instances = os } })
    (m ∙ ap (λ a. slice_set js (i - 1) a ++ q ∷ []) f ∙ ap (λ a. slice_set js (i - 1) p ++ a ∷ []) g
    ∙ ap (λ a. slice_set a (i - 1) p ++ x ∷ []) j
    ∙ ap (λ a. a ++ x ∷ [])
    (changed_there w.contents.instances (i - 1) o p (updated w.contents.cells c l) e (h ∙ ap (λ a. updated a c l o) k))
    ∙ ap (λ a. with_changed (updated w.contents.cells c l) (i - 1) w.contents.instances ++ a)
    (sym (alone_there w.contents i x there (z ∙ ap (λ a. slice_index_or a (i - 1) x) j))))
    ∙ ap (λ (u : Held). record u { contents = with_change i c l u.contents }) is
  where
    there : IsSome (instance w.contents i)
    there = subst (λ (u : Held). IsSome (instance u.contents i)) (sym is) s
