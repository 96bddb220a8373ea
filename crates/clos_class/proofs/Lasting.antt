-- What is kept of all classes.
use Rattle.std.proofs.Common.{◌≡◌, ℕ, zero, suc, ◌==◌, ◌+◌, Bool, true, false, List, [], ◌∷◌, ◌++◌, None, length, length-append, ◌<◌, ◌≤◌, arith, refl, ap, sym, subst, ◌∙◌}
use Rattle.std.specs.Prelude.{nat_lt, unwrap_or}
use Rattle.std.proofs.lemmas.Bool.{eqb-true, eqb-false, le-ltb, ltb-false, ltb-true}
use Rattle.std.proofs.lemmas.Option.{slice_get_past}
use Rattle.clos_hierarchy.specs.Classes.{Classes, lacking, list_in, listing_within}
use Rattle.clos_class.specs.declared.direct.ClassSlots.{ClassSlots}
use Rattle.clos_class.specs.inner.Keeping.{Kept, Tells, TellsAll, kept_at, lists_of}
use Rattle.clos_class.specs.Slots.{Defaults, DirectSlots}
use Rattle.clos_class.specs.SlotsView.{defaults, direct_slots}
use Rattle.clos_class.proofs.Rowed.{end_here, end_other}

at_end : (T : ℕ → Kept → Type 0) (ks : List Kept) (k : Kept) (n : ℕ) (b : Bool) → (n == length ks) ≡ b → n < length ks + 1 → ((m : ℕ) → m < length ks → T m (kept_at ks m)) → T (length ks) k → T n (kept_at (ks ++ k ∷ []) n)
at_end T ks k n true e h f t =
    let p : n ≡ length ks = eqb-true n (length ks) e in
    subst (λ m. T m (kept_at (ks ++ k ∷ []) m)) (sym p) (subst (T (length ks)) (sym (ap (λ o. unwrap_or o None) (end_here ks k))) t)
at_end T ks k n false e h f t =
    let p : n < length ks = omega (arith, h, eqb-false n (length ks) e) in
    subst (T n) (sym (ap (λ o. unwrap_or o None) (end_other ks n k e))) (f n p)

-- one more is kept
pub one_kept : (T : ℕ → Kept → Type 0) (ks new : List Kept) (k : Kept) (place : ℕ) → new ≡ ks ++ k ∷ [] → length ks ≡ place → ((m : ℕ) → m < place → T m (kept_at ks m)) → T place k
    → (n : ℕ) → n < place + 1 → T n (kept_at new n)
one_kept T ks new k place e l f t n h =
    subst (λ v. T n (kept_at v n)) (sym e)
    (at_end T ks k n (n == length ks) refl (subst (λ v. n < v + 1) (sym l) h) (λ m g. f m (subst (λ v. m < v) l g)) (subst (λ v. T v k) (sym l) t))

pub longer : (ks new : List Kept) (k : Kept) (place : ℕ) → new ≡ ks ++ k ∷ [] → length ks ≡ place → length new ≡ place + 1
longer ks new k place e l = ap length e ∙ length-append ks (k ∷ []) ∙ ap (λ n. n + 1) l

-- ---- beyond the last class

past_within : (k : ℕ) (cs : Classes) (n : ℕ) → nat_lt n (length cs.names) ≡ false → listing_within k cs n ≡ lacking
past_within zero cs n h = refl
past_within (suc k) cs n h = cc

none_past : (cs : Classes) (n : ℕ) → length cs.names ≤ n → lists_of cs n ≡ []
none_past cs n h = ap list_in (past_within (length cs.names + length cs.names) cs n (le-ltb n (length cs.names) h))

none_told : (of : DirectSlots) (ds : Defaults) → Tells of ds [] None
none_told of ds = record { kept = refl }

all_by : (rows : List ClassSlots) (cs : Classes) (ks : List Kept) (n : ℕ) (b : Bool) → nat_lt n (length ks) ≡ b → length ks ≡ length cs.names
    → ((m : ℕ) → m < length ks → Tells (direct_slots rows) (defaults rows) (lists_of cs m) (kept_at ks m)) → Tells (direct_slots rows) (defaults rows) (lists_of cs n) (kept_at ks n)
all_by rows cs ks n true e l f = f n (ltb-true n (length ks) e)
all_by rows cs ks n false e l f =
    let g : length ks ≤ n = ltb-false n (length ks) e in
    subst (λ k. Tells (direct_slots rows) (defaults rows) (lists_of cs n) k) (sym (ap (λ o. unwrap_or o None) (slice_get_past ks n g)))
    (subst (λ v. Tells (direct_slots rows) (defaults rows) v None) (sym (none_past cs n (omega (arith, g, l)))) (none_told (direct_slots rows) (defaults rows)))

pub all_kept : (rows : List ClassSlots) (cs : Classes) (ks : List Kept) → length ks ≡ length cs.names
    → ((m : ℕ) → m < length ks → Tells (direct_slots rows) (defaults rows) (lists_of cs m) (kept_at ks m)) → TellsAll rows (lists_of cs) ks
all_kept rows cs ks l f n = all_by rows cs ks n (nat_lt n (length ks)) refl l f
