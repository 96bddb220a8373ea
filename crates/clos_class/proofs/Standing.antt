-- The table of classes, whole.
use Rattle.std.proofs.Common.{◌≡◌, ℕ, zero, suc, Bool, true, false, true≢false, List, [], ◌∷◌, ◌++◌, Option, Some, None, length, length-append, ◌<◌, ◌≤◌, ◌+◌, arith, refl, ap, sym, subst, ◌∙◌, Bor}
use Rattle.std.specs.Prelude.{cond, is_some, nat_lt, option_copied, replicate, slice_get, slice_set, if◌then◌else◌}
use Rattle.std.proofs.lemmas.List.{length-set}
use Rattle.std.proofs.lemmas.Option.{slice_get_within}
use Rattle.lisp_data.specs.Name.{Name}
use Rattle.clos_defclass.specs.declared.class.ClassDefinition.{ClassDefinition}
use Rattle.clos_hierarchy.specs.Classes.{Classes}
use Rattle.clos_hierarchy.specs.Table.{Table as NameTable}
use Rattle.clos_class.specs.declared.direct.ClassSlots.{ClassSlots}
use Rattle.clos_class.specs.inner.Keeping.{Kept, Tells, TellsAll, kept_at, len_with, lists_of}
use Rattle.clos_class.specs.SlotsView.{defaults, direct_slots}
use Rattle.clos_class.specs.Table.{Table, classes_with, list_with, number, said_from, with_definition, with_row}
use Rattle.clos_class.proofs.Lasting.{all_kept}
use Rattle.clos_class.proofs.Preparing.{so_many}

-- ---- from the start

replicate_end : (n : ℕ) (r : ClassSlots) → replicate n r ++ r ∷ [] ≡ replicate (suc n) r
replicate_end zero r = refl
replicate_end (suc n) r = ap (λ xs. r ∷ xs) (replicate_end n r)

pub one_row : (xs new : List ClassSlots) (x r : ClassSlots) → new ≡ xs ++ x ∷ [] → x ≡ r → xs ≡ replicate (length xs) r → new ≡ replicate (length new) r
one_row xs new x r e h k =
    let l : length (xs ++ x ∷ []) ≡ length xs + 1 = length-append xs (x ∷ []) in
    let m : length new ≡ length (xs ++ x ∷ []) = ap length e in
    let s : suc (length xs) ≡ length new = omega (arith, l, m) in
    e ∙ ap (λ y. xs ++ y ∷ []) h ∙ ap (λ ys. ys ++ r ∷ []) k ∙ replicate_end (length xs) r ∙ ap (λ n. replicate n r) s

pub longer_by_one : (xs new : List ClassSlots) (x : ClassSlots) → new ≡ xs ++ x ∷ [] → length new ≡ length xs + 1
longer_by_one xs new x e = ap length e ∙ length-append xs (x ∷ [])

pub there : (names : List Name) (n : ℕ) (o : Option (Bor Name)) → is_some o ≡ true → option_copied o ≡ slice_get names n → n < length names
there names n None h e = absurd (true≢false (sym h))
there names n (Some b) h e = slice_get_within names n b.now (sym e)

none_there : (names : List Name) (n : ℕ) → None ≡ slice_get names n → length names ≤ n
none_there [] n e = omega arith
none_there (x ∷ xs) zero e = cc
none_there (x ∷ xs) (suc n) e = omega (arith, none_there xs n e)

pub not_there : (names : List Name) (n : ℕ) (o : Option (Bor Name)) → is_some o ≡ false → option_copied o ≡ slice_get names n → length names ≤ n
not_there names n None h e = none_there names n e
not_there names n (Some b) h e = absurd (true≢false h)

length_of : (n : ℕ) (r : ClassSlots) → length (replicate n r) ≡ n
length_of zero r = refl
length_of (suc n) r = ap suc (length_of n r)

pub first_kept : (cs : Classes) (rows now : List ClassSlots) (r : ClassSlots) (ks : List Kept) → rows ≡ replicate (length cs.names) r → now ≡ rows → length ks ≡ length now
    → ((n : ℕ) → n < length now → Tells (direct_slots now) (defaults now) (lists_of cs n) (kept_at ks n)) → (length rows ≡ length cs.names) × (length ks ≡ length cs.names) × TellsAll rows (lists_of cs) ks
first_kept cs rows now r ks e h l f =
    let m : length rows ≡ length cs.names = ap length e ∙ length_of (length cs.names) r in
    (m, l ∙ ap length h ∙ m, subst (λ v. TellsAll v (lists_of cs) ks) h (all_kept now cs ks (l ∙ ap length h ∙ m) (λ n k. f n (subst (λ v. n < v) l k))))

-- ---- once a class is defined

length_by : (rows : List ClassSlots) (n : ℕ) (row : ClassSlots) (b : Bool) → length (cond b (slice_set rows n row) (rows ++ row ∷ [])) ≡ (if b then length rows else suc (length rows))
length_by rows n row true = length-set rows n row
length_by rows n row false = let l : length (rows ++ row ∷ []) ≡ length rows + 1 = length-append rows (row ∷ []) in omega (arith, l)

length_with : (rows : List ClassSlots) (n : ℕ) (row : ClassSlots) → length (with_row rows n row) ≡ len_with (length rows) n
length_with rows n row = length_by rows n row (nat_lt n (length rows))

pub stands : (t now to : NameTable) (d : ClassDefinition) (rows seen old new : List ClassSlots) (n : ℕ) (row : ClassSlots) (was ks : List Kept) → length rows ≡ length t.classes.names → now ≡ t
    → to ≡ record now { classes = classes_with now d } → seen ≡ rows → old ≡ rows → new ≡ with_row old n row → n ≡ number now d
    → length was ≡ length t.classes.names → (length ks ≡ len_with (length was) (number t d)) × TellsAll (with_row seen (number t d) row) (lists_of (classes_with t d)) ks
    → (length new ≡ length to.classes.names) × (length ks ≡ length to.classes.names) × TellsAll new (lists_of to.classes) ks
stands t now to d rows seen old new n row was ks l e h s o w m lw k =
    let c : classes_with t d ≡ to.classes = ap (λ v. classes_with v d) (sym e) ∙ sym (ap (λ v. v.classes) h) in
    let a : n ≡ number t d = m ∙ ap (λ v. number v d) e in
    let r : with_row rows (number t d) row ≡ new = ap (λ i. with_row rows i row) (sym a) ∙ ap (λ v. with_row v n row) (sym o) ∙ sym w in
    let q : with_row seen (number t d) row ≡ new = ap (λ v. with_row v (number t d) row) s ∙ r in (
      ap length (sym r) ∙ length_with rows (number t d) row ∙ so_many t d (number t d) (length rows) l refl ∙ ap (λ v. length v.names) c,
      k.0 ∙ so_many t d (number t d) (length was) lw refl ∙ ap (λ v. length v.names) c,
      subst (λ v. TellsAll new (lists_of v) ks) c (subst (λ v. TellsAll v (lists_of (classes_with t d)) ks) q k.1),
    )

abbrev pub said_with : List ClassSlots → NameTable → ClassDefinition → ℕ → ClassSlots
said_with rows t d first = said_from rows (number t d) (list_with t d) d first

pub made : (t now to : NameTable) (d : ClassDefinition) (rows seen old new : List ClassSlots) (n : ℕ) (row : ClassSlots) (first : ℕ) → now ≡ t → to ≡ record now { classes = classes_with now d }
    → seen ≡ rows → old ≡ rows → new ≡ with_row old n row → n ≡ number now d → row ≡ said_with seen t d first
    → ◌≡◌ {A = Table} (record { table = to; slots = new }) (with_definition (record { table = t; slots = rows }) d first)
made t now to d rows seen old new n row first e h s o w m k =
    let a : n ≡ number t d = m ∙ ap (λ v. number v d) e in
    let p : to ≡ record t { classes = classes_with t d } = h ∙ ap {A = NameTable} {B = NameTable} (λ (v : NameTable). record v { classes = classes_with v d }) e in
    let q : new ≡ with_row rows (number t d) (said_with rows t d first) =
    w ∙ ap (λ v. with_row v n row) o ∙ ap (λ i. with_row rows i row) a ∙ ap (with_row rows (number t d)) (k ∙ ap (λ v. said_with v t d first) s) in
    λ i. record { table = p i; slots = q i }
