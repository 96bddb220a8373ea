-- A class that is defined among the others.
use Rattle.std.proofs.Common.{◌≡◌, ℕ, Bool, true, false, List, [], ◌∷◌, ◌++◌, Option, None, inl, inr, length, ◌+◌, ◌<◌, arith, refl, sym, subst, ap, ◌∙◌}
use Rattle.std.specs.Prelude.{not, ◌||◌}
use Rattle.std.specs.List.{list_any}
use Rattle.lisp_data.specs.Name.{Name, same_name}
use Rattle.clos_hierarchy.specs.Classes.{Classes, number_of, with_class, is_lacking, listing}
use Rattle.clos_hierarchy.specs.declared.kept.Kept.{Kept}
use Rattle.clos_hierarchy.specs.inner.Exchange.{IsPlace}
use Rattle.clos_hierarchy.specs.inner.KeptView.{listing_at}
use Rattle.clos_hierarchy.specs.inner.Kept.{Changes, Knows}
use Rattle.clos_hierarchy.specs.inner.Told.{Tells, Told}
use Rattle.clos_hierarchy.specs.Table.{Refusal, misplaced, changed}
use Rattle.clos_hierarchy.proofs.Defining.{absent_place, changes, longer}

pub changed_by : (cs to : Classes) (n : ℕ) (name : Name) (above : List Name) → length cs.above ≡ length cs.names → to ≡ with_class cs name above → n ≡ number_of cs name → Changes cs to n
changed_by cs to n name above l e h = subst (λ v. Changes cs v n) (sym e) (subst (λ v. Changes cs (with_class cs name above) v) (sym h) (changes cs name above l))

pub was_whole : (cs : Classes) (ks : List Kept) (n : ℕ) → Knows cs ks → is_lacking (listing_at ks n) ≡ is_lacking (listing cs n)
was_whole cs ks n k = ap is_lacking (k.same n)

placed_by : (cs to : Classes) (name : Name) (above : List Name) (n len : ℕ) (b : Bool) → list_any (same_name name) cs.names ≡ b → to ≡ with_class cs name above → n ≡ number_of cs name → n < length to.names
    → len ≡ length cs.names → IsPlace n len (length to.names)
placed_by cs to name above n len true e h g k l =
    let p : to.names ≡ cs.names = ap (λ v. v.names) h ∙ cc in
    let q : length to.names ≡ length cs.names = ap length p in inl (omega (arith, q, l), omega (arith, q, l, k))
placed_by cs to name above n len false e h g k l =
    let p : to.names ≡ cs.names ++ name ∷ [] = ap (λ v. v.names) h ∙ cc in
    let q : length to.names ≡ length (cs.names ++ name ∷ []) = ap length p in
    let r : length (cs.names ++ name ∷ []) ≡ length cs.names + 1 = longer cs.names name in
    let s : number_of cs name ≡ length cs.names = absent_place (same_name name) cs.names e in inr (omega (arith, q, r, l), g ∙ s ∙ sym l)

-- its place among the others
pub placed_in : (cs to : Classes) (name : Name) (above : List Name) (n len : ℕ) → to ≡ with_class cs name above → n ≡ number_of cs name → n < length to.names → len ≡ length cs.names → IsPlace n len (length to.names)
placed_in cs to name above n len h g k l = placed_by cs to name above n len (list_any (same_name name) cs.names) refl h g k l

abbrev pub Whole : Classes → Name → Bool → Bool
Whole cs name shared = shared || not (is_lacking (listing cs (number_of cs name)))

-- what is placed after it was put among the others
pub placed : (cs to : Classes) (t u : Told) (n : ℕ) (name : Name) (xs : List ℕ) (above : List Name) (shared whole : Bool) → length cs.above ≡ length cs.names → to ≡ with_class cs name above → n ≡ number_of cs name
    → whole ≡ (shared || not (is_lacking (listing_at t.kept n)))
    → ((ds : Classes) → Tells ds t → Changes ds to n → Tells to u × (misplaced to n name whole ≡ None) × (xs ≡ changed ds to))
    → Tells cs t → Tells to u × (misplaced to (number_of cs name) name (Whole cs name shared) ≡ None) × (xs ≡ changed cs to)
placed cs to t u n name xs above shared whole l e h g p k =
    let q : Tells to u × (misplaced to n name whole ≡ None) × (xs ≡ changed cs to) = p cs k (changed_by cs to n name above l e h) in
    let i : is_lacking (listing_at t.kept n) ≡ is_lacking (listing cs n) = was_whole cs t.kept n k.knows in
    let m : misplaced to n name whole ≡ None = q.1 in
    let j : whole ≡ Whole cs name shared = subst (λ v. whole ≡ (shared || not (is_lacking (listing cs v)))) h cc in
    (q.0, subst (λ v. misplaced to v name (Whole cs name shared) ≡ None) h (subst (λ v. misplaced to n name v ≡ None) j m), q.2)

-- what is so of what is wrong after it was put among the others
found_wrong : (cs to : Classes) (t : Told) (n : ℕ) (name : Name) (above : List Name) (shared whole : Bool) (P : Option Refusal → Type 0) → length cs.above ≡ length cs.names → to ≡ with_class cs name above
    → n ≡ number_of cs name → whole ≡ (shared || not (is_lacking (listing_at t.kept n))) → ((ds : Classes) → Tells ds t → Changes ds to n → P (misplaced to n name whole)) → Tells cs t
    → P (misplaced (with_class cs name above) (number_of cs name) name (Whole cs name shared))
found_wrong cs to t n name above shared whole P l e h g p k =
    let q : P (misplaced to n name whole) = p cs k (changed_by cs to n name above l e h) in
    let i : is_lacking (listing_at t.kept n) ≡ is_lacking (listing cs n) = was_whole cs t.kept n k.knows in
    let j : whole ≡ Whole cs name shared = subst (λ v. whole ≡ (shared || not (is_lacking (listing cs v)))) h cc in
    subst (λ v. P (misplaced v (number_of cs name) name (Whole cs name shared))) e
    (subst (λ v. P (misplaced to v name (Whole cs name shared))) h (subst (λ v. P (misplaced to n name v)) j q))

pub placed_own : (cs to : Classes) (t u : Told) (n : ℕ) (own name : Name) (xs : List ℕ) (above : List Name) (shared whole : Bool) → own ≡ name → length cs.above ≡ length cs.names
    → to ≡ with_class cs own above → n ≡ number_of cs own → whole ≡ (shared || not (is_lacking (listing_at t.kept n)))
    → ((ds : Classes) → Tells ds t → Changes ds to n → Tells to u × (misplaced to n name whole ≡ None) × (xs ≡ changed ds to))
    → Tells cs t → Tells to u × (misplaced to (number_of cs name) name (Whole cs name shared) ≡ None) × (xs ≡ changed cs to)
placed_own cs to t u n own name xs above shared whole o l e h g p k =
    placed cs to t u n name xs above shared whole l (subst (λ v. to ≡ with_class cs v above) o e) (subst (λ v. n ≡ number_of cs v) o h) g p k

pub found_wrong_own : (cs to : Classes) (t : Told) (n : ℕ) (own name : Name) (above : List Name) (shared whole : Bool) (P : Option Refusal → Type 0) → own ≡ name → length cs.above ≡ length cs.names
    → to ≡ with_class cs own above → n ≡ number_of cs own → whole ≡ (shared || not (is_lacking (listing_at t.kept n)))
    → ((ds : Classes) → Tells ds t → Changes ds to n → P (misplaced to n name whole)) → Tells cs t
    → P (misplaced (with_class cs name above) (number_of cs name) name (Whole cs name shared))
found_wrong_own cs to t n own name above shared whole P o l e h g p k =
    found_wrong cs to t n name above shared whole P l (subst (λ v. to ≡ with_class cs v above) o e) (subst (λ v. n ≡ number_of cs v) o h) g p k

pub with_own : (cs to : Classes) (own name : Name) (above : List Name) → own ≡ name → to ≡ with_class cs own above → to ≡ with_class cs name above
with_own cs to own name above o e = subst (λ v. to ≡ with_class cs v above) o e
