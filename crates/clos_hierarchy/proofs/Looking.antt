-- What there would be to say of the classes.
use Rattle.std.proofs.Common.{◌≡◌, ℕ, zero, suc, ◌==◌, ◌+◌, ◌<◌, Bool, true, false, List, [], ◌∷◌, Option, Some, None, arith, drop, length, refl, sym, subst, ◌∙◌, ap, map, option_map}
use Rattle.std.specs.Prelude.{slice_get, slice_index_or, unwrap_or, if◌then◌else◌}
use Rattle.std.proofs.lemmas.Bool.{eq-eqb, eqb-true}
use Rattle.lisp_data.specs.declared.ids.ClassId.{ClassId}
use Rattle.clos_precedence.specs.PrecedenceView.{numbers}
use Rattle.std.proofs.lemmas.Option.{slice_get-map}
use Rattle.clos_hierarchy.specs.Classes.{Listing, lacking, list_in}
use Rattle.clos_hierarchy.specs.declared.kept.Kept.{Kept}
use Rattle.clos_hierarchy.specs.Outlook.{listing_among}
use Rattle.clos_hierarchy.specs.inner.KeptView.{listing_of, listing_at}
use Rattle.clos_hierarchy.specs.declared.kept.Kept.TheVariants.{Lacking}

of_option : (o : Option Kept) → unwrap_or (option_map listing_of o) lacking ≡ listing_of (unwrap_or o Lacking)
of_option None = refl
of_option (Some k) = refl

pub listed_there : (ks : List Kept) (n : ℕ) → unwrap_or (slice_get (map listing_of ks) n) lacking ≡ listing_at ks n
listed_there ks n = ap (λ o. unwrap_or o lacking) (slice_get-map listing_of ks n) ∙ of_option (slice_get ks n)

pub list_there : (ks : List Kept) (n : ℕ) → list_in (unwrap_or (slice_get (map listing_of ks) n) lacking) ≡ list_in (listing_at ks n)
list_there ks n = ap list_in (listed_there ks n)

-- ---- the list of one of those that are touched

pub among_here : (cs : List ClassId) (ls : List Listing) (place n : ℕ) (d : ClassId) → place < length cs → (slice_index_or cs place d).0 ≡ n
    → listing_among (drop place (numbers cs)) (drop place ls) n ≡ unwrap_or (slice_get ls place) lacking
among_here [] ls place n d l e = absurd (omega (arith, l))
among_here (c ∷ cs) [] zero n d l e = refl
among_here (c ∷ cs) (k ∷ ls) zero n d l e = ap (λ b. if b then k else listing_among (numbers cs) ls n) (eq-eqb c.0 n e)
among_here (c ∷ cs) [] (suc place) n d l e = none_among (drop place (numbers cs)) n
  where
    none_among : (ps : List ℕ) (n : ℕ) → listing_among ps [] n ≡ lacking
    none_among [] n = refl
    none_among (p ∷ ps) n = refl
among_here (c ∷ cs) (k ∷ ls) (suc place) n d l e = among_here cs ls place n d (omega (arith, l)) e

on : (cs : List ClassId) (ls : List Listing) (place n : ℕ) (d : ClassId) → place < length cs → ((slice_index_or cs place d).0 == n) ≡ false
    → listing_among (drop (suc place) (numbers cs)) (drop (suc place) ls) n ≡ listing_among (drop place (numbers cs)) (drop place ls) n
on [] ls place n d l e = absurd (omega (arith, l))
on (c ∷ cs) [] zero n d l e = none_among (numbers cs) n
  where
    none_among : (ps : List ℕ) (n : ℕ) → listing_among ps [] n ≡ lacking
    none_among [] n = refl
    none_among (p ∷ ps) n = refl
on (c ∷ cs) (k ∷ ls) zero n d l e = ap (λ b. if b then k else listing_among (numbers cs) ls n) (sym e)
on (c ∷ cs) [] (suc place) n d l e = none_among (drop (suc place) (numbers cs)) (drop place (numbers cs)) n
  where
    none_among : (ps qs : List ℕ) (n : ℕ) → listing_among ps [] n ≡ listing_among qs [] n
    none_among [] [] n = refl
    none_among [] (q ∷ qs) n = refl
    none_among (p ∷ ps) [] n = refl
    none_among (p ∷ ps) (q ∷ qs) n = refl
on (c ∷ cs) (k ∷ ls) (suc place) n d l e = on cs ls place n d (omega (arith, l)) e

other : (a b : ℕ) → (a ≡ b → ⊥) → (a == b) ≡ false
other a b h = by (a == b) refl
  where
    by : (c : Bool) → (a == b) ≡ c → c ≡ false
    by true e = absurd (h (eqb-true a b e))
    by false e = refl

pub among_on : (cs : List ClassId) (ls : List Listing) (place n : ℕ) (d : ClassId) → place < length cs → ((slice_index_or cs place d).0 ≡ n → ⊥)
    → listing_among (drop (place + 1) (numbers cs)) (drop (place + 1) ls) n ≡ listing_among (drop place (numbers cs)) (drop place ls) n
among_on cs ls place n d l h =
    let e : suc place ≡ place + 1 = omega arith in
    subst (λ m. listing_among (drop m (numbers cs)) (drop m ls) n ≡ listing_among (drop place (numbers cs)) (drop place ls) n) e (on cs ls place n d l (other (slice_index_or cs place d).0 n h))
