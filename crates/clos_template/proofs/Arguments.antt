-- The arguments of functions, by their places.
use Rattle.std.proofs.Common.{◌≡◌, ◌≢◌, ℕ, List, [], ◌∷◌, ◌++◌, map, refl, ap, sym, ◌∙◌}
use Rattle.std.specs.Prelude.{Option, Some, Err}
use Rattle.lisp_data.specs.Datum.{Dat, Dats, elements}
use Rattle.lisp_data.specs.DatumView.{datum_of}
use Rattle.lisp_data.specs.declared.datum.Datum.{Datum}
use Rattle.clos_forms.specs.Fault.{◌>>=◌}
use Rattle.clos_lambda.proofs.Lists.{some_more}
use Rattle.clos_lambda.specs.Lists.{before, list_in}
use Rattle.clos_template.specs.FunctionView.{Has, HasAll}
use Rattle.clos_template.specs.declared.fault.ExpansionFault.{ExpansionFault}
use Rattle.clos_template.specs.declared.fault.ExpansionFault.TheVariants.{Bad, Beyond, Memory}
use Rattle.clos_template.specs.Function.{prepended, split_last, starred, with_elements, with_front}

-- the last of some data, and those before it
pub last_of : (xs : List Datum) (x : Datum) → split_last (map datum_of (xs ++ x ∷ [])) ≡ Some (map datum_of xs, datum_of x)
last_of [] x = refl
last_of (y ∷ []) x = refl
last_of (y ∷ (z ∷ zs)) x =
    ap (λ o. o >>= with_front (datum_of y)) (last_of (z ∷ zs) x)

-- where there are data before the last one, it is a list
pub starred_with : (xs : List Datum) (d : Dat) (n : ℕ) → xs ≢ [] → starred (Some (map datum_of xs, d)) n ≡ with_elements (list_in d) (λ l. prepended (map datum_of xs) l n)
starred_with [] d n h = absurd (h refl)
starred_with (x ∷ xs) d n h = refl

-- ---- lists one after the other

-- these elements before those of the other lists, where all are lists
pub all_more : (xs : List Dat) (l : Dats) (o : Option (List Dat)) (t : Option (List Dat)) (d : Dat) → before xs (list_in d >>= λ m. o >>= λ es. Some (elements m ++ es)) ≡ t → list_in d ≡ Some l → before (xs ++ elements l) o ≡ t
all_more xs l o t d h e = sym (some_more xs (elements l) o) ∙ ap (λ m. before xs (m >>= λ k. o >>= λ es. Some (elements k ++ es))) (sym e) ∙ h

-- where one is no list
pub all_failed : (e : ExpansionFault) (xs : List Dat) (o : Option (List Dat)) (t : Option (List Dat)) (d : Dat) → before xs (list_in d >>= λ m. o >>= λ es. Some (elements m ++ es)) ≡ t → Has (Err e) (list_in d) → HasAll (Err e) t
all_failed Bad xs o t d h n = sym h ∙ ap (λ m. before xs (m >>= λ k. o >>= λ es. Some (elements k ++ es))) n
all_failed Beyond xs o t d h n = n
all_failed Memory xs o t d h n = tt
