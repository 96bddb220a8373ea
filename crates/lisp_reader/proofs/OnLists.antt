-- The list of some data.
use Rattle.std.proofs.Common.{◌≡◌, ◌∙◌, List, [], ◌∷◌, ◌++◌, refl, ap, length, append-nil}
use Rattle.lisp_data.specs.Datum.{Dat, list, Dats, nil, cons, elements, list_from}
use Rattle.lisp_tokens.specs.Reading.{list_of}

pub list_from-elements : (l : Dats) → list_from (elements l) ≡ l
list_from-elements nil = refl
list_from-elements (cons d l) = ap (cons d) (list_from-elements l)

-- a list with elements is the list of those
pub list_of-some : (ds : List Dat) (start l : Dats) → start ≡ nil → l ≡ list_from (ds ++ elements start) → ¬ (length ds ≡ 0) → list l ≡ list_of ds
list_of-some [] start l begun same some = absurd (some refl)
list_of-some (d ∷ ds) start l begun same some =
    ap list (same ∙ ap list_from (ap (λ (s : Dats). (d ∷ ds) ++ elements s) begun ∙ append-nil (d ∷ ds)))
