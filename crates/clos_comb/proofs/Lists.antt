-- Lists of methods the other way round.
use Rattle.std.proofs.Common.{◌≡◌, List, [], ◌∷◌, ◌++◌, reverse, refl, ap, sym, ◌∙◌}
use Rattle.std.proofs.lemmas.List.{map-append, reverse-append}
use Rattle.lisp_data.specs.declared.ids.MethodId.{MethodId}
use Rattle.clos_groups.specs.clos_method.MethodIds.{method_numbers}

pub reversed_numbers : (ids : List MethodId) → method_numbers (reverse ids) ≡ reverse (method_numbers ids)
reversed_numbers [] = refl
reversed_numbers (i ∷ ids) =
    ap method_numbers (reverse-append (i ∷ []) ids) ∙ map-append (λ m. m.0) (reverse ids) (i ∷ []) ∙ ap (λ ms. ms ++ i.0 ∷ []) (reversed_numbers ids)
    ∙ sym (reverse-append (i.0 ∷ []) (method_numbers ids))
