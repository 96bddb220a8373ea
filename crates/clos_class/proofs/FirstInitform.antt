-- Initforms that are noted, the first of each name.
use Rattle.std.proofs.Common.{◌≡◌, List, [], ◌∷◌, ◌++◌, Option, Some, None, refl, ap, sym, ◌∙◌}
use Rattle.std.specs.List.{filter_map}
use Rattle.std.specs.Option.{option_or}
use Rattle.std.proofs.lemmas.List.Elements.{filter-append, filter_map-append}
use Rattle.lisp_data.specs.Name.{Name, same_name}
use Rattle.clos_forms.specs.Form.{Form}
use Rattle.clos_class.specs.declared.direct.DirectSlot.{DirectSlot}
use Rattle.clos_class.specs.Slots.{called, first, first_initform}

or_after : (o p q : Option Form) → option_or (option_or o p) q ≡ option_or o (option_or p q)
or_after None p q = refl
or_after (Some x) p q = refl

first_of_two : (xs ys : List Form) → first (xs ++ ys) ≡ option_or (first xs) (first ys)
first_of_two [] ys = refl
first_of_two (x ∷ xs) ys = refl

first_called : (n : Name) (xs ys : List DirectSlot) → first_initform (called n (xs ++ ys)) ≡ option_or (first_initform (called n xs)) (first_initform (called n ys))
first_called n xs ys =
    ap first_initform (filter-append (λ s. same_name n s.name) xs ys)
    ∙ ap first (filter_map-append (λ s. s.initform) (called n xs) (called n ys))
    ∙ first_of_two (filter_map (λ s. s.initform) (called n xs)) (filter_map (λ s. s.initform) (called n ys))

-- what is noted, after some, of others
pub more_noted : (n : Name) (o p : Option Form) (xs ys : List DirectSlot) → p ≡ option_or o (first_initform (called n xs))
    → option_or p (first_initform (called n ys)) ≡ option_or o (first_initform (called n (xs ++ ys)))
more_noted n o p xs ys e =
    ap (λ q. option_or q (first_initform (called n ys))) e
    ∙ or_after o (first_initform (called n xs)) (first_initform (called n ys))
    ∙ ap (option_or o) (sym (first_called n xs ys))

pub all_noted : (o : Option Form) → option_or o None ≡ o
all_noted None = refl
all_noted (Some x) = refl
