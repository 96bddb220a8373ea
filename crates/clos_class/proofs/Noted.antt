-- Allocations that are noted, the first of each name.
use Rattle.std.proofs.Common.{◌≡◌, List, [], ◌∷◌, ◌++◌, Option, Some, None, refl, ap, sym, ◌∙◌}
use Rattle.std.specs.Option.{option_or}
use Rattle.std.proofs.lemmas.List.Elements.{filter-append}
use Rattle.lisp_data.specs.Name.{Name, same_name}
use Rattle.clos_class.specs.declared.direct.DirectSlot.{DirectSlot}
use Rattle.clos_class.specs.declared.direct.SlotAllocation.{SlotAllocation}
use Rattle.clos_class.specs.Slots.{called, first_allocation}

or_after : (o p q : Option SlotAllocation) → option_or (option_or o p) q ≡ option_or o (option_or p q)
or_after None p q = refl
or_after (Some x) p q = refl

first_of_two : (xs ys : List DirectSlot) → first_allocation (xs ++ ys) ≡ option_or (first_allocation xs) (first_allocation ys)
first_of_two [] ys = refl
first_of_two (x ∷ xs) ys = refl

-- the first of this name among some and others
pub first_called : (n : Name) (xs ys : List DirectSlot) → first_allocation (called n (xs ++ ys)) ≡ option_or (first_allocation (called n xs)) (first_allocation (called n ys))
first_called n xs ys = ap first_allocation (filter-append (λ s. same_name n s.name) xs ys) ∙ first_of_two (called n xs) (called n ys)

-- what is noted, after some, of others
pub more_noted : (n : Name) (o p : Option SlotAllocation) (xs ys : List DirectSlot) → p ≡ option_or o (first_allocation (called n xs))
    → option_or p (first_allocation (called n ys)) ≡ option_or o (first_allocation (called n (xs ++ ys)))
more_noted n o p xs ys e =
    ap (λ q. option_or q (first_allocation (called n ys))) e
    ∙ or_after o (first_allocation (called n xs)) (first_allocation (called n ys))
    ∙ ap (option_or o) (sym (first_called n xs ys))

pub all_noted : (o : Option SlotAllocation) → option_or o None ≡ o
all_noted None = refl
all_noted (Some x) = refl
