-- Names that are added, each once.
use Rattle.std.proofs.Common.{◌≡◌, List, [], ◌∷◌, ◌++◌, refl, ap, sym, ◌∙◌}
use Rattle.std.specs.List.{flat_map, list_any}
use Rattle.std.proofs.lemmas.List.Elements.{filter-append}
use Rattle.std.proofs.lemmas.Grind.{flat_map-append}
use Rattle.lisp_data.specs.Name.{Name, same_name}
use Rattle.clos_class.specs.declared.direct.DirectSlot.{DirectSlot}
use Rattle.clos_class.specs.Slots.{called, distinct}
use Rattle.clos_class.specs.inner.Building.{with_name, with_names}
use Rattle.clos_class.proofs.Each.{added, filter_all, none_after}

pub one_name : (ks : List Name) (n : Name) (ns : List Name) → with_names (with_name ks n) ns ≡ with_names ks (n ∷ ns)
one_name ks n ns = added (λ m. m) ks ks n ns (list_any (same_name n) ks) refl

pub same_names : (ks : List Name) → with_names ks [] ≡ ks
same_names ks = sym (none_after ks)

pub all_names : (ns : List Name) → with_names [] ns ≡ distinct ns
all_names ns = filter_all (distinct ns)

pub some_names : (ks ns ms : List Name) → with_names (with_names ks ns) ms ≡ with_names ks (ns ++ ms)
some_names ks [] ms = ap (λ l. with_names l ms) (same_names ks)
some_names ks (n ∷ ns) ms = ap (λ l. with_names l ms) (sym (one_name ks n ns)) ∙ some_names (with_name ks n) ns ms ∙ one_name ks n (ns ++ ms)

-- with the initargs of some slots and of others
pub more_initargs : (n : Name) (ks ls : List Name) (xs ys : List DirectSlot) → ls ≡ with_names ks (flat_map (λ s. s.initargs) (called n xs))
    → with_names ls (flat_map (λ s. s.initargs) (called n ys)) ≡ with_names ks (flat_map (λ s. s.initargs) (called n (xs ++ ys)))
more_initargs n ks ls xs ys e =
    ap (λ l. with_names l (flat_map (λ s. s.initargs) (called n ys))) e
    ∙ some_names ks (flat_map (λ s. s.initargs) (called n xs)) (flat_map (λ s. s.initargs) (called n ys))
    ∙ ap (with_names ks)
    (sym (ap (flat_map (λ s. s.initargs)) (filter-append (λ s. same_name n s.name) xs ys) ∙ flat_map-append (λ s. s.initargs) (called n xs) (called n ys)))

pub more_names : (ks ls ns ms : List Name) → ls ≡ with_names ks ns → with_names ls ms ≡ with_names ks (ns ++ ms)
more_names ks ls ns ms e = ap (λ l. with_names l ms) e ∙ some_names ks ns ms
