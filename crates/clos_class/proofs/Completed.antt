-- Default initargs, the first of each name.
use Rattle.std.proofs.Common.{◌≡◌, Bool, true, false, List, [], ◌∷◌, ◌++◌, ap, sym, ◌∙◌}
use Rattle.std.specs.Prelude.{cond}
use Rattle.std.specs.List.{list_any}
use Rattle.lisp_data.specs.Name.{Name, same_name}
use Rattle.clos_defclass.specs.declared.class.DefaultInitarg.{DefaultInitarg}
use Rattle.clos_class.specs.Slots.{first_of_each}
use Rattle.clos_class.specs.inner.Building.{completed, with_name}
use Rattle.clos_class.proofs.Each.{added, filter_all, none_after}

pub known_one : (known : List Name) (found : List DefaultInitarg) (d : DefaultInitarg) (ds : List DefaultInitarg) (b : Bool) → b ≡ list_any (same_name d.name) known → b ≡ true
    → completed known found ds ≡ completed known found (d ∷ ds)
known_one known found d ds b e h = added (λ x. x.name) found known d ds true (sym e ∙ h)

pub new_one : (known : List Name) (found : List DefaultInitarg) (d : DefaultInitarg) (ds : List DefaultInitarg) (b : Bool) → b ≡ list_any (same_name d.name) known → b ≡ false
    → completed (with_name known d.name) (found ++ d ∷ []) ds ≡ completed known found (d ∷ ds)
new_one known found d ds b e h =
    let k : list_any (same_name d.name) known ≡ false = sym e ∙ h in
    ap (λ c. completed (cond c known (known ++ d.name ∷ [])) (found ++ d ∷ []) ds) k ∙ added (λ x. x.name) found known d ds false k

pub none_known : (ds : List DefaultInitarg) → completed [] [] ds ≡ first_of_each (λ d. d.name) ds
none_known ds = filter_all (first_of_each (λ d. d.name) ds)

pub none_left : (known : List Name) (found : List DefaultInitarg) → completed known found [] ≡ found
none_left known found = sym (none_after found)
