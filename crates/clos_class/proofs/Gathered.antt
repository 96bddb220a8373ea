-- Initargs that are gathered, of each slot those of all its specifiers.
use Rattle.std.proofs.Common.{◌≡◌, Bool, true, false, List, [], ◌∷◌, Option, Some, None, refl, ap, sym, ◌∙◌}
use Rattle.std.specs.Prelude.{cond, unwrap_or}
use Rattle.std.specs.List.{flat_map}
use Rattle.lisp_data.specs.Name.{Name, same_name}
use Rattle.clos_class.specs.declared.direct.DirectSlot.{DirectSlot}
use Rattle.clos_class.specs.Slots.{called, distinct}
use Rattle.clos_class.specs.inner.Building.{or_no_names, with_names}
use Rattle.clos_class.proofs.Added.{all_names, same_names}
use Rattle.clos_class.proofs.Each.{is_same, none_after, turned}

or_none : (o : Option (List Name)) (d : List Name) → d ≡ [] → unwrap_or o d ≡ or_no_names o
or_none None d e = e
or_none (Some x) d e = refl

abbrev given : List DirectSlot → List Name
given ss = flat_map (λ s. s.initargs) ss

at_name : (n : Name) (s : DirectSlot) (o1 : Option (List Name)) (g0 : Name → Option (List Name)) (new : List Name) (b : Bool) → same_name n s.name ≡ b
    → o1 ≡ cond b None (g0 n) → new ≡ with_names (or_no_names (g0 s.name)) s.initargs → or_no_names (cond b (Some new) o1) ≡ with_names (or_no_names (g0 n)) (given (cond b (s ∷ []) []))
at_name n s o1 g0 new true h e k = k ∙ ap (λ m. with_names (or_no_names (g0 m)) s.initargs) (sym (is_same n s.name h)) ∙ ap (with_names (or_no_names (g0 n))) (none_after s.initargs)
at_name n s o1 g0 new false h e k = ap or_no_names e ∙ sym (same_names (or_no_names (g0 n)))

pub one_slot : (g0 g1 g2 : Name → Option (List Name)) (s : DirectSlot) (k : Name) (o : Option (List Name)) (was none new : List Name) → ((q : Name) → g1 q ≡ cond (same_name s.name q) None (g0 q))
    → k ≡ s.name → ((q : Name) → g2 q ≡ cond (same_name k q) (Some new) (g1 q)) → o ≡ g0 s.name → none ≡ [] → was ≡ unwrap_or o none → new ≡ with_names was s.initargs
    → (n : Name) → or_no_names (g2 n) ≡ with_names (or_no_names (g0 n)) (given (called n (s ∷ [])))
one_slot g0 g1 g2 s k o was none new r e i w z u a n =
    ap or_no_names (i n ∙ ap (λ b. cond b (Some new) (g1 n)) (ap (λ m. same_name m n) e ∙ turned s.name n))
    ∙ at_name n s (g1 n) g0 new (same_name n s.name) refl (r n ∙ ap (λ b. cond b None (g0 n)) (turned s.name n)) (a ∙ ap (λ l. with_names l s.initargs) (u ∙ or_none o none z ∙ ap or_no_names w))

-- from none on
pub from_none : (o : Option (List Name)) (ns : List Name) → o ≡ None → with_names (or_no_names o) ns ≡ distinct ns
from_none o ns e = ap (λ p. with_names (or_no_names p) ns) e ∙ all_names ns
