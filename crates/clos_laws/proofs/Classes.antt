-- In each state that a session comes to, class precedence lists are those that fit.
use Rattle.std.proofs.Common.{◌≡◌, ℕ, ◌+◌, ◌++◌, Bool, true, false, List, [], ◌∷◌, Option, Some, None, inl, inr, length, length-append, refl, ap, sym, subst, ◌∙◌}
use Rattle.std.proofs.lemmas.List.{length-set}
use Rattle.std.specs.Prelude.{⊤, not, ◌||◌, option_map, slice_set, if◌then◌else◌}
use Rattle.std.specs.List.{list_any}
use Rattle.lisp_data.specs.Name.{Name, same_name}
use Rattle.clos_precedence.proofs.Unique.{at_most_one}
use Rattle.clos_precedence.specs.Precedence.{IsPrecedenceList}
use Rattle.clos_hierarchy.specs.Classes.{Classes, Listing, broken, lacking, listed, is_broken, is_lacking, listing, number_of, superclasses, with_class}
use Rattle.clos_hierarchy.specs.Initial.{predefined}
use Rattle.clos_hierarchy.specs.Table.{Refusal, list_if, misnamed, misplaced, or_else, or_standard, program_error, refusal, when}
use Rattle.clos_hierarchy.specs.Table.{Table as NameTable}
use Rattle.clos_hierarchy.specs.TableView.{IsListOf}
use Rattle.clos_hierarchy.specs.Ways.{HasNoBase, IsIncomplete, IsSelfOrAbove}
use Rattle.clos_hierarchy.specs.inner.Kept.{IsConsistent}
use Rattle.clos_hierarchy.proofs.Consistent.{begins_consistent, placed_consistent}
use Rattle.clos_hierarchy.proofs.Lacking.{finds_lacking}
use Rattle.clos_hierarchy.proofs.Rounds.{more_next, sound_holds}
use Rattle.clos_hierarchy.proofs.Superclasses.{members, whole_list}
use Rattle.clos_hierarchy.proofs.Turned.{own_list}
use Rattle.clos_syntax.specs.clos_defclass.declared.class.ClassDefinition.{ClassDefinition}
use Rattle.clos_top.specs.declared.top.Top.{Top}
use Rattle.clos_session.specs.clos_world.Definitions.{Same}
use Rattle.clos_session.specs.clos_world.World.{State}
use Rattle.clos_session.specs.clos_world.clos_class.Table as classes
use Rattle.clos_session.specs.clos_world.declared.condition.Condition.{Condition}
use Rattle.clos_session.specs.clos_definition_forms.clos_definition.Class.{class_refusal, condition_for, others_refusal}
use Rattle.clos_laws.specs.Classes.{ClassesAreListed}
use Rattle.clos_laws.proofs.Refusals.{first_none}
use Rattle.clos_laws.proofs.Sessions.{Stays, StaysWith, always, by_kind}

-- ---- the list that is found

-- it fits, in any table of classes
list_fits : (cs : Classes) (n : ℕ) (l : List ℕ) → listing cs n ≡ listed l → IsListOf cs n l
list_fits cs n l h =
    let o : IsPrecedenceList (superclasses cs) l l =
    own_list cs (λ m. listing cs m) n l (sound_holds cs (λ m. listing cs m) (λ m. more_next cs (length cs.names + length cs.names) m)) (λ m k e. whole_list cs m k e) h in
    record { whole = whole_list cs n l h; order = o; only = λ j q. at_most_one (superclasses cs) l j l q o }

listed_by : (a : Listing) (l : List ℕ) → list_if a ≡ Some l → a ≡ listed l
listed_by lacking l h = cc
listed_by broken l h = cc
listed_by (listed m) l h = cc

-- ---- none

lacking_by : (a : Listing) → is_broken a ≡ false → list_if a ≡ None → a ≡ lacking
lacking_by lacking b h = refl
lacking_by broken b h = cc
lacking_by (listed l) b h = cc

incomplete_by : (cs : Classes) (n m : ℕ) → IsConsistent cs → IsSelfOrAbove cs n m → HasNoBase cs m → IsIncomplete cs n
incomplete_by cs n m c s (inl h) = (m, s, h)
incomplete_by cs n m c s (inr q) = absurd (c.no_circle m q)

none_told : (cs : Classes) (n : ℕ) → IsConsistent cs → list_if (listing cs n) ≡ None → IsIncomplete cs n
none_told cs n c h =
    let q : (m : ℕ) × IsSelfOrAbove cs n m × HasNoBase cs m = (finds_lacking cs n).0 (lacking_by (listing cs n) (c.no_broken n) h) in
    incomplete_by cs n q.0 c q.1 q.2

told_none : (cs : Classes) (n : ℕ) → IsIncomplete cs n → list_if (listing cs n) ≡ None
told_none cs n q = ap list_if ((finds_lacking cs n).1 (q.0, q.1, inl q.2))

-- ---- definitions keep the classes so

-- no class is above itself, and each one that is complete has a list
abbrev AreOrdered : Classes → Type 0
AreOrdered cs = IsConsistent cs × (length cs.above ≡ length cs.names)

abbrev HasOrder : State → Type 0
HasOrder w = AreOrdered w.classes.table.classes

same_order : (w u : State) → Same w u → HasOrder w → HasOrder u
same_order w u h s = subst (λ t. AreOrdered t.table.classes) (sym h.0) s

order_stays : Stays HasOrder
order_stays = record { same = same_order; combination = λ d u h. h; change = λ c m n u h. h; removal = λ g m u own h. h }

mapped_none : (f : Refusal → Condition) (o : Option Refusal) → option_map f o ≡ None → o ≡ None
mapped_none f None h = refl
mapped_none f (Some r) h = cc

second_none : (a b : Option Refusal) → or_else a b ≡ None → b ≡ None
second_none None b h = h
second_none (Some r) b h = cc

abbrev AsLong : Classes → Type 0
AsLong cs = length cs.above ≡ length cs.names

as_long_by : (b : Bool) (cs : Classes) (name : Name) (above : List Name) → AsLong cs
    → AsLong (if b then record cs { above = slice_set cs.above (number_of cs name) above } else record { names = cs.names ++ name ∷ []; above = cs.above ++ above ∷ [] })
as_long_by true cs name above h = length-set cs.above (number_of cs name) above ∙ h
as_long_by false cs name above h = length-append cs.above (above ∷ []) ∙ ap (λ k. k + 1) h ∙ sym (length-append cs.names (name ∷ []))

-- where a class is not refused by its names, the classes with it are in order
defined_ordered : (t : NameTable) (name : Name) (above : List Name) (shared : Bool) → refusal t name above shared ≡ None → AreOrdered t.classes
    → AreOrdered (with_class t.classes name above)
defined_ordered t name above shared none s =
    let whole : Bool = shared || not (is_lacking (listing t.classes (number_of t.classes name))) in
    let to : Classes = with_class t.classes name above in
    let placed : misplaced to (number_of t.classes name) name whole ≡ None =
    second_none (misnamed t name above) (misplaced to (number_of t.classes name) name whole) none in
    (placed_consistent t.classes to name name above whole refl s.1 refl placed s.0, as_long_by (list_any (same_name name) t.classes.names) t.classes name above s.1)

class_ordered : (d : ClassDefinition) (cells : ℕ) (w : State) → class_refusal d cells w ≡ None → HasOrder w
    → AreOrdered (with_class w.classes.table.classes d.name (or_standard d.superclasses))
class_ordered d cells w none s =
    let t = w.classes.table in
    let refused : classes.refusal t d ≡ None =
    mapped_none (condition_for d.name) (classes.refusal t d) (first_none (option_map (condition_for d.name) (classes.refusal t d)) (others_refusal d cells w) none) in
    let shared : Bool = classes.has_shared_slots d.slots in
    let above : List Name = or_standard d.superclasses in
    defined_ordered t d.name above shared
    (second_none (when (not (classes.is_unambiguous d)) program_error) (refusal t d.name above shared) refused) s

stays_with : (top : Top) → StaysWith HasOrder top
stays_with top = by_kind HasOrder (λ t. ⊤)
    (λ d h vs u none s. class_ordered d (length vs) u none s) (λ d h vs u none s. s)
    (λ name m h vs u none s. s) (λ f h name u s. (s, s)) top tt

first_ordered : AreOrdered predefined
first_ordered = (begins_consistent predefined refl, refl)

-- ---- sessions

pub classes_are_listed : ClassesAreListed
classes_are_listed limits names w u r same =
    let s : HasOrder u = same_order w u same (always HasOrder order_stays (λ d top e. stays_with top) limits names first_ordered w r) in
    let cs : Classes = u.classes.table.classes in
    record {
      fits = λ n l h. list_fits cs n l (listed_by (listing cs n) l h);
      members = λ n l h m. members cs n l (listed_by (listing cs n) l h) m;
      none = λ n. (λ h. none_told cs n s.0 h, λ q. told_none cs n q);
      no_circle = s.0.no_circle;
    }
