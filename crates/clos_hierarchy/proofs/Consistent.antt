-- Tables of classes stay consistent.
use Rattle.std.proofs.Common.{◌≡◌, ◌↔◌, ℕ, suc, ◌==◌, ◌+◌, Bool, true, false, List, [], ◌∷◌, Option, Some, None, inl, inr, length, ◌<◌, ◌≤◌, arith, refl, sym, subst, ap, ◌∙◌}
use Rattle.std.specs.Prelude.{not, ◌&&◌, ◌⊎◌, nat_lt, option_to_list, option_map, IfSome, IsNone, if◌then◌else◌}
use Rattle.std.specs.List.{list_all}
use Rattle.std.proofs.lemmas.Bool.{eqb-true, eqb-false, eq-eqb, ltb-true}
use Rattle.lisp_data.specs.Name.{Name}
use Rattle.clos_precedence.specs.Precedence.{has}
use Rattle.clos_hierarchy.specs.Classes.{Classes, Listing, lacking, broken, listed, named, number_of, with_class, defined, names_above, superclasses, is_based, is_circular, is_lacking, is_broken, list_in, listing}
use Rattle.clos_hierarchy.specs.declared.kept.Kept.{Kept}
use Rattle.clos_hierarchy.specs.inner.KeptView.{listing_at}
use Rattle.clos_hierarchy.specs.inner.Kept.{Changes, Knows, IsConsistent}
use Rattle.clos_hierarchy.specs.Table.{Refusal, superclass_cycle, incomplete_class, inconsistent_precedence, when, or_else, broken_from, out_of_order, misplaced, list_if}
use Rattle.clos_hierarchy.specs.Initial.{predefined}
use Rattle.clos_hierarchy.specs.Ways.{Series, IsSuperclass, IsSelfOrAbove, IsComplete, IsIncomplete, HasNoBase}
use Rattle.clos_precedence.proofs.Truth.{and_left, and_right, neither, nothing}
use Rattle.clos_precedence.proofs.Members.{has_first, first_or_later, in_first, in_second, in_either, below, is_below}
use Rattle.clos_hierarchy.proofs.Ways.{one_of, end_below, is_circle}
use Rattle.clos_hierarchy.proofs.Lacking.{no_base, up_to, finds_lacking}
use Rattle.clos_hierarchy.proofs.Superclasses.{members, whole_list}
use Rattle.clos_hierarchy.proofs.Admitted.{changed_by}

-- ---- what is not refused

neither_refuses : (o p : Option Refusal) → or_else o p ≡ None → (o ≡ None) × (p ≡ None)
neither_refuses None p h = (refl, h)
neither_refuses (Some r) p h = cc

not_when : (b : Bool) (r : Refusal) → when b r ≡ None → b ≡ false
not_when true r h = cc
not_when false r h = refl

placed_well : (to : Classes) (n : ℕ) (name : Name) (whole : Bool) → misplaced to n name whole ≡ None → (is_circular to n ≡ false) × (broken_from 0 to.names to ≡ None)
placed_well to n name whole h =
    let p : (when (is_circular to n) superclass_cycle ≡ None) × (out_of_order to n name whole ≡ None) = neither_refuses (when (is_circular to n) superclass_cycle) (out_of_order to n name whole) h in
    let q : (when (whole && is_lacking (listing to n)) incomplete_class ≡ None) × (or_else (when (is_broken (listing to n)) (inconsistent_precedence name)) (broken_from 0 to.names to) ≡ None) =
    neither_refuses (when (whole && is_lacking (listing to n)) incomplete_class) (or_else (when (is_broken (listing to n)) (inconsistent_precedence name)) (broken_from 0 to.names to)) p.1 in
    (not_when (is_circular to n) superclass_cycle p.0, (neither_refuses (when (is_broken (listing to n)) (inconsistent_precedence name)) (broken_from 0 to.names to) q.1).1)

not_this : (b : Bool) (r : Refusal) (rest : Option Refusal) → (if b then Some r else rest) ≡ None → (b ≡ false) × (rest ≡ None)
not_this true r rest h = cc
not_this false r rest h = (refl, h)

none_broken_by : (cs : Classes) (k n : ℕ) (b : Bool) → (k == n) ≡ b → is_broken (listing cs k) ≡ false → ((k == n) ≡ false → is_broken (listing cs n) ≡ false) → is_broken (listing cs n) ≡ false
none_broken_by cs k n true e h r = subst (λ v. is_broken (listing cs v) ≡ false) (eqb-true k n e) h
none_broken_by cs k n false e h r = r e

none_broken : (cs : Classes) (xs : List Name) (k n : ℕ) → broken_from k xs cs ≡ None → k ≤ n → n < k + length xs → is_broken (listing cs n) ≡ false
none_broken cs [] k n h a b = absurd (omega (arith, a, b))
none_broken cs (x ∷ xs) k n h a b =
    let p : (is_broken (listing cs k) ≡ false) × (broken_from (suc k) xs cs ≡ None) = not_this (is_broken (listing cs k)) (inconsistent_precedence x) (broken_from (suc k) xs cs) h in
    none_broken_by cs k n (k == n) refl p.0 (λ d. none_broken cs xs (suc k) n p.1 (omega (arith, a, eqb-false k n d)) (omega (arith, b)))

past : (cs : Classes) (n : ℕ) → nat_lt n (length cs.names) ≡ false → is_broken (listing cs n) ≡ false
past cs n h =
    let b : is_based cs n ≡ false = cc in ap is_broken (no_base cs (length cs.names + length cs.names) n b)

within : (cs : Classes) (n : ℕ) (b : Bool) → nat_lt n (length cs.names) ≡ b → (n < length cs.names → is_broken (listing cs n) ≡ false) → is_broken (listing cs n) ≡ false
within cs n true e h = h (ltb-true n (length cs.names) e)
within cs n false e h = past cs n e

-- where a class is not misplaced, none is without a list
pub none_broken_placed : (to : Classes) (c : ℕ) (name : Name) (whole : Bool) → misplaced to c name whole ≡ None → (n : ℕ) → is_broken (listing to n) ≡ false
none_broken_placed to c name whole h n = within to n (nat_lt n (length to.names)) refl (λ l. none_broken to to.names 0 n (placed_well to c name whole h).1 (omega (arith)) (omega (arith, l)))

-- ---- a new circle goes through the class that was defined

named_back : (cs to : Classes) (c : ℕ) (y : Name) (ys : List Name) (x : ℕ) → Changes cs to c → (c == x) ≡ false → (has (option_to_list (named to y)) x ≡ true) ⊎ (has (defined to ys) x ≡ true)
    → (has (defined to ys) x ≡ true → has (defined cs ys) x ≡ true) → has (defined cs (y ∷ ys)) x ≡ true
named_back cs to c y ys x m d (inl h) r =
    let e : named cs y ≡ Some x = m.others y x (one_of (named to y) x h) d in
    in_first (option_to_list (named cs y)) (defined cs ys) x (subst (λ v. has (option_to_list v) x ≡ true) (sym e) (has_first x []))
named_back cs to c y ys x m d (inr h) r = in_second (option_to_list (named cs y)) (defined cs ys) x (r h)

defined_back : (cs to : Classes) (c : ℕ) (xs : List Name) (x : ℕ) → Changes cs to c → (c == x) ≡ false → has (defined to xs) x ≡ true → has (defined cs xs) x ≡ true
defined_back cs to c [] x m d h = nothing h
defined_back cs to c (y ∷ ys) x m d h = named_back cs to c y ys x m d (in_either (option_to_list (named to y)) (defined to ys) x h) (λ e. defined_back cs to c ys x m d e)

step_back : (cs to : Classes) (c k x : ℕ) → Changes cs to c → (c == k) ≡ false → (c == x) ≡ false → has (superclasses to k) x ≡ true → has (superclasses cs k) x ≡ true
step_back cs to c k x m e d h = defined_back cs to c (names_above cs k) x m d (subst (λ v. has (defined to v) x ≡ true) (m.rows k e) h)

flipped : (x c : ℕ) (b : Bool) → (c == x) ≡ b → (x == c) ≡ false → (c == x) ≡ false
flipped x c true e h = let p : (x == c) ≡ true = eq-eqb x c (sym (eqb-true c x e)) in cc
flipped x c false e h = e

series_back : (cs to : Classes) (c n : ℕ) (xs : List ℕ) (m : ℕ) → Changes cs to c → (c == n) ≡ false → has xs c ≡ false → (c == m) ≡ false → Series to n xs m → Series cs n xs m
series_back cs to c n [] m g a b d s = step_back cs to c n m g a d s
series_back cs to c n (x ∷ xs) m g a b d s =
    let p : ((x == c) ≡ false) × (has xs c ≡ false) = neither (x == c) (has xs c) b in
    let e : (c == x) ≡ false = flipped x c (c == x) refl p.0 in
    (step_back cs to c n x g a e s.0, series_back cs to c x xs m g e p.1 d s.1)

from_by : (cs : Classes) (x : ℕ) (xs : List ℕ) (m z : ℕ) → Series cs x xs m → (x ≡ z) ⊎ (has xs z ≡ true) → (has xs z ≡ true → IsSuperclass cs z m) → IsSuperclass cs z m
from_by cs x xs m z s (inl e) r = (xs, subst (λ v. Series cs v xs m) e s)
from_by cs x xs m z s (inr h) r = r h

from : (cs : Classes) (n : ℕ) (xs : List ℕ) (m z : ℕ) → Series cs n xs m → has xs z ≡ true → IsSuperclass cs z m
from cs n [] m z s h = nothing h
from cs n (x ∷ xs) m z s h = from_by cs x xs m z s.1 (first_or_later x z xs h) (λ e. from cs x xs m z s.1 e)

through : (cs : Classes) (n : ℕ) (xs : List ℕ) (m z : ℕ) → Series cs n xs m → IsSuperclass cs m z → IsSuperclass cs n z
through cs n [] m z s q = (m ∷ q.0, (s, q.1))
through cs n (x ∷ xs) m z s q = let p : IsSuperclass cs x z = through cs x xs m z s.1 q in (x ∷ p.0, (s.0, p.1))

round_by : (cs to : Classes) (c m : ℕ) (xs : List ℕ) (a b : Bool) → Changes cs to c → (IsSuperclass to c c → ⊥) → (IsSuperclass cs m m → ⊥) → Series to m xs m → (c == m) ≡ a → has xs c ≡ b → ⊥
round_by cs to c m xs true b g n o s e h = n (subst (λ v. IsSuperclass to v v) (sym (eqb-true c m e)) (xs, s))
round_by cs to c m xs false true g n o s e h =
    let p : IsSuperclass to c m = from to m xs m c s h in n (through to c p.0 m c p.1 (up_to to m xs m c s h))
round_by cs to c m xs false false g n o s e h = o (xs, series_back cs to c m xs m g e h e s)

not_round : (cs : Classes) (n : ℕ) → is_circular cs n ≡ false → IsSuperclass cs n n → ⊥
not_round cs n h q = let p : is_circular cs n ≡ true = is_circle cs n q in cc

pub stays_consistent : (cs to : Classes) (c : ℕ) (name : Name) (whole : Bool) → Changes cs to c → misplaced to c name whole ≡ None → IsConsistent cs → IsConsistent to
stays_consistent cs to c name whole g h s =
    let p : (is_circular to c ≡ false) × (broken_from 0 to.names to ≡ None) = placed_well to c name whole h in
    record {
      no_circle = λ m q. round_by cs to c m q.0 (c == m) (has q.0 c) g (not_round to c p.0) (s.no_circle m) q.1 refl refl;
      no_broken = none_broken_placed to c name whole h;
    }

pub placed_consistent : (cs to : Classes) (own name : Name) (above : List Name) (whole : Bool) → own ≡ name → length cs.above ≡ length cs.names → to ≡ with_class cs own above
    → misplaced to (number_of cs name) name whole ≡ None → IsConsistent cs → IsConsistent to
placed_consistent cs to own name above whole o l e h s =
    stays_consistent cs to (number_of cs name) name whole (changed_by cs to (number_of cs name) name above l (subst (λ v. to ≡ with_class cs v above) o e) refl) h s

-- ---- the predefined classes

none_circular : list_all (λ n. not (is_circular predefined n)) (below (length predefined.names)) ≡ true
none_circular = refl

all_listed : list_all (λ n. not (is_broken (listing predefined n))) (below (length predefined.names)) ≡ true
all_listed = refl

each_by : (p : ℕ → Bool) (y : ℕ) (ys : List ℕ) (x : ℕ) → list_all p (y ∷ ys) ≡ true → (y ≡ x) ⊎ (has ys x ≡ true) → (has ys x ≡ true → p x ≡ true) → p x ≡ true
each_by p y ys x h (inl e) r = subst (λ v. p v ≡ true) e (and_left (p y) (list_all p ys) h)
each_by p y ys x h (inr k) r = r k

each_of : (p : ℕ → Bool) (xs : List ℕ) (x : ℕ) → list_all p xs ≡ true → has xs x ≡ true → p x ≡ true
each_of p [] x h k = nothing k
each_of p (y ∷ ys) x h k = each_by p y ys x h (first_or_later y x ys k) (λ e. each_of p ys x (and_right (p y) (list_all p ys) h) e)

not_so : (b : Bool) → not b ≡ true → b ≡ false
not_so true h = cc
not_so false h = refl

predefined_consistent : IsConsistent predefined
predefined_consistent = record {
  no_circle = λ n q. not_round predefined n (not_so (is_circular predefined n) (each_of (λ m. not (is_circular predefined m)) (below (length predefined.names)) n none_circular (is_below (length predefined.names) n (end_below predefined n q.0 n q.1)))) q;
  no_broken = λ n. within predefined n (nat_lt n (length predefined.names)) refl (λ l. not_so (is_broken (listing predefined n)) (each_of (λ m. not (is_broken (listing predefined m))) (below (length predefined.names)) n all_listed (is_below (length predefined.names) n l)));
}

pub begins_consistent : (cs : Classes) → cs ≡ predefined → IsConsistent cs
begins_consistent cs e = subst IsConsistent (sym e) predefined_consistent

-- ---- a class without a list

lacks_by : (cs : Classes) (n : ℕ) (a : Listing) → listing cs n ≡ a → None ≡ list_if a → is_broken a ≡ false → listing cs n ≡ lacking
lacks_by cs n lacking e h b = e
lacks_by cs n broken e h b = cc
lacks_by cs n (listed l) e h b = cc

incomplete_by : (cs : Classes) (n m : ℕ) → IsConsistent cs → IsSelfOrAbove cs n m → HasNoBase cs m → IsIncomplete cs n
incomplete_by cs n m c s (inl h) = (m, s, h)
incomplete_by cs n m c s (inr q) = absurd (c.no_circle m q)

told_none : (cs : Classes) (ks : List Kept) (n : ℕ) → Knows cs ks → IsConsistent cs → None ≡ list_if (listing_at ks n) → IsIncomplete cs n
told_none cs ks n k c h =
    let l : listing cs n ≡ lacking = lacks_by cs n (listing cs n) refl (subst (λ v. None ≡ list_if v) (k.same n) h) (c.no_broken n) in
    let q : (m : ℕ) × IsSelfOrAbove cs n m × HasNoBase cs m = (finds_lacking cs n).0 l in incomplete_by cs n q.0 c q.1 q.2

no_list : (cs : Classes) (ks : List Kept) (n : ℕ) → Knows cs ks → IsIncomplete cs n → list_if (listing_at ks n) ≡ None
no_list cs ks n k q =
    let l : listing cs n ≡ lacking = (finds_lacking cs n).1 (q.0, q.1, inl q.2) in
    let e : listing_at ks n ≡ lacking = k.same n ∙ l in ap list_if e

none_by : {A : Type 0} (o : Option A) (f : A → List ℕ) (a : Option (List ℕ)) (P : Type 0) → option_map f o ≡ a → (None ≡ a → P) → (P → a ≡ None) → IsNone o ↔ P
none_by None f a P e h k = (λ i. h e, λ p. refl)
none_by (Some x) f a P e h k = (λ i. cc, λ p. let g : a ≡ None = k p in cc)

-- there is no list just where the class is incomplete
pub no_list_told : {A : Type 0} (cs : Classes) (ks : List Kept) (n : ℕ) (o : Option A) (f : A → List ℕ) → Knows cs ks → IsConsistent cs → option_map f o ≡ list_if (listing_at ks n) → IsNone o ↔ IsIncomplete cs n
no_list_told cs ks n o f k c e = none_by o f (list_if (listing_at ks n)) (IsIncomplete cs n) e (λ h. told_none cs ks n k c h) (λ q. no_list cs ks n k q)

listed_by : (cs : Classes) (n : ℕ) (a : Listing) (l : List ℕ) → listing cs n ≡ a → Some l ≡ list_if a → listing cs n ≡ listed l
listed_by cs n lacking l e h = cc
listed_by cs n broken l e h = cc
listed_by cs n (listed m) l e h = cc

some_by : {A : Type 0} (o : Option A) (f : A → List ℕ) (a : Option (List ℕ)) (P : A → Type 0) → option_map f o ≡ a → ((x : A) → Some (f x) ≡ a → P x) → IfSome o P
some_by None f a P e h = tt
some_by (Some x) f a P e h = h x e

pub members_told : {A : Type 0} (cs : Classes) (ks : List Kept) (n : ℕ) (o : Option A) (f : A → List ℕ) → Knows cs ks → option_map f o ≡ list_if (listing_at ks n)
    → IfSome o (λ x. (m : ℕ) → (has (f x) m ≡ true) ↔ IsSelfOrAbove cs n m)
members_told cs ks n o f k e =
    some_by o f (list_if (listing_at ks n)) (λ x. (m : ℕ) → (has (f x) m ≡ true) ↔ IsSelfOrAbove cs n m) e
    (λ x h. members cs n (f x) (listed_by cs n (listing cs n) (f x) refl (subst (λ v. Some (f x) ≡ list_if v) (k.same n) h)))

-- ---- a class below another

not_both : {A : Type 0} (cs : Classes) (n m : ℕ) → IsConsistent cs → IsComplete cs n → IsSelfOrAbove cs n m → HasNoBase cs m → A
not_both cs n m c w s (inl h) = let p : is_based cs m ≡ true = w m s in cc
not_both cs n m c w s (inr q) = absurd (c.no_circle m q)

lacks_none : {A : Type 0} (cs : Classes) (n : ℕ) → IsConsistent cs → IsComplete cs n → listing cs n ≡ lacking → A
lacks_none cs n c w h =
    let q : (m : ℕ) × IsSelfOrAbove cs n m × HasNoBase cs m = (finds_lacking cs n).0 h in not_both cs n q.0 c w q.1 q.2

below_by : (cs : Classes) (n a : ℕ) (r : Bool) (x : Listing) → IsConsistent cs → listing cs n ≡ x → r ≡ has (list_in x) a → (r ≡ true) ↔ (IsComplete cs n × IsSelfOrAbove cs n a)
below_by cs n a r lacking c e h = (λ i. cc, λ q. lacks_none cs n c q.0 e)
below_by cs n a r broken c e h = (λ i. cc, λ q. let p : is_broken (listing cs n) ≡ false = c.no_broken n in cc)
below_by cs n a r (listed l) c e h = (
  λ i. ((λ m s. (whole_list cs n l e).based m ((members cs n l e m).1 s)), (members cs n l e a).0 (sym h ∙ i)),
  λ q. h ∙ (members cs n l e a).1 q.1,
)

pub below_told : (cs : Classes) (ks : List Kept) (n a : ℕ) (r : Bool) → Knows cs ks → IsConsistent cs → r ≡ has (list_in (listing_at ks n)) a → (r ≡ true) ↔ (IsComplete cs n × IsSelfOrAbove cs n a)
below_told cs ks n a r k c h = below_by cs n a r (listing cs n) c refl (h ∙ ap (λ v. has (list_in v) a) (k.same n))
