-- Circles of classes that have to come before each other are circles of what stands before them.
use Rattle.std.proofs.Common.{◌≡◌, ◌⊎◌, inl, inr, ℕ, Bool, true, false, ◌&&◌, ◌||◌, List, [], ◌∷◌, ◌++◌, Result, Ok, Err, refl, ap, sym, subst, ◌∙◌, true≢false}
use Rattle.std.specs.Prelude.{IfOk, if◌then◌else◌}
use Rattle.std.specs.Cmp.{first_so, second_so}
use Rattle.std.specs.List.{list_any}
use Rattle.std.proofs.lemmas.List.Folds.{list_any-append}
use Rattle.std.proofs.lemmas.Option.{slice_get_within}
use Rattle.lisp_data.specs.KeyLaws.{same_name-Decides}
use Rattle.lisp_data.specs.Name.{Name, same_name}
use Rattle.lisp_data.specs.Same.{both_so}
use Rattle.clos_circle.specs.Circle.{AreByAbove, FindsCircle, FindsOrderCircle, IsAbove, are_next, goes_on, is_circle, is_due, is_order_circle, leads_down, returns_to}
use Rattle.clos_circle.specs.declared.precedence.Edge.{Edge}
use Rattle.clos_circle.specs.inner.Before.{FindsAmong, befores, by_of, edge_for, edges_for, next_before}
use Rattle.clos_circle.specs.inner.Upward.{Found, IsUpward, is_among, with_all, with_one}
use Rattle.clos_circle.proofs.WayUp.{itself, named_by_one, or_first, or_second, place_among, reached}

-- ---- what stands before a class

pub with_append : (xs ys : List Name) (place : ℕ) (u : Found) → with_all (xs ++ ys) place u ≡ with_all ys place (with_all xs place u)
with_append [] ys place u = refl
with_append (x ∷ xs) ys place u = with_append xs ys place (with_one x place u)

turned_by : (b : Bool) (x y : Name) → same_name x y ≡ b → same_name y x ≡ b
turned_by true x y e = (same_name-Decides y x).1 (sym ((same_name-Decides x y).0 e))
turned_by false x y e = other (same_name y x) refl where
  other : (c : Bool) → same_name y x ≡ c → c ≡ false
  other false h = refl
  other true h = absurd (true≢false (sym ((same_name-Decides x y).1 (sym ((same_name-Decides y x).0 h))) ∙ e))

one_before : (b : Bool) (l : List Name) (last x : Name) (r : Bool) → is_among l x ≡ r
    → is_among (if b then last ∷ l else l) x ≡ ((same_name last x && b) || r)
one_before true l last x r h = ap (λ c. c || is_among l x) (turned_by (same_name last x) last x refl) ∙ ap (λ c. same_name last x || c) h
    ∙ ap (λ c. c || r) (sym (with_true (same_name last x))) where
      with_true : (c : Bool) → (c && true) ≡ c
      with_true true = refl
      with_true false = refl
one_before false l last x r h = h ∙ ap (λ c. c || r) (sym (with_false (same_name last x))) where
  with_false : (c : Bool) → (c && false) ≡ false
  with_false true = refl
  with_false false = refl

before_one : (last : Name) (ys : List Name) (x y : Name) → is_among (next_before last ys y) x ≡ are_next last ys x y
before_one last [] x y = refl
before_one last (z ∷ zs) x y = one_before (same_name z y) (next_before z zs y) last x (are_next z zs x y) (before_one z zs x y)

pub named_before : (f : Name → List Name) (names : List Name) (x y : Name)
    → list_any (λ by. are_next by (f by) x y) names ≡ is_among (befores f names y) x
named_before f [] x y = refl
named_before f (by ∷ names) x y =
    ap (λ b. are_next by (f by) x y || b) (named_before f names x y)
    ∙ ap (λ b. b || is_among (befores f names y) x) (sym (before_one by (f by) x y))
    ∙ sym (list_any-append (same_name x) (next_before by (f by) y) (befores f names y))

-- ---- the edges of a circle

due_by : (b : Bool) (f : Name → List Name) (by : Name) (names : List Name) (x y : Name) → are_next by (f by) x y ≡ b
    → (b || list_any (λ n. are_next n (f n) x y) names) ≡ true
    → (list_any (λ n. are_next n (f n) x y) names ≡ true → is_due f (edge_for f names x y) ≡ true)
    → is_due f (record { before = x; after = y; by = if b then by else by_of f names x y }) ≡ true
due_by true f by names x y e h rest = e
due_by false f by names x y e h rest = rest h

due : (f : Name → List Name) (names : List Name) (x y : Name) → list_any (λ n. are_next n (f n) x y) names ≡ true
    → is_due f (edge_for f names x y) ≡ true
due f [] x y h = absurd (true≢false (sym h))
due f (by ∷ names) x y h = due_by (are_next by (f by) x y) f by names x y refl h (due f names x y)

module _ (f : Name → List Name) (names : List Name) where
  abbrev before : Name → List Name
  before x = befores f names x

  first_due : (x y : Name) (ys : List Name) → leads_down before (x ∷ y ∷ ys) ≡ true → is_due f (edge_for f names x y) ≡ true
  first_due x y ys h = due f names x y (named_before f names x y ∙ first_so (is_among (before y) x) (leads_down before (y ∷ ys)) h)

  path : (first x : Name) (ys : List Name) → leads_down before (x ∷ ys) ≡ true → returns_to first (x ∷ ys) ≡ true
      → goes_on f first x (edges_for f names (x ∷ ys)) ≡ true
  path first x [] h k = k
  path first x (y ∷ ys) h k =
      both_so (same_name x x && is_due f (edge_for f names x y)) (goes_on f first y (edges_for f names (y ∷ ys)))
      (both_so (same_name x x) (is_due f (edge_for f names x y)) (itself x) (first_due x y ys h))
      (path first y ys (second_so (is_among (before y) x) (leads_down before (y ∷ ys)) h) k)

  edges_close : (x y : Name) (ys : List Name) → is_circle before (x ∷ y ∷ ys) ≡ true
      → is_order_circle f (edges_for f names (x ∷ y ∷ ys)) ≡ true
  edges_close x y ys h =
      let down = second_so (returns_to x (y ∷ ys)) (leads_down before (x ∷ y ∷ ys)) h in
      both_so (is_due f (edge_for f names x y)) (goes_on f x y (edges_for f names (y ∷ ys))) (first_due x y ys down)
      (path x y ys (second_so (is_among (before y) x) (leads_down before (y ∷ ys)) down)
      (first_so (returns_to x (y ∷ ys)) (leads_down before (x ∷ y ∷ ys)) h))

-- ---- where there is no circle of what stands before, there is none of edges

one_of : (a b : Bool) → (a || b) ≡ true → (a ≡ true) ⊎ (b ≡ true)
one_of true b h = inl refl
one_of false b h = inr h

module _ (f : Name → List Name) (name : Name) (u : Found) (w : IsUpward f name u) where
  there : (x : Name) → IsAbove f name x → is_among u.0 x ≡ true
  there x a = reached f name u w x a.between a.leads a.ends

  before_by : (e : Edge) → IsAbove f name e.by → is_due f e ≡ true → is_among (befores f u.0 e.after) e.before ≡ true
  before_by e a h =
      let by = place_among u.0 e.by (there e.by a) in
      sym (named_before f u.0 e.before e.after)
      ∙ named_by_one f (λ n. are_next n (f n) e.before e.after) u.0 by.index e.by by.there h

  first_there : (last : Name) (ys : List Name) (x y : Name) → are_next last ys x y ≡ true → (same_name last x ≡ true) ⊎ (is_among ys x ≡ true)
  first_there last [] x y h = absurd (true≢false (sym h))
  first_there last (z ∷ zs) x y h = elim (one_of (same_name last x && same_name z y) (are_next z zs x y) h) [
    | inl e ↦ inl (first_so (same_name last x) (same_name z y) e)
    | inr e ↦ elim (first_there z zs x y e) [
      | inl k ↦ inr (or_first (same_name x z) (is_among zs x) (turned_by true z x k))
      | inr k ↦ inr (or_second (same_name x z) (is_among zs x) k)
    ]
  ]

  begins_there : (e : Edge) → IsAbove f name e.by → is_due f e ≡ true → is_among u.0 e.before ≡ true
  begins_there e a h =
      let by = place_among u.0 e.by (there e.by a) in
      elim (first_there e.by (f e.by) e.before e.after h) [
        | inl k ↦ subst (λ n. is_among u.0 n ≡ true) ((same_name-Decides e.by e.before).0 k) (there e.by a)
        | inr k ↦ w.all by.index e.by (slice_get_within u.0 by.index e.by by.there) by.there e.before k
      ]

  record Chain (first now : Name) : Type 0 where
    pub others : List Name
    pub leads : leads_down (befores f u.0) (now ∷ others) ≡ true
    pub ends : returns_to first (now ∷ others) ≡ true

  chain : (first now : Name) (es : List Edge) → AreByAbove f name es → goes_on f first now es ≡ true → Chain first now
  chain first now [] a h = record { others = []; leads = refl; ends = h }
  chain first now (e ∷ es) a h =
      let here = first_so (same_name e.before now && is_due f e) (goes_on f first e.after es) h in
      let same : e.before ≡ now = (same_name-Decides e.before now).0 (first_so (same_name e.before now) (is_due f e) here) in
      let rest = chain first e.after es a.1 (second_so (same_name e.before now && is_due f e) (goes_on f first e.after es) h) in
      record {
        others = e.after ∷ rest.others;
        leads = both_so (is_among (befores f u.0 e.after) now) (leads_down (befores f u.0) (e.after ∷ rest.others))
            (subst (λ n. is_among (befores f u.0 e.after) n ≡ true) same
            (before_by e a.0 (second_so (same_name e.before now) (is_due f e) here)))
            rest.leads;
        ends = rest.ends;
      }

  no_edges : FindsAmong (befores f u.0) u.0 [] → (es : List Edge) → AreByAbove f name es → is_order_circle f es ≡ false
  no_edges none [] a = refl
  no_edges none (e ∷ es) a = by (is_order_circle f (e ∷ es)) refl where
    by : (b : Bool) → is_order_circle f (e ∷ es) ≡ b → b ≡ false
    by false h = refl
    by true h =
        let is = first_so (is_due f e) (goes_on f e.before e.after es) h in
        let rest = chain e.before e.after es a.1 (second_so (is_due f e) (goes_on f e.before e.after es) h) in
        let circle : is_circle (befores f u.0) (e.before ∷ e.after ∷ rest.others) ≡ true =
        both_so (returns_to e.before (e.after ∷ rest.others)) (leads_down (befores f u.0) (e.before ∷ e.after ∷ rest.others)) rest.ends
        (both_so (is_among (befores f u.0 e.after) e.before) (leads_down (befores f u.0) (e.after ∷ rest.others)) (before_by e a.0 is) rest.leads) in
        absurd (true≢false (sym circle ∙ none e.before (e.after ∷ rest.others) (begins_there e a.0 is)))

  pub edges_found : (circle : List Name) → FindsAmong (befores f u.0) u.0 circle → FindsOrderCircle f name (edges_for f u.0 circle)
  edges_found [] h = no_edges h
  edges_found (x ∷ []) h = absurd (true≢false (sym h))
  edges_found (x ∷ y ∷ ys) h = edges_close f u.0 x y ys h

-- so it is of what are the edges
pub found_if_ok : {V E : Type 0} (items : V → List Edge) (f : Name → List Name) (name : Name) (u : Found) (circle : List Name) (r : Result V E)
    → IsUpward f name u → FindsAmong (befores f u.0) u.0 circle → IfOk r (λ v. items v ≡ edges_for f u.0 circle)
    → IfOk r (λ v. FindsOrderCircle f name (items v))
found_if_ok items f name u circle (Ok v) w h e = subst (FindsOrderCircle f name) (sym e) (edges_found f name u w circle h)
found_if_ok items f name u circle (Err x) w h e = tt

-- ---- one class after another

-- none begins with one of these that is not left
abbrev pub NoneButLeft : (Name → List Name) → List Name → List Name → Type 0
NoneButLeft g names left = (x : Name) (xs : List Name) → is_among names x ≡ true → (is_among left x ≡ true) ⊎ (is_circle g (x ∷ xs) ≡ false)

pub one_less : (g : Name → List Name) (names : List Name) (first : Name) (rest circle : List Name) → NoneButLeft g names (first ∷ rest)
    → FindsCircle g first circle → circle ≡ [] → NoneButLeft g names rest
one_less g names first rest circle n h e = λ x xs k. elim (n x xs k) [
  | inl i ↦ by (same_name x first) x xs refl i
  | inr i ↦ inr i
] where
  none : (xs : List Name) → is_circle g (first ∷ xs) ≡ false
  none = subst (FindsCircle g first) e h

  by : (b : Bool) (x : Name) (xs : List Name) → same_name x first ≡ b → (b || is_among rest x) ≡ true
      → (is_among rest x ≡ true) ⊎ (is_circle g (x ∷ xs) ≡ false)
  by true x xs t i = inr (subst (λ n. is_circle g (n ∷ xs) ≡ false) (sym ((same_name-Decides x first).0 t)) (none xs))
  by false x xs t i = inl i

pub none_left : (g : Name → List Name) (names left : List Name) → NoneButLeft g names left → left ≡ [] → FindsAmong g names []
none_left g names left n e = λ x xs k. elim (n x xs k) [
  | inl i ↦ absurd (true≢false (sym (ap (λ l. is_among l x) (sym e) ∙ i)))
  | inr i ↦ i
]

pub one_found : (g : Name → List Name) (names : List Name) (first : Name) (circle : List Name) → FindsCircle g first circle
    → (circle ≡ [] → ⊥) → FindsAmong g names circle
one_found g names first [] h k = absurd (k refl)
one_found g names first (x ∷ xs) h k = h
