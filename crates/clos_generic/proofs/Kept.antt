-- The methods that came with accessors, as methods are added, and as they are found.
use Rattle.std.proofs.Common.{◌≡◌, ℕ, zero, suc, ◌+◌, ◌<◌, ◌≤◌, List, [], ◌∷◌, ◌++◌, Option, Some, None, Bool, true, false, length, arith, refl, ap, sym, ◌∙◌, subst, true≢false, inl, inr, eqb-true, append_assoc}
use Rattle.std.specs.Prelude.{◌==◌, nat_eq, option_map, slice_get, vec_len, vec_capacity, if◌then◌else◌}
use Rattle.std.specs.HashMap.{get, spare}
use Rattle.std.specs.List.{filter}
use Rattle.std.proofs.lemmas.Bool.{cases_order}
use Rattle.std.proofs.lemmas.List.{append-nil}
use Rattle.std.proofs.lemmas.List.Elements.{filter-append}
use Rattle.std.proofs.lemmas.Option.{slice_get_past}
use Rattle.lisp_data.specs.declared.ids.GenericId.{GenericId}
use Rattle.lisp_data.specs.declared.ids.MethodId.{MethodId}
use Rattle.clos_method.specs.Origin.{is_accessor_of}
use Rattle.clos_method.specs.declared.method.Method.{Method}
use Rattle.clos_method.specs.declared.origin.Origin.{Origin}
use Rattle.clos_method.specs.declared.origin.Origin.TheVariants.{System, Defmethod, MethodOption, Accessor}
use Rattle.clos_generic.specs.Accessors.{accessors_below, accessors_there, is_accessor_in, is_there, numbers_below}
use Rattle.clos_generic.specs.Held.{after_first, is_first}
use Rattle.clos_generic.specs.Table.{Table}
use Rattle.clos_generic.specs.inner.AccessorMethods.{HasPlaces, IsAccessor, IsKept, KnowsMore, KnowsNone, KnowsSame, accessors_up_to, latest_below, latest_for, noted_in, numbers_left}
use Rattle.clos_generic.specs.inner.Reserved.{ids_of}
use Rattle.clos_generic.specs.declared.accessors.AccessorMethods.{AccessorMethods}

abbrev number_of : Option MethodId → Option ℕ
number_of o = option_map (λ m. m.0) o

-- ---- one more at the end of a list

pub got_before : {A : Type 0} (xs : List A) (y : A) (n : ℕ) → n < length xs → slice_get (xs ++ y ∷ []) n ≡ slice_get xs n
got_before [] y n h = absurd (omega (arith, h))
got_before (x ∷ xs) y zero h = refl
got_before (x ∷ xs) y (suc n) h = got_before xs y n (omega (arith, h))

pub got_last : {A : Type 0} (xs : List A) (y : A) → slice_get (xs ++ y ∷ []) (length xs) ≡ Some y
got_last [] y = refl
got_last (x ∷ xs) y = got_last xs y

pub one_longer : {A : Type 0} (xs : List A) (y : A) → length (xs ++ y ∷ []) ≡ suc (length xs)
one_longer [] y = refl
one_longer (x ∷ xs) y = ap suc (one_longer xs y)

-- ---- one more method

latest_before : (ms : List Method) (m : Method) (c n : ℕ) → n ≤ length ms → latest_below (ms ++ m ∷ []) c n ≡ latest_below ms c n
latest_before ms m c zero h = refl
latest_before ms m c (suc n) h =
    ap (λ o. if is_accessor_in c o then Some n else latest_below (ms ++ m ∷ []) c n) (got_before ms m n (omega (arith, h)))
    ∙ ap (λ p. if is_accessor_in c (slice_get ms n) then Some n else p) (latest_before ms m c n (omega (arith, h)))

latest_of_more : (ms : List Method) (m : Method) (c : ℕ)
    → latest_below (ms ++ m ∷ []) c (length (ms ++ m ∷ [])) ≡ (if is_accessor_of c m.origin then Some (length ms) else latest_below ms c (length ms))
latest_of_more ms m c =
    ap (latest_below (ms ++ m ∷ []) c) (one_longer ms m)
    ∙ ap (λ o. if is_accessor_in c o then Some (length ms) else latest_below (ms ++ m ∷ []) c (length ms)) (got_last ms m)
    ∙ ap (λ p. if is_accessor_of c m.origin then Some (length ms) else p) (latest_before ms m c (length ms) (omega arith))

chosen : (b : Bool) (id : MethodId) (o : Option MethodId) (n : ℕ) (p : Option ℕ) → id.0 ≡ n → number_of o ≡ p → number_of (if b then Some id else o) ≡ (if b then Some n else p)
chosen true id o n p e h = ap Some e
chosen false id o n p e h = h

-- the latest one of the class of an accessor
of_its_class : (o : Origin) (latest : ℕ → Option MethodId) (c : ℕ) → is_accessor_of c o ≡ true → latest_for o latest ≡ latest c
of_its_class System latest c h = absurd (true≢false (sym h))
of_its_class Defmethod latest c h = absurd (true≢false (sym h))
of_its_class MethodOption latest c h = absurd (true≢false (sym h))
of_its_class (Accessor class) latest c h = ap latest (eqb-true class.0 c h)

module _ (a b : AccessorMethods) (ms : List Method) (m : Method) (id : MethodId) (k : IsKept a ms) (is : id.0 ≡ length ms) (t : KnowsMore id m.origin a b) where
  abbrev before : Option MethodId
  before = latest_for m.origin (λ c. get nat_eq a.latest c)

  kept_before : (c n : ℕ) → n < length ms → is_accessor_in c (slice_get (ms ++ m ∷ []) n) ≡ true → noted_in (slice_get b.earlier.items n) ≡ latest_below (ms ++ m ∷ []) c n
  kept_before c n l h =
      ap (λ es. noted_in (slice_get es n)) t.earlier
      ∙ ap noted_in (got_before a.earlier.items before n (omega (arith, l, k.all)))
      ∙ k.earlier c n (ap (is_accessor_in c) (sym (got_before ms m n l)) ∙ h)
      ∙ sym (latest_before ms m c n (omega (arith, l)))

  kept_last : (c : ℕ) → is_accessor_in c (slice_get (ms ++ m ∷ []) (length ms)) ≡ true
      → noted_in (slice_get b.earlier.items (length ms)) ≡ latest_below (ms ++ m ∷ []) c (length ms)
  kept_last c h =
      let i : is_accessor_of c m.origin ≡ true = ap (is_accessor_in c) (sym (got_last ms m)) ∙ h in
      ap (λ es. noted_in (slice_get es (length ms))) t.earlier
      ∙ ap (λ n. noted_in (slice_get (a.earlier.items ++ before ∷ []) n)) (sym k.all)
      ∙ ap noted_in (got_last a.earlier.items before)
      ∙ ap number_of (of_its_class m.origin (λ c. get nat_eq a.latest c) c i)
      ∙ k.latest c
      ∙ sym (latest_before ms m c (length ms) (omega arith))

  none_after : (c n : ℕ) → length ms < n → is_accessor_in c (slice_get (ms ++ m ∷ []) n) ≡ true → ⊥
  none_after c n l h = true≢false (sym h ∙ ap (is_accessor_in c) (slice_get_past (ms ++ m ∷ []) n (omega (arith, l, one_longer ms m))))

  all_earlier : (c n : ℕ) → is_accessor_in c (slice_get (ms ++ m ∷ []) n) ≡ true → noted_in (slice_get b.earlier.items n) ≡ latest_below (ms ++ m ∷ []) c n
  all_earlier c n h =
      elim (cases_order n (length ms)) [
        | inl e ↦ subst (λ j. is_accessor_in c (slice_get (ms ++ m ∷ []) j) ≡ true → noted_in (slice_get b.earlier.items j) ≡ latest_below (ms ++ m ∷ []) c j) (sym e) (kept_last c) h
        | inr r ↦ elim r [ inl l ↦ kept_before c n l h | inr l ↦ absurd (none_after c n l h) ]
      ]

  pub kept_more : IsKept b (ms ++ m ∷ [])
  kept_more = record {
    all = ap length t.earlier ∙ one_longer a.earlier.items before ∙ ap suc k.all ∙ sym (one_longer ms m);
    latest = λ c.
        ap number_of (t.latest c)
        ∙ chosen (is_accessor_of c m.origin) id (get nat_eq a.latest c) (length ms) (latest_below ms c (length ms)) is (k.latest c)
        ∙ sym (latest_of_more ms m c);
    earlier = all_earlier;
  }

-- ---- the same is known, and nothing is

pub kept_same : (a b : AccessorMethods) (ms ns : List Method) → IsKept a ms → KnowsSame a b → ns ≡ ms → IsKept b ns
kept_same a b ms ns k s e =
    let kept : IsKept b ms = record {
      all = ap length s.earlier ∙ k.all;
      latest = λ c. ap number_of (s.latest c) ∙ k.latest c;
      earlier = λ c n h. ap (λ es. noted_in (slice_get es n)) s.earlier ∙ k.earlier c n h;
    } in
    subst (λ l. IsKept b l) (sym e) kept

pub kept_none : (a : AccessorMethods) (ms : List Method) → KnowsNone a → ms ≡ [] → IsKept a ms
kept_none a ms k e =
    let kept : IsKept a [] = record {
      all = ap length k.earlier;
      latest = λ c. ap number_of (k.latest c);
      earlier = λ c n h. absurd (true≢false (sym h));
    } in
    subst (λ l. IsKept a l) (sym e) kept

-- ---- memory

-- The first of the additions has a place.
pub first_place : (a : AccessorMethods) (A : List GenericId) (ns : List ℕ) (g : ℕ) → ids_of A ≡ ns → is_first (λ h. h == g) ns ≡ true → HasPlaces (length A) a → HasPlaces 1 a
first_place a A ns g e i h = by A (subst (λ x. is_first (λ h. h == g) x ≡ true) (sym e) i) h
  where
    by : (A : List GenericId) → is_first (λ h. h == g) (ids_of A) ≡ true → HasPlaces (length A) a → HasPlaces 1 a
    by [] i h = absurd (true≢false (sym i))
    by (x ∷ xs) i h = (omega (arith, h.0), omega (arith, h.1))

-- One more is noted, and an addition is past.
pub places_after : (a b : AccessorMethods) (p : GenericId → Bool) (A rest : List GenericId) → rest ≡ after_first p A → HasPlaces (length A) a → HasPlaces 1 a
    → spare a.latest ≤ spare b.latest + 1 → vec_len b.earlier ≡ vec_len a.earlier + 1 → vec_capacity b.earlier ≡ vec_capacity a.earlier → HasPlaces (length rest) b
places_after a b p A rest e h i s l c = subst (λ x. HasPlaces (length x) b) (sym e) (by A h)
  where
    none : HasPlaces 0 b
    none = (omega arith, omega (arith, i.1, l, c))

    by : (A : List GenericId) → HasPlaces (length A) a → HasPlaces (length (after_first p A)) b
    by [] h = none
    by (x ∷ xs) h =
        elim (p x) as (λ q. HasPlaces (length (if q then xs else [])) b) [ true ↦ (omega (arith, h.0, s), omega (arith, h.1, l, c)) | false ↦ none ]

-- ---- from the latest one back

up_to_chosen : (ms : List Method) (c n : ℕ) (o : Option ℕ) (b : Bool) → accessors_up_to ms c o ≡ accessors_below ms c n
    → accessors_up_to ms c (if b then Some n else o) ≡ accessors_below ms c n ++ (if b then n ∷ [] else [])
up_to_chosen ms c n o true h = refl
up_to_chosen ms c n o false h = h ∙ sym (append-nil (accessors_below ms c n))

up_to_latest : (ms : List Method) (c n : ℕ) → accessors_up_to ms c (latest_below ms c n) ≡ accessors_below ms c n
up_to_latest ms c zero = refl
up_to_latest ms c (suc n) =
    up_to_chosen ms c n (latest_below ms c n) (is_accessor_in c (slice_get ms n)) (up_to_latest ms c n)
    ∙ sym (filter-append (λ k. is_accessor_in c (slice_get ms k)) (numbers_below n) (n ∷ []))

chosen_is_accessor : (ms : List Method) (c n : ℕ) (o : Option ℕ) (b : Bool) → is_accessor_in c (slice_get ms n) ≡ b → IsAccessor ms c o → IsAccessor ms c (if b then Some n else o)
chosen_is_accessor ms c n o true e h = e
chosen_is_accessor ms c n o false e h = h

latest_is_accessor : (ms : List Method) (c n : ℕ) → IsAccessor ms c (latest_below ms c n)
latest_is_accessor ms c zero = tt
latest_is_accessor ms c (suc n) = chosen_is_accessor ms c n (latest_below ms c n) (is_accessor_in c (slice_get ms n)) refl (latest_is_accessor ms c n)

pub found_is_accessor : (ms : List Method) (c n : ℕ) (o : Option ℕ) → o ≡ latest_below ms c n → IsAccessor ms c o
found_is_accessor ms c n o e = subst (λ x. IsAccessor ms c x) (sym e) (latest_is_accessor ms c n)

left_chosen : (n : ℕ) (o : Option ℕ) (b : Bool) → numbers_left o ≤ n → numbers_left (if b then Some n else o) ≤ suc n
left_chosen n o true h = omega arith
left_chosen n o false h = omega (arith, h)

left_below : (ms : List Method) (c n : ℕ) → numbers_left (latest_below ms c n) ≤ n
left_below ms c zero = omega arith
left_below ms c (suc n) = left_chosen n (latest_below ms c n) (is_accessor_in c (slice_get ms n)) (left_below ms c n)

pub fewer_left : (ms : List Method) (c : ℕ) (id : MethodId) (p o : Option MethodId) → p ≡ Some id → number_of o ≡ latest_below ms c id.0
    → numbers_left (number_of o) < numbers_left (number_of p)
fewer_left ms c id p o i e =
    let l : numbers_left (number_of o) ≤ id.0 = subst (λ x. numbers_left x ≤ id.0) (sym e) (left_below ms c id.0) in
    let n : numbers_left (number_of p) ≡ id.0 + 1 = ap (λ x. numbers_left (number_of x)) i in
    omega (arith, l, n)

module _ (t : Table) (c : ℕ) where
  -- what is still to be found, and what is
  abbrev found : Option ℕ → List ℕ → List ℕ
  found o ns = filter (is_there t) (accessors_up_to t.methods c o) ++ ns

  pub all_to_find : (o : Option ℕ) (ns : List ℕ) → o ≡ latest_below t.methods c (length t.methods) → ns ≡ [] → found o ns ≡ accessors_there t c
  all_to_find o ns e n =
      ap (λ x. found x ns) e
      ∙ ap (λ l. filter (is_there t) l ++ ns) (up_to_latest t.methods c (length t.methods))
      ∙ ap (λ x. accessors_there t c ++ x) n
      ∙ append-nil (accessors_there t c)

  joined : (b : Bool) (xs ns : List ℕ) (n : ℕ) → (xs ++ (if b then n ∷ [] else [])) ++ ns ≡ xs ++ (if b then n ∷ ns else ns)
  joined true xs ns n = append_assoc xs (n ∷ []) ns
  joined false xs ns n = ap (λ l. l ++ ns) (append-nil xs)

  -- one is found, or is no more there
  pub one_more_found : (id : MethodId) (p o : Option MethodId) (ns us : List ℕ) → p ≡ Some id → found (number_of p) ns ≡ accessors_there t c
      → number_of o ≡ latest_below t.methods c id.0 → us ≡ (if is_there t id.0 then id.0 ∷ ns else ns) → found (number_of o) us ≡ accessors_there t c
  one_more_found id p o ns us i f e u =
      ap (λ x. found x us) e
      ∙ ap (λ l. filter (is_there t) l ++ us) (up_to_latest t.methods c id.0)
      ∙ ap (λ x. filter (is_there t) (accessors_below t.methods c id.0) ++ x) u
      ∙ sym (joined (is_there t id.0) (filter (is_there t) (accessors_below t.methods c id.0)) ns id.0)
      ∙ ap (λ l. l ++ ns) (sym (filter-append (is_there t) (accessors_below t.methods c id.0) (id.0 ∷ [])))
      ∙ ap (λ x. found (number_of x) ns) (sym i)
      ∙ f

  pub all_found : (p : Option MethodId) (ns : List ℕ) → p ≡ None → found (number_of p) ns ≡ accessors_there t c → ns ≡ accessors_there t c
  all_found p ns e f = ap (λ x. found (number_of x) ns) (sym e) ∙ f
