-- Two lists of methods that agree on some numbers: what is found, ordered and combined among these is the same.
use Rattle.std.proofs.Common.{◌≡◌, ◌⊎◌, inl, inr, ℕ, ◌+◌, ◌==◌, Bool, true, false, ◌&&◌, ◌||◌, not, List, [], ◌∷◌, Option, Some, None, refl, ap, sym, ◌∙◌}
use Rattle.std.specs.Prelude.{filter, if◌then◌else◌, is_some, slice_get}
use Rattle.std.specs.List.{find, list_any}
use Rattle.lisp_data.specs.Datum.{Dats}
use Rattle.lisp_data.specs.Print.{Specializer}
use Rattle.lisp_data.specs.Value.{Val}
use Rattle.clos_forms.specs.Effective.{effective_form}
use Rattle.clos_comb.specs.Arguments.{is_no_data, parameters_bound, short_direction, takes}
use Rattle.clos_comb.specs.declared.direction.Direction.{Direction}
use Rattle.clos_comb.specs.Effective.{combined, combined_by, groups_of, groups_refusal}
use Rattle.clos_comb.specs.Groups.{short_groups, standard_groups}
use Rattle.clos_comb.specs.Long.{expanded_with, groups_bound}
use Rattle.clos_comb.specs.Outcome.{Combined, bad_expansion, formed, unless_refused}
use Rattle.clos_comb.specs.Short.{directed_combined, short_form}
use Rattle.clos_comb.specs.Standard.{standard_form}
use Rattle.clos_comb.specs.Table.{Combination, standard, short, long}
use Rattle.clos_groups.specs.Group.{group_with, has_group, is_in, is_the, members}
use Rattle.clos_groups.specs.Refusal.{Refusal, ambiguous_from, among, empty_from, is_specialized_so, or_ambiguous, or_empty, or_later, or_twins, refusal, specialized_so, twin_of, twins, ungrouped}
use Rattle.clos_groups.specs.clos_combination.declared.combination.ShortForm.{ShortForm}
use Rattle.clos_groups.specs.clos_combination.declared.group.GroupSpecifier.{GroupSpecifier}
use Rattle.clos_groups.specs.clos_method.Applicable.{applies_to, has_eql, has_eql_at, is_applicable, is_eql_to, specializers_in, specializers_of}
use Rattle.clos_groups.specs.clos_method.Arguments.{Argument}
use Rattle.clos_groups.specs.clos_method.Laws.{IsMember}
use Rattle.clos_groups.specs.clos_method.Order.{comes_before, is_before, ordered, placed}
use Rattle.clos_groups.specs.clos_method.declared.method.Method.{Method}

-- ---- numbers in lists

module _ (p q : ℕ → Bool) where
  pub any_alike : (ms : List ℕ) → ((n : ℕ) → IsMember ms n → p n ≡ q n) → list_any p ms ≡ list_any q ms
  any_alike [] h = refl
  any_alike (m ∷ ms) h =
      ap (λ b. b || list_any p ms) (h m (inl refl)) ∙ ap (λ b. q m || b) (any_alike ms (λ n i. h n (inr i)))

  pub filter_alike : (ms : List ℕ) → ((n : ℕ) → IsMember ms n → p n ≡ q n) → filter p ms ≡ filter q ms
  filter_alike [] h = refl
  filter_alike (m ∷ ms) h =
      ap (λ b. if b then m ∷ filter p ms else filter p ms) (h m (inl refl))
      ∙ ap (λ l. if q m then m ∷ l else l) (filter_alike ms (λ n i. h n (inr i)))

  pub find_alike : (ms : List ℕ) → ((n : ℕ) → IsMember ms n → p n ≡ q n) → find p ms ≡ find q ms
  find_alike [] h = refl
  find_alike (m ∷ ms) h =
      ap (λ b. if b then Some m else find p ms) (h m (inl refl))
      ∙ ap (λ o. if q m then Some m else o) (find_alike ms (λ n i. h n (inr i)))

among_kept : (b : Bool) (m : ℕ) (ms more : List ℕ) (n : ℕ) → (IsMember more n → IsMember ms n)
    → IsMember (if b then m ∷ more else more) n → IsMember (m ∷ ms) n
among_kept true m ms more n rest (inl e) = inl e
among_kept true m ms more n rest (inr i) = inr (rest i)
among_kept false m ms more n rest i = inr (rest i)

-- what a filter leaves was there
pub was_there : (p : ℕ → Bool) (ms : List ℕ) (n : ℕ) → IsMember (filter p ms) n → IsMember ms n
was_there p [] n i = i
was_there p (m ∷ ms) n i = among_kept (p m) m ms (filter p ms) n (was_there p ms n) i

-- ---- methods by their numbers

-- of each group, by its place, its members among these
abbrev in_groups : List Method → List GroupSpecifier → List ℕ → ℕ → List ℕ
in_groups zs gs ms k = members zs gs k ms

module _ (xs ys : List Method) where
  -- the same methods are at these numbers
  abbrev pub AgreeOn : List ℕ → Type 0
  AgreeOn ms = (n : ℕ) → IsMember ms n → slice_get xs n ≡ slice_get ys n

  pub eql_alike : (ms : List ℕ) (place : ℕ) (v : Val) → AgreeOn ms → has_eql xs ms place v ≡ has_eql ys ms place v
  eql_alike ms place v h =
      any_alike (has_eql_at xs place v) (has_eql_at ys place v) ms
      (λ n i. ap (λ o. is_eql_to v (slice_get (specializers_in o) place)) (h n i))

  -- ---- their order

  module _ (ps : List ℕ) (args : List Argument) where
    placed_in : (b : Bool) (m n : ℕ) (ns more : List ℕ) (k : ℕ) → (IsMember more k → IsMember (m ∷ ns) k)
        → IsMember (if b then n ∷ more else m ∷ n ∷ ns) k → IsMember (m ∷ n ∷ ns) k
    placed_in true m n ns more k rest (inl e) = inr (inl e)
    placed_in true m n ns more k rest (inr i) = elim (rest i) [ inl e ↦ inl e | inr j ↦ inr (inr j) ]
    placed_in false m n ns more k rest i = i

    placed_there : (zs : List Method) (m : ℕ) (ns : List ℕ) (k : ℕ) → IsMember (placed zs ps args m ns) k → IsMember (m ∷ ns) k
    placed_there zs m [] k i = i
    placed_there zs m (n ∷ ns) k i =
        placed_in (comes_before zs ps args n m) m n ns (placed zs ps args m ns) k (placed_there zs m ns k) i

    applicable_in : (b : Bool) (m : ℕ) (ms put more : List ℕ) (k : ℕ) → (IsMember put k → IsMember (m ∷ more) k)
        → (IsMember more k → IsMember ms k) → IsMember (if b then put else more) k → IsMember (m ∷ ms) k
    applicable_in true m ms put more k first rest i = elim (first i) [ inl e ↦ inl e | inr j ↦ inr (rest j) ]
    applicable_in false m ms put more k first rest i = inr (rest i)

    pub ordered_there : (zs : List Method) (ms : List ℕ) (k : ℕ) → IsMember (ordered zs ps args ms) k → IsMember ms k
    ordered_there zs [] k i = i
    ordered_there zs (m ∷ ms) k i =
        applicable_in (is_applicable zs args m) m ms (placed zs ps args m (ordered zs ps args ms)) (ordered zs ps args ms) k
        (placed_there zs m (ordered zs ps args ms) k) (ordered_there zs ms k) i

    placed_alike : (m : ℕ) (ns : List ℕ) → AgreeOn (m ∷ ns) → placed xs ps args m ns ≡ placed ys ps args m ns
    placed_alike m [] h = refl
    placed_alike m (n ∷ ns) h =
        ap (λ o. if is_before ps args (specializers_in o) (specializers_of xs m) then n ∷ placed xs ps args m ns else m ∷ n ∷ ns)
        (h n (inr (inl refl)))
        ∙ ap (λ o. if is_before ps args (specializers_of ys n) (specializers_in o) then n ∷ placed xs ps args m ns else m ∷ n ∷ ns)
        (h m (inl refl))
        ∙ ap (λ l. if comes_before ys ps args n m then n ∷ l else m ∷ n ∷ ns)
        (placed_alike m ns (λ k i. h k (elim i [ inl e ↦ inl e | inr j ↦ inr (inr j) ])))

    -- each of these was there
    with_first : (m : ℕ) (ms : List ℕ) → AgreeOn (m ∷ ms) → AgreeOn (m ∷ ordered ys ps args ms)
    with_first m ms h n (inl e) = h n (inl e)
    with_first m ms h n (inr i) = h n (inr (ordered_there ys ms n i))

    pub ordered_alike : (ms : List ℕ) → AgreeOn ms → ordered xs ps args ms ≡ ordered ys ps args ms
    ordered_alike [] h = refl
    ordered_alike (m ∷ ms) h =
        let more = ordered_alike ms (λ n i. h n (inr i)) in
        ap (λ o. if applies_to args o then placed xs ps args m (ordered xs ps args ms) else ordered xs ps args ms) (h m (inl refl))
        ∙ ap (λ l. if is_applicable ys args m then placed xs ps args m l else l) more
        ∙ ap (λ l. if is_applicable ys args m then l else ordered ys ps args ms)
        (placed_alike m (ordered ys ps args ms) (with_first m ms h))

  -- ---- their groups

  in_alike : (gs : List GroupSpecifier) (k : ℕ) (ms : List ℕ) → AgreeOn ms → (n : ℕ) → IsMember ms n → is_in xs gs k n ≡ is_in ys gs k n
  in_alike gs k ms h n i = ap (λ o. is_the (group_with gs o) k) (h n i)

  members_alike : (gs : List GroupSpecifier) (ms : List ℕ) → AgreeOn ms → (k : ℕ) → members xs gs k ms ≡ members ys gs k ms
  members_alike gs ms h k = filter_alike (is_in xs gs k) (is_in ys gs k) ms (in_alike gs k ms h)

  ungrouped_alike : (gs : List GroupSpecifier) (ms : List ℕ) → AgreeOn ms → ungrouped xs gs ms ≡ ungrouped ys gs ms
  ungrouped_alike gs ms h =
      find_alike (λ m. not (has_group xs gs m)) (λ m. not (has_group ys gs m)) ms
      (λ n i. ap (λ o. not (is_some (group_with gs o))) (h n i))

  empty_alike : (gs : List GroupSpecifier) (ms : List ℕ) → AgreeOn ms → (k : ℕ) (rest : List GroupSpecifier)
      → empty_from xs gs ms k rest ≡ empty_from ys gs ms k rest
  empty_alike gs ms h k [] = refl
  empty_alike gs ms h k (g ∷ rest) =
      ap (λ b. if g.required && not b then Some k else empty_from xs gs ms (k + 1) rest)
      (any_alike (is_in xs gs k) (is_in ys gs k) ms (in_alike gs k ms h))
      ∙ ap (λ o. if g.required && not (list_any (is_in ys gs k) ms) then Some k else o) (empty_alike gs ms h (k + 1) rest)

  twin_alike : (o : Option Method) (ms : List ℕ) → AgreeOn ms → twin_of xs o ms ≡ twin_of ys o ms
  twin_alike None ms h = refl
  twin_alike (Some m) ms h =
      find_alike (λ n. is_specialized_so m.specializers (slice_get xs n)) (λ n. is_specialized_so m.specializers (slice_get ys n)) ms
      (λ n i. ap (is_specialized_so m.specializers) (h n i))

  twins_alike : (ms : List ℕ) → AgreeOn ms → twins xs ms ≡ twins ys ms
  twins_alike [] h = refl
  twins_alike (m ∷ ms) h =
      ap (λ o. or_later m (twin_of xs o ms) (twins xs ms)) (h m (inl refl))
      ∙ ap (λ t. or_later m t (twins xs ms)) (twin_alike (slice_get ys m) ms (λ n i. h n (inr i)))
      ∙ ap (or_later m (twin_of ys (slice_get ys m) ms)) (twins_alike ms (λ n i. h n (inr i)))

  ambiguous_alike : (gs : List GroupSpecifier) (ms : List ℕ) → AgreeOn ms → (k : ℕ) (rest : List GroupSpecifier)
      → ambiguous_from xs gs ms k rest ≡ ambiguous_from ys gs ms k rest
  ambiguous_alike gs ms h k [] = refl
  ambiguous_alike gs ms h k (g ∷ rest) =
      ap (λ l. or_twins (twins xs l) (ambiguous_from xs gs ms (k + 1) rest)) (members_alike gs ms h k)
      ∙ ap (λ t. or_twins t (ambiguous_from xs gs ms (k + 1) rest))
      (twins_alike (members ys gs k ms) (λ n i. h n (was_there (is_in ys gs k) ms n i)))
      ∙ ap (or_twins (twins ys (members ys gs k ms))) (ambiguous_alike gs ms h (k + 1) rest)

  refusal_alike : (gs : List GroupSpecifier) (added ms : List ℕ) → AgreeOn added → AgreeOn ms
      → refusal xs gs added ms ≡ refusal ys gs added ms
  refusal_alike gs added ms a h =
      ap (λ o. or_empty o (empty_from xs gs ms 0 gs) (ambiguous_from xs gs (among ms added) 0 gs)) (ungrouped_alike gs ms h)
      ∙ ap (λ o. or_empty (ungrouped ys gs ms) o (ambiguous_from xs gs (among ms added) 0 gs)) (empty_alike gs ms h 0 gs)
      ∙ ap (or_empty (ungrouped ys gs ms) (empty_from ys gs ms 0 gs))
      (ambiguous_alike gs (among ms added) (λ n i. a n (was_there (λ m. list_any (λ k. k == m) ms) added n i)) 0 gs)

  -- ---- what they are combined into

  each_alike : (gs : List GroupSpecifier) (ms : List ℕ) → AgreeOn ms → in_groups xs gs ms ≡ in_groups ys gs ms
  each_alike gs ms h = λ i k. members_alike gs ms h k i

  directed_alike : (s : ShortForm) (ms : List ℕ) → AgreeOn ms → (o : Option Direction)
      → directed_combined s xs ms o ≡ directed_combined s ys ms o
  directed_alike s ms h None = refl
  directed_alike s ms h (Some direction) =
      ap (λ in_group. formed (effective_form (short_form s (in_group 0) (in_group 1) direction))) (each_alike (short_groups s.name) ms h)

  made_alike : (c : Combination) (arguments : Dats) (ms : List ℕ) → AgreeOn ms
      → combined c xs arguments ms ≡ combined c ys arguments ms
  made_alike standard arguments ms h =
      ap (λ in_group. if is_no_data arguments
      then formed (effective_form (standard_form (in_group 0) (in_group 1) (in_group 2) (in_group 3)))
      else bad_expansion) (each_alike standard_groups ms h)
  made_alike (short s) arguments ms h = directed_alike s ms h (short_direction arguments)
  made_alike (long f) arguments ms h =
      ap (λ in_group. if takes f.parameters arguments
      then expanded_with f ms (parameters_bound f.parameters arguments)
      (groups_bound (parameters_bound f.parameters arguments) in_group 0 f.groups)
      else bad_expansion) (each_alike f.groups ms h)

  pub combined_alike : (c : Combination) (added : List ℕ) (arguments : Dats) (ms : List ℕ) → AgreeOn added → AgreeOn ms
      → combined_by c xs added arguments ms ≡ combined_by c ys added arguments ms
  combined_alike c added arguments ms a h =
      ap (λ o. unless_refused (groups_of c) o (combined c xs arguments ms)) (refusal_alike (groups_of c) added ms a h)
      ∙ ap (unless_refused (groups_of c) (groups_refusal c ys added ms)) (made_alike c arguments ms h)
