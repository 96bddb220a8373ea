-- The objects of which methods have eql specializers are noted, as functions and methods change.
use Rattle.std.proofs.Common.{◌≡◌, ℕ, zero, suc, ◌<◌, List, [], ◌∷◌, ◌++◌, Bool, true, false, get_or, length, arith, refl, ap, sym, ◌∙◌, subst, true≢false, inl, inr}
use Rattle.std.proofs.lemmas.Bool.{eq-eqb, eqb-true}
use Rattle.std.proofs.lemmas.List.{length-map}
use Rattle.std.specs.Prelude.{◌==◌, ◌||◌, slice_get, slice_set, slice_index_or}
use Rattle.std.specs.List.{list_any}
use Rattle.lisp_data.specs.Print.{Specializer}
use Rattle.lisp_data.specs.ValueView.{value_of}
use Rattle.lisp_data.specs.declared.value.Value.{Value}
use Rattle.lisp_data.specs.declared.ids.MethodId.{MethodId}
use Rattle.clos_method.specs.MethodIds.{method_numbers}
use Rattle.clos_method.specs.Applicable.{has_eql, has_eql_at, is_eql_to, specializers_in}
use Rattle.clos_method.specs.declared.method.Method.{Method}
use Rattle.clos_generic.specs.Table as table
use Rattle.clos_generic.specs.Table.{added, methods_in, with_changed, with_methods}
use Rattle.clos_generic.specs.TableView.{AreThere, function_of, functions_in, is_method_of}
use Rattle.clos_generic.specs.inner.EqlObjects.{AreNoted, KeepNotes, NotesEql, is_noted, is_noted_in}
use Rattle.clos_generic.specs.declared.function.Function.{Function}
use Rattle.clos_generic.proofs.Changed.{changed_there, said_of_changed}
use Rattle.clos_generic.proofs.Kept.{got_before, got_last}
use Rattle.clos_generic.proofs.Named.{one_more_seen}
use Rattle.clos_generic.proofs.Ready.{or_true}
use Rattle.clos_generic.proofs.There.{AddsNone, is_in, of_before, of_made, of_or_added, of_same}

-- ---- one function is changed

pub notes_kept : (fs : List Function) (i : ℕ) (f e : Function) → f ≡ slice_index_or fs i f
    → ((place : ℕ) (v : Value) → is_noted f.eql_objects place v ≡ true → is_noted e.eql_objects place v ≡ true) → KeepNotes fs (slice_set fs i e)
notes_kept fs i f e is k = λ place g v h.
    said_of_changed (λ o. is_noted_in o place v ≡ true) (λ o. is_noted_in o place v ≡ true) fs i f e g is (λ o r. r) (k place v) h

pub eql_noted : (fs : List Function) (i : ℕ) (e : Function) (ss : List Specializer) → i < length fs
    → NotesEql ss (is_noted e.eql_objects) → NotesEql ss (is_noted_in (slice_get (slice_set fs i e) i))
eql_noted fs i e ss l k = λ place v h. ap (λ o. is_noted_in o place v) (changed_there fs i e l) ∙ k place v h

-- ---- no method has an eql specializer of an object that is not noted

false_by : (b : Bool) → (b ≡ true → ⊥) → b ≡ false
false_by true k = absurd (k refl)
false_by false k = refl

none_passes : (p : ℕ → Bool) (ns : List ℕ) → ((n : ℕ) → is_in n ns ≡ true → p n ≡ false) → list_any p ns ≡ false
none_passes p [] k = refl
none_passes p (n ∷ ns) k =
    ap (λ b. b || list_any p ns) (k n (ap (λ b. b || is_in n ns) (eq-eqb n n refl)))
    ∙ none_passes p ns (λ m h. k m (or_true (n == m) (is_in m ns) h))

pub no_eql : (fs : List Function) (ms : List Method) (g place : ℕ) (v : Value) → AreNoted fs ms → is_noted_in (slice_get fs g) place v ≡ false
    → has_eql ms (methods_in (slice_get (functions_in fs) g)) place (value_of v) ≡ false
no_eql fs ms g place v k o =
    none_passes (has_eql_at ms place (value_of v)) (methods_in (slice_get (functions_in fs) g)) (λ n h.
    false_by (has_eql_at ms place (value_of v) n) (λ e. true≢false (sym (k g place n v h e) ∙ o)))

-- ---- the method that is noted tells that there is one

pub one_has : (ms : List Method) (n : ℕ) (ns : List ℕ) (place : ℕ) (v : Value) → is_in n ns ≡ true
    → has_eql ms (n ∷ []) place (value_of v) ≡ true → has_eql ms ns place (value_of v) ≡ true
one_has ms n [] place v h e = absurd (true≢false (sym h))
one_has ms n (m ∷ ns) place v h e =
    elim (m == n)
    as (λ b. (m == n) ≡ b → (b || is_in n ns) ≡ true → (has_eql_at ms place (value_of v) m || has_eql ms ns place (value_of v)) ≡ true) [
      | true ↦ λ same there.
          ap (λ k. has_eql_at ms place (value_of v) k || has_eql ms ns place (value_of v)) (eqb-true m n same)
          ∙ ap (λ b. b || has_eql ms ns place (value_of v)) (or_false (has_eql_at ms place (value_of v) n) e)
      | false ↦ λ other there. or_true (has_eql_at ms place (value_of v) m) (has_eql ms ns place (value_of v)) (one_has ms n ns place v there e)
    ]
    refl h
  where
    or_false : (b : Bool) → (b || false) ≡ true → b ≡ true
    or_false true h = refl
    or_false false h = absurd (true≢false (sym h))

-- ---- the objects are noted

pub noted_none : (fs : List Function) (ms : List Method) → fs ≡ [] → AreNoted fs ms
noted_none fs ms e = λ g place n v h q. absurd (true≢false (sym (subst (λ l. is_method_of (functions_in l) g n ≡ true) e h)))

pub noted_same : (fs es : List Function) (ms ns : List Method) → AreNoted fs ms
    → functions_in es ≡ functions_in fs → ns ≡ ms → KeepNotes fs es → AreNoted es ns
noted_same fs es ms ns k e i s =
    let noted : AreNoted es ms = λ g place n v h q. s place g v (k g place n v (of_same (functions_in fs) (functions_in es) g n e h) q) in
    subst (λ l. AreNoted es l) (sym i) noted

pub noted_changed : (change : table.Function → table.Function) → AddsNone change → (fs es : List Function) (ms : List Method) (i : ℕ)
    → AreNoted fs ms → functions_in es ≡ with_changed change i (functions_in fs) → KeepNotes fs es → AreNoted es ms
noted_changed change a fs es ms i k e s = λ g place n v h q.
    let before = of_same (with_changed change i (functions_in fs)) (functions_in es) g n e h in
    s place g v (k g place n v (of_before change a (functions_in fs) i g n before) q)

module _ (fs es : List Function) (ms : List Method) (m : Method) (i : ℕ) where
  abbrev with_added : List table.Function
  with_added = with_changed (with_methods (added ms m)) i (functions_in fs)

  eql_before : (place n : ℕ) (v : Value) → n < length ms → has_eql_at (ms ++ m ∷ []) place (value_of v) n ≡ true → has_eql_at ms place (value_of v) n ≡ true
  eql_before place n v l q = ap (λ o. is_eql_to (value_of v) (slice_get (specializers_in o) place)) (sym (got_before ms m n l)) ∙ q

  eql_last : (place n : ℕ) (v : Value) → n ≡ length ms → has_eql_at (ms ++ m ∷ []) place (value_of v) n ≡ true → is_eql_to (value_of v) (slice_get m.specializers place) ≡ true
  eql_last place n v e q =
      ap (λ o. is_eql_to (value_of v) (slice_get (specializers_in o) place)) (sym (got_last ms m))
      ∙ ap (has_eql_at (ms ++ m ∷ []) place (value_of v)) (sym e)
      ∙ q

  -- a function has one method more
  pub noted_added : AreThere (functions_in fs) ms → AreNoted fs ms → functions_in es ≡ with_added → KeepNotes fs es
      → (i < length fs → NotesEql m.specializers (is_noted_in (slice_get es i))) → AreNoted es (ms ++ m ∷ [])
  noted_added t k e s o = λ g place n v h q.
      elim (of_or_added ms m (functions_in fs) i g n (of_same with_added (functions_in es) g n e h)) [
        | inl a ↦ s place g v (k g place n v a (eql_before place n v (t g n a) q))
        | inr a ↦
            subst (λ j. is_noted_in (slice_get es j) place v ≡ true) (sym a.1)
            (o (omega (arith, a.2, length-map fs function_of)) place v (eql_last place n v a.0 q))
      ]

-- ---- one more function

notes_before : (fs : List Function) (f : Function) → KeepNotes fs (fs ++ f ∷ [])
notes_before fs f = λ place g v h. by place v fs g h
  where
    by : (place : ℕ) (v : Value) (fs : List Function) (g : ℕ) → is_noted_in (slice_get fs g) place v ≡ true
        → is_noted_in (slice_get (fs ++ f ∷ []) g) place v ≡ true
    by place v [] g h = absurd (true≢false (sym h))
    by place v (x ∷ xs) zero h = h
    by place v (x ∷ xs) (suc g) h = by place v xs g h

pub noted_made : (fs es : List Function) (f : Function) (ms : List Method)
    → AreNoted fs ms → es ≡ fs ++ f ∷ [] → (function_of f).methods ≡ [] → AreNoted es ms
noted_made fs es f ms k e o =
    let noted : AreNoted (fs ++ f ∷ []) ms = λ g place n v h q.
    let seen = of_same (functions_in fs ++ function_of f ∷ []) (functions_in (fs ++ f ∷ [])) g n (one_more_seen fs f) h in
    notes_before fs f place g v (k g place n v (of_made (functions_in fs) (function_of f) g n o seen) q) in
    subst (λ l. AreNoted l ms) (sym e) noted

-- a number that stands at a place
pub number_there : (ids : List MethodId) (i : ℕ) (m : MethodId) (n : ℕ) → i < length ids → get_or ids i m ≡ m → m.0 ≡ n
    → is_in n (method_numbers ids) ≡ true
number_there [] i m n l e h = absurd (omega (arith, l))
number_there (x ∷ ids) zero m n l e h = ap (λ b. b || is_in n (method_numbers ids)) (eq-eqb x.0 n (ap (λ k. k.0) e ∙ h))
number_there (x ∷ ids) (suc i) m n l e h =
    or_true (x.0 == n) (is_in n (method_numbers ids)) (number_there ids i m n (omega (arith, l)) e h)
