-- The methods of functions are among all methods, as both change.
use Rattle.std.proofs.Common.{◌≡◌, ℕ, zero, suc, ◌<◌, List, [], ◌∷◌, ◌++◌, Bool, true, false, length, arith, refl, ap, sym, subst, true≢false, ◌⊎◌, inl, inr, eqb-true}
use Rattle.std.specs.Prelude.{◌==◌, ◌||◌, if◌then◌else◌}
use Rattle.std.specs.List.{list_any}
use Rattle.clos_method.specs.declared.method.Method.{Method}
use Rattle.clos_generic.specs.Table.{Function, added, is_alike_at, with_changed, with_methods, without}
use Rattle.clos_generic.specs.TableView.{AreThere, is_method_of}
use Rattle.clos_generic.proofs.Kept.{one_longer}
use Rattle.clos_generic.proofs.Ready.{or_true}
use Rattle.clos_generic.proofs.Rooms.{one_of}

-- whether a number is one of these
abbrev pub is_in : ℕ → List ℕ → Bool
is_in n ns = list_any (λ k. k == n) ns

-- ---- the numbers of one function's methods

or_more : (b c d : Bool) → (c ≡ true → d ≡ true) → (b || c) ≡ true → (b || d) ≡ true
or_more true c d k h = refl
or_more false c d k h = k h

pub in_without : (p : ℕ → Bool) (n : ℕ) (ns : List ℕ) → is_in n (without p ns) ≡ true → is_in n ns ≡ true
in_without p n [] h = h
in_without p n (m ∷ ms) h =
    elim (p m)
    as (λ b. is_in n (if b then ms else m ∷ without p ms) ≡ true → is_in n (m ∷ ms) ≡ true)
    [ true ↦ or_true (m == n) (is_in n ms) | false ↦ or_more (m == n) (is_in n (without p ms)) (is_in n ms) (in_without p n ms) ] h

in_or_last : (n l : ℕ) (ns : List ℕ) → is_in n (ns ++ l ∷ []) ≡ true → (is_in n ns ≡ true) ⊎ (n ≡ l)
in_or_last n l [] h = elim (one_of (l == n) false h) [ inl e ↦ inr (sym (eqb-true l n e)) | inr e ↦ absurd (true≢false (sym e)) ]
in_or_last n l (m ∷ ms) h =
    elim (one_of (m == n) (is_in n (ms ++ l ∷ [])) h) [
      | inl e ↦ inl (ap (λ b. b || is_in n ms) e)
      | inr t ↦ elim (in_or_last n l ms t) [ inl e ↦ inl (or_true (m == n) (is_in n ms) e) | inr e ↦ inr e ]
    ]

-- ---- the functions

pub of_same : (fs gs : List Function) (g n : ℕ) → gs ≡ fs → is_method_of gs g n ≡ true → is_method_of fs g n ≡ true
of_same fs gs g n e h = subst (λ l. is_method_of l g n ≡ true) e h

-- no method comes by the change
abbrev pub AddsNone : (Function → Function) → Type 0
AddsNone change = (n : ℕ) (f : Function) → is_in n (change f).methods ≡ true → is_in n f.methods ≡ true

-- One function is changed, and no method comes.
pub of_before : (change : Function → Function) → AddsNone change → (fs : List Function) (i g n : ℕ)
    → is_method_of (with_changed change i fs) g n ≡ true → is_method_of fs g n ≡ true
of_before change k [] i g n h = h
of_before change k (f ∷ fs) zero zero n h = k n f h
of_before change k (f ∷ fs) zero (suc g) n h = h
of_before change k (f ∷ fs) (suc i) zero n h = h
of_before change k (f ∷ fs) (suc i) (suc g) n h = of_before change k fs i g n h

-- One function has one method more, the next one.
pub of_or_added : (ms : List Method) (m : Method) (fs : List Function) (i g n : ℕ)
    → is_method_of (with_changed (with_methods (added ms m)) i fs) g n ≡ true
    → (is_method_of fs g n ≡ true) ⊎ ((n ≡ length ms) × (g ≡ i) × (i < length fs))
of_or_added ms m [] i g n h = inl h
of_or_added ms m (f ∷ fs) zero zero n h =
    elim (in_or_last n (length ms) (without (is_alike_at ms m.qualifiers m.specializers) f.methods) h) [
      | inl e ↦ inl (in_without (is_alike_at ms m.qualifiers m.specializers) n f.methods e)
      | inr e ↦ inr (e, refl, omega arith)
    ]
of_or_added ms m (f ∷ fs) zero (suc g) n h = inl h
of_or_added ms m (f ∷ fs) (suc i) zero n h = inl h
of_or_added ms m (f ∷ fs) (suc i) (suc g) n h =
    elim (of_or_added ms m fs i g n h) [ inl e ↦ inl e | inr e ↦ inr (e.0, ap suc e.1, omega (arith, e.2)) ]

-- There is one more function, without methods.
pub of_made : (fs : List Function) (f : Function) (g n : ℕ) → f.methods ≡ []
    → is_method_of (fs ++ f ∷ []) g n ≡ true → is_method_of fs g n ≡ true
of_made [] f zero n e h = subst (λ ms. is_in n ms ≡ true) e h
of_made [] f (suc g) n e h = h
of_made (x ∷ xs) f zero n e h = h
of_made (x ∷ xs) f (suc g) n e h = of_made xs f g n e h

-- ---- they are among all

pub there_none : (fs : List Function) (ms : List Method) → fs ≡ [] → AreThere fs ms
there_none fs ms e = λ g n h. absurd (true≢false (sym (of_same [] fs g n e h)))

pub there_same : (fs gs : List Function) (ms ns : List Method) → AreThere fs ms → gs ≡ fs → ns ≡ ms → AreThere gs ns
there_same fs gs ms ns k e i = subst (λ l. AreThere l ns) (sym e) (subst (λ l. AreThere fs l) (sym i) k)

pub there_changed : (change : Function → Function) → AddsNone change → (fs gs : List Function) (ms : List Method) (i : ℕ)
    → AreThere fs ms → gs ≡ with_changed change i fs → AreThere gs ms
there_changed change a fs gs ms i k e = λ g n h. k g n (of_before change a fs i g n (of_same (with_changed change i fs) gs g n e h))

pub there_added : (fs gs : List Function) (ms : List Method) (m : Method) (i : ℕ)
    → AreThere fs ms → gs ≡ with_changed (with_methods (added ms m)) i fs → AreThere gs (ms ++ m ∷ [])
there_added fs gs ms m i k e = λ g n h.
    elim (of_or_added ms m fs i g n (of_same (with_changed (with_methods (added ms m)) i fs) gs g n e h)) [
      | inl a ↦ let l : n < length ms = k g n a in omega (arith, l, one_longer ms m)
      | inr a ↦ omega (arith, a.0, one_longer ms m)
    ]

pub there_made : (fs gs : List Function) (f : Function) (ms : List Method)
    → AreThere fs ms → gs ≡ fs ++ f ∷ [] → f.methods ≡ [] → AreThere gs ms
there_made fs gs f ms k e o = λ g n h. k g n (of_made fs f g n o (of_same (fs ++ f ∷ []) gs g n e h))
