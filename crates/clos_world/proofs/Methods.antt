-- Each method of a function is one of all methods, at first and after each change, and each change leaves all functions but one as they were.
use Rattle.std.proofs.Common.{◌≡◌, ◌≢◌, ℕ, zero, suc, ◌<◌, ◌==◌, Bool, true, false, ◌||◌, List, [], ◌∷◌, ◌++◌, length, Option, Some, None, refl, ap, subst, sym, true≢false, eqb-true, arith}
use Rattle.std.specs.Prelude.{slice_get, unwrap_or}
use Rattle.std.specs.List.{list_any}
use Rattle.clos_comb.specs.Left.{IsLeft}
use Rattle.clos_forms.specs.declared.operator.FunctionName.{FunctionName}
use Rattle.clos_generic.specs.Initial.{initial}
use Rattle.clos_generic.specs.Table.{Function, Table, added, defined_at, made, named, number, redefined, with_changed, with_definition, with_method, with_methods, without, without_method}
use Rattle.clos_generic.specs.TableView.{AreThere}
use Rattle.clos_generic.specs.declared.options.Options.{Options}
use Rattle.clos_generic.proofs.There.{in_without, there_added, there_changed, there_made}
use Rattle.clos_method.specs.declared.method.Method.{Method}

-- ---- what is at a place

module _ {X : Type 0} where
  -- where another element has changed
  elsewhere : (change : X → X) (n : ℕ) (xs : List X) (i : ℕ) → i ≢ n → slice_get (with_changed change n xs) i ≡ slice_get xs i
  elsewhere change n [] i h = refl
  elsewhere change zero (x ∷ xs) zero h = absurd (h refl)
  elsewhere change zero (x ∷ xs) (suc i) h = refl
  elsewhere change (suc n) (x ∷ xs) zero h = refl
  elsewhere change (suc n) (x ∷ xs) (suc i) h = elsewhere change n xs i (λ e. h (ap suc e))

  -- where one more came at the end
  not_last : (xs : List X) (x : X) (i : ℕ) → i ≢ length xs → slice_get (xs ++ x ∷ []) i ≡ slice_get xs i
  not_last [] x zero h = absurd (h refl)
  not_last [] x (suc i) h = refl
  not_last (y ∷ ys) x zero h = refl
  not_last (y ∷ ys) x (suc i) h = not_last ys x i (λ e. h (ap suc e))

-- ---- each method of a function is there

so_alone : (b : Bool) → (b || false) ≡ true → b ≡ true
so_alone true h = refl
so_alone false h = h

one_there : (m n : ℕ) → m < 9 → list_any (λ k. k == n) (m ∷ []) ≡ true → n < 9
one_there m n h e = subst (λ k. k < 9) (eqb-true m n (so_alone (m == n) e)) h

-- that of each function of the system
pub first_there : (functions methods : ℕ) → AreThere (initial functions methods).functions (initial functions methods).methods
first_there fs ms zero n h = one_there 0 n (omega arith) h
first_there fs ms (suc zero) n h = one_there 1 n (omega arith) h
first_there fs ms (suc (suc zero)) n h = one_there 2 n (omega arith) h
first_there fs ms (suc (suc (suc zero))) n h = one_there 3 n (omega arith) h
first_there fs ms (suc (suc (suc (suc zero)))) n h = one_there 4 n (omega arith) h
first_there fs ms (suc (suc (suc (suc (suc zero))))) n h = one_there 5 n (omega arith) h
first_there fs ms (suc (suc (suc (suc (suc (suc zero)))))) n h = one_there 6 n (omega arith) h
first_there fs ms (suc (suc (suc (suc (suc (suc (suc zero))))))) n h = one_there 7 n (omega arith) h
first_there fs ms (suc (suc (suc (suc (suc (suc (suc (suc zero)))))))) n h = one_there 8 n (omega arith) h
first_there fs ms (suc (suc (suc (suc (suc (suc (suc (suc (suc g))))))))) n h = absurd (true≢false (sym h))

abbrev pub MethodsThere : Table → Type 0
MethodsThere t = AreThere t.functions t.methods

pub there_without : (g m : ℕ) (t : Table) → MethodsThere t → MethodsThere (without_method g m t)
there_without g m t h =
    there_changed (with_methods (without (λ k. k == m))) (λ n f e. in_without (λ k. k == m) n f.methods e) t.functions _ t.methods g h refl

defined_there : (found : Option ℕ) (name : FunctionName) (o : Options) (t : Table) → MethodsThere t
    → AreThere (defined_at found name o t.functions) t.methods
defined_there None name o t h = there_made t.functions _ (made name o) t.methods h refl refl
defined_there (Some g) name o t h = there_changed (redefined o) (λ n f e. e) t.functions _ t.methods g h refl

pub there_defined : (name : FunctionName) (o : Options) (t : Table) → MethodsThere t → MethodsThere (with_definition name o t)
there_defined name o t h = defined_there (named t name) name o t h

pub there_with_method : (g : ℕ) (m : Method) (t : Table) → MethodsThere t → MethodsThere (with_method g m t)
there_with_method g m t h = there_added t.functions _ t.methods m g h refl

-- ---- other functions are left as they were

pub left_without : (g m : ℕ) (t : Table) (i : ℕ) → i ≢ g → IsLeft t (without_method g m t) i
left_without g m t i h = record { function = elsewhere (with_methods (without (λ k. k == m))) g t.functions i h; methods = λ n l. refl }

defined_elsewhere : (found : Option ℕ) (name : FunctionName) (o : Options) (fs : List Function) (i : ℕ)
    → i ≢ unwrap_or found (length fs) → slice_get (defined_at found name o fs) i ≡ slice_get fs i
defined_elsewhere None name o fs i h = not_last fs (made name o) i h
defined_elsewhere (Some g) name o fs i h = elsewhere (redefined o) g fs i h

pub left_defined : (name : FunctionName) (o : Options) (t : Table) (i : ℕ) → i ≢ number t name → IsLeft t (with_definition name o t) i
left_defined name o t i h =
    record { function = defined_elsewhere (named t name) name o t.functions i h; methods = λ n l. refl }

pub left_added : (g : ℕ) (m : Method) (t : Table) (i : ℕ) → i ≢ g → IsLeft t (with_method g m t) i
left_added g m t i h = record {
  function = elsewhere (with_methods (added t.methods m)) g t.functions i h;
  methods = λ n l. not_last t.methods m n (λ e. absurd (omega (arith, l, e)));
}
