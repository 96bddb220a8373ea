-- What names stand for in a scope.
use Rattle.std.proofs.Common.{◌≡◌, ℕ, List, [], ◌∷◌, ◌++◌, Bool, true, false, map, take, refl, ap, sym, ◌∙◌, true≢false}
use Rattle.std.proofs.lemmas.List.{map-append, take-map}
use Rattle.std.specs.Prelude.{Option, Some, if◌then◌else◌}
use Rattle.lisp_data.specs.Name.{Name, same_name}
use Rattle.lisp_data.specs.Datum.{Dat}
use Rattle.lisp_data.specs.DatumView.{datum_of}
use Rattle.clos_template.specs.ScopeView.{binding_of}
use Rattle.clos_template.specs.declared.scope.Variable.{Variable}
use Rattle.clos_template.specs.Scope.{Binding, Env, or_here, value_of}

here : (b : Bool) (d : Dat) (o : Option Dat) (c : Binding) (name : Name) → or_here (if b then Some d else o) c name ≡ (if b then Some d else or_here o c name)
here true d o c name = refl
here false d o c name = refl

-- the last name first, then those before it
pub last_first : (bs : Env) (b : Binding) (name : Name) → value_of (bs ++ b ∷ []) name ≡ (if same_name b.name name then Some b.value else value_of bs name)
last_first [] b name = refl
last_first (c ∷ bs) b name =
    ap (λ o. or_here o c name) (last_first bs b name) ∙ here (same_name b.name name) b.value (value_of bs name) c name

-- the same of the code's names
pub last_name_first : (vs : List Variable) (v : Variable) (name : Name) → value_of (map binding_of (vs ++ v ∷ [])) name ≡ (if same_name v.name name then Some (datum_of v.value) else value_of (map binding_of vs) name)
last_name_first vs v name = ap (λ bs. value_of bs name) (map-append binding_of vs (v ∷ [])) ∙ last_first (map binding_of vs) (binding_of v) name

pub first_names : (n : ℕ) (vs : List Variable) → map binding_of (take n vs) ≡ take n (map binding_of vs)
first_names n vs = sym (take-map binding_of n vs)

pub more_names : (us vs : List Variable) → map binding_of (us ++ vs) ≡ map binding_of us ++ map binding_of vs
more_names us vs = map-append binding_of us vs

-- ---- a search from the last name on: what is left of the names gives what all do

found : (b : Bool) (o : Option Dat) (d : Dat) → b ≡ true → (if b then Some d else o) ≡ Some d
found true o d h = refl
found false o d h = absurd (true≢false (sym h))

passed : (b : Bool) (o : Option Dat) (d : Dat) → b ≡ false → (if b then Some d else o) ≡ o
passed true o d h = absurd (true≢false h)
passed false o d h = refl

pub last_found : (us vs : List Variable) (v : Variable) (name : Name) (t : Option Dat) → us ≡ vs ++ v ∷ [] → value_of (map binding_of us) name ≡ t → same_name v.name name ≡ true → Some (datum_of v.value) ≡ t
last_found us vs v name t e h s =
    sym (found (same_name v.name name) (value_of (map binding_of vs) name) (datum_of v.value) s) ∙ sym (last_name_first vs v name)
    ∙ ap (λ xs. value_of (map binding_of xs) name) (sym e) ∙ h

pub last_passed : (us vs : List Variable) (v : Variable) (name : Name) (t : Option Dat) → us ≡ vs ++ v ∷ [] → value_of (map binding_of us) name ≡ t → same_name v.name name ≡ false → value_of (map binding_of vs) name ≡ t
last_passed us vs v name t e h s =
    sym (passed (same_name v.name name) (value_of (map binding_of vs) name) (datum_of v.value) s) ∙ sym (last_name_first vs v name)
    ∙ ap (λ xs. value_of (map binding_of xs) name) (sym e) ∙ h
