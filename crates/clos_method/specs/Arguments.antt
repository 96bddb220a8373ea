-- The arguments of a call, as dispatch sees them (HyperSpec 7.6.6.1).
use Rattle.std.specs.Prelude.{ℕ, List, [], ◌∷◌, refl}
use Rattle.std.specs.Coded.{Coded, code_by, coded×, coded_list, coded_ℕ}
use Rattle.lisp_data.specs.Value.{Val}
use Rattle.lisp_data.specs.inner.ValueCode.{value_code}
use Rattle.clos_hierarchy.specs.Classes.{listing, list_in}
use Rattle.clos_class.specs.Table.{Table}

-- the class precedence list of its class, with no class where there is none, and the object
pub record Argument : Type 0 where
  pub list : List ℕ
  pub value : Val

abbrev pub argument_code : Coded Argument
argument_code =
    code_by (List ℕ × Val) (coded× (coded_list coded_ℕ) value_code) (λ a. (a.list, a.value)) (λ p. record { list = p.0; value = p.1 }) (λ _. refl)

-- objects that are of these classes
abbrev pub arguments_of : Table → List ℕ → List Val → List Argument
arguments_of t (c ∷ cs) (v ∷ vs) = record { list = list_in (listing t.table.classes c); value = v } ∷ arguments_of t cs vs
arguments_of t [] vs = []
arguments_of t (c ∷ cs) [] = []
