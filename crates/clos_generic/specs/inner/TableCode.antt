-- How the logic stores a table of generic functions.
use Rattle.std.specs.Prelude.{ℕ, List, refl}
use Rattle.std.specs.Coded.{Coded, code_by, coded×, coded_list, coded_ℕ}
use Rattle.clos_forms.specs.contracts.operator.FunctionName as function_name
use Rattle.clos_forms.specs.declared.operator.FunctionName.{FunctionName}
use Rattle.clos_method.specs.contracts.method.Method as method
use Rattle.clos_method.specs.contracts.shape.Shape as shape
use Rattle.clos_method.specs.declared.method.Method.{Method}
use Rattle.clos_method.specs.declared.shape.Shape.{Shape}
use Rattle.clos_syntax.specs.contracts.generic.CombinationUse as combination
use Rattle.clos_syntax.specs.declared.generic.CombinationUse.{CombinationUse}
use Rattle.clos_generic.specs.Held.{Held}
use Rattle.clos_generic.specs.Table.{Function, Table}

abbrev FunctionParts : Type 0
FunctionParts = FunctionName × (Shape × (List ℕ × (CombinationUse × List ℕ)))

abbrev function_code : Coded Function
function_code =
    code_by FunctionParts (coded× function_name.the_row.coded (coded× shape.the_row.coded (coded× (coded_list coded_ℕ) (coded× combination.the_row.coded (coded_list coded_ℕ)))))
    (λ f. (f.name, (f.shape, (f.precedence, (f.combination, f.methods)))))
    (λ p. record { name = p.0; shape = p.1.0; precedence = p.1.1.0; combination = p.1.1.1.0; methods = p.1.1.1.1 }) (λ _. refl)

abbrev TableParts : Type 0
TableParts = List Function × (List Method × (ℕ × ℕ))

abbrev table_code : Coded Table
table_code =
    code_by TableParts (coded× (coded_list function_code) (coded× (coded_list method.the_row.coded) (coded× coded_ℕ coded_ℕ)))
    (λ t. (t.functions, (t.methods, (t.most_functions, t.most_methods))))
    (λ p. record { functions = p.0; methods = p.1.0; most_functions = p.1.1.0; most_methods = p.1.1.1 }) (λ _. refl)

abbrev HeldParts : Type 0
HeldParts = Table × (List FunctionName × List ℕ)

abbrev pub held_code : Coded Held
held_code =
    code_by HeldParts (coded× table_code (coded× (coded_list function_name.the_row.coded) (coded_list coded_ℕ)))
    (λ h. (h.table, (h.definitions, h.additions)))
    (λ p. record { table = p.0; definitions = p.1.0; additions = p.1.1 }) (λ _. refl)
