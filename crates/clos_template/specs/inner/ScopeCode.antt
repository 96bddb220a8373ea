-- How the logic stores a name with its value.
use Rattle.std.specs.Prelude.{refl}
use Rattle.std.specs.Coded.{Coded, code_by, coded×}
use Rattle.lisp_data.specs.Name.{Name}
use Rattle.lisp_data.specs.inner.NameCode.{name_code}
use Rattle.lisp_data.specs.Datum.{Dat}
use Rattle.lisp_data.specs.inner.DatumCode.{datum_code}
use Rattle.clos_template.specs.Scope.{Binding, bound}

-- a binding is stored as the pair of its name and its datum
abbrev pub binding_code : Coded Binding
binding_code = code_by (Name × Dat) (coded× name_code datum_code) (λ b. (b.name, b.value)) (λ p. bound p.0 p.1) (λ _. refl)
