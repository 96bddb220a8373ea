-- How the logic stores a name.
use Rattle.std.specs.Prelude.{ℕ, List, Bool, refl}
use Rattle.std.specs.Coded.{Coded, code_by, coded×, coded_bool, coded_list, coded_ℕ}
use Rattle.lisp_data.specs.Name.{Name}

abbrev pub name_code : Coded Name
name_code =
    code_by (List ℕ × Bool) (coded× (coded_list coded_ℕ) coded_bool) (λ n. (n.text, n.keyword)) (λ p. record { text = p.0; keyword = p.1 }) (λ _. refl)
