-- How the logic stores a key.
use Rattle.std.specs.Prelude.{ℕ, List, Option, refl}
use Rattle.std.specs.Coded.{Coded, code_by, coded×, coded_list, coded_option, coded_ℕ}
use Rattle.lisp_data.specs.Value.{Val}
use Rattle.lisp_data.specs.inner.ValueCode.{value_code}
use Rattle.clos_cache.specs.Key.{Argument, Key}

abbrev pub argument_code : Coded Argument
argument_code =
    code_by (ℕ × Option Val) (coded× coded_ℕ (coded_option value_code)) (λ a. (a.class, a.object))
    (λ p. record { class = p.0; object = p.1 }) (λ _. refl)

abbrev pub key_code : Coded Key
key_code =
    code_by (ℕ × List Argument) (coded× coded_ℕ (coded_list argument_code)) (λ k. (k.generic, k.arguments))
    (λ p. record { generic = p.0; arguments = p.1 }) (λ _. refl)
