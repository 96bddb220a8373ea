-- A call of a generic function as the methods know it that run for it (HyperSpec 7.6.6).
use Rattle.std.specs.Prelude.{ℕ, List, refl}
use Rattle.std.specs.Coded.{Coded, code_by, coded×, coded_list, coded_ℕ}

-- the function, and the methods that were applicable as the call began, the most specific first
pub record Dispatch : Type 0 where
  pub generic : ℕ
  pub methods : List ℕ

-- how the logic stores it: as the pair of the function and the methods
abbrev pub dispatch_code : Coded Dispatch
dispatch_code = code_by (ℕ × List ℕ) (coded× coded_ℕ (coded_list coded_ℕ)) (λ d. (d.generic, d.methods)) (λ p. record { generic = p.0; methods = p.1 }) (λ _. refl)
