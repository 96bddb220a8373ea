-- How the logic stores what is kept.
use Rattle.std.specs.Prelude.{List, refl}
use Rattle.std.specs.Coded.{Coded, code_by, coded×, coded_list}
use Rattle.lisp_data.specs.Name.{Name}
use Rattle.lisp_data.specs.inner.NameCode.{name_code}
use Rattle.clos_cache.specs.Cache.{Kept}
use Rattle.clos_cache.specs.Key.{Key}
use Rattle.clos_cache.specs.inner.KeyCode.{key_code}

module _ {T : Type 0} (code : Coded T) where
  abbrev pub kept_code : Coded (Kept T)
  kept_code = code_by (Name × T) (coded× name_code code) (λ k. (k.combination, k.outcome))
      (λ p. record { combination = p.0; outcome = p.1 }) (λ _. refl)

  abbrev pub cache_code : Coded (List (Key × Kept T))
  cache_code = coded_list (coded× key_code kept_code)
