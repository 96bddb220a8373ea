-- Two proofs that outcomes are one are one.
use Rattle.std.specs.Prelude.{◌≡◌, ℕ, ◌⊎◌, refl}
use Rattle.std.specs.Coded.{Coded, code_by, coded×, coded⊎, coded_ℕ}
use Rattle.std.proofs.Common.{inl, inr}
use base.Stored.{coded_unit}
use Rattle.lisp_data.specs.Name.{Name}
use Rattle.lisp_data.specs.inner.NameCode.{name_code}
use Rattle.clos_forms.specs.Form.{Form}
use Rattle.clos_forms.specs.inner.FormCode.{form_code}
use Rattle.clos_comb.specs.Outcome.{Combined, effective, invalid_method, group_empty, ambiguous_methods, bad_expansion, expansion_limit}

-- by cases, with what each carries
abbrev Cases : Type 0
Cases = Form ⊎ (ℕ ⊎ (Name ⊎ ((ℕ × ℕ) ⊎ (Unit {0} ⊎ Unit {0}))))

abbrev to_cases : Combined → Cases
to_cases (effective f) = inl f
to_cases (invalid_method m) = inr (inl m)
to_cases (group_empty name) = inr (inr (inl name))
to_cases (ambiguous_methods m n) = inr (inr (inr (inl (m, n))))
to_cases bad_expansion = inr (inr (inr (inr (inl tt))))
to_cases expansion_limit = inr (inr (inr (inr (inr tt))))

abbrev of_cases : Cases → Combined
of_cases (inl f) = effective f
of_cases (inr (inl m)) = invalid_method m
of_cases (inr (inr (inl name))) = group_empty name
of_cases (inr (inr (inr (inl p)))) = ambiguous_methods p.0 p.1
of_cases (inr (inr (inr (inr (inl u))))) = bad_expansion
of_cases (inr (inr (inr (inr (inr u))))) = expansion_limit

abbrev same : (c : Combined) → of_cases (to_cases c) ≡ c
same (effective f) = refl
same (invalid_method m) = refl
same (group_empty name) = refl
same (ambiguous_methods m n) = refl
same bad_expansion = refl
same expansion_limit = refl

abbrev pub combined_code : Coded Combined
combined_code =
    code_by Cases (coded⊎ form_code (coded⊎ coded_ℕ (coded⊎ name_code (coded⊎ (coded× coded_ℕ coded_ℕ) (coded⊎ coded_unit coded_unit)))))
    to_cases of_cases same
