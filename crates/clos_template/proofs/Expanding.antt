-- What stops an expansion.
use Rattle.std.proofs.Common.{◌≡◌, ◌+◌, ◌<◌, ℕ, Bool, false, List, length, drop, get_or, ap, sym, ◌∙◌}
use Rattle.std.specs.Prelude.{Err}
use Rattle.std.proofs.lemmas.List.{drop_more}
use Rattle.lisp_data.specs.Datum.{Dat}
use Rattle.clos_template.specs.Expansion.{Expansion, Comes, then_do}
use Rattle.clos_template.specs.Meaning.{Meaning, after_clause, choose, clause_value, clauses, part}
use Rattle.clos_template.specs.Scope.{Env}
use Rattle.clos_template.specs.declared.fault.ExpansionFault.{ExpansionFault}
use Rattle.clos_template.specs.declared.fault.ExpansionFault.TheVariants.{Bad, Beyond, Memory}

-- where what comes first fails
fails : (e : ExpansionFault) (m k : ℕ) (x t : Expansion) (go : Dat → ℕ → Expansion) → then_do x go ≡ t → Comes (Err e) m x → Comes (Err e) k t
fails Bad m k x t go h c = sym h ∙ ap (λ y. then_do y go) c
fails Beyond m k x t go h c = sym h ∙ ap (λ y. then_do y go) c
fails Memory m k x t go h c = tt

-- the test of the next clause
pub test_fails : (e : ExpansionFault) (m k : ℕ) (bodies : List Bool) (i : ℕ) (ms : List Meaning) (env : Env) (n : ℕ) (t : Expansion) → i < length bodies → clauses (drop i bodies) ms env n ≡ t → Comes (Err e) m (part ms 0 env n) → Comes (Err e) k t
test_fails e m k bodies i ms env n t lt h c =
    fails e m k (part ms 0 env n) t
    (λ d j. choose d (clause_value (get_or bodies i false) ms d env j) (clauses (drop (i + 1) bodies) (after_clause (get_or bodies i false) ms) env j))
    (ap (λ bs. clauses bs ms env n) (sym (drop_more bodies i false lt)) ∙ h) c
