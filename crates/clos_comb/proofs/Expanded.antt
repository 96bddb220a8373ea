-- What a long form comes to, where its arguments and orders fit.
use Rattle.std.proofs.Common.{◌≡◌, ℕ, List, ◌++◌, true, Option, Some, Result, IfOk, ap, subst, ◌∙◌}
use Rattle.std.specs.Prelude.{if◌then◌else◌}
use Rattle.std.specs.declared.alloc.AllocError.{AllocError}
use Rattle.lisp_data.specs.Datum.{Dats}
use Rattle.clos_groups.specs.Group.{members}
use Rattle.clos_groups.specs.clos_combination.declared.combination.LongForm.{LongForm}
use Rattle.clos_groups.specs.clos_method.declared.method.Method.{Method}
use Rattle.clos_groups.specs.clos_template.Meaning.{meaning}
use Rattle.clos_groups.specs.clos_template.Scope.{Env}
use Rattle.clos_comb.specs.Arguments.{parameters_bound, takes}
use Rattle.clos_comb.specs.Long.{expanded, expanded_with, groups_bound, long_combined, most_conses}
use Rattle.clos_comb.specs.Outcome.{bad_expansion}
use Rattle.clos_comb.specs.OutcomeView.{combined_of}
use Rattle.clos_comb.specs.declared.outcome.Outcome.{Outcome}

module _ (f : LongForm) (methods : List Method) (args : Dats) (ms : List ℕ) where
  -- the groups, where the parameters are bound so
  abbrev pub bound_in : Env → Option Env
  bound_in env = groups_bound env (λ k. members methods f.groups k ms) 0 f.groups

  pub fits : (env groups scope : Env) (r : Result Outcome AllocError) → true ≡ takes f.parameters args → env ≡ parameters_bound f.parameters args → Some groups ≡ bound_in env
      → scope ≡ env ++ groups → IfOk r (λ o. combined_of o ≡ expanded ms (meaning f.template scope most_conses)) → IfOk r (λ o. combined_of o ≡ long_combined f methods args ms)
  fits env groups scope r t e g s h =
      subst (λ x. IfOk r (λ o. combined_of o ≡ x))
      (ap (λ v. expanded ms (meaning f.template v most_conses)) s ∙ ap (expanded_with f ms env) g ∙ ap (λ v. expanded_with f ms v (bound_in v)) e
      ∙ ap (λ b. if b then expanded_with f ms (parameters_bound f.parameters args) (bound_in (parameters_bound f.parameters args)) else bad_expansion) t)
      h
