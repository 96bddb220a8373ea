-- A list of stored functions as a host.
use Rattle.std.proofs.Common.{◌≡◌, ℕ, true, List, Option, Some, None, ap, sym, ◌∙◌}
use Rattle.std.specs.Prelude.{ℤ, option_map}
use Rattle.lisp_data.specs.Name.{Name}
use Rattle.clos_native.specs.Relation.{Meets}
use Rattle.clos_native.specs.Stored.{native_named}
use Rattle.clos_native.specs.declared.native.Native.{Native}
use Rattle.clos_native.proofs.Permitted.{permitted}
use Rattle.clos_machine.specs.clos_meaning.Host.{may_answer}
use Rattle.clos_eval.specs.Host.{host_function, host_of, takes_in}

module _ {I : Type 0} {F : I → Type 0} {g : _} (fs : List (Native I F g)) (name : Name) where
  takes_by : (o : Option (Native I F g)) → native_named fs name ≡ o → takes_in (host_of fs) name ≡ option_map (λ f. f.arity) o
  takes_by None e = ap (λ p. option_map (λ h. h.takes) (option_map host_function p)) e
  takes_by (Some f) e = ap (λ p. option_map (λ h. h.takes) (option_map host_function p)) e

  pub none_there : native_named fs name ≡ None → takes_in (host_of fs) name ≡ None
  none_there e = takes_by None e

  pub is_there : (f : Native I F g) → native_named fs name ≡ Some f → takes_in (host_of fs) name ≡ Some f.arity
  is_there f e = takes_by (Some f) e

  some_same : (m n : ℕ) → Some m ≡ Some n → m ≡ n
  some_same m n h = cc

  -- it is called with as many as it takes
  pub as_many : (f : Native I F g) (n : ℕ) → native_named fs name ≡ Some f → takes_in (host_of fs) name ≡ Some n → n ≡ f.arity
  as_many f n e h = some_same n f.arity (sym h ∙ is_there f e)

  no_number : (n : ℕ) → None ≡ Some n → ⊥
  no_number n h = cc

  pub has_one : (n : ℕ) → native_named fs name ≡ None → takes_in (host_of fs) name ≡ Some n → ⊥
  has_one n e h = no_number n (sym (none_there e) ∙ h)

  pub may_be : (f : Native I F g) (xs : List ℤ) (x : ℤ) → native_named fs name ≡ Some f → Meets f.relation xs x → may_answer (host_of fs name) xs x ≡ true
  may_be f xs x e m = ap (λ p. may_answer (option_map host_function p) xs x) e ∙ permitted f.relation xs x m
