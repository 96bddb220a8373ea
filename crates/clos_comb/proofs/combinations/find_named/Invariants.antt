use Rattle.std.proofs.Common.{◌≡◌, drop}
use Rattle.std.specs.List.{find}
use Rattle.lisp_data.specs.Name.{same_name}
use Rattle.clos_comb.proofs.combinations.find_named.Given as goal

-- none of those so far
abbrev pub invariant-loop-form : goal.invariant-loop-form
invariant-loop-form l = find (λ s. same_name s.name l.name) (drop l.form-index l.forms) ≡ find (λ s. same_name s.name l.name) l.forms
