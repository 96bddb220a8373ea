use Rattle.std.proofs.Common.{◌≡◌, ◌++◌, drop, map}
use Rattle.clos_template.specs.BindingView.{clause_of}
use Rattle.clos_template.specs.Shape.{bodies_of}
use Rattle.clos_template.proofs.binding.bodies_of.Given as goal

abbrev pub invariant-loop-clause : goal.invariant-loop-clause
invariant-loop-clause l = l.bodies ++ bodies_of (map clause_of (drop l.clause-index l.clauses)) ≡ bodies_of (map clause_of l.clauses)
