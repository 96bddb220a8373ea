use Rattle.std.proofs.Common.{◌≡◌, ◌++◌, drop, map}
use Rattle.clos_template.specs.BindingView.{clause_of}
use Rattle.clos_template.specs.PartView.{part_of}
use Rattle.clos_template.specs.Shape.{parts_of_all}
use Rattle.clos_template.proofs.binding.push_clauses.Given as goal

abbrev pub invariant-loop-clause : goal.invariant-loop-clause
invariant-loop-clause l =
    map part_of l.parts.items ++ parts_of_all (map clause_of (drop l.clause-index l.clauses))
    ≡ map part_of l.fn.parts.items ++ parts_of_all (map clause_of l.clauses)
