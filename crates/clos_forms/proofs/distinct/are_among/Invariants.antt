use Rattle.std.proofs.Common.{◌≡◌, length}
use Rattle.clos_forms.specs.Distinct.{are_among}
use Rattle.clos_forms.proofs.distinct.are_among.Given as goal

abbrev pub invariant-loop-first : goal.invariant-loop-first
invariant-loop-first l = are_among l.rest l.others ≡ are_among l.names l.others

abbrev pub decreases-loop-first : goal.decreases-loop-first
decreases-loop-first l = length l.rest
