use Rattle.std.proofs.Common.{◌≡◌}
use Rattle.lisp_data.specs.Datum.{nil, size_of_data}
use Rattle.clos_template.specs.Function.{reversed}
use Rattle.clos_template.proofs.datum.reverse_all.Given as goal

abbrev pub invariant-loop-first : goal.invariant-loop-first
invariant-loop-first l = reversed l.rest l.built ≡ reversed l.list nil

abbrev pub decreases-loop-first : goal.decreases-loop-first
decreases-loop-first l = size_of_data l.rest
