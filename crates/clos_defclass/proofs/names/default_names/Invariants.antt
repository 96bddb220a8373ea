use Rattle.std.proofs.Common.{◌≡◌, ◌++◌, drop}
use Rattle.clos_defclass.specs.Names.{default_names}
use Rattle.clos_defclass.proofs.names.default_names.Given as goal

abbrev pub invariant-loop-default : goal.invariant-loop-default
invariant-loop-default l = l.names.items ++ default_names (drop l.default-index l.defaults) ≡ default_names l.defaults
