use Rattle.std.proofs.Common.{◌≡◌, drop, map}
use Rattle.lisp_functions.specs.Primitive.{entry_of, told}
use Rattle.lisp_functions.proofs.primitive.entry_of.Given as goal

abbrev pub invariant-loop-text : goal.invariant-loop-text
invariant-loop-text l =
    entry_of (map told l.table) l.characters ≡ entry_of (map told (drop l.text-index l.table)) l.characters
