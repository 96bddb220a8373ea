use Rattle.std.proofs.Common.{◌≡◌, drop, map}
use Rattle.clos_names.specs.Special.{entry_of, told}
use Rattle.clos_names.proofs.special.entry_of.Given as goal

abbrev pub invariant-loop-text : goal.invariant-loop-text
invariant-loop-text l =
    entry_of (map told (drop l.text-index l.table)) l.characters ≡ entry_of (map told l.table) l.characters
