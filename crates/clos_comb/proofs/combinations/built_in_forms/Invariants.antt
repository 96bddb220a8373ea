use Rattle.std.proofs.Common.{◌≡◌, map, take}
use Rattle.clos_comb.specs.Table.{built_in_form}
use Rattle.clos_comb.proofs.combinations.built_in_forms.Given as goal

abbrev pub invariant-loop-text : goal.invariant-loop-text
invariant-loop-text l = l.forms.items ≡ map built_in_form (map (λ t. t.now) (take l.text-index l.texts))
