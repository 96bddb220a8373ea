use Rattle.std.proofs.Common.{◌≡◌, ◌++◌, ◌∷◌, take, true, map}
use Rattle.std.specs.List.{flat_map}
use Rattle.lisp_data.specs.Print.{text_of}
use Rattle.lisp_data.specs.ValueView.{value_of}
use Rattle.clos_world.specs.World.{seen, names_of}
use Rattle.clos_transcript.proofs.told.tell_condition.Given as goal

abbrev pub invariant-loop-item : goal.invariant-loop-item
invariant-loop-item l = l.piece.items ≡ l.initial.piece.items ++ flat_map (λ v. 32 ∷ text_of true (names_of (seen l.world)) v) (map value_of (take l.item-index l.item-items))
