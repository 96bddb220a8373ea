-- What is told of an instance that is given another layout, as the code has it.
use Rattle.std.specs.Prelude.{◌≡◌, List, Option, Some, None, map}
use Rattle.lisp_data.specs.Name.{Name}
use Rattle.lisp_data.specs.Value.{Val}
use Rattle.lisp_data.specs.ValueView.{value_of}
use Rattle.clos_store.specs.Store.{Object, slot_names}
use Rattle.clos_store.specs.Update.{added, bound, lost}
use Rattle.clos_store.specs.declared.update.Discarded.{Discarded}
use Rattle.clos_store.specs.declared.update.Lost.{Lost}

abbrev pub values_of : List Lost → List (Name × Val)
values_of ls = map (λ l. (l.slot, value_of l.value)) ls

-- of an instance that is given these local slots
pub record Tells (d : Discarded) (o : Object) (names : List Name) : Type 0 where
  pub added : d.added.items ≡ added o names
  pub discarded : d.discarded.items ≡ slot_names (lost names o.slots)
  pub values : values_of d.values.items ≡ bound (lost names o.slots)

-- of the instance that there is
abbrev pub TellsOf : Discarded → Option Object → List Name → Type 0
TellsOf d None names = Unit {0}
TellsOf d (Some o) names = Tells d o names
