-- What is told of an instance that is updated, as the code has it.
use Rattle.std.specs.Prelude.{◌≡◌, ℕ, List, IsSome, Result, Ok, Err}
use Rattle.lisp_data.specs.Value.{Val}
use Rattle.clos_meaning.specs.clos_world.clos_store.Store.{instance}
use Rattle.clos_meaning.specs.clos_world.clos_store.UpdateView.{values_of}
use Rattle.clos_meaning.specs.clos_world.clos_store.declared.update.Discarded.{Discarded}
use Rattle.clos_meaning.specs.clos_world.World.{State}
use Rattle.clos_meaning.specs.clos_world.declared.condition.Condition.{Condition}
use Rattle.clos_meaning.specs.clos_world.declared.condition.Stop.{Stop}
use Rattle.clos_meaning.specs.clos_world.declared.condition.Stop.TheVariants.{Refused, Storage}
use Rattle.clos_meaning.specs.Updating.{arguments_of, listed, names_listed, properties}

-- the instance is there
abbrev pub IsThere : State → ℕ → Type 0
IsThere w i = IsSome (instance w.store i)

-- these values, or the condition in their place, unless memory ran out
abbrev pub TellsValues : Result (List Val) Condition → Result (List Val) Stop → Type 0
TellsValues x (Ok vs) = x ≡ Ok vs
TellsValues x (Err (Refused c)) = x ≡ Err c
TellsValues x (Err Storage) = Unit {0}

-- the arguments of update-instance-for-redefined-class
abbrev pub TellsArguments : ℕ → Discarded → Result (List Val) Stop → Type 0
TellsArguments i d r =
    TellsValues (arguments_of i (names_listed d.added.items) (names_listed d.discarded.items) (listed (properties (values_of d.values.items)))) r
