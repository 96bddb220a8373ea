-- What a change of the table of generic functions leaves as it was: calls of the functions that it is not of (HyperSpec 7.6.6).
use Rattle.std.specs.Prelude.{◌≡◌, ℕ, ◌<◌, List, Some, false, length, slice_get}
use Rattle.lisp_data.specs.Name.{same_name}
use Rattle.lisp_data.specs.Value.{Val}
use Rattle.clos_comb.specs.Effective.{effective}
use Rattle.clos_comb.specs.Table as combinations
use Rattle.clos_comb.specs.Table.{name_of, with_combination}
use Rattle.clos_groups.specs.clos_combination.declared.combination.CombinationDefinition.{CombinationDefinition}
use Rattle.clos_generic.specs.Calls.{has_eql, ordered}
use Rattle.clos_generic.specs.Table.{Function, Table}
use Rattle.clos_generic.specs.TableView.{AreThere}
use Rattle.clos_groups.specs.clos_method.Arguments.{Argument}

-- It leaves a function as it was, and each method that was made.
pub record IsLeft (old new : Table) (g : ℕ) : Type 0 where
  pub function : slice_get new.functions g ≡ slice_get old.functions g
  pub methods : (n : ℕ) → n < length old.methods → slice_get new.methods n ≡ slice_get old.methods n

-- It is called as before, with any arguments: the same objects count as eql specializers, the same methods are found in the same
-- order, and they are combined into the same.
pub record IsCalledAlike (old new : Table) (g : ℕ) : Type 0 where
  pub objects : (place : ℕ) (v : Val) → has_eql new g place v ≡ has_eql old g place v
  pub methods : (args : List Argument) → ordered new g args ≡ ordered old g args
  pub combined : (c : combinations.Table) (args : List Argument)
      → effective c new g (ordered new g args) ≡ effective c old g (ordered old g args)

-- So are all functions that a change leaves as they were.
abbrev pub LeavesOthers : Type 0
LeavesOthers = (old new : Table) (g : ℕ) → AreThere old.functions old.methods → IsLeft old new g → IsCalledAlike old new g

-- A definition of a method combination leaves all functions as they were that use one of another name.
abbrev pub LeavesOtherUses : Type 0
LeavesOtherUses = (d : CombinationDefinition) (c : combinations.Table) (t : Table) (g : ℕ) (f : Function) (ms : List ℕ)
    → slice_get t.functions g ≡ Some f → same_name (name_of d) f.combination.name ≡ false
    → effective (with_combination d c) t g ms ≡ effective c t g ms
