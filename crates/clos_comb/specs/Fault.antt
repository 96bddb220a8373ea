-- Why a combination is not defined, or not used (HyperSpec 7.7 define-method-combination, defgeneric).
use Rattle.std.specs.Prelude.{◌≡◌, Option, Some, None, Result, Ok, Err, if◌then◌else◌}
use Rattle.lisp_data.specs.Name.{Name}
use Rattle.lisp_data.specs.Datum.{Dats}
use Rattle.clos_comb.specs.Table.{Combination, Table, combination_named, has_room, is_predefined, takes_arguments}
use Rattle.clos_comb.specs.declared.fault.CombinationFault.{CombinationFault}
use Rattle.clos_comb.specs.declared.fault.CombinationFault.TheVariants.{Predefined, TableLimit, Memory}
use Rattle.clos_comb.specs.declared.fault.UseFault.{UseFault}
use Rattle.clos_comb.specs.declared.fault.UseFault.TheVariants.{Undefined, Arguments}

-- why a combination is not defined
pub data Refusal : Type 0 where
  predefined : Refusal  -- the system's combinations are not defined again
  table_limit : Refusal  -- there are as many as there may be

-- why one is not used
pub data Misuse : Type 0 where
  undefined : Misuse  -- there is none of this name
  arguments : Misuse  -- it does not take these arguments

-- why a combination of this name is not defined
abbrev pub definition_refusal : Table → Name → Option Refusal
definition_refusal t name = if is_predefined name then Some predefined else if has_room t name then None else Some table_limit

-- why a combination is not used with these arguments
abbrev pub misuse_with : Option Combination → Dats → Option Misuse
misuse_with None l = Some undefined
misuse_with (Some c) l = if takes_arguments c l then None else Some arguments

-- the same, of the combination of this name
abbrev pub misuse : Table → Name → Dats → Option Misuse
misuse t name l = misuse_with (combination_named t name) l

-- ---- what the code answers

-- the fault tells this refusal; memory is asked for only where nothing else is wrong
abbrev pub Refuses : CombinationFault → Option Refusal → Type 0
Refuses Predefined o = o ≡ Some predefined
Refuses TableLimit o = o ≡ Some table_limit
Refuses Memory o = o ≡ None

-- nothing is wrong but want of memory, or the fault tells what is
abbrev pub Allows : {A : Type 0} → Result A CombinationFault → Option Refusal → Type 0
Allows (Ok x) o = o ≡ None
Allows (Err e) o = Refuses e o

-- the same, where no memory is asked for
abbrev pub Checks : {A : Type 0} → Result A CombinationFault → Option Refusal → Type 0
Checks (Ok x) o = o ≡ None
Checks (Err Predefined) o = o ≡ Some predefined
Checks (Err TableLimit) o = o ≡ Some table_limit
Checks (Err Memory) o = ⊥

-- nothing is wrong with a use, or the fault tells what is; no memory is asked for
abbrev pub Tells : {A : Type 0} → Result A UseFault → Option Misuse → Type 0
Tells (Ok x) o = o ≡ None
Tells (Err Undefined) o = o ≡ Some undefined
Tells (Err Arguments) o = o ≡ Some arguments
