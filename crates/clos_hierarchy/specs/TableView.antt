-- The table of classes as its contracts see it.
use Rattle.std.specs.Prelude.{◌≡◌, ℕ, List, Option, Some}
use Rattle.clos_hierarchy.specs.declared.fault.ClassFault.{ClassFault}
use Rattle.clos_hierarchy.specs.declared.fault.ClassFault.TheVariants.{ProgramError, TableLimit, InvalidSuperclass, SuperclassCycle, IncompleteClass, InconsistentPrecedence, Memory}
use Rattle.clos_precedence.specs.Precedence.{IsPrecedenceList, IsFamily, Circle}
use Rattle.clos_hierarchy.specs.Classes.{Classes, superclasses}
use Rattle.clos_hierarchy.specs.Ways.{IsWhole}
use Rattle.clos_hierarchy.specs.Table.{Refusal, program_error, table_limit, invalid_superclass, superclass_cycle, incomplete_class, inconsistent_precedence}

-- the fault tells this refusal, or that memory was refused
abbrev pub Refuses : ClassFault → Option Refusal → Type 0
Refuses ProgramError o = o ≡ Some program_error
Refuses TableLimit o = o ≡ Some table_limit
Refuses (InvalidSuperclass name) o = o ≡ Some (invalid_superclass name)
Refuses SuperclassCycle o = o ≡ Some superclass_cycle
Refuses IncompleteClass o = o ≡ Some incomplete_class
Refuses (InconsistentPrecedence name) o = o ≡ Some (inconsistent_precedence name)
Refuses Memory o = Unit {0}

-- the class precedence list of a class: itself and all its superclasses, each after all that come before it, and no other list is so
pub record IsListOf (cs : Classes) (n : ℕ) (l : List ℕ) : Type 0 where
  pub whole : IsWhole cs n l
  pub order : IsPrecedenceList (superclasses cs) l l
  pub only : (m : List ℕ) → IsPrecedenceList (superclasses cs) l m → m ≡ l

-- some classes, one of them and all its superclasses, come before one another in a circle
abbrev pub HasCircle : Classes → Type 0
HasCircle cs = (n : ℕ) × (all : List ℕ) × IsFamily (superclasses cs) n all × Circle (superclasses cs) all
