-- What a definition form does to the table of generic functions (HyperSpec 7.6.3, 7.7): methods go, functions are defined, and methods
-- come, in this order.
use Rattle.std.specs.Prelude.{◌≡◌, ⊤, ℕ, true, List, [], ◌∷◌, ◌++◌, Option, Some, None, length, map, slice_get}
use Rattle.lisp_data.specs.declared.ids.GenericId.{GenericId}
use Rattle.clos_cache.specs.Cache.{Change, of_generic}
use Rattle.clos_generic.specs.Changes.{Changes}
use Rattle.clos_generic.specs.Fault.{all_fit, takes_in}
use Rattle.clos_generic.specs.Held.{Held}
use Rattle.clos_generic.specs.Sound.{Each, IsOrderly, IsSpecialized}
use Rattle.clos_generic.specs.Table.{Table, find_method, methods_named, named, number, with_definition, with_method, without_method}
use Rattle.clos_generic.specs.declared.changes.Addition.{Addition}
use Rattle.clos_generic.specs.declared.changes.Definition.{Definition}
use Rattle.clos_generic.specs.declared.changes.Removal.{Removal}
use Rattle.clos_method.specs.declared.method.Method.{Method}
use Rattle.clos_watch.specs.declared.notice.Notice.{Notice}
use Rattle.clos_watch.specs.declared.notice.Notice.TheVariants.{GenericRedefined, MethodAdded, MethodRemoved}
use Rattle.clos_world.specs.Hearing.{telling}
use Rattle.clos_world.specs.World.{State}
use Rattle.clos_definition.specs.declared.effect.Effect as code

abbrev pub without_all : List Removal → Table → Table
without_all [] t = t
without_all (r ∷ rs) t = without_all rs (without_method r.generic.0 r.method.0 t)

abbrev pub with_definitions : List Definition → Table → Table
with_definitions [] t = t
with_definitions (d ∷ ds) t = with_definitions ds (with_definition d.name d.options t)

-- each is a method of its function
abbrev pub with_methods : List Method → Table → Table
with_methods [] t = t
with_methods (m ∷ ms) t = with_methods ms (with_method m.generic.0 m t)

abbrev pub changed : List Removal → List Definition → List Method → Table → Table
changed removals definitions methods t = with_methods methods (with_definitions definitions (without_all removals t))

-- the removal of this method from this function
abbrev pub removal : ℕ → ℕ → Removal
removal g m = record { generic = record { 0 = g }; method = record { 0 = m } }

-- the addition of a method
abbrev pub addition_of : Method → Addition
addition_of m = record { generic = m.generic; shape = m.shape; likeness = Some (record { qualifiers = m.qualifiers; specializers = m.specializers }) }

-- the changes that the table of generic functions is asked for
abbrev pub changes_of : List Removal → List Definition → List Method → Changes
changes_of removals definitions methods = record { removals = removals; definitions = definitions; additions = map addition_of methods }

-- with these removals after its own
abbrev pub removing : Changes → List Removal → Changes
removing changes more = record changes { removals = changes.removals ++ more }

-- with these additions after its own
abbrev pub adding : Changes → List Addition → Changes
adding changes more = record changes { additions = changes.additions ++ more }

-- ---- what is told of it (AMOP chapter 6), in the order of the effects

abbrev pub of_removal : Removal → Notice
of_removal r = MethodRemoved r.generic r.method

-- a function that is there is defined again; of one that is new nobody could hear
abbrev pub of_definition : Option ℕ → List Notice
of_definition None = []
of_definition (Some g) = GenericRedefined (record { 0 = g }) ∷ []

abbrev pub of_definitions : List Definition → Table → List Notice
of_definitions [] t = []
of_definitions (d ∷ ds) t = of_definition (named t d.name) ++ of_definitions ds t

-- the method that goes where another comes in its place
abbrev pub of_replaced : GenericId → Option ℕ → List Notice
of_replaced g None = []
of_replaced g (Some m) = MethodRemoved g (record { 0 = m }) ∷ []

-- it gets the next number
abbrev pub of_addition : Method → Table → List Notice
of_addition m t =
    of_replaced m.generic (find_method t m.generic.0 m.qualifiers m.specializers) ++ MethodAdded m.generic (record { 0 = length t.methods }) ∷ []

-- each comes after those before it, and may take the place of one of them
abbrev pub of_additions : List Method → Table → List Notice
of_additions [] t = []
of_additions (m ∷ ms) t = of_addition m t ++ of_additions ms (with_method m.generic.0 m t)

abbrev pub of_changes : List Removal → List Definition → List Method → Table → List Notice
of_changes removals definitions methods t =
    map of_removal removals ++ of_definitions definitions t ++ of_additions methods (with_definitions definitions (without_all removals t))

-- the state after these changes
abbrev pub changing : List Removal → List Definition → List Method → State → State
changing removals definitions methods w = record w {
  generics = changed removals definitions methods w.generics;
  hearing = telling (of_changes removals definitions methods w.generics) w.hearing;
}

-- ---- what may be told at most, for which room is made

-- whether it takes the place of a method, and of which, and what its number is, makes no difference to who hears of it
abbrev pub possible : List Method → List Notice
possible [] = []
possible (m ∷ ms) = MethodRemoved m.generic (record { 0 = 0 }) ∷ MethodAdded m.generic (record { 0 = 0 }) ∷ possible ms

abbrev pub possible_changes : List Removal → List Definition → List Method → Table → List Notice
possible_changes removals definitions methods t = map of_removal removals ++ of_definitions definitions t ++ possible methods

-- ---- an effect that was prepared

-- the state after it
abbrev pub with_effect : code.Effect → State → State
with_effect e w = changing e.changes.removals e.changes.definitions e.methods.items w

abbrev pub possible_notices : code.Effect → Table → List Notice
possible_notices e t = possible_changes e.changes.removals e.changes.definitions e.methods.items t

-- ---- the calls that it concerns

-- those of the functions that methods go from
abbrev pub of_removed : List Removal → List Change
of_removed removals = map (λ r. of_generic r.generic.0) removals

-- those of the functions that are defined
abbrev pub of_defined : List Definition → Table → List Change
of_defined [] t = []
of_defined (d ∷ ds) t = of_generic (number t d.name) ∷ of_defined ds (with_definition d.name d.options t)

-- those of the functions that methods come to
abbrev pub of_added : List Method → List Change
of_added methods = map (λ m. of_generic m.generic.0) methods

abbrev pub concerned : List Removal → List Definition → List Method → Table → List Change
concerned removals definitions methods t = of_removed removals ++ of_defined definitions (without_all removals t) ++ of_added methods

abbrev pub concerned_by : code.Effect → Table → List Change
concerned_by e t = concerned e.changes.removals e.changes.definitions e.methods.items t

-- each definition's name is known to the table in which it is defined as it is to the first
abbrev pub AreApart : Table → Table → List Definition → Type 0
AreApart first t [] = ⊤
AreApart first t (d ∷ ds) = (named t d.name ≡ named first d.name) × AreApart first (with_definition d.name d.options t) ds

-- What an effect has by what it is made from.
pub record IsWellMade (e : code.Effect) (t : Table) : Type 0 where
  pub changes : e.changes ≡ changes_of e.changes.removals e.changes.definitions e.methods.items
  pub orderly : Each (λ d. IsOrderly d.options) e.changes.definitions
  pub specialized : Each IsSpecialized e.methods.items
  pub apart : AreApart t (without_all e.changes.removals t) e.changes.definitions

-- Each definition, when it is made, is congruent with the methods that its function has.
abbrev pub DefinitionsFit : List Definition → Table → Type 0
DefinitionsFit [] t = ⊤
DefinitionsFit (d ∷ ds) t =
    IsOrderly d.options × (all_fit t.methods d.options.shape (methods_named t (named t d.name)) ≡ true)
    × DefinitionsFit ds (with_definition d.name d.options t)

-- Each method, when it is added, is congruent with its function.
abbrev pub AdditionsFit : List Method → Table → Type 0
AdditionsFit [] t = ⊤
AdditionsFit (m ∷ ms) t =
    IsSpecialized m × (takes_in m.shape (slice_get t.functions m.generic.0) ≡ true) × AdditionsFit ms (with_method m.generic.0 m t)

-- Memory is reserved for it, and no change is refused when it is made.
pub record IsReserved (e : code.Effect) (h : Held) : Type 0 where
  pub definitions : h.definitions ≡ map (λ d. d.name) e.changes.definitions
  pub additions : h.additions ≡ map (λ m. m.generic.0) e.methods.items
  pub definitions_fit : DefinitionsFit e.changes.definitions (without_all e.changes.removals h.table)
  pub additions_fit : AdditionsFit e.methods.items (with_definitions e.changes.definitions (without_all e.changes.removals h.table))
