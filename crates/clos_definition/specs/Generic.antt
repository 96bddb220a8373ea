-- Generic functions that are defined (HyperSpec 7.7 defgeneric).
use Rattle.std.specs.Prelude.{ℕ, Bool, false, List, [], ◌∷◌, ◌++◌, Option, Some, None, drop, length, map, option_map, position, slice_get, unwrap_or}
use Rattle.std.specs.List.{filter}
use Rattle.lisp_data.specs.Name.{Name, same_name}
use Rattle.lisp_data.specs.Value.{Val}
use Rattle.clos_class.specs.Table as classes
use Rattle.clos_forms.specs.Form.{Form}
use Rattle.clos_syntax.specs.Laws.{IsSpecialized}
use Rattle.clos_syntax.specs.declared.generic.CombinationUse.{CombinationUse}
use Rattle.clos_syntax.specs.declared.generic.GenericDefinition.{GenericDefinition}
use Rattle.clos_syntax.specs.declared.method.MethodDefinition.{MethodDefinition}
use Rattle.clos_cache.specs.Cache.{Change}
use Rattle.clos_generic.specs.Changes.{Changes}
use Rattle.clos_generic.specs.Initial.{left_to_right, standard}
use Rattle.clos_generic.specs.Sound.{Each, IsOrderly}
use Rattle.clos_generic.specs.Table.{Table, methods_of, named, number}
use Rattle.clos_generic.specs.declared.changes.Definition.{Definition}
use Rattle.clos_generic.specs.declared.changes.Removal.{Removal}
use Rattle.clos_generic.specs.declared.options.Options.{Options}
use Rattle.clos_method.specs.Origin.{is_method_option}
use Rattle.clos_method.specs.Shape.{shape_of}
use Rattle.clos_method.specs.declared.method.Method.{Method}
use Rattle.clos_method.specs.declared.origin.Origin.TheVariants.{MethodOption}
use Rattle.clos_forms.specs.Quotation.{name_value}
use Rattle.clos_world.specs.clos_comb.Fault.{Misuse, undefined, arguments, misuse}
use Rattle.clos_world.specs.World.{State}
use Rattle.clos_world.specs.declared.condition.Condition.{Condition}
use Rattle.clos_world.specs.declared.condition.ConditionKind.TheVariants.{UndefinedCombination}
use Rattle.clos_definition.specs.Effect.{changes_of, changing, concerned, removal}
use Rattle.clos_definition.specs.Method.{eql_form, method_with, open_addition, specializers_refusal}
use Rattle.clos_definition.specs.Refusal.{or_else, program_error, table_refusal, taken_refusal}

-- ---- its options: one that is not written is as if the function were new

-- the place of a required parameter
abbrev pub place_in : List Name → Name → ℕ
place_in required name = unwrap_or (position (same_name name) required) (length required)

-- the argument precedence order (7.6.6.1.2)
abbrev pub precedence_of : List Name → Option (List Name) → List ℕ
precedence_of required None = left_to_right (length required)
precedence_of required (Some names) = map (place_in required) names

abbrev pub options_of : GenericDefinition → Options
options_of d = record {
  shape = shape_of d.lambda_list;
  precedence = precedence_of d.lambda_list.required d.precedence;
  combination = unwrap_or d.combination standard;
}

-- What holds of each that is read: its order has each required parameter, and each of its methods has a specializer for each of its own.
abbrev pub IsWellRead : GenericDefinition → Type 0
IsWellRead d = IsOrderly (options_of d) × Each IsSpecialized d.methods

abbrev pub definition_of : GenericDefinition → Definition
definition_of d = record { name = d.name; options = options_of d }

-- why a function does not use a method combination: there is none of this name, or it does not take these arguments
abbrev pub misuse_told : Name → Misuse → Condition
misuse_told name undefined = record { kind = UndefinedCombination; items = name_value name ∷ [] }
misuse_told name arguments = program_error

-- its method combination is not defined as it is used
abbrev pub combination_refusal : Option CombinationUse → State → Option Condition
combination_refusal None w = None
combination_refusal (Some c) w = option_map (misuse_told c.name) (misuse w.combinations c.name c.arguments)

-- ---- methods of an earlier defgeneric, which go if they are still there

abbrev pub is_initial : Option Method → Bool
is_initial None = false
is_initial (Some m) = is_method_option m.origin

-- those of these methods of a function
abbrev pub initial_among : ℕ → List Method → List ℕ → List Removal
initial_among g methods ms = map (removal g) (filter (λ m. is_initial (slice_get methods m)) ms)

abbrev pub earlier_methods : Table → Option ℕ → List Removal
earlier_methods t None = []
earlier_methods t (Some g) = initial_among g t.methods (methods_of t g)

-- ---- its own methods

abbrev pub methods_refusal : List MethodDefinition → State → Option Condition
methods_refusal [] w = None
methods_refusal (m ∷ ms) w = or_else (specializers_refusal m.specializers w) (methods_refusal ms w)

-- the forms of all their specializers
abbrev pub eql_forms : List MethodDefinition → List (Option Form)
eql_forms [] = []
eql_forms (m ∷ ms) = map eql_form m.specializers ++ eql_forms ms

-- The values are those of all their specializers.
abbrev pub methods_with : classes.Table → ℕ → List MethodDefinition → List (Option Val) → List Method
methods_with t g [] vs = []
methods_with t g (m ∷ ms) vs = method_with t g MethodOption m vs ∷ methods_with t g ms (drop (length m.specializers) vs)

-- ---- defgeneric

abbrev pub initial_methods : GenericDefinition → List (Option Val) → State → List Method
initial_methods d vs w = methods_with w.classes (number w.generics d.name) d.methods vs

abbrev pub generic_changes : GenericDefinition → Option (List (Option Val)) → State → Changes
generic_changes d None w = record {
  removals = earlier_methods w.generics (named w.generics d.name);
  definitions = definition_of d ∷ [];
  additions = map (open_addition (number w.generics d.name)) d.methods;
}
generic_changes d (Some vs) w = changes_of (earlier_methods w.generics (named w.generics d.name)) (definition_of d ∷ []) (initial_methods d vs w)

-- what is wrong by itself: the name is a function's, the combination is not defined or does not take its arguments, or a class is not defined
abbrev pub names_refusal : GenericDefinition → State → Option Condition
names_refusal d w = or_else (taken_refusal d.name w) (or_else (combination_refusal d.combination w) (methods_refusal d.methods w))

-- why it can't be defined: that, or what the table of generic functions refuses
abbrev pub generic_refusal : GenericDefinition → Option (List (Option Val)) → State → Option Condition
generic_refusal d vs w = or_else (names_refusal d w) (table_refusal d.name (generic_changes d vs w) w)

-- the state after it is defined, or defined again
abbrev pub with_defined_generic : GenericDefinition → List (Option Val) → State → State
with_defined_generic d vs w =
    changing (earlier_methods w.generics (named w.generics d.name)) (definition_of d ∷ []) (initial_methods d vs w) w

-- the calls that it concerns
abbrev pub generic_concerned : GenericDefinition → List (Option Val) → State → List Change
generic_concerned d vs w = concerned (earlier_methods w.generics (named w.generics d.name)) (definition_of d ∷ []) (initial_methods d vs w) w.generics
