-- With no step left a definition changes nothing.
use Rattle.std.proofs.Common.{ℕ, List, Bool, true, false, Option, Some, None, Result, Ok, Err, length, refl}
use Rattle.std.specs.Prelude.{if◌then◌else◌}
use Rattle.lisp_data.specs.Value.{Val, class, generic, method}
use Rattle.clos_forms.specs.declared.operator.FunctionName.{FunctionName}
use Rattle.clos_machine.specs.clos_world.clos_comb.Table.{has_room, is_predefined, name_of}
use Rattle.clos_machine.specs.clos_world.clos_comb.clos_combination.declared.combination.CombinationDefinition.{CombinationDefinition}
use Rattle.clos_machine.specs.clos_world.clos_generic.Table.{number}
use Rattle.clos_syntax.specs.clos_defclass.declared.class.ClassDefinition.{ClassDefinition}
use Rattle.clos_syntax.specs.declared.generic.GenericDefinition.{GenericDefinition}
use Rattle.clos_syntax.specs.declared.method.MethodDefinition.{MethodDefinition}
use Rattle.clos_machine.specs.clos_world.clos_cache.Cache.{Change}
use Rattle.clos_machine.specs.clos_world.World.{State}
use Rattle.clos_machine.specs.clos_world.declared.condition.Condition.{Condition}
use Rattle.clos_effects.specs.clos_definition.Class.{class_concerned, class_number, class_refusal, with_defined_class}
use Rattle.clos_effects.specs.clos_definition.Generic.{generic_concerned, generic_refusal, with_defined_generic}
use Rattle.clos_effects.specs.clos_definition.Method.{method_concerned, method_refusal, with_defined_method}
use Rattle.clos_effects.specs.clos_definition.Removal.{removable}
use Rattle.clos_machine.specs.clos_meaning.Outcome.{Out, Run, leaves}
use Rattle.clos_making.specs.Combination.{define_combination}
use Rattle.clos_making.specs.Made.{class_made, generic_made, method_made, removed_if, unless, value_at, values_removed}
use Rattle.clos_effects.specs.Effects.{takes_effect}

pub unless_quiet : (o : Option Condition) (go : Run) (w : State) → leaves (go w 0) w 0 → leaves (unless o go w 0) w 0
unless_quiet None go w h = h
unless_quiet (Some c) go w h = (refl, refl)

pub effect_quiet : (o : Option Condition) (cs : List Change) (v : Val) (u w : State) → leaves (unless o (takes_effect cs v u) w 0) w 0
effect_quiet o cs v u w = unless_quiet o (takes_effect cs v u) w (refl, refl)

-- ---- defmethod

pub method_made_quiet : (name : FunctionName) (m : MethodDefinition) (vs : List (Option Val)) (w : State) → leaves (method_made name m vs w 0) w 0
method_made_quiet name m vs w = effect_quiet (method_refusal name m (Some vs) w) (method_concerned name m vs w) (method (length w.generics.methods)) (with_defined_method name m vs w) w

-- ---- defgeneric

pub generic_made_quiet : (d : GenericDefinition) (vs : List (Option Val)) (w : State) → leaves (generic_made d vs w 0) w 0
generic_made_quiet d vs w = effect_quiet (generic_refusal d (Some vs) w) (generic_concerned d vs w) (generic (number w.generics d.name)) (with_defined_generic d vs w) w

-- ---- defclass

pub class_made_quiet : (d : ClassDefinition) (vs : List (Option Val)) (w : State) → leaves (class_made d vs w 0) w 0
class_made_quiet d vs w = effect_quiet (class_refusal d (length vs) w) (class_concerned d vs w) (class (class_number d w)) (with_defined_class d vs w) w

-- ---- remove-method

removed_quiet : (v : Val) (r : Result (ℕ × ℕ) Condition) (w : State) → leaves (removed_if v r w 0) w 0
removed_quiet v (Ok p) w = (refl, refl)
removed_quiet v (Err c) w = (refl, refl)

pub values_removed_quiet : (vs : List (Option Val)) (w : State) → leaves (values_removed vs w 0) w 0
values_removed_quiet vs w = removed_quiet (value_at vs 0) (removable (value_at vs 0) (value_at vs 1)) w

-- ---- define-method-combination

-- whichever of two it is
either : (b : Bool) (x y : Out) (w : State) → leaves x w 0 → leaves y w 0 → leaves (if b then x else y) w 0
either true x y w h g = h
either false x y w h g = g

pub define_combination_quiet : (d : CombinationDefinition) (w : State) → leaves (define_combination d w 0) w 0
define_combination_quiet d w =
    either (is_predefined (name_of d)) _ _ w (refl, refl) (either (has_room w.combinations (name_of d)) _ _ w (refl, refl) (refl, refl))
