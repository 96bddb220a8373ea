use Rattle.std.proofs.Common.{◌≡◌, [], ◌∷◌, ap, arith, refl}
use Rattle.clos_top.specs.declared.top.Top.TheVariants as top
use Rattle.clos_definition_forms.specs.clos_making.Combination.{define_combination}
use Rattle.clos_definition_forms.specs.Definition.{define_class, define_generic, define_method, remove_method}
use Rattle.clos_definition_forms.specs.Dependents.{change_dependents}
use Rattle.clos_definition_forms.specs.clos_making.Function.{define_function}
use Rattle.clos_definition_forms.specs.Variable.{variable_defined}
use Rattle.clos_definition_forms.specs.clos_machine.clos_meaning.Meaning.{evaluation}
use Rattle.clos_definition_forms.specs.clos_machine.clos_meaning.Outcome.{Run}
use Rattle.clos_definition_forms.specs.clos_world.World.{seen}
use Rattle.clos_definition_forms.specs.clos_world.clos_cache.Cache.{of_combination}
use Rattle.clos_definition_forms.specs.clos_world.clos_comb.Table.{name_of}
use Rattle.clos_definition_forms.specs.declared.dependents.Change.TheVariants.{Add, Remove}
use Rattle.clos_definition_forms.proofs.Evaluated.{performs_alone, performs_noting}
use Rattle.clos_definition_forms.proofs.clos_effects.Hearing.{unheard}
use Rattle.clos_definition_forms.proofs.clos_effects.Noting.{same_noted, same_still}
use Rattle.clos_definition_forms.proofs.clos_machine.Answering.{answers_with}
use Rattle.clos_definition_forms.proofs.clos_making.Quiet.{define_combination_quiet}
use Rattle.clos_perform.specs.Step.{room_of}
use Rattle.clos_perform.proofs.Hearing.{change_untold, combination_untold, expression_untold, function_untold, variable_untold}
use Rattle.clos_perform.proofs.ByKind.{kind_performs}
use Rattle.clos_perform.proofs.Undone.{expression_undone, variable_undone}
use Rattle.clos_perform.proofs.form.perform_top.Goals as goal

pub returns-in-DefCombination-clause-heard : goal.returns-in-DefCombination-clause-heard
returns-in-DefCombination-clause-heard g c =
    let host = g.N.Natives.host c.args.natives.now in
    let told = g.D.Dependents.told c.args.dependents.now in
    let w = seen c.args.world.now in
    let u = seen c.define_combination.new.world in
    let s = c.args.steps.now in
    let k = c.define_combination.new.steps in
    let past = c.args.answers.now.items in
    unheard told told w u refl (combination_untold host w u s k past past c.define_combination.result c.in-DefCombination.definition (performs_noting host (define_combination c.in-DefCombination.definition) c.args.world.now c.define_combination.new.world s k past (of_combination (name_of c.in-DefCombination.definition) ∷ []) (define_combination_quiet c.in-DefCombination.definition w) c.define_combination.result c.define_combination.ensures.answers c.define_combination.ensures.uses).answer)

pub returns-in-Defun-clause-heard : goal.returns-in-Defun-clause-heard
returns-in-Defun-clause-heard g c =
    let host = g.N.Natives.host c.args.natives.now in
    let told = g.D.Dependents.told c.args.dependents.now in
    let w = seen c.args.world.now in
    let u = seen c.defun.new.world in
    let s = c.args.steps.now in
    let k = c.defun.new.steps in
    let past = c.args.answers.now.items in
    unheard told told w u refl (function_untold host w u s k past past c.defun.result c.in-Defun.function.name (record { lambda_list = c.in-Defun.function.lambda_list; body = c.in-Defun.function.body }) (answers_with host (define_function c.in-Defun.function.name (record { lambda_list = c.in-Defun.function.lambda_list; body = c.in-Defun.function.body })) w s past c.defun.result u k c.defun.ensures.answers))

pub returns-in-DefVar-clause-heard : goal.returns-in-DefVar-clause-heard
returns-in-DefVar-clause-heard g c =
    let host = g.N.Natives.host c.args.natives.now in
    let told = g.D.Dependents.told c.args.dependents.now in
    let w = seen c.args.world.now in
    let u = seen c.define_variable.new.world in
    let s = c.args.steps.now in
    let k = c.define_variable.new.steps in
    let past = c.args.answers.now.items in
    unheard told told w u refl (variable_untold host w u s k past c.define_variable.new.answers.items c.define_variable.result c.in-DefVar.variable c.define_variable.ensures.answer)

pub returns-in-AddDependent-clause-heard : goal.returns-in-AddDependent-clause-heard
returns-in-AddDependent-clause-heard g c =
    let host = g.N.Natives.host c.args.natives.now in
    let told = g.D.Dependents.told c.args.dependents.now in
    let w = seen c.args.world.now in
    let u = seen c.change_dependents.new.world in
    let s = c.args.steps.now in
    let k = c.change_dependents.new.steps in
    let past = c.args.answers.now.items in
    unheard told told w u refl (change_untold host w u s k past c.change_dependents.new.answers.items c.change_dependents.result Add c.in-AddDependent.metaobject c.in-AddDependent.name c.change_dependents.ensures.performs.answer)

pub returns-in-RemoveDependent-clause-heard : goal.returns-in-RemoveDependent-clause-heard
returns-in-RemoveDependent-clause-heard g c =
    let host = g.N.Natives.host c.args.natives.now in
    let told = g.D.Dependents.told c.args.dependents.now in
    let w = seen c.args.world.now in
    let u = seen c.change_dependents-in-RemoveDependent.new.world in
    let s = c.args.steps.now in
    let k = c.change_dependents-in-RemoveDependent.new.steps in
    let past = c.args.answers.now.items in
    unheard told told w u refl (change_untold host w u s k past c.change_dependents-in-RemoveDependent.new.answers.items c.change_dependents-in-RemoveDependent.result Remove c.in-RemoveDependent.metaobject c.in-RemoveDependent.name c.change_dependents-in-RemoveDependent.ensures.performs.answer)

pub returns-in-InPackage-clause-heard : goal.returns-in-InPackage-clause-heard
returns-in-InPackage-clause-heard g c =
    let told = g.D.Dependents.told c.args.dependents.now in unheard told told (seen c.args.world.now) (seen c.args.world.now) refl refl

pub returns-in-Expr-clause-heard : goal.returns-in-Expr-clause-heard
returns-in-Expr-clause-heard g c =
    let host = g.N.Natives.host c.args.natives.now in
    let told = g.D.Dependents.told c.args.dependents.now in
    let w = seen c.args.world.now in
    let u = seen c.evaluate.new.world in
    let s = c.args.steps.now in
    let k = c.evaluate.new.steps in
    let past = c.args.answers.now.items in
    unheard told told w u refl (expression_untold host w u s k past c.evaluate.new.answers.items c.evaluate.result c.min-room.result c.in-Expr.form c.evaluate.ensures.performs.answer)

pub returns-in-DefClass-clause-performs : goal.returns-in-DefClass-clause-performs
returns-in-DefClass-clause-performs g c =
    kind_performs (g.N.Natives.host c.args.natives.now) (define_class c.in-DefClass.definition) c.args.top (top.DefClass c.in-DefClass.definition) c.args.world.now
    c.defclass.new.world c.args.steps.now c.defclass.new.steps c.args.answers.now.items c.defclass.new.answers.items c.defclass.result c.in-DefClass.is (λ i. refl)
    c.defclass.ensures.performs

pub returns-in-DefGeneric-clause-performs : goal.returns-in-DefGeneric-clause-performs
returns-in-DefGeneric-clause-performs g c =
    kind_performs (g.N.Natives.host c.args.natives.now) (define_generic c.in-DefGeneric.definition) c.args.top (top.DefGeneric c.in-DefGeneric.definition) c.args.world.now
    c.defgeneric.new.world c.args.steps.now c.defgeneric.new.steps c.args.answers.now.items c.defgeneric.new.answers.items c.defgeneric.result c.in-DefGeneric.is (λ i. refl)
    c.defgeneric.ensures.performs

pub returns-in-DefMethod-clause-performs : goal.returns-in-DefMethod-clause-performs
returns-in-DefMethod-clause-performs g c =
    kind_performs (g.N.Natives.host c.args.natives.now) (define_method c.in-DefMethod.name c.in-DefMethod.definition) c.args.top (top.DefMethod c.in-DefMethod.name c.in-DefMethod.definition) c.args.world.now
    c.defmethod.new.world c.args.steps.now c.defmethod.new.steps c.args.answers.now.items c.defmethod.new.answers.items c.defmethod.result c.in-DefMethod.is (λ i. refl)
    c.defmethod.ensures.performs

pub returns-in-DefVar-clause-performs : goal.returns-in-DefVar-clause-performs
returns-in-DefVar-clause-performs g c =
    kind_performs (g.N.Natives.host c.args.natives.now) (variable_defined c.in-DefVar.variable) c.args.top (top.DefVar c.in-DefVar.variable) c.args.world.now
    c.define_variable.new.world c.args.steps.now c.define_variable.new.steps c.args.answers.now.items c.define_variable.new.answers.items c.define_variable.result c.in-DefVar.is (λ i. refl)
    c.define_variable.ensures

pub returns-in-RemoveMethod-clause-performs : goal.returns-in-RemoveMethod-clause-performs
returns-in-RemoveMethod-clause-performs g c =
    kind_performs (g.N.Natives.host c.args.natives.now) (remove_method c.in-RemoveMethod.function c.in-RemoveMethod.method) c.args.top (top.RemoveMethod c.in-RemoveMethod.function c.in-RemoveMethod.method) c.args.world.now
    c.remove_method.new.world c.args.steps.now c.remove_method.new.steps c.args.answers.now.items c.remove_method.new.answers.items c.remove_method.result c.in-RemoveMethod.is (λ i. refl)
    c.remove_method.ensures.performs

pub returns-in-AddDependent-clause-performs : goal.returns-in-AddDependent-clause-performs
returns-in-AddDependent-clause-performs g c =
    kind_performs (g.N.Natives.host c.args.natives.now) (change_dependents Add c.in-AddDependent.metaobject c.in-AddDependent.name) c.args.top (top.AddDependent c.in-AddDependent.metaobject c.in-AddDependent.name) c.args.world.now
    c.change_dependents.new.world c.args.steps.now c.change_dependents.new.steps c.args.answers.now.items c.change_dependents.new.answers.items c.change_dependents.result c.in-AddDependent.is (λ i. refl)
    c.change_dependents.ensures.performs

pub returns-in-RemoveDependent-clause-performs : goal.returns-in-RemoveDependent-clause-performs
returns-in-RemoveDependent-clause-performs g c =
    kind_performs (g.N.Natives.host c.args.natives.now) (change_dependents Remove c.in-RemoveDependent.metaobject c.in-RemoveDependent.name) c.args.top (top.RemoveDependent c.in-RemoveDependent.metaobject c.in-RemoveDependent.name) c.args.world.now
    c.change_dependents-in-RemoveDependent.new.world c.args.steps.now c.change_dependents-in-RemoveDependent.new.steps c.args.answers.now.items c.change_dependents-in-RemoveDependent.new.answers.items c.change_dependents-in-RemoveDependent.result c.in-RemoveDependent.is (λ i. refl)
    c.change_dependents-in-RemoveDependent.ensures.performs

pub returns-in-Expr-clause-performs : goal.returns-in-Expr-clause-performs
returns-in-Expr-clause-performs g c =
    let w = seen c.args.world.now in
    let room : c.min-room.result ≡ room_of w = omega (arith, c.min-room.ensures) in
    kind_performs (g.N.Natives.host c.args.natives.now) (evaluation c.min-room.result c.in-Expr.form) c.args.top (top.Expr c.in-Expr.form) c.args.world.now
    c.evaluate.new.world c.args.steps.now c.evaluate.new.steps c.args.answers.now.items c.evaluate.new.answers.items c.evaluate.result c.in-Expr.is
    (λ i. ap (λ m. evaluation m c.in-Expr.form w i) room) c.evaluate.ensures.performs

pub returns-in-DefCombination-clause-performs : goal.returns-in-DefCombination-clause-performs
returns-in-DefCombination-clause-performs g c =
    let host = g.N.Natives.host c.args.natives.now in
    let d = c.in-DefCombination.definition in
    let past = c.args.answers.now.items in
    let new = c.define_combination.new in
    kind_performs host (define_combination d) c.args.top (top.DefCombination d) c.args.world.now new.world c.args.steps.now new.steps past past
    c.define_combination.result c.in-DefCombination.is (λ i. refl)
    (performs_noting host (define_combination d) c.args.world.now new.world c.args.steps.now new.steps past (of_combination (name_of d) ∷ [])
    (define_combination_quiet d (seen c.args.world.now)) c.define_combination.result c.define_combination.ensures.answers c.define_combination.ensures.uses)

pub returns-in-Defun-clause-performs : goal.returns-in-Defun-clause-performs
returns-in-Defun-clause-performs g c =
    let host = g.N.Natives.host c.args.natives.now in
    let f = c.in-Defun.function in
    let run : Run = define_function f.name (record { lambda_list = f.lambda_list; body = f.body }) in
    let past = c.args.answers.now.items in
    let new = c.defun.new in
    kind_performs host run c.args.top (top.Defun f) c.args.world.now new.world c.args.steps.now new.steps past past c.defun.result c.in-Defun.is
    (λ i. refl) (performs_alone host run c.args.world.now new.world c.args.steps.now new.steps past c.defun.result c.defun.ensures.answers
    c.defun.ensures.kept)

pub returns-in-DefCombination-clause-undone : goal.returns-in-DefCombination-clause-undone
returns-in-DefCombination-clause-undone g c =
    let d = c.in-DefCombination.definition in
    let w = seen c.args.world.now in
    same_noted (of_combination (name_of d) ∷ []) (define_combination d) w w (seen c.define_combination.new.world) c.args.steps.now
    c.define_combination.new.steps c.define_combination.result (same_still w) c.define_combination.ensures.answers

pub returns-in-DefVar-clause-undone : goal.returns-in-DefVar-clause-undone
returns-in-DefVar-clause-undone g c =
    variable_undone (g.N.Natives.host c.args.natives.now) (seen c.args.world.now) (seen c.define_variable.new.world) c.args.steps.now
    c.define_variable.new.steps c.args.answers.now.items c.define_variable.new.answers.items c.define_variable.result c.in-DefVar.variable
    c.define_variable.ensures.answer

pub returns-in-Expr-clause-undone : goal.returns-in-Expr-clause-undone
returns-in-Expr-clause-undone g c =
    expression_undone (g.N.Natives.host c.args.natives.now) (seen c.args.world.now) (seen c.evaluate.new.world) c.args.steps.now c.evaluate.new.steps
    c.args.answers.now.items c.evaluate.new.answers.items c.evaluate.result c.min-room.result c.in-Expr.form c.evaluate.ensures.performs.answer
