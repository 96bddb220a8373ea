use Rattle.std.proofs.Common.{sym, ◌∙◌}
use Rattle.clos_definition_forms.proofs.Variables.{declares, keeps}
use Rattle.clos_definition_forms.proofs.variable.define_variable.Goals as goal

pub returns-then-keeps_value : goal.returns-then-keeps_value
returns-then-keeps_value g c =
    keeps (g.N.Natives.host c.args.natives.now) c.args.definition c.args.world.now c.args.steps.now c.args.answers.now.items c.keep_value.result
    c.keep_value.new.world c.keep_value.new.steps (sym c.if-not-admits.ensures) (sym c.keeps_value.ensures ∙ c.if-keeps_value.true)
    c.keep_value.ensures.answers c.keep_value.ensures.kept

pub returns-in-None : goal.returns-in-None
returns-in-None g c =
    declares (g.N.Natives.host c.args.natives.now) c.args.definition c.args.world.now c.args.steps.now c.args.answers.now.items c.declare.result
    c.declare.new.world c.declare.new.steps (sym c.if-not-admits.ensures) (sym c.keeps_value.ensures ∙ c.if-keeps_value.false) c.in-None.is
    c.declare.ensures.answers c.declare.ensures.kept
