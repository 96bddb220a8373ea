use Rattle.std.proofs.Common.{◌≡◌, List, [], ◌∷◌, ◌++◌, Option, rules, sym, subst}
use Rattle.std.proofs.lemmas.Result.{err_from_is_err_and}
use Rattle.lisp_data.specs.Value.{Val}
use Rattle.clos_forms.specs.Form.{Form}
use Rattle.clos_eval.specs.clos_machine.clos_world.declared.condition.Stop.TheVariants.{Storage}
use Rattle.clos_eval.specs.Evaluation.{Comes}
use Rattle.clos_definition_forms.specs.Forms.{EndsBefore, forms_evaluated}
use Rattle.clos_definition_forms.proofs.Evaluated.{all_evaluated, begins, between, one_more, one_stops}
use Rattle.clos_definition_forms.proofs.forms.evaluate_forms.Goals as goal

pub returns-in_err-value-clause-stop : goal.returns-in_err-value-clause-stop
returns-in_err-value-clause-stop g c =
    let host = g.N.Natives.host c.args.natives.now in
    let all = c.args.forms.now in
    let f = c.in-Some.form.now in
    let fs = c.in-Some.others.now in
    let vs = c.loop-form.values.items in
    let w0 = c.args.world.now in
    let w = c.loop-form.world in
    let u = c.evaluate_form.new.world in
    let s0 = c.args.steps.now in
    let s = c.loop-form.steps in
    let k = c.evaluate_form.new.steps in
    let past0 = c.args.answers.now.items in
    let past = c.loop-form.answers.items in
    let bs = c.evaluate_form.new.answers.items in
    let inv : Comes host (forms_evaluated all []) (forms_evaluated (f ∷ fs) vs) w0 s0 past0 w s past = subst (λ (l : List (Option Form)). Comes host (forms_evaluated all []) (forms_evaluated l vs) w0 s0 past0 w s past)
    c.in-Some.ensures.cases.0 c.loop-form.invariant in
    let h : EndsBefore host (forms_evaluated all []) w0 s0 past0 c.in_err-value.field-0.0 u k bs =
    one_stops host all w0 w u f fs vs s0 s k past0 past bs c.in_err-value.field-0.0 inv c.in_err-value.ensures.stop in
    search (rules, h)

pub returns-in_err-push-clause-stop : goal.returns-in_err-push-clause-stop
returns-in_err-push-clause-stop g c =
    let host = g.N.Natives.host c.args.natives.now in
    let all = c.args.forms.now in
    let f = c.in-Some.form.now in
    let fs = c.in-Some.others.now in
    let vs = c.loop-form.values.items in
    let w0 = c.args.world.now in
    let w = c.loop-form.world in
    let u = c.evaluate_form.new.world in
    let s0 = c.args.steps.now in
    let s = c.loop-form.steps in
    let k = c.evaluate_form.new.steps in
    let past0 = c.args.answers.now.items in
    let past = c.loop-form.answers.items in
    let bs = c.evaluate_form.new.answers.items in
    let inv : Comes host (forms_evaluated all []) (forms_evaluated (f ∷ fs) vs) w0 s0 past0 w s past = subst (λ (l : List (Option Form)). Comes host (forms_evaluated all []) (forms_evaluated l vs) w0 s0 past0 w s past)
    c.in-Some.ensures.cases.0 c.loop-form.invariant in
    let h : EndsBefore host (forms_evaluated all []) w0 s0 past0 Storage u k bs =
    between host all fs (vs ++ c.in_ok-value.value ∷ []) w0 u s0 k past0 bs (one_more host all w0 w u f fs vs s0 s k past0 past bs
    c.in_ok-value.value inv c.in_ok-value.ensures.value) in
    let p = err_from_is_err_and c.from_residual-in_err-push.result c.from_residual-in_err-push.ensures.1 in rw (p.1, p.2) h

pub loop-form-preserved : goal.loop-form-preserved
loop-form-preserved g c =
    let host = g.N.Natives.host c.args.natives.now in
    let all = c.args.forms.now in
    let f = c.in-Some.form.now in
    let fs = c.in-Some.others.now in
    let vs = c.loop-form.values.items in
    let w0 = c.args.world.now in
    let w = c.loop-form.world in
    let u = c.evaluate_form.new.world in
    let s0 = c.args.steps.now in
    let s = c.loop-form.steps in
    let k = c.evaluate_form.new.steps in
    let past0 = c.args.answers.now.items in
    let past = c.loop-form.answers.items in
    let bs = c.evaluate_form.new.answers.items in
    let inv : Comes host (forms_evaluated all []) (forms_evaluated (f ∷ fs) vs) w0 s0 past0 w s past = subst (λ (l : List (Option Form)). Comes host (forms_evaluated all []) (forms_evaluated l vs) w0 s0 past0 w s past)
    c.in-Some.ensures.cases.0 c.loop-form.invariant in
    let e : c.push.new.self.items ≡ vs ++ c.in_ok-value.value ∷ [] = c.in_ok-push.ensures.items in
    subst (λ (l : List (Option Val)). Comes host (forms_evaluated all []) (forms_evaluated fs l) w0 s0 past0 u k bs) (sym e) (one_more host all w0 w u f fs vs s0 s k past0 past bs
    c.in_ok-value.value inv c.in_ok-value.ensures.value)

pub loop-form-init : goal.loop-form-init
loop-form-init g c =
    let host = g.N.Natives.host c.args.natives.now in
    let all = c.args.forms.now in
    let w = c.args.world.now in
    let past = c.args.answers.now.items in
    subst (λ (l : List (Option Val)). Comes host (forms_evaluated all []) (forms_evaluated all l) w c.args.steps.now past w c.args.steps.now past) (sym c.new-values.ensures.items)
    (begins host (forms_evaluated all []) w c.args.steps.now past)

pub returns-clause-values : goal.returns-clause-values
returns-clause-values g c =
    all_evaluated (g.N.Natives.host c.args.natives.now) c.args.forms.now c.loop-form.left.now c.loop-form.values.items
    c.args.world.now c.loop-form.world
    c.args.steps.now c.loop-form.steps c.args.answers.now.items c.loop-form.answers.items c.in_default.ensures.cases c.loop-form.invariant
