use Rattle.std.proofs.Common.{◌≡◌, ◌∷◌, None, ap, sym, subst, ◌∙◌}
use Rattle.std.proofs.lemmas.Result.{err_from_is_err_and}
use Rattle.clos_world.specs.World.{seen}
use Rattle.clos_definition.specs.Generic.{methods_refusal}
use Rattle.clos_definition.specs.Method.{specializers_refusal}
use Rattle.clos_definition.specs.Refusal.{StopsFor, or_else}
use Rattle.clos_definition.proofs.Classes.{first_stops}
use Rattle.clos_definition.proofs.generic.refuse_methods.Goals as goal

pub returns-in_err-refuse_specializers : goal.returns-in_err-refuse_specializers
returns-in_err-refuse_specializers c =
    let w = seen c.args.world.now in
    let m = c.in-Some.method.now in
    let ms = c.in-Some.others.now in
    let stop = c.in_err-refuse_specializers.field-0.0 in
    let all : methods_refusal (m ∷ ms) w ≡ methods_refusal c.args.methods.now w =
    ap (λ l. methods_refusal l w) (sym c.in-Some.ensures.cases.0) ∙ c.loop-method.invariant in
    let first : StopsFor (specializers_refusal m.specializers w) stop =
    subst (λ l. StopsFor (specializers_refusal l w) stop) c.as_slice.ensures c.in_err-refuse_specializers.ensures in
    let h : StopsFor (methods_refusal c.args.methods.now w) stop =
    subst (λ o. StopsFor o stop) all (first_stops (specializers_refusal m.specializers w) (methods_refusal ms w) stop first) in
    let p = err_from_is_err_and c.from_residual.result c.from_residual.ensures.1 in rw (p.1, p.2) h

pub loop-method-preserved : goal.loop-method-preserved
loop-method-preserved c =
    let w = seen c.args.world.now in
    let m = c.in-Some.method.now in
    let ms = c.in-Some.others.now in
    let passed : specializers_refusal m.specializers w ≡ None =
    ap (λ l. specializers_refusal l w) (sym c.as_slice.ensures) ∙ c.in_ok-refuse_specializers.ensures in
    sym (ap (λ o. or_else o (methods_refusal ms w)) passed) ∙ ap (λ l. methods_refusal l w) (sym c.in-Some.ensures.cases.0) ∙ c.loop-method.invariant
