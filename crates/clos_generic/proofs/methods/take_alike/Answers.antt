use Rattle.std.proofs.Common.{ap, ◌∙◌}
use Rattle.std.specs.Prelude.{position}
use Rattle.clos_generic.specs.Table.{is_alike_at}
use Rattle.clos_method.specs.MethodIds.{method_numbers}
use Rattle.clos_generic.proofs.Places.{found_there, nothing_there, none_there, removed_there}
use Rattle.clos_generic.proofs.methods.take_alike.Goals as goal

pub returns-in-None-clause-found : goal.returns-in-None-clause-found
returns-in-None-clause-found c =
    let p = is_alike_at c.args.methods.now c.args.qualifiers.now c.args.specializers.now in
    nothing_there p c.args.ids.now.items (c.in-None.ensures ∙ ap (position (λ m. p m.0)) c.as_slice.ensures.value)

pub returns-in-None-clause-rest : goal.returns-in-None-clause-rest
returns-in-None-clause-rest c =
    let p = is_alike_at c.args.methods.now c.args.qualifiers.now c.args.specializers.now in
    none_there p c.args.ids.now.items (c.in-None.ensures ∙ ap (position (λ m. p m.0)) c.as_slice.ensures.value)

pub returns-in-Some-clause-found : goal.returns-in-Some-clause-found
returns-in-Some-clause-found c =
    let p = is_alike_at c.args.methods.now c.args.qualifiers.now c.args.specializers.now in
    found_there p c.args.ids.now.items c.in-Some.place c.remove.result (c.in-Some.ensures ∙ ap (position (λ m. p m.0)) c.as_slice.ensures.value) c.remove.ensures.value

pub returns-in-Some-clause-rest : goal.returns-in-Some-clause-rest
returns-in-Some-clause-rest c =
    let p = is_alike_at c.args.methods.now c.args.qualifiers.now c.args.specializers.now in
    ap method_numbers c.remove.ensures.items ∙ removed_there p c.args.ids.now.items c.in-Some.place (c.in-Some.ensures ∙ ap (position (λ m. p m.0)) c.as_slice.ensures.value)
