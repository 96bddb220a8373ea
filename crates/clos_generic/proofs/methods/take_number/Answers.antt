use Rattle.std.proofs.Common.{ap, ◌∙◌}
use Rattle.std.specs.Prelude.{◌==◌, position}
use Rattle.clos_method.specs.MethodIds.{method_numbers}
use Rattle.clos_generic.proofs.Places.{none_there, removed_there}
use Rattle.clos_generic.proofs.methods.take_number.Goals as goal

pub returns-in-Some-clause-rest : goal.returns-in-Some-clause-rest
returns-in-Some-clause-rest c =
    ap method_numbers c.remove-removed.ensures.items
    ∙ removed_there (λ n. n == c.args.id.0) c.args.ids.now.items c.in-Some.place (c.in-Some.ensures ∙ ap (position (λ m. m.0 == c.args.id.0)) c.as_slice.ensures.value)

pub returns-in-None-clause-rest : goal.returns-in-None-clause-rest
returns-in-None-clause-rest c =
    none_there (λ n. n == c.args.id.0) c.args.ids.now.items (c.in-None.ensures ∙ ap (position (λ m. m.0 == c.args.id.0)) c.as_slice.ensures.value)
