use Rattle.std.proofs.Common.{◌≡◌, Some, None, Err, ap, sym, ◌∙◌}
use Rattle.lisp_data.specs.ValueView.{value_of}
use Rattle.clos_making.specs.clos_effects.clos_watch.Handed.{place_of}
use Rattle.clos_eval.specs.clos_machine.clos_meaning.ClassFunctions.{symbol_in}
use Rattle.clos_eval.specs.clos_machine.clos_world.Hearing.{hearing_of}
use Rattle.clos_making.proofs.clos_effects.clos_definition.clos_world.Heard.{names_kept}
use Rattle.clos_definition_forms.specs.Dependents.{dependent_named, known}
use Rattle.clos_definition_forms.proofs.dependents.dependent_named.Goals as goal

pub returns-in-Some-place_of : goal.returns-in-Some-place_of
returns-in-Some-place_of c =
    let h = c.args.world.now.hearing in
    let v = value_of c.args.value.now in
    let name = c.in-Some.name in
    let named : symbol_in v ≡ Some name = sym c.in_ok-name.ensures ∙ c.in-Some.is in
    let found : place_of (hearing_of h).names name ≡ Some c.in-Some-place_of.place =
    ap (λ ns. place_of ns name) (names_kept h ∙ sym c.as_slice.ensures.value) ∙ sym c.place_of.ensures ∙ c.in-Some-place_of.is in
    ap (dependent_named (hearing_of h).names v) named ∙ ap (known name) found

pub returns : goal.returns
returns c =
    let h = c.args.world.now.hearing in
    let v = value_of c.args.value.now in
    let name = c.in-Some.name in
    let named : symbol_in v ≡ Some name = sym c.in_ok-name.ensures ∙ c.in-Some.is in
    let found : place_of (hearing_of h).names name ≡ None =
    ap (λ ns. place_of ns name) (names_kept h ∙ sym c.as_slice.ensures.value) ∙ sym c.place_of.ensures ∙ c.in-None.is in
    ap (dependent_named (hearing_of h).names v) named ∙ ap (known name) found ∙ ap Err (sym c.in_ok-about_name-in-None.ensures)
