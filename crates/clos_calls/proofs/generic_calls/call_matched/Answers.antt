use Rattle.std.proofs.Common.{ap, map, sym, ◌∙◌}
use Rattle.lisp_data.specs.ValueView.{value_of}
use Rattle.clos_comb.specs.OutcomeView.{combined_of}
use Rattle.clos_machine.specs.clos_world.World.{seen}
use Rattle.clos_machine.specs.clos_meaning.GenericCalls.{after_positional, keywords_fit}
use Rattle.clos_machine.specs.clos_meaning.Meaning.{meaning}
use Rattle.clos_calls.proofs.Dispatching.{keywords_right, keywords_wrong}
use Rattle.clos_calls.proofs.generic_calls.call_matched.Goals as goal

pub returns-then-not-keywords_fit-clause-leads : goal.returns-then-not-keywords_fit-clause-leads
returns-then-not-keywords_fit-clause-leads c = λ f e.
    keywords_wrong c.args.machine.now c.args.machine.now (meaning c.args.machine.now.room) (seen c.args.world.now) c.args.arguments c.args.id.0 f c.args.found.value.methods c.plain.result
    (sym c.if-not-keywords_fit.true ∙ c.keywords_fit.ensures f e
    ∙ ap (λ ms. keywords_fit (seen c.args.world.now).generics c.args.id.0 ms (after_positional f.shape (map value_of c.as_slice-2.result.now))) c.as_slice.ensures
    ∙ ap (λ e. keywords_fit (seen c.args.world.now).generics c.args.id.0 e.methods (after_positional f.shape (map value_of c.as_slice-2.result.now))) c.deref.ensures
    ∙ ap (λ vs. keywords_fit (seen c.args.world.now).generics c.args.id.0 c.args.found.value.methods (after_positional f.shape vs)) c.as_slice-2.ensures) c.plain.ensures

pub returns-clause-leads : goal.returns-clause-leads
returns-clause-leads c = λ f e.
    keywords_right c.args.machine.now c.run_combined.new.machine (meaning c.args.machine.now.room) (seen c.args.world.now) c.args.arguments c.args.id.0 f c.args.found.value.methods
    (combined_of c.args.found.value.outcome) c.run_combined.result
    (sym c.if-not-keywords_fit.false ∙ c.keywords_fit.ensures f e
    ∙ ap (λ ms. keywords_fit (seen c.args.world.now).generics c.args.id.0 ms (after_positional f.shape (map value_of c.as_slice-2.result.now))) c.as_slice.ensures
    ∙ ap (λ e. keywords_fit (seen c.args.world.now).generics c.args.id.0 e.methods (after_positional f.shape (map value_of c.as_slice-2.result.now))) c.deref.ensures
    ∙ ap (λ vs. keywords_fit (seen c.args.world.now).generics c.args.id.0 c.args.found.value.methods (after_positional f.shape vs)) c.as_slice-2.ensures)
    c.requires (c.run_combined.ensures.leads f e)
