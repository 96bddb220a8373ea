use Rattle.std.proofs.Common.{ap, length, sym, ◌∙◌, slice_get}
use Rattle.clos_machine.specs.clos_meaning.Uses.{with_note}
use Rattle.clos_machine.specs.clos_meaning.Outcome.{used}
use Rattle.clos_machine.specs.clos_world.Dispatch.{ordered}
use Rattle.clos_machine.specs.clos_world.Keys.{key_of}
use Rattle.clos_machine.specs.clos_world.Uses.{uses_of}
use Rattle.clos_machine.specs.clos_world.World.{seen}
use Rattle.clos_machine.specs.clos_meaning.Meaning.{meaning}
use Rattle.clos_calls.specs.GenericCalls.{takes_in}
use Rattle.clos_calls.proofs.Dispatching.{none_called, some_called, wrong_count}
use Rattle.clos_calls.proofs.generic_calls.call_generic.Goals as goal

pub returns-then-not-takes-clause-leads : goal.returns-then-not-takes-clause-leads
returns-then-not-takes-clause-leads c =
    wrong_count c.args.machine.now c.args.machine.now (meaning c.args.machine.now.room) (seen c.args.world.now) c.args.values c.args.id.0 (uses_of c.args.world.now) c.plain.result
    (sym c.if-not-takes.true ∙ c.takes.ensures ∙ ap (takes_in (slice_get (seen c.args.world.now).generics.functions c.args.id.0)) c.len.ensures) c.plain.ensures

pub returns-then-len-eq0-clause-leads : goal.returns-then-len-eq0-clause-leads
returns-then-len-eq0-clause-leads c =
    none_called c.args.machine.now c.call_unmatched.new.machine (meaning c.args.machine.now.room) (seen c.args.world.now) c.args.values c.args.id.0
    c.in_ok-arguments.arguments c.in_ok-found.found.value.methods c.call_unmatched.result (seen c.effective_method.new.self) (uses_of c.args.world.now) (uses_of c.effective_method.new.self)
    (uses_of c.call_unmatched.new.world)
    (sym c.if-not-takes.false ∙ c.takes.ensures ∙ ap (takes_in (slice_get (seen c.args.world.now).generics.functions c.args.id.0)) c.len.ensures) c.in_ok-arguments.ensures
    (c.in_ok-found.ensures.methods ∙ ap (ordered (seen c.args.world.now) c.args.id.0) c.as_slice.ensures)
    (ap (λ x. length x.methods) (sym c.deref.ensures) ∙ sym c.len-2.ensures ∙ c.if-len-eq0.true) c.in_ok-found.ensures.same
    (c.in_ok-found.ensures.uses ∙ ap (λ vs. with_note (used (key_of (seen c.args.world.now) c.args.id.0 vs)) (uses_of c.args.world.now)) c.as_slice.ensures)
    c.call_unmatched.ensures.leads

pub returns-clause-leads : goal.returns-clause-leads
returns-clause-leads c =
    some_called c.args.machine.now c.call_matched.new.machine (meaning c.args.machine.now.room) (seen c.args.world.now) c.args.values c.args.id.0
    c.in_ok-arguments.arguments c.in_ok-found.found.value.methods c.call_matched.result (seen c.effective_method.new.self) (uses_of c.args.world.now) (uses_of c.effective_method.new.self)
    (sym c.if-not-takes.false ∙ c.takes.ensures ∙ ap (takes_in (slice_get (seen c.args.world.now).generics.functions c.args.id.0)) c.len.ensures) c.in_ok-arguments.ensures
    (c.in_ok-found.ensures.methods ∙ ap (ordered (seen c.args.world.now) c.args.id.0) c.as_slice.ensures)
    (λ e. c.if-len-eq0.false (c.len-2.ensures ∙ ap (λ x. length x.methods) c.deref.ensures ∙ e)) c.in_ok-found.ensures.same
    (c.in_ok-found.ensures.uses ∙ ap (λ vs. with_note (used (key_of (seen c.args.world.now) c.args.id.0 vs)) (uses_of c.args.world.now)) c.as_slice.ensures)
    c.call_matched.ensures.leads
