use Rattle.std.proofs.Common.{◌∷◌, ap, length, not, slice_get, subst, sym, ◌∙◌}
use Rattle.lisp_data.specs.Value.{generic}
use Rattle.clos_machine.specs.clos_world.clos_generic.TableView.{function_of}
use Rattle.clos_method.specs.System.{system_number}
use Rattle.clos_method.specs.declared.system.SystemFunction.TheVariants.{NoApplicableMethod}
use Rattle.clos_machine.specs.clos_world.Dispatch.{ordered}
use Rattle.clos_machine.specs.clos_world.Keys.{key_of}
use Rattle.clos_machine.specs.clos_world.Uses.{uses_of}
use Rattle.clos_machine.specs.clos_world.World.{seen}
use Rattle.clos_machine.specs.clos_meaning.GenericCalls.{matched}
use Rattle.clos_machine.specs.clos_meaning.Outcome.{used}
use Rattle.clos_machine.specs.clos_meaning.Uses.{with_note}
use Rattle.clos_machine.specs.Machine.{Leads, inside}
use Rattle.clos_machine.specs.clos_meaning.Meaning.{meaning}
use Rattle.clos_calls.proofs.Dispatching.{function_there, nothing_there, none_told, some_told, untold}
use Rattle.clos_calls.proofs.generic_calls.call_unmatched.Goals as goal

pub returns-then-is_none-clause-leads : goal.returns-then-is_none-clause-leads
returns-then-is_none-clause-leads c =
    untold c.args.machine.now c.args.machine.now (meaning c.args.machine.now.room) (seen c.args.world.now) c.args.arguments.now c.args.id.0 c.in_ok-arguments.arguments
    (c.in_ok-arguments.ensures ∙ c.in_ok-push_first.ensures ∙ ap (λ l. generic c.args.id.0 ∷ l) c.in_ok-values.ensures) (uses_of c.args.world.now) c.plain.result
    (nothing_there (λ f. function_of f.now) c.function.result (slice_get c.args.world.now.generics.table.functions (system_number NoApplicableMethod))
    (c.function.ensures ∙ ap (slice_get c.args.world.now.generics.table.functions) c.id-called.ensures) (c.is_none.ensures ∙ ap not c.if-is_none.true)) c.plain.ensures

pub returns-then-len-eq0-clause-leads : goal.returns-then-len-eq0-clause-leads
returns-then-len-eq0-clause-leads c =
    let x = function_there (λ f. function_of f.now) c.function.result (slice_get c.args.world.now.generics.table.functions c.id-called.result.0) c.function.ensures
    (c.is_none.ensures ∙ ap not c.if-is_none.false) in
    none_told c.args.machine.now c.args.machine.now (meaning c.args.machine.now.room) (seen c.args.world.now) c.args.arguments.now c.args.id.0 c.in_ok-arguments.arguments
    (c.in_ok-arguments.ensures ∙ c.in_ok-push_first.ensures ∙ ap (λ l. generic c.args.id.0 ∷ l) c.in_ok-values.ensures) x.0 c.in_ok-found.found.value.methods c.plain-then-len-eq0.result
    (uses_of c.args.world.now) (uses_of c.effective_method.new.self)
    (x.1 ∙ ap (slice_get c.args.world.now.generics.table.functions) c.id-called.ensures)
    (c.in_ok-found.ensures.methods ∙ ap (ordered (seen c.args.world.now) c.id-called.result.0) c.as_slice.ensures ∙ ap (λ n. ordered (seen c.args.world.now) n c.in_ok-arguments.arguments) c.id-called.ensures)
    (ap (λ x. length x.methods) (sym c.deref.ensures) ∙ sym c.len.ensures ∙ c.if-len-eq0.true)
    (c.in_ok-found.ensures.uses ∙ ap (λ vs. with_note (used (key_of (seen c.args.world.now) c.id-called.result.0 vs)) (uses_of c.args.world.now)) c.as_slice.ensures
    ∙ ap (λ n. with_note (used (key_of (seen c.args.world.now) n c.in_ok-arguments.arguments)) (uses_of c.args.world.now)) c.id-called.ensures)
    c.plain-then-len-eq0.ensures

pub returns-clause-leads : goal.returns-clause-leads
returns-clause-leads c =
    let x = function_there (λ f. function_of f.now) c.function.result (slice_get c.args.world.now.generics.table.functions c.id-called.result.0) c.function.ensures
    (c.is_none.ensures ∙ ap not c.if-is_none.false) in
    some_told c.args.machine.now c.call_matched.new.machine (meaning c.args.machine.now.room) (seen c.args.world.now) c.args.arguments.now c.args.id.0 c.in_ok-arguments.arguments
    (c.in_ok-arguments.ensures ∙ c.in_ok-push_first.ensures ∙ ap (λ l. generic c.args.id.0 ∷ l) c.in_ok-values.ensures) x.0 c.in_ok-found.found.value.methods c.call_matched.result
    (seen c.effective_method.new.self) (uses_of c.args.world.now) (uses_of c.effective_method.new.self)
    (x.1 ∙ ap (slice_get c.args.world.now.generics.table.functions) c.id-called.ensures)
    (c.in_ok-found.ensures.methods ∙ ap (ordered (seen c.args.world.now) c.id-called.result.0) c.as_slice.ensures ∙ ap (λ n. ordered (seen c.args.world.now) n c.in_ok-arguments.arguments) c.id-called.ensures)
    (λ e. c.if-len-eq0.false (c.len.ensures ∙ ap (λ x. length x.methods) c.deref.ensures ∙ e))
    c.in_ok-found.ensures.same
    (c.in_ok-found.ensures.uses ∙ ap (λ vs. with_note (used (key_of (seen c.args.world.now) c.id-called.result.0 vs)) (uses_of c.args.world.now)) c.as_slice.ensures
    ∙ ap (λ n. with_note (used (key_of (seen c.args.world.now) n c.in_ok-arguments.arguments)) (uses_of c.args.world.now)) c.id-called.ensures)
    (subst (λ n. Leads (inside c.args.machine.now (matched (meaning c.args.machine.now.room) c.in_ok-arguments.arguments n x.0 c.in_ok-found.found.value.methods)) (seen c.effective_method.new.self)
    c.call_matched.result c.call_matched.new.machine) c.id-called.ensures (c.call_matched.ensures.leads x.0 (x.1 ∙ ap (λ v. slice_get v.generics.functions c.id-called.result.0) (sym c.in_ok-found.ensures.same))))
