use Rattle.std.proofs.Common.{◌≡◌, Err, ap, length, map, rules, slice_get, sym, true, ◌∙◌}
use Rattle.std.proofs.lemmas.List.{length-map}
use Rattle.lisp_data.specs.ValueView.{value_of}
use Rattle.clos_machine.specs.clos_world.Uses.{uses_of}
use Rattle.clos_machine.specs.clos_world.World.{seen}
use Rattle.clos_machine.specs.clos_world.declared.condition.Stop.TheVariants.{Storage}
use Rattle.clos_calls.specs.GenericCalls.{takes_in}
use Rattle.clos_next_methods.proofs.Nexting.{one_asked}
use Rattle.clos_next_methods.proofs.next_methods.permit_in.Goals as goal

pub returns-in_default-clause-kept : goal.returns-in_default-clause-kept
returns-in_default-clause-kept c =
    let w = seen c.args.world.now in
    let taken : takes_in (slice_get w.generics.functions c.args.call.now.generic) (length (map value_of c.args.values.now)) ≡ true =
    ap (λ n. takes_in (slice_get w.generics.functions c.args.call.now.generic) n) (length-map c.args.values.now value_of)
    ∙ ap (λ g. takes_in (slice_get w.generics.functions g) (length c.args.values.now)) (sym c.generic.ensures) ∙ sym c.takes.ensures ∙ c.if-not-takes.false in
    one_asked w c.args.call.now (map value_of c.args.values.now) (Err Storage) (uses_of c.args.world.now) (uses_of c.effective_method.new.self) taken (search rules)
