use Rattle.std.proofs.Common.{Some, ap, sym, ◌∙◌}
use Rattle.clos_native.specs.Stored.{native_named}
use Rattle.clos_eval.proofs.Stored.{is_there, none_there}
use Rattle.clos_eval.proofs.host.VecNativeNatives.takes.Goals as goal

pub returns-in-Some : goal.returns-in-Some
returns-in-Some g c =
    ap Some c.arity.ensures
    ∙ sym (is_there c.args.self.now.items c.args.name.now c.in-Some.native.now
    (ap (λ fs. native_named fs c.args.name.now) (sym c.as_slice.ensures.value) ∙ sym c.in-Some.ensures))

pub returns-in-None : goal.returns-in-None
returns-in-None g c =
    sym (none_there c.args.self.now.items c.args.name.now (ap (λ fs. native_named fs c.args.name.now) (sym c.as_slice.ensures.value) ∙ sym c.in-None.ensures))
