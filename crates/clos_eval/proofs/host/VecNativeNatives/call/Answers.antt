use Rattle.std.proofs.Common.{◌≡◌, ap, length, rules, subst, sym, true, w64, ◌∙◌}
use Rattle.std.proofs.lemmas.Int.{to_z-of_z}
use Rattle.clos_native.specs.Stored.{native_named}
use Rattle.clos_machine.specs.clos_meaning.Host.{may_answer}
use Rattle.clos_eval.specs.Host.{host_of}
use Rattle.clos_eval.proofs.Stored.{as_many, has_one, may_be}
use Rattle.clos_eval.proofs.host.VecNativeNatives.call.Goals as goal

pub call-requires : goal.call-requires
call-requires g c =
    as_many c.args.self.now.items c.args.name.now c.in-Some.native.now (length c.args.arguments.now)
    (ap (λ fs. native_named fs c.args.name.now) (sym c.as_slice.ensures.value) ∙ sym c.in-Some.ensures) c.requires

pub unreachable-requires : goal.unreachable-requires
unreachable-requires g c =
    has_one c.args.self.now.items c.args.name.now (length c.args.arguments.now)
    (ap (λ fs. native_named fs c.args.name.now) (sym c.as_slice.ensures.value) ∙ sym c.in-None.ensures) c.requires

pub returns : goal.returns
returns g c =
    subst (λ x. may_answer (host_of c.args.self.now.items c.args.name.now) c.args.arguments.now x ≡ true) (sym (to_z-of_z w64 c.call.result (search rules)))
    (may_be c.args.self.now.items c.args.name.now c.in-Some.native.now c.args.arguments.now c.call.result
    (ap (λ fs. native_named fs c.args.name.now) (sym c.as_slice.ensures.value) ∙ sym c.in-Some.ensures) c.call.ensures)
