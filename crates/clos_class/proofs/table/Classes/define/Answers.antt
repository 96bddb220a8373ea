use Rattle.std.proofs.Common.{◌≡◌, None, ap, subst, ◌∙◌}
use Rattle.clos_class.specs.Table.{refusal, with_definition}
use Rattle.clos_class.proofs.Preparing.{keep_each, keep_then, keep_within}
use Rattle.clos_class.proofs.Standing.{made, stands}
use Rattle.clos_class.proofs.table.Classes.define.Goals as goal

pub keep-requires-clause-within : goal.keep-requires-clause-within
keep-requires-clause-within c =
    keep_within c.self.inside.table c.prepare.new.table c.args.definition.now c.self.inside.kept.items c.reserve-2.new.self.items c.in_ok-preview.field-0.preview c.touched.result.now c.in_ok-changed.changed.class.0 c.in_ok-preview.ensures.same c.self.invariant.1 c.in_ok-reserve-2.ensures.items c.touched.ensures c.in_ok-preview.ensures.class
    c.in_ok-changed.ensures.class c.in_ok-preview.ensures.touches

pub keep-requires-clause-each : goal.keep-requires-clause-each
keep-requires-clause-each c =
    keep_each c.self.inside.table c.prepare.new.table c.args.definition.now c.self.inside.kept.items c.reserve-2.new.self.items c.in_ok-preview.field-0.preview c.touched.result.now c.in_ok-changed.changed.class.0 c.in_ok-preview.ensures.same c.self.invariant.1 c.in_ok-reserve-2.ensures.items c.touched.ensures c.in_ok-preview.ensures.class
    c.in_ok-changed.ensures.class c.in_ok-preview.ensures.touches _ _ _ c.in_ok-preview.field-0.kept.items c.in_ok-preview.ensures.kept

pub invariant_of-self-2 : goal.invariant_of-self-2
invariant_of-self-2 c =
    stands c.self.inside.table c.prepare.new.table c.define_name.new.table c.args.definition.now c.self.inside.rows.items c.deref.result.now c.reserve.new.self.items c.put.new.rows.items
    c.in_ok-changed.changed.class.0 c.in_ok-preview.field-0.said c.self.inside.kept.items c.keep.new.kept.items c.self.invariant.0 c.in_ok-preview.ensures.same c.in_ok-changed.ensures.ok c.deref.ensures.value
    c.in_ok-reserve.ensures.items c.put.ensures c.in_ok-changed.ensures.class c.self.invariant.1
    (keep_then c.self.inside.table c.prepare.new.table c.args.definition.now c.self.inside.kept.items c.reserve-2.new.self.items c.in_ok-preview.field-0.preview c.touched.result.now c.in_ok-changed.changed.class.0 c.in_ok-preview.ensures.same c.self.invariant.1 c.in_ok-reserve-2.ensures.items c.touched.ensures c.in_ok-preview.ensures.class
    c.in_ok-changed.ensures.class c.in_ok-preview.ensures.touches c.self.inside.rows.items c.deref.result.now c.in_ok-preview.field-0.said c.in_ok-preview.field-0.kept.items c.keep.new.kept.items c.deref.ensures.value c.self.invariant.0 c.self.invariant.2 c.in_ok-preview.ensures.kept c.keep.ensures)

pub returns-clause-ok : goal.returns-clause-ok
returns-clause-ok c = (
  subst (λ v. refusal v.table c.args.definition.now ≡ None) c.self.view_is c.in_ok-preview.ensures.ok,
  made c.self.inside.table c.prepare.new.table c.define_name.new.table c.args.definition.now c.self.inside.rows.items c.deref.result.now c.reserve.new.self.items c.put.new.rows.items
      c.in_ok-changed.changed.class.0 c.in_ok-preview.field-0.said c.args.first.0 c.in_ok-preview.ensures.same c.in_ok-changed.ensures.ok c.deref.ensures.value c.in_ok-reserve.ensures.items c.put.ensures
      c.in_ok-changed.ensures.class c.in_ok-preview.ensures.said
      ∙ ap (λ v. with_definition v c.args.definition.now c.args.first.0) c.self.view_is,
)
