use Rattle.std.proofs.Common.{◌≡◌, [], ◌∷◌, length, append-nil, ap, sym, rules, ◌∙◌}
use Rattle.std.specs.Prelude.{option_map}
use Rattle.std.proofs.Math.Logic.{∥∥₁_map}
use Rattle.clos_hierarchy.specs.Classes.{named as named_in}
use Rattle.clos_hierarchy.specs.Table.{Table}
use Rattle.clos_watch.specs.declared.notice.Notice.TheVariants.{ClassRedefined}
use Rattle.clos_world.specs.Class.{named}
use Rattle.clos_world.specs.Hearing.{hearing_of}
use Rattle.clos_world.specs.World.{State, seen}
use Rattle.clos_world.specs.clos_class.Table.{Table as ClassTable}
use Rattle.clos_world.specs.declared.tables.World.{World}
use Rattle.clos_world.proofs.Heard.{notices_told}
use Rattle.clos_definition.specs.Class.{class_notices, noting, of_class, with_class}
use Rattle.clos_definition.specs.Effect.{concerned_by, with_effect}
use Rattle.clos_definition.proofs.Classes.{allowed, class_there}
use Rattle.clos_cache.specs.Cache.{found, left_after, left_of, of_classes}
use Rattle.clos_hierarchy.specs.Table.{changed}
use Rattle.clos_definition.proofs.class.make_class.Goals as goal
use Rattle.clos_definition.proofs.class.make_class.Goals.{in-Some, in_default}

pub define-requires-clause-class : goal.define-requires-clause-class
define-requires-clause-class c = (allowed c.args.definition.now (length c.args.values.items) (seen c.args.world.now) c.requires.allowed).0

pub define-requires-clause-cells : goal.define-requires-clause-cells
define-requires-clause-cells c = (allowed c.args.definition.now (length c.args.values.items) (seen c.args.world.now) c.requires.allowed).1

pub returns-clause-ok : goal.returns-clause-ok
returns-clause-ok c =
    let w = seen c.args.world.now in
    let d = c.args.definition.now in
    let vs = c.args.values.items in
    let there : option_map (λ k. k.0) c.named-earlier.result ≡ named w.classes d.name = search rules in
    let same : named_in c.hierarchy.result.now.classes d.name ≡ named w.classes d.name =
    ap (λ (t : Table). named_in t.classes d.name) (c.hierarchy.ensures ∙ ap (λ x. x.table) c.classes.ensures) in
    let before : seen c.match-earlier.world ≡ with_class d vs (noting (class_notices d w) w) = elim c.match-earlier.branch [
      | in-Some v ↦ ap seen v.world-is ∙ class_there d vs w c.define.new.objects (hearing_of (record c.args.world.now.hearing { notices = v.push.new.self }))
          (ClassRedefined v.in-Some.class ∷ []) c.in_ok-define.ensures.ok
          (notices_told c.args.world.now.hearing v.push.new.self (ClassRedefined v.in-Some.class ∷ []) v.push.ensures.items) (ap of_class (sym (ap (option_map (λ k. k.0)) v.in-Some.is) ∙ there))
      | in_default v ↦ ap seen v.world-is ∙ class_there d vs w c.define.new.objects w.hearing [] c.in_ok-define.ensures.ok
          (ap (λ l. record w.hearing { notices = l }) (sym (append-nil w.hearing.notices)))
          (ap of_class (v.in_default.ensures ∙ same))
    ] in
    c.make.ensures.seen ∙ ap (with_effect c.args.effect) before

pub returns-clause-left : goal.returns-clause-left
returns-clause-left c key =
    let old = c.args.world.now in
    let lists = λ (x : ClassTable). changed old.objects.classes.table.classes x.table.classes in
    let after = λ (x : World). left_after (concerned_by c.args.effect x.generics.table) key (found x.cache key) in
    let dropped : after c.match-earlier.world ≡ left_after (concerned_by c.args.effect old.generics.table) key (found c.define.new.cache key) =
    elim c.match-earlier.branch [ in-Some v ↦ ap after v.world-is | in_default v ↦ ap after v.world-is ] in
    let classes : (seen c.match-earlier.world).classes ≡ c.define.new.objects.classes =
    elim c.match-earlier.branch [ in-Some v ↦ ap (λ x. (seen x).classes) v.world-is | in_default v ↦ ap (λ x. (seen x).classes) v.world-is ] in
    let still = ap (λ (w : State). w.classes) c.make.ensures.seen ∙ classes in
    c.make.ensures.left key ∙ dropped
    ∙ ap (left_after (concerned_by c.args.effect old.generics.table) key)
    (c.in_ok-define.ensures.left key ∙ ap (λ l. left_of (of_classes l) key (found old.cache key)) (ap lists (sym still)))

pub invariant_of-world-in-Some : goal.invariant_of-world-in-Some
invariant_of-world-in-Some c = record {
  kept = ∥∥₁_map c.args.world.now.kept (c.in_ok-define.ensures.kept c.args.world.now.generics.table c.args.world.now.combinations);
}

pub invariant_of-world-in_default : goal.invariant_of-world-in_default
invariant_of-world-in_default c = record {
  kept = ∥∥₁_map c.args.world.now.kept (c.in_ok-define.ensures.kept c.args.world.now.generics.table c.args.world.now.combinations);
}
