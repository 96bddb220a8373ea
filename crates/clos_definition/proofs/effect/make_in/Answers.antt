use Rattle.std.proofs.Common.{◌++◌, length, map, arith, ap, subst, sym, ◌∙◌}
use Rattle.std.proofs.lemmas.List.{length-map}
use Rattle.clos_cache.specs.Cache.{found, left_after}
use Rattle.clos_generic.specs.Table.{Table}
use Rattle.clos_definition.specs.Effect.{AdditionsFit, DefinitionsFit, changed, of_added, of_defined, of_removed, of_additions, of_definitions, of_removal, possible, with_definitions, with_methods, without_all}
use Rattle.clos_definition.proofs.Dropped.{left_of_three}
use Rattle.clos_definition.proofs.Notices.{in_order, length_of_three}
use Rattle.clos_definition.proofs.effect.make_in.Goals as goal

pub tell_removals-requires : goal.tell_removals-requires
tell_removals-requires c =
    let rs = c.args.effect.changes.removals in
    let ds = c.args.effect.changes.definitions in
    let all = length_of_three (map of_removal rs) (of_definitions ds c.args.generics.now.table) (possible c.args.effect.methods.items) in
    let as_many = length-map rs of_removal in
    let same = ap length c.removals.ensures in
    omega (arith, all, as_many, same, c.requires.room)

pub tell_definitions-requires : goal.tell_definitions-requires
tell_definitions-requires c =
    let rs = c.args.effect.changes.removals in
    let ds = c.args.effect.changes.definitions in
    let t = c.args.generics.now.table in
    let all = length_of_three (map of_removal rs) (of_definitions ds t) (possible c.args.effect.methods.items) in
    let as_many = length-map rs of_removal in
    let same = ap length c.removals.ensures in
    let those = ap (λ l. length (of_definitions l t)) c.definitions.ensures in
    omega (arith, all, as_many, same, those, c.requires.room, c.tell_removals.ensures.room)

pub define_all-requires-clause-reserved : goal.define_all-requires-clause-reserved
define_all-requires-clause-reserved c = ap (λ t. t.definitions) c.take_out_all.ensures.table ∙ c.requires.reserved.definitions

pub define_all-requires-clause-fit : goal.define_all-requires-clause-fit
define_all-requires-clause-fit c =
    let table = ap (λ h. h.table) c.take_out_all.ensures.table ∙ ap (λ x. without_all x c.args.generics.now.table) c.removals-2.ensures in
    subst (λ (t : Table). DefinitionsFit c.args.effect.changes.definitions t) (sym table) c.requires.reserved.definitions_fit

pub add_all-requires-clause-fit : goal.add_all-requires-clause-fit
add_all-requires-clause-fit c =
    let ds = c.args.effect.changes.definitions in
    let table = c.define_all.ensures.table ∙ ap (with_definitions ds) (ap (λ h. h.table) c.take_out_all.ensures.table)
    ∙ ap (λ x. with_definitions ds (without_all x c.args.generics.now.table)) c.removals-2.ensures in
    subst (λ (t : Table). AdditionsFit c.args.effect.methods.items t) (sym table) c.requires.reserved.additions_fit

pub add_all-requires-clause-reserved : goal.add_all-requires-clause-reserved
add_all-requires-clause-reserved c =
    c.define_all.ensures.additions ∙ ap (λ t. t.additions) c.take_out_all.ensures.table ∙ c.requires.reserved.additions

pub add_all-requires-clause-room : goal.add_all-requires-clause-room
add_all-requires-clause-room c =
    let rs = c.args.effect.changes.removals in
    let ds = c.args.effect.changes.definitions in
    let t = c.args.generics.now.table in
    let all = length_of_three (map of_removal rs) (of_definitions ds t) (possible c.args.effect.methods.items) in
    let as_many = length-map rs of_removal in
    let same = ap length c.removals.ensures in
    let those = ap (λ l. length (of_definitions l t)) c.definitions.ensures in
    omega (arith, all, as_many, same, those, c.requires.room, c.tell_removals.ensures.room, c.tell_definitions.ensures.room)

pub returns-clause-table : goal.returns-clause-table
returns-clause-table c =
    let ds = c.args.effect.changes.definitions in
    let ms = c.args.effect.methods.items in
    c.add_all.ensures.table
    ∙ ap (with_methods ms) (c.define_all.ensures.table ∙ ap (with_definitions ds) (ap (λ t. t.table) c.take_out_all.ensures.table))
    ∙ ap (λ x. changed x ds ms c.args.generics.now.table) c.removals-2.ensures

pub returns-clause-told : goal.returns-clause-told
returns-clause-told c =
    let rs = c.args.effect.changes.removals in
    let ds = c.args.effect.changes.definitions in
    let ms = c.args.effect.methods.items in
    let t = c.args.generics.now.table in
    let old = c.args.notices.now.items in
    let first = c.tell_removals.ensures.told ∙ ap (λ x. old ++ map of_removal x) c.removals.ensures in
    let second = c.tell_definitions.ensures.told ∙ ap (λ x. c.tell_removals.new.notices.items ++ of_definitions x t) c.definitions.ensures
    ∙ ap (λ l. l ++ of_definitions ds t) first in
    let table = c.define_all.ensures.table ∙ ap (with_definitions ds) (ap (λ h. h.table) c.take_out_all.ensures.table)
    ∙ ap (λ x. with_definitions ds (without_all x t)) c.removals-2.ensures in
    c.add_all.ensures.told ∙ ap (λ x. c.tell_definitions.new.notices.items ++ of_additions ms x) table
    ∙ ap (λ l. l ++ of_additions ms (with_definitions ds (without_all rs t))) second
    ∙ in_order old (map of_removal rs) (of_definitions ds t) (of_additions ms (with_definitions ds (without_all rs t)))

pub returns-clause-left : goal.returns-clause-left
returns-clause-left c key =
    let rs = c.args.effect.changes.removals in
    let ds = c.args.effect.changes.definitions in
    let ms = c.args.effect.methods.items in
    let t = c.args.generics.now.table in
    let old = found c.args.cache.now key in
    let first = c.take_out_all.ensures.left key ∙ ap (λ x. left_after (of_removed x) key old) c.removals-2.ensures in
    let table = ap (λ h. h.table) c.take_out_all.ensures.table ∙ ap (λ x. without_all x t) c.removals-2.ensures in
    let second = c.define_all.ensures.left key
    ∙ ap (λ x. left_after (of_defined ds x) key (found c.take_out_all.new.cache key)) table
    ∙ ap (left_after (of_defined ds (without_all rs t)) key) first in
    c.add_all.ensures.left key ∙ ap (left_after (of_added ms) key) second
    ∙ left_of_three (of_removed rs) (of_defined ds (without_all rs t)) (of_added ms) key old

pub returns-clause-kept : goal.returns-clause-kept
returns-clause-kept c classes cs h =
    c.add_all.ensures.kept classes cs (c.define_all.ensures.kept classes cs (c.take_out_all.ensures.kept classes cs h))
