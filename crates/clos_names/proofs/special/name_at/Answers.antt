use Rattle.std.proofs.Common.{◌∙◌, ap, sym, option_map, Some}
use Rattle.std.proofs.lemmas.Option.{slice_get-get_or}
use Rattle.clos_names.proofs.Lists.{name_at}
use Rattle.clos_names.proofs.special.name_at.Goals as goal

pub returns-in-Some : goal.returns-in-Some
returns-in-Some c =
    let l = c.in-Some.ensures.lookup in
    ap (λ e. Some e.0.now) l.1
    ∙ ap (option_map (λ e. e.0.now)) (sym (slice_get-get_or c.args.table.now c.args.place c.in-Some.entry.now l.3.0))
    ∙ name_at c.args.table.now c.args.place
