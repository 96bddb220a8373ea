use Rattle.std.proofs.Common.{ap, sym, ◌∙◌, Some}
use Rattle.std.specs.Prelude.{if◌then◌else◌}
use Rattle.clos_cache.specs.Cache.{found}
use Rattle.clos_cache.specs.Key.{same_key}
use Rattle.clos_cache.proofs.Finding.{there_at}
use Rattle.clos_cache.proofs.Keeping.{replaced}
use Rattle.clos_cache.proofs.cache.Cache.keep.Goals as goal

pub replace-requires : goal.replace-requires
replace-requires g c =
    there_at c.self.inside.index.entries c.self.inside.entries (same_key c.args.key) c.in-Some.place c.self.invariant.there
    (sym c.get.ensures.value ∙ sym c.copied.ensures ∙ c.in-Some.is)

pub returns-in-Some-clause-ok : goal.returns-in-Some-clause-ok
returns-in-Some-clause-ok g c = λ other.
    replaced c.self.inside.index.entries c.self.inside.entries c.replace.new.entries c.args.key c.in-Some.place
    (record { combination = c.args.combination; outcome = c.args.outcome }) c.self.invariant.there c.self.invariant.apart
    (sym c.get.ensures.value ∙ sym c.copied.ensures ∙ c.in-Some.is) c.replace.ensures.updates other
    ∙ ap (λ kept. if◌then◌else◌ (same_key c.args.key other)
    (Some (record { combination = c.args.combination; outcome = c.args.outcome.value })) (found kept other))
    c.self.view_is
