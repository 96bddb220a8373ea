use Rattle.std.proofs.Common.{sym, ◌∙◌}
use Rattle.clos_cache.proofs.change.is_concerned_at.Goals as goal

pub returns-in-Some-get-clause-found : goal.returns-in-Some-get-clause-found
returns-in-Some-get-clause-found g c = λ h. record {
  key = c.in-Some.key.now;
  place = c.in-Some.place.now;
  entry = c.in-Some-get.entry.now;
  there = sym c.in-Some.ensures.entry;
  first = c.in-Some.ensures.value;
  holds = sym c.in-Some-get.ensures;
  concerned = sym c.concerns.ensures ∙ h;
}
