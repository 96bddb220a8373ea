use Rattle.std.proofs.Common.{rules, ap, ◌∙◌}
use Rattle.slab.specs.Slab.{get, slab_len}
use Rattle.clos_cache.specs.CacheView.{kept_in}
use Rattle.clos_cache.proofs.Keeping.{inserted, inserted_fits, same_kept}
use Rattle.clos_cache.proofs.cache.insert.Goals as goal

pub returns-in_err-reserve-2-clause-err : goal.returns-in_err-reserve-2-clause-err
returns-in_err-reserve-2-clause-err g c =
    let same = ap (λ es. kept_in es c.reserve-2.new.self) c.reserve.ensures.entries
    ∙ same_kept c.args.index.now.entries c.args.entries.now c.reserve-2.new.self
    (λ p. ap (λ s. get s p) c.reserve-2.ensures.rest_kept) in
    search (rules, same)

pub returns-clause-fits : goal.returns-clause-fits
returns-clause-fits g c =
    inserted_fits c.args.index.now.entries c.reserve.new.self.entries c.add_key.new.index.entries c.args.entries.now
    c.reserve-2.new.self
    c.insert_reserved-place.new.self c.args.key c.insert_reserved-place.result c.args.entry c.requires.fits.there
    c.requires.fits.apart c.requires.new
    c.reserve.ensures.entries (λ p. ap (λ s. get s p) c.reserve-2.ensures.rest_kept) c.insert_reserved-place.ensures.was_vacant
    c.insert_reserved-place.ensures.updates c.add_key.ensures.entries c.add_key.ensures.found
    (ap slab_len c.reserve-2.ensures.rest_kept) c.insert_reserved-place.ensures.len c.requires.fits.as_many

pub returns-clause-ok : goal.returns-clause-ok
returns-clause-ok g c =
    inserted c.args.index.now.entries c.reserve.new.self.entries c.add_key.new.index.entries c.args.entries.now c.reserve-2.new.self
    c.insert_reserved-place.new.self c.args.key c.insert_reserved-place.result c.args.entry c.requires.fits.there
    c.requires.fits.apart c.requires.new
    c.reserve.ensures.entries (λ p. ap (λ s. get s p) c.reserve-2.ensures.rest_kept) c.insert_reserved-place.ensures.was_vacant
    c.insert_reserved-place.ensures.updates c.add_key.ensures.entries c.add_key.ensures.found
