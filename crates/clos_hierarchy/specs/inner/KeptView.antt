-- What is kept of classes, by their numbers.
use Rattle.std.specs.Prelude.{ℕ, ◌==◌, List, [], slice_get, unwrap_or, if◌then◌else◌}
use Rattle.clos_precedence.specs.Precedence.{Supers}
use Rattle.clos_precedence.specs.PrecedenceView.{numbers}
use Rattle.clos_hierarchy.specs.declared.kept.Kept.{Kept}
use Rattle.clos_hierarchy.specs.declared.kept.Kept.TheVariants.{Lacking, Broken, Listed}
use Rattle.clos_hierarchy.specs.declared.kept.Above.{Above}
use Rattle.clos_hierarchy.specs.Classes.{Listing, lacking, broken, listed}

-- what is kept says this of a class
abbrev pub listing_of : Kept → Listing
listing_of Lacking = lacking
listing_of Broken = broken
listing_of (Listed line) = listed (numbers line.value.list.items)

abbrev pub kept_at : List Kept → ℕ → Kept
kept_at ks n = unwrap_or (slice_get ks n) Lacking

abbrev pub listing_at : List Kept → ℕ → Listing
listing_at ks n = listing_of (kept_at ks n)

abbrev pub kept_above : Kept → List ℕ
kept_above Lacking = []
kept_above Broken = []
kept_above (Listed line) = numbers line.value.superclasses.items

-- the direct superclasses that are kept of these classes, but for one, of which these are
abbrev pub above_by : List Kept → ℕ → List ℕ → Supers
above_by ks n xs k = if k == n then xs else kept_above (kept_at ks k)

abbrev pub above_in : Above → Supers
above_in a = above_by a.kept.now a.class.0 (numbers a.superclasses.now)
