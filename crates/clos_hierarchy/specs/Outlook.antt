-- What there would be to say of the classes, if one were defined.
use Rattle.std.specs.Prelude.{ℕ, ◌==◌, List, [], ◌∷◌, if◌then◌else◌}
use Rattle.clos_hierarchy.specs.Classes.{Listing, lacking}

pub record Outlook : Type 0 where
  pub class : ℕ  -- the class that would be defined
  pub touched : List ℕ  -- the classes that are touched, it among them: the lists of all others stay, and do not have it
  pub listings : List Listing  -- of each of these what there would be to say

-- what there would be to say of a class that is touched
abbrev pub listing_among : List ℕ → List Listing → ℕ → Listing
listing_among [] ls n = lacking
listing_among (p ∷ ps) [] n = lacking
listing_among (p ∷ ps) (l ∷ ls) n = if p == n then l else listing_among ps ls n

abbrev pub listing_then : Outlook → ℕ → Listing
listing_then o n = listing_among o.touched o.listings n
