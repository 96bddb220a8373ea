use Rattle.std.proofs.Common.{◌≡◌, ◌-◌, ◌≤◌, drop, length}
use Rattle.clos_hierarchy.specs.Outlook.{listing_among, listing_then}
use Rattle.clos_hierarchy.proofs.preview.Preview.list.Given as goal

abbrev pub invariant-loop-place : goal.invariant-loop-place
invariant-loop-place l =
    (listing_among (drop l.place l.self.touched) (drop l.place l.self.listings) l.self.class ≡ listing_then l.self l.self.class) × (l.place ≤ length l.self-inside.touched.items)

abbrev pub decreases-loop-place : goal.decreases-loop-place
decreases-loop-place l = length l.self-inside.touched.items - l.place
