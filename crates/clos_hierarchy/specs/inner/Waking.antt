-- One class after another is woken.
use Rattle.std.specs.Prelude.{◌≡◌, ◌<◌, ℕ, true, false, List, length}
use Rattle.clos_precedence.specs.Precedence.{has}
use Rattle.clos_precedence.specs.OrderView.{with_all_seen}
use Rattle.clos_hierarchy.specs.Classes.{Classes, Listing, is_lacking}
use Rattle.clos_hierarchy.specs.inner.Woken.{is_ready}

-- Some more are among the woken ones, of which nothing is said. Of these classes, but for those that are left, no other was ready
-- by those that were woken before.
pub record Wakes (cs : Classes) (of : ℕ → Listing) (all left old now : List ℕ) : Type 0 where
  pub met : List ℕ
  pub is : now ≡ with_all_seen old met
  pub waited : (n : ℕ) → has met n ≡ true → (n < length cs.names) × (is_lacking (of n) ≡ true)
  pub asleep : (n : ℕ) → has all n ≡ true → has left n ≡ false → is_lacking (of n) ≡ true → has now n ≡ false → is_ready cs of old n ≡ false
