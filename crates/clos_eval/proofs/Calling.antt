-- How much less is left to do after a turn.
use Rattle.std.proofs.Common.{ℕ, ◌≤◌, List, Result, Ok, Err, arith}
use Rattle.clos_machine.specs.clos_world.declared.condition.Stop.{Stop}
use Rattle.clos_machine.specs.Machine.{Shrinks}
use Rattle.clos_machine.specs.declared.machine.Doing.{Doing}
use Rattle.clos_machine.specs.declared.machine.Level.{Level}
use Rattle.clos_machine.specs.declared.machine.Machine.{Machine}

-- what makes less by little makes less by more
pub shrinks_more : (n k s s' : ℕ) (old : List Level) (r : Result Doing Stop) (m : Machine) → n ≤ k → Shrinks n s s' old r m → Shrinks k s s' old r m
shrinks_more n k s s' old (Ok d) m l h = omega (arith, l, h)
shrinks_more n k s s' old (Err e) m l h = tt
