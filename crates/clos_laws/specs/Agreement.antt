-- Sessions in one state reply the same, whatever they keep of calls (HyperSpec 7.6.6).
use Rattle.std.specs.Prelude.{◌≡◌, ⊤, ℕ, ℤ, List}
use Rattle.lisp_data.specs.Datum.{Dat}
use Rattle.lisp_data.specs.ValueView.{value_of}
use Rattle.clos_session.specs.Session.{Replies}
use Rattle.clos_session.specs.clos_perform.Step.{step}
use Rattle.clos_session.specs.clos_machine.clos_meaning.Host.{Host}
use Rattle.clos_session.specs.clos_world.World.{State}
use Rattle.clos_session.specs.declared.session.Reply.{Reply}
use Rattle.clos_session.specs.declared.session.Reply.TheVariants.{Value, Condition, Storage}

-- They are the same value or the same condition, in the same state; where memory was refused to both after as many steps, the states
-- are the same. To one alone it may be refused.
abbrev pub Agree : Reply → State → Reply → State → Type 0
Agree (Value v) w (Value x) u = (value_of v ≡ value_of x) × (w ≡ u)
Agree (Value v) w (Condition n xs) u = ⊥
Agree (Value v) w (Storage k) u = ⊤
Agree (Condition n xs) w (Value v) u = ⊥
Agree (Condition n xs) w (Condition m ys) u = (n ≡ m) × (xs ≡ ys) × (w ≡ u)
Agree (Condition n xs) w (Storage k) u = ⊤
Agree (Storage k) w (Value v) u = ⊤
Agree (Storage k) w (Condition n xs) u = ⊤
Agree (Storage k) w (Storage j) u = k ≡ j → w ≡ u

-- Two sessions in one state reply so to one form within as many steps, where the host's functions answer the same, and what they keep
-- of calls is no matter: each may keep what it will.
abbrev pub RepliesAgree : Type 0
RepliesAgree = (host : Host) (d : Dat) (s : ℕ) (w u t : State) (past after : List ℤ) (r q : Reply) → Replies host (step d) s w past r u after
    → Replies host (step d) s w past q t after → Agree r u q t
