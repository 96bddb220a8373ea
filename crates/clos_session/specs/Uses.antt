-- What is kept of calls, and how many effective methods were worked out, after a form.
use Rattle.std.specs.Prelude.{◌≡◌, ℕ, ℤ, false, List, ◌++◌}
use Rattle.clos_perform.specs.clos_machine.Uses.{MadeSome}
use Rattle.clos_perform.specs.clos_machine.clos_meaning.Host.{Host}
use Rattle.clos_perform.specs.clos_machine.clos_meaning.Outcome.{Run}
use Rattle.clos_perform.specs.clos_machine.clos_meaning.Uses.{after_notes, notes_by}
use Rattle.clos_perform.specs.clos_world.Uses.{uses_of}
use Rattle.clos_perform.specs.clos_world.World.{State}
use Rattle.clos_perform.specs.clos_world.clos_cache.Uses.{Uses}
use Rattle.clos_session.specs.declared.session.Session.{Session}
use Rattle.clos_session.specs.declared.session.Reply.{Reply}
use Rattle.clos_session.specs.declared.session.Reply.TheVariants.{Value, Condition, Storage}

-- what is kept in a session, and how many were worked out in it
abbrev pub session_uses : {N D : Type 0} → Session N D → Uses
session_uses s = uses_of s.world

-- nothing is kept, and none was worked out
abbrev pub none_kept : Uses
none_kept = record { kept = λ key. false; built = 0 }

-- The uses that the run notes were made, with the answers that came: what was not kept was worked out, and is; what an effect concerns is kept
-- no more. Where memory was refused, some first ones of those were made that the run notes within as many steps as are told, and one more may
-- have been worked out.
abbrev pub MakesUses : Host → Run → ℕ → State → List ℤ → Uses → Reply → List ℤ → Uses → Type 0
MakesUses host run s w past u (Value v) past' u' =
    (used : List ℤ) × (past' ≡ past ++ used) × (u' ≡ after_notes (notes_by host (run w s) used) u)
MakesUses host run s w past u (Condition number items) past' u' =
    (used : List ℤ) × (past' ≡ past ++ used) × (u' ≡ after_notes (notes_by host (run w s) used) u)
MakesUses host run s w past u (Storage k) past' u' = (used : List ℤ) × (past' ≡ past ++ used) × MadeSome (notes_by host (run w k) used) u u'
