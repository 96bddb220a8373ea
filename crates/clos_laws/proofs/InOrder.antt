-- In each state that a session comes to, calls find the methods in order.
use Rattle.std.proofs.Common.{◌≡◌, List, length, subst, sym}
use Rattle.lisp_data.specs.Name.{Name}
use Rattle.lisp_data.specs.ValueView.{value_of}
use Rattle.clos_generic.specs.Sound.{IsSound}
use Rattle.clos_generic.proofs.OfSystem.{initial_sound}
use Rattle.clos_session.specs.clos_machine.clos_meaning.Outcome.{End, Given, Signalled, ends_in}
use Rattle.clos_session.specs.clos_world.World.{State}
use Rattle.clos_session.specs.clos_world.declared.limits.Limits.{Limits}
use Rattle.clos_session.specs.declared.session.Reply.TheVariants.{Value, Condition, Storage}
use Rattle.clos_session.proofs.clos_machine.clos_meaning.clos_world.InOrder as in_order
use Rattle.clos_laws.specs.Laws.{CallsAreInOrder, RepliesReach}
use Rattle.clos_laws.specs.Reached.{IsReached, performs, state_in}
use Rattle.clos_session.proofs.clos_perform.WellRead.{well_read}
use Rattle.clos_session.proofs.clos_definition.WellMade.{class_sound, generic_sound, method_sound, removal_sound}
use Rattle.clos_session.specs.clos_perform.Read.{IsWellRead}
use Rattle.clos_session.specs.clos_world.Definitions.{Same}
use Rattle.clos_top.specs.declared.top.Top.{Top}
use Rattle.clos_laws.proofs.Sessions.{Stays, StaysWith, always, by_kind}

-- ---- the generic functions stay sound

abbrev HasSound : State → Type 0
HasSound w = IsSound w.generics

same_sound : (w u : State) → Same w u → HasSound w → HasSound u
same_sound w u h s = subst IsSound (sym h.1) s

sound_stays : Stays HasSound
sound_stays = record { same = same_sound; combination = λ d u h. h; change = λ c m n u h. h; removal = λ g m u own h. removal_sound g m u h }

stays_with : (top : Top) → IsWellRead top → StaysWith HasSound top
stays_with = by_kind HasSound IsWellRead
    (λ d h vs u none s. class_sound d (length vs) vs u s none) (λ d h vs u none s. generic_sound d vs u h s none)
    (λ name m h vs u none s. method_sound name m vs u h s none) (λ f h name u s. (s, s))

reached_sound : (limits : Limits) (names : List Name) (w : State) → IsReached limits names w → HasSound w
reached_sound limits names w r =
    always HasSound sound_stays (λ d top e. stays_with top (well_read d top e)) limits names (initial_sound limits.generics limits.methods) w r

-- ---- calls

pub calls_are_in_order : CallsAreInOrder
calls_are_in_order limits names w u r same = in_order.calls_are_in_order u (same_sound w u same (reached_sound limits names w r))

ended : (e : End) (u : State) → ends_in e u 0 → state_in e ≡ u
ended (Given v w s) u h = h.0
ended (Signalled c w s) u h = h.0

pub replies_reach : RepliesReach
replies_reach limits names w u host d s past past' (Value v) r h = performs w d s host h.1 (Given (value_of v) u h.0) r h.3
replies_reach limits names w u host d s past past' (Condition number items) r h =
    performs w d s host h.2 (Signalled (record { kind = h.0; items = items }) u h.1) r h.5
replies_reach limits names w u host d s past past' (Storage k) r h =
    let l = h.3 in subst (IsReached limits names) (ended l.0 u l.2) (performs w d k host h.0 l.0 r l.1)
