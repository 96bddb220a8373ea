-- Specializers that are designated, one after another.
use Rattle.std.proofs.Common.{◌≡◌, List, [], ◌∷◌, ◌++◌, Option, Some, None, Result, Ok, Err, refl, ap, sym, ◌∙◌, append_assoc}
use Rattle.std.specs.Prelude.{option_map}
use Rattle.lisp_data.specs.Print.{Specializer}
use Rattle.lisp_data.specs.Value.{Val}
use Rattle.clos_machine.specs.clos_world.World.{State}
use Rattle.clos_machine.specs.clos_world.declared.condition.Condition.{Condition}
use Rattle.clos_machine.specs.clos_world.declared.condition.Stop.{Stop}
use Rattle.clos_machine.specs.clos_world.declared.condition.Stop.TheVariants.{Refused, Storage}
use Rattle.clos_machine.specs.clos_meaning.ClassFunctions.{Tells, comes_to}
use Rattle.clos_machine.specs.clos_meaning.FindMethod.{Designator, and_more, followed_by, method_answer}
use Rattle.clos_machine.specs.Machine.{Leads, at, inside, resume}
use Rattle.clos_machine.specs.clos_meaning.Meaning.{closed}
use Rattle.clos_machine.specs.declared.machine.Machine.{Machine}
use Rattle.clos_machine.proofs.Turns.{stopped_through}

-- these specializers before others
abbrev pub after_those : List Specializer → Result (List Specializer) Condition → Result (List Specializer) Condition
after_those ss (Ok more) = Ok (ss ++ more)
after_those ss (Err c) = Err c

pub one_specialized : (ss : List Specializer) (s : Specializer) (x : Result (List Specializer) Condition)
    → after_those (ss ++ s ∷ []) x ≡ after_those ss (followed_by (Ok s) x)
one_specialized ss s (Ok more) = ap Ok (append_assoc ss (s ∷ []) more)
one_specialized ss s (Err c) = refl

pub one_designated : (ds : List Designator) (d : Designator) (o : Option (List Designator))
    → option_map (λ more. (ds ++ d ∷ []) ++ more) o ≡ option_map (λ more. ds ++ more) (and_more (Some d) o)
one_designated ds d None = refl
one_designated ds d (Some more) = ap Some (append_assoc ds (d ∷ []) more)

pub found_stops : (m n : Machine) (vs us : List Val) (stop : Stop) (w : State) → us ≡ vs
    → Tells (method_answer w.classes w.generics us) (Err stop) → Leads (inside m (λ u. comes_to (method_answer u.classes u.generics vs) u)) w (Err stop) n
found_stops m n vs us Storage w e h = tt
found_stops m n vs us (Refused c) w e h = λ t.
    ap (λ x. closed (resume m.levels m.context (comes_to x (at m w) t))) (ap (method_answer w.classes w.generics) (sym e) ∙ h)
    ∙ stopped_through m.levels m.context c (at m w) t
