-- Answers of functions of classes.
use Rattle.std.proofs.Common.{◌≡◌, List, Err, ap, sym, ◌∙◌}
use Rattle.lisp_data.specs.Value.{Val}
use Rattle.clos_machine.specs.clos_world.World.{State, class_of}
use Rattle.clos_machine.specs.clos_world.declared.condition.Stop.{Stop}
use Rattle.clos_machine.specs.clos_world.declared.condition.Stop.TheVariants.{Refused, Storage}
use Rattle.clos_machine.specs.clos_meaning.ClassFunctions.{Tells, class_answer, comes_to}
use Rattle.clos_machine.specs.Machine.{Leads, at, inside, resume}
use Rattle.clos_machine.specs.clos_meaning.Meaning.{closed}
use Rattle.clos_forms.specs.clos_names.declared.callee.ClassFunction.{ClassFunction}
use Rattle.clos_machine.specs.declared.machine.Machine.{Machine}
use Rattle.clos_machine.proofs.Turns.{stopped_through}

pub told_stops : (m m' : Machine) (f : ClassFunction) (vs us : List Val) (stop : Stop) (w : State) → us ≡ vs
    → Tells (class_answer f w.classes (class_of w) us) (Err stop) → Leads (inside m (λ u. comes_to (class_answer f u.classes (class_of u) vs) u)) w (Err stop) m'
told_stops m m' f vs us Storage w e h = tt
told_stops m m' f vs us (Refused c) w e h = λ t.
    ap (λ x. closed (resume m.levels m.context (comes_to x (at m w) t))) (ap (class_answer f w.classes (class_of w)) (sym e) ∙ h)
    ∙ stopped_through m.levels m.context c (at m w) t
