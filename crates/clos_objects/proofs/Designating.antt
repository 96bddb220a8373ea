-- What the name NIL designates where a class is asked for.
use Rattle.std.proofs.Common.{◌≡◌, Result, sym, subst}
use Rattle.lisp_data.specs.Name.{Name}
use Rattle.lisp_data.specs.Value.{Vals, nil, list}
use Rattle.lisp_data.specs.declared.ids.ClassId.{ClassId}
use Rattle.clos_machine.specs.clos_world.Class.{named}
use Rattle.clos_machine.specs.clos_world.Condition.{nil_name}
use Rattle.clos_machine.specs.clos_world.World.{State}
use Rattle.clos_machine.specs.clos_world.declared.condition.Stop.{Stop}
use Rattle.clos_machine.specs.Machine.{Designates}
use Rattle.clos_machine.specs.clos_meaning.Objects.{class_found, designated}

pub nil_designates : (w : State) (l : Vals) (n : Name) (r : Result ClassId Stop) → l ≡ nil → n ≡ nil_name → Designates (class_found w.classes n (named w.classes n)) r
    → Designates (designated w.classes (list l)) r
nil_designates w l n r e k h =
    subst (λ x. Designates (designated w.classes (list x)) r) (sym e) (subst (λ x. Designates (class_found w.classes x (named w.classes x)) r) k h)
