-- The forms that a state keeps: those of functions, methods and classes (HyperSpec 3.1.2.1).
use Rattle.std.specs.Prelude.{◌≡◌, ⊤, true}
use Rattle.clos_forms.specs.Form.{Forms}
use Rattle.clos_forms.specs.WellFormed.{are_well_formed}
use Rattle.clos_forms.specs.declared.part.Context.{Context}
use Rattle.clos_forms.specs.declared.part.Context.TheVariants.{Method as InMethod, Plain}
use Rattle.clos_generic.specs.Sound.{Each}
use Rattle.clos_meaning.specs.clos_world.World.{State}
use Rattle.clos_meaning.specs.clos_world.clos_class.declared.direct.ClassSlots.{ClassSlots}
use Rattle.clos_meaning.specs.clos_world.clos_lambda.declared.lambda_list.LambdaList.{LambdaList}
use Rattle.clos_meaning.specs.clos_world.declared.functions.Function.{Function}
use Rattle.clos_method.specs.declared.method.MethodBody.{MethodBody}
use Rattle.clos_method.specs.declared.method.MethodBody.TheVariants.{Forms as Body, Reader, Writer, System}
use Rattle.clos_syntax.specs.WellFormed.{HasInit, OfDefault, OfLambdaList}

-- the init forms of a lambda list, and the forms of the body
abbrev pub OfBody : Context → LambdaList → Forms → Type 0
OfBody context l fs = OfLambdaList l × (are_well_formed context fs ≡ true)

-- of a function, which is no method
abbrev pub OfFunction : Function → Type 0
OfFunction f = OfBody Plain f.lambda_list f.body

-- the body of a method alone may call the next method
abbrev pub OfMethodBody : MethodBody → Type 0
OfMethodBody (Body l fs) = OfBody InMethod l fs
OfMethodBody (Reader slot) = ⊤
OfMethodBody (Writer slot) = ⊤
OfMethodBody (System f) = ⊤

-- the initforms of slots, and the forms of default initargs
abbrev pub OfClass : ClassSlots → Type 0
OfClass c = Each (λ s. HasInit s.initform) c.slots × Each OfDefault c.defaults

-- all forms of a state
abbrev pub AreWellFormed : State → Type 0
AreWellFormed w =
    Each (λ p. OfFunction p.1) w.functions × Each (λ p. OfFunction p.1) w.setters × Each (λ m. OfMethodBody m.body) w.generics.methods
    × Each OfClass w.classes.slots
