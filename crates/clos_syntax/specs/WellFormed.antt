-- What holds of the forms of each definition that is read: they are well formed, and those of a method's body alone may call
-- its next method.
use Rattle.std.specs.Prelude.{◌≡◌, true, All, Option, IfSome, ⊤}
use Rattle.clos_forms.specs.Form.{Form}
use Rattle.clos_forms.specs.WellFormed.{is_well_formed, are_well_formed}
use Rattle.clos_forms.specs.declared.part.Context.TheVariants.{Plain, Method}
use Rattle.clos_lambda.specs.declared.lambda_list.Key.{Key}
use Rattle.clos_lambda.specs.declared.lambda_list.Keys.{Keys}
use Rattle.clos_lambda.specs.declared.lambda_list.LambdaList.{LambdaList}
use Rattle.clos_lambda.specs.declared.lambda_list.Optional.{Optional}
use Rattle.clos_defclass.specs.declared.class.ClassDefinition.{ClassDefinition}
use Rattle.clos_defclass.specs.declared.class.DefaultInitarg.{DefaultInitarg}
use Rattle.clos_syntax.specs.declared.function.FunctionDefinition.{FunctionDefinition}
use Rattle.clos_syntax.specs.declared.generic.GenericDefinition.{GenericDefinition}
use Rattle.clos_syntax.specs.declared.method.MethodDefinition.{MethodDefinition}
use Rattle.clos_syntax.specs.declared.method.ParameterSpecializer.{ParameterSpecializer}
use Rattle.clos_syntax.specs.declared.method.ParameterSpecializer.TheVariants.{Class, Eql}
use Rattle.clos_defclass.specs.declared.slot.SlotSpecifier.{SlotSpecifier}
use Rattle.clos_syntax.specs.declared.variable.VariableDefinition.{VariableDefinition}

-- a form outside of any method's body
abbrev pub IsPlain : Form → Type 0
IsPlain f = is_well_formed Plain f ≡ true

-- an init form, where there is one
abbrev pub HasInit : Option Form → Type 0
HasInit o = IfSome o IsPlain

abbrev pub OfOptional : Optional → Type 0
OfOptional o = HasInit o.init

abbrev pub OfKey : Key → Type 0
OfKey k = OfOptional k.variable

abbrev pub OfKeys : Keys → Type 0
OfKeys ks = All OfKey ks.entries

abbrev pub OfLambdaList : LambdaList → Type 0
OfLambdaList l = All OfOptional l.optional × IfSome l.keys OfKeys

abbrev pub OfSlot : SlotSpecifier → Type 0
OfSlot s = HasInit s.initform

abbrev pub OfDefault : DefaultInitarg → Type 0
OfDefault d = IsPlain d.form

abbrev pub OfClass : ClassDefinition → Type 0
OfClass c = All OfSlot c.slots × All OfDefault c.defaults

abbrev pub OfSpecializer : ParameterSpecializer → Type 0
OfSpecializer (Class n) = ⊤
OfSpecializer (Eql f) = IsPlain f

abbrev pub OfMethod : MethodDefinition → Type 0
OfMethod m = OfLambdaList m.lambda_list × All OfSpecializer m.specializers × (are_well_formed Method m.body ≡ true)

abbrev pub OfGeneric : GenericDefinition → Type 0
OfGeneric g = OfLambdaList g.lambda_list × All OfMethod g.methods

abbrev pub OfFunction : FunctionDefinition → Type 0
OfFunction f = OfLambdaList f.lambda_list × (are_well_formed Plain f.body ≡ true)

abbrev pub OfVariable : VariableDefinition → Type 0
OfVariable v = HasInit v.form
