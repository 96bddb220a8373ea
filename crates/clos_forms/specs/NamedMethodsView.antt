-- The methods that the code's named methods stand for.
use Rattle.lisp_data.specs.DatumView.{datum_of}
use Rattle.clos_forms.specs.NamedMethods as of
use Rattle.clos_forms.specs.declared.named_methods.NamedMethod.{NamedMethod}
use Rattle.clos_forms.specs.declared.named_methods.NamedMethod.TheVariants.{Numbered, MadeOf}

-- the number in the id of a method, or the datum to which the code refers
abbrev pub named_of : NamedMethod → of.NamedMethod
named_of (Numbered id) = of.numbered id.0
named_of (MadeOf datum) = of.made_of (datum_of datum.now)
