-- Forms that stand in no method.
use Rattle.std.specs.Prelude.{Option}
use Rattle.lisp_data.specs.Datum.{Dat}
use Rattle.clos_forms.specs.Form.{Form}
use Rattle.clos_forms.specs.Grammar.{form_of}
use Rattle.clos_forms.specs.declared.part.Context.TheVariants.{Plain}

-- an expression in which call-next-method and next-method-p may not stand (7.6.6.2)
abbrev pub form_in : Dat → Option Form
form_in d = form_of Plain d
