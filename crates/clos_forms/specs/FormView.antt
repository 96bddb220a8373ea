-- The form that a node stands for, and the list that a link does.
use Rattle.clos_forms.specs.Form.{Form, form, Forms, nil, cons}
use Rattle.clos_forms.specs.OperatorView.{operator_of}
use Rattle.clos_forms.specs.declared.form.Node.{Node}
use Rattle.clos_forms.specs.declared.form.Link.{Link}
use Rattle.clos_forms.specs.declared.form.Link.TheVariants.{End, More}

-- the operator that the code's stands for; the parts are seen as forms already
abbrev pub form_of : Node → Form
form_of node = form (operator_of node.operator) node.parts

-- no forms at the end; else the first and the others, which are seen as forms already
abbrev pub forms_of : Link → Forms
forms_of End = nil
forms_of (More pair) = cons pair.value.head pair.value.tail
