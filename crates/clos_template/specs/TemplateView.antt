-- The template that a node stands for, and the list that a link does.
use Rattle.clos_template.specs.Template.{Template, template, Templates, nil, cons}
use Rattle.clos_template.specs.OperatorView.{operator_of}
use Rattle.clos_template.specs.declared.template.Node.{Node}
use Rattle.clos_template.specs.declared.template.Link.{Link}
use Rattle.clos_template.specs.declared.template.Link.TheVariants.{End, More}

-- the operator that the code's stands for; the parts are seen as templates already
abbrev pub template_of : Node → Template
template_of node = template (operator_of node.operator) node.parts

-- no templates at the end; else the first and the others, which are seen as templates already
abbrev pub templates_of : Link → Templates
templates_of End = nil
templates_of (More pair) = cons pair.value.head pair.value.tail
