use Rattle.std.proofs.Common.{◌≤◌}
use Rattle.clos_template.specs.Template.{size_of_templates}
use Rattle.clos_template.specs.TemplateView.{templates_of}
use Rattle.clos_template.proofs.+template.Given as goal

-- what is left of the list is no larger than the list
abbrev pub invariant-template::Templates::drop-loop-link : goal.invariant-template::Templates::drop-loop-link
invariant-template::Templates::drop-loop-link l = size_of_templates (templates_of l.link) ≤ size_of_templates l.fn.self
