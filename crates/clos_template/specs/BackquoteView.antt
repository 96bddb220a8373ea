-- The elements of backquoted lists that the code's stand for.
use Rattle.clos_template.specs.Backquote as of
use Rattle.clos_template.specs.PartView.{part_of}
use Rattle.clos_template.specs.declared.backquote.Element.{Element}

-- the same flag, with the part that the code's stands for
abbrev pub element_of : Element → of.Element
element_of e = record { spliced = e.spliced; part = part_of e.part }
