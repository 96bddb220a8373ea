use Rattle.std.proofs.Common.{rules}
use Rattle.clos_forms.specs.Fault.{Gives}
use Rattle.clos_forms.specs.Grammar.{forms_of, full_room}
use Rattle.clos_forms.proofs.WellFormed.{parsed_forms}
use Rattle.clos_forms.proofs.tree.parse_forms.Goals as goal

pub returns-clause-well_formed : goal.returns-clause-well_formed
returns-clause-well_formed c =
    let h : Gives (λ fs. fs) c.trees_at.result (forms_of c.args.context c.args.elements.now) = search rules in
    parsed_forms full_room c.args.context c.args.elements.now c.trees_at.result h
