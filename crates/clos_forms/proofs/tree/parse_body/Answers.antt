use Rattle.std.proofs.Common.{rules}
use Rattle.clos_forms.specs.Body.{body_of}
use Rattle.clos_forms.specs.Fault.{Gives}
use Rattle.clos_forms.specs.Grammar.{body_forms_of, full_room}
use Rattle.clos_forms.proofs.WellFormed.{parsed_forms}
use Rattle.clos_forms.proofs.tree.parse_body.Goals as goal

pub returns-clause-well_formed : goal.returns-clause-well_formed
returns-clause-well_formed c =
    let h : Gives (λ fs. fs) c.trees_at.result (body_forms_of c.args.context c.args.forms.now) = search rules in
    parsed_forms full_room c.args.context (body_of c.args.forms.now) c.trees_at.result h
