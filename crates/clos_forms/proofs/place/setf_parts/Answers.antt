use Rattle.std.proofs.Common.{◌≡◌, List, ◌∷◌, Option, Some, None, map, refl, ap, sym, ◌∙◌}
use Rattle.lisp_data.specs.Datum.{cons}
use Rattle.lisp_data.specs.DatumView.{datum_of}
use Rattle.clos_forms.specs.Fault.{◌>>=◌}
use Rattle.clos_forms.specs.Part.{Part, in_role}
use Rattle.clos_forms.specs.PartView.{part_of}
use Rattle.clos_forms.specs.Place.{setf_parts}
use Rattle.clos_forms.specs.declared.part.Role.TheVariants.{Expression, Place}
use Rattle.clos_forms.proofs.Parts.{after, after_two, refused, ended}
use Rattle.clos_forms.proofs.place.setf_parts.Goals as goal

both : (o : Option (List Part)) (p q : Part) → (o >>= (λ ys. Some (q ∷ ys)) >>= λ ys. Some (p ∷ ys)) ≡ (o >>= λ ys. Some (p ∷ (q ∷ ys)))
both (Some xs) p q = refl
both None p q = refl

pub returns-in-None : goal.returns-in-None
returns-in-None c =
    refused (map part_of c.loop-place.parts.items) (setf_parts c.loop-place.rest.now) (setf_parts c.args.elements.now) c.loop-place.invariant
    (ap setf_parts c.in-Some.ensures ∙ ap (λ l. setf_parts (cons (datum_of c.in-Some.place.now) l)) c.in-None.ensures)

pub loop-place-preserved : goal.loop-place-preserved
loop-place-preserved c =
    let rest = setf_parts c.in-Some-split_first.others.now in
    let value = in_role Expression (datum_of c.in-Some-split_first.value.now) in
    let place = in_role Place (datum_of c.in-Some.place.now) in
    let before = map part_of c.loop-place.parts.items in
    ap (λ xs. after xs rest) c.in_ok-push_part-in-Some-split_first-2.ensures
    ∙ after_two (map part_of c.push_part.new.parts.items) value rest
    ∙ ap (λ xs. after xs (rest >>= λ ys. Some (value ∷ ys))) c.in_ok-push_part-in-Some-split_first.ensures
    ∙ after_two before place (rest >>= λ ys. Some (value ∷ ys))
    ∙ ap (after before) (both rest place value)
    ∙ ap (λ l. after before (setf_parts (cons (datum_of c.in-Some.place.now) l))) (sym c.in-Some-split_first.ensures)
    ∙ ap (λ l. after before (setf_parts l)) (sym c.in-Some.ensures)
    ∙ c.loop-place.invariant

pub returns : goal.returns
returns c =
    ended (map part_of c.loop-place.parts.items) (setf_parts c.loop-place.rest.now) (setf_parts c.args.elements.now) c.loop-place.invariant
    (ap setf_parts c.in_default.ensures)
