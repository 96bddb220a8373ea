use Rattle.std.proofs.Common.{◌++◌, ◌∷◌, [], codes, ap, ◌∙◌}
use Rattle.std.specs.Fmt.{decimal}
use Rattle.clos_transcript.specs.Told.{fresh_line}
use Rattle.clos_transcript.proofs.Lines.{storage_told}
use Rattle.clos_transcript.proofs.told.tell_storage.Goals as goal

pub returns : goal.returns
returns c = λ out h.
    ap (λ l. out ++ l) c.in_ok-extend_from_slice-3.ensures.items
    ∙ ap (λ l. out ++ (l ++ 41 ∷ 10 ∷ [])) (c.in_ok-extend_from_slice-2.ensures.items ∙ ap (λ l. c.extend_from_slice.new.self.items ++ l) (c.as_bytes.ensures.value ∙ c.format.ensures.text))
    ∙ ap (λ l. out ++ ((l ++ decimal c.args.taken) ++ 41 ∷ 10 ∷ [])) c.in_ok-extend_from_slice.ensures.items
    ∙ storage_told out c.end_line.new.piece.items (codes "; 0 (STORAGE ") (decimal c.args.taken) (41 ∷ 10 ∷ [])
    (fresh_line (out ++ c.args.piece.items)) (c.in_ok-end_line.ensures out h)
