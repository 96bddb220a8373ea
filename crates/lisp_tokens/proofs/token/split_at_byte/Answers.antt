use Rattle.std.proofs.Common.{◌≡◌, ℕ, ◌+◌, ◌∙◌, ap, drop, length, min, arith}
use Rattle.std.proofs.lemmas.List.{take_rest, drop_min}
use Rattle.lisp_tokens.proofs.token.split_at_byte.Goals as goal

pub returns-clause-after : goal.returns-clause-after
returns-clause-after c =
    let text = c.args.text.now in
    let n = c.len_before-before.result + 1 in
    let end : c.min-after.result ≡ min n (length text) = omega arith in
    take_rest text c.min-after.result
    ∙ (ap (λ (k : ℕ). drop k text) end ∙ (drop_min n text ∙ ap (λ (k : ℕ). drop (k + 1) text) c.len_before-before.ensures.value))
