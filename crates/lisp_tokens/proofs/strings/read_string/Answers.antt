use Rattle.std.proofs.Common.{◌∙◌, sym, subst, ap, take}
use Rattle.std.specs.Str.{IsValidUpTo}
use Rattle.std.proofs.lemmas.Result.{err_from_is_err_and}
use Rattle.lisp_tokens.specs.Strings.{characters}
use Rattle.lisp_tokens.proofs.OnStrings.{Reads-string, Fails-in_string, Fails-no_quote, Takes-string}
use Rattle.lisp_tokens.proofs.strings.read_string.Goals as goal

pub returns-in-Err : goal.returns-in-Err
returns-in-Err c = λ room.
    let text = c.split_at.result.1.now in
    let len = c.body_len-len.result in
    let valid : IsValidUpTo (take len text) c.valid_up_to.result = subst (IsValidUpTo (take len text)) (sym c.valid_up_to.ensures) c.in-Err.ensures.cases.1 in
    Fails-in_string c.args.bytes.now room c.args.at len c.valid_up_to.result text c.requires.within c.requires.begins c.split_at.ensures.back c.body_len-len.ensures.value c.body_len-len.ensures.within valid

pub returns-then-len-rest : goal.returns-then-len-rest
returns-then-len-rest c = λ room.
    Fails-no_quote c.args.bytes.now room c.args.at c.body_len-len.result c.split_at.result.1.now c.requires.within c.requires.begins c.split_at.ensures.back c.body_len-len.ensures.value c.if-len-rest.true c.in-Ok.ensures.cases.1

pub returns-in_ok-text-in-Ok : goal.returns-in_ok-text-in-Ok
returns-in_ok-text-in-Ok c = λ room.
    let holds = c.in_ok-text-in-Ok.ensures ∙ (c.in_ok-unescaped-in-Ok.ensures ∙ ap characters c.in-Ok.ensures.cases.0) in
    Reads-string c.args.bytes.now room c.args.at c.body_len-len.result c.split_at.result.1.now _ c.requires.within c.requires.begins c.split_at.ensures.back c.body_len-len.ensures.value c.body_len-len.ensures.within c.if-len-rest.false c.in-Ok.ensures.cases.1 holds

-- memory runs out only at a whole string

pub returns-in_err-unescaped-in-Ok : goal.returns-in_err-unescaped-in-Ok
returns-in_err-unescaped-in-Ok c =
    let p = err_from_is_err_and c.from_residual.result c.from_residual.ensures.1 in
    rw (p.1, p.2) (λ room. Takes-string c.args.bytes.now room c.args.at c.body_len-len.result c.split_at.result.1.now c.requires.within c.requires.begins c.split_at.ensures.back c.body_len-len.ensures.value c.body_len-len.ensures.within c.if-len-rest.false c.in-Ok.ensures.cases.1)

pub returns-in_err-text-in-Ok : goal.returns-in_err-text-in-Ok
returns-in_err-text-in-Ok c =
    let p = err_from_is_err_and c.from_residual-in_err-text-in-Ok.result c.from_residual-in_err-text-in-Ok.ensures.1 in
    rw (p.1, p.2) (λ room. Takes-string c.args.bytes.now room c.args.at c.body_len-len.result c.split_at.result.1.now c.requires.within c.requires.begins c.split_at.ensures.back c.body_len-len.ensures.value c.body_len-len.ensures.within c.if-len-rest.false c.in-Ok.ensures.cases.1)
