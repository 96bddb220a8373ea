use Rattle.std.proofs.Common.{◌∙◌, sym, subst}
use Rattle.std.specs.Str.{IsAscii}
use Rattle.std.specs.List.{position_or_len}
use Rattle.std.proofs.lemmas.Str.{IsAscii-take, IsUtf8-from_ascii}
use Rattle.lisp_tokens.specs.Token.{is_point}
use Rattle.lisp_tokens.proofs.OnTokens.{SomeIff-parsed}
use Rattle.lisp_tokens.proofs.token.integer.Goals as goal

pub unreachable-requires : goal.unreachable-requires
unreachable-requires c =
    let run = c.args.run.now in
    let front = IsAscii-take run (position_or_len is_point run) c.requires.ascii in
    let signed : IsAscii c.split_at_byte.result.0.now = subst IsAscii (sym c.split_at_byte.ensures.before) front in
    c.in-Err.ensures.cases.0 (IsUtf8-from_ascii c.split_at_byte.result.0.now signed)

pub returns : goal.returns
returns c =
    SomeIff-parsed c.args.run.now c.in-Ok.text.now c.parse.result c.ok.result (c.in-Ok.ensures.cases.0 ∙ c.split_at_byte.ensures.before) c.requires.digits c.parse.ensures.value.0 c.ok.ensures.value
