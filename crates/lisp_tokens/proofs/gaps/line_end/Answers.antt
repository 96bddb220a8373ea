use Rattle.lisp_tokens.proofs.OnGaps.{GapFails-here, line_end-le, line-valid}
use Rattle.lisp_tokens.proofs.gaps.line_end.Goals as goal

pub returns-in-Some : goal.returns-in-Some
returns-in-Some c =
    let bytes = c.args.bytes.now in
    let valid = line-valid bytes c.split_at.result.1.now c.args.at c.line_len-len.result c.in-Some.invalid c.split_at.ensures.back c.line_len-len.ensures c.in-Some.ensures in
    (line_end-le bytes c.args.at c.in-Some.invalid valid, GapFails-here bytes c.args.at c.in-Some.invalid c.requires.within c.requires.begins valid)
