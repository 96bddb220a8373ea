use Rattle.std.proofs.Common.{◌+◌, ◌≤◌, drop, refl, arith, length, take, subst, ℕ, List, IsUtf8}
use Rattle.std.proofs.lemmas.List.{length-drop}
use Rattle.std.specs.Str.{IsValidUpTo}
use Rattle.lisp_tokens.specs.Gaps.{Closes, Unclosed}
use Rattle.lisp_tokens.proofs.OnGaps.{Refuses-in_block, Refuses-in_open, Refuses-open}
use Rattle.lisp_tokens.proofs.gaps.comment_end.Goals as goal

pub returns-in-None-invalid_at : goal.returns-in-None-invalid_at
returns-in-None-invalid_at c =
    let t = drop (c.args.at + 2) c.args.bytes.now in
    let len = c.in-Some.len in
    let rest = c.split_at.ensures.back in
    let fits : len ≤ length t = subst (λ (x : List ℕ). len ≤ length x) rest c.in-Some.ensures.0 in
    let closes : Closes t len = subst (λ (x : List ℕ). Closes x len) rest c.in-Some.ensures.1 in
    let text : IsUtf8 (take len t) = subst (λ (x : List ℕ). IsUtf8 (take len x)) rest c.in-None-invalid_at.ensures in
    let size = length-drop (c.args.at + 2) c.args.bytes.now in
    (len, refl, omega (arith, c.requires.within), closes, text)

pub returns-in-Some-invalid_at : goal.returns-in-Some-invalid_at
returns-in-Some-invalid_at c =
    let t = drop (c.args.at + 2) c.args.bytes.now in
    let len = c.in-Some.len in
    let rest = c.split_at.ensures.back in
    let fits : len ≤ length t = subst (λ (x : List ℕ). len ≤ length x) rest c.in-Some.ensures.0 in
    let closes : Closes t len = subst (λ (x : List ℕ). Closes x len) rest c.in-Some.ensures.1 in
    let valid : IsValidUpTo (take len t) c.in-Some-invalid_at.invalid = subst (λ (x : List ℕ). IsValidUpTo (take len x) c.in-Some-invalid_at.invalid) rest c.in-Some-invalid_at.ensures in
    Refuses-in_block c.args.bytes.now c.args.at len c.in-Some-invalid_at.invalid c.requires.begins c.requires.within fits closes valid

pub returns-in-None-invalid_at-2 : goal.returns-in-None-invalid_at-2
returns-in-None-invalid_at-2 c =
    let rest = c.split_at.ensures.back in
    Refuses-open c.args.bytes.now c.args.at c.requires.begins c.requires.within (subst Unclosed rest c.in-None.ensures) (subst IsUtf8 rest c.in-None-invalid_at-2.ensures)

pub returns-in-Some-invalid_at-2 : goal.returns-in-Some-invalid_at-2
returns-in-Some-invalid_at-2 c =
    let rest = c.split_at.ensures.back in
    let valid : IsValidUpTo (drop (c.args.at + 2) c.args.bytes.now) c.in-Some-invalid_at-2.invalid = subst (λ (x : List ℕ). IsValidUpTo x c.in-Some-invalid_at-2.invalid) rest c.in-Some-invalid_at-2.ensures in
    Refuses-in_open c.args.bytes.now c.args.at c.in-Some-invalid_at-2.invalid c.requires.begins c.requires.within (subst Unclosed rest c.in-None.ensures) valid
