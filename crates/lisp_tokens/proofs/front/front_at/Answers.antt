use Rattle.std.proofs.Common.{◌≡◌, ◌≢◌, ◌∙◌, ◌<◌, ◌+◌, ◌≤◌, sym, refl, arith, rules, get_or, length, false}
use Rattle.lisp_tokens.specs.Characters.{is_token_char}
use Rattle.lisp_tokens.proofs.OnFront.{NoDatum-end, NoDatum-close, NoDatum-hash, NoDatum-comma, NoDatum-other, begins_nothing, quote-at, backquote-at, function-at, splice-at, comma-at}
use Rattle.lisp_tokens.proofs.front.front_at.Goals as goal

pub returns-then-at-bytes : goal.returns-then-at-bytes
returns-then-at-bytes c = (refl, NoDatum-end c.args.bytes.now c.args.at c.if-at-bytes.true)

pub returns-in-41 : goal.returns-in-41
returns-in-41 c =
    let within : c.args.at < length c.args.bytes.now = omega arith in
    (refl, NoDatum-close c.args.bytes.now c.args.at within c.in-41.is)

pub returns-in-39 : goal.returns-in-39
returns-in-39 c =
    let within : c.args.at < length c.args.bytes.now = omega arith in
    rw c.prefix_of.ensures (omega arith, omega arith, quote-at c.args.bytes.now c.args.at within c.in-39.is)

pub returns-in-96 : goal.returns-in-96
returns-in-96 c =
    let within : c.args.at < length c.args.bytes.now = omega arith in
    rw c.prefix_of-in-96.ensures (omega arith, omega arith, backquote-at c.args.bytes.now c.args.at within c.in-96.is)

pub returns-in-35 : goal.returns-in-35
returns-in-35 c =
    let within : c.args.at < length c.args.bytes.now = omega arith in
    let next = c.begins_with.ensures.within c.if-begins_with.true in
    let fits : c.args.at + 2 ≤ length c.args.bytes.now = omega (arith, next) in
    rw c.prefix_of-in-35.ensures (omega arith, fits, function-at c.args.bytes.now c.args.at within c.in-35.is (sym c.begins_with.ensures.value ∙ c.if-begins_with.true))

pub returns-in-35-2 : goal.returns-in-35-2
returns-in-35-2 c =
    let within : c.args.at < length c.args.bytes.now = omega arith in
    (refl, NoDatum-hash c.args.bytes.now c.args.at within c.in-35.is (sym c.begins_with.ensures.value ∙ c.if-begins_with.false))

pub returns-in-44 : goal.returns-in-44
returns-in-44 c =
    let within : c.args.at < length c.args.bytes.now = omega arith in
    let next = c.if-begins_with-2.ensures.within refl in
    let fits : c.args.at + 2 ≤ length c.args.bytes.now = omega (arith, next) in
    rw c.prefix_of-in-44.ensures (omega arith, fits, splice-at c.args.bytes.now c.args.at within c.in-44.is (sym c.if-begins_with-2.ensures.value))

pub returns-in-44-2 : goal.returns-in-44-2
returns-in-44-2 c =
    let within : c.args.at < length c.args.bytes.now = omega arith in
    (refl, NoDatum-comma c.args.bytes.now c.args.at within c.in-44.is (sym c.if-begins_with-3.ensures.value))

pub returns-in-44-3 : goal.returns-in-44-3
returns-in-44-3 c =
    let within : c.args.at < length c.args.bytes.now = omega arith in
    rw c.prefix_of-in-44-3.ensures (omega arith, omega arith, comma-at c.args.bytes.now c.args.at within c.in-44.is (sym c.if-begins_with-2.ensures.value) (sym c.if-begins_with-3.ensures.value))

pub returns-in_default-2 : goal.returns-in_default-2
returns-in_default-2 c =
    let b = get_or c.args.bytes.now c.args.at 0 in
    let no_list : b ≢ 40 = search rules in
    let no_quote : b ≢ 39 = search rules in
    let no_backquote : b ≢ 96 = search rules in
    let no_comma : b ≢ 44 = search rules in
    let no_close : b ≢ 41 = search rules in
    let no_string : b ≢ 34 = search rules in
    let within : c.args.at < length c.args.bytes.now = omega arith in
    let no_token : is_token_char b ≡ false = sym c.is_token_char.ensures ∙ c.if-is_token_char.false in
    (refl, NoDatum-other c.args.bytes.now c.args.at within (begins_nothing b no_token no_list no_quote no_backquote no_comma no_close no_string))
