use Rattle.std.proofs.Common.{◌≡◌, ◌∙◌, ℕ, List, refl, take, drop}
use Rattle.std.specs.List.{before_first, after_first, position_or_len}
use Rattle.std.specs.Str.Parse.{without_leading_sign}
use Rattle.lisp_tokens.specs.Token.{is_float, are_float_parts, is_point, is_marker}
use Rattle.lisp_tokens.proofs.token.is_float.Goals as goal

is_float-parts : (token unsigned mantissa exponent whole fraction : List ℕ) (n : ℕ) → unsigned ≡ without_leading_sign token → n ≡ position_or_len is_marker unsigned → mantissa ≡ take n unsigned → exponent ≡ drop n unsigned → whole ≡ before_first is_point mantissa → fraction ≡ after_first is_point mantissa → are_float_parts whole fraction exponent ≡ is_float token
unfolding is_float
is_float-parts token unsigned mantissa exponent whole fraction n u l m e w f = rw (w, f, m, e, l, u) refl

pub returns : goal.returns
returns c =
    c.are_float_parts.ensures
    ∙ is_float-parts c.args.run.now c.without_sign-unsigned.result.now c.split_at.result.0.now c.split_at.result.1.now c.split_at_byte.result.0.now c.split_at_byte.result.1.now c.mantissa_len-mantissa_len.result c.without_sign-unsigned.ensures c.mantissa_len-mantissa_len.ensures.value c.split_at.ensures.front c.split_at.ensures.back c.split_at_byte.ensures.before c.split_at_byte.ensures.after
