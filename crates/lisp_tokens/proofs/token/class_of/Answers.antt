use Rattle.std.proofs.Common.{◌≡◌, ◌≢◌, ◌∙◌, ◌||◌, ℕ, List, length, true, false, sym, refl, ne_eqb}
use Rattle.std.specs.List.{list_all}
use Rattle.lisp_tokens.specs.declared.token.Class.TheVariants.{Bad}
use Rattle.lisp_tokens.specs.Token.{class_of, is_integer, is_ratio, is_float, is_point}
use Rattle.lisp_tokens.proofs.token.class_of.Goals as goal

class_of-dots : (token : List ℕ) → is_integer token ≡ false → (is_ratio token || is_float token) ≡ false → list_all is_point token ≡ true → length token ≢ 1 → Bad ≡ class_of token
unfolding class_of
class_of-dots token no_integer no_number points many = rw (no_integer, no_number, points, ne_eqb (length token) 1 many) refl

pub returns-else-run-eq1-clause-value : goal.returns-else-run-eq1-clause-value
returns-else-run-eq1-clause-value c =
    class_of-dots c.args.run.now (sym c.is_integer.ensures ∙ c.if-is_integer.false) (sym c.is_other_number.ensures ∙ c.if-is_other_number.false) (sym c.all_points.ensures ∙ c.if-all_points.true) c.if-run-eq1.false
