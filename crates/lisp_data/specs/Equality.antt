-- Where EQL does not decide (HyperSpec 5.3, functions EQL and EQUAL).
use Rattle.std.specs.Prelude.{Bool, true, false}
use Rattle.lisp_data.specs.Value.{Val, string, list, cons}

-- two strings or two non-empty lists: EQL asks whether both are one object, which a value does not tell
abbrev pub is_by_object : Val → Val → Bool
is_by_object (string s) (string t) = true
is_by_object (list (cons v l)) (list (cons w m)) = true
is_by_object _ _ = false
