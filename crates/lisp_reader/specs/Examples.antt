-- Small texts and what is read of them, small values and what they print as: instances of the definitions.
use Rattle.std.specs.Prelude.{◌≡◌, true, false, [], ◌∷◌, codes, None, refl}
use Rattle.std.specs.Str.{chars}
use Rattle.std.proofs.Math.Utf8.{encode}
use Rattle.std.proofs.lemmas.Bool.{ltb-true}
use Rattle.lisp_data.specs.Datum.{string}
use Rattle.lisp_data.specs.Print.{Names, text_of}
use Rattle.lisp_data.specs.Value.{string as string_value, symbol as symbol_value, list as list_value, nil, cons}
use Rattle.lisp_reader.specs.Answers.{Gives, a_datum, next}
use Rattle.lisp_tokens.specs.Gaps.{blank, no_more}
use Rattle.lisp_tokens.specs.Prefix.{quote}
use Rattle.lisp_tokens.specs.Reading.{Spells, of_token, in_quotes, in_parentheses, with_dot, prefixed, Items, none, more, Tail, tail, named, prefixed_by, list_of}
use Rattle.lisp_tokens.specs.Token.{class_of, is_integer, is_ratio, is_float}

-- ---- texts

-- 'a is (QUOTE A)
a_quote : Gives (codes "'a") (a_datum (prefixed_by (codes "QUOTE") (named (codes "A"))) [])
unfolding class_of is_integer is_ratio is_float
a_quote =
    let name = of_token 199 97 [] (named (codes "A")) refl refl in
    next _ _ _ [] (no_more _ refl) (prefixed 200 _ _ _ _ _ [] (ltb-true 0 200 refl) (quote _) (no_more _ refl) name)

-- (a . (b)) is (A B)
a_list_after_a_dot : Gives (codes "(a . (b))") (a_datum (list_of (named (codes "A") ∷ named (codes "B") ∷ [])) [])
unfolding class_of is_integer is_ratio is_float
a_list_after_a_dot =
    let one : Items 199 (codes "a . (b))") (named (codes "A") ∷ []) (codes " . (b))") = more 199 _ _ _ _ [] _ (no_more _ refl) (of_token 199 97 (codes " . (b))") _ refl refl) (none 199 _) in
    let inner : Items 198 (codes "b))") (named (codes "B") ∷ []) (codes "))") = more 198 _ _ _ _ [] _ (no_more _ refl) (of_token 198 98 (codes "))") _ refl refl) (none 198 _) in
    let list : Spells 199 (codes "(b))") (list_of (named (codes "B") ∷ [])) (codes ")") = in_parentheses 199 _ _ _ _ (ltb-true 0 199 refl) inner (no_more _ refl) in
    let rest : Tail 199 (codes " (b))") (list_of (named (codes "B") ∷ [])) [] = tail 199 _ _ _ _ [] (blank 32 _ _ refl (no_more _ refl)) list (no_more _ refl) in
    let gap = blank 32 (codes ". (b))") (codes ". (b))") refl (no_more _ refl) in
    next _ _ _ [] (no_more _ refl) (with_dot 200 _ _ _ _ _ [] (ltb-true 0 200 refl) one gap refl rest)

-- "a\"b" is a string of three characters, the second of them a double quote
an_escaped_quote : Gives (codes "\"a\\\"b\"") (a_datum (string (codes "a\"b")) [])
unfolding chars encode
an_escaped_quote =
    next _ _ _ [] (no_more _ refl) (in_quotes 200 (codes "a\\\"b\"") [] (codes "a\\\"b", (refl, refl)) refl)

-- ---- printing

no_names : Names
no_names = record { class = λ _. None; generic = λ _. None; method = λ _. None; class_of = λ _. None }

-- prin1 writes the list of the string a and the symbol B as ("a" B)
printed_readably : text_of true no_names (list_value (cons (string_value (codes "a")) (cons (symbol_value (record { text = codes "B"; keyword = false })) nil))) ≡ codes "(\"a\" B)"
printed_readably = refl

-- princ writes the string a as its character alone
printed_alone : text_of false no_names (string_value (codes "a")) ≡ codes "a"
printed_alone = refl
