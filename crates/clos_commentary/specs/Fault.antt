-- What is told of a text that can't be read.
use Rattle.std.specs.Prelude.{ℕ, List, [], ◌∷◌, ◌++◌, codes}
use Rattle.lisp_tokens.specs.Fault.{Kind, end_inside, stray_close, bad_token, bad_dot, bad_hash, too_deep, not_text}
use Rattle.clos_commentary.specs.Place.{place_text}
use Rattle.clos_commentary.specs.declared.place.Place.{Place}

abbrev pub words_of : Kind → List ℕ
words_of end_inside = codes "the input ends inside of what begins here"
words_of stray_close = codes "a closing parenthesis too many"
words_of bad_token = codes "a token that can't be read"
words_of bad_dot = codes "a dot out of place"
words_of bad_hash = codes "a # that begins nothing"
words_of too_deep = codes "more than 200 open lists and prefixes"
words_of not_text = codes "bytes that are not UTF-8"

-- a fault as it is told: its line and column, and what it is
abbrev pub fault_text : Kind → Place → List ℕ
fault_text kind p =
    codes "; " ++ place_text p ++ codes ": " ++ words_of kind ++ 10 ∷ []
