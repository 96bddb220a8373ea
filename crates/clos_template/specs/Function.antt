-- The functions of templates, on data (HyperSpec 5.3, 14.2).
use Rattle.std.specs.Prelude.{ℕ, ◌++◌, pos, Bool, true, false, ◌&&◌, ◌||◌, codes, if◌then◌else◌, List, [], ◌∷◌, Option, Some, None, length, slice_get, unwrap_or}
use Rattle.std.specs.Str.{chars}
use Rattle.lisp_data.specs.Datum.{Dat, integer, symbol, string, list, dotted, method, Dats, nil, cons, elements, length_of}
use Rattle.lisp_data.specs.Keys.{same_datum}
use Rattle.clos_forms.specs.Body.{is_string}
use Rattle.clos_forms.specs.Fault.{◌>>=◌}
use Rattle.clos_forms.specs.clos_names.Names.{is_called}
use Rattle.clos_lambda.specs.Lists.{ahead, list_in}
use Rattle.clos_template.specs.Expansion.{Expansion, made, bad, built}
use Rattle.clos_template.specs.declared.operator.Function.{Function}
use Rattle.clos_template.specs.declared.operator.Function.TheVariants as function

-- NIL where it is made, not taken from data: the symbol, and not a list without elements
abbrev pub nil_symbol : Dat
nil_symbol = symbol (record { text = codes "NIL"; keyword = false })

-- T or NIL, as a predicate answers
abbrev pub truth : Bool → Dat
truth true = symbol (record { text = codes "T"; keyword = false })
truth false = nil_symbol

-- NIL, which may be written as the empty list
abbrev pub is_nil : Dat → Bool
is_nil (integer n) = false
is_nil (symbol name) = is_called (codes "NIL") name
is_nil (string s) = false
is_nil (list nil) = true
is_nil (list (cons d l)) = false
is_nil (dotted l d) = false
is_nil (method n) = false

-- what parentheses are written around, with or without a dot; the symbol NIL is none
abbrev pub is_list : Dat → Bool
is_list (integer n) = false
is_list (symbol name) = false
is_list (string s) = false
is_list (list l) = true
is_list (dotted l d) = true
is_list (method n) = false

-- the list of these elements
abbrev pub from_elements : Dats → Dat
from_elements nil = nil_symbol
from_elements (cons d l) = list (cons d l)

-- what is done with the elements of a list; another datum has none
abbrev pub with_elements : Option Dats → (Dats → Expansion) → Expansion
with_elements None go = bad
with_elements (Some l) go = go l

-- the argument at a place; there is one, since the function takes so many
abbrev pub argument : List Dat → ℕ → Dat
argument ds n = unwrap_or (slice_get ds n) nil_symbol

-- the first of these elements, or NIL where there are none (14.2 first)
abbrev pub first_in : Dats → Dat
first_in nil = nil_symbol
first_in (cons d l) = d

-- the elements after the first; none where there is no first (14.2 rest)
abbrev pub rest_in : Dats → Dats
rest_in nil = nil
rest_in (cons d l) = l

-- these elements, the last one first, and then those
abbrev pub reversed : Dats → Dats → Dats
reversed nil m = m
reversed (cons d l) m = reversed l (cons d m)

-- whether both are one number, symbol or method; of two strings, or of two lists that are not empty, EQ does not tell
abbrev pub one_object : Dat → Dat → Option Bool
one_object a b =
    if is_nil a || is_nil b then Some (is_nil a && is_nil b)
    else if (is_string a && is_string b) || (is_list a && is_list b) then None else Some (same_datum a b)

-- an answer of EQ; where it does not tell, the arguments have a wrong type
abbrev pub told : Option Bool → ℕ → Expansion
told None n = bad
told (Some b) n = made (truth b) n

-- the elements of a list, or the characters of a string
abbrev pub counted : Dat → ℕ → Expansion
counted (string s) n = made (integer (pos (length (chars s)))) n
counted d n = with_elements (list_in d) (λ l. made (integer (pos (length_of l))) n)

-- one more before these and the last one
abbrev pub with_front : Dat → List Dat × Dat → Option (List Dat × Dat)
with_front d p = Some (d ∷ p.0, p.1)

-- all data but the last, and the last one
abbrev pub split_last : List Dat → Option (List Dat × Dat)
split_last [] = None
split_last (d ∷ []) = Some ([], d)
split_last (d ∷ (e ∷ ds)) = split_last (e ∷ ds) >>= with_front d

-- a list of these data before those elements, for each of which a cons is made
abbrev pub prepended : List Dat → Dats → ℕ → Expansion
prepended ds l n = built (length ds) (from_elements (ahead ds l)) n

-- these data before the elements of the last one, which may be any datum where it is alone
abbrev pub starred : Option (List Dat × Dat) → ℕ → Expansion
starred None n = made nil_symbol n
starred (Some ([], d)) n = made d n
starred (Some (e ∷ es, d)) n = with_elements (list_in d) (λ l. prepended (e ∷ es) l n)

-- the elements of these lists, one list after the other
abbrev pub elements_of_all : List Dat → Option (List Dat)
elements_of_all [] = Some []
elements_of_all (d ∷ ds) = list_in d >>= λ l. elements_of_all ds >>= λ es. Some (elements l ++ es)

-- the elements of the earlier lists before those of this one; nothing where one of them is no list
abbrev pub before_list : Option (List Dat) → Dat → ℕ → Expansion
before_list None d n = bad
before_list (Some es) d n = with_elements (list_in d) (λ l. prepended es l n)

-- the elements of all lists but the last before those of the last
abbrev pub appended : Option (List Dat × Dat) → ℕ → Expansion
appended None n = made nil_symbol n
appended (Some p) n = before_list (elements_of_all p.0) p.1 n

-- what a function gives of its arguments, where so many conses may still be made
abbrev pub answer : Function → List Dat → ℕ → Expansion
answer function.Not ds n = made (truth (is_nil (argument ds 0))) n
answer function.Endp ds n = with_elements (list_in (argument ds 0)) (λ l. made (truth (is_nil (list l))) n)
answer function.Eq ds n = told (one_object (argument ds 0) (argument ds 1)) n
answer function.First ds n = with_elements (list_in (argument ds 0)) (λ l. made (first_in l) n)
answer function.Second ds n = with_elements (list_in (argument ds 0)) (λ l. made (first_in (rest_in l)) n)
answer function.Rest ds n = with_elements (list_in (argument ds 0)) (λ l. made (from_elements (rest_in l)) n)
answer function.Reverse ds n = with_elements (list_in (argument ds 0)) (λ l. built (length_of l) (from_elements (reversed l nil)) n)
answer function.Length ds n = counted (argument ds 0) n
answer function.List ds n = prepended ds nil n
answer function.ListStar ds n = starred (split_last ds) n
answer function.Cons ds n = starred (split_last ds) n
answer function.Append ds n = appended (split_last ds) n
