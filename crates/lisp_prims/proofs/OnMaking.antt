-- Lists made element by element.
use Rattle.std.proofs.Common.{◌≡◌, ◌∙◌, ◌<◌, List, [], ◌∷◌, ◌++◌, length, map, Result, Ok, Err, refl, sym, ap, arith}
use Rattle.std.specs.Prelude.{reverse}
use Rattle.std.proofs.lemmas.List.{reverse-append}
use Rattle.lisp_data.specs.Value.{Val, Vals, elements}
use Rattle.lisp_data.specs.ValueView.{value_of}
use Rattle.lisp_data.specs.declared.value.Value.{Value}
use Rattle.lisp_prims.specs.Fault.{Condition, given}
use Rattle.lisp_prims.specs.Lists.{appended, consed, end_of, list_of, as_value, list_star, listed_onto_last, put_before}

pub given-Ok : {A : Type 0} (r : Result A Condition) → given r (λ a. Ok a) ≡ r
given-Ok (Ok a) = refl
given-Ok (Err c) = refl

pub given-given : {A B C : Type 0} (r : Result A Condition) (f : A → Result B Condition) (g : B → Result C Condition) → given (given r f) g ≡ given r (λ a. given (f a) g)
given-given (Ok a) f g = refl
given-given (Err c) f g = refl

pub put_before-push : (vs : List Val) (v : Val) (l : Vals) → put_before (vs ++ v ∷ []) l ≡ given (consed v l) (put_before vs)
put_before-push [] v l = sym (given-Ok (consed v l))
put_before-push (w ∷ vs) v l =
    ap (λ (r : Result Vals Condition). given r (consed w)) (put_before-push vs v l) ∙ given-given (consed v l) (put_before vs) (consed w)

pub put_before-reverse : (v : Val) (vs : List Val) (l : Vals) → put_before (reverse (v ∷ vs)) l ≡ given (consed v l) (put_before (reverse vs))
put_before-reverse v vs l = ap (λ (ws : List Val). put_before ws l) (reverse-append (v ∷ []) vs) ∙ put_before-push (reverse vs) v l

pub listed-push : (v : Val) (vs : List Val) (w : Val) → listed_onto_last v (vs ++ w ∷ []) ≡ given (end_of w) (put_before (v ∷ vs))
listed-push v [] w = refl
listed-push v (x ∷ xs) w =
    ap (λ (r : Result Vals Condition). given r (consed v)) (listed-push x xs w) ∙ given-given (end_of w) (put_before (x ∷ xs)) (consed v)

pub appended-more : (v : Val) (vs : List Val) → 0 < length vs → appended (v ∷ vs) ≡ given (list_of v) (λ l. given (appended vs) (put_before (elements l)))
appended-more v [] some = absurd (omega arith)
appended-more v (w ∷ vs) some = refl

map-push : (xs : List Value) (x : Value) → map value_of (xs ++ x ∷ []) ≡ map value_of xs ++ value_of x ∷ []
map-push [] x = refl
map-push (y ∷ xs) x = ap (λ (vs : List Val). value_of y ∷ vs) (map-push xs x)

pub values-push : (xs : List Value) (x : Value) (l : Vals) → put_before (map value_of (xs ++ x ∷ [])) l ≡ given (consed (value_of x) l) (put_before (map value_of xs))
values-push xs x l = ap (λ (vs : List Val). put_before vs l) (map-push xs x) ∙ put_before-push (map value_of xs) (value_of x) l

list_star-front : (vs : List Val) (w : Val) → 0 < length vs → list_star (vs ++ w ∷ []) ≡ given (given (end_of w) (put_before vs)) as_value
list_star-front [] w some = absurd (omega arith)
list_star-front (v ∷ []) w some = refl
list_star-front (v ∷ x ∷ vs) w some = ap (λ (r : Result Vals Condition). given r as_value) (listed-push v (x ∷ vs) w)

some-map : (xs : List Value) → 0 < length xs → 0 < length (map value_of xs)
some-map [] some = some
some-map (x ∷ xs) some = omega arith

pub list_star-push : (xs : List Value) (x : Value) → 0 < length xs → list_star (map value_of (xs ++ x ∷ [])) ≡ given (given (end_of (value_of x)) (put_before (map value_of xs))) as_value
list_star-push xs x some = ap list_star (map-push xs x) ∙ list_star-front (map value_of xs) (value_of x) (some-map xs some)

pub ruleset making = (put_before-push, values-push, put_before-reverse, list_star-push, appended-more)
