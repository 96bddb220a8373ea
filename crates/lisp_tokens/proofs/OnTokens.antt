-- Tokens at an offset of a text.
use Rattle.std.proofs.Common.{◌≡◌, ◌≢◌, ◌∙◌, ℕ, ◌+◌, ◌<◌, ◌≤◌, List, [], ◌∷◌, length, get_or, drop, true, false, Bool, refl, sym, ap, subst, arith, ◌&&◌, not, eqb, ne_eqb, suc, ◌-◌, ◌⊎◌, inl, inr, Option, Result, Ok, Err, ℤ}
use Rattle.std.specs.Str.{IsAscii}
use Rattle.std.specs.Prelude.{SomeIff, FitsSigned}
use Rattle.std.specs.Int.{w64}
use Rattle.std.specs.Char.{is_ascii_digit, digit_value}
use Rattle.std.specs.Result.{OkIff, result_ok}
use Rattle.std.specs.Str.Parse.{AllDigits, IsNumeral, ParsesSigned, without_leading_sign}
use Rattle.std.specs.List.{prefix_len, position_or_len, before_first, after_first}
use Rattle.std.proofs.lemmas.Bool.{cases_eq, false≢true}
use Rattle.std.proofs.lemmas.Bool.Decides.{nat_tests}
use Rattle.std.proofs.lemmas.List.{drop_more, drop-drop, length-drop, get_or-take}
use Rattle.std.proofs.lemmas.List.Folds.{length-prefix_len}
use Rattle.std.proofs.lemmas.List.Sums.{prefix_len_passes, prefix_len-le-length, prefix_len-drop_yes}
use Rattle.std.proofs.lemmas.Str.Ascii.{IsAscii-from_reads}
use Rattle.lisp_data.specs.Datum.{Dat, symbol}
use Rattle.lisp_data.specs.Name.{Name}
use Rattle.lisp_tokens.specs.Characters.{is_token_char, begins_token}
use Rattle.lisp_tokens.specs.Fault.{Kind}
use Rattle.lisp_tokens.specs.Memory.{Takes, a_name}
use Rattle.lisp_tokens.specs.Reading.{Spells, Fails, of_token, at_front, at_token}
use Rattle.lisp_tokens.specs.declared.token.Class.{Class}
use Rattle.lisp_tokens.specs.Token.{run, after_run, class_of, Means, Refused, Denotes, DenotesNone, is_integer, is_digits, all_digits, is_empty, is_point, is_keyword, value}

and_left : (a b : Bool) → (a && b) ≡ true → a ≡ true
and_left true b is = refl
and_left false b is = is

and_right : (a b : Bool) → (a && b) ≡ true → b ≡ true
and_right true b is = is
and_right false b is = absurd (false≢true is)

digit-below : (c : ℕ) → is_ascii_digit c ≡ true → digit_value c < 10
digit-below c is = grind (arith, nat_tests)

above-zero : (n : ℕ) → not (eqb n 0) ≡ true → 0 < n
above-zero n is = grind (arith, nat_tests)

token_char-ascii : (c : ℕ) → is_token_char c ≡ true → c < 128
token_char-ascii c is = grind (arith, nat_tests)

pub run-ascii : (text : List ℕ) → IsAscii (run text)
run-ascii text =
    IsAscii-from_reads (run text) (prefix_len is_token_char text) (omega (arith, length-prefix_len is_token_char text))
    (λ k below. rw (get_or-take (prefix_len is_token_char text) text k 0 below) (token_char-ascii (get_or text k 0) (prefix_len_passes is_token_char text k 0 below)))

token_char-begins : (c : ℕ) → begins_token c ≡ true → is_token_char c ≡ true
token_char-begins c is = and_left (is_token_char c) (not (eqb c 35)) is

-- a token that denotes a datum is a spelling of it
pub Reads-token : (bytes : List ℕ) (room at : ℕ) (word : List ℕ) (k : Class) (d : Dat) → at < length bytes → begins_token (get_or bytes at 0) ≡ true → word ≡ run (drop at bytes) → k ≡ class_of word → Means k word d → (at < at + length word) × (at + length word ≤ length bytes) × Spells room (drop at bytes) d (drop (at + length word) bytes)
Reads-token bytes room at word k d within begins is class means =
    let n = prefix_len is_token_char (drop at bytes) in
    let b = get_or bytes at 0 in
    let rest = drop (at + 1) bytes in
    let e : drop at bytes ≡ b ∷ rest = drop_more bytes at 0 within in
    let first = prefix_len-drop_yes is_token_char bytes at 0 within (token_char-begins b begins) in
    let most = prefix_len-le-length is_token_char (drop at bytes) in
    let len : length word ≡ n = ap length is ∙ length-prefix_len is_token_char (drop at bytes) in
    let denotes : Denotes word d = subst (λ (c : Class). Means c word d) class means in
    let denotes' : Denotes (run (b ∷ rest)) d = subst (λ (t : List ℕ). Denotes t d) (is ∙ ap run e) denotes in
    let here : Spells room (b ∷ rest) d (after_run (b ∷ rest)) = of_token room b rest d begins denotes' in
    let there : Spells room (drop at bytes) d (after_run (drop at bytes)) = subst (λ (t : List ℕ). Spells room t d (after_run t)) (sym e) here in
    let after : after_run (drop at bytes) ≡ drop (at + length word) bytes = drop-drop n at bytes ∙ ap (λ (k : ℕ). drop (at + k) bytes) (sym len) in
    let bound : n ≤ length bytes - at = rw (← length-drop at bytes) most in
    (omega arith, omega arith, subst (λ (t : List ℕ). Spells room (drop at bytes) d t) after there)

-- and takes memory if that is a symbol
pub Takes-token : (bytes : List ℕ) (room at : ℕ) (word : List ℕ) (k : Class) (name : Name) → at < length bytes → begins_token (get_or bytes at 0) ≡ true → word ≡ run (drop at bytes) → k ≡ class_of word → Means k word (symbol name) → Takes room (drop at bytes)
Takes-token bytes room at word k name within begins is class means =
    let b = get_or bytes at 0 in
    let rest = drop (at + 1) bytes in
    let e : drop at bytes ≡ b ∷ rest = drop_more bytes at 0 within in
    let denotes : Denotes word (symbol name) = subst (λ (c : Class). Means c word (symbol name)) class means in
    let denotes' : Denotes (run (b ∷ rest)) (symbol name) = subst (λ (t : List ℕ). Denotes t (symbol name)) (is ∙ ap run e) denotes in
    subst (Takes room) (sym e) (a_name room b rest name begins denotes')

-- and one that denotes none is at fault
pub Fails-token : (bytes : List ℕ) (room at : ℕ) (word : List ℕ) (k : Class) (kind : Kind) → at < length bytes → begins_token (get_or bytes at 0) ≡ true → word ≡ run (drop at bytes) → k ≡ class_of word → Refused k word kind → (at ≤ length bytes) × Fails room (drop at bytes) kind (drop at bytes)
Fails-token bytes room at word k kind within begins is class refused =
    let b = get_or bytes at 0 in
    let rest = drop (at + 1) bytes in
    let e : drop at bytes ≡ b ∷ rest = drop_more bytes at 0 within in
    let denotes : DenotesNone word kind = subst (λ (c : Class). Refused c word kind) class refused in
    let denotes' : DenotesNone (run (b ∷ rest)) kind = subst (λ (t : List ℕ). DenotesNone t kind) (is ∙ ap run e) denotes in
    (omega arith, subst (λ (t : List ℕ). Fails room t kind t) (sym e) (at_front room (b ∷ rest) kind (at_token b rest kind begins denotes')))

-- ---- integers

digits-from_all : (text : List ℕ) → all_digits text ≡ true → AllDigits 10 text
digits-from_all [] is = tt
digits-from_all (c ∷ text) is =
    let first : is_ascii_digit c ≡ true = and_left (is_ascii_digit c) (all_digits text) is in
    let more : all_digits text ≡ true = and_right (is_ascii_digit c) (all_digits text) is in
    (digit-below c first, digits-from_all text more)

plain : (c : ℕ) (text : List ℕ) → c ≢ 45 → c ≢ 43 → without_leading_sign (c ∷ text) ≡ c ∷ text
plain c text no_minus no_plus = rw (ne_eqb c 45 no_minus, ne_eqb c 43 no_plus) refl

before_point-cons : (c : ℕ) (text : List ℕ) → c ≢ 46 → before_first is_point (c ∷ text) ≡ c ∷ before_first is_point text
before_point-cons c text no_point =
    let n = position_or_len is_point text in
    let e : 1 + n ≡ suc n = omega arith in
    rw (ne_eqb c 46 no_point, e) refl

sign_cases : (c : ℕ) (text : List ℕ) → (c ≡ 45) ⊎ (c ≢ 45) → (c ≡ 43) ⊎ (c ≢ 43) → (c ≡ 46) ⊎ (c ≢ 46) → without_leading_sign (before_first is_point (c ∷ text)) ≡ before_first is_point (without_leading_sign (c ∷ text))
sign_cases c text (inl minus) p q =
    rw (before_point-cons c text (λ e. absurd (omega arith)), minus) refl
sign_cases c text (inr no_minus) (inl plus) q =
    rw (before_point-cons c text (λ e. absurd (omega arith)), plus) refl
sign_cases c text (inr no_minus) (inr no_plus) (inl point) =
    rw (plain c text no_minus no_plus, point) refl
sign_cases c text (inr no_minus) (inr no_plus) (inr no_point) =
    rw (plain c text no_minus no_plus, before_point-cons c text no_point, plain c (before_first is_point text) no_minus no_plus) refl

-- a sign is no point
sign_before_point : (text : List ℕ) → without_leading_sign (before_first is_point text) ≡ before_first is_point (without_leading_sign text)
sign_before_point [] = refl
sign_before_point (c ∷ text) = sign_cases c text (cases_eq c 45) (cases_eq c 43) (cases_eq c 46)

numeral-from_integer : (token : List ℕ) → is_integer token ≡ true → IsNumeral 10 (without_leading_sign (before_first is_point token))
unfolding is_integer
numeral-from_integer token is =
    let digits = before_first is_point (without_leading_sign token) in
    let only : is_digits digits ≡ true = and_left (is_digits digits) (is_empty (after_first is_point (without_leading_sign token))) is in
    let some : not (is_empty digits) ≡ true = and_left (not (is_empty digits)) (all_digits digits) only in
    let all : all_digits digits ≡ true = and_right (not (is_empty digits)) (all_digits digits) only in
    rw (sign_before_point token) (above-zero (length digits) some, digits-from_all digits all)

some_from_ok : {E : Type 0} (r : Result ℤ E) (o : Option ℤ) (N F : Type 0) (v : ℤ) → o ≡ result_ok r → N → OkIff r (N × F) v → SomeIff o F v
some_from_ok (Ok x) o N F v is holds parsed = rw is (parsed.0.1, parsed.1)
some_from_ok (Err e) o N F v is holds parsed = rw is (λ f. parsed (holds, f))

-- the number that `parse` finds before the point is that of the token
pub SomeIff-parsed : {E : Type 0} (token text : List ℕ) (r : Result ℤ E) (o : Option ℤ) → text ≡ before_first is_point token → is_integer token ≡ true → ParsesSigned w64 10 text r → o ≡ result_ok r → SomeIff o (FitsSigned w64 (value token)) (value token)
SomeIff-parsed token text r o is integer parsed found =
    let parsed' : ParsesSigned w64 10 (before_first is_point token) r = subst (λ (t : List ℕ). ParsesSigned w64 10 t r) is parsed in
    some_from_ok r o _ _ (value token) found (numeral-from_integer token integer) parsed'

-- ---- keywords

pub keyword-length : (token : List ℕ) → is_keyword token ≡ true → 0 < length token
unfolding is_keyword
keyword-length [] is = absurd (false≢true is)
keyword-length (c ∷ text) is = omega arith
