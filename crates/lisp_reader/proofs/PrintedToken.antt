-- A token that is printed before something else is read as that token.
use Rattle.std.proofs.Common.{◌≡◌, ◌≢◌, ◌∙◌, ℕ, ◌+◌, ◌<◌, ◌^◌, Bool, true, false, not, List, [], ◌∷◌, ◌++◌, length, map, take, drop, refl, sym, ap, subst, arith, suc, ne_eqb, ℤ, pos, negsuc, neg_ℤ, FitsSigned}
use Rattle.std.specs.Int.{w64}
use Rattle.std.specs.Char.{to_ascii_uppercase, is_ascii_lowercase, is_ascii_digit, digit_value}
use Rattle.std.specs.Fmt.{decimal, signed_decimal}
use Rattle.std.specs.List.{prefix_len, position_or_len, list_all, list_any, before_first, after_first}
use Rattle.std.specs.Str.Parse.{AllDigits, without_leading_sign, digits_value, signed_digits_value}
use Rattle.std.proofs.Math.Seq.{take-append_seam, drop-append_seam}
use Rattle.std.proofs.lemmas.List.{take_all, drop_all}
use Rattle.std.proofs.lemmas.Bool.{and_parts, and_left, and_right}
use Rattle.std.proofs.lemmas.Bool.Decides.{nat_tests}
use Rattle.std.proofs.lemmas.Fmt.{decimal_is_IsNumeral}
use Rattle.lisp_data.specs.Name.{Name}
use Rattle.lisp_data.specs.Datum.{Dat, integer, symbol}
use Rattle.lisp_data.specs.Print.{name_text}
use Rattle.lisp_tokens.specs.Characters.{is_token_char, begins_token}
use Rattle.lisp_reader.specs.Printed.{is_plain_char, IsNameOf, IsPlainName}
use Rattle.lisp_tokens.specs.Reading.{Spells, of_token}
use Rattle.lisp_tokens.specs.Token.{run, after_run, class_of, Means, Denotes, is_integer, is_ratio, is_float, is_keyword, is_digits, all_digits, is_empty, is_point, is_slash, is_colon, is_marker, value}
use Rattle.lisp_tokens.specs.declared.token.Class.{Class}
use Rattle.lisp_tokens.specs.declared.token.Class.TheVariants.{Integer, Keyword, Symbol}

-- ---- where a run ends

prefix-all : (p : ℕ → Bool) (word rest : List ℕ) → list_all p word ≡ true → prefix_len p rest ≡ 0 → prefix_len p (word ++ rest) ≡ length word
prefix-all p [] rest all stop = stop
prefix-all p (c ∷ word) rest all stop =
    let both : (p c ≡ true) × (list_all p word ≡ true) = and_parts (p c) (list_all p word) all in
    rw (both.0, prefix-all p word rest both.1 stop) (omega arith)

-- a word of token characters that means a datum spells it before what is no token character
pub Spells-word : (room b : ℕ) (word rest : List ℕ) (d : Dat) → begins_token b ≡ true → list_all is_token_char (b ∷ word) ≡ true → prefix_len is_token_char rest ≡ 0 → Denotes (b ∷ word) d → Spells room (b ∷ (word ++ rest)) d rest
Spells-word room b word rest d begins all stop denotes =
    let text = b ∷ (word ++ rest) in
    let n : prefix_len is_token_char text ≡ length (b ∷ word) = prefix-all is_token_char (b ∷ word) rest all stop in
    let is : run text ≡ b ∷ word = ap (λ (k : ℕ). take k text) n ∙ take-append_seam (b ∷ word) rest in
    let after : after_run text ≡ rest = ap (λ (k : ℕ). drop k text) n ∙ drop-append_seam (b ∷ word) rest in
    let denotes' : Denotes (run text) d = subst (λ (t : List ℕ). Denotes t d) (sym is) denotes in
    subst (λ (t : List ℕ). Spells room text d t) after (of_token room b (word ++ rest) d begins denotes')

-- ---- digits

digit-from_value : (c : ℕ) → digit_value c < 10 → is_ascii_digit c ≡ true
digit-from_value c below = grind (arith, nat_tests)

all_digits-from : (ds : List ℕ) → AllDigits 10 ds → all_digits ds ≡ true
all_digits-from [] all = refl
all_digits-from (c ∷ ds) all = rw (digit-from_value c all.0) (all_digits-from ds all.1)

digit-token_char : (c : ℕ) → is_ascii_digit c ≡ true → is_token_char c ≡ true
digit-token_char c is = grind (arith, nat_tests)

digit-begins : (c : ℕ) → is_ascii_digit c ≡ true → begins_token c ≡ true
digit-begins c is = grind (arith, nat_tests)

digits-token_chars : (ds : List ℕ) → all_digits ds ≡ true → list_all is_token_char ds ≡ true
digits-token_chars [] all = refl
digits-token_chars (c ∷ ds) all =
    let both : (is_ascii_digit c ≡ true) × (all_digits ds ≡ true) = and_parts (is_ascii_digit c) (all_digits ds) all in
    rw (digit-token_char c both.0) (digits-token_chars ds both.1)

digit-plain : (c : ℕ) → is_ascii_digit c ≡ true → (c ≢ 43) × (c ≢ 45) × (c ≢ 46)
digit-plain c is = grind (arith, nat_tests)

no_point : (ds : List ℕ) → all_digits ds ≡ true → position_or_len is_point ds ≡ length ds
no_point [] all = refl
no_point (c ∷ ds) all =
    let both : (is_ascii_digit c ≡ true) × (all_digits ds ≡ true) = and_parts (is_ascii_digit c) (all_digits ds) all in
    rw (ne_eqb c 46 (digit-plain c both.0).2, no_point ds both.1) (omega arith)

before_point : (ds : List ℕ) → all_digits ds ≡ true → before_first is_point ds ≡ ds
before_point ds all = ap (λ (k : ℕ). take k ds) (no_point ds all) ∙ take_all (length ds) ds (omega arith)

after_point : (ds : List ℕ) → all_digits ds ≡ true → after_first is_point ds ≡ []
after_point ds all = ap (λ (k : ℕ). drop (k + 1) ds) (no_point ds all) ∙ drop_all (length ds + 1) ds (omega arith)

before-cons : (p : ℕ → Bool) (c : ℕ) (text : List ℕ) → p c ≡ false → before_first p (c ∷ text) ≡ c ∷ before_first p text
before-cons p c text other =
    let n = position_or_len p text in
    let e : 1 + n ≡ suc n = omega arith in
    rw (other, e) refl

unsigned : (ds : List ℕ) → all_digits ds ≡ true → without_leading_sign ds ≡ ds
unsigned [] all = refl
unsigned (c ∷ ds) all =
    let both : (is_ascii_digit c ≡ true) × (all_digits ds ≡ true) = and_parts (is_ascii_digit c) (all_digits ds) all in
    let plain = digit-plain c both.0 in
    rw (ne_eqb c 45 plain.1, ne_eqb c 43 plain.0) refl

-- ---- integers

abbrev Digits : List ℕ → Type 0
Digits ds = (0 < length ds) × (all_digits ds ≡ true)

some-digits : (ds : List ℕ) → Digits ds → is_digits ds ≡ true
some-digits [] d = absurd (omega arith)
some-digits (c ∷ ds) d = rw (ne_eqb (length (c ∷ ds)) 0 (λ e. absurd (omega arith))) d.1

is_integer-digits : (ds : List ℕ) → Digits ds → is_integer ds ≡ true
unfolding is_integer
is_integer-digits ds d = rw (unsigned ds d.1, before_point ds d.1, after_point ds d.1, some-digits ds d) refl

is_integer-minus : (ds : List ℕ) → Digits ds → is_integer (45 ∷ ds) ≡ true
unfolding is_integer
is_integer-minus ds d = rw (before_point ds d.1, after_point ds d.1, some-digits ds d) refl

integer-class : (token : List ℕ) → is_integer token ≡ true → class_of token ≡ Integer
unfolding class_of
integer-class token is = rw is refl

decimal-digits : (n : ℕ) → n < 2 ^ 64 → Digits (decimal n)
decimal-digits n below =
    let is = decimal_is_IsNumeral n below in
    (is.0.0, all_digits-from (decimal n) is.0.1)

signed-plain : (ds : List ℕ) → all_digits ds ≡ true → signed_digits_value 10 ds ≡ pos (digits_value 10 ds)
signed-plain [] all = refl
signed-plain (c ∷ ds) all =
    let both : (is_ascii_digit c ≡ true) × (all_digits ds ≡ true) = and_parts (is_ascii_digit c) (all_digits ds) all in
    let plain = digit-plain c both.0 in
    rw (ne_eqb c 45 plain.1, ne_eqb c 43 plain.0) refl

value-digits : (ds : List ℕ) → all_digits ds ≡ true → value ds ≡ pos (digits_value 10 ds)
value-digits ds all = ap (signed_digits_value 10) (before_point ds all) ∙ signed-plain ds all

value-minus : (ds : List ℕ) → all_digits ds ≡ true → value (45 ∷ ds) ≡ neg_ℤ (pos (digits_value 10 ds))
value-minus ds all =
    ap (signed_digits_value 10) (before-cons is_point 45 ds refl ∙ ap (λ (t : List ℕ). 45 ∷ t) (before_point ds all))

Means-integer : (token : List ℕ) (n : ℤ) → is_integer token ≡ true → value token ≡ n → FitsSigned w64 n → Denotes token (integer n)
Means-integer token n is same fits =
    let means : Means Integer token (integer n) = (subst (FitsSigned w64) (sym same) fits, ap integer (sym same)) in
    subst (λ (k : Class). Means k token (integer n)) (sym (integer-class token is)) means

Denotes-decimal : (n : ℤ) → FitsSigned w64 n → Denotes (signed_decimal n) (integer n)
Denotes-decimal (pos n) fits =
    let below : n < 2 ^ 64 = omega arith in
    let d = decimal-digits n below in
    let same : value (decimal n) ≡ pos n = value-digits (decimal n) d.1 ∙ ap pos (decimal_is_IsNumeral n below).1 in
    Means-integer (decimal n) (pos n) (is_integer-digits (decimal n) d) same fits
Denotes-decimal (negsuc n) fits =
    let below : suc n < 2 ^ 64 = omega arith in
    let d = decimal-digits (suc n) below in
    let same : value (45 ∷ decimal (suc n)) ≡ negsuc n = value-minus (decimal (suc n)) d.1 ∙ ap (λ (k : ℕ). neg_ℤ (pos k)) (decimal_is_IsNumeral (suc n) below).1 in
    Means-integer (45 ∷ decimal (suc n)) (negsuc n) (is_integer-minus (decimal (suc n)) d) same fits

-- what is printed begins with the first character of a token and spells a datum before what ends it
pub record Word (text : List ℕ) (d : Dat) : Type 0 where
  pub first : ℕ
  pub more : List ℕ
  pub is : text ≡ first ∷ more
  pub begins : begins_token first ≡ true
  pub all : list_all is_token_char (first ∷ more) ≡ true
  pub denotes : Denotes (first ∷ more) d

word-digits : (ds : List ℕ) (d : Dat) → Digits ds → Denotes ds d → Word ds d
word-digits [] d digits denotes = absurd (omega arith)
word-digits (c ∷ ds) d digits denotes =
    let both : (is_ascii_digit c ≡ true) × (all_digits ds ≡ true) = and_parts (is_ascii_digit c) (all_digits ds) digits.1 in
    record { first = c; more = ds; is = refl; begins = digit-begins c both.0; all = digits-token_chars (c ∷ ds) digits.1; denotes = denotes }

pub word-integer : (n : ℤ) → FitsSigned w64 n → Word (signed_decimal n) (integer n)
word-integer (pos n) fits = word-digits (decimal n) (integer (pos n)) (decimal-digits n (omega arith)) (Denotes-decimal (pos n) fits)
word-integer (negsuc n) fits =
    let d = decimal-digits (suc n) (omega arith) in
    record { first = 45; more = decimal (suc n); is = refl; begins = refl; all = digits-token_chars (decimal (suc n)) d.1; denotes = Denotes-decimal (negsuc n) fits }

-- ---- names

plain-token_chars : (text : List ℕ) → list_all is_plain_char text ≡ true → list_all is_token_char text ≡ true
plain-token_chars [] all = refl
plain-token_chars (c ∷ text) all =
    let both : (is_plain_char c ≡ true) × (list_all is_plain_char text ≡ true) = and_parts (is_plain_char c) (list_all is_plain_char text) all in
    rw (and_parts (is_token_char c) (not (is_ascii_lowercase c)) both.0).0 (plain-token_chars text both.1)

not_lower-upcased : (c : ℕ) → not (is_ascii_lowercase c) ≡ true → to_ascii_uppercase c ≡ c
not_lower-upcased c is = grind (arith, nat_tests)

plain-upcased : (text : List ℕ) → list_all is_plain_char text ≡ true → map to_ascii_uppercase text ≡ text
plain-upcased [] all = refl
plain-upcased (c ∷ text) all =
    let both : (is_plain_char c ≡ true) × (list_all is_plain_char text ≡ true) = and_parts (is_plain_char c) (list_all is_plain_char text) all in
    rw (not_lower-upcased c (and_parts (is_token_char c) (not (is_ascii_lowercase c)) both.0).1, plain-upcased text both.1) refl

Means-symbol : (text : List ℕ) → list_all is_plain_char text ≡ true → class_of text ≡ Symbol → Denotes text (symbol (record { text = text; keyword = false }))
Means-symbol text all class =
    let means : Means Symbol text (symbol (record { text = text; keyword = false })) = ap (λ (t : List ℕ). symbol (record { text = t; keyword = false })) (sym (plain-upcased text all)) in
    subst (λ (k : Class). Means k text (symbol (record { text = text; keyword = false }))) (sym class) means

Means-keyword : (text : List ℕ) → list_all is_plain_char text ≡ true → class_of (58 ∷ text) ≡ Keyword → Denotes (58 ∷ text) (symbol (record { text = text; keyword = true }))
Means-keyword text all class =
    let means : Means Keyword (58 ∷ text) (symbol (record { text = text; keyword = true })) = ap (λ (t : List ℕ). symbol (record { text = t; keyword = true })) (sym (plain-upcased text all)) in
    subst (λ (k : Class). Means k (58 ∷ text) (symbol (record { text = text; keyword = true }))) (sym class) means

not_digits : (c : ℕ) (text : List ℕ) → is_ascii_digit c ≡ false → is_digits (c ∷ text) ≡ false
not_digits c text other = rw other (and_right (not (is_empty (c ∷ text))) false refl)

colon-integer : (text : List ℕ) → is_integer (58 ∷ text) ≡ false
unfolding is_integer
colon-integer text = rw (before-cons is_point 58 text refl) (and_left _ _ (not_digits 58 (before_first is_point text) refl))

colon-ratio : (text : List ℕ) → is_ratio (58 ∷ text) ≡ false
unfolding is_ratio
colon-ratio text = rw (before-cons is_slash 58 text refl) (and_left _ _ (not_digits 58 (before_first is_slash text) refl))

colon-float : (text : List ℕ) → is_float (58 ∷ text) ≡ false
unfolding is_float
colon-float text = rw (before-cons is_marker 58 text refl, before-cons is_point 58 (before_first is_marker text) refl) refl

colon-keyword : (text : List ℕ) → 0 < length text → list_any is_colon text ≡ false → is_keyword (58 ∷ text) ≡ true
unfolding is_keyword
colon-keyword text some none = rw (ne_eqb (length text) 0 (λ e. absurd (omega arith)), none) refl

keyword-class : (text : List ℕ) → 0 < length text → list_any is_colon text ≡ false → class_of (58 ∷ text) ≡ Keyword
unfolding class_of
keyword-class text some none =
    rw (colon-integer text, colon-ratio text, colon-float text, colon-keyword text some none) refl

plain-begins : (c : ℕ) → is_plain_char c ≡ true → c ≢ 35 → begins_token c ≡ true
plain-begins c plain other =
    rw ((and_parts (is_token_char c) (not (is_ascii_lowercase c)) plain).0, ne_eqb c 35 other) refl

word-symbol : (text : List ℕ) → 0 < length text → list_all is_plain_char text ≡ true → IsNameOf false text → Word text (symbol (record { text = text; keyword = false }))
word-symbol [] some all is = absurd (omega arith)
word-symbol (c ∷ text) some all is =
    let both : (is_plain_char c ≡ true) × (list_all is_plain_char text ≡ true) = and_parts (is_plain_char c) (list_all is_plain_char text) all in
    record { first = c; more = text; is = refl; begins = plain-begins c both.0 is.0; all = plain-token_chars (c ∷ text) all; denotes = Means-symbol (c ∷ text) all is.1 }

word-keyword : (text : List ℕ) → 0 < length text → list_all is_plain_char text ≡ true → IsNameOf true text → Word (58 ∷ text) (symbol (record { text = text; keyword = true }))
word-keyword text some all is =
    record { first = 58; more = text; is = refl; begins = refl; all = plain-token_chars text all; denotes = Means-keyword text all (keyword-class text some is) }

word-kind : (text : List ℕ) (keyword : Bool) → 0 < length text → list_all is_plain_char text ≡ true → IsNameOf keyword text → Word (name_text (record { text = text; keyword = keyword })) (symbol (record { text = text; keyword = keyword }))
word-kind text true some all is = word-keyword text some all is
word-kind text false some all is = word-symbol text some all is

pub word-name : (name : Name) → IsPlainName name → Word (name_text name) (symbol name)
word-name name plain = word-kind name.text name.keyword plain.0 plain.1 plain.2

-- such a word spells its datum before what ends it
pub Spells-printed : (room : ℕ) (text rest : List ℕ) (d : Dat) → Word text d → prefix_len is_token_char rest ≡ 0 → Spells room (text ++ rest) d rest
Spells-printed room text rest d w stop =
    subst (λ (t : List ℕ). Spells room (t ++ rest) d rest) (sym w.is) (Spells-word room w.first w.more rest d w.begins w.all stop w.denotes)
