-- Strings at an offset of a text.
use Rattle.std.proofs.Common.{◌≡◌, ◌≢◌, ◌∙◌, ℕ, ◌+◌, ◌<◌, ◌≤◌, List, [], ◌∷◌, ◌++◌, length, get_or, take, drop, true, false, Bool, IsUtf8, refl, sym, ap, subst, arith, ◌&&◌, not, eqb, ne_eqb, cond, add-one, append_assoc, ◌-◌, ◌⊎◌, inl, inr}
use Rattle.std.specs.Str.{IsValidUpTo, chars}
use Rattle.std.specs.Prelude.{encode_utf8_all, encode_utf8}
use Rattle.std.proofs.lemmas.Bool.{eqb-true, false≢true}
use Rattle.std.proofs.lemmas.Str.{chars_past_char}
use Rattle.std.proofs.lemmas.List.{drop_all, drop-drop, length-drop, length-take-le, at_drop_more}
use Rattle.lisp_data.specs.Datum.{string}
use Rattle.lisp_tokens.specs.Fault.{end_inside, not_text}
use Rattle.lisp_tokens.specs.Memory.{Takes, a_string}
use Rattle.lisp_tokens.specs.Reading.{Spells, Fails, in_quotes, in_string, no_quote}
use Rattle.lisp_tokens.proofs.OnFront.{starts}
use Rattle.lisp_tokens.specs.Strings.{body_len, body, after_body, unescaped, characters}

-- one byte more of a body
pub body_len-step : (taken : Bool) (text : List ℕ) (at : ℕ) → at < length text → body_len taken (drop at text) ≡ cond (not taken && eqb (get_or text at 0) 34) 0 (body_len (not taken && eqb (get_or text at 0) 92) (drop (at + 1) text) + 1)
body_len-step taken text at within = at_drop_more (body_len taken) text at 0 within

pub body_len-le : (taken : Bool) (text : List ℕ) → body_len taken text ≤ length text
body_len-le taken [] = omega arith
body_len-le taken (b ∷ text) =
    let more = body_len-le (not taken && eqb b 92) text in
    elim (not taken && eqb b 34) as (λ t. cond t 0 (body_len (not taken && eqb b 92) text + 1) ≤ length (b ∷ text)) [ true ↦ omega arith | false ↦ omega arith ]

pub body_len-taken : (text : List ℕ) (at : ℕ) → at < length text → body_len true (drop at text) ≡ body_len false (drop (at + 1) text) + 1
body_len-taken text at within = body_len-step true text at within

pub body_len-backslash : (text : List ℕ) (at : ℕ) → at < length text → get_or text at 0 ≡ 92 → body_len false (drop at text) ≡ body_len true (drop (at + 1) text) + 1
body_len-backslash text at within is = rw is at (body_len-step false text at within)

pub body_len-plain : (text : List ℕ) (at : ℕ) → at < length text → get_or text at 0 ≢ 92 → get_or text at 0 ≢ 34 → body_len false (drop at text) ≡ body_len false (drop (at + 1) text) + 1
body_len-plain text at within no_backslash other =
    rw (ne_eqb _ _ no_backslash, ne_eqb _ _ other) at (body_len-step false text at within)

pub body_len-at_quote : (text : List ℕ) (at : ℕ) → at < length text → get_or text at 0 ≡ 34 → body_len false (drop at text) ≡ 0
body_len-at_quote text at within is = rw is at (body_len-step false text at within)

quote_cases : (t : Bool) (b n : ℕ) (text : List ℕ) → eqb b 34 ≡ t → (n < length text → get_or text n 0 ≡ 34) → cond t 0 (n + 1) < length (b ∷ text) → get_or (b ∷ text) (cond t 0 (n + 1)) 0 ≡ 34
quote_cases true b n text is later h = eqb-true b 34 is
quote_cases false b n text is later h = rw add-one (later (omega arith))

-- a body ends at a quote, unless the text ends first
pub body_len-quote : (taken : Bool) (text : List ℕ) → body_len taken text < length text → get_or text (body_len taken text) 0 ≡ 34
body_len-quote taken [] h = absurd (omega arith)
body_len-quote false (b ∷ text) h =
    quote_cases (eqb b 34) b (body_len (eqb b 92) text) text refl (body_len-quote (eqb b 92) text) h
body_len-quote true (b ∷ text) h = rw add-one (body_len-quote false text (omega arith))

-- a backslash that takes the next character is left out
pub written-backslash : (out written bs rest : List ℕ) (taken : Bool) (c : ℕ) → IsUtf8 bs → bs ≡ encode_utf8 c ++ rest → c ≡ 92 → taken ≡ false → out ++ encode_utf8_all (unescaped taken (chars bs)) ≡ written → out ++ encode_utf8_all (unescaped true (chars rest)) ≡ written
written-backslash out written bs rest taken c text split is first before =
    rw (first, chars_past_char bs rest c text split, is) at before

unescaped-kept : (taken : Bool) (c : ℕ) (cs : List ℕ) → (taken ≡ true) ⊎ (c ≢ 92) → unescaped taken (c ∷ cs) ≡ c ∷ unescaped false cs
unescaped-kept true c cs h = refl
unescaped-kept false c cs (inl absurdly) = absurd (false≢true absurdly)
unescaped-kept false c cs (inr other) = rw (ne_eqb c 92 other) refl

-- any other character is written as it is
pub written-kept : (out more written bs rest : List ℕ) (taken : Bool) (c : ℕ) → IsUtf8 bs → bs ≡ encode_utf8 c ++ rest → (taken ≡ true) ⊎ (c ≢ 92) → more ≡ out ++ encode_utf8 c → out ++ encode_utf8_all (unescaped taken (chars bs)) ≡ written → more ++ encode_utf8_all (unescaped false (chars rest)) ≡ written
written-kept out more written bs rest taken c text split kept pushed before =
    let here = rw (chars_past_char bs rest c text split, unescaped-kept taken c (chars rest) kept) at before in
    rw (pushed, append_assoc) here

-- ---- a string at an offset

pub Reads-string : (bytes : List ℕ) (room at len : ℕ) (text content : List ℕ) → at < length bytes → get_or bytes at 0 ≡ 34 → text ≡ drop (at + 1) bytes → len ≡ body_len false text → len ≤ length text → len ≢ length text → IsUtf8 (take len text) → content ≡ characters (take len text) → (at < at + 1 + len + 1) × (at + 1 + len + 1 ≤ length bytes) × Spells room (drop at bytes) (string content) (drop (at + 1 + len + 1) bytes)
Reads-string bytes room at len text content within is rest end fits more utf8 same =
    let n = at + 1 + len + 1 in
    let below : len < length text = omega arith in
    let quote : get_or text len 0 ≡ 34 = rw end (body_len-quote false text (rw (← end) below)) in
    let cut : drop (len + 1) text ≡ drop n bytes = ap (drop (len + 1)) rest ∙ (drop-drop (len + 1) (at + 1) bytes ∙ ap (λ (k : ℕ). drop k bytes) (omega arith)) in
    let after : after_body text ≡ 34 ∷ drop n bytes = ap (λ (k : ℕ). drop k text) (sym end) ∙ (starts text len 34 below quote ∙ ap (λ (t : List ℕ). 34 ∷ t) cut) in
    let utf8' : IsUtf8 (body text) = subst (λ (k : ℕ). IsUtf8 (take k text)) end utf8 in
    let holds : characters (body text) ≡ content = ap (λ (k : ℕ). characters (take k text)) (sym end) ∙ sym same in
    let here : Spells room (34 ∷ text) (string content) (drop n bytes) = subst (λ (s : List ℕ). Spells room (34 ∷ text) (string s) (drop n bytes)) holds (in_quotes room text (drop n bytes) utf8' after) in
    let e : 34 ∷ text ≡ drop at bytes = ap (λ (t : List ℕ). 34 ∷ t) rest ∙ sym (starts bytes at 34 within is) in
    let size : length text ≡ length bytes - (at + 1) = ap length rest ∙ length-drop (at + 1) bytes in
    (omega arith, omega arith, subst (λ (t : List ℕ). Spells room t (string content) (drop n bytes)) e here)

pub Fails-in_string : (bytes : List ℕ) (room at len n : ℕ) (text : List ℕ) → at < length bytes → get_or bytes at 0 ≡ 34 → text ≡ drop (at + 1) bytes → len ≡ body_len false text → len ≤ length text → IsValidUpTo (take len text) n → (at + 1 + n ≤ length bytes) × Fails room (drop at bytes) not_text (drop (at + 1 + n) bytes)
Fails-in_string bytes room at len n text within is rest end fits valid =
    let valid' : IsValidUpTo (body text) n = subst (λ (k : ℕ). IsValidUpTo (take k text) n) end valid in
    let e : 34 ∷ text ≡ drop at bytes = ap (λ (t : List ℕ). 34 ∷ t) rest ∙ sym (starts bytes at 34 within is) in
    let place : drop n text ≡ drop (at + 1 + n) bytes = ap (drop n) rest ∙ drop-drop n (at + 1) bytes in
    let here : Fails room (34 ∷ text) not_text (drop (at + 1 + n) bytes) = subst (λ (t : List ℕ). Fails room (34 ∷ text) not_text t) place (in_string room text n valid') in
    let size : length text ≡ length bytes - (at + 1) = ap length rest ∙ length-drop (at + 1) bytes in
    let short = valid.short in
    let front = length-take-le len text fits in
    (omega arith, subst (λ (t : List ℕ). Fails room t not_text (drop (at + 1 + n) bytes)) e here)

pub Fails-no_quote : (bytes : List ℕ) (room at len : ℕ) (text : List ℕ) → at < length bytes → get_or bytes at 0 ≡ 34 → text ≡ drop (at + 1) bytes → len ≡ body_len false text → len ≡ length text → IsUtf8 (take len text) → (length bytes ≤ length bytes) × Fails room (drop at bytes) end_inside (drop (length bytes) bytes)
Fails-no_quote bytes room at len text within is rest end all utf8 =
    let utf8' : IsUtf8 (body text) = subst (λ (k : ℕ). IsUtf8 (take k text)) end utf8 in
    let after : after_body text ≡ [] = drop_all (body_len false text) text (omega arith) in
    let e : 34 ∷ text ≡ drop at bytes = ap (λ (t : List ℕ). 34 ∷ t) rest ∙ sym (starts bytes at 34 within is) in
    let none : drop (length bytes) bytes ≡ [] = drop_all (length bytes) bytes (omega arith) in
    let here : Fails room (drop at bytes) end_inside [] = subst (λ (t : List ℕ). Fails room t end_inside []) e (no_quote room text utf8' after) in
    (omega arith, subst (λ (t : List ℕ). Fails room (drop at bytes) end_inside t) (sym none) here)

-- it takes memory
pub Takes-string : (bytes : List ℕ) (room at len : ℕ) (text : List ℕ) → at < length bytes → get_or bytes at 0 ≡ 34 → text ≡ drop (at + 1) bytes → len ≡ body_len false text → len ≤ length text → len ≢ length text → IsUtf8 (take len text) → Takes room (drop at bytes)
Takes-string bytes room at len text within is rest end fits more utf8 =
    let below : len < length text = omega arith in
    let quote : get_or text len 0 ≡ 34 = rw end (body_len-quote false text (rw (← end) below)) in
    let after : after_body text ≡ 34 ∷ drop (len + 1) text = ap (λ (k : ℕ). drop k text) (sym end) ∙ starts text len 34 below quote in
    let utf8' : IsUtf8 (body text) = subst (λ (k : ℕ). IsUtf8 (take k text)) end utf8 in
    let e : 34 ∷ text ≡ drop at bytes = ap (λ (t : List ℕ). 34 ∷ t) rest ∙ sym (starts bytes at 34 within is) in
    subst (Takes room) e (a_string room text (drop (len + 1) text) utf8' after)
