-- A text and the lines that follow it: what is read of the text stays as it is, and so does its fault.
use Rattle.std.proofs.Common.{◌≡◌, ◌≢◌, ◌∙◌, ℕ, zero, suc, ◌+◌, ◌-◌, ◌<◌, ◌≤◌, Bool, true, false, cond, ◌&&◌, not, List, [], ◌∷◌, ◌++◌, length, get_or, take, drop, IsUtf8, refl, sym, ap, subst, arith, eqb, ◌⊎◌, inl, inr}
use Rattle.std.specs.Bool.{⊤}
use Rattle.std.specs.Str.{IsValidUpTo}
use Rattle.std.proofs.Math.Seq.{take-append_seam}
use Rattle.std.proofs.lemmas.Str.{IsUtf8-take, IsCharBoundary-before_ascii}
use Rattle.lisp_tokens.proofs.OnComments.{Many, Many-open, open-Many, Many-close, close-Many, Many-other, other-Many, Many-one, one-Many, closes-none}
use Rattle.std.specs.List.{prefix_len}
use Rattle.std.proofs.lemmas.Bool.{false≢true, cases_lt}
use Rattle.std.proofs.lemmas.List.{take-append-le, drop-append-le, length-drop, length-append, length-take-le, take_all}
use Rattle.std.proofs.lemmas.List.Sums.{prefix_len-le-length}
use Rattle.lisp_data.specs.Datum.{Dat, string}
use Rattle.lisp_reader.specs.Answers.{FaultStays, in_gaps, unfinished, in_datum, most_open}
use Rattle.lisp_tokens.specs.Characters.{is_token_char, goes_on, begins_with}
use Rattle.lisp_tokens.specs.Fault.{Kind, end_inside, stray_close, bad_token, bad_dot, bad_hash, too_deep, not_text}
use Rattle.lisp_tokens.specs.Gaps.{Gaps, GapFails, no_more, blank, comment, block, here, in_block, in_open_block, open_block, after_blank, after_comment, after_block, line, after_line, is_in_line, begins_gap, opens_comment, closes_comment, Closes, Unclosed, mark, nested, other}
use Rattle.lisp_tokens.specs.Prefix.{HasPrefix, quote, function, backquote, comma, splice, extends_comma}
use Rattle.lisp_tokens.specs.Reading.{Spells, Items, Tail, Fails, TailFails, EndFails, NoDatum, BeginsDatum, of_token, in_quotes, in_parentheses, with_dot, prefixed, none, more, tail, at_end, at_close, at_hash, at_comma, at_token, at_other, a_token, a_string, a_list, a_prefix, before_end, second, no_close, at_front, list_too_deep, prefix_too_deep, no_quote, in_string, in_item, before_item, after_dot, in_prefixed, after_prefix, before_tail, no_tail, in_tail, after_tail, closes, dot_fits}
use Rattle.lisp_tokens.specs.Strings.{body_len, body, after_body, characters}
use Rattle.lisp_tokens.specs.Token.{run, Denotes, DenotesNone}
use Rattle.lisp_reader.proofs.OneReading.{spells-none}
use Rattle.lisp_tokens.proofs.OnStrings.{body_len-le}

-- ---- a newline ends a token and a line

prefix_len-more : (p : ℕ → Bool) (t m : List ℕ) → p 10 ≡ false → prefix_len p (t ++ (10 ∷ m)) ≡ prefix_len p t
prefix_len-more p [] m ends = rw ends refl
prefix_len-more p (c ∷ t) m ends = ap (λ (n : ℕ). cond (p c) (1 + n) 0) (prefix_len-more p t m ends)

take-more : (p : ℕ → Bool) (t m : List ℕ) → p 10 ≡ false → take (prefix_len p (t ++ (10 ∷ m))) (t ++ (10 ∷ m)) ≡ take (prefix_len p t) t
take-more p t m ends =
    ap (λ (n : ℕ). take n (t ++ (10 ∷ m))) (prefix_len-more p t m ends) ∙ take-append-le (prefix_len p t) t (10 ∷ m) (prefix_len-le-length p t)

drop-more : (p : ℕ → Bool) (t m : List ℕ) → p 10 ≡ false → drop (prefix_len p (t ++ (10 ∷ m))) (t ++ (10 ∷ m)) ≡ drop (prefix_len p t) t ++ (10 ∷ m)
drop-more p t m ends =
    ap (λ (n : ℕ). drop n (t ++ (10 ∷ m))) (prefix_len-more p t m ends) ∙ drop-append-le (prefix_len p t) t (10 ∷ m) (prefix_len-le-length p t)

-- ---- gaps

Closes-le : (t : List ℕ) (n : ℕ) → Closes t n → n ≤ length t
Closes-le _ _ (mark t) = omega arith
Closes-le _ _ (nested t k n first rest) =
    omega (arith, Closes-le t k first, Closes-le (drop k t) n rest, length-drop k t)
Closes-le _ _ (other b t n _ _ rest) = omega (arith, Closes-le t n rest)

Closes-more : (t m : List ℕ) (n : ℕ) → Closes t n → Closes (t ++ (10 ∷ m)) n
Closes-more _ m _ (mark t) = mark (t ++ (10 ∷ m))
Closes-more _ m _ (nested t k n first rest) =
    let e : drop k (t ++ (10 ∷ m)) ≡ drop k t ++ (10 ∷ m) = drop-append-le k t (10 ∷ m) (Closes-le t k first) in
    nested (t ++ (10 ∷ m)) k n (Closes-more t m k first) (subst (λ (x : List ℕ). Closes x n) (sym e) (Closes-more (drop k t) m n rest))
Closes-more _ m _ (other b [] n opens shuts rest) = absurd (closes-none n rest)
Closes-more _ m _ (other b (c ∷ t) n opens shuts rest) = other b (c ∷ (t ++ (10 ∷ m))) n opens shuts (Closes-more (c ∷ t) m n rest)

begins_gap-more : (t m : List ℕ) → t ≢ [] → begins_gap t ≡ false → begins_gap (t ++ (10 ∷ m)) ≡ false
begins_gap-more [] m some is = absurd (some refl)
begins_gap-more (b ∷ []) m some is = is
begins_gap-more (b ∷ c ∷ t) m some is = is

Gaps-more : (t m rest : List ℕ) → rest ≢ [] → Gaps t rest → Gaps (t ++ (10 ∷ m)) (rest ++ (10 ∷ m))
Gaps-more _ m rest some (no_more t is) = no_more (t ++ (10 ∷ m)) (begins_gap-more t m some is)
Gaps-more _ m rest some (blank b t _ is gaps) = blank b (t ++ (10 ∷ m)) (rest ++ (10 ∷ m)) is (Gaps-more t m rest some gaps)
Gaps-more _ m rest some (comment t _ utf8 gaps) =
    let utf8' : IsUtf8 (line (t ++ (10 ∷ m))) = subst IsUtf8 (sym (take-more is_in_line t m refl)) utf8 in
    let gaps' : Gaps (after_line (t ++ (10 ∷ m))) (rest ++ (10 ∷ m)) = subst (λ (x : List ℕ). Gaps x (rest ++ (10 ∷ m))) (sym (drop-more is_in_line t m refl)) (Gaps-more (after_line t) m rest some gaps) in
    comment (t ++ (10 ∷ m)) (rest ++ (10 ∷ m)) utf8' gaps'
Gaps-more _ m rest some (block t n _ shut utf8 gaps) =
    let fits = Closes-le t n shut in
    let utf8' : IsUtf8 (take n (t ++ (10 ∷ m))) = subst IsUtf8 (sym (take-append-le n t (10 ∷ m) fits)) utf8 in
    let gaps' : Gaps (drop n (t ++ (10 ∷ m))) (rest ++ (10 ∷ m)) = subst (λ (x : List ℕ). Gaps x (rest ++ (10 ∷ m))) (sym (drop-append-le n t (10 ∷ m) fits)) (Gaps-more (drop n t) m rest some gaps) in
    block (t ++ (10 ∷ m)) n (rest ++ (10 ∷ m)) (Closes-more t m n shut) utf8' gaps'

-- ---- a byte that is no text stays none

get-seam : (t y : List ℕ) → get_or (t ++ (10 ∷ y)) (length t) 0 ≡ 10
get-seam [] y = refl
get-seam (b ∷ t) y = get-seam t y

-- a text before a newline is a text
utf8-before : (t y : List ℕ) → IsUtf8 (t ++ (10 ∷ y)) → IsUtf8 t
utf8-before t y utf8 =
    let within : length t < length (t ++ (10 ∷ y)) = omega (arith, length-append t (10 ∷ y)) in
    let low : get_or (t ++ (10 ∷ y)) (length t) 0 < 128 = rw (get-seam t y) (omega arith) in
    subst IsUtf8 (take-append_seam t (10 ∷ y)) (IsUtf8-take (t ++ (10 ∷ y)) (length t) utf8 (IsCharBoundary-before_ascii (t ++ (10 ∷ y)) (length t) within low))

take-past : (t m : List ℕ) (k : ℕ) → length t < k → (y : List ℕ) × (take k (t ++ (10 ∷ m)) ≡ t ++ (10 ∷ y))
take-past [] m zero past = absurd (omega arith)
take-past [] m (suc k) past = (take k m, refl)
take-past (b ∷ t) m zero past = absurd (omega arith)
take-past (b ∷ t) m (suc k) past =
    let more = take-past t m k (omega arith) in
    (more.0, ap (λ (l : List ℕ). b ∷ l) more.1)

valid-more : (t m : List ℕ) (n : ℕ) → IsValidUpTo t n → IsValidUpTo (t ++ (10 ∷ m)) n
valid-more t m n valid =
    let short = valid.short in
    record {
      short = omega (arith, length-append t (10 ∷ m));
      front = subst IsUtf8 (sym (take-append-le n t (10 ∷ m) (omega arith))) valid.front;
      longest = λ k above utf8. elim (cases_lt (length t) k) [
        | inl past ↦
            let cut = take-past t m k past in
            let whole : IsUtf8 t = utf8-before t cut.0 (subst IsUtf8 cut.1 utf8) in
            valid.longest (length t) short (subst IsUtf8 (sym (take_all (length t) t (omega arith))) whole)
        | inr within ↦ valid.longest k above (subst IsUtf8 (take-append-le k t (10 ∷ m) within) utf8)
      ];
    }

-- whether a mark closes so many comments
abbrev Decided : ℕ → List ℕ → Type 0
Decided k t = ((n : ℕ) × Many (suc k) t n) ⊎ ((n : ℕ) → Many (suc k) t n → ⊥)

decided-by : (b : ℕ) (t : List ℕ) → ((k : ℕ) → Decided k (drop 2 (b ∷ t))) → ((k : ℕ) → Decided k t) → (o : Bool) → opens_comment (b ∷ t) ≡ o → (c : Bool) → closes_comment (b ∷ t) ≡ c → (k : ℕ) → Decided k (b ∷ t)
decided-by b t two one true opening c shutting k = elim (two (suc k)) [
  | inl way ↦ inl (2 + way.0, Many-open k (b ∷ t) way.0 opening way.1)
  | inr never ↦ inr (λ n way. let inside = open-Many k (b ∷ t) n opening way in never inside.0 inside.1)
]
decided-by b t two one false opening true shutting zero = inl (2, Many-close zero (b ∷ t) 0 shutting refl)
decided-by b t two one false opening true shutting (suc k) = elim (two k) [
  | inl way ↦ inl (2 + way.0, Many-close (suc k) (b ∷ t) way.0 shutting way.1)
  | inr never ↦ inr (λ n way. let outside = close-Many (suc k) (b ∷ t) n shutting way in never outside.0 outside.1)
]
decided-by b t two one false opening false shutting k = elim (one k) [
  | inl way ↦ inl (way.0 + 1, Many-other k b t way.0 opening shutting way.1)
  | inr never ↦ inr (λ n way. let later = other-Many k b t n opening shutting way in never later.0 later.1)
]

decided : (fuel : ℕ) (t : List ℕ) → length t ≤ fuel → (k : ℕ) → Decided k t
decided fuel [] fits k = inr (λ n way. closes-none way.0 way.2)
decided zero (b ∷ t) fits k = absurd (omega arith)
decided (suc fuel) (b ∷ t) fits k =
    decided-by b t (decided fuel (drop 2 (b ∷ t)) (omega (arith, length-drop 2 (b ∷ t), fits))) (decided fuel t (omega arith)) (opens_comment (b ∷ t)) refl (closes_comment (b ∷ t)) refl k

-- a comment that closes within a front of the text closes in that front
closes-cut : (u t x : List ℕ) (n : ℕ) → Closes u n → u ≡ t ++ x → n ≤ length t → Closes t n
closes-cut _ [] x _ (mark r) e fits = absurd (omega arith)
closes-cut _ (a ∷ []) x _ (mark r) e fits = absurd (omega arith)
closes-cut _ (a ∷ b ∷ t) x _ (mark r) e fits =
    let one : 124 ≡ a = ap (λ (l : List ℕ). get_or l 0 0) e in
    let two : 35 ≡ b = ap (λ (l : List ℕ). get_or l 1 0) e in
    rw (← one, ← two) (mark t)
closes-cut _ [] x _ (nested r i j first rest) e fits = absurd (omega arith)
closes-cut _ (a ∷ []) x _ (nested r i j first rest) e fits = absurd (omega arith)
closes-cut _ (a ∷ b ∷ t) x _ (nested r i j first rest) e fits =
    let one : 35 ≡ a = ap (λ (l : List ℕ). get_or l 0 0) e in
    let two : 124 ≡ b = ap (λ (l : List ℕ). get_or l 1 0) e in
    let same : r ≡ t ++ x = ap (drop 2) e in
    let inner : Closes t i = closes-cut r t x i first same (omega arith) in
    let same' : drop i r ≡ drop i t ++ x = ap (drop i) same ∙ drop-append-le i t x (omega arith) in
    let outer : Closes (drop i t) j = closes-cut (drop i r) (drop i t) x j rest same' (omega (arith, length-drop i t)) in
    rw (← one, ← two) (nested t i j inner outer)
closes-cut _ [] x _ (other b r n opens shuts rest) e fits = absurd (omega arith)
closes-cut _ (a ∷ t) x _ (other b r n opens shuts rest) e fits =
    let one : b ≡ a = ap (λ (l : List ℕ). get_or l 0 0) e in
    let same : r ≡ t ++ x = ap (drop 1) e in
    let later : Closes t n = closes-cut r t x n rest same (omega arith) in
    let opens' : opens_comment (a ∷ (t ++ x)) ≡ false = ap opens_comment (sym e) ∙ opens in
    let shuts' : closes_comment (a ∷ (t ++ x)) ≡ false = ap closes_comment (sym e) ∙ shuts in
    plain a t x n opens' shuts' later
  where
    plain : (a : ℕ) (t x : List ℕ) (n : ℕ) → opens_comment (a ∷ (t ++ x)) ≡ false → closes_comment (a ∷ (t ++ x)) ≡ false → Closes t n → Closes (a ∷ t) (n + 1)
    plain a [] x n opens shuts later = absurd (closes-none n later)
    plain a (c ∷ t) x n opens shuts later = other a (c ∷ t) n opens shuts later

open-more : (t m : List ℕ) (n : ℕ) → Unclosed t → IsValidUpTo t n → GapFails (35 ∷ 124 ∷ (t ++ (10 ∷ m))) not_text (drop n (t ++ (10 ∷ m)))
open-more t m n unclosed valid = elim (decided (length (t ++ (10 ∷ m))) (t ++ (10 ∷ m)) (omega arith) zero) [
  | inl way ↦
      let shut : Closes (t ++ (10 ∷ m)) way.0 = Many-one (t ++ (10 ∷ m)) way.0 way.1 in
      elim (cases_lt (length t) way.0) [
        | inl past ↦
            let cut = take-past t m way.0 past in
            in_block (t ++ (10 ∷ m)) way.0 n shut (subst (λ (x : List ℕ). IsValidUpTo x n) (sym cut.1) (valid-more t cut.0 n valid))
        | inr within ↦ absurd (unclosed way.0 (closes-cut (t ++ (10 ∷ m)) t (10 ∷ m) way.0 shut refl within))
      ]
  | inr never ↦ in_open_block (t ++ (10 ∷ m)) n (λ k shut. never k (one-Many (t ++ (10 ∷ m)) k shut)) (valid-more t m n valid)
]

-- a fault of any kind but that of an end inside
abbrev Stays : Kind → Type 0
Stays end_inside = ⊥
Stays stray_close = ⊤
Stays bad_token = ⊤
Stays bad_dot = ⊤
Stays bad_hash = ⊤
Stays too_deep = ⊤
Stays not_text = ⊤

stays-other : (kind : Kind) → kind ≢ end_inside → Stays kind
stays-other end_inside no_end = absurd (no_end refl)
stays-other stray_close no_end = tt
stays-other bad_token no_end = tt
stays-other bad_dot no_end = tt
stays-other bad_hash no_end = tt
stays-other too_deep no_end = tt
stays-other not_text no_end = tt

place-more : (t m : List ℕ) (n : ℕ) → n ≤ length t → drop n (t ++ (10 ∷ m)) ≡ drop n t ++ (10 ∷ m)
place-more t m n fits = drop-append-le n t (10 ∷ m) fits

GapFails-more : (t : List ℕ) (kind : Kind) (at m : List ℕ) → Stays kind → GapFails t kind at → GapFails (t ++ (10 ∷ m)) kind (at ++ (10 ∷ m))
GapFails-more _ _ _ m stays (here t n valid) =
    let short = valid.short in
    let fits : n ≤ length t = omega (arith, length-take-le (prefix_len is_in_line t) t (prefix_len-le-length is_in_line t), prefix_len-le-length is_in_line t) in
    let valid' : IsValidUpTo (line (t ++ (10 ∷ m))) n = subst (λ (x : List ℕ). IsValidUpTo x n) (sym (take-more is_in_line t m refl)) valid in
    subst (λ (x : List ℕ). GapFails (59 ∷ (t ++ (10 ∷ m))) not_text x) (place-more t m n fits) (here (t ++ (10 ∷ m)) n valid')
GapFails-more _ _ _ m stays (in_block t k n shut valid) =
    let short = valid.short in
    let inside = Closes-le t k shut in
    let fits : n ≤ length t = omega (arith, length-take-le k t inside) in
    let valid' : IsValidUpTo (take k (t ++ (10 ∷ m))) n = subst (λ (x : List ℕ). IsValidUpTo x n) (sym (take-append-le k t (10 ∷ m) inside)) valid in
    subst (λ (x : List ℕ). GapFails (35 ∷ 124 ∷ (t ++ (10 ∷ m))) not_text x) (place-more t m n fits) (in_block (t ++ (10 ∷ m)) k n (Closes-more t m k shut) valid')
GapFails-more _ _ _ m stays (in_open_block t n unclosed valid) =
    let short = valid.short in
    subst (λ (x : List ℕ). GapFails (35 ∷ 124 ∷ (t ++ (10 ∷ m))) not_text x) (place-more t m n (omega arith)) (open-more t m n unclosed valid)
GapFails-more _ _ _ m stays (open_block _ _ _) = absurd stays
GapFails-more _ _ _ m stays (after_blank b t kind at is fails) = after_blank b (t ++ (10 ∷ m)) kind (at ++ (10 ∷ m)) is (GapFails-more t kind at m stays fails)
GapFails-more _ _ _ m stays (after_comment t kind at utf8 fails) =
    let utf8' : IsUtf8 (line (t ++ (10 ∷ m))) = subst IsUtf8 (sym (take-more is_in_line t m refl)) utf8 in
    let fails' : GapFails (after_line (t ++ (10 ∷ m))) kind (at ++ (10 ∷ m)) = subst (λ (x : List ℕ). GapFails x kind (at ++ (10 ∷ m))) (sym (drop-more is_in_line t m refl)) (GapFails-more (after_line t) kind at m stays fails) in
    after_comment (t ++ (10 ∷ m)) kind (at ++ (10 ∷ m)) utf8' fails'
GapFails-more _ _ _ m stays (after_block t n kind at shut utf8 fails) =
    let fits = Closes-le t n shut in
    let utf8' : IsUtf8 (take n (t ++ (10 ∷ m))) = subst IsUtf8 (sym (take-append-le n t (10 ∷ m) fits)) utf8 in
    let fails' : GapFails (drop n (t ++ (10 ∷ m))) kind (at ++ (10 ∷ m)) = subst (λ (x : List ℕ). GapFails x kind (at ++ (10 ∷ m))) (sym (drop-append-le n t (10 ∷ m) fits)) (GapFails-more (drop n t) kind at m stays fails) in
    after_block (t ++ (10 ∷ m)) n kind (at ++ (10 ∷ m)) (Closes-more t m n shut) utf8' fails'

-- ---- strings and prefixes

body_len-by : (ends : Bool) (n k l : ℕ) → (n < l → k ≡ n) → cond ends 0 (n + 1) < l + 1 → cond ends 0 (k + 1) ≡ cond ends 0 (n + 1)
body_len-by true n k l same within = refl
body_len-by false n k l same within = ap (λ (i : ℕ). i + 1) (same (omega arith))

body_len-more : (taken : Bool) (t m : List ℕ) → body_len taken t < length t → body_len taken (t ++ m) ≡ body_len taken t
body_len-more taken [] m within = absurd (omega arith)
body_len-more taken (b ∷ t) m within =
    let next = not taken && eqb b 92 in
    let within' : cond (not taken && eqb b 34) 0 (body_len next t + 1) < length t + 1 = omega (arith, within) in
    body_len-by (not taken && eqb b 34) (body_len next t) (body_len next (t ++ m)) (length t) (body_len-more next t m) within'

string-more : (room : ℕ) (t m rest : List ℕ) → IsUtf8 (body t) → after_body t ≡ 34 ∷ rest → Spells room (34 ∷ (t ++ m)) (string (characters (body t))) (rest ++ m)
string-more room t m rest utf8 after =
    let n = body_len false t in
    let fits = body_len-le false t in
    let within : n < length t = omega (arith, length-drop n t, ap length after) in
    let e : body_len false (t ++ m) ≡ n = body_len-more false t m within in
    let is : body (t ++ m) ≡ body t = ap (λ (k : ℕ). take k (t ++ m)) e ∙ take-append-le n t m fits in
    let after' : after_body (t ++ m) ≡ 34 ∷ (rest ++ m) = ap (λ (k : ℕ). drop k (t ++ m)) e ∙ (drop-append-le n t m fits ∙ ap (λ (x : List ℕ). x ++ m) after) in
    subst (λ (x : List ℕ). Spells room (34 ∷ (t ++ m)) (string (characters x)) (rest ++ m)) is (in_quotes room (t ++ m) (rest ++ m) (subst IsUtf8 (sym is) utf8) after')

past-by : (ends : Bool) (l n k : ℕ) → (l ≤ n → l < k) → l + 1 ≤ cond ends 0 (n + 1) → l + 1 < cond ends 0 (k + 1)
past-by true l n k next all = absurd (omega arith)
past-by false l n k next all =
    let below = next (omega arith) in
    omega arith

body_len-past : (taken : Bool) (t m : List ℕ) → length t ≤ body_len taken t → length t < body_len taken (t ++ (10 ∷ m))
body_len-past true [] m all = omega arith
body_len-past false [] m all = omega arith
body_len-past taken (b ∷ t) m all =
    let next = not taken && eqb b 92 in
    let all' : length t + 1 ≤ cond (not taken && eqb b 34) 0 (body_len next t + 1) = omega (arith, all) in
    let past = past-by (not taken && eqb b 34) (length t) (body_len next t) (body_len next (t ++ (10 ∷ m))) (body_len-past next t m) all' in
    omega (arith, past)

ill_formed-more : (t m : List ℕ) (n : ℕ) → IsValidUpTo (body t) n → IsValidUpTo (body (t ++ (10 ∷ m))) n
ill_formed-more t m n valid = elim (cases_lt (body_len false t) (length t)) [
  | inl within ↦
      let is : body (t ++ (10 ∷ m)) ≡ body t = ap (λ (k : ℕ). take k (t ++ (10 ∷ m))) (body_len-more false t (10 ∷ m) within) ∙ take-append-le (body_len false t) t (10 ∷ m) (body_len-le false t) in
      subst (λ (x : List ℕ). IsValidUpTo x n) (sym is) valid
  | inr all ↦
      let whole : body t ≡ t = take_all (body_len false t) t all in
      let cut = take-past t m (body_len false (t ++ (10 ∷ m))) (body_len-past false t m all) in
      subst (λ (x : List ℕ). IsValidUpTo x n) (sym cut.1) (valid-more t cut.0 n (subst (λ (x : List ℕ). IsValidUpTo x n) whole valid))
]

string-fails : (room : ℕ) (t m : List ℕ) (n : ℕ) → IsValidUpTo (body t) n → Fails room (34 ∷ (t ++ (10 ∷ m))) not_text (drop n t ++ (10 ∷ m))
string-fails room t m n valid =
    let short = valid.short in
    let fits : n ≤ length t = omega (arith, length-take-le (body_len false t) t (body_len-le false t), body_len-le false t) in
    subst (λ (x : List ℕ). Fails room (34 ∷ (t ++ (10 ∷ m))) not_text x) (place-more t m n fits) (in_string room (t ++ (10 ∷ m)) n (ill_formed-more t m n valid))

extends_comma-more : (t m : List ℕ) → extends_comma t ≡ false → extends_comma (t ++ (10 ∷ m)) ≡ false
extends_comma-more [] m is = refl
extends_comma-more (b ∷ t) m is = is

HasPrefix-more : (t operator after m : List ℕ) → HasPrefix t operator after → HasPrefix (t ++ (10 ∷ m)) operator (after ++ (10 ∷ m))
HasPrefix-more _ _ _ m (quote t) = quote (t ++ (10 ∷ m))
HasPrefix-more _ _ _ m (function t) = function (t ++ (10 ∷ m))
HasPrefix-more _ _ _ m (backquote t) = backquote (t ++ (10 ∷ m))
HasPrefix-more _ _ _ m (comma t alone) = comma (t ++ (10 ∷ m)) (extends_comma-more t m alone)
HasPrefix-more _ _ _ m (splice t) = splice (t ++ (10 ∷ m))

goes_on-more : (t m : List ℕ) → goes_on (t ++ (10 ∷ m)) ≡ goes_on t
goes_on-more [] m = refl
goes_on-more (b ∷ t) m = refl

closes-more : (t m : List ℕ) → closes (t ++ (10 ∷ m)) ≡ closes t
closes-more [] m = refl
closes-more (b ∷ t) m = refl

dot_fits-more : (ds : List Dat) (t m : List ℕ) → dot_fits ds (t ++ (10 ∷ m)) ≡ dot_fits ds t
dot_fits-more [] t m = refl
dot_fits-more (d ∷ ds) [] m = refl
dot_fits-more (d ∷ ds) (b ∷ t) m = rw (goes_on-more t m) refl

-- ---- data

spells-some : (room : ℕ) (t : List ℕ) (d : Dat) (rest : List ℕ) → Spells room t d rest → t ≢ []
spells-some room t d rest spells e = spells-none room d rest (subst (λ (x : List ℕ). Spells room x d rest) e spells)

cons-some : (b : ℕ) (t : List ℕ) → b ∷ t ≢ []
cons-some b t e = absurd cc

mutual
  Spells-more : (room : ℕ) (t : List ℕ) (d : Dat) (rest m : List ℕ) → Spells room t d rest → Spells room (t ++ (10 ∷ m)) d (rest ++ (10 ∷ m))
  Spells-more room _ d _ m (of_token _ b t _ is denotes) =
      let denotes' : Denotes (run (b ∷ (t ++ (10 ∷ m)))) d = subst (λ (x : List ℕ). Denotes x d) (sym (take-more is_token_char (b ∷ t) m refl)) denotes in
      subst (λ (x : List ℕ). Spells room (b ∷ (t ++ (10 ∷ m))) d x) (drop-more is_token_char (b ∷ t) m refl) (of_token room b (t ++ (10 ∷ m)) d is denotes')
  Spells-more room _ _ rest m (in_quotes _ t _ utf8 after) = string-more room t (10 ∷ m) rest utf8 after
  Spells-more room _ _ rest m (in_parentheses _ t ds last _ some items gaps) =
      in_parentheses room (t ++ (10 ∷ m)) ds (last ++ (10 ∷ m)) (rest ++ (10 ∷ m)) some (Items-more (room - 1) t ds last m items) (Gaps-more last m (41 ∷ rest) (cons-some 41 rest) gaps)
  Spells-more room _ _ rest m (with_dot _ t ds last after d _ some items gaps fits ending) =
      with_dot room (t ++ (10 ∷ m)) ds (last ++ (10 ∷ m)) (after ++ (10 ∷ m)) d (rest ++ (10 ∷ m)) some (Items-more (room - 1) t ds last m items) (Gaps-more last m (46 ∷ after) (cons-some 46 after) gaps) (dot_fits-more ds (46 ∷ after) m ∙ fits) (Tail-more (room - 1) after d rest m ending)
  Spells-more room _ _ rest m (prefixed _ t operator after start d _ some prefix gaps spells) =
      prefixed room (t ++ (10 ∷ m)) operator (after ++ (10 ∷ m)) (start ++ (10 ∷ m)) d (rest ++ (10 ∷ m)) some (HasPrefix-more t operator after m prefix) (Gaps-more after m start (spells-some (room - 1) start d rest spells) gaps) (Spells-more (room - 1) start d rest m spells)

  Items-more : (room : ℕ) (t : List ℕ) (ds : List Dat) (rest m : List ℕ) → Items room t ds rest → Items room (t ++ (10 ∷ m)) ds (rest ++ (10 ∷ m))
  Items-more room t _ _ m (none _ _) = none room (t ++ (10 ∷ m))
  Items-more room t _ rest m (more _ _ start d after ds _ gaps spells items) =
      more room (t ++ (10 ∷ m)) (start ++ (10 ∷ m)) d (after ++ (10 ∷ m)) ds (rest ++ (10 ∷ m)) (Gaps-more t m start (spells-some room start d after spells) gaps) (Spells-more room start d after m spells) (Items-more room after ds rest m items)

  Tail-more : (room : ℕ) (t : List ℕ) (d : Dat) (rest m : List ℕ) → Tail room t d rest → Tail room (t ++ (10 ∷ m)) d (rest ++ (10 ∷ m))
  Tail-more room t d rest m (tail _ _ start _ end _ gaps spells ending) =
      tail room (t ++ (10 ∷ m)) (start ++ (10 ∷ m)) d (end ++ (10 ∷ m)) (rest ++ (10 ∷ m)) (Gaps-more t m start (spells-some room start d end spells) gaps) (Spells-more room start d end m spells) (Gaps-more end m (41 ∷ rest) (cons-some 41 rest) ending)

-- ---- faults

begins_with-more : (b : ℕ) (t m : List ℕ) → eqb 10 b ≡ false → begins_with b t ≡ false → begins_with b (t ++ (10 ∷ m)) ≡ false
begins_with-more b [] m no_newline is = no_newline
begins_with-more b (c ∷ t) m no_newline is = is

NoDatum-more : (t : List ℕ) (kind : Kind) (m : List ℕ) → Stays kind → NoDatum t kind → NoDatum (t ++ (10 ∷ m)) kind
NoDatum-more _ _ m stays at_end = absurd stays
NoDatum-more _ _ m stays (at_close t) = at_close (t ++ (10 ∷ m))
NoDatum-more _ _ m stays (at_hash t is) = at_hash (t ++ (10 ∷ m)) (begins_with-more 39 t m refl is)
NoDatum-more _ _ m stays (at_comma t) = at_comma (t ++ (10 ∷ m))
NoDatum-more _ _ m stays (at_token b t kind is denotes) =
    at_token b (t ++ (10 ∷ m)) kind is (subst (λ (x : List ℕ). DenotesNone x kind) (sym (take-more is_token_char (b ∷ t) m refl)) denotes)
NoDatum-more _ _ m stays (at_other b t is) = at_other b (t ++ (10 ∷ m)) is

NoDatum-some : (t : List ℕ) (kind : Kind) → Stays kind → NoDatum t kind → t ≢ []
NoDatum-some _ _ stays at_end e = stays
NoDatum-some _ _ stays (at_close t) e = absurd cc
NoDatum-some _ _ stays (at_hash t is) e = absurd cc
NoDatum-some _ _ stays (at_comma t) e = absurd cc
NoDatum-some _ _ stays (at_token b t kind is denotes) e = absurd cc
NoDatum-some _ _ stays (at_other b t is) e = absurd cc

HasPrefix-some : (t operator after : List ℕ) → HasPrefix t operator after → t ≢ []
HasPrefix-some _ _ _ (quote t) e = absurd cc
HasPrefix-some _ _ _ (function t) e = absurd cc
HasPrefix-some _ _ _ (backquote t) e = absurd cc
HasPrefix-some _ _ _ (comma t alone) e = absurd cc
HasPrefix-some _ _ _ (splice t) e = absurd cc

BeginsDatum-more : (t m : List ℕ) → BeginsDatum t → BeginsDatum (t ++ (10 ∷ m))
BeginsDatum-more _ m (a_token b t d is denotes) =
    a_token b (t ++ (10 ∷ m)) d is (subst (λ (x : List ℕ). Denotes x d) (sym (take-more is_token_char (b ∷ t) m refl)) denotes)
BeginsDatum-more _ m (a_string t) = a_string (t ++ (10 ∷ m))
BeginsDatum-more _ m (a_list t) = a_list (t ++ (10 ∷ m))
BeginsDatum-more _ m (a_prefix t operator after prefix) =
    a_prefix (t ++ (10 ∷ m)) operator (after ++ (10 ∷ m)) (HasPrefix-more t operator after m prefix)

BeginsDatum-some : (t : List ℕ) → BeginsDatum t → t ≢ []
BeginsDatum-some _ (a_token b t d is denotes) e = absurd cc
BeginsDatum-some _ (a_string t) e = absurd cc
BeginsDatum-some _ (a_list t) e = absurd cc
BeginsDatum-some _ (a_prefix t operator after prefix) e = HasPrefix-some t operator after prefix e

EndFails-more : (t : List ℕ) (kind : Kind) (at m : List ℕ) → Stays kind → EndFails t kind at → EndFails (t ++ (10 ∷ m)) kind (at ++ (10 ∷ m))
EndFails-more t kind at m stays (before_end _ _ _ fails) = before_end (t ++ (10 ∷ m)) kind (at ++ (10 ∷ m)) (GapFails-more t kind at m stays fails)
EndFails-more t _ at m stays (second _ _ gaps begins) =
    second (t ++ (10 ∷ m)) (at ++ (10 ∷ m)) (Gaps-more t m at (BeginsDatum-some at begins) gaps) (BeginsDatum-more at m begins)
EndFails-more t kind at m stays (no_close _ _ _ gaps unclosed nothing) =
    no_close (t ++ (10 ∷ m)) (at ++ (10 ∷ m)) kind (Gaps-more t m at (NoDatum-some at kind stays nothing) gaps) (closes-more at m ∙ unclosed) (NoDatum-more at kind m stays nothing)

Fails-some : (room : ℕ) (t : List ℕ) (kind : Kind) (at : List ℕ) → Stays kind → Fails room t kind at → t ≢ []
Fails-some room t kind _ stays (at_front _ _ _ nothing) e = NoDatum-some t kind stays nothing e
Fails-some room _ _ _ stays (list_too_deep _ t full) e = absurd cc
Fails-some room t _ _ stays (prefix_too_deep _ _ operator after full prefix) e = HasPrefix-some t operator after prefix e
Fails-some room _ _ _ stays (no_quote _ t utf8 after) e = absurd cc
Fails-some room _ _ _ stays (in_string _ t n valid) e = absurd cc
Fails-some room _ _ _ stays (in_item _ t ds last start _ _ some items gaps unclosed no_dot fails) e = absurd cc
Fails-some room _ _ _ stays (before_item _ t ds last _ _ some items fails) e = absurd cc
Fails-some room _ _ _ stays (after_dot _ t ds last after _ _ some items gaps fits fails) e = absurd cc
Fails-some room t _ _ stays (in_prefixed _ _ operator after start _ _ some prefix gaps fails) e = HasPrefix-some t operator after prefix e
Fails-some room t _ _ stays (after_prefix _ _ operator after _ _ some prefix fails) e = HasPrefix-some t operator after prefix e

closes-some : (t : List ℕ) → closes t ≡ true → t ≢ []
closes-some [] is e = false≢true is
closes-some (b ∷ t) is e = absurd cc

mutual
  Fails-more : (room : ℕ) (t : List ℕ) (kind : Kind) (at m : List ℕ) → Stays kind → Fails room t kind at → Fails room (t ++ (10 ∷ m)) kind (at ++ (10 ∷ m))
  Fails-more room t kind _ m stays (at_front _ _ _ nothing) = at_front room (t ++ (10 ∷ m)) kind (NoDatum-more t kind m stays nothing)
  Fails-more room _ _ _ m stays (list_too_deep _ t full) = list_too_deep room (t ++ (10 ∷ m)) full
  Fails-more room t _ _ m stays (prefix_too_deep _ _ operator after full prefix) =
      prefix_too_deep room (t ++ (10 ∷ m)) operator (after ++ (10 ∷ m)) full (HasPrefix-more t operator after m prefix)
  Fails-more room _ _ _ m stays (no_quote _ t utf8 after) = absurd stays
  Fails-more room _ _ _ m stays (in_string _ t n valid) = string-fails room t m n valid
  Fails-more room _ _ _ m stays (in_item _ t ds last start kind at some items gaps unclosed no_dot fails) =
      in_item room (t ++ (10 ∷ m)) ds (last ++ (10 ∷ m)) (start ++ (10 ∷ m)) kind (at ++ (10 ∷ m)) some (Items-more (room - 1) t ds last m items) (Gaps-more last m start (Fails-some (room - 1) start kind at stays fails) gaps) (closes-more start m ∙ unclosed) (dot_fits-more ds start m ∙ no_dot) (Fails-more (room - 1) start kind at m stays fails)
  Fails-more room _ _ _ m stays (before_item _ t ds last kind at some items fails) =
      before_item room (t ++ (10 ∷ m)) ds (last ++ (10 ∷ m)) kind (at ++ (10 ∷ m)) some (Items-more (room - 1) t ds last m items) (GapFails-more last kind at m stays fails)
  Fails-more room _ _ _ m stays (after_dot _ t ds last after kind at some items gaps fits fails) =
      after_dot room (t ++ (10 ∷ m)) ds (last ++ (10 ∷ m)) (after ++ (10 ∷ m)) kind (at ++ (10 ∷ m)) some (Items-more (room - 1) t ds last m items) (Gaps-more last m (46 ∷ after) (cons-some 46 after) gaps) (dot_fits-more ds (46 ∷ after) m ∙ fits) (TailFails-more (room - 1) after kind at m stays fails)
  Fails-more room t _ _ m stays (in_prefixed _ _ operator after start kind at some prefix gaps fails) =
      in_prefixed room (t ++ (10 ∷ m)) operator (after ++ (10 ∷ m)) (start ++ (10 ∷ m)) kind (at ++ (10 ∷ m)) some (HasPrefix-more t operator after m prefix) (Gaps-more after m start (Fails-some (room - 1) start kind at stays fails) gaps) (Fails-more (room - 1) start kind at m stays fails)
  Fails-more room t _ _ m stays (after_prefix _ _ operator after kind at some prefix fails) =
      after_prefix room (t ++ (10 ∷ m)) operator (after ++ (10 ∷ m)) kind (at ++ (10 ∷ m)) some (HasPrefix-more t operator after m prefix) (GapFails-more after kind at m stays fails)

  TailFails-more : (room : ℕ) (t : List ℕ) (kind : Kind) (at m : List ℕ) → Stays kind → TailFails room t kind at → TailFails room (t ++ (10 ∷ m)) kind (at ++ (10 ∷ m))
  TailFails-more room t kind at m stays (before_tail _ _ _ _ fails) = before_tail room (t ++ (10 ∷ m)) kind (at ++ (10 ∷ m)) (GapFails-more t kind at m stays fails)
  TailFails-more room t _ _ m stays (no_tail _ _ start gaps closing) =
      no_tail room (t ++ (10 ∷ m)) (start ++ (10 ∷ m)) (Gaps-more t m start (closes-some start closing) gaps) (closes-more start m ∙ closing)
  TailFails-more room t kind at m stays (in_tail _ _ start _ _ gaps unclosed fails) =
      in_tail room (t ++ (10 ∷ m)) (start ++ (10 ∷ m)) kind (at ++ (10 ∷ m)) (Gaps-more t m start (Fails-some room start kind at stays fails) gaps) (closes-more start m ∙ unclosed) (Fails-more room start kind at m stays fails)
  TailFails-more room t kind at m stays (after_tail _ _ start d end _ _ gaps spells fails) =
      after_tail room (t ++ (10 ∷ m)) (start ++ (10 ∷ m)) d (end ++ (10 ∷ m)) kind (at ++ (10 ∷ m)) (Gaps-more t m start (spells-some room start d end spells) gaps) (Spells-more room start d end m spells) (EndFails-more end kind at m stays fails)

append-some : (t m : List ℕ) → t ++ (10 ∷ m) ≢ []
append-some [] m e = absurd cc
append-some (b ∷ t) m e = absurd cc

pub fault-stays : FaultStays
fault-stays t m kind at no_end (in_gaps _ _ _ fails) =
    in_gaps (t ++ (10 ∷ m)) kind (at ++ (10 ∷ m)) (GapFails-more t kind at m (stays-other kind no_end) fails)
fault-stays t m _ at no_end (unfinished _ _ _ gaps some fails) = absurd (no_end refl)
fault-stays t m kind at no_end (in_datum _ start _ _ gaps some fails _) =
    in_datum (t ++ (10 ∷ m)) (start ++ (10 ∷ m)) kind (at ++ (10 ∷ m)) (Gaps-more t m start some gaps) (append-some start m) (Fails-more most_open start kind at m (stays-other kind no_end) fails) no_end
