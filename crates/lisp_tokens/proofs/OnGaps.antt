-- Gaps at an offset of a text.
use Rattle.std.proofs.Common.{◌≡◌, ◌≢◌, ◌∙◌, ℕ, ◌+◌, ◌<◌, ◌≤◌, List, ◌∷◌, length, get_or, take, drop, true, false, IsUtf8, refl, sym, ap, subst, arith, ne_eqb}
use Rattle.std.specs.List.{prefix_len}
use Rattle.std.specs.Str.{IsValidUpTo}
use Rattle.std.proofs.lemmas.List.{drop_more, drop_all, drop-drop, length-take-le}
use Rattle.std.proofs.lemmas.List.{length-drop}
use Rattle.std.proofs.lemmas.List.Folds.{length-prefix_len}
use Rattle.std.proofs.lemmas.List.Sums.{prefix_len-le-length}
use Rattle.lisp_tokens.specs.Characters.{is_blank}
use Rattle.lisp_tokens.specs.Fault.{Kind, end_inside, not_text}
use Rattle.lisp_tokens.specs.Gaps.{Gaps, GapFails, no_more, blank, comment, block, here, in_block, in_open_block, open_block, after_blank, after_comment, after_block, is_in_line, line, after_line, begins_gap, Closes, Unclosed, opens_comment}
use Rattle.lisp_tokens.proofs.OnComments.{opens-are}

-- the end of the line whose first byte stands at `start`
abbrev pub line_end : List ℕ → ℕ → ℕ
line_end bytes start = start + prefix_len is_in_line (drop start bytes)

pub Gaps-blank : (bytes : List ℕ) (at : ℕ) (rest : List ℕ) → at < length bytes → is_blank (get_or bytes at 0) ≡ true → Gaps (drop (at + 1) bytes) rest → Gaps (drop at bytes) rest
Gaps-blank bytes at rest within is gaps =
    rw (drop_more bytes at 0 within) (blank (get_or bytes at 0) (drop (at + 1) bytes) rest is gaps)

pub GapFails-blank : (bytes : List ℕ) (at : ℕ) (kind : Kind) (rest : List ℕ) → at < length bytes → is_blank (get_or bytes at 0) ≡ true → GapFails (drop (at + 1) bytes) kind rest → GapFails (drop at bytes) kind rest
GapFails-blank bytes at kind rest within is fault =
    rw (drop_more bytes at 0 within) (after_blank (get_or bytes at 0) (drop (at + 1) bytes) kind rest is fault)

pub Gaps-comment : (bytes : List ℕ) (at n : ℕ) (rest : List ℕ) → at < length bytes → get_or bytes at 0 ≡ 59 → IsUtf8 (line (drop (at + 1) bytes)) → n ≡ line_end bytes (at + 1) → Gaps (drop n bytes) rest → Gaps (drop at bytes) rest
Gaps-comment bytes at n rest within is text end gaps =
    let e : drop n bytes ≡ after_line (drop (at + 1) bytes) = ap (λ (k : ℕ). drop k bytes) end ∙ sym (drop-drop _ (at + 1) bytes) in
    let g : Gaps (after_line (drop (at + 1) bytes)) rest = subst (λ (t : List ℕ). Gaps t rest) e gaps in
    rw (drop_more bytes at 0 within, is) (comment (drop (at + 1) bytes) rest text g)

pub GapFails-comment : (bytes : List ℕ) (at n : ℕ) (kind : Kind) (rest : List ℕ) → at < length bytes → get_or bytes at 0 ≡ 59 → IsUtf8 (line (drop (at + 1) bytes)) → n ≡ line_end bytes (at + 1) → GapFails (drop n bytes) kind rest → GapFails (drop at bytes) kind rest
GapFails-comment bytes at n kind rest within is text end fault =
    let e : drop n bytes ≡ after_line (drop (at + 1) bytes) = ap (λ (k : ℕ). drop k bytes) end ∙ sym (drop-drop _ (at + 1) bytes) in
    let g : GapFails (after_line (drop (at + 1) bytes)) kind rest = subst (λ (t : List ℕ). GapFails t kind rest) e fault in
    rw (drop_more bytes at 0 within, is) (after_comment (drop (at + 1) bytes) kind rest text g)

pub GapFails-here : (bytes : List ℕ) (at k : ℕ) → at < length bytes → get_or bytes at 0 ≡ 59 → IsValidUpTo (line (drop (at + 1) bytes)) k → GapFails (drop at bytes) not_text (drop (at + 1 + k) bytes)
GapFails-here bytes at k within is valid =
    let e : drop k (drop (at + 1) bytes) ≡ drop (at + 1 + k) bytes = drop-drop k (at + 1) bytes in
    rw (drop_more bytes at 0 within, is, ← e) (here (drop (at + 1) bytes) k valid)

-- ---- comments that nest

block-starts : (bytes : List ℕ) (at : ℕ) → opens_comment (drop at bytes) ≡ true → drop at bytes ≡ 35 ∷ 124 ∷ drop (at + 2) bytes
block-starts bytes at is =
    opens-are (drop at bytes) is ∙ ap (λ (t : List ℕ). 35 ∷ 124 ∷ t) (drop-drop 2 at bytes)

pub Gaps-block : (bytes : List ℕ) (at n k : ℕ) (rest : List ℕ) → opens_comment (drop at bytes) ≡ true → n ≡ at + 2 + k → Closes (drop (at + 2) bytes) k → IsUtf8 (take k (drop (at + 2) bytes)) → Gaps (drop n bytes) rest → Gaps (drop at bytes) rest
Gaps-block bytes at n k rest is end closes text gaps =
    let e : drop n bytes ≡ drop k (drop (at + 2) bytes) = ap (λ (j : ℕ). drop j bytes) end ∙ sym (drop-drop k (at + 2) bytes) in
    let g : Gaps (drop k (drop (at + 2) bytes)) rest = subst (λ (t : List ℕ). Gaps t rest) e gaps in
    subst (λ (t : List ℕ). Gaps t rest) (sym (block-starts bytes at is)) (block (drop (at + 2) bytes) k rest closes text g)

pub GapFails-block : (bytes : List ℕ) (at n k : ℕ) (kind : Kind) (rest : List ℕ) → opens_comment (drop at bytes) ≡ true → n ≡ at + 2 + k → Closes (drop (at + 2) bytes) k → IsUtf8 (take k (drop (at + 2) bytes)) → GapFails (drop n bytes) kind rest → GapFails (drop at bytes) kind rest
GapFails-block bytes at n k kind rest is end closes text fault =
    let e : drop n bytes ≡ drop k (drop (at + 2) bytes) = ap (λ (j : ℕ). drop j bytes) end ∙ sym (drop-drop k (at + 2) bytes) in
    let g : GapFails (drop k (drop (at + 2) bytes)) kind rest = subst (λ (t : List ℕ). GapFails t kind rest) e fault in
    subst (λ (t : List ℕ). GapFails t kind rest) (sym (block-starts bytes at is)) (after_block (drop (at + 2) bytes) k kind rest closes text g)

-- the fault of a comment whose text is at fault stands within the text
valid-le : (bytes front : List ℕ) (at k : ℕ) → at + 2 ≤ length bytes → length front ≤ length (drop (at + 2) bytes) → IsValidUpTo front k → at + 2 + k ≤ length bytes
valid-le bytes front at k within fits valid =
    let short = valid.short in
    let size = length-drop (at + 2) bytes in
    omega arith

pub Refuses-in_block : (bytes : List ℕ) (at m k : ℕ) → opens_comment (drop at bytes) ≡ true → at + 2 ≤ length bytes → m ≤ length (drop (at + 2) bytes) → Closes (drop (at + 2) bytes) m → IsValidUpTo (take m (drop (at + 2) bytes)) k → (at + 2 + k ≤ length bytes) × GapFails (drop at bytes) not_text (drop (at + 2 + k) bytes)
Refuses-in_block bytes at m k is within fits closes valid =
    let t = drop (at + 2) bytes in
    let front = length-take-le m t fits in
    let place : drop k t ≡ drop (at + 2 + k) bytes = drop-drop k (at + 2) bytes in
    let fault : GapFails (35 ∷ 124 ∷ t) not_text (drop (at + 2 + k) bytes) = subst (λ (x : List ℕ). GapFails (35 ∷ 124 ∷ t) not_text x) place (in_block t m k closes valid) in
    (valid-le bytes (take m t) at k within (omega arith) valid, subst (λ (x : List ℕ). GapFails x not_text (drop (at + 2 + k) bytes)) (sym (block-starts bytes at is)) fault)

pub Refuses-in_open : (bytes : List ℕ) (at k : ℕ) → opens_comment (drop at bytes) ≡ true → at + 2 ≤ length bytes → Unclosed (drop (at + 2) bytes) → IsValidUpTo (drop (at + 2) bytes) k → (at + 2 + k ≤ length bytes) × GapFails (drop at bytes) not_text (drop (at + 2 + k) bytes)
Refuses-in_open bytes at k is within unclosed valid =
    let t = drop (at + 2) bytes in
    let place : drop k t ≡ drop (at + 2 + k) bytes = drop-drop k (at + 2) bytes in
    let fault : GapFails (35 ∷ 124 ∷ t) not_text (drop (at + 2 + k) bytes) = subst (λ (x : List ℕ). GapFails (35 ∷ 124 ∷ t) not_text x) place (in_open_block t k unclosed valid) in
    (valid-le bytes t at k within (omega arith) valid, subst (λ (x : List ℕ). GapFails x not_text (drop (at + 2 + k) bytes)) (sym (block-starts bytes at is)) fault)

pub Refuses-open : (bytes : List ℕ) (at : ℕ) → opens_comment (drop at bytes) ≡ true → at + 2 ≤ length bytes → Unclosed (drop (at + 2) bytes) → IsUtf8 (drop (at + 2) bytes) → (at ≤ length bytes) × GapFails (drop at bytes) end_inside (drop at bytes)
Refuses-open bytes at is within unclosed text =
    (omega arith, subst (λ (x : List ℕ). GapFails x end_inside x) (sym (block-starts bytes at is)) (open_block (drop (at + 2) bytes) unclosed text))

none-begins : (b : ℕ) (text : List ℕ) → is_blank b ≡ false → b ≢ 59 → opens_comment (b ∷ text) ≡ false → begins_gap (b ∷ text) ≡ false
none-begins b text is not_comment no_mark = rw (is, ne_eqb _ _ not_comment, no_mark) refl

pub Gaps-none : (bytes : List ℕ) (at : ℕ) → at < length bytes → is_blank (get_or bytes at 0) ≡ false → get_or bytes at 0 ≢ 59 → opens_comment (drop at bytes) ≡ false → Gaps (drop at bytes) (drop at bytes)
Gaps-none bytes at within is not_comment no_mark =
    let e : drop at bytes ≡ get_or bytes at 0 ∷ drop (at + 1) bytes = drop_more bytes at 0 within in
    let no_mark' : opens_comment (get_or bytes at 0 ∷ drop (at + 1) bytes) ≡ false = ap opens_comment (sym e) ∙ no_mark in
    no_more (drop at bytes) (ap begins_gap e ∙ none-begins (get_or bytes at 0) (drop (at + 1) bytes) is not_comment no_mark')

pub Gaps-end : (bytes : List ℕ) (at : ℕ) → length bytes ≤ at → Gaps (drop at bytes) (drop at bytes)
Gaps-end bytes at end = no_more (drop at bytes) (rw (drop_all at bytes end) refl)

pub line-valid : (bytes text : List ℕ) (at len k : ℕ) → text ≡ drop (at + 1) bytes → len ≡ prefix_len is_in_line text → IsValidUpTo (take len text) k → IsValidUpTo (line (drop (at + 1) bytes)) k
line-valid bytes text at len k rest end valid =
    let valid' : IsValidUpTo (line text) k = subst (λ (n : ℕ). IsValidUpTo (take n text) k) end valid in
    subst (λ (t : List ℕ). IsValidUpTo (line t) k) rest valid'

-- the place of such a fault lies within the text
pub line_end-le : (bytes : List ℕ) (at k : ℕ) → IsValidUpTo (line (drop (at + 1) bytes)) k → at + 1 + k ≤ length bytes
line_end-le bytes at k valid =
    let short = valid.short in
    let len = length-prefix_len is_in_line (drop (at + 1) bytes) in
    let most = prefix_len-le-length is_in_line (drop (at + 1) bytes) in
    omega (arith, length-drop {A = ℕ})
