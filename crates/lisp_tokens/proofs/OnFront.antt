-- What begins at an offset of a text.
use Rattle.std.proofs.Common.{◌≡◌, ◌≢◌, ◌∙◌, ℕ, ◌+◌, ◌<◌, List, [], ◌∷◌, length, get_or, drop, true, false, codes, refl, sym, ap, subst, arith, ne_eqb}
use Rattle.std.proofs.lemmas.List.{drop_more, drop_all, drop-drop}
use Rattle.lisp_tokens.specs.Characters.{is_token_char, begins_with, begins_something}
use Rattle.lisp_tokens.specs.Fault.{end_inside, stray_close, bad_token, bad_hash}
use Rattle.lisp_tokens.specs.Prefix.{HasPrefix, quote, function, backquote, comma, splice, extends_comma}
use Rattle.lisp_tokens.specs.Reading.{NoDatum, at_end, at_close, at_hash, at_comma, at_other}
use Rattle.lisp_tokens.proofs.OnComments.{first-is}

-- the first byte of what stands at an offset
pub starts : (bytes : List ℕ) (at b : ℕ) → at < length bytes → get_or bytes at 0 ≡ b → drop at bytes ≡ b ∷ drop (at + 1) bytes
starts bytes at b within is = drop_more bytes at 0 within ∙ ap (λ (c : ℕ). c ∷ drop (at + 1) bytes) is

-- the first two
starts_two : (bytes : List ℕ) (at b c : ℕ) → at < length bytes → get_or bytes at 0 ≡ b → begins_with c (drop (at + 1) bytes) ≡ true → drop at bytes ≡ b ∷ c ∷ drop (at + 2) bytes
starts_two bytes at b c within is next =
    let e : drop (at + 1) bytes ≡ c ∷ drop 1 (drop (at + 1) bytes) = first-is c (drop (at + 1) bytes) next in
    let f : drop 1 (drop (at + 1) bytes) ≡ drop (at + 1 + 1) bytes = drop-drop 1 (at + 1) bytes in
    let g : drop (at + 1 + 1) bytes ≡ drop (at + 2) bytes = ap (λ (k : ℕ). drop k bytes) (omega arith) in
    starts bytes at b within is ∙ ap (λ (t : List ℕ). b ∷ t) (e ∙ ap (λ (t : List ℕ). c ∷ t) (f ∙ g))

-- ---- nothing

pub NoDatum-end : (bytes : List ℕ) (at : ℕ) → at ≡ length bytes → NoDatum (drop at bytes) end_inside
NoDatum-end bytes at end = subst (λ (t : List ℕ). NoDatum t end_inside) (sym (drop_all at bytes (omega arith))) at_end

pub NoDatum-close : (bytes : List ℕ) (at : ℕ) → at < length bytes → get_or bytes at 0 ≡ 41 → NoDatum (drop at bytes) stray_close
NoDatum-close bytes at within is =
    subst (λ (t : List ℕ). NoDatum t stray_close) (sym (starts bytes at 41 within is)) (at_close (drop (at + 1) bytes))

pub NoDatum-hash : (bytes : List ℕ) (at : ℕ) → at < length bytes → get_or bytes at 0 ≡ 35 → begins_with 39 (drop (at + 1) bytes) ≡ false → NoDatum (drop at bytes) bad_hash
NoDatum-hash bytes at within is next =
    subst (λ (t : List ℕ). NoDatum t bad_hash) (sym (starts bytes at 35 within is)) (at_hash (drop (at + 1) bytes) next)

pub NoDatum-comma : (bytes : List ℕ) (at : ℕ) → at < length bytes → get_or bytes at 0 ≡ 44 → begins_with 46 (drop (at + 1) bytes) ≡ true → NoDatum (drop at bytes) bad_token
NoDatum-comma bytes at within is next =
    subst (λ (t : List ℕ). NoDatum t bad_token) (sym (starts_two bytes at 44 46 within is next)) (at_comma (drop (at + 2) bytes))

pub NoDatum-other : (bytes : List ℕ) (at : ℕ) → at < length bytes → begins_something (get_or bytes at 0) ≡ false → NoDatum (drop at bytes) bad_token
NoDatum-other bytes at within is =
    subst (λ (t : List ℕ). NoDatum t bad_token) (sym (drop_more bytes at 0 within)) (at_other (get_or bytes at 0) (drop (at + 1) bytes) is)

pub begins_nothing : (b : ℕ) → is_token_char b ≡ false → b ≢ 40 → b ≢ 39 → b ≢ 96 → b ≢ 44 → b ≢ 41 → b ≢ 34 → begins_something b ≡ false
begins_nothing b no_token no_list no_quote no_backquote no_comma no_close no_string =
    rw (no_token, ne_eqb b 40 no_list, ne_eqb b 39 no_quote, ne_eqb b 96 no_backquote, ne_eqb b 44 no_comma, ne_eqb b 41 no_close, ne_eqb b 34 no_string) refl

-- ---- prefixes

pub quote-at : (bytes : List ℕ) (at : ℕ) → at < length bytes → get_or bytes at 0 ≡ 39 → HasPrefix (drop at bytes) (codes "QUOTE") (drop (at + 1) bytes)
quote-at bytes at within is =
    subst (λ (t : List ℕ). HasPrefix t (codes "QUOTE") (drop (at + 1) bytes)) (sym (starts bytes at 39 within is)) (quote (drop (at + 1) bytes))

pub backquote-at : (bytes : List ℕ) (at : ℕ) → at < length bytes → get_or bytes at 0 ≡ 96 → HasPrefix (drop at bytes) (codes "QUASIQUOTE") (drop (at + 1) bytes)
backquote-at bytes at within is =
    subst (λ (t : List ℕ). HasPrefix t (codes "QUASIQUOTE") (drop (at + 1) bytes)) (sym (starts bytes at 96 within is)) (backquote (drop (at + 1) bytes))

pub function-at : (bytes : List ℕ) (at : ℕ) → at < length bytes → get_or bytes at 0 ≡ 35 → begins_with 39 (drop (at + 1) bytes) ≡ true → HasPrefix (drop at bytes) (codes "FUNCTION") (drop (at + 2) bytes)
function-at bytes at within is next =
    subst (λ (t : List ℕ). HasPrefix t (codes "FUNCTION") (drop (at + 2) bytes)) (sym (starts_two bytes at 35 39 within is next)) (function (drop (at + 2) bytes))

pub splice-at : (bytes : List ℕ) (at : ℕ) → at < length bytes → get_or bytes at 0 ≡ 44 → begins_with 64 (drop (at + 1) bytes) ≡ true → HasPrefix (drop at bytes) (codes "UNQUOTE-SPLICING") (drop (at + 2) bytes)
splice-at bytes at within is next =
    subst (λ (t : List ℕ). HasPrefix t (codes "UNQUOTE-SPLICING") (drop (at + 2) bytes)) (sym (starts_two bytes at 44 64 within is next)) (splice (drop (at + 2) bytes))

extends-neither : (text : List ℕ) → begins_with 64 text ≡ false → begins_with 46 text ≡ false → extends_comma text ≡ false
extends-neither [] no_at no_point = refl
extends-neither (b ∷ text) no_at no_point = rw (no_at, no_point) refl

pub comma-at : (bytes : List ℕ) (at : ℕ) → at < length bytes → get_or bytes at 0 ≡ 44 → begins_with 64 (drop (at + 1) bytes) ≡ false → begins_with 46 (drop (at + 1) bytes) ≡ false → HasPrefix (drop at bytes) (codes "UNQUOTE") (drop (at + 1) bytes)
comma-at bytes at within is no_at no_point =
    subst (λ (t : List ℕ). HasPrefix t (codes "UNQUOTE") (drop (at + 1) bytes)) (sym (starts bytes at 44 within is)) (comma (drop (at + 1) bytes) (extends-neither (drop (at + 1) bytes) no_at no_point))
