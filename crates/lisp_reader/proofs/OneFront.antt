-- What the first bytes of a text begin, and the ways to read it by that.
use Rattle.std.proofs.Common.{◌≡◌, ◌≢◌, ℕ, ◌-◌, ◌<◌, List, [], ◌∷◌, drop, true, false, Bool, cond, codes, IsUtf8, refl, sym, ap, subst, ◌⊎◌, inl, inr, ◌==◌, ◌||◌, not, ne_eqb}
use Rattle.std.specs.Str.{IsValidUpTo}
use Rattle.std.proofs.lemmas.Bool.{false≢true, eqb-true, cases_eq}
use Rattle.lisp_data.specs.Datum.{Dat, string}
use Rattle.lisp_tokens.specs.Characters.{is_token_char, begins_token, opens, begins_something, begins_with, goes_on}
use Rattle.lisp_tokens.specs.Fault.{Kind, end_inside, stray_close, bad_token, bad_hash, too_deep, not_text}
use Rattle.lisp_tokens.specs.Gaps.{Gaps, GapFails}
use Rattle.lisp_tokens.specs.Prefix.{HasPrefix, quote, function, backquote, comma, splice, extends_comma}
use Rattle.lisp_tokens.specs.Reading.{Spells, Items, Tail, Fails, TailFails, NoDatum, of_token, in_quotes, in_parentheses, with_dot, prefixed, at_end, at_close, at_hash, at_comma, at_token, at_other, at_front, list_too_deep, prefix_too_deep, no_quote, in_string, in_item, before_item, after_dot, in_prefixed, after_prefix, list_of, prefixed_by, ending_in, closes, dot_fits}
use Rattle.lisp_tokens.specs.Strings.{body, after_body, characters}
use Rattle.lisp_tokens.specs.Token.{run, after_run, Denotes, DenotesNone, Means, class_of, is_integer, is_ratio, is_float}
use Rattle.lisp_tokens.specs.declared.token.Class.{Class}
use Rattle.lisp_tokens.specs.declared.token.Class.TheVariants.{Dot}

-- ---- what begins

pub data Begins : Type 0 where
  a_token : Begins
  a_string : Begins
  a_list : Begins
  a_prefix : List ℕ → List ℕ → Begins
  nothing : Kind → Begins

abbrev pub after_comma : List ℕ → Begins
after_comma [] = a_prefix (codes "UNQUOTE") []
after_comma (b ∷ t) = cond (b == 64) (a_prefix (codes "UNQUOTE-SPLICING") t) (cond (b == 46) (nothing bad_token) (a_prefix (codes "UNQUOTE") (b ∷ t)))

abbrev pub after_hash : List ℕ → Begins
after_hash t = cond (begins_with 39 t) (a_prefix (codes "FUNCTION") (drop 1 t)) (nothing bad_hash)

-- what a byte that begins no token begins
abbrev pub apart : ℕ → List ℕ → Begins
apart b t =
    cond (b == 34) a_string (cond (b == 40) a_list (cond (b == 41) (nothing stray_close) (cond (b == 39) (a_prefix (codes "QUOTE") t) (cond (b == 96) (a_prefix (codes "QUASIQUOTE") t) (cond (b == 44) (after_comma t) (cond (b == 35) (after_hash t) (nothing bad_token)))))))

abbrev pub begins : List ℕ → Begins
begins [] = nothing end_inside
begins (b ∷ t) = cond (begins_token b) a_token (apart b t)

pub begins-token : (b : ℕ) (t : List ℕ) → begins_token b ≡ true → begins (b ∷ t) ≡ a_token
begins-token b t is = rw is refl

or_parts : (a b : Bool) → (a || b) ≡ false → (a ≡ false) × (b ≡ false)
or_parts true b e = absurd (false≢true (sym e))
or_parts false b e = (refl, e)

comma-begins : (t : List ℕ) → extends_comma t ≡ false → after_comma t ≡ a_prefix (codes "UNQUOTE") t
comma-begins [] e = refl
comma-begins (b ∷ t) e =
    let p = or_parts (b == 64) (b == 46) e in
    rw (p.0, p.1) refl

pub prefix-begins : (text operator after : List ℕ) → HasPrefix text operator after → begins text ≡ a_prefix operator after
prefix-begins text operator after (quote t) = refl
prefix-begins text operator after (function t) = refl
prefix-begins text operator after (backquote t) = refl
prefix-begins text operator after (comma t e) = comma-begins t e
prefix-begins text operator after (splice t) = refl

pub hash-begins : (t : List ℕ) → begins_with 39 t ≡ false → begins (35 ∷ t) ≡ nothing bad_hash
hash-begins t e = rw e refl

hash_cases : (b : ℕ) → is_token_char b ≡ false → (b ≡ 35) ⊎ (b ≢ 35) → (b == 35) ≡ false
hash_cases b no_token (inl hash) = absurd (false≢true (sym (rw hash at no_token)))
hash_cases b no_token (inr other) = ne_eqb b 35 other

pub other-begins : (b : ℕ) (t : List ℕ) → begins_something b ≡ false → begins (b ∷ t) ≡ nothing bad_token
other-begins b t is =
    let p = or_parts (is_token_char b || opens b || b == 41) (b == 34) is in
    let q = or_parts (is_token_char b || opens b) (b == 41) p.0 in
    let r = or_parts (is_token_char b) (opens b) q.0 in
    let s = or_parts (b == 40 || b == 39 || b == 96) (b == 44) r.1 in
    let u = or_parts (b == 40 || b == 39) (b == 96) s.0 in
    let v = or_parts (b == 40) (b == 39) u.0 in
    rw (r.0, p.1, v.0, q.1, v.1, u.1, s.1, hash_cases b r.0 (cases_eq b 35)) refl

-- ---- a reading: a datum and what follows it, or a fault

pub data Read : Type 0 where
  got : Dat → List ℕ → Read
  fault : Kind → List ℕ → Read

abbrev pub is_got : Read → Bool
is_got (got d rest) = true
is_got (fault kind at) = false

abbrev pub Reading : ℕ → List ℕ → Read → Type 0
Reading room text (got d rest) = Spells room text d rest
Reading room text (fault kind at) = Fails room text kind at

-- of what follows a dot
abbrev pub TailReading : ℕ → List ℕ → Read → Type 0
TailReading room text (got d rest) = Tail room text d rest
TailReading room text (fault kind at) = TailFails room text kind at

-- the reading of a prefix and of a list, by that of what stands in it
abbrev pub operated : List ℕ → Read → Read
operated operator (got d rest) = got (prefixed_by operator d) rest
operated operator (fault kind at) = fault kind at

abbrev pub ended : List Dat → Read → Read
ended ds (got d rest) = got (ending_in ds d) rest
ended ds (fault kind at) = fault kind at

pub operated-got : (operator : List ℕ) (read : Read) → is_got (operated operator read) ≡ is_got read
operated-got operator (got d rest) = refl
operated-got operator (fault kind at) = refl

pub ended-got : (ds : List Dat) (read : Read) → is_got (ended ds read) ≡ is_got read
ended-got ds (got d rest) = refl
ended-got ds (fault kind at) = refl

-- ---- the ways to read, by what begins

pub data TokenWay (text : List ℕ) (read : Read) : Type 0 where
  a_datum : (d : Dat) → Denotes (run text) d → read ≡ got d (after_run text) → TokenWay text read
  no_datum : (kind : Kind) → DenotesNone (run text) kind → read ≡ fault kind text → TokenWay text read

pub data StringWay (t : List ℕ) (read : Read) : Type 0 where
  quoted : (rest : List ℕ) → IsUtf8 (body t) → after_body t ≡ 34 ∷ rest → read ≡ got (string (characters (body t))) rest → StringWay t read
  unended : IsUtf8 (body t) → after_body t ≡ [] → read ≡ fault end_inside [] → StringWay t read
  ill_formed : (n : ℕ) → IsValidUpTo (body t) n → read ≡ fault not_text (drop n t) → StringWay t read

pub data PrefixWay (room : ℕ) (text operator after : List ℕ) (read : Read) : Type 0 where
  deep_prefix : room ≡ 0 → read ≡ fault too_deep text → PrefixWay room text operator after read
  bad_gap : (kind : Kind) (at : List ℕ) → 0 < room → GapFails after kind at → read ≡ fault kind at → PrefixWay room text operator after read
  inside : (start : List ℕ) (inner : Read) → 0 < room → Gaps after start → Reading (room - 1) start inner → read ≡ operated operator inner → PrefixWay room text operator after read

pub data Ending (room : ℕ) (ds : List Dat) (last : List ℕ) (read : Read) : Type 0 where
  closing : (rest : List ℕ) → Gaps last (41 ∷ rest) → read ≡ got (list_of ds) rest → Ending room ds last read
  dotting : (after : List ℕ) (tail : Read) → Gaps last (46 ∷ after) → dot_fits ds (46 ∷ after) ≡ true → TailReading room after tail → read ≡ ended ds tail → Ending room ds last read
  gap_ending : (kind : Kind) (at : List ℕ) → GapFails last kind at → read ≡ fault kind at → Ending room ds last read
  item_ending : (start : List ℕ) (kind : Kind) (at : List ℕ) → Gaps last start → closes start ≡ false → dot_fits ds start ≡ false → Fails room start kind at → read ≡ fault kind at → Ending room ds last read

pub data ListWay (room : ℕ) (t : List ℕ) (read : Read) : Type 0 where
  deep_list : room ≡ 0 → read ≡ fault too_deep (40 ∷ t) → ListWay room t read
  with_items : (ds : List Dat) (last : List ℕ) → 0 < room → Items (room - 1) t ds last → Ending (room - 1) ds last read → ListWay room t read

abbrev pub ReadAs : Begins → ℕ → List ℕ → Read → Type 0
ReadAs a_token room text read = TokenWay text read
ReadAs a_string room text read = StringWay (drop 1 text) read
ReadAs a_list room text read = ListWay room (drop 1 text) read
ReadAs (a_prefix operator after) room text read = PrefixWay room text operator after read
ReadAs (nothing kind) room text read = read ≡ fault kind text

begun_as : (room : ℕ) (text : List ℕ) (read : Read) (k : Begins) → begins text ≡ k → ReadAs k room text read → ReadAs (begins text) room text read
begun_as room text read k is way = subst (λ (j : Begins). ReadAs j room text read) (sym is) way

pub spells-by : (room : ℕ) (text : List ℕ) (d : Dat) (rest : List ℕ) → Spells room text d rest → ReadAs (begins text) room text (got d rest)
spells-by room text d rest (of_token _ b t _ is denotes) =
    begun_as room (b ∷ t) (got d (after_run (b ∷ t))) a_token (begins-token b t is) (a_datum d denotes refl)
spells-by room text d rest (in_quotes _ t _ utf8 after) = quoted rest utf8 after refl
spells-by room text d rest (in_parentheses _ t ds last _ some items gaps) = with_items ds last some items (closing rest gaps refl)
spells-by room text d rest (with_dot _ t ds last after e _ some items gaps fits tail) =
    with_items ds last some items (dotting after (got e rest) gaps fits tail refl)
spells-by room text d rest (prefixed _ _ operator after start e _ some prefix gaps spells) =
    begun_as room text (got (prefixed_by operator e) rest) (a_prefix operator after) (prefix-begins text operator after prefix) (inside start (got e rest) some gaps spells refl)

front-by : (room : ℕ) (text : List ℕ) (kind : Kind) → NoDatum text kind → ReadAs (begins text) room text (fault kind text)
front-by room text kind at_end = refl
front-by room text kind (at_close t) = refl
front-by room text kind (at_hash t e) = begun_as room (35 ∷ t) (fault bad_hash (35 ∷ t)) (nothing bad_hash) (hash-begins t e) refl
front-by room text kind (at_comma t) = refl
front-by room text kind (at_token b t _ is denotes) =
    begun_as room (b ∷ t) (fault kind (b ∷ t)) a_token (begins-token b t is) (no_datum kind denotes refl)
front-by room text kind (at_other b t is) = begun_as room (b ∷ t) (fault bad_token (b ∷ t)) (nothing bad_token) (other-begins b t is) refl

fails-by : (room : ℕ) (text : List ℕ) (kind : Kind) (at : List ℕ) → Fails room text kind at → ReadAs (begins text) room text (fault kind at)
fails-by room text kind at (at_front _ _ _ front) = front-by room text kind front
fails-by room text kind at (list_too_deep _ t full) = deep_list full refl
fails-by room text kind at (prefix_too_deep _ _ operator after full prefix) =
    begun_as room text (fault too_deep text) (a_prefix operator after) (prefix-begins text operator after prefix) (deep_prefix full refl)
fails-by room text kind at (no_quote _ t utf8 after) = unended utf8 after refl
fails-by room text kind at (in_string _ t n valid) = ill_formed n valid refl
fails-by room text kind at (in_item _ t ds last start _ _ some items gaps unclosed no_dot fails) =
    with_items ds last some items (item_ending start kind at gaps unclosed no_dot fails refl)
fails-by room text kind at (before_item _ t ds last _ _ some items fails) = with_items ds last some items (gap_ending kind at fails refl)
fails-by room text kind at (after_dot _ t ds last after _ _ some items gaps fits tail) =
    with_items ds last some items (dotting after (fault kind at) gaps fits tail refl)
fails-by room text kind at (in_prefixed _ _ operator after start _ _ some prefix gaps fails) =
    begun_as room text (fault kind at) (a_prefix operator after) (prefix-begins text operator after prefix) (inside start (fault kind at) some gaps fails refl)
fails-by room text kind at (after_prefix _ _ operator after _ _ some prefix fails) =
    begun_as room text (fault kind at) (a_prefix operator after) (prefix-begins text operator after prefix) (bad_gap kind at some fails refl)

pub reads-by : (room : ℕ) (text : List ℕ) (read : Read) → Reading room text read → ReadAs (begins text) room text read
reads-by room text (got d rest) h = spells-by room text d rest h
reads-by room text (fault kind at) h = fails-by room text kind at h

pub reads-at : (room : ℕ) (text : List ℕ) (read : Read) (k : Begins) → begins text ≡ k → Reading room text read → ReadAs k room text read
reads-at room text read k is h = subst (λ (j : Begins). ReadAs j room text read) is (reads-by room text read h)

-- ---- no datum

pub got-fault : {P : Type 0} (d : Dat) (rest : List ℕ) (kind : Kind) (at : List ℕ) → got d rest ≡ fault kind at → P
got-fault d rest kind at e = absurd (false≢true (sym (ap is_got e)))

pub spells-close : (room : ℕ) (text : List ℕ) (d : Dat) (rest : List ℕ) → closes text ≡ true → Spells room text d rest → ⊥
spells-close room [] d rest is h = false≢true is
spells-close room (b ∷ t) d rest is h =
    let e : b ≡ 41 = eqb-true b 41 is in
    let h' : Spells room (41 ∷ t) d rest = subst (λ (c : ℕ). Spells room (c ∷ t) d rest) e h in
    got-fault d rest stray_close (41 ∷ t) (spells-by room (41 ∷ t) d rest h')

-- the token of a dot
dot-run : (t : List ℕ) → goes_on t ≡ false → run (46 ∷ t) ≡ 46 ∷ []
dot-run [] e = refl
dot-run (b ∷ t) e = rw e refl

dot-class : class_of (46 ∷ []) ≡ Dot
unfolding class_of is_integer is_ratio is_float
dot-class = refl

not_false : (b : Bool) → not b ≡ true → b ≡ false
not_false true e = absurd (false≢true e)
not_false false e = refl

pub dot-goes : (ds : List Dat) (t : List ℕ) → dot_fits ds (46 ∷ t) ≡ true → goes_on t ≡ false
dot-goes [] t e = absurd (false≢true e)
dot-goes (d ∷ ds) t e = not_false (goes_on t) e

pub spells-dot : (room : ℕ) (ds : List Dat) (t : List ℕ) (d : Dat) (rest : List ℕ) → dot_fits ds (46 ∷ t) ≡ true → Spells room (46 ∷ t) d rest → ⊥
spells-dot room ds t d rest fits h =
    let way : TokenWay (46 ∷ t) (got d rest) = spells-by room (46 ∷ t) d rest h in
    let e = dot-run t (dot-goes ds t fits) in
    elim way [
      | a_datum f denotes same ↦ let m : Means (class_of (46 ∷ [])) (46 ∷ []) f = subst (λ (w : List ℕ). Denotes w f) e denotes in subst (λ (k : Class). Means k (46 ∷ []) f) dot-class m
      | no_datum kind denotes same ↦ got-fault d rest kind (46 ∷ t) same
    ]
