-- A text has one reading of its gaps: where they end, or one fault.
use Rattle.std.proofs.Common.{◌≡◌, ◌∙◌, ℕ, List, [], ◌∷◌, take, drop, true, false, Bool, cond, IsUtf8, refl, sym, ap, subst, arith, ◌==◌, ◌||◌}
use Rattle.std.specs.Str.{IsValidUpTo}
use Rattle.std.proofs.lemmas.Bool.{false≢true}
use Rattle.std.proofs.lemmas.Str.{utf8_valid_len-IsUtf8, utf8_valid_len-IsValidUpTo}
use Rattle.lisp_tokens.specs.Characters.{is_blank}
use Rattle.lisp_tokens.specs.Fault.{Kind, end_inside, not_text}
use Rattle.lisp_tokens.specs.Gaps.{Gaps, GapFails, no_more, blank, comment, block, here, in_block, in_open_block, open_block, after_blank, after_comment, after_block, line, after_line, begins_gap, opens_comment, Closes, Unclosed}
use Rattle.lisp_tokens.proofs.OnComments.{Closes-unique}

pub valid-not_utf8 : (bs : List ℕ) (n : ℕ) → IsValidUpTo bs n → IsUtf8 bs → ⊥
valid-not_utf8 bs n valid utf8 =
    let short = valid.short in
    omega (arith, utf8_valid_len-IsValidUpTo bs n valid, utf8_valid_len-IsUtf8 bs utf8)

pub valid-unique : (bs : List ℕ) (m n : ℕ) → IsValidUpTo bs m → IsValidUpTo bs n → n ≡ m
valid-unique bs m n p q = sym (utf8_valid_len-IsValidUpTo bs n q) ∙ utf8_valid_len-IsValidUpTo bs m p

-- ---- what stands first

data First : Type 0 where
  no_gap : First
  a_blank : First
  a_line : First
  a_block : First

abbrev first : List ℕ → First
first [] = no_gap
first (b ∷ t) = cond (is_blank b) a_blank (cond (b == 59) a_line (cond (opens_comment (b ∷ t)) a_block no_gap))

or_parts : (a b : Bool) → (a || b) ≡ false → (a ≡ false) × (b ≡ false)
or_parts true b e = absurd (false≢true (sym e))
or_parts false b e = (refl, e)

first-none : (text : List ℕ) → begins_gap text ≡ false → first text ≡ no_gap
first-none [] e = refl
first-none (b ∷ t) e =
    let p = or_parts (is_blank b || b == 59) (opens_comment (b ∷ t)) e in
    let q = or_parts (is_blank b) (b == 59) p.0 in
    rw (q.0, q.1, p.1) refl

first-blank : (b : ℕ) (t : List ℕ) → is_blank b ≡ true → first (b ∷ t) ≡ a_blank
first-blank b t is = rw is refl

-- ---- where the gaps end, or at what fault

pub data End : Type 0 where
  stop : List ℕ → End
  fault : Kind → List ℕ → End

abbrev pub Ends : List ℕ → End → Type 0
Ends text (stop rest) = Gaps text rest
Ends text (fault kind at) = GapFails text kind at

data Line (t : List ℕ) (end : End) : Type 0 where
  whole_line : IsUtf8 (line t) → Ends (after_line t) end → Line t end
  bad_line : (n : ℕ) → IsValidUpTo (line t) n → end ≡ fault not_text (drop n t) → Line t end

data Block (t : List ℕ) (end : End) : Type 0 where
  whole_block : (n : ℕ) → Closes t n → IsUtf8 (take n t) → Ends (drop n t) end → Block t end
  bad_block : (n k : ℕ) → Closes t n → IsValidUpTo (take n t) k → end ≡ fault not_text (drop k t) → Block t end
  bad_open : (k : ℕ) → Unclosed t → IsValidUpTo t k → end ≡ fault not_text (drop k t) → Block t end
  whole_open : Unclosed t → IsUtf8 t → end ≡ fault end_inside (35 ∷ 124 ∷ t) → Block t end

abbrev EndsAs : First → List ℕ → End → Type 0
EndsAs no_gap text end = end ≡ stop text
EndsAs a_blank text end = Ends (drop 1 text) end
EndsAs a_line text end = Line (drop 1 text) end
EndsAs a_block text end = Block (drop 2 text) end

gaps-by : (text rest : List ℕ) → Gaps text rest → EndsAs (first text) text (stop rest)
gaps-by text rest (no_more _ e) = subst (λ (k : First). EndsAs k text (stop text)) (sym (first-none text e)) refl
gaps-by text rest (blank b t _ e g) = subst (λ (k : First). EndsAs k (b ∷ t) (stop rest)) (sym (first-blank b t e)) g
gaps-by text rest (comment t _ u g) = whole_line u g
gaps-by text rest (block t n _ c u g) = whole_block n c u g

fails-by : (text : List ℕ) (kind : Kind) (at : List ℕ) → GapFails text kind at → EndsAs (first text) text (fault kind at)
fails-by text kind at (here t n v) = bad_line n v refl
fails-by text kind at (in_block t n k c v) = bad_block n k c v refl
fails-by text kind at (in_open_block t k u v) = bad_open k u v refl
fails-by text kind at (open_block t u v) = whole_open u v refl
fails-by text kind at (after_blank b t _ _ e g) =
    subst (λ (k : First). EndsAs k (b ∷ t) (fault kind at)) (sym (first-blank b t e)) g
fails-by text kind at (after_comment t _ _ u g) = whole_line u g
fails-by text kind at (after_block t n _ _ c u g) = whole_block n c u g

ends-by : (text : List ℕ) (end : End) → Ends text end → EndsAs (first text) text end
ends-by text (stop rest) g = gaps-by text rest g
ends-by text (fault kind at) g = fails-by text kind at g

-- ---- the same way each time

none-one : (text : List ℕ) (end : End) → begins_gap text ≡ false → Ends text end → end ≡ stop text
none-one text end e h = subst (λ (k : First). EndsAs k text end) (first-none text e) (ends-by text end h)

blank-rest : (b : ℕ) (t : List ℕ) (end : End) → is_blank b ≡ true → Ends (b ∷ t) end → Ends t end
blank-rest b t end e h = subst (λ (k : First). EndsAs k (b ∷ t) end) (first-blank b t e) (ends-by (b ∷ t) end h)

line-rest : (t : List ℕ) (end : End) → IsUtf8 (line t) → Line t end → Ends (after_line t) end
line-rest t end u (whole_line v g) = g
line-rest t end u (bad_line n v e) = absurd (valid-not_utf8 (line t) n v u)

block-rest : (t : List ℕ) (n : ℕ) (end : End) → Closes t n → IsUtf8 (take n t) → Block t end → Ends (drop n t) end
block-rest t n end c u (whole_block m d v g) = subst (λ (k : ℕ). Ends (drop k t) end) (Closes-unique t n m c d) g
block-rest t n end c u (bad_block m k d v e) =
    absurd (valid-not_utf8 (take n t) k (subst (λ (j : ℕ). IsValidUpTo (take j t) k) (Closes-unique t n m c d) v) u)
block-rest t n end c u (bad_open k unclosed v e) = absurd (unclosed n c)
block-rest t n end c u (whole_open unclosed v e) = absurd (unclosed n c)

bad_line-one : (t : List ℕ) (n : ℕ) (end : End) → IsValidUpTo (line t) n → Line t end → end ≡ fault not_text (drop n t)
bad_line-one t n end v (whole_line u g) = absurd (valid-not_utf8 (line t) n v u)
bad_line-one t n end v (bad_line m w e) = e ∙ ap (λ (k : ℕ). fault not_text (drop k t)) (valid-unique (line t) n m v w)

bad_block-one : (t : List ℕ) (n k : ℕ) (end : End) → Closes t n → IsValidUpTo (take n t) k → Block t end → end ≡ fault not_text (drop k t)
bad_block-one t n k end c v (whole_block m d u g) =
    absurd (valid-not_utf8 (take n t) k v (subst (λ (j : ℕ). IsUtf8 (take j t)) (Closes-unique t n m c d) u))
bad_block-one t n k end c v (bad_block m j d w e) =
    let w' = subst (λ (i : ℕ). IsValidUpTo (take i t) j) (Closes-unique t n m c d) w in
    e ∙ ap (λ (i : ℕ). fault not_text (drop i t)) (valid-unique (take n t) k j v w')
bad_block-one t n k end c v (bad_open j unclosed w e) = absurd (unclosed n c)
bad_block-one t n k end c v (whole_open unclosed u e) = absurd (unclosed n c)

bad_open-one : (t : List ℕ) (k : ℕ) (end : End) → Unclosed t → IsValidUpTo t k → Block t end → end ≡ fault not_text (drop k t)
bad_open-one t k end unclosed v (whole_block m d u g) = absurd (unclosed m d)
bad_open-one t k end unclosed v (bad_block m j d w e) = absurd (unclosed m d)
bad_open-one t k end unclosed v (bad_open j other w e) = e ∙ ap (λ (i : ℕ). fault not_text (drop i t)) (valid-unique t k j v w)
bad_open-one t k end unclosed v (whole_open other u e) = absurd (valid-not_utf8 t k v u)

whole_open-one : (t : List ℕ) (end : End) → Unclosed t → IsUtf8 t → Block t end → end ≡ fault end_inside (35 ∷ 124 ∷ t)
whole_open-one t end unclosed u (whole_block m d v g) = absurd (unclosed m d)
whole_open-one t end unclosed u (bad_block m j d w e) = absurd (unclosed m d)
whole_open-one t end unclosed u (bad_open j other w e) = absurd (valid-not_utf8 t j w u)
whole_open-one t end unclosed u (whole_open other v e) = e

gaps-one : (text rest : List ℕ) (end : End) → Gaps text rest → Ends text end → end ≡ stop rest
gaps-one text rest end (no_more _ e) h = none-one text end e h
gaps-one text rest end (blank b t _ e g) h = gaps-one t rest end g (blank-rest b t end e h)
gaps-one text rest end (comment t _ u g) h = gaps-one (after_line t) rest end g (line-rest t end u (ends-by (59 ∷ t) end h))
gaps-one text rest end (block t n _ c u g) h =
    gaps-one (drop n t) rest end g (block-rest t n end c u (ends-by (35 ∷ 124 ∷ t) end h))

fails-one : (text : List ℕ) (kind : Kind) (at : List ℕ) (end : End) → GapFails text kind at → Ends text end → end ≡ fault kind at
fails-one text kind at end (here t n v) h = bad_line-one t n end v (ends-by (59 ∷ t) end h)
fails-one text kind at end (in_block t n k c v) h = bad_block-one t n k end c v (ends-by (35 ∷ 124 ∷ t) end h)
fails-one text kind at end (in_open_block t k u v) h = bad_open-one t k end u v (ends-by (35 ∷ 124 ∷ t) end h)
fails-one text kind at end (open_block t u v) h = whole_open-one t end u v (ends-by (35 ∷ 124 ∷ t) end h)
fails-one text kind at end (after_blank b t _ _ e g) h = fails-one t kind at end g (blank-rest b t end e h)
fails-one text kind at end (after_comment t _ _ u g) h =
    fails-one (after_line t) kind at end g (line-rest t end u (ends-by (59 ∷ t) end h))
fails-one text kind at end (after_block t n _ _ c u g) h =
    fails-one (drop n t) kind at end g (block-rest t n end c u (ends-by (35 ∷ 124 ∷ t) end h))

-- ---- and so

abbrev stopped : List ℕ → End → List ℕ
stopped default (stop rest) = rest
stopped default (fault kind at) = default

abbrev kind_of : End → Kind
kind_of (stop rest) = not_text
kind_of (fault kind at) = kind

abbrev place_of : End → List ℕ
place_of (stop rest) = rest
place_of (fault kind at) = at

pub Gaps-unique : (text rest more : List ℕ) → Gaps text rest → Gaps text more → more ≡ rest
Gaps-unique text rest more g h = ap (stopped []) (gaps-one text rest (stop more) g h)

pub Gaps-clash : (text rest : List ℕ) (kind : Kind) (at : List ℕ) → Gaps text rest → GapFails text kind at → ⊥
Gaps-clash text rest kind at g h =
    let e : fault kind at ≡ stop rest = gaps-one text rest (fault kind at) g h in
    cc

pub GapFails-unique : (text : List ℕ) (kind : Kind) (at : List ℕ) (other : Kind) (to : List ℕ) → GapFails text kind at → GapFails text other to → (other ≡ kind) × (to ≡ at)
GapFails-unique text kind at other to g h =
    let e : fault other to ≡ fault kind at = fails-one text kind at (fault other to) g h in
    (ap kind_of e, ap place_of e)
