-- A text has one reading as a datum: the datum and what follows it, or one fault.
use Rattle.std.proofs.Common.{◌≡◌, ◌∙◌, ℕ, ◌-◌, ◌<◌, List, [], ◌∷◌, ◌++◌, drop, true, false, Bool, IsUtf8, refl, sym, ap, subst, arith, ◌⊎◌, inl, inr, append-nil}
use Rattle.std.specs.Str.{IsValidUpTo}
use Rattle.std.proofs.lemmas.Bool.{false≢true, eqb-true}
use Rattle.lisp_data.specs.Datum.{Dat, string}
use Rattle.lisp_tokens.specs.Fault.{Kind, end_inside, bad_token, bad_dot, bad_hash, too_deep, not_text, stray_close}
use Rattle.lisp_tokens.specs.Gaps.{Gaps, GapFails}
use Rattle.lisp_tokens.specs.Reading.{Spells, Items, Tail, Fails, TailFails, NoDatum, BeginsDatum, EndFails, of_token, in_quotes, in_parentheses, with_dot, prefixed, none, more, tail, at_end, at_close, at_hash, at_comma, at_token, at_other, before_end, second, no_close, at_front, list_too_deep, prefix_too_deep, no_quote, in_string, in_item, before_item, after_dot, in_prefixed, after_prefix, before_tail, no_tail, in_tail, after_tail, list_of, closes, dot_fits}
use Rattle.lisp_tokens.specs.Reading as reading
use Rattle.lisp_tokens.specs.Strings.{body, after_body, characters}
use Rattle.lisp_tokens.specs.Token.{run, after_run, Denotes, DenotesNone, Means, Refused, class_of}
use Rattle.lisp_tokens.specs.declared.token.Class.{Class}
use Rattle.lisp_tokens.specs.declared.token.Class.TheVariants.{Integer, Dot, Keyword, Symbol, Bad}
use Rattle.lisp_reader.proofs.OneGap.{Gaps-unique, Gaps-clash, GapFails-unique, valid-not_utf8, valid-unique}
use Rattle.lisp_reader.proofs.OneFront as front
use Rattle.lisp_reader.proofs.OneFront.{Begins, begins, begins-token, prefix-begins, hash-begins, other-begins, Read, got, fault, is_got, Reading, TailReading, operated, ended, operated-got, ended-got, TokenWay, a_datum, no_datum, StringWay, quoted, unended, ill_formed, PrefixWay, deep_prefix, bad_gap, inside, Ending, closing, dotting, gap_ending, item_ending, ListWay, deep_list, with_items, ReadAs, reads-by, reads-at, got-fault, spells-close, spells-dot}

none_or_some : {P : Type 0} (room : ℕ) → room ≡ 0 → 0 < room → P
none_or_some room full some = absurd (omega arith)

-- ---- tokens

Means-unique : (k : Class) (token : List ℕ) (d e : Dat) → Means k token d → Means k token e → e ≡ d
Means-unique Integer token d e m n = n.1 ∙ sym m.1
Means-unique Keyword token d e m n = n ∙ sym m
Means-unique Symbol token d e m n = n ∙ sym m
Means-unique Dot token d e m n = absurd m
Means-unique Bad token d e m n = absurd m

means-refused : (k : Class) (token : List ℕ) (d : Dat) (kind : Kind) → Means k token d → Refused k token kind → ⊥
means-refused Integer token d kind m r = r.0 m.0
means-refused Keyword token d kind m r = r
means-refused Symbol token d kind m r = r
means-refused Dot token d kind m r = m
means-refused Bad token d kind m r = m

refused-unique : (k : Class) (token : List ℕ) (kind other : Kind) → Refused k token kind → Refused k token other → other ≡ kind
refused-unique Integer token kind other r s = s.1 ∙ sym r.1
refused-unique Keyword token kind other r s = absurd r
refused-unique Symbol token kind other r s = absurd r
refused-unique Dot token kind other r s = s ∙ sym r
refused-unique Bad token kind other r s = s ∙ sym r

token-one : (text : List ℕ) (d : Dat) (read : Read) → Denotes (run text) d → TokenWay text read → read ≡ got d (after_run text)
token-one text d read denotes (a_datum e m is) =
    is ∙ ap (λ (x : Dat). got x (after_run text)) (Means-unique (class_of (run text)) (run text) d e denotes m)
token-one text d read denotes (no_datum kind r is) = absurd (means-refused (class_of (run text)) (run text) d kind denotes r)

no_token-one : (text : List ℕ) (kind : Kind) (read : Read) → DenotesNone (run text) kind → TokenWay text read → read ≡ fault kind text
no_token-one text kind read denotes (a_datum e m is) = absurd (means-refused (class_of (run text)) (run text) e kind m denotes)
no_token-one text kind read denotes (no_datum other r is) =
    is ∙ ap (λ (x : Kind). fault x text) (refused-unique (class_of (run text)) (run text) kind other denotes r)

-- ---- strings

quoted-one : (t rest : List ℕ) (read : Read) → IsUtf8 (body t) → after_body t ≡ 34 ∷ rest → StringWay t read → read ≡ got (string (characters (body t))) rest
quoted-one t rest read utf8 after (quoted to _ other is) =
    is ∙ ap (λ (x : List ℕ). got (string (characters (body t))) (drop 1 x)) (sym other ∙ after)
quoted-one t rest read utf8 after (unended _ other is) =
    let e : 34 ∷ rest ≡ [] = sym after ∙ other in
    absurd cc
quoted-one t rest read utf8 after (ill_formed n valid is) = absurd (valid-not_utf8 (body t) n valid utf8)

unended-one : (t : List ℕ) (read : Read) → IsUtf8 (body t) → after_body t ≡ [] → StringWay t read → read ≡ fault end_inside []
unended-one t read utf8 after (quoted to _ other is) =
    let e : [] ≡ 34 ∷ to = sym after ∙ other in
    absurd cc
unended-one t read utf8 after (unended _ other is) = is
unended-one t read utf8 after (ill_formed n valid is) = absurd (valid-not_utf8 (body t) n valid utf8)

ill_formed-one : (t : List ℕ) (n : ℕ) (read : Read) → IsValidUpTo (body t) n → StringWay t read → read ≡ fault not_text (drop n t)
ill_formed-one t n read valid (quoted to utf8 other is) = absurd (valid-not_utf8 (body t) n valid utf8)
ill_formed-one t n read valid (unended utf8 other is) = absurd (valid-not_utf8 (body t) n valid utf8)
ill_formed-one t n read valid (ill_formed m other is) =
    is ∙ ap (λ (k : ℕ). fault not_text (drop k t)) (valid-unique (body t) n m valid other)

-- ---- what is no datum by its first bytes

pub front-one : (room : ℕ) (text : List ℕ) (kind : Kind) (read : Read) → NoDatum text kind → Reading room text read → read ≡ fault kind text
front-one room text kind read at_end h = reads-by room [] read h
front-one room text kind read (at_close t) h = reads-by room (41 ∷ t) read h
front-one room text kind read (at_hash t e) h = reads-at room (35 ∷ t) read (front.nothing bad_hash) (hash-begins t e) h
front-one room text kind read (at_comma t) h = reads-by room (44 ∷ 46 ∷ t) read h
front-one room text kind read (at_token b t _ is denotes) h =
    no_token-one (b ∷ t) kind read denotes (reads-at room (b ∷ t) read front.a_token (begins-token b t is) h)
front-one room text kind read (at_other b t is) h = reads-at room (b ∷ t) read (front.nothing bad_token) (other-begins b t is) h

-- ---- elements

pub record More (room : ℕ) (text : List ℕ) (ds : List Dat) (last : List ℕ) : Type 0 where
  pub start : List ℕ
  pub datum : Dat
  pub after : List ℕ
  pub rest : List Dat
  pub gaps : Gaps text start
  pub spells : Spells room start datum after
  pub items : Items room after rest last
  pub same : ds ≡ datum ∷ rest

abbrev ItemsBy : ℕ → List ℕ → List Dat → List ℕ → Type 0
ItemsBy room text ds last = ((ds ≡ []) × (last ≡ text)) ⊎ More room text ds last

items-by : (room : ℕ) (text : List ℕ) (ds : List Dat) (last : List ℕ) → Items room text ds last → ItemsBy room text ds last
items-by room text ds last (none _ _) = inl (refl, refl)
items-by room text ds last (more _ _ start d after es _ gaps spells items) =
    inr (record { start = start; datum = d; after = after; rest = es; gaps = gaps; spells = spells; items = items; same = refl })

-- the second elements are the first ones and then more
record Longer (room : ℕ) (ds : List Dat) (last : List ℕ) (es : List Dat) (end : List ℕ) : Type 0 where
  rest : List Dat
  items : Items room last rest end
  same : es ≡ ds ++ rest

abbrev Compared : ℕ → List Dat → List ℕ → List Dat → List ℕ → Type 0
Compared room ds last es end = Longer room ds last es end ⊎ Longer room es end ds last

-- one element more on both sides
compared-more : (room : ℕ) (d : Dat) (ds es : List Dat) (last end : List ℕ) → Compared room ds last es end → Compared room (d ∷ ds) last (d ∷ es) end
compared-more room d ds es last end (inl l) = inl (record { rest = l.rest; items = l.items; same = ap (λ (xs : List Dat). d ∷ xs) l.same })
compared-more room d ds es last end (inr l) = inr (record { rest = l.rest; items = l.items; same = ap (λ (xs : List Dat). d ∷ xs) l.same })

abbrev datum_of_read : Dat → Read → Dat
datum_of_read default (got d rest) = d
datum_of_read default (fault kind at) = default

abbrev rest_of_read : Read → List ℕ
rest_of_read (got d rest) = rest
rest_of_read (fault kind at) = at

abbrev kind_of_read : Read → Kind
kind_of_read (got d rest) = not_text
kind_of_read (fault kind at) = kind

compare-more : (room : ℕ) (text start : List ℕ) (d : Dat) (after : List ℕ) (ds : List Dat) (last : List ℕ) (es : List Dat) (end : List ℕ) → Gaps text start → Items room text (d ∷ ds) last → ((e : Dat) (to : List ℕ) → Spells room start e to → got e to ≡ got d after) → ((fs : List Dat) → Items room after fs end → Compared room ds last fs end) → ItemsBy room text es end → Compared room (d ∷ ds) last es end
compare-more room text start d after ds last es end gaps all one rest (inl p) =
    inr (record { rest = d ∷ ds; items = subst (λ (t : List ℕ). Items room t (d ∷ ds) last) (sym p.1) all; same = ap (λ (xs : List Dat). xs ++ (d ∷ ds)) (sym p.0) })
compare-more room text start d after ds last es end gaps all one rest (inr m) =
    let same = Gaps-unique text start m.start gaps m.gaps in
    let here = one m.datum m.after (subst (λ (t : List ℕ). Spells room t m.datum m.after) same m.spells) in
    let compared = compared-more room d ds m.rest last end (rest m.rest (subst (λ (t : List ℕ). Items room t m.rest end) (ap rest_of_read here) m.items)) in
    let e : d ∷ m.rest ≡ es = ap (λ (x : Dat). x ∷ m.rest) (sym (ap (datum_of_read d) here)) ∙ sym m.same in
    subst (λ (xs : List Dat). Compared room (d ∷ ds) last xs end) e compared

-- no further element follows
abbrev NoMore : ℕ → List ℕ → Type 0
NoMore room last = (start : List ℕ) (d : Dat) (to : List ℕ) → Gaps last start → Spells room start d to → ⊥

no_more-by : (room : ℕ) (ds : List Dat) (last : List ℕ) (es : List Dat) (end : List ℕ) → NoMore room last → (l : Longer room ds last es end) → ItemsBy room last l.rest end → (es ≡ ds) × (end ≡ last)
no_more-by room ds last es end stops l (inl p) = (l.same ∙ (ap (λ (xs : List Dat). ds ++ xs) p.0 ∙ append-nil ds), p.1)
no_more-by room ds last es end stops l (inr m) = absurd (stops m.start m.datum m.after m.gaps m.spells)

-- elements after which none follows are all of them
all_items : (room : ℕ) (ds : List Dat) (last : List ℕ) (es : List Dat) (end : List ℕ) → NoMore room last → NoMore room end → Compared room ds last es end → (es ≡ ds) × (end ≡ last)
all_items room ds last es end stops stops' (inl l) = no_more-by room ds last es end stops l (items-by room last l.rest end l.items)
all_items room ds last es end stops stops' (inr l) =
    let p = no_more-by room es end ds last stops' l (items-by room end l.rest last l.items) in
    (sym p.0, sym p.1)

-- ---- what ends the elements of a list

-- a fault and a datum do not begin at one place
abbrev Clash : Type 0
Clash = (room : ℕ) (text : List ℕ) (kind : Kind) (at : List ℕ) (d : Dat) (rest : List ℕ) → Fails room text kind at → Spells room text d rest → ⊥

closing-stops : (room : ℕ) (last rest : List ℕ) → Gaps last (41 ∷ rest) → NoMore room last
closing-stops room last rest gaps start d to g spells =
    spells-close room (41 ∷ rest) d to refl (subst (λ (t : List ℕ). Spells room t d to) (Gaps-unique last (41 ∷ rest) start gaps g) spells)

dot-stops : (room : ℕ) (ds : List Dat) (last after : List ℕ) → Gaps last (46 ∷ after) → dot_fits ds (46 ∷ after) ≡ true → NoMore room last
dot-stops room ds last after gaps fits start d to g spells =
    spells-dot room ds after d to fits (subst (λ (t : List ℕ). Spells room t d to) (Gaps-unique last (46 ∷ after) start gaps g) spells)

gap-stops : (room : ℕ) (last : List ℕ) (kind : Kind) (at : List ℕ) → GapFails last kind at → NoMore room last
gap-stops room last kind at fails start d to g spells = Gaps-clash last start kind at g fails

item-stops : (room : ℕ) (last start : List ℕ) → Gaps last start → ((d : Dat) (to : List ℕ) → Spells room start d to → ⊥) → NoMore room last
item-stops room last start gaps no_spelling other d to g spells =
    no_spelling d to (subst (λ (t : List ℕ). Spells room t d to) (Gaps-unique last start other gaps g) spells)

-- where no datum is read, or no clash is left
abbrev Apart : Bool → Type 0
Apart w = w ≡ false → Clash

fault-got : {P : Type 0} (w : Bool) (read : Read) (kind : Kind) (at : List ℕ) → is_got read ≡ w → read ≡ fault kind at → (w ≡ false → P) → P
fault-got w read kind at is same go = go (sym is ∙ ap is_got same)

ending-stops : (w : Bool) (room : ℕ) (ds : List Dat) (last : List ℕ) (read : Read) → Apart w → is_got read ≡ w → Ending room ds last read → NoMore room last
ending-stops w room ds last read clash is (closing rest gaps same) = closing-stops room last rest gaps
ending-stops w room ds last read clash is (dotting after inner gaps fits then same) = dot-stops room ds last after gaps fits
ending-stops w room ds last read clash is (gap_ending kind at fails same) = gap-stops room last kind at fails
ending-stops w room ds last read clash is (item_ending start kind at gaps unclosed no_dot fails same) =
    item-stops room last start gaps (λ d to spells. fault-got w read kind at is same clash room start kind at d to fails spells)

-- the ending of a list after the elements that are all of them
the_ending : (w : Bool) (room : ℕ) (t : List ℕ) (ds : List Dat) (last : List ℕ) (read : Read) → Apart w → is_got read ≡ w → 0 < room → NoMore (room - 1) last → ((es : List Dat) (end : List ℕ) → Items (room - 1) t es end → Compared (room - 1) ds last es end) → ListWay room t read → Ending (room - 1) ds last read
the_ending w room t ds last read clash is some stops compare (deep_list full same) = none_or_some room full some
the_ending w room t ds last read clash is some stops compare (with_items es end _ items ending) =
    let p = all_items (room - 1) ds last es end stops (ending-stops w (room - 1) es end read clash is ending) (compare es end items) in
    subst (λ (xs : List Dat). Ending (room - 1) xs last read) p.0 (subst (λ (x : List ℕ). Ending (room - 1) es x read) p.1 ending)

-- each reading of such a kind is this one
abbrev One : Bool → ℕ → List ℕ → Read → Type 0
One w room text mine = (read : Read) → is_got read ≡ w → Reading room text read → read ≡ mine

abbrev OneTail : Bool → ℕ → List ℕ → Read → Type 0
OneTail w room text mine = (read : Read) → is_got read ≡ w → TailReading room text read → read ≡ mine

abbrev first_of : List ℕ → ℕ
first_of [] = 0
first_of (b ∷ t) = b

apart_numbers : {P : Type 0} (a b : ℕ) (s t : List ℕ) → a ∷ s ≡ b ∷ t → ¬ (a ≡ b) → P
apart_numbers a b s t e other = absurd (other (ap first_of e))

closing-one : (room : ℕ) (ds : List Dat) (last rest : List ℕ) (read : Read) → Gaps last (41 ∷ rest) → Ending room ds last read → read ≡ got (list_of ds) rest
closing-one room ds last rest read gaps (closing to g same) =
    same ∙ ap (λ (x : List ℕ). got (list_of ds) (drop 1 x)) (Gaps-unique last (41 ∷ rest) (41 ∷ to) gaps g)
closing-one room ds last rest read gaps (dotting after inner g fits then same) =
    apart_numbers 46 41 after rest (Gaps-unique last (41 ∷ rest) (46 ∷ after) gaps g) (λ e. absurd (omega arith))
closing-one room ds last rest read gaps (gap_ending kind at fails same) = absurd (Gaps-clash last (41 ∷ rest) kind at gaps fails)
closing-one room ds last rest read gaps (item_ending start kind at g unclosed no_dot fails same) =
    absurd (false≢true (sym unclosed ∙ ap closes (Gaps-unique last (41 ∷ rest) start gaps g)))

dotting-one : (w : Bool) (room : ℕ) (ds : List Dat) (last after : List ℕ) (mine read : Read) → is_got read ≡ w → Gaps last (46 ∷ after) → dot_fits ds (46 ∷ after) ≡ true → OneTail w room after mine → Ending room ds last read → read ≡ ended ds mine
dotting-one w room ds last after mine read is gaps fits one (closing to g same) =
    apart_numbers 41 46 to after (Gaps-unique last (46 ∷ after) (41 ∷ to) gaps g) (λ e. absurd (omega arith))
dotting-one w room ds last after mine read is gaps fits one (dotting to inner g fits' then same) =
    let e : to ≡ after = ap (drop 1) (Gaps-unique last (46 ∷ after) (46 ∷ to) gaps g) in
    let tail' : TailReading room after inner = subst (λ (x : List ℕ). TailReading room x inner) e then in
    let is' : is_got inner ≡ w = sym (ended-got ds inner) ∙ (sym (ap is_got same) ∙ is) in
    same ∙ ap (ended ds) (one inner is' tail')
dotting-one w room ds last after mine read is gaps fits one (gap_ending kind at fails same) =
    absurd (Gaps-clash last (46 ∷ after) kind at gaps fails)
dotting-one w room ds last after mine read is gaps fits one (item_ending start kind at g unclosed no_dot fails same) =
    absurd (false≢true (sym no_dot ∙ (ap (dot_fits ds) (Gaps-unique last (46 ∷ after) start gaps g) ∙ fits)))

gap-one : (room : ℕ) (ds : List Dat) (last : List ℕ) (kind : Kind) (at : List ℕ) (read : Read) → GapFails last kind at → Ending room ds last read → read ≡ fault kind at
gap-one room ds last kind at read mine (closing to g same) = absurd (Gaps-clash last (41 ∷ to) kind at g mine)
gap-one room ds last kind at read mine (dotting after inner g fits then same) = absurd (Gaps-clash last (46 ∷ after) kind at g mine)
gap-one room ds last kind at read mine (gap_ending other to fails same) =
    let p = GapFails-unique last kind at other to mine fails in
    same ∙ (ap (λ (x : Kind). fault x to) p.0 ∙ ap (fault kind) p.1)
gap-one room ds last kind at read mine (item_ending start other to g unclosed no_dot fails same) =
    absurd (Gaps-clash last start kind at g mine)

item-one : (w : Bool) (room : ℕ) (ds : List Dat) (last start : List ℕ) (kind : Kind) (at : List ℕ) (read : Read) → is_got read ≡ w → Gaps last start → closes start ≡ false → dot_fits ds start ≡ false → One w room start (fault kind at) → Ending room ds last read → read ≡ fault kind at
item-one w room ds last start kind at read is gaps unclosed no_dot one (closing to g same) =
    absurd (false≢true (sym unclosed ∙ ap closes (sym (Gaps-unique last start (41 ∷ to) gaps g))))
item-one w room ds last start kind at read is gaps unclosed no_dot one (dotting after inner g fits then same) =
    absurd (false≢true (sym no_dot ∙ (ap (dot_fits ds) (sym (Gaps-unique last start (46 ∷ after) gaps g)) ∙ fits)))
item-one w room ds last start kind at read is gaps unclosed no_dot one (gap_ending other to fails same) =
    absurd (Gaps-clash last start other to gaps fails)
item-one w room ds last start kind at read is gaps unclosed no_dot one (item_ending other k to g unclosed' no_dot' fails same) =
    let fails' : Fails room start k to = subst (λ (x : List ℕ). Fails room x k to) (Gaps-unique last start other gaps g) fails in
    same ∙ one (fault k to) (sym (ap is_got same) ∙ is) fails'

-- ---- prefixes

inside-one : (w : Bool) (room : ℕ) (text operator after start : List ℕ) (mine read : Read) → is_got read ≡ w → 0 < room → Gaps after start → One w (room - 1) start mine → PrefixWay room text operator after read → read ≡ operated operator mine
inside-one w room text operator after start mine read is some gaps one (deep_prefix full same) = none_or_some room full some
inside-one w room text operator after start mine read is some gaps one (bad_gap kind at _ fails same) =
    absurd (Gaps-clash after start kind at gaps fails)
inside-one w room text operator after start mine read is some gaps one (inside other inner _ g reading same) =
    let reading' : Reading (room - 1) start inner = subst (λ (x : List ℕ). Reading (room - 1) x inner) (Gaps-unique after start other gaps g) reading in
    let is' : is_got inner ≡ w = sym (operated-got operator inner) ∙ (sym (ap is_got same) ∙ is) in
    same ∙ ap (operated operator) (one inner is' reading')

bad_gap-one : (room : ℕ) (text operator after : List ℕ) (kind : Kind) (at : List ℕ) (read : Read) → 0 < room → GapFails after kind at → PrefixWay room text operator after read → read ≡ fault kind at
bad_gap-one room text operator after kind at read some mine (deep_prefix full same) = none_or_some room full some
bad_gap-one room text operator after kind at read some mine (bad_gap other to _ fails same) =
    let p = GapFails-unique after kind at other to mine fails in
    same ∙ (ap (λ (x : Kind). fault x to) p.0 ∙ ap (fault kind) p.1)
bad_gap-one room text operator after kind at read some mine (inside start inner _ g reading same) =
    absurd (Gaps-clash after start kind at g mine)

deep_prefix-one : (room : ℕ) (text operator after : List ℕ) (read : Read) → room ≡ 0 → PrefixWay room text operator after read → read ≡ fault too_deep text
deep_prefix-one room text operator after read full (deep_prefix _ same) = same
deep_prefix-one room text operator after read full (bad_gap kind at some fails same) = none_or_some room full some
deep_prefix-one room text operator after read full (inside start inner some g reading same) = none_or_some room full some

deep_list-one : (room : ℕ) (t : List ℕ) (read : Read) → room ≡ 0 → ListWay room t read → read ≡ fault too_deep (40 ∷ t)
deep_list-one room t read full (deep_list _ same) = same
deep_list-one room t read full (with_items ds last some items ending) = none_or_some room full some

-- ---- after a dot

data Close (end : List ℕ) (d : Dat) (read : Read) : Type 0 where
  closed : (rest : List ℕ) → Gaps end (41 ∷ rest) → read ≡ got d rest → Close end d read
  no_end : (kind : Kind) (at : List ℕ) → EndFails end kind at → read ≡ fault kind at → Close end d read

-- the way to read what follows a dot
data TailWay (room : ℕ) (text : List ℕ) (read : Read) : Type 0 where
  tail_gap : (kind : Kind) (at : List ℕ) → GapFails text kind at → read ≡ fault kind at → TailWay room text read
  tail_none : (start : List ℕ) → Gaps text start → closes start ≡ true → read ≡ fault bad_dot (46 ∷ text) → TailWay room text read
  tail_bad : (start : List ℕ) (kind : Kind) (at : List ℕ) → Gaps text start → closes start ≡ false → Fails room start kind at → read ≡ fault kind at → TailWay room text read
  tail_datum : (start : List ℕ) (d : Dat) (end : List ℕ) → Gaps text start → Spells room start d end → Close end d read → TailWay room text read

tail-spells : (room : ℕ) (text : List ℕ) (d : Dat) (rest : List ℕ) → Tail room text d rest → TailWay room text (got d rest)
tail-spells room text d rest (tail _ _ start _ end _ gaps spells close) = tail_datum start d end gaps spells (closed rest close refl)

tail-fails : (room : ℕ) (text : List ℕ) (kind : Kind) (at : List ℕ) → TailFails room text kind at → TailWay room text (fault kind at)
tail-fails room text kind at (before_tail _ _ _ _ fails) = tail_gap kind at fails refl
tail-fails room text kind at (no_tail _ _ start gaps is) = tail_none start gaps is refl
tail-fails room text kind at (in_tail _ _ start _ _ gaps unclosed fails) = tail_bad start kind at gaps unclosed fails refl
tail-fails room text kind at (after_tail _ _ start d end _ _ gaps spells fails) = tail_datum start d end gaps spells (no_end kind at fails refl)

tail-by : (room : ℕ) (text : List ℕ) (read : Read) → TailReading room text read → TailWay room text read
tail-by room text (got d rest) h = tail-spells room text d rest h
tail-by room text (fault kind at) h = tail-fails room text kind at h

-- ---- what stands where a list should close

close-front : (text : List ℕ) → closes text ≡ true → NoDatum text stray_close
close-front [] is = absurd (false≢true is)
close-front (b ∷ t) is = subst (λ (c : ℕ). NoDatum (c ∷ t) stray_close) (sym (eqb-true b 41 is)) (at_close t)

-- nothing, or a token
abbrev is_no_opening : Begins → Bool
is_no_opening front.a_token = true
is_no_opening front.a_string = false
is_no_opening front.a_list = false
is_no_opening (front.a_prefix operator after) = false
is_no_opening (front.nothing kind) = true

begins-nothing : (text : List ℕ) (kind : Kind) → NoDatum text kind → is_no_opening (begins text) ≡ true
begins-nothing text kind at_end = refl
begins-nothing text kind (at_close t) = refl
begins-nothing text kind (at_hash t e) = ap is_no_opening (hash-begins t e)
begins-nothing text kind (at_comma t) = refl
begins-nothing text kind (at_token b t _ is denotes) = ap is_no_opening (begins-token b t is)
begins-nothing text kind (at_other b t is) = ap is_no_opening (other-begins b t is)

-- a datum, or its token is one
front-datum : (text : List ℕ) (kind : Kind) → NoDatum text kind → BeginsDatum text → ⊥
front-datum text kind nd (reading.a_token b t d is denotes) =
    got-fault d (after_run (b ∷ t)) kind (b ∷ t) (front-one 0 (b ∷ t) kind (got d (after_run (b ∷ t))) nd (of_token 0 b t d is denotes))
front-datum text kind nd (reading.a_string t) = false≢true (begins-nothing (34 ∷ t) kind nd)
front-datum text kind nd (reading.a_list t) = false≢true (begins-nothing (40 ∷ t) kind nd)
front-datum text kind nd (reading.a_prefix _ operator after prefix) = false≢true (ap is_no_opening (sym (prefix-begins text operator after prefix)) ∙ begins-nothing text kind nd)

datum-close : (text : List ℕ) → closes text ≡ true → BeginsDatum text → ⊥
datum-close text is datum = front-datum text stray_close (close-front text is) datum

data EndWay (end : List ℕ) (kind : Kind) (at : List ℕ) : Type 0 where
  end_gap : GapFails end kind at → EndWay end kind at
  end_second : Gaps end at → BeginsDatum at → kind ≡ bad_dot → EndWay end kind at
  end_none : Gaps end at → closes at ≡ false → NoDatum at kind → EndWay end kind at

end-by : (end : List ℕ) (kind : Kind) (at : List ℕ) → EndFails end kind at → EndWay end kind at
end-by end kind at (before_end _ _ _ fails) = end_gap fails
end-by end kind at (second _ _ gaps datum) = end_second gaps datum refl
end-by end kind at (no_close _ _ _ gaps unclosed nd) = end_none gaps unclosed nd

end-closed : (end : List ℕ) (kind : Kind) (at rest : List ℕ) → Gaps end (41 ∷ rest) → EndWay end kind at → ⊥
end-closed end kind at rest gaps (end_gap fails) = Gaps-clash end (41 ∷ rest) kind at gaps fails
end-closed end kind at rest gaps (end_second g datum is) =
    datum-close at (ap closes (Gaps-unique end (41 ∷ rest) at gaps g)) datum
end-closed end kind at rest gaps (end_none g unclosed nd) =
    false≢true (sym unclosed ∙ ap closes (Gaps-unique end (41 ∷ rest) at gaps g))

end-one : (end : List ℕ) (kind : Kind) (at : List ℕ) (other : Kind) (to : List ℕ) → EndFails end kind at → EndWay end other to → (other ≡ kind) × (to ≡ at)
end-one end kind at other to (before_end _ _ _ mine) (end_gap fails) = GapFails-unique end kind at other to mine fails
end-one end kind at other to (before_end _ _ _ mine) (end_second g datum is) = absurd (Gaps-clash end to kind at g mine)
end-one end kind at other to (before_end _ _ _ mine) (end_none g unclosed nd) = absurd (Gaps-clash end to kind at g mine)
end-one end kind at other to (second _ _ gaps datum) (end_gap fails) = absurd (Gaps-clash end at other to gaps fails)
end-one end kind at other to (second _ _ gaps datum) (end_second g datum' is) = (is, Gaps-unique end at to gaps g)
end-one end kind at other to (second _ _ gaps datum) (end_none g unclosed nd) =
    absurd (front-datum at other (subst (λ (x : List ℕ). NoDatum x other) (Gaps-unique end at to gaps g) nd) datum)
end-one end kind at other to (no_close _ _ _ gaps unclosed nd) (end_gap fails) = absurd (Gaps-clash end at other to gaps fails)
end-one end kind at other to (no_close _ _ _ gaps unclosed nd) (end_second g datum is) =
    absurd (front-datum at kind nd (subst BeginsDatum (Gaps-unique end at to gaps g) datum))
end-one end kind at other to (no_close _ _ _ gaps unclosed nd) (end_none g unclosed' nd') =
    let e = Gaps-unique end at to gaps g in
    let nd'' : NoDatum at other = subst (λ (x : List ℕ). NoDatum x other) e nd' in
    let same : fault other at ≡ fault kind at = front-one 0 at kind (fault other at) nd (at_front 0 at other nd'') in
    (ap kind_of_read same, e)

-- ---- one reading after a dot

tail_datum-one : (room : ℕ) (text start : List ℕ) (d : Dat) (end rest : List ℕ) (e : Dat) (to : List ℕ) → Gaps text start → ((f : Dat) (x : List ℕ) → Spells room start f x → got f x ≡ got d end) → Gaps end (41 ∷ rest) → TailWay room text (got e to) → got e to ≡ got d rest
tail_datum-one room text start d end rest e to gaps one close (tail_gap kind at fails same) = got-fault e to kind at same
tail_datum-one room text start d end rest e to gaps one close (tail_none other g is same) = got-fault e to bad_dot (46 ∷ text) same
tail_datum-one room text start d end rest e to gaps one close (tail_bad other kind at g unclosed fails same) = got-fault e to kind at same
tail_datum-one room text start d end rest e to gaps one close (tail_datum other f x g spells ending) =
    let here = one f x (subst (λ (t : List ℕ). Spells room t f x) (Gaps-unique text start other gaps g) spells) in
    let ending' : Close end d (got e to) = subst (λ (u : Dat). Close end u (got e to)) (ap (datum_of_read d) here) (subst (λ (t : List ℕ). Close t f (got e to)) (ap rest_of_read here) ending) in
    elim ending' [
      | closed rest' g' same ↦ same ∙ ap (λ (t : List ℕ). got d (drop 1 t)) (Gaps-unique end (41 ∷ rest) (41 ∷ rest') close g')
      | no_end kind at fails same ↦ got-fault e to kind at same
    ]

tail_gap-one : (room : ℕ) (text : List ℕ) (kind : Kind) (at : List ℕ) (read : Read) → GapFails text kind at → TailWay room text read → read ≡ fault kind at
tail_gap-one room text kind at read mine (tail_gap other to fails same) =
    let p = GapFails-unique text kind at other to mine fails in
    same ∙ (ap (λ (x : Kind). fault x to) p.0 ∙ ap (fault kind) p.1)
tail_gap-one room text kind at read mine (tail_none start g is same) = absurd (Gaps-clash text start kind at g mine)
tail_gap-one room text kind at read mine (tail_bad start other to g unclosed fails same) = absurd (Gaps-clash text start kind at g mine)
tail_gap-one room text kind at read mine (tail_datum start d end g spells ending) = absurd (Gaps-clash text start kind at g mine)

tail_none-one : (room : ℕ) (text start : List ℕ) (read : Read) → Gaps text start → closes start ≡ true → TailWay room text read → read ≡ fault bad_dot (46 ∷ text)
tail_none-one room text start read gaps is (tail_gap kind at fails same) = absurd (Gaps-clash text start kind at gaps fails)
tail_none-one room text start read gaps is (tail_none other g is' same) = same
tail_none-one room text start read gaps is (tail_bad other kind at g unclosed fails same) =
    absurd (false≢true (sym unclosed ∙ (ap closes (Gaps-unique text start other gaps g) ∙ is)))
tail_none-one room text start read gaps is (tail_datum other d end g spells ending) =
    absurd (spells-close room other d end (ap closes (Gaps-unique text start other gaps g) ∙ is) spells)

tail_bad-one : (w : Bool) (room : ℕ) (text start : List ℕ) (kind : Kind) (at : List ℕ) (read : Read) → is_got read ≡ w → Gaps text start → closes start ≡ false → One w room start (fault kind at) → ((d : Dat) (to : List ℕ) → Spells room start d to → ⊥) → TailWay room text read → read ≡ fault kind at
tail_bad-one w room text start kind at read is gaps unclosed one no_spelling (tail_gap other to fails same) = absurd (Gaps-clash text start other to gaps fails)
tail_bad-one w room text start kind at read is gaps unclosed one no_spelling (tail_none other g closing' same) =
    absurd (false≢true (sym unclosed ∙ (ap closes (sym (Gaps-unique text start other gaps g)) ∙ closing')))
tail_bad-one w room text start kind at read is gaps unclosed one no_spelling (tail_bad other k to g unclosed' fails same) =
    same ∙ one (fault k to) (sym (ap is_got same) ∙ is) (subst (λ (x : List ℕ). Fails room x k to) (Gaps-unique text start other gaps g) fails)
tail_bad-one w room text start kind at read is gaps unclosed one no_spelling (tail_datum other d end g spells ending) =
    absurd (no_spelling d end (subst (λ (x : List ℕ). Spells room x d end) (Gaps-unique text start other gaps g) spells))

tail_end-one : (w : Bool) (room : ℕ) (text start : List ℕ) (d : Dat) (end : List ℕ) (kind : Kind) (at : List ℕ) (read : Read) → Apart w → is_got read ≡ w → Gaps text start → Spells room start d end → ((f : Dat) (x : List ℕ) → Spells room start f x → got f x ≡ got d end) → EndFails end kind at → TailWay room text read → read ≡ fault kind at
tail_end-one w room text start d end kind at read clash is gaps mine one fails (tail_gap other to no_gap same) = absurd (Gaps-clash text start other to gaps no_gap)
tail_end-one w room text start d end kind at read clash is gaps mine one fails (tail_none other g closing' same) =
    absurd (spells-close room start d end (ap closes (sym (Gaps-unique text start other gaps g)) ∙ closing') mine)
tail_end-one w room text start d end kind at read clash is gaps mine one fails (tail_bad other k to g unclosed bad same) =
    let bad' : Fails room start k to = subst (λ (x : List ℕ). Fails room x k to) (Gaps-unique text start other gaps g) bad in
    absurd (fault-got w read k to is same clash room start k to d end bad' mine)
tail_end-one w room text start d end kind at read clash is gaps mine one fails (tail_datum other f x g spells ending) =
    let here = one f x (subst (λ (t : List ℕ). Spells room t f x) (Gaps-unique text start other gaps g) spells) in
    let ending' : Close end f read = subst (λ (t : List ℕ). Close t f read) (ap rest_of_read here) ending in
    elim ending' [
      | closed rest' g' same ↦ absurd (end-closed end kind at rest' g' (end-by end kind at fails))
      | no_end other' to fails' same ↦ let p = end-one end kind at other' to fails (end-by end other' to fails') in same ∙ (ap (λ (k : Kind). fault k to) p.0 ∙ ap (fault kind) p.1)
    ]

-- ---- data

got-only : (room : ℕ) (text : List ℕ) (mine : Read) → ((e : Dat) (to : List ℕ) → Spells room text e to → got e to ≡ mine) → One true room text mine
got-only room text mine one (got e to) is h = one e to h
got-only room text mine one (fault kind at) is h = absurd (false≢true is)

got_tail-only : (room : ℕ) (text : List ℕ) (mine : Read) → ((e : Dat) (to : List ℕ) → Tail room text e to → got e to ≡ mine) → OneTail true room text mine
got_tail-only room text mine one (got e to) is h = one e to h
got_tail-only room text mine one (fault kind at) is h = absurd (false≢true is)

apart_true : Apart true
apart_true e = absurd (false≢true (sym e))

mutual
  spells-one : (room : ℕ) (text : List ℕ) (d : Dat) (rest : List ℕ) (e : Dat) (to : List ℕ) → Spells room text d rest → Spells room text e to → got e to ≡ got d rest
  spells-one room text d rest e to (of_token _ b t _ is denotes) h =
      token-one (b ∷ t) d (got e to) denotes (reads-at room (b ∷ t) (got e to) front.a_token (begins-token b t is) h)
  spells-one room text d rest e to (in_quotes _ t _ utf8 after) h =
      quoted-one t rest (got e to) utf8 after (reads-by room (34 ∷ t) (got e to) h)
  spells-one room text d rest e to (in_parentheses _ t ds last _ some items gaps) h =
      closing-one (room - 1) ds last rest (got e to) gaps
      (the_ending true room t ds last (got e to) apart_true refl some (closing-stops (room - 1) last rest gaps) (λ es end k. items-compare (room - 1) t ds last es end items k) (reads-by room (40 ∷ t) (got e to) h))
  spells-one room text d rest e to (with_dot _ t ds last after f _ some items gaps fits then) h =
      dotting-one true (room - 1) ds last after (got f rest) (got e to) refl gaps fits
      (got_tail-only (room - 1) after (got f rest) (λ g end k. tail-one (room - 1) after f rest g end then k))
      (the_ending true room t ds last (got e to) apart_true refl some (dot-stops (room - 1) ds last after gaps fits) (λ es end k. items-compare (room - 1) t ds last es end items k) (reads-by room (40 ∷ t) (got e to) h))
  spells-one room text d rest e to (prefixed _ _ operator after start f _ some prefix gaps spells) h =
      inside-one true room text operator after start (got f rest) (got e to) refl some gaps
      (got-only (room - 1) start (got f rest) (λ g end k. spells-one (room - 1) start f rest g end spells k))
      (reads-at room text (got e to) (front.a_prefix operator after) (prefix-begins text operator after prefix) h)

  items-compare : (room : ℕ) (text : List ℕ) (ds : List Dat) (last : List ℕ) (es : List Dat) (end : List ℕ) → Items room text ds last → Items room text es end → Compared room ds last es end
  items-compare room text ds last es end (none _ _) k = inl (record { rest = es; items = k; same = refl })
  items-compare room text ds last es end (more _ _ start d after fs _ gaps spells items) k =
      compare-more room text start d after fs last es end gaps (more room text start d after fs last gaps spells items) (λ e to h. spells-one room start d after e to spells h) (λ gs h. items-compare room after fs last gs end items h) (items-by room text es end k)

  tail-one : (room : ℕ) (text : List ℕ) (d : Dat) (rest : List ℕ) (e : Dat) (to : List ℕ) → Tail room text d rest → Tail room text e to → got e to ≡ got d rest
  tail-one room text d rest e to (tail _ _ start _ end _ gaps spells close) h =
      tail_datum-one room text start d end rest e to gaps (λ f x k. spells-one room start d end f x spells k) close (tail-spells room text e to h)

-- ---- faults

no-spelling : (w : Bool) (room : ℕ) (start : List ℕ) (kind : Kind) (at : List ℕ) (d : Dat) (to : List ℕ) → Apart w → Fails room start kind at → One w room start (fault kind at) → Spells room start d to → ⊥
no-spelling true room start kind at d to clash fails one spells = got-fault d to kind at (one (got d to) refl spells)
no-spelling false room start kind at d to clash fails one spells = clash refl room start kind at d to fails spells

mutual
  fails-one : (w : Bool) (room : ℕ) (text : List ℕ) (kind : Kind) (at : List ℕ) (read : Read) → Apart w → Fails room text kind at → is_got read ≡ w → Reading room text read → read ≡ fault kind at
  fails-one w room text kind at read clash (at_front _ _ _ nd) is h = front-one room text kind read nd h
  fails-one w room text kind at read clash (list_too_deep _ t full) is h = deep_list-one room t read full (reads-by room (40 ∷ t) read h)
  fails-one w room text kind at read clash (prefix_too_deep _ _ operator after full prefix) is h =
      deep_prefix-one room text operator after read full (reads-at room text read (front.a_prefix operator after) (prefix-begins text operator after prefix) h)
  fails-one w room text kind at read clash (no_quote _ t utf8 after) is h = unended-one t read utf8 after (reads-by room (34 ∷ t) read h)
  fails-one w room text kind at read clash (in_string _ t n valid) is h = ill_formed-one t n read valid (reads-by room (34 ∷ t) read h)
  fails-one w room text kind at read clash (in_item _ t ds last start _ _ some items gaps unclosed no_dot fails) is h =
      item-one w (room - 1) ds last start kind at read is gaps unclosed no_dot (λ r i k. fails-one w (room - 1) start kind at r clash fails i k)
      (the_ending w room t ds last read clash is some (item-stops (room - 1) last start gaps (λ d to k. no-spelling w (room - 1) start kind at d to clash fails (λ r i j. fails-one w (room - 1) start kind at r clash fails i j) k)) (λ es end k. items-compare (room - 1) t ds last es end items k) (reads-by room (40 ∷ t) read h))
  fails-one w room text kind at read clash (before_item _ t ds last _ _ some items fails) is h =
      gap-one (room - 1) ds last kind at read fails
      (the_ending w room t ds last read clash is some (gap-stops (room - 1) last kind at fails) (λ es end k. items-compare (room - 1) t ds last es end items k) (reads-by room (40 ∷ t) read h))
  fails-one w room text kind at read clash (after_dot _ t ds last after _ _ some items gaps fits then) is h =
      dotting-one w (room - 1) ds last after (fault kind at) read is gaps fits (λ r i k. tail_fails-one w (room - 1) after kind at r clash then i k)
      (the_ending w room t ds last read clash is some (dot-stops (room - 1) ds last after gaps fits) (λ es end k. items-compare (room - 1) t ds last es end items k) (reads-by room (40 ∷ t) read h))
  fails-one w room text kind at read clash (in_prefixed _ _ operator after start _ _ some prefix gaps fails) is h =
      inside-one w room text operator after start (fault kind at) read is some gaps (λ r i k. fails-one w (room - 1) start kind at r clash fails i k)
      (reads-at room text read (front.a_prefix operator after) (prefix-begins text operator after prefix) h)
  fails-one w room text kind at read clash (after_prefix _ _ operator after _ _ some prefix fails) is h =
      bad_gap-one room text operator after kind at read some fails (reads-at room text read (front.a_prefix operator after) (prefix-begins text operator after prefix) h)

  tail_fails-one : (w : Bool) (room : ℕ) (text : List ℕ) (kind : Kind) (at : List ℕ) (read : Read) → Apart w → TailFails room text kind at → is_got read ≡ w → TailReading room text read → read ≡ fault kind at
  tail_fails-one w room text kind at read clash (before_tail _ _ _ _ fails) is h = tail_gap-one room text kind at read fails (tail-by room text read h)
  tail_fails-one w room text kind at read clash (no_tail _ _ start gaps closing') is h = tail_none-one room text start read gaps closing' (tail-by room text read h)
  tail_fails-one w room text kind at read clash (in_tail _ _ start _ _ gaps unclosed fails) is h =
      tail_bad-one w room text start kind at read is gaps unclosed (λ r i k. fails-one w room start kind at r clash fails i k)
      (λ d to k. no-spelling w room start kind at d to clash fails (λ r i j. fails-one w room start kind at r clash fails i j) k) (tail-by room text read h)
  tail_fails-one w room text kind at read clash (after_tail _ _ start d end _ _ gaps spells fails) is h =
      tail_end-one w room text start d end kind at read clash is gaps spells (λ f x k. spells-one room start d end f x spells k) fails (tail-by room text read h)

-- ---- and so

pub Fails-clash : Clash
Fails-clash room text kind at d rest fails spells =
    got-fault d rest kind at (fails-one true room text kind at (got d rest) apart_true fails refl spells)

pub Spells-unique : (room : ℕ) (text : List ℕ) (d : Dat) (rest : List ℕ) (e : Dat) (to : List ℕ) → Spells room text d rest → Spells room text e to → (e ≡ d) × (to ≡ rest)
Spells-unique room text d rest e to g h =
    let same = spells-one room text d rest e to g h in
    (ap (datum_of_read d) same, ap rest_of_read same)

pub Fails-unique : (room : ℕ) (text : List ℕ) (kind : Kind) (at : List ℕ) (other : Kind) (to : List ℕ) → Fails room text kind at → Fails room text other to → (other ≡ kind) × (to ≡ at)
Fails-unique room text kind at other to g h =
    let same = fails-one false room text kind at (fault other to) (λ e. Fails-clash) g refl h in
    (ap kind_of_read same, ap rest_of_read same)

pub spells-none : (room : ℕ) (d : Dat) (rest : List ℕ) → Spells room [] d rest → ⊥
spells-none room d rest h = got-fault d rest end_inside [] (reads-by room [] (got d rest) h)
