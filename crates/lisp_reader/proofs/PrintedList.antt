-- What a datum prints as is read as that datum.
use Rattle.std.proofs.Common.{◌≡◌, ◌∙◌, ℕ, ◌+◌, ◌-◌, ◌<◌, ◌≤◌, Bool, true, false, List, [], ◌∷◌, ◌++◌, codes, refl, sym, ap, subst, arith, append_assoc, append-nil}
use Rattle.std.specs.Str.{bytes_eq}
use Rattle.std.specs.Cmp.Lexicographic.{bytes_decides}
use Rattle.std.specs.List.{prefix_len}
use Rattle.std.proofs.lemmas.Bool.{and_parts, false≢true}
use Rattle.std.proofs.lemmas.Bool.Decides.{nat_tests}
use Rattle.lisp_data.specs.Name.{Name, same_kind}
use Rattle.lisp_data.specs.Datum.{Dat, integer, symbol, string, list, dotted, method, Dats, nil, cons, elements, nesting_of, nesting_in}
use Rattle.lisp_data.specs.Print.{Names, name_text, text_of, text_with, texts_with, method_text, spaced}
use Rattle.lisp_reader.specs.Answers.{next, most_open}
use Rattle.lisp_tokens.specs.Characters.{is_token_char, begins_token}
use Rattle.lisp_tokens.specs.Gaps.{no_more, blank, begins_gap}
use Rattle.lisp_reader.specs.Printed.{quoted_value, quoted_values, IsPlain, ArePlain, ReadsBack}
use Rattle.lisp_tokens.specs.Reading.{is_nil, Spells, Items, in_parentheses, none, more, list_of}
use Rattle.lisp_reader.proofs.OnLists.{list_from-elements}
use Rattle.lisp_reader.proofs.PrintedString.{Spells-printed_string}
use Rattle.lisp_reader.proofs.PrintedToken.{Word, word-integer, word-name, Spells-printed}

-- ---- the symbol NIL prints as the empty list does

nil-text : (text : List ℕ) (keyword : Bool) → same_kind keyword false ≡ true → text ≡ codes "NIL" → codes "NIL" ≡ name_text (record { text = text; keyword = keyword })
nil-text text true kind is = absurd (false≢true kind)
nil-text text false kind is = sym is

symbol-text-by : (names : Names) (methods : ℕ → List ℕ) (s : Name) (b : Bool) → is_nil s ≡ b → text_with true names methods (quoted_value (symbol s)) ≡ name_text s
symbol-text-by names methods s true is =
    let both : (same_kind s.keyword false ≡ true) × (bytes_eq s.text (codes "NIL") ≡ true) = and_parts (same_kind s.keyword false) (bytes_eq s.text (codes "NIL")) is in
    rw is (nil-text s.text s.keyword both.0 ((bytes_decides s.text (codes "NIL")).0 both.1))
symbol-text-by names methods s false is = rw is refl

symbol-text : (names : Names) (methods : ℕ → List ℕ) (s : Name) → text_with true names methods (quoted_value (symbol s)) ≡ name_text s
symbol-text names methods s = symbol-text-by names methods s (is_nil s) refl

-- ---- a text that begins with no gap, and spells the datum before what ends a token

record Printed (room : ℕ) (text : List ℕ) (d : Dat) (rest : List ℕ) : Type 0 where
  no_gap : begins_gap text ≡ false
  spells : Spells room text d rest

token-no_gap : (c : ℕ) (text : List ℕ) → begins_token c ≡ true → begins_gap (c ∷ text) ≡ false
token-no_gap c text is = grind (arith, nat_tests)

printed-word : (room : ℕ) (text rest : List ℕ) (d : Dat) → Word text d → prefix_len is_token_char rest ≡ 0 → Printed room (text ++ rest) d rest
printed-word room text rest d w stop =
    let no_gap : begins_gap (text ++ rest) ≡ false = subst (λ (t : List ℕ). begins_gap (t ++ rest) ≡ false) (sym w.is) (token-no_gap w.first (w.more ++ rest) w.begins) in
    record { no_gap = no_gap; spells = Spells-printed room text rest d w stop }

-- what follows an element ends its token
spaced-stops : (ts : List (List ℕ)) (rest : List ℕ) → prefix_len is_token_char (spaced ts ++ (41 ∷ rest)) ≡ 0
spaced-stops [] rest = refl
spaced-stops (t ∷ ts) rest = refl

-- the elements that follow the first, each after a space
printed-more : (room : ℕ) (text tail : List ℕ) (d : Dat) (ds : List Dat) (last : List ℕ) → Printed room (text ++ tail) d tail → Items room tail ds last → Items room (32 ∷ (text ++ tail)) (d ∷ ds) last
printed-more room text tail d ds last p items =
    more room (32 ∷ (text ++ tail)) (text ++ tail) d tail ds last (blank 32 (text ++ tail) (text ++ tail) refl (no_more (text ++ tail) p.no_gap)) p.spells items

printed-list : (room : ℕ) (text rest : List ℕ) (ts : List (List ℕ)) (d : Dat) (l : Dats) → 0 < room → Printed (room - 1) (text ++ (spaced ts ++ (41 ∷ rest))) d (spaced ts ++ (41 ∷ rest)) → Items (room - 1) (spaced ts ++ (41 ∷ rest)) (elements l) (41 ∷ rest) → Printed room ((40 ∷ (text ++ (spaced ts ++ (41 ∷ [])))) ++ rest) (list (cons d l)) rest
printed-list room text rest ts d l some p items =
    let tail = spaced ts ++ (41 ∷ rest) in
    let is : (text ++ (spaced ts ++ (41 ∷ []))) ++ rest ≡ text ++ tail = append_assoc text (spaced ts ++ (41 ∷ [])) rest ∙ ap (λ (t : List ℕ). text ++ t) (append_assoc (spaced ts) (41 ∷ []) rest) in
    let all : Items (room - 1) (text ++ tail) (d ∷ elements l) (41 ∷ rest) = more (room - 1) (text ++ tail) (text ++ tail) d tail (elements l) (41 ∷ rest) (no_more (text ++ tail) p.no_gap) p.spells items in
    let spells : Spells room (40 ∷ (text ++ tail)) (list_of (d ∷ elements l)) rest = in_parentheses room (text ++ tail) (d ∷ elements l) (41 ∷ rest) rest some all (no_more (41 ∷ rest) refl) in
    let same : list (cons d l) ≡ list_of (d ∷ elements l) = ap (λ (m : Dats). list (cons d m)) (sym (list_from-elements l)) in
    let spells' : Spells room (40 ∷ (text ++ tail)) (list (cons d l)) rest = subst (λ (e : Dat). Spells room (40 ∷ (text ++ tail)) e rest) (sym same) spells in
    subst (λ (t : List ℕ). Printed room (40 ∷ t) (list (cons d l)) rest) (sym is) (record { no_gap = refl; spells = spells' })

mutual
  printed : (names : Names) (methods : ℕ → List ℕ) (room : ℕ) (d : Dat) (rest : List ℕ) → IsPlain d → nesting_of d ≤ room → prefix_len is_token_char rest ≡ 0 → Printed room (text_with true names methods (quoted_value d) ++ rest) d rest
  printed names methods room (integer n) rest plain within stop = printed-word room _ rest (integer n) (word-integer n plain) stop
  printed names methods room (symbol s) rest plain within stop =
      subst (λ (t : List ℕ). Printed room (t ++ rest) (symbol s) rest) (sym (symbol-text names methods s)) (printed-word room (name_text s) rest (symbol s) (word-name s plain) stop)
  printed names methods room (string s) rest plain within stop = record { no_gap = refl; spells = Spells-printed_string room s rest plain }
  printed names methods room (dotted l d) rest plain within stop = absurd plain
  printed names methods room (method n) rest plain within stop = absurd plain
  printed names methods room (list nil) rest plain within stop = absurd (omega arith)
  printed names methods room (list (cons d l)) rest plain within stop =
      let ts = texts_with true names methods (quoted_values l) in
      let first = printed names methods (room - 1) d (spaced ts ++ (41 ∷ rest)) plain.1.0 (omega arith) (spaced-stops ts rest) in
      printed-list room _ rest ts d l (omega arith) first (printed-items names methods (room - 1) l rest plain.1.1 (omega arith))

  printed-items : (names : Names) (methods : ℕ → List ℕ) (room : ℕ) (l : Dats) (rest : List ℕ) → ArePlain l → nesting_in l ≤ room + 1 → Items room (spaced (texts_with true names methods (quoted_values l)) ++ (41 ∷ rest)) (elements l) (41 ∷ rest)
  printed-items names methods room nil rest plain within = none room (41 ∷ rest)
  printed-items names methods room (cons d l) rest plain within =
      let ts = texts_with true names methods (quoted_values l) in
      let tail = spaced ts ++ (41 ∷ rest) in
      let text = text_with true names methods (quoted_value d) in
      let first = printed names methods room d tail plain.0 (omega arith) (spaced-stops ts rest) in
      let items = printed-items names methods room l rest plain.1 (omega arith) in
      let is : text ++ tail ≡ (text ++ spaced ts) ++ (41 ∷ rest) = sym (append_assoc text (spaced ts) (41 ∷ rest)) in
      subst (λ (t : List ℕ). Items room (32 ∷ t) (d ∷ elements l) (41 ∷ rest)) is (printed-more room text tail d (elements l) (41 ∷ rest) first items)

pub gives_back : ReadsBack
gives_back names d plain within =
    let text = text_of true names (quoted_value d) in
    let p = printed names (method_text true names) most_open d [] plain within refl in
    let e : text ++ [] ≡ text = append-nil text in
    next text text d [] (no_more text (subst (λ (t : List ℕ). begins_gap t ≡ false) e p.no_gap)) (subst (λ (t : List ℕ). Spells most_open t d []) e p.spells)
