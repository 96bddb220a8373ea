-- A text takes no memory where no datum is next, or an integer.
use Rattle.std.proofs.Common.{◌≡◌, ◌∙◌, ℕ, ℤ, ◌-◌, Bool, List, [], ◌∷◌, ◌++◌, refl, sym, ap, subst, true, false}
use Rattle.std.specs.Prelude.{if◌then◌else◌}
use Rattle.std.proofs.lemmas.Bool.{false≢true}
use Rattle.lisp_data.specs.Datum.{Dat, integer, symbol, string, list, dotted, method, Dats, list_from, elements}
use Rattle.lisp_reader.specs.Answers.{TakesNone, most_open, Next, next}
use Rattle.lisp_tokens.specs.Fault.{Kind, end_inside, too_deep}
use Rattle.lisp_tokens.specs.Gaps.{Gaps}
use Rattle.lisp_tokens.specs.Memory.{Takes, a_name, a_string, an_element, in_element, a_prefix, in_prefixed}
use Rattle.lisp_tokens.specs.Prefix.{HasPrefix, quote, function, backquote, comma, splice}
use Rattle.lisp_tokens.specs.Reading.{NoDatum, at_end, at_hash, at_comma, at_token, at_other, of_token, in_quotes, Spells, list_of, ending_in, is_nil}
use Rattle.lisp_tokens.specs.Strings.{body, characters}
use Rattle.lisp_tokens.specs.Token.{after_run}
use Rattle.lisp_reader.proofs.OneFront as front
use Rattle.lisp_reader.proofs.OneFront.{Read, got, fault, got-fault, operated, ended, ListWay, deep_list, with_items, Ending, closing, dotting, gap_ending, item_ending, PrefixWay, deep_prefix, bad_gap, inside, prefix-begins, reads-by, reads-at}
use Rattle.lisp_reader.proofs.OneGap.{Gaps-unique, Gaps-clash}
use Rattle.lisp_reader.proofs.OneReading.{front-one, Spells-unique}

no-list : (t : List ℕ) (kind : Kind) → NoDatum (40 ∷ t) kind → ⊥
no-list t kind (at_token _ _ _ is denotes) = false≢true is
no-list t kind (at_other _ _ is) = false≢true (sym is)

no-prefix : (text operator after : List ℕ) (kind : Kind) → HasPrefix text operator after → NoDatum text kind → ⊥
no-prefix _ _ _ kind (quote t) (at_token _ _ _ is denotes) = false≢true is
no-prefix _ _ _ kind (quote t) (at_other _ _ is) = false≢true (sym is)
no-prefix _ _ _ kind (function t) (at_hash _ is) = false≢true (sym is)
no-prefix _ _ _ kind (function t) (at_token _ _ _ is denotes) = false≢true is
no-prefix _ _ _ kind (function t) (at_other _ _ is) = false≢true (sym is)
no-prefix _ _ _ kind (backquote t) (at_token _ _ _ is denotes) = false≢true is
no-prefix _ _ _ kind (backquote t) (at_other _ _ is) = false≢true (sym is)
no-prefix _ _ _ kind (comma _ alone) (at_comma t) = false≢true (sym alone)
no-prefix _ _ _ kind (comma t alone) (at_token _ _ _ is denotes) = false≢true is
no-prefix _ _ _ kind (comma t alone) (at_other _ _ is) = false≢true (sym is)
no-prefix _ _ _ kind (splice t) (at_token _ _ _ is denotes) = false≢true is
no-prefix _ _ _ kind (splice t) (at_other _ _ is) = false≢true (sym is)

no-takes : (room : ℕ) (text : List ℕ) (kind : Kind) → NoDatum text kind → Takes room text → ⊥
no-takes room text kind nothing (a_name _ b t s is denotes) =
    got-fault (symbol s) (after_run (b ∷ t)) kind (b ∷ t) (front-one room (b ∷ t) kind (got (symbol s) (after_run (b ∷ t))) nothing (of_token room b t (symbol s) is denotes))
no-takes room text kind nothing (a_string _ t rest utf8 after) =
    got-fault (string (characters (body t))) rest kind (34 ∷ t) (front-one room (34 ∷ t) kind (got (string (characters (body t))) rest) nothing (in_quotes room t rest utf8 after))
no-takes room text kind nothing (an_element _ t start d rest some gaps spells) = no-list t kind nothing
no-takes room text kind nothing (in_element _ t start some gaps takes) = no-list t kind nothing
no-takes room text kind nothing (a_prefix _ _ operator after start d rest some prefix gaps spells) =
    no-prefix text operator after kind prefix nothing
no-takes room text kind nothing (in_prefixed _ _ operator after start some prefix gaps takes) =
    no-prefix text operator after kind prefix nothing

-- ---- integers

abbrev is_number : Dat → Bool
is_number (integer n) = true
is_number (symbol s) = false
is_number (string s) = false
is_number (list l) = false
is_number (dotted l d) = false
is_number (method n) = false

abbrev reads_number : Read → Bool
reads_number (got d rest) = is_number d
reads_number (fault kind at) = false

no-number : (one other : Read) → one ≡ other → reads_number other ≡ false → reads_number one ≡ true → ⊥
no-number one other same is_none is = false≢true (sym is_none ∙ (sym (ap reads_number same) ∙ is))

list-no_number : (ds : List Dat) → is_number (list_of ds) ≡ false
list-no_number [] = refl
list-no_number (d ∷ ds) = refl

ending-no_number : (ds : List Dat) (d : Dat) → is_number (ending_in ds d) ≡ false
ending-no_number ds (integer n) = refl
ending-no_number ds (symbol s) = elim (is_nil s) as (λ b. is_number (if b then list (list_from ds) else dotted (list_from ds) (symbol s)) ≡ false) [ true ↦ refl | false ↦ refl ]
ending-no_number ds (string s) = refl
ending-no_number ds (list l) = list_some ds l
  where
    list_some : (ds : List Dat) (l : Dats) → is_number (list (list_from (ds ++ elements l))) ≡ false
    list_some ds l = refl
ending-no_number ds (dotted l d) = refl
ending-no_number ds (method n) = refl

ended-no_number : (ds : List Dat) (read : Read) → reads_number (ended ds read) ≡ false
ended-no_number ds (got d rest) = ending-no_number ds d
ended-no_number ds (fault kind at) = refl

operated-no_number : (operator : List ℕ) (read : Read) → reads_number (operated operator read) ≡ false
operated-no_number operator (got d rest) = refl
operated-no_number operator (fault kind at) = refl

ending-way : (room : ℕ) (ds : List Dat) (last : List ℕ) (read : Read) → Ending room ds last read → reads_number read ≡ true → ⊥
ending-way room ds last read (closing rest gaps same) is = no-number read (got (list_of ds) rest) same (list-no_number ds) is
ending-way room ds last read (dotting after inner gaps fits reading same) is = no-number read (ended ds inner) same (ended-no_number ds inner) is
ending-way room ds last read (gap_ending kind at fails same) is = no-number read (fault kind at) same refl is
ending-way room ds last read (item_ending start kind at gaps unclosed no_dot fails same) is = no-number read (fault kind at) same refl is

list-way : (room : ℕ) (t : List ℕ) (read : Read) → ListWay room t read → reads_number read ≡ true → ⊥
list-way room t read (deep_list full same) is = no-number read (fault too_deep (40 ∷ t)) same refl is
list-way room t read (with_items ds last some items ending) is = ending-way (room - 1) ds last read ending is

prefix-way : (room : ℕ) (text operator after : List ℕ) (read : Read) → PrefixWay room text operator after read → reads_number read ≡ true → ⊥
prefix-way room text operator after read (deep_prefix full same) is = no-number read (fault too_deep text) same refl is
prefix-way room text operator after read (bad_gap kind at some fails same) is = no-number read (fault kind at) same refl is
prefix-way room text operator after read (inside start inner some gaps reading same) is = no-number read (operated operator inner) same (operated-no_number operator inner) is

number-takes : (room : ℕ) (text : List ℕ) (n : ℤ) (rest : List ℕ) → Spells room text (integer n) rest → Takes room text → ⊥
number-takes room _ n rest spells (a_name _ b t s is denotes) =
    let same = Spells-unique room (b ∷ t) (symbol s) (after_run (b ∷ t)) (integer n) rest (of_token room b t (symbol s) is denotes) spells in
    false≢true (sym (ap is_number same.0))
number-takes room _ n rest spells (a_string _ t after utf8 quoted) =
    let same = Spells-unique room (34 ∷ t) (string (characters (body t))) after (integer n) rest (in_quotes room t after utf8 quoted) spells in
    false≢true (sym (ap is_number same.0))
number-takes room _ n rest spells (an_element _ t start d after some gaps inner) =
    list-way room t (got (integer n) rest) (reads-by room (40 ∷ t) (got (integer n) rest) spells) refl
number-takes room _ n rest spells (in_element _ t start some gaps takes) =
    list-way room t (got (integer n) rest) (reads-by room (40 ∷ t) (got (integer n) rest) spells) refl
number-takes room text n rest spells (a_prefix _ _ operator after start d end some prefix gaps inner) =
    prefix-way room text operator after (got (integer n) rest) (reads-at room text (got (integer n) rest) (front.a_prefix operator after) (prefix-begins text operator after prefix) spells) refl
number-takes room text n rest spells (in_prefixed _ _ operator after start some prefix gaps takes) =
    prefix-way room text operator after (got (integer n) rest) (reads-at room text (got (integer n) rest) (front.a_prefix operator after) (prefix-begins text operator after prefix) spells) refl

number-next : (text : List ℕ) (n : ℤ) (rest : List ℕ) → ((start : List ℕ) → Gaps text start → Takes most_open start) → Next text (integer n) rest → ⊥
number-next text n rest takes (next _ start _ _ gaps spells) = number-takes most_open start n rest spells (takes start gaps)

pub takes-none : TakesNone
takes-none text takes =
    let at : (start : List ℕ) → Gaps text start → Takes most_open start = λ start gaps. subst (Takes most_open) (Gaps-unique text start takes.0 gaps takes.1) takes.2 in (
      λ gaps. no-takes most_open [] end_inside at_end (at [] gaps),
      λ kind place fails. Gaps-clash text takes.0 kind place takes.1 fails,
      λ start kind gaps nothing. no-takes most_open start kind nothing (at start gaps),
      λ n rest found. number-next text n rest at found,
    )
