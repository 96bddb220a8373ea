-- Data and their spellings (HyperSpec 2.2, 2.4), and where a text that spells none is at fault.
use Rattle.std.specs.Prelude.{◌≡◌, ℕ, ◌-◌, ◌<◌, Bool, true, false, ◌&&◌, not, if◌then◌else◌, List, [], ◌∷◌, ◌++◌, drop, IsUtf8}
use Rattle.std.specs.Str.{IsValidUpTo}
use Rattle.lisp_data.specs.Datum.{Dat, integer, symbol, string, list, dotted, method, list_from, elements}
use Rattle.lisp_data.specs.Name.{Name, same_name}
use Rattle.lisp_tokens.specs.Characters.{begins_token, begins_something, begins_with, goes_on}
use Rattle.lisp_tokens.specs.Fault.{Kind, end_inside, stray_close, bad_token, bad_dot, bad_hash, too_deep, not_text}
use Rattle.lisp_tokens.specs.Gaps.{Gaps, GapFails}
use Rattle.lisp_tokens.specs.Prefix.{HasPrefix}
use Rattle.lisp_tokens.specs.Strings.{body, after_body, characters}
use Rattle.lisp_tokens.specs.Token.{run, after_run, Denotes, DenotesNone}

abbrev pub named : List ℕ → Dat
named text = symbol (record { text = text; keyword = false })

-- the list of these data; with none it is the symbol NIL
abbrev pub list_of : List Dat → Dat
list_of [] = named (78 ∷ 73 ∷ 76 ∷ [])
list_of (d ∷ ds) = list (list_from (d ∷ ds))

-- the list of an operator and a datum, as (QUOTE d)
abbrev pub prefixed_by : List ℕ → Dat → Dat
prefixed_by operator d = list (list_from (named operator ∷ d ∷ []))

abbrev pub is_nil : Name → Bool
is_nil name = same_name name (record { text = 78 ∷ 73 ∷ 76 ∷ []; keyword = false })

-- the list of these data, of which there are some, whose last cell ends in that datum: a list goes on with its
-- elements, and with none after NIL (2.4.1)
abbrev pub ending_in : List Dat → Dat → Dat
ending_in ds (list l) = list (list_from (ds ++ elements l))
ending_in ds (dotted l d) = dotted (list_from (ds ++ elements l)) d
ending_in ds (symbol s) = if is_nil s then list (list_from ds) else dotted (list_from ds) (symbol s)
ending_in ds (integer n) = dotted (list_from ds) (integer n)
ending_in ds (string s) = dotted (list_from ds) (string s)
ending_in ds (method n) = dotted (list_from ds) (method n)

-- the token at the front is a dot, and nothing else (2.3.3)
abbrev pub is_dot : List ℕ → Bool
is_dot text = begins_with 46 text && not (goes_on (drop 1 text))

abbrev pub is_some : List Dat → Bool
is_some [] = false
is_some (d ∷ ds) = true

-- a dot stands where one may: after these elements, of which there is at least one
abbrev pub dot_fits : List Dat → List ℕ → Bool
dot_fits ds text = is_some ds && is_dot text

mutual
  -- a spelling of the datum at the front of a text, with at most `room` lists and prefixes open in it
  -- at once, and what follows it
  pub data Spells : ℕ → List ℕ → Dat → List ℕ → Type 0 where
    of_token : (room b : ℕ) (text : List ℕ) (d : Dat) → begins_token b ≡ true → Denotes (run (b ∷ text)) d → Spells room (b ∷ text) d (after_run (b ∷ text))
    in_quotes : (room : ℕ) (text rest : List ℕ) → IsUtf8 (body text) → after_body text ≡ 34 ∷ rest → Spells room (34 ∷ text) (string (characters (body text))) rest
    in_parentheses : (room : ℕ) (text : List ℕ) (ds : List Dat) (last rest : List ℕ) → 0 < room → Items (room - 1) text ds last → Gaps last (41 ∷ rest) → Spells room (40 ∷ text) (list_of ds) rest
    with_dot : (room : ℕ) (text : List ℕ) (ds : List Dat) (last after : List ℕ) (d : Dat) (rest : List ℕ) → 0 < room → Items (room - 1) text ds last → Gaps last (46 ∷ after) → dot_fits ds (46 ∷ after) ≡ true → Tail (room - 1) after d rest → Spells room (40 ∷ text) (ending_in ds d) rest
    prefixed : (room : ℕ) (text operator after start : List ℕ) (d : Dat) (rest : List ℕ) → 0 < room → HasPrefix text operator after → Gaps after start → Spells (room - 1) start d rest → Spells room text (prefixed_by operator d) rest

  -- spellings of these data at the front of a text, each after gaps, and what follows them
  pub data Items : ℕ → List ℕ → List Dat → List ℕ → Type 0 where
    none : (room : ℕ) (text : List ℕ) → Items room text [] text
    more : (room : ℕ) (text start : List ℕ) (d : Dat) (after : List ℕ) (ds : List Dat) (rest : List ℕ) → Gaps text start → Spells room start d after → Items room after ds rest → Items room text (d ∷ ds) rest

  -- what follows a dot: the spelling of one datum, and the closing parenthesis
  pub data Tail : ℕ → List ℕ → Dat → List ℕ → Type 0 where
    tail : (room : ℕ) (text start : List ℕ) (d : Dat) (end rest : List ℕ) → Gaps text start → Spells room start d end → Gaps end (41 ∷ rest) → Tail room text d rest

-- the text begins with )
abbrev pub closes : List ℕ → Bool
closes text = begins_with 41 text

-- nothing at the front of a text begins a datum: the fault of what stands there. A # with a quote after it is a prefix,
-- and one with a bar a gap
pub data NoDatum : List ℕ → Kind → Type 0 where
  at_end : NoDatum [] end_inside
  at_close : (text : List ℕ) → NoDatum (41 ∷ text) stray_close
  at_hash : (text : List ℕ) → begins_with 39 text ≡ false → NoDatum (35 ∷ text) bad_hash
  at_comma : (text : List ℕ) → NoDatum (44 ∷ 46 ∷ text) bad_token
  at_token : (b : ℕ) (text : List ℕ) (kind : Kind) → begins_token b ≡ true → DenotesNone (run (b ∷ text)) kind → NoDatum (b ∷ text) kind
  at_other : (b : ℕ) (text : List ℕ) → begins_something b ≡ false → NoDatum (b ∷ text) bad_token

-- a datum begins at the front of a text, or its token is one
pub data BeginsDatum : List ℕ → Type 0 where
  a_token : (b : ℕ) (text : List ℕ) (d : Dat) → begins_token b ≡ true → Denotes (run (b ∷ text)) d → BeginsDatum (b ∷ text)
  a_string : (text : List ℕ) → BeginsDatum (34 ∷ text)
  a_list : (text : List ℕ) → BeginsDatum (40 ∷ text)
  a_prefix : (text operator after : List ℕ) → HasPrefix text operator after → BeginsDatum text

-- no closing parenthesis follows the gaps: a second datum after the dot, or no datum
pub data EndFails : List ℕ → Kind → List ℕ → Type 0 where
  before_end : (text : List ℕ) (kind : Kind) (at : List ℕ) → GapFails text kind at → EndFails text kind at
  second : (text next : List ℕ) → Gaps text next → BeginsDatum next → EndFails text bad_dot next
  no_close : (text next : List ℕ) (kind : Kind) → Gaps text next → closes next ≡ false → NoDatum next kind → EndFails text kind next

mutual
  -- no spelling of a datum is at the front of a text: the fault, and the text from where it stands. Where the text ends
  -- inside the datum, that is somewhere in it
  pub data Fails : ℕ → List ℕ → Kind → List ℕ → Type 0 where
    at_front : (room : ℕ) (text : List ℕ) (kind : Kind) → NoDatum text kind → Fails room text kind text
    list_too_deep : (room : ℕ) (text : List ℕ) → room ≡ 0 → Fails room (40 ∷ text) too_deep (40 ∷ text)
    prefix_too_deep : (room : ℕ) (text operator after : List ℕ) → room ≡ 0 → HasPrefix text operator after → Fails room text too_deep text
    no_quote : (room : ℕ) (text : List ℕ) → IsUtf8 (body text) → after_body text ≡ [] → Fails room (34 ∷ text) end_inside []
    in_string : (room : ℕ) (text : List ℕ) (n : ℕ) → IsValidUpTo (body text) n → Fails room (34 ∷ text) not_text (drop n text)
    in_item : (room : ℕ) (text : List ℕ) (ds : List Dat) (last start : List ℕ) (kind : Kind) (at : List ℕ) → 0 < room → Items (room - 1) text ds last → Gaps last start → closes start ≡ false → dot_fits ds start ≡ false → Fails (room - 1) start kind at → Fails room (40 ∷ text) kind at
    before_item : (room : ℕ) (text : List ℕ) (ds : List Dat) (last : List ℕ) (kind : Kind) (at : List ℕ) → 0 < room → Items (room - 1) text ds last → GapFails last kind at → Fails room (40 ∷ text) kind at
    after_dot : (room : ℕ) (text : List ℕ) (ds : List Dat) (last after : List ℕ) (kind : Kind) (at : List ℕ) → 0 < room → Items (room - 1) text ds last → Gaps last (46 ∷ after) → dot_fits ds (46 ∷ after) ≡ true → TailFails (room - 1) after kind at → Fails room (40 ∷ text) kind at
    in_prefixed : (room : ℕ) (text operator after start : List ℕ) (kind : Kind) (at : List ℕ) → 0 < room → HasPrefix text operator after → Gaps after start → Fails (room - 1) start kind at → Fails room text kind at
    after_prefix : (room : ℕ) (text operator after : List ℕ) (kind : Kind) (at : List ℕ) → 0 < room → HasPrefix text operator after → GapFails after kind at → Fails room text kind at

  -- what follows a dot is not one datum and a closing parenthesis
  pub data TailFails : ℕ → List ℕ → Kind → List ℕ → Type 0 where
    before_tail : (room : ℕ) (text : List ℕ) (kind : Kind) (at : List ℕ) → GapFails text kind at → TailFails room text kind at
    no_tail : (room : ℕ) (text start : List ℕ) → Gaps text start → closes start ≡ true → TailFails room text bad_dot (46 ∷ text)
    in_tail : (room : ℕ) (text start : List ℕ) (kind : Kind) (at : List ℕ) → Gaps text start → closes start ≡ false → Fails room start kind at → TailFails room text kind at
    after_tail : (room : ℕ) (text start : List ℕ) (d : Dat) (end : List ℕ) (kind : Kind) (at : List ℕ) → Gaps text start → Spells room start d end → EndFails end kind at → TailFails room text kind at
