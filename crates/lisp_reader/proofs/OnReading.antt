-- Data at an offset of a text.
use Rattle.std.proofs.Common.{◌≡◌, ◌∙◌, ℕ, ◌+◌, ◌-◌, ◌<◌, List, [], ◌∷◌, ◌++◌, length, get_or, drop, true, false, Bool, not, ◌&&◌, refl, sym, ap, subst, arith}
use Rattle.std.proofs.lemmas.Bool.{eqb-true, false≢true}
use Rattle.std.proofs.lemmas.List.{drop_more, drop-drop}
use Rattle.lisp_data.specs.Datum.{Dat}
use Rattle.lisp_tokens.specs.Characters.{begins_token, begins_with, goes_on}
use Rattle.lisp_tokens.specs.Fault.{Kind, bad_dot, too_deep}
use Rattle.lisp_tokens.specs.Gaps.{Gaps, GapFails}
use Rattle.lisp_tokens.specs.Memory.{Takes, an_element, in_element}
use Rattle.lisp_tokens.specs.Prefix.{HasPrefix}
use Rattle.lisp_tokens.specs.Reading.{Spells, Items, Tail, Fails, TailFails, NoDatum, BeginsDatum, in_parentheses, with_dot, prefixed, none, more, list_too_deep, in_item, before_item, after_dot, a_token, a_string, a_list, at_token, closes, is_dot, dot_fits, list_of, prefixed_by, ending_in}
use Rattle.lisp_tokens.proofs.OnFront.{starts}
use Rattle.lisp_reader.proofs.OneFront as front
use Rattle.lisp_reader.proofs.OneFront.{Read, got, fault, TokenWay, a_datum, no_datum, reads-at, begins-token, got-fault}

-- ---- dots

pub is_dot-at : (bytes : List ℕ) (at : ℕ) (more : Bool) → begins_with 46 (drop at bytes) ≡ true → more ≡ goes_on (drop (at + 1) bytes) → not more ≡ is_dot (drop at bytes)
is_dot-at bytes at found is next = rw (is, drop-drop 1 at bytes, next) refl

and_left : (a b : Bool) → (a && b) ≡ true → a ≡ true
and_left true b is = refl
and_left false b is = is

dot-begins : (ds : List Dat) (text : List ℕ) → dot_fits ds text ≡ true → begins_with 46 text ≡ true
dot-begins [] text is = absurd (false≢true is)
dot-begins (d ∷ ds) text is = and_left (begins_with 46 text) (not (goes_on (drop 1 text))) is

-- the byte that is said to stand at an offset
pub byte-at : (bytes : List ℕ) (at b : ℕ) → at < length bytes → begins_with b (drop at bytes) ≡ true → get_or bytes at 0 ≡ b
byte-at bytes at b within is = eqb-true (get_or bytes at 0) b (sym (ap (begins_with b) (drop_more bytes at 0 within)) ∙ is)

pub dot-at : (bytes : List ℕ) (at : ℕ) (ds : List Dat) → at < length bytes → dot_fits ds (drop at bytes) ≡ true → get_or bytes at 0 ≡ 46
dot-at bytes at ds within is = byte-at bytes at 46 within (dot-begins ds (drop at bytes) is)

-- ---- lists

-- one element more
pub Items-push : (room : ℕ) (text : List ℕ) (ds : List Dat) (last start : List ℕ) (d : Dat) (rest : List ℕ) → Items room text ds last → Gaps last start → Spells room start d rest → Items room text (ds ++ d ∷ []) rest
Items-push room text ds last start d rest (none _ _) gaps spells =
    more room last start d rest [] rest gaps spells (none room rest)
Items-push room text ds last start d rest (more _ _ s e after es _ gaps' spells' items) gaps spells =
    more room text s e after (es ++ d ∷ []) rest gaps' spells' (Items-push room after es last start d rest items gaps spells)

-- the elements of the list at an offset, up to another
pub record Front (bytes : List ℕ) (room at cursor : ℕ) (ds : List Dat) : Type 0 where
  pub within : at < length bytes
  pub begins : get_or bytes at 0 ≡ 40
  pub some : 0 < room
  pub items : Items (room - 1) (drop (at + 1) bytes) ds (drop cursor bytes)

list-starts : (bytes : List ℕ) (room at cursor : ℕ) (ds : List Dat) → Front bytes room at cursor ds → drop at bytes ≡ 40 ∷ drop (at + 1) bytes
list-starts bytes room at cursor ds f = starts bytes at 40 f.within f.begins

pub closing-starts : (bytes : List ℕ) (next : ℕ) → next < length bytes → closes (drop next bytes) ≡ true → drop next bytes ≡ 41 ∷ drop (next + 1) bytes
closing-starts bytes next inside closing = starts bytes next 41 inside (byte-at bytes next 41 inside closing)

pub Spells-list : (bytes : List ℕ) (room at cursor next : ℕ) (ds : List Dat) (d : Dat) → Front bytes room at cursor ds → Gaps (drop cursor bytes) (drop next bytes) → next < length bytes → closes (drop next bytes) ≡ true → d ≡ list_of ds → Spells room (drop at bytes) d (drop (next + 1) bytes)
Spells-list bytes room at cursor next ds d f gaps inside closing same =
    let gaps' : Gaps (drop cursor bytes) (41 ∷ drop (next + 1) bytes) = subst (Gaps (drop cursor bytes)) (closing-starts bytes next inside closing) gaps in
    let here : Spells room (40 ∷ drop (at + 1) bytes) (list_of ds) (drop (next + 1) bytes) = in_parentheses room (drop (at + 1) bytes) ds (drop cursor bytes) (drop (next + 1) bytes) f.some f.items gaps' in
    let there : Spells room (drop at bytes) (list_of ds) (drop (next + 1) bytes) = subst (λ (t : List ℕ). Spells room t (list_of ds) (drop (next + 1) bytes)) (sym (list-starts bytes room at cursor ds f)) here in
    subst (λ (e : Dat). Spells room (drop at bytes) e (drop (next + 1) bytes)) (sym same) there

pub Spells-dotted : (bytes : List ℕ) (room at cursor dot n : ℕ) (ds : List Dat) (d e : Dat) → Front bytes room at cursor ds → Gaps (drop cursor bytes) (drop dot bytes) → dot < length bytes → dot_fits ds (drop dot bytes) ≡ true → Tail (room - 1) (drop (dot + 1) bytes) d (drop n bytes) → e ≡ ending_in ds d → Spells room (drop at bytes) e (drop n bytes)
Spells-dotted bytes room at cursor dot n ds d e f gaps inside fits tail same =
    let s : drop dot bytes ≡ 46 ∷ drop (dot + 1) bytes = starts bytes dot 46 inside (dot-at bytes dot ds inside fits) in
    let gaps' : Gaps (drop cursor bytes) (46 ∷ drop (dot + 1) bytes) = subst (Gaps (drop cursor bytes)) s gaps in
    let fits' : dot_fits ds (46 ∷ drop (dot + 1) bytes) ≡ true = ap (dot_fits ds) (sym s) ∙ fits in
    let here : Spells room (40 ∷ drop (at + 1) bytes) (ending_in ds d) (drop n bytes) = with_dot room (drop (at + 1) bytes) ds (drop cursor bytes) (drop (dot + 1) bytes) d (drop n bytes) f.some f.items gaps' fits' tail in
    let there : Spells room (drop at bytes) (ending_in ds d) (drop n bytes) = subst (λ (t : List ℕ). Spells room t (ending_in ds d) (drop n bytes)) (sym (list-starts bytes room at cursor ds f)) here in
    subst (λ (x : Dat). Spells room (drop at bytes) x (drop n bytes)) (sym same) there

pub Fails-after_dot : (bytes : List ℕ) (room at cursor dot : ℕ) (ds : List Dat) → Front bytes room at cursor ds → Gaps (drop cursor bytes) (drop dot bytes) → dot < length bytes → dot_fits ds (drop dot bytes) ≡ true → (kind : Kind) (rest : List ℕ) → TailFails (room - 1) (drop (dot + 1) bytes) kind rest → Fails room (drop at bytes) kind rest
Fails-after_dot bytes room at cursor dot ds f gaps inside fits kind rest fails =
    let s : drop dot bytes ≡ 46 ∷ drop (dot + 1) bytes = starts bytes dot 46 inside (dot-at bytes dot ds inside fits) in
    let gaps' : Gaps (drop cursor bytes) (46 ∷ drop (dot + 1) bytes) = subst (Gaps (drop cursor bytes)) s gaps in
    let fits' : dot_fits ds (46 ∷ drop (dot + 1) bytes) ≡ true = ap (dot_fits ds) (sym s) ∙ fits in
    subst (λ (t : List ℕ). Fails room t kind rest) (sym (list-starts bytes room at cursor ds f)) (after_dot room (drop (at + 1) bytes) ds (drop cursor bytes) (drop (dot + 1) bytes) kind rest f.some f.items gaps' fits' fails)

pub Fails-item : (bytes : List ℕ) (room at cursor next : ℕ) (ds : List Dat) → Front bytes room at cursor ds → Gaps (drop cursor bytes) (drop next bytes) → closes (drop next bytes) ≡ false → dot_fits ds (drop next bytes) ≡ false → (kind : Kind) (rest : List ℕ) → Fails (room - 1) (drop next bytes) kind rest → Fails room (drop at bytes) kind rest
Fails-item bytes room at cursor next ds f gaps unclosed no_dot kind rest fails =
    subst (λ (t : List ℕ). Fails room t kind rest) (sym (list-starts bytes room at cursor ds f)) (in_item room (drop (at + 1) bytes) ds (drop cursor bytes) (drop next bytes) kind rest f.some f.items gaps unclosed no_dot fails)

pub Fails-before_item : (bytes : List ℕ) (room at cursor : ℕ) (ds : List Dat) → Front bytes room at cursor ds → (kind : Kind) (rest : List ℕ) → GapFails (drop cursor bytes) kind rest → Fails room (drop at bytes) kind rest
Fails-before_item bytes room at cursor ds f kind rest fails =
    subst (λ (t : List ℕ). Fails room t kind rest) (sym (list-starts bytes room at cursor ds f)) (before_item room (drop (at + 1) bytes) ds (drop cursor bytes) kind rest f.some f.items fails)

pub Fails-deep_list : (bytes : List ℕ) (room at : ℕ) → at < length bytes → get_or bytes at 0 ≡ 40 → room ≡ 0 → Fails room (drop at bytes) too_deep (drop at bytes)
Fails-deep_list bytes room at within is full =
    subst (λ (t : List ℕ). Fails room t too_deep t) (sym (starts bytes at 40 within is)) (list_too_deep room (drop (at + 1) bytes) full)

-- ---- memory runs out in a list only where an element takes some, or stands there

takes-item : (room : ℕ) (text : List ℕ) (ds : List Dat) (last start : List ℕ) → 0 < room → Items (room - 1) text ds last → Gaps last start → Takes (room - 1) start → Takes room (40 ∷ text)
takes-item room text ds last start some (none _ _) gaps takes = in_element room text start some gaps takes
takes-item room text ds last start some (more _ _ s e after es _ gaps' spells items) gaps takes = an_element room text s e after some gaps' spells

pub Takes-item : (bytes : List ℕ) (room at cursor next : ℕ) (ds : List Dat) → Front bytes room at cursor ds → Gaps (drop cursor bytes) (drop next bytes) → Takes (room - 1) (drop next bytes) → Takes room (drop at bytes)
Takes-item bytes room at cursor next ds f gaps takes =
    subst (Takes room) (sym (list-starts bytes room at cursor ds f)) (takes-item room (drop (at + 1) bytes) ds (drop cursor bytes) (drop next bytes) f.some f.items gaps takes)

takes-items : (room : ℕ) (text : List ℕ) (ds : List Dat) (last : List ℕ) → 0 < room → Items (room - 1) text ds last → 0 < length ds → Takes room (40 ∷ text)
takes-items room text ds last some (none _ _) any = absurd (omega arith)
takes-items room text ds last some (more _ _ s e after es _ gaps spells items) any = an_element room text s e after some gaps spells

pub Takes-items : (bytes : List ℕ) (room at cursor : ℕ) (ds : List Dat) → Front bytes room at cursor ds → 0 < length ds → Takes room (drop at bytes)
Takes-items bytes room at cursor ds f any =
    subst (Takes room) (sym (list-starts bytes room at cursor ds f)) (takes-items room (drop (at + 1) bytes) ds (drop cursor bytes) f.some f.items any)

pub some-before_dot : (ds : List Dat) (text : List ℕ) → dot_fits ds text ≡ true → 0 < length ds
some-before_dot [] text is = absurd (false≢true is)
some-before_dot (d ∷ ds) text is = omega arith

length-some : (ds : List Dat) (d : Dat) → 0 < length (ds ++ d ∷ [])
length-some [] d = omega arith
length-some (e ∷ ds) d = omega arith

pub Takes-pushed : (bytes : List ℕ) (room at cursor next n : ℕ) (ds : List Dat) (d : Dat) → Front bytes room at cursor ds → Gaps (drop cursor bytes) (drop next bytes) → Spells (room - 1) (drop next bytes) d (drop n bytes) → Takes room (drop at bytes)
Takes-pushed bytes room at cursor next n ds d f gaps spells =
    let items = Items-push (room - 1) (drop (at + 1) bytes) ds (drop cursor bytes) (drop next bytes) d (drop n bytes) f.items gaps spells in
    subst (Takes room) (sym (list-starts bytes room at cursor ds f)) (takes-items room (drop (at + 1) bytes) (ds ++ d ∷ []) (drop n bytes) f.some items (length-some ds d))

-- ---- prefixes

pub Spells-prefixed : (bytes : List ℕ) (room at after start n : ℕ) (operator : List ℕ) (d e : Dat) → HasPrefix (drop at bytes) operator (drop after bytes) → 0 < room → Gaps (drop after bytes) (drop start bytes) → Spells (room - 1) (drop start bytes) d (drop n bytes) → e ≡ prefixed_by operator d → Spells room (drop at bytes) e (drop n bytes)
Spells-prefixed bytes room at after start n operator d e prefix some gaps spells same =
    subst (λ (x : Dat). Spells room (drop at bytes) x (drop n bytes)) (sym same) (prefixed room (drop at bytes) operator (drop after bytes) (drop start bytes) d (drop n bytes) some prefix gaps spells)

-- ---- what begins a datum

pub BeginsDatum-string : (bytes : List ℕ) (at : ℕ) → at < length bytes → get_or bytes at 0 ≡ 34 → BeginsDatum (drop at bytes)
BeginsDatum-string bytes at within is = subst BeginsDatum (sym (starts bytes at 34 within is)) (a_string (drop (at + 1) bytes))

pub BeginsDatum-list : (bytes : List ℕ) (at : ℕ) → at < length bytes → get_or bytes at 0 ≡ 40 → BeginsDatum (drop at bytes)
BeginsDatum-list bytes at within is = subst BeginsDatum (sym (starts bytes at 40 within is)) (a_list (drop (at + 1) bytes))

token-datum : (room b : ℕ) (t : List ℕ) (d : Dat) (rest : List ℕ) → begins_token b ≡ true → Spells room (b ∷ t) d rest → BeginsDatum (b ∷ t)
token-datum room b t d rest is spells =
    let way : TokenWay (b ∷ t) (got d rest) = reads-at room (b ∷ t) (got d rest) front.a_token (begins-token b t is) spells in
    elim way [
      | a_datum e denotes same ↦ a_token b t e is denotes
      | no_datum kind denotes same ↦ got-fault d rest kind (b ∷ t) same
    ]

pub BeginsDatum-token : (bytes : List ℕ) (room at : ℕ) (d : Dat) (rest : List ℕ) → at < length bytes → begins_token (get_or bytes at 0) ≡ true → Spells room (drop at bytes) d rest → BeginsDatum (drop at bytes)
BeginsDatum-token bytes room at d rest within is spells =
    let e = drop_more bytes at 0 within in
    subst BeginsDatum (sym e) (token-datum room (get_or bytes at 0) (drop (at + 1) bytes) d rest is (subst (λ (t : List ℕ). Spells room t d rest) e spells))

abbrev kind_of_read : Read → Kind
kind_of_read (got d rest) = bad_dot
kind_of_read (fault kind at) = kind

abbrev place_of_read : Read → List ℕ
place_of_read (got d rest) = rest
place_of_read (fault kind at) = at

token-none : (room b : ℕ) (t : List ℕ) (kind : Kind) (at : List ℕ) → begins_token b ≡ true → Fails room (b ∷ t) kind at → NoDatum (b ∷ t) kind × (at ≡ b ∷ t)
token-none room b t kind at is fails =
    let way : TokenWay (b ∷ t) (fault kind at) = reads-at room (b ∷ t) (fault kind at) front.a_token (begins-token b t is) fails in
    elim way [
      | a_datum e denotes same ↦ got-fault e _ kind at (sym same)
      | no_datum other denotes same ↦ (subst (NoDatum (b ∷ t)) (sym (ap kind_of_read same)) (at_token b t other is denotes), ap place_of_read same)
    ]

pub NoDatum-token : (bytes : List ℕ) (room at : ℕ) (kind : Kind) (place : List ℕ) → at < length bytes → begins_token (get_or bytes at 0) ≡ true → Fails room (drop at bytes) kind place → NoDatum (drop at bytes) kind × (place ≡ drop at bytes)
NoDatum-token bytes room at kind place within is fails =
    let e = drop_more bytes at 0 within in
    let p = token-none room (get_or bytes at 0) (drop (at + 1) bytes) kind place is (subst (λ (t : List ℕ). Fails room t kind place) e fails) in
    (subst (λ (t : List ℕ). NoDatum t kind) (sym e) p.0, p.1 ∙ sym e)

-- ---- after a dot

pub tail-place : (bytes : List ℕ) (room dot : ℕ) → dot < length bytes → get_or bytes dot 0 ≡ 46 → TailFails room (drop (dot + 1) bytes) bad_dot (46 ∷ drop (dot + 1) bytes) → TailFails room (drop (dot + 1) bytes) bad_dot (drop dot bytes)
tail-place bytes room dot within is fails =
    subst (TailFails room (drop (dot + 1) bytes) bad_dot) (sym (starts bytes dot 46 within is)) fails
