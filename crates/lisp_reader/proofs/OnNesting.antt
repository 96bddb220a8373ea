-- How deep lists nest in what is read.
use Rattle.std.proofs.Common.{◌≡◌, ◌∙◌, ℕ, ◌+◌, ◌-◌, ◌≤◌, max, List, [], ◌∷◌, ◌++◌, sym, ap, subst, arith, true, false, if◌then◌else◌, map}
use Rattle.std.proofs.lemmas.List.{map_push}
use Rattle.lisp_data.specs.Datum.{Dat, integer, symbol, string, list, dotted, method, Dats, elements, list_from, nesting_of, nesting_in}
use Rattle.lisp_data.specs.DatumView.{datum_of}
use Rattle.lisp_data.specs.declared.datum.Datum.{Datum}
use Rattle.lisp_tokens.specs.Reading.{Spells, Items, Tail, of_token, in_quotes, in_parentheses, with_dot, prefixed, none, more, tail, list_of, ending_in, is_nil}
use Rattle.lisp_tokens.specs.Token.{run, Means, class_of}
use Rattle.lisp_tokens.specs.declared.token.Class.{Class}
use Rattle.lisp_tokens.specs.declared.token.Class.TheVariants.{Integer, Dot, Keyword, Symbol, Bad}
use Rattle.lisp_reader.proofs.OnLists.{list_from-elements}

pub nesting-append : (xs ys : List Dat) → nesting_in (list_from (xs ++ ys)) ≡ max (nesting_in (list_from xs)) (nesting_in (list_from ys))
nesting-append [] ys = omega arith
nesting-append (d ∷ xs) ys = omega (arith, nesting-append xs ys)

nesting-before : (ds : List Dat) (l : Dats) → nesting_in (list_from (ds ++ elements l)) ≡ max (nesting_in (list_from ds)) (nesting_in l)
nesting-before ds l = nesting-append ds (elements l) ∙ ap (λ (x : Dats). max (nesting_in (list_from ds)) (nesting_in x)) (list_from-elements l)

-- a list and what it ends in
pub ending-nesting : (ds : List Dat) (d : Dat) → nesting_of (ending_in ds d) ≤ max (nesting_in (list_from ds)) (nesting_of d + 1)
ending-nesting ds (integer n) = omega arith
ending-nesting ds (string s) = omega arith
ending-nesting ds (method n) = omega arith
ending-nesting ds (list l) = omega (arith, nesting-before ds l)
ending-nesting ds (dotted l d) = omega (arith, nesting-before ds l)
ending-nesting ds (symbol s) =
    elim (is_nil s) as (λ b. nesting_of (if b then list (list_from ds) else dotted (list_from ds) (symbol s)) ≤ max (nesting_in (list_from ds)) 1) [ true ↦ omega arith | false ↦ omega arith ]

list_of-nesting : (ds : List Dat) → nesting_of (list_of ds) ≤ nesting_in (list_from ds)
list_of-nesting [] = omega arith
list_of-nesting (d ∷ ds) = omega arith

token-nesting : (k : Class) (token : List ℕ) (d : Dat) → Means k token d → nesting_of d ≡ 0
token-nesting Integer token d m = ap nesting_of m.1
token-nesting Keyword token d m = ap nesting_of m
token-nesting Symbol token d m = ap nesting_of m
token-nesting Dot token d m = absurd m
token-nesting Bad token d m = absurd m

mutual
  -- a datum that is read with so much room nests no deeper
  pub Spells-nesting : (room : ℕ) (text : List ℕ) (d : Dat) (rest : List ℕ) → Spells room text d rest → nesting_of d ≤ room
  Spells-nesting room text d rest (of_token _ b t _ is denotes) =
      omega (arith, token-nesting (class_of (run (b ∷ t))) (run (b ∷ t)) d denotes)
  Spells-nesting room text d rest (in_quotes _ t _ utf8 after) = omega arith
  Spells-nesting room text d rest (in_parentheses _ t ds last _ some items gaps) =
      let inner = Items-nesting (room - 1) t ds last items in
      let here = list_of-nesting ds in
      omega arith
  Spells-nesting room text d rest (with_dot _ t ds last after e _ some items gaps fits more_text) =
      let inner = Items-nesting (room - 1) t ds last items in
      let end = Tail-nesting (room - 1) after e rest more_text in
      let here = ending-nesting ds e in
      omega arith
  Spells-nesting room text d rest (prefixed _ _ operator after start e _ some prefix gaps spells) =
      let inner = Spells-nesting (room - 1) start e rest spells in
      omega arith

  pub Items-nesting : (room : ℕ) (text : List ℕ) (ds : List Dat) (last : List ℕ) → Items room text ds last → nesting_in (list_from ds) ≤ room + 1
  Items-nesting room text ds last (none _ _) = omega arith
  Items-nesting room text ds last (more _ _ start d after es _ gaps spells items) =
      let first = Spells-nesting room start d after spells in
      let others = Items-nesting room after es last items in
      omega arith

  pub Tail-nesting : (room : ℕ) (text : List ℕ) (d : Dat) (rest : List ℕ) → Tail room text d rest → nesting_of d ≤ room
  Tail-nesting room text d rest (tail _ _ start _ end _ gaps spells close) = Spells-nesting room start d end spells

-- the last element before a list nests no deeper than all of it
pub last-nesting : (xs rest : List Datum) (item : Datum) (l : Dats) (all : List Dat) (n : ℕ) → xs ≡ rest ++ item ∷ [] → map datum_of xs ++ elements l ≡ all → nesting_in (list_from all) ≤ n → max (nesting_of (datum_of item) + 1) (nesting_in l) ≤ n
last-nesting xs rest item l all n pushed same most =
    let parts : map datum_of xs ≡ map datum_of rest ++ datum_of item ∷ [] = ap (map datum_of) pushed ∙ map_push datum_of rest item in
    let whole : nesting_in (list_from (map datum_of xs ++ elements l)) ≤ n = subst (λ (ds : List Dat). nesting_in (list_from ds) ≤ n) (sym same) most in
    let two = nesting-before (map datum_of xs) l in
    let front : nesting_in (list_from (map datum_of xs)) ≡ nesting_in (list_from (map datum_of rest ++ datum_of item ∷ [])) = ap (λ (ds : List Dat). nesting_in (list_from ds)) parts in
    let last = nesting-append (map datum_of rest) (datum_of item ∷ []) in
    omega arith

-- elements before a list nest no deeper than both
pub before-nesting : (ds : List Dat) (l other : Dats) (n : ℕ) → nesting_in (list_from ds) ≤ n → l ≡ other → nesting_in other ≤ n → nesting_in (list_from (ds ++ elements l)) ≤ n
before-nesting ds l other n front same rear =
    let two = nesting-before ds l in
    let e : nesting_in l ≡ nesting_in other = ap nesting_in same in
    omega arith
