-- How the logic stores a datum: the nodes of a list in a row, each after its parts.
use Rattle.std.specs.Prelude.{◌≡◌, ◌⊎◌, ℕ, ℤ, List, [], ◌∷◌, ◌++◌, refl}
use Rattle.std.specs.Coded.{Coded, code_by, coded×, coded⊎, coded_list, coded_ℕ, coded_ℤ}
use Rattle.std.proofs.Common.{inl, inr, ◌∙◌, ap}
use base.Stored.{coded_unit}
use Rattle.lisp_data.specs.Name.{Name}
use Rattle.lisp_data.specs.inner.NameCode.{name_code}
use Rattle.lisp_data.specs.Datum.{Dat, integer, symbol, string, list, dotted, method, Dats, nil, cons, Dot}

abbrev pub Token : Type 0
Token = ℤ ⊎ (Name ⊎ (List ℕ ⊎ (ℕ ⊎ (Unit {0} ⊎ (Unit {0} ⊎ (Unit {0} ⊎ Unit {0}))))))

abbrev pub token_code : Coded Token
token_code = coded⊎ coded_ℤ (coded⊎ name_code (coded⊎ (coded_list coded_ℕ) (coded⊎ coded_ℕ (coded⊎ coded_unit (coded⊎ coded_unit (coded⊎ coded_unit coded_unit))))))

abbrev a_list : Token
a_list = inr (inr (inr (inr (inl tt))))

abbrev a_nil : Token
a_nil = inr (inr (inr (inr (inr (inl tt)))))

abbrev a_cons : Token
a_cons = inr (inr (inr (inr (inr (inr (inl tt))))))

abbrev a_dot : Token
a_dot = inr (inr (inr (inr (inr (inr (inr tt))))))

abbrev mutual
  pub tokens_of_datum : Dat → List Token
  tokens_of_datum (integer n) = inl n ∷ []
  tokens_of_datum (symbol s) = inr (inl s) ∷ []
  tokens_of_datum (string s) = inr (inr (inl s)) ∷ []
  tokens_of_datum (method n) = inr (inr (inr (inl n))) ∷ []
  tokens_of_datum (list l) = tokens_of_data l ++ a_list ∷ []
  tokens_of_datum (dotted l d) = tokens_of_data l ++ (tokens_of_datum d ++ a_dot ∷ [])

  pub tokens_of_data : Dats → List Token
  tokens_of_data nil = a_nil ∷ []
  tokens_of_data (cons d l) = tokens_of_datum d ++ (tokens_of_data l ++ a_cons ∷ [])

-- the data and the lists read so far, the last one first
abbrev Stacks : Type 0
Stacks = List Dat × List Dats

abbrev pop_list : List Dat → List Dats → Stacks
pop_list ds [] = (ds, [])
pop_list ds (l ∷ ls) = (list l ∷ ds, ls)

abbrev pop_cons : List Dat → List Dats → Stacks
pop_cons [] ls = ([], ls)
pop_cons (d ∷ ds) [] = (d ∷ ds, [])
pop_cons (d ∷ ds) (l ∷ ls) = (ds, cons d l ∷ ls)

abbrev pop_dot : List Dat → List Dats → Stacks
pop_dot [] ls = ([], ls)
pop_dot (d ∷ ds) [] = (d ∷ ds, [])
pop_dot (d ∷ ds) (l ∷ ls) = (dotted l d ∷ ds, ls)

abbrev turn : Token → Stacks → Stacks
turn (inl n) s = (integer n ∷ s.0, s.1)
turn (inr (inl n)) s = (symbol n ∷ s.0, s.1)
turn (inr (inr (inl n))) s = (string n ∷ s.0, s.1)
turn (inr (inr (inr (inl n)))) s = (method n ∷ s.0, s.1)
turn (inr (inr (inr (inr (inl u))))) s = pop_list s.0 s.1
turn (inr (inr (inr (inr (inr (inl u)))))) s = (s.0, nil ∷ s.1)
turn (inr (inr (inr (inr (inr (inr (inl u))))))) s = pop_cons s.0 s.1
turn (inr (inr (inr (inr (inr (inr (inr u))))))) s = pop_dot s.0 s.1

abbrev read : List Token → Stacks → Stacks
read [] s = s
read (t ∷ ts) s = read ts (turn t s)

read-append : (a b : List Token) (s : Stacks) → read (a ++ b) s ≡ read b (read a s)
read-append [] b s = refl
read-append (t ∷ a) b s = read-append a b (turn t s)

mutual
  read_datum : (d : Dat) (ds : List Dat) (ls : List Dats) → read (tokens_of_datum d) (ds, ls) ≡ (d ∷ ds, ls)
  read_datum (integer n) ds ls = refl
  read_datum (symbol n) ds ls = refl
  read_datum (string n) ds ls = refl
  read_datum (method n) ds ls = refl
  read_datum (list l) ds ls = read-append (tokens_of_data l) (a_list ∷ []) (ds, ls) ∙ ap (read (a_list ∷ [])) (read_data l ds ls)
  read_datum (dotted l d) ds ls =
      read-append (tokens_of_data l) (tokens_of_datum d ++ a_dot ∷ []) (ds, ls)
      ∙ ap (read (tokens_of_datum d ++ a_dot ∷ [])) (read_data l ds ls)
      ∙ read-append (tokens_of_datum d) (a_dot ∷ []) (ds, l ∷ ls)
      ∙ ap (read (a_dot ∷ [])) (read_datum d ds (l ∷ ls))

  read_data : (l : Dats) (ds : List Dat) (ls : List Dats) → read (tokens_of_data l) (ds, ls) ≡ (ds, l ∷ ls)
  read_data nil ds ls = refl
  read_data (cons d l) ds ls =
      read-append (tokens_of_datum d) (tokens_of_data l ++ a_cons ∷ []) (ds, ls)
      ∙ ap (read (tokens_of_data l ++ a_cons ∷ [])) (read_datum d ds ls)
      ∙ read-append (tokens_of_data l) (a_cons ∷ []) (d ∷ ds, ls)
      ∙ ap (read (a_cons ∷ [])) (read_data l (d ∷ ds) ls)

abbrev first_list : List Dats → Dats
first_list [] = nil
first_list (l ∷ ls) = l

abbrev data_from : List Token → Dats
data_from ts = first_list (read ts ([], [])).1

pub data_from-tokens : (l : Dats) → data_from (tokens_of_data l) ≡ l
data_from-tokens l = ap (λ (s : Stacks). first_list s.1) (read_data l [] [])

abbrev pub data_code : Coded Dats
data_code = code_by (List Token) (coded_list token_code) tokens_of_data data_from data_from-tokens

abbrev first_datum : List Dat → Dat
first_datum [] = list nil
first_datum (d ∷ ds) = d

abbrev datum_from : List Token → Dat
datum_from ts = first_datum (read ts ([], [])).0

pub datum_from-tokens : (d : Dat) → datum_from (tokens_of_datum d) ≡ d
datum_from-tokens d = ap (λ (s : Stacks). first_datum s.0) (read_datum d [] [])

abbrev pub datum_code : Coded Dat
datum_code = code_by (List Token) (coded_list token_code) tokens_of_datum datum_from datum_from-tokens

abbrev pub dot_code : Coded Dot
dot_code = code_by (Dats × Dat) (coded× data_code datum_code) (λ d. (d.front, d.last)) (λ p. record { front = p.0; last = p.1 }) (λ _. refl)
