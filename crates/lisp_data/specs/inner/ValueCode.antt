-- How the logic stores a value: the nodes of a list in a row, each after its parts.
use Rattle.std.specs.Prelude.{◌≡◌, ◌⊎◌, ℕ, ℤ, List, [], ◌∷◌, ◌++◌, refl}
use Rattle.std.specs.Coded.{Coded, code_by, coded⊎, coded_list, coded_ℕ, coded_ℤ}
use Rattle.std.proofs.Common.{inl, inr, ◌∙◌, ap}
use base.Stored.{coded_unit}
use Rattle.lisp_data.specs.Name.{Name}
use Rattle.lisp_data.specs.inner.NameCode.{name_code}
use Rattle.lisp_data.specs.Value.{Val, integer, symbol, string, list, class, generic, method, instance, Vals, nil, cons}

abbrev pub Token : Type 0
Token = ℤ ⊎ (Name ⊎ (List ℕ ⊎ (ℕ ⊎ (ℕ ⊎ (ℕ ⊎ (ℕ ⊎ (Unit {0} ⊎ (Unit {0} ⊎ Unit {0}))))))))

abbrev pub token_code : Coded Token
token_code =
    coded⊎ coded_ℤ (coded⊎ name_code (coded⊎ (coded_list coded_ℕ) (coded⊎ coded_ℕ (coded⊎ coded_ℕ (coded⊎ coded_ℕ (coded⊎ coded_ℕ (coded⊎ coded_unit (coded⊎ coded_unit coded_unit))))))))

abbrev a_list : Token
a_list = inr (inr (inr (inr (inr (inr (inr (inl tt)))))))

abbrev a_nil : Token
a_nil = inr (inr (inr (inr (inr (inr (inr (inr (inl tt))))))))

abbrev a_cons : Token
a_cons = inr (inr (inr (inr (inr (inr (inr (inr (inr tt))))))))

abbrev mutual
  pub tokens_of_value : Val → List Token
  tokens_of_value (integer n) = inl n ∷ []
  tokens_of_value (symbol s) = inr (inl s) ∷ []
  tokens_of_value (string s) = inr (inr (inl s)) ∷ []
  tokens_of_value (class n) = inr (inr (inr (inl n))) ∷ []
  tokens_of_value (generic n) = inr (inr (inr (inr (inl n)))) ∷ []
  tokens_of_value (method n) = inr (inr (inr (inr (inr (inl n))))) ∷ []
  tokens_of_value (instance n) = inr (inr (inr (inr (inr (inr (inl n)))))) ∷ []
  tokens_of_value (list l) = tokens_of_values l ++ a_list ∷ []

  pub tokens_of_values : Vals → List Token
  tokens_of_values nil = a_nil ∷ []
  tokens_of_values (cons v l) = tokens_of_value v ++ (tokens_of_values l ++ a_cons ∷ [])

-- the values and the lists read so far, the last one first
abbrev Stacks : Type 0
Stacks = List Val × List Vals

abbrev pop_list : List Val → List Vals → Stacks
pop_list vs [] = (vs, [])
pop_list vs (l ∷ ls) = (list l ∷ vs, ls)

abbrev pop_cons : List Val → List Vals → Stacks
pop_cons [] ls = ([], ls)
pop_cons (v ∷ vs) [] = (v ∷ vs, [])
pop_cons (v ∷ vs) (l ∷ ls) = (vs, cons v l ∷ ls)

abbrev turn : Token → Stacks → Stacks
turn (inl n) s = (integer n ∷ s.0, s.1)
turn (inr (inl n)) s = (symbol n ∷ s.0, s.1)
turn (inr (inr (inl n))) s = (string n ∷ s.0, s.1)
turn (inr (inr (inr (inl n)))) s = (class n ∷ s.0, s.1)
turn (inr (inr (inr (inr (inl n))))) s = (generic n ∷ s.0, s.1)
turn (inr (inr (inr (inr (inr (inl n)))))) s = (method n ∷ s.0, s.1)
turn (inr (inr (inr (inr (inr (inr (inl n))))))) s = (instance n ∷ s.0, s.1)
turn (inr (inr (inr (inr (inr (inr (inr (inl u)))))))) s = pop_list s.0 s.1
turn (inr (inr (inr (inr (inr (inr (inr (inr (inl u))))))))) s = (s.0, nil ∷ s.1)
turn (inr (inr (inr (inr (inr (inr (inr (inr (inr u))))))))) s = pop_cons s.0 s.1

abbrev read : List Token → Stacks → Stacks
read [] s = s
read (t ∷ ts) s = read ts (turn t s)

read-append : (a b : List Token) (s : Stacks) → read (a ++ b) s ≡ read b (read a s)
read-append [] b s = refl
read-append (t ∷ a) b s = read-append a b (turn t s)

mutual
  read_value : (v : Val) (vs : List Val) (ls : List Vals) → read (tokens_of_value v) (vs, ls) ≡ (v ∷ vs, ls)
  read_value (integer n) vs ls = refl
  read_value (symbol n) vs ls = refl
  read_value (string n) vs ls = refl
  read_value (class n) vs ls = refl
  read_value (generic n) vs ls = refl
  read_value (method n) vs ls = refl
  read_value (instance n) vs ls = refl
  read_value (list l) vs ls = read-append (tokens_of_values l) (a_list ∷ []) (vs, ls) ∙ ap (read (a_list ∷ [])) (read_values l vs ls)

  read_values : (l : Vals) (vs : List Val) (ls : List Vals) → read (tokens_of_values l) (vs, ls) ≡ (vs, l ∷ ls)
  read_values nil vs ls = refl
  read_values (cons v l) vs ls =
      read-append (tokens_of_value v) (tokens_of_values l ++ a_cons ∷ []) (vs, ls)
      ∙ ap (read (tokens_of_values l ++ a_cons ∷ [])) (read_value v vs ls)
      ∙ read-append (tokens_of_values l) (a_cons ∷ []) (v ∷ vs, ls)
      ∙ ap (read (a_cons ∷ [])) (read_values l (v ∷ vs) ls)

abbrev first_list : List Vals → Vals
first_list [] = nil
first_list (l ∷ ls) = l

abbrev values_from : List Token → Vals
values_from ts = first_list (read ts ([], [])).1

pub values_from-tokens : (l : Vals) → values_from (tokens_of_values l) ≡ l
values_from-tokens l = ap (λ (s : Stacks). first_list s.1) (read_values l [] [])

abbrev pub values_code : Coded Vals
values_code = code_by (List Token) (coded_list token_code) tokens_of_values values_from values_from-tokens

abbrev alone : Val → Vals
alone v = cons v nil

abbrev the_value : Vals → Val
the_value nil = list nil
the_value (cons v l) = v

abbrev pub value_code : Coded Val
value_code = code_by Vals values_code alone the_value (λ _. refl)
