-- How the logic stores a form: its nodes in a row, each after its parts.
use Rattle.std.specs.Prelude.{◌≡◌, ◌⊎◌, List, [], ◌∷◌, ◌++◌, refl}
use Rattle.std.specs.Coded.{Coded, code_by, coded⊎, coded_list}
use Rattle.std.proofs.Common.{inl, inr, ◌∙◌, ap}
use base.Stored.{coded_unit}
use Rattle.clos_forms.specs.Form.{Form, form, Forms, nil, cons}
use Rattle.clos_forms.specs.Operator.{Operator, no_value}
use Rattle.clos_forms.specs.inner.OperatorCode.{operator_code}

-- an operator, the end of a list, or a cell of one; the operator alone carries something
abbrev pub Token : Type 0
Token = Operator ⊎ (Unit {0} ⊎ Unit {0})

-- an operator by its code; the other two carry nothing
abbrev pub token_code : Coded Token
token_code = coded⊎ operator_code (coded⊎ coded_unit coded_unit)

-- the end of a list, which is read as one without elements
abbrev a_nil : Token
a_nil = inr (inl tt)

-- a cell of a list, whose two sides were read before it
abbrev a_cons : Token
a_cons = inr (inr tt)

abbrev mutual
  -- the parts before their operator, so that they are known when it is read
  pub tokens_of_form : Form → List Token
  tokens_of_form (form o parts) = tokens_of_forms parts ++ inl o ∷ []

  -- the first form, the others, and then the cell; of no forms the end alone
  pub tokens_of_forms : Forms → List Token
  tokens_of_forms nil = a_nil ∷ []
  tokens_of_forms (cons f fs) = tokens_of_form f ++ (tokens_of_forms fs ++ a_cons ∷ [])

-- the forms and the lists read so far, the last one first
abbrev Stacks : Type 0
Stacks = List Form × List Forms

-- the list that was read last becomes the parts of this operator; where there is none, nothing is made
abbrev on_list : Operator → List Form → List Forms → Stacks
on_list o fs [] = (fs, [])
on_list o fs (l ∷ ls) = (form o l ∷ fs, ls)

-- the form that was read last is put before the list that was; where one of them is missing, nothing changes
abbrev on_both : List Form → List Forms → Stacks
on_both [] ls = ([], ls)
on_both (f ∷ fs) [] = (f ∷ fs, [])
on_both (f ∷ fs) (l ∷ ls) = (fs, cons f l ∷ ls)

-- what is read so far after one more token
abbrev turn : Token → Stacks → Stacks
turn (inl o) s = on_list o s.0 s.1
turn (inr (inl u)) s = (s.0, nil ∷ s.1)
turn (inr (inr u)) s = on_both s.0 s.1

-- the same after a row of tokens, from left to right
abbrev read : List Token → Stacks → Stacks
read [] s = s
read (t ∷ ts) s = read ts (turn t s)

read-append : (a b : List Token) (s : Stacks) → read (a ++ b) s ≡ read b (read a s)
read-append [] b s = refl
read-append (t ∷ a) b s = read-append a b (turn t s)

mutual
  read_form : (f : Form) (fs : List Form) (ls : List Forms) → read (tokens_of_form f) (fs, ls) ≡ (f ∷ fs, ls)
  read_form (form o l) fs ls =
      read-append (tokens_of_forms l) (inl o ∷ []) (fs, ls) ∙ ap (read (inl o ∷ [])) (read_forms l fs ls)

  read_forms : (l : Forms) (fs : List Form) (ls : List Forms) → read (tokens_of_forms l) (fs, ls) ≡ (fs, l ∷ ls)
  read_forms nil fs ls = refl
  read_forms (cons f l) fs ls =
      read-append (tokens_of_form f) (tokens_of_forms l ++ a_cons ∷ []) (fs, ls)
      ∙ ap (read (tokens_of_forms l ++ a_cons ∷ [])) (read_form f fs ls)
      ∙ read-append (tokens_of_forms l) (a_cons ∷ []) (f ∷ fs, ls)
      ∙ ap (read (a_cons ∷ [])) (read_forms l (f ∷ fs) ls)

-- the form that was read last, or a quotation without a value where there is none
abbrev first_form : List Form → Form
first_form [] = form no_value nil
first_form (f ∷ fs) = f

-- the list that was read last, or one without elements where there is none
abbrev first_list : List Forms → Forms
first_list [] = nil
first_list (l ∷ ls) = l

-- the form that was read last when all tokens are read
abbrev form_from : List Token → Form
form_from ts = first_form (read ts ([], [])).0

-- the list that was read last when all tokens are read
abbrev forms_from : List Token → Forms
forms_from ts = first_list (read ts ([], [])).1

pub form_from-tokens : (f : Form) → form_from (tokens_of_form f) ≡ f
form_from-tokens f = ap (λ (s : Stacks). first_form s.0) (read_form f [] [])

pub forms_from-tokens : (l : Forms) → forms_from (tokens_of_forms l) ≡ l
forms_from-tokens l = ap (λ (s : Stacks). first_list s.1) (read_forms l [] [])

-- a form is stored as its row of tokens, from which it comes back
abbrev pub form_code : Coded Form
form_code = code_by (List Token) (coded_list token_code) tokens_of_form form_from form_from-tokens

-- a list of them is stored in the same way
abbrev pub forms_code : Coded Forms
forms_code = code_by (List Token) (coded_list token_code) tokens_of_forms forms_from forms_from-tokens
