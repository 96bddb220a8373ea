-- How the logic stores a template: its nodes in a row, each after its parts.
use Rattle.std.specs.Prelude.{◌≡◌, ◌⊎◌, List, [], ◌∷◌, ◌++◌, refl}
use Rattle.std.specs.Coded.{Coded, code_by, coded⊎, coded_list}
use Rattle.std.proofs.Common.{inl, inr, ◌∙◌, ap}
use base.Stored.{coded_unit}
use Rattle.clos_template.specs.Template.{Template, template, Templates, nil, cons}
use Rattle.clos_template.specs.Operator.{Operator, if_form}
use Rattle.clos_template.specs.inner.OperatorCode.{operator_code}

-- an operator, the end of a list, or a cell of one; the operator alone carries something
abbrev pub Token : Type 0
Token = Operator ⊎ (Unit {0} ⊎ Unit {0})

-- an operator by its code; the other two carry nothing
abbrev pub token_code : Coded Token
token_code = coded⊎ operator_code (coded⊎ coded_unit coded_unit)

-- the end of a list, which is read as one without elements
abbrev a_nil : Token
a_nil = inr (inl tt)

-- a cell of a list, whose two sides were read before it
abbrev a_cons : Token
a_cons = inr (inr tt)

abbrev mutual
  -- the parts before their operator, so that they are known when it is read
  pub tokens_of_template : Template → List Token
  tokens_of_template (template o parts) = tokens_of_templates parts ++ inl o ∷ []

  -- the first template, the others, and then the cell; of no templates the end alone
  pub tokens_of_templates : Templates → List Token
  tokens_of_templates nil = a_nil ∷ []
  tokens_of_templates (cons f fs) = tokens_of_template f ++ (tokens_of_templates fs ++ a_cons ∷ [])

-- the templates and the lists read so far, the last one first
abbrev Stacks : Type 0
Stacks = List Template × List Templates

-- the list that was read last becomes the parts of this operator; where there is none, nothing is made
abbrev on_list : Operator → List Template → List Templates → Stacks
on_list o fs [] = (fs, [])
on_list o fs (l ∷ ls) = (template o l ∷ fs, ls)

-- the template that was read last is put before the list that was; where one of them is missing, nothing changes
abbrev on_both : List Template → List Templates → Stacks
on_both [] ls = ([], ls)
on_both (f ∷ fs) [] = (f ∷ fs, [])
on_both (f ∷ fs) (l ∷ ls) = (fs, cons f l ∷ ls)

-- what is read so far after one more token
abbrev turn : Token → Stacks → Stacks
turn (inl o) s = on_list o s.0 s.1
turn (inr (inl u)) s = (s.0, nil ∷ s.1)
turn (inr (inr u)) s = on_both s.0 s.1

-- the same after a row of tokens, from left to right
abbrev read : List Token → Stacks → Stacks
read [] s = s
read (t ∷ ts) s = read ts (turn t s)

read-append : (a b : List Token) (s : Stacks) → read (a ++ b) s ≡ read b (read a s)
read-append [] b s = refl
read-append (t ∷ a) b s = read-append a b (turn t s)

mutual
  read_template : (f : Template) (fs : List Template) (ls : List Templates) → read (tokens_of_template f) (fs, ls) ≡ (f ∷ fs, ls)
  read_template (template o l) fs ls =
      read-append (tokens_of_templates l) (inl o ∷ []) (fs, ls) ∙ ap (read (inl o ∷ [])) (read_templates l fs ls)

  read_templates : (l : Templates) (fs : List Template) (ls : List Templates) → read (tokens_of_templates l) (fs, ls) ≡ (fs, l ∷ ls)
  read_templates nil fs ls = refl
  read_templates (cons f l) fs ls =
      read-append (tokens_of_template f) (tokens_of_templates l ++ a_cons ∷ []) (fs, ls)
      ∙ ap (read (tokens_of_templates l ++ a_cons ∷ [])) (read_template f fs ls)
      ∙ read-append (tokens_of_templates l) (a_cons ∷ []) (f ∷ fs, ls)
      ∙ ap (read (a_cons ∷ [])) (read_templates l (f ∷ fs) ls)

-- the template that was read last, or an IF without parts where there is none
abbrev first_template : List Template → Template
first_template [] = template if_form nil
first_template (f ∷ fs) = f

-- the list that was read last, or one without elements where there is none
abbrev first_list : List Templates → Templates
first_list [] = nil
first_list (l ∷ ls) = l

-- the template that was read last when all tokens are read
abbrev template_from : List Token → Template
template_from ts = first_template (read ts ([], [])).0

-- the list that was read last when all tokens are read
abbrev templates_from : List Token → Templates
templates_from ts = first_list (read ts ([], [])).1

pub template_from-tokens : (f : Template) → template_from (tokens_of_template f) ≡ f
template_from-tokens f = ap (λ (s : Stacks). first_template s.0) (read_template f [] [])

pub templates_from-tokens : (l : Templates) → templates_from (tokens_of_templates l) ≡ l
templates_from-tokens l = ap (λ (s : Stacks). first_list s.1) (read_templates l [] [])

-- a template is stored as its row of tokens, from which it comes back
abbrev pub template_code : Coded Template
template_code = code_by (List Token) (coded_list token_code) tokens_of_template template_from template_from-tokens

-- a list of them is stored in the same way
abbrev pub templates_code : Coded Templates
templates_code = code_by (List Token) (coded_list token_code) tokens_of_templates templates_from templates_from-tokens
