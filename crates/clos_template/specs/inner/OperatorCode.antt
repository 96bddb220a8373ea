-- How the logic stores an operator of templates: by its kind, those of a kind that carries nothing by their number.
use Rattle.std.specs.Prelude.{◌≡◌, ◌⊎◌, ℕ, zero, suc, Bool, List, [], ◌∷◌, Option, refl}
use Rattle.std.specs.Coded.{Coded, code_by, coded×, coded⊎, coded_bool, coded_list, coded_option, coded_ℕ}
use Rattle.std.proofs.Common.{inl, inr}
use Rattle.lisp_data.specs.Name.{Name}
use Rattle.lisp_data.specs.inner.NameCode.{name_code}
use Rattle.lisp_data.specs.Datum.{Dat}
use Rattle.lisp_data.specs.inner.DatumCode.{datum_code}
use Rattle.clos_forms.specs.Operator.{Bound}
use Rattle.clos_forms.specs.inner.OperatorCode.{bounds_code}
use Rattle.clos_template.specs.Operator.{Operator, constant, variable, if_form, cond, and_form, or_form, let_form, let_in_order, mapcar, call, written}
use Rattle.clos_template.specs.declared.operator.Function.{Function}
use Rattle.clos_template.specs.declared.operator.Function.TheVariants.{Not, Endp, Eq, First, Second, Rest, Reverse, Length, List as ListOf, ListStar, Cons, Append}

-- the number of an operator that carries nothing, or what an operator of each other kind carries
abbrev Kind : Type 0
Kind = ℕ ⊎ (Dat ⊎ (Name ⊎ (List Bool ⊎ (List Bound ⊎ (List Bound ⊎ (Name ⊎ (ℕ ⊎ (List Bool × Option Dat))))))))

-- each part of this sum by its own code, from left to right
abbrev kind_code : Coded Kind
kind_code =
    coded⊎ coded_ℕ (coded⊎ datum_code (coded⊎ name_code (coded⊎ (coded_list coded_bool) (coded⊎ bounds_code (coded⊎ bounds_code
    (coded⊎ name_code (coded⊎ coded_ℕ (coded× (coded_list coded_bool) (coded_option datum_code)))))))))

-- the place of a function among all functions, from 0 on
abbrev function_number : Function → ℕ
function_number Not = 0
function_number Endp = 1
function_number Eq = 2
function_number First = 3
function_number Second = 4
function_number Rest = 5
function_number Reverse = 6
function_number Length = 7
function_number ListOf = 8
function_number ListStar = 9
function_number Cons = 10
function_number Append = 11

-- in the order of their numbers
abbrev all_functions : List Function
all_functions = Not ∷ Endp ∷ Eq ∷ First ∷ Second ∷ Rest ∷ Reverse ∷ Length ∷ ListOf ∷ ListStar ∷ Cons ∷ Append ∷ []

-- what stands at a place of a list, or the given thing where the list ends before it
abbrev numbered : {A : Type 0} → A → List A → ℕ → A
numbered x [] n = x
numbered x (o ∷ os) zero = o
numbered x (o ∷ os) (suc n) = numbered x os n

-- IF, AND and OR by their numbers, a call by its function's number, the others by what they carry
abbrev kind_of : Operator → Kind
kind_of if_form = inl 0
kind_of and_form = inl 1
kind_of or_form = inl 2
kind_of (constant d) = inr (inl d)
kind_of (variable n) = inr (inr (inl n))
kind_of (cond bs) = inr (inr (inr (inl bs)))
kind_of (let_form bs) = inr (inr (inr (inr (inl bs))))
kind_of (let_in_order bs) = inr (inr (inr (inr (inr (inl bs)))))
kind_of (mapcar n) = inr (inr (inr (inr (inr (inr (inl n))))))
kind_of (call f) = inr (inr (inr (inr (inr (inr (inr (inl (function_number f))))))))
kind_of (written bs d) = inr (inr (inr (inr (inr (inr (inr (inr (bs, d))))))))

-- the operators that carry nothing, in the order of their numbers
abbrev bare : List Operator
bare = if_form ∷ and_form ∷ or_form ∷ []

-- back from the kind; a number of no operator is read as IF, and one of no function as NOT
abbrev of_kind : Kind → Operator
of_kind (inl n) = numbered if_form bare n
of_kind (inr (inl d)) = constant d
of_kind (inr (inr (inl n))) = variable n
of_kind (inr (inr (inr (inl bs)))) = cond bs
of_kind (inr (inr (inr (inr (inl bs))))) = let_form bs
of_kind (inr (inr (inr (inr (inr (inl bs)))))) = let_in_order bs
of_kind (inr (inr (inr (inr (inr (inr (inl n))))))) = mapcar n
of_kind (inr (inr (inr (inr (inr (inr (inr (inl n)))))))) = call (numbered Not all_functions n)
of_kind (inr (inr (inr (inr (inr (inr (inr (inr p)))))))) = written p.0 p.1

pub of_kind_back : (o : Operator) → of_kind (kind_of o) ≡ o
of_kind_back if_form = refl
of_kind_back and_form = refl
of_kind_back or_form = refl
of_kind_back (constant d) = refl
of_kind_back (variable n) = refl
of_kind_back (cond bs) = refl
of_kind_back (let_form bs) = refl
of_kind_back (let_in_order bs) = refl
of_kind_back (mapcar n) = refl
of_kind_back (call Not) = refl
of_kind_back (call Endp) = refl
of_kind_back (call Eq) = refl
of_kind_back (call First) = refl
of_kind_back (call Second) = refl
of_kind_back (call Rest) = refl
of_kind_back (call Reverse) = refl
of_kind_back (call Length) = refl
of_kind_back (call ListOf) = refl
of_kind_back (call ListStar) = refl
of_kind_back (call Cons) = refl
of_kind_back (call Append) = refl
of_kind_back (written bs d) = refl

-- an operator is stored as its kind, from which it comes back
abbrev pub operator_code : Coded Operator
operator_code = code_by Kind kind_code kind_of of_kind of_kind_back
