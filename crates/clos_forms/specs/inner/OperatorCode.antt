-- How the logic stores an operator: by its kind, those of a kind that carries nothing by their number.
use Rattle.std.specs.Prelude.{◌≡◌, ◌⊎◌, ℕ, zero, suc, Bool, List, [], ◌∷◌, refl}
use Rattle.std.specs.Coded.{Coded, code_by, coded×, coded⊎, coded_bool, coded_list, coded_ℕ}
use Rattle.std.proofs.Common.{inl, inr}
use base.Stored.{coded_unit}
use Rattle.lisp_data.specs.Name.{Name}
use Rattle.lisp_data.specs.inner.NameCode.{name_code}
use Rattle.lisp_data.specs.Print.{Called, by_symbol, by_setf}
use Rattle.lisp_data.specs.Value.{Val}
use Rattle.lisp_data.specs.inner.ValueCode.{value_code}
use Rattle.clos_forms.specs.Operator.{Bound, BoundSlot, Callable, the_method, made, Place, variable_place, slot_value_place, call_place, Operator, constant, no_value, variable, function, if_form, cond, clause, when, unless, and_form, or_form, progn, prog1, let_form, let_in_order, setq, setf, incf, decf, place, dotimes, with_slots, call_next_method, next_method_p, call, call_method}

-- of each variable a pair of its name and its flag
abbrev pub bounds_code : Coded (List Bound)
bounds_code =
    coded_list (code_by (Name × Bool) (coded× name_code coded_bool) (λ b. (b.name, b.has_init)) (λ p. record { name = p.0; has_init = p.1 }) (λ _. refl))

-- of each variable a pair of its name and its slot's
abbrev pub bound_slots_code : Coded (List BoundSlot)
bound_slots_code =
    coded_list (code_by (Name × Name) (coded× name_code name_code) (λ b. (b.variable, b.slot)) (λ p. record { variable = p.0; slot = p.1 }) (λ _. refl))

-- a method by its number, one that is made of a form by nothing
abbrev callable_to : Callable → ℕ ⊎ Unit {0}
callable_to (the_method n) = inl n
callable_to made = inr tt

-- back from these: a method of a number, or one that is made of a form
abbrev callable_from : ℕ ⊎ Unit {0} → Callable
callable_from (inl n) = the_method n
callable_from (inr u) = made

pub callable_back : (c : Callable) → callable_from (callable_to c) ≡ c
callable_back (the_method n) = refl
callable_back made = refl

-- a method that is called is stored as one of the two, from which it comes back
abbrev callable_code : Coded Callable
callable_code = code_by (ℕ ⊎ Unit {0}) (coded⊎ coded_ℕ coded_unit) callable_to callable_from callable_back

-- next methods are stored as a list of these
abbrev pub callables_code : Coded (List Callable)
callables_code = coded_list callable_code

-- the name of a symbol on the left, that of a list (setf symbol) on the right
abbrev called_to : Called → Name ⊎ Name
called_to (by_symbol n) = inl n
called_to (by_setf n) = inr n

-- back from these: a symbol from the left, (setf symbol) from the right
abbrev called_from : Name ⊎ Name → Called
called_from (inl n) = by_symbol n
called_from (inr n) = by_setf n

pub called_back : (c : Called) → called_from (called_to c) ≡ c
called_back (by_symbol n) = refl
called_back (by_setf n) = refl

-- the name of a function is stored as one of the two, from which it comes back
abbrev called_code : Coded Called
called_code = code_by (Name ⊎ Name) (coded⊎ name_code name_code) called_to called_from called_back

-- a variable's name, the name of a function, or nothing of slot-value
abbrev place_to : Place → Name ⊎ (Name ⊎ Unit {0})
place_to (variable_place n) = inl n
place_to slot_value_place = inr (inr tt)
place_to (call_place n) = inr (inl n)

-- back from these: a variable, a call, or slot-value
abbrev place_from : Name ⊎ (Name ⊎ Unit {0}) → Place
place_from (inl n) = variable_place n
place_from (inr (inl n)) = call_place n
place_from (inr (inr u)) = slot_value_place

pub place_back : (p : Place) → place_from (place_to p) ≡ p
place_back (variable_place n) = refl
place_back slot_value_place = refl
place_back (call_place n) = refl

-- a place is stored as one of the three, from which it comes back
abbrev place_code : Coded Place
place_code = code_by (Name ⊎ (Name ⊎ Unit {0})) (coded⊎ name_code (coded⊎ name_code coded_unit)) place_to place_from place_back

-- the number of an operator that carries nothing, or what an operator of each other kind carries
abbrev Kind : Type 0
Kind =
    ℕ ⊎ (Val ⊎ (Name ⊎ (Called ⊎ (List Bound ⊎ (List Bound ⊎ (List Name ⊎ (Place ⊎ ((Name × Bool) ⊎ (List BoundSlot ⊎ (Name ⊎ (Callable × List Callable)))))))))))

-- each part of this sum by its own code, from left to right
abbrev kind_code : Coded Kind
kind_code =
    coded⊎ coded_ℕ (coded⊎ value_code (coded⊎ name_code (coded⊎ called_code (coded⊎ bounds_code (coded⊎ bounds_code (coded⊎ (coded_list name_code)
    (coded⊎ place_code (coded⊎ (coded× name_code coded_bool) (coded⊎ bound_slots_code (coded⊎ name_code (coded× callable_code callables_code)))))))))))

-- an operator that carries nothing by its number, the others by what they carry
abbrev kind_of : Operator → Kind
kind_of no_value = inl 0
kind_of if_form = inl 1
kind_of cond = inl 2
kind_of clause = inl 3
kind_of when = inl 4
kind_of unless = inl 5
kind_of and_form = inl 6
kind_of or_form = inl 7
kind_of progn = inl 8
kind_of prog1 = inl 9
kind_of setf = inl 10
kind_of incf = inl 11
kind_of decf = inl 12
kind_of call_next_method = inl 13
kind_of next_method_p = inl 14
kind_of (constant v) = inr (inl v)
kind_of (variable n) = inr (inr (inl n))
kind_of (function c) = inr (inr (inr (inl c)))
kind_of (let_form bs) = inr (inr (inr (inr (inl bs))))
kind_of (let_in_order bs) = inr (inr (inr (inr (inr (inl bs)))))
kind_of (setq ns) = inr (inr (inr (inr (inr (inr (inl ns))))))
kind_of (place p) = inr (inr (inr (inr (inr (inr (inr (inl p)))))))
kind_of (dotimes n b) = inr (inr (inr (inr (inr (inr (inr (inr (inl (n, b)))))))))
kind_of (with_slots bs) = inr (inr (inr (inr (inr (inr (inr (inr (inr (inl bs)))))))))
kind_of (call n) = inr (inr (inr (inr (inr (inr (inr (inr (inr (inr (inl n))))))))))
kind_of (call_method m ns) = inr (inr (inr (inr (inr (inr (inr (inr (inr (inr (inr (m, ns)))))))))))

-- the operators that carry nothing, in the order of their numbers
abbrev bare : List Operator
bare =
    no_value ∷ if_form ∷ cond ∷ clause ∷ when ∷ unless ∷ and_form ∷ or_form ∷ progn ∷ prog1 ∷ setf ∷ incf ∷ decf ∷ call_next_method ∷ next_method_p ∷ []

-- the operator at a place of a list; past its end that of a quotation without a value
abbrev numbered : List Operator → ℕ → Operator
numbered [] n = no_value
numbered (o ∷ os) zero = o
numbered (o ∷ os) (suc n) = numbered os n

-- back from the kind; a number of no operator is read as a quotation without a value
abbrev of_kind : Kind → Operator
of_kind (inl n) = numbered bare n
of_kind (inr (inl v)) = constant v
of_kind (inr (inr (inl n))) = variable n
of_kind (inr (inr (inr (inl c)))) = function c
of_kind (inr (inr (inr (inr (inl bs))))) = let_form bs
of_kind (inr (inr (inr (inr (inr (inl bs)))))) = let_in_order bs
of_kind (inr (inr (inr (inr (inr (inr (inl ns))))))) = setq ns
of_kind (inr (inr (inr (inr (inr (inr (inr (inl p)))))))) = place p
of_kind (inr (inr (inr (inr (inr (inr (inr (inr (inl p))))))))) = dotimes p.0 p.1
of_kind (inr (inr (inr (inr (inr (inr (inr (inr (inr (inl bs)))))))))) = with_slots bs
of_kind (inr (inr (inr (inr (inr (inr (inr (inr (inr (inr (inl n))))))))))) = call n
of_kind (inr (inr (inr (inr (inr (inr (inr (inr (inr (inr (inr p))))))))))) = call_method p.0 p.1

pub of_kind_back : (o : Operator) → of_kind (kind_of o) ≡ o
of_kind_back no_value = refl
of_kind_back if_form = refl
of_kind_back cond = refl
of_kind_back clause = refl
of_kind_back when = refl
of_kind_back unless = refl
of_kind_back and_form = refl
of_kind_back or_form = refl
of_kind_back progn = refl
of_kind_back prog1 = refl
of_kind_back setf = refl
of_kind_back incf = refl
of_kind_back decf = refl
of_kind_back call_next_method = refl
of_kind_back next_method_p = refl
of_kind_back (constant v) = refl
of_kind_back (variable n) = refl
of_kind_back (function c) = refl
of_kind_back (let_form bs) = refl
of_kind_back (let_in_order bs) = refl
of_kind_back (setq ns) = refl
of_kind_back (place p) = refl
of_kind_back (dotimes n b) = refl
of_kind_back (with_slots bs) = refl
of_kind_back (call n) = refl
of_kind_back (call_method m ns) = refl

-- an operator is stored as its kind, from which it comes back
abbrev pub operator_code : Coded Operator
operator_code = code_by Kind kind_code kind_of of_kind of_kind_back
