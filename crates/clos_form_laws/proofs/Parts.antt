-- The parts of well-formed forms are well formed, and so is each form that stands outside of methods wherever it stands.
use Rattle.std.proofs.Common.{◌≡◌, Bool, true, false, List, [], ◌∷◌, length, refl, ◌==◌}
use Rattle.std.specs.Cmp.{first_so, second_so}
use Rattle.std.specs.Prelude.{⊤, ◌&&◌, ◌||◌, nat_le}
use Rattle.lisp_data.specs.Name.{Name}
use Rattle.clos_forms.specs.Form.{Form, form, Forms, nil, cons, operator_in, parts_in}
use Rattle.clos_forms.specs.Operator as of
use Rattle.clos_forms.specs.Operator.{Bound, Operator, Place, variable_place, slot_value_place, call_place}
use Rattle.clos_forms.specs.WellFormed.{are_clauses, are_expressions, are_made_well, are_well_formed, assignments, count_result_body, first_if, inits_and_body, is_clause, is_expression, is_made_well, is_place, is_well_formed, none, role_of, roles_of, subforms, takes, values}
use Rattle.clos_forms.specs.declared.part.Context.{Context as Standing}
use Rattle.clos_forms.specs.declared.part.Context.TheVariants.{Plain}

pub both : (s t : Bool) → s ≡ true → t ≡ true → (s && t) ≡ true
both true t h g = g
both false t h g = h

-- ---- parts

-- each of these may stand by itself
abbrev pub AllStand : Standing → Forms → Type 0
AllStand c nil = ⊤
AllStand c (cons f fs) = (is_well_formed c f ≡ true) × AllStand c fs

pub all_stand : (c : Standing) (fs : Forms) → are_expressions (roles_of fs) ≡ true → are_made_well c fs ≡ true → AllStand c fs
all_stand c nil e m = tt
all_stand c (cons f fs) e m = (
  both (is_expression (role_of (operator_in f))) (is_made_well c f) (first_so (is_expression (role_of (operator_in f))) (are_expressions (roles_of fs)) e)
      (first_so (is_made_well c f) (are_made_well c fs) m),
  all_stand c fs (second_so (is_expression (role_of (operator_in f))) (are_expressions (roles_of fs)) e) (second_so (is_made_well c f) (are_made_well c fs) m),
)

pub body_stands : (c : Standing) (fs : Forms) → are_well_formed c fs ≡ true → AllStand c fs
body_stands c fs h =
    all_stand c fs (first_so (are_expressions (roles_of fs)) (are_made_well c fs) h) (second_so (are_expressions (roles_of fs)) (are_made_well c fs) h)

none_expressions : (fs : Forms) → none (roles_of fs) ≡ true → are_expressions (roles_of fs) ≡ true
none_expressions nil h = refl
none_expressions (cons f fs) h = absurd (cc h)

init_expressions : (b : Bool) (bs : List Bound) (fs : Forms)
    → ((gs : Forms) → inits_and_body bs (roles_of gs) ≡ true → are_expressions (roles_of gs) ≡ true)
    → first_if b (inits_and_body bs) (roles_of fs) ≡ true → are_expressions (roles_of fs) ≡ true
init_expressions false bs fs g h = g fs h
init_expressions true bs nil g h = refl
init_expressions true bs (cons f fs) g h =
    both (is_expression (role_of (operator_in f))) (are_expressions (roles_of fs)) (first_so (is_expression (role_of (operator_in f))) (inits_and_body bs (roles_of fs)) h)
    (g fs (second_so (is_expression (role_of (operator_in f))) (inits_and_body bs (roles_of fs)) h))

pub inits_expressions : (bs : List Bound) (fs : Forms) → inits_and_body bs (roles_of fs) ≡ true → are_expressions (roles_of fs) ≡ true
inits_expressions [] fs h = h
inits_expressions (b ∷ bs) fs h = init_expressions b.has_init bs fs (inits_expressions bs) h

pub values_expressions : (ns : List Name) (fs : Forms) → values ns (roles_of fs) ≡ true → are_expressions (roles_of fs) ≡ true
values_expressions [] fs h = none_expressions fs h
values_expressions (n ∷ ns) nil h = refl
values_expressions (n ∷ ns) (cons f fs) h =
    both (is_expression (role_of (operator_in f))) (are_expressions (roles_of fs)) (first_so (is_expression (role_of (operator_in f))) (values ns (roles_of fs)) h)
    (values_expressions ns fs (second_so (is_expression (role_of (operator_in f))) (values ns (roles_of fs)) h))

pub first_expressions : (b : Bool) (fs : Forms) → first_if b are_expressions (roles_of fs) ≡ true → are_expressions (roles_of fs) ≡ true
first_expressions false fs h = h
first_expressions true nil h = refl
first_expressions true (cons f fs) h = h

pub count_expressions : (b : Bool) (fs : Forms) → count_result_body b (roles_of fs) ≡ true → are_expressions (roles_of fs) ≡ true
count_expressions b nil h = refl
count_expressions b (cons f fs) h =
    both (is_expression (role_of (operator_in f))) (are_expressions (roles_of fs))
    (first_so (is_expression (role_of (operator_in f))) (first_if b are_expressions (roles_of fs)) h)
    (first_expressions b fs (second_so (is_expression (role_of (operator_in f))) (first_if b are_expressions (roles_of fs)) h))

subforms_expressions : (p : Place) (fs : Forms) → subforms p (roles_of fs) ≡ true → are_expressions (roles_of fs) ≡ true
subforms_expressions (variable_place n) fs h = none_expressions fs h
subforms_expressions slot_value_place fs h = first_so (are_expressions (roles_of fs)) (length (roles_of fs) == 2) h
subforms_expressions (call_place n) fs h = h

-- the parts of a clause, and of a place
other_expressions : (c : Standing) (o : Operator) (fs : Forms) → (is_clause (role_of o) || is_place (role_of o)) ≡ true → takes c o (roles_of fs) ≡ true
    → are_expressions (roles_of fs) ≡ true
other_expressions c (of.constant v) fs h t = absurd (cc h)
other_expressions c of.no_value fs h t = absurd (cc h)
other_expressions c (of.variable n) fs h t = absurd (cc h)
other_expressions c (of.function x) fs h t = absurd (cc h)
other_expressions c of.if_form fs h t = absurd (cc h)
other_expressions c of.cond fs h t = absurd (cc h)
other_expressions c of.clause fs h t = first_so (are_expressions (roles_of fs)) (nat_le 1 (length (roles_of fs))) t
other_expressions c of.when fs h t = absurd (cc h)
other_expressions c of.unless fs h t = absurd (cc h)
other_expressions c of.and_form fs h t = absurd (cc h)
other_expressions c of.or_form fs h t = absurd (cc h)
other_expressions c of.progn fs h t = absurd (cc h)
other_expressions c of.prog1 fs h t = absurd (cc h)
other_expressions c (of.let_form bs) fs h t = absurd (cc h)
other_expressions c (of.let_in_order bs) fs h t = absurd (cc h)
other_expressions c (of.setq ns) fs h t = absurd (cc h)
other_expressions c of.setf fs h t = absurd (cc h)
other_expressions c of.incf fs h t = absurd (cc h)
other_expressions c of.decf fs h t = absurd (cc h)
other_expressions c (of.place p) fs h t = subforms_expressions p fs t
other_expressions c (of.dotimes n b) fs h t = absurd (cc h)
other_expressions c (of.with_slots bs) fs h t = absurd (cc h)
other_expressions c of.call_next_method fs h t = absurd (cc h)
other_expressions c of.next_method_p fs h t = absurd (cc h)
other_expressions c (of.call n) fs h t = absurd (cc h)
other_expressions c (of.call_method m ns) fs h t = absurd (cc h)

parts_stand : (c : Standing) (f : Form) → (is_clause (role_of (operator_in f)) || is_place (role_of (operator_in f))) ≡ true → is_made_well c f ≡ true
    → AllStand c (parts_in f)
parts_stand c (form o ps) e m =
    all_stand c ps (other_expressions c o ps e (first_so (takes c o (roles_of ps)) (are_made_well c ps) m)) (second_so (takes c o (roles_of ps)) (are_made_well c ps) m)

left : (s t : Bool) → s ≡ true → (s || t) ≡ true
left true t h = refl
left false t h = absurd (cc h)

right : (s t : Bool) → t ≡ true → (s || t) ≡ true
right true t h = refl
right false t h = h

clause_stands : (c : Standing) (f : Form) → is_clause (role_of (operator_in f)) ≡ true → is_made_well c f ≡ true → AllStand c (parts_in f)
clause_stands c f h m = parts_stand c f (left (is_clause (role_of (operator_in f))) (is_place (role_of (operator_in f))) h) m

pub place_stands : (c : Standing) (f : Form) → is_place (role_of (operator_in f)) ≡ true → is_made_well c f ≡ true → AllStand c (parts_in f)
place_stands c f h m = parts_stand c f (right (is_clause (role_of (operator_in f))) (is_place (role_of (operator_in f))) h) m

-- of each clause
abbrev pub AllClauses : Standing → Forms → Type 0
AllClauses c nil = ⊤
AllClauses c (cons f fs) = AllStand c (parts_in f) × AllClauses c fs

pub clauses_stand : (c : Standing) (fs : Forms) → are_clauses (roles_of fs) ≡ true → are_made_well c fs ≡ true → AllClauses c fs
clauses_stand c nil e m = tt
clauses_stand c (cons f fs) e m = (
  clause_stands c f (first_so (is_clause (role_of (operator_in f))) (are_clauses (roles_of fs)) e)
      (first_so (is_made_well c f) (are_made_well c fs) m),
  clauses_stand c fs (second_so (is_clause (role_of (operator_in f))) (are_clauses (roles_of fs)) e) (second_so (is_made_well c f) (are_made_well c fs) m),
)

-- places and forms in turn
abbrev pub AllAssigned : Standing → Forms → Type 0
AllAssigned c nil = ⊤
AllAssigned c (cons p nil) = ⊤
AllAssigned c (cons p (cons f fs)) = AllStand c (parts_in p) × (is_well_formed c f ≡ true) × AllAssigned c fs

pub assigned_stand : (c : Standing) (fs : Forms) → assignments (roles_of fs) ≡ true → are_made_well c fs ≡ true → AllAssigned c fs
assigned_stand c nil e m = tt
assigned_stand c (cons p nil) e m = tt
assigned_stand c (cons p (cons f fs)) e m =
    let e' : (is_expression (role_of (operator_in f)) && assignments (roles_of fs)) ≡ true =
    second_so (is_place (role_of (operator_in p))) (is_expression (role_of (operator_in f)) && assignments (roles_of fs)) e in
    let m' : (is_made_well c f && are_made_well c fs) ≡ true = second_so (is_made_well c p) (is_made_well c f && are_made_well c fs) m in (
      place_stands c p (first_so (is_place (role_of (operator_in p))) (is_expression (role_of (operator_in f)) && assignments (roles_of fs)) e)
          (first_so (is_made_well c p) (is_made_well c f && are_made_well c fs) m),
      both (is_expression (role_of (operator_in f))) (is_made_well c f) (first_so (is_expression (role_of (operator_in f))) (assignments (roles_of fs)) e')
          (first_so (is_made_well c f) (are_made_well c fs) m'),
      assigned_stand c fs (second_so (is_expression (role_of (operator_in f))) (assignments (roles_of fs)) e') (second_so (is_made_well c f) (are_made_well c fs) m'),
    )

-- ---- where a form may stand outside of methods, it may stand anywhere

takes_anywhere : (c : Standing) (o : Operator) (fs : Forms) → takes Plain o (roles_of fs) ≡ true → takes c o (roles_of fs) ≡ true
takes_anywhere c (of.constant v) fs h = h
takes_anywhere c of.no_value fs h = h
takes_anywhere c (of.variable n) fs h = h
takes_anywhere c (of.function x) fs h = h
takes_anywhere c of.if_form fs h = h
takes_anywhere c of.cond fs h = h
takes_anywhere c of.clause fs h = h
takes_anywhere c of.when fs h = h
takes_anywhere c of.unless fs h = h
takes_anywhere c of.and_form fs h = h
takes_anywhere c of.or_form fs h = h
takes_anywhere c of.progn fs h = h
takes_anywhere c of.prog1 fs h = h
takes_anywhere c (of.let_form bs) fs h = h
takes_anywhere c (of.let_in_order bs) fs h = h
takes_anywhere c (of.setq ns) fs h = h
takes_anywhere c of.setf fs h = h
takes_anywhere c of.incf fs h = h
takes_anywhere c of.decf fs h = h
takes_anywhere c (of.place p) fs h = h
takes_anywhere c (of.dotimes n b) fs h = h
takes_anywhere c (of.with_slots bs) fs h = h
takes_anywhere c of.call_next_method fs h = absurd (cc h)
takes_anywhere c of.next_method_p fs h = absurd (cc h)
takes_anywhere c (of.call n) fs h = h
takes_anywhere c (of.call_method m ns) fs h = absurd (cc h)

mutual
  made_anywhere : (c : Standing) (f : Form) → is_made_well Plain f ≡ true → is_made_well c f ≡ true
  made_anywhere c (form o ps) h =
      both (takes c o (roles_of ps)) (are_made_well c ps) (takes_anywhere c o ps (first_so (takes Plain o (roles_of ps)) (are_made_well Plain ps) h))
      (all_made_anywhere c ps (second_so (takes Plain o (roles_of ps)) (are_made_well Plain ps) h))

  all_made_anywhere : (c : Standing) (fs : Forms) → are_made_well Plain fs ≡ true → are_made_well c fs ≡ true
  all_made_anywhere c nil h = refl
  all_made_anywhere c (cons f fs) h =
      both (is_made_well c f) (are_made_well c fs) (made_anywhere c f (first_so (is_made_well Plain f) (are_made_well Plain fs) h))
      (all_made_anywhere c fs (second_so (is_made_well Plain f) (are_made_well Plain fs) h))

pub stands_anywhere : (c : Standing) (f : Form) → is_well_formed Plain f ≡ true → is_well_formed c f ≡ true
stands_anywhere c f h =
    both (is_expression (role_of (operator_in f))) (is_made_well c f) (first_so (is_expression (role_of (operator_in f))) (is_made_well Plain f) h)
    (made_anywhere c f (second_so (is_expression (role_of (operator_in f))) (is_made_well Plain f) h))
