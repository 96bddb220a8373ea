-- The parts of well-formed forms can be told so that they can't be malformed.
use Rattle.std.proofs.Common.{◌≡◌, ◌+◌, Bool, true, false, List, [], ◌∷◌, Option, Some, None, length, refl, ap, arith}
use Rattle.std.proofs.lemmas.Bool.{eqb-true, leb-true}
use Rattle.std.specs.Cmp.{first_so, second_so}
use Rattle.std.specs.Prelude.{nat_le, ◌&&◌}
use Rattle.lisp_data.specs.Name.{Name}
use Rattle.lisp_data.specs.Value.{list, nil as no_values}
use Rattle.clos_forms.specs.Form.{Form, form, Forms, nil, cons, operator_in, parts_in}
use Rattle.clos_forms.specs.Operator.{Bound, Callable, the_method, made, Operator, constant, no_value, variable, function, if_form, cond, clause, when, unless, and_form, or_form, progn, prog1, let_form, let_in_order, setq, setf, incf, decf, place, dotimes, with_slots, call_next_method, next_method_p, call, call_method}
use Rattle.clos_forms.specs.Part.{in_effective}
use Rattle.clos_forms.specs.WellFormed.{are_expressions, are_made_well, assignments, first_if, forms_of_made, inits_and_body, is_expression, is_made_well, is_place, made_among, place_and_amount, role_of, roles_of, takes, values}
use Rattle.clos_forms.specs.declared.part.Context.{Context as Standing}
use Rattle.clos_meaning.specs.Meaning.{alone, assigned, changed_by, collect, place_in}
use Rattle.clos_meaning.specs.Outcome.{then_do}
use Rattle.clos_meaning.specs.SlotNames.{name_stored}
use Rattle.clos_meaning.specs.Variables.{binding}
use Rattle.clos_meaning.specs.clos_world.World.{held}
use Rattle.clos_form_laws.specs.Shapes.{ChangeShape, DotimesShape, FormsAreShaped, HasItsForm, IsShaped, LetShape, SetfShape, SetqShape, Target, form_of, with_form}

-- ---- setq

setq_shape : (ns : List Name) (fs : Forms) → values ns (roles_of fs) ≡ true → SetqShape ns fs
setq_shape [] nil h = record { pairs = []; their_names = refl; their_forms = refl; means = λ ev env v w s. refl }
setq_shape [] (cons f fs) h = absurd (cc h)
setq_shape (n ∷ ns) nil h = absurd (cc h)
setq_shape (n ∷ ns) (cons f fs) h =
    let rest : SetqShape ns fs = setq_shape ns fs (second_so (is_expression (role_of (operator_in f))) (values ns (roles_of fs)) h) in record {
      pairs = (n, f) ∷ rest.pairs;
      their_names = ap (λ xs. n ∷ xs) rest.their_names;
      their_forms = ap (cons f) rest.their_forms;
      means = λ ev env v w s. (λ i. then_do (collect ev env (alone f) [] (name_stored ev env n) w s) (λ u x k. rest.means ev env u x k i));
    }

-- ---- places

record IsTarget (f : Form) : Type 0 where
  pub target : Target
  pub is : f ≡ form_of target

target_has : (o : Operator) (fs : Forms) → is_place (role_of o) ≡ true → IsTarget (form o fs)
target_has (constant v) fs h = absurd (cc h)
target_has no_value fs h = absurd (cc h)
target_has (variable n) fs h = absurd (cc h)
target_has (function c) fs h = absurd (cc h)
target_has if_form fs h = absurd (cc h)
target_has cond fs h = absurd (cc h)
target_has clause fs h = absurd (cc h)
target_has when fs h = absurd (cc h)
target_has unless fs h = absurd (cc h)
target_has and_form fs h = absurd (cc h)
target_has or_form fs h = absurd (cc h)
target_has progn fs h = absurd (cc h)
target_has prog1 fs h = absurd (cc h)
target_has (let_form bs) fs h = absurd (cc h)
target_has (let_in_order bs) fs h = absurd (cc h)
target_has (setq ns) fs h = absurd (cc h)
target_has setf fs h = absurd (cc h)
target_has incf fs h = absurd (cc h)
target_has decf fs h = absurd (cc h)
target_has (place p) fs h = record { target = record { place = p; parts = fs }; is = refl }
target_has (dotimes n b) fs h = absurd (cc h)
target_has (with_slots bs) fs h = absurd (cc h)
target_has call_next_method fs h = absurd (cc h)
target_has next_method_p fs h = absurd (cc h)
target_has (call n) fs h = absurd (cc h)
target_has (call_method m ns) fs h = absurd (cc h)

target_of : (f : Form) → is_place (role_of (operator_in f)) ≡ true → IsTarget f
target_of (form o fs) h = target_has o fs h

setf_shape : (fs : Forms) → assignments (roles_of fs) ≡ true → SetfShape fs
setf_shape nil h = record { pairs = []; parts = refl; means = λ ev env v w s. refl }
setf_shape (cons p nil) h = absurd (cc h)
setf_shape (cons p (cons f fs)) h =
    let it : IsTarget p =
    target_of p (first_so (is_place (role_of (operator_in p))) (is_expression (role_of (operator_in f)) && assignments (roles_of fs)) h) in
    let rest : SetfShape fs =
    setf_shape fs (second_so (is_expression (role_of (operator_in f))) (assignments (roles_of fs))
    (second_so (is_place (role_of (operator_in p))) (is_expression (role_of (operator_in f)) && assignments (roles_of fs)) h)) in record {
      pairs = (it.target, f) ∷ rest.pairs;
      parts = λ i. cons (it.is i) (cons f (rest.parts i));
      means = λ ev env v w s. (λ i. then_do (assigned ev env (place_in (operator_in (it.is i))) (parts_in (it.is i)) f w s) (λ u x k. rest.means ev env u x k i));
    }

record IsOptional (fs : Forms) : Type 0 where
  pub amount : Option Form
  pub is : fs ≡ with_form amount nil

optional_has : (fs : Forms) → nat_le (length (roles_of fs)) 1 ≡ true → IsOptional fs
optional_has nil h = record { amount = None; is = refl }
optional_has (cons f nil) h = record { amount = Some f; is = refl }
optional_has (cons f (cons g fs)) h = absurd (omega (arith, leb-true (length (roles_of (cons f (cons g fs)))) 1 h))

change_shape : (fs : Forms) → place_and_amount (roles_of fs) ≡ true → ChangeShape fs
change_shape nil h = absurd (cc h)
change_shape (cons p fs) h =
    let is_target : is_place (role_of (operator_in p)) ≡ true =
    first_so (is_place (role_of (operator_in p))) (are_expressions (roles_of fs) && nat_le (length (roles_of fs)) 1) h in
    let it : IsTarget p = target_of p is_target in
    let rest : IsOptional fs =
    optional_has fs (second_so (are_expressions (roles_of fs)) (nat_le (length (roles_of fs)) 1)
    (second_so (is_place (role_of (operator_in p))) (are_expressions (roles_of fs) && nat_le (length (roles_of fs)) 1) h)) in record {
      target = it.target;
      amount = rest.amount;
      parts = λ i. cons (it.is i) (rest.is i);
      means = λ ev env q w s. (λ i. changed_by ev env q (place_in (operator_in (it.is i))) (parts_in (it.is i)) (rest.is i) w s);
    }

-- ---- let and let*

one_bound : (name : Name) (has : Bool) (bs : List Bound) → ((fs : Forms) → inits_and_body bs (roles_of fs) ≡ true → LetShape bs fs) → (fs : Forms)
    → first_if has (inits_and_body bs) (roles_of fs) ≡ true → LetShape (record { name = name; has_init = has } ∷ bs) fs
one_bound name false bs others fs h =
    let rest : LetShape bs fs = others fs h in record {
      bindings = (name, None) ∷ rest.bindings;
      body = rest.body;
      names = ap (λ xs. record { name = name; has_init = false } ∷ xs) rest.names;
      parts = rest.parts;
      in_order = λ ev env n w s. (λ i. binding name (list no_values) (λ x k. rest.in_order ev env n x k i) w s);
      aside = λ ev env n ls w s. rest.aside ev env n ((name, held (list no_values)) ∷ ls) w s;
    }
one_bound name true bs others nil h = absurd (cc h)
one_bound name true bs others (cons f fs) h =
    let rest : LetShape bs fs = others fs (second_so (is_expression (role_of (operator_in f))) (inits_and_body bs (roles_of fs)) h) in record {
      bindings = (name, Some f) ∷ rest.bindings;
      body = rest.body;
      names = ap (λ xs. record { name = name; has_init = true } ∷ xs) rest.names;
      parts = ap (cons f) rest.parts;
      in_order = λ ev env n w s. (λ i. then_do (ev env f w s) (λ v. binding name v (λ x k. rest.in_order ev env n x k i)));
      aside = λ ev env n ls w s. (λ i. then_do (ev env f w s) (λ v x k. rest.aside ev env n ((name, held v) ∷ ls) x k i));
    }

let_shape : (bs : List Bound) (fs : Forms) → inits_and_body bs (roles_of fs) ≡ true → LetShape bs fs
let_shape [] fs h =
    record { bindings = []; body = fs; names = refl; parts = refl; in_order = λ ev env n w s. refl; aside = λ ev env n ls w s. refl }
let_shape (b ∷ bs) fs h = one_bound b.name b.has_init bs (let_shape bs) fs h

-- ---- dotimes

dotimes_shape : (has_result : Bool) (fs : Forms) → first_if true (first_if has_result are_expressions) (roles_of fs) ≡ true → DotimesShape has_result fs
dotimes_shape has_result nil h = absurd (cc h)
dotimes_shape false (cons f fs) h =
    record { count = f; result = None; body = fs; has = refl; parts = refl; turns = refl; gives = λ ev env w s. refl; means = λ ev env n name w s. refl }
dotimes_shape true (cons f nil) h = absurd (cc (second_so (is_expression (role_of (operator_in f))) false h))
dotimes_shape true (cons f (cons g fs)) h =
    record { count = f; result = Some g; body = fs; has = refl; parts = refl; turns = refl; gives = λ ev env w s. refl; means = λ ev env n name w s. refl }

-- ---- call-method

made_has : (m : Callable) (next : List Callable) (fs : Forms) → forms_of_made (m ∷ next) (roles_of fs) ≡ true → HasItsForm m fs
made_has (the_method m) next fs h = tt
made_has made next nil h = absurd (omega (arith, eqb-true 0 (made_among next + 1) h))
made_has made next (cons f fs) h = tt

-- ---- forms

shaped : (standing : Standing) (o : Operator) (fs : Forms) → is_expression (role_of o) ≡ true → takes standing o (roles_of fs) ≡ true → IsShaped o fs
shaped standing (constant v) fs e h = tt
shaped standing no_value fs e h = tt
shaped standing (variable n) fs e h = tt
shaped standing (function c) fs e h = tt
shaped standing if_form fs e h = tt
shaped standing cond fs e h = tt
shaped standing clause fs e h = absurd (cc e)
shaped standing when fs e h = tt
shaped standing unless fs e h = tt
shaped standing and_form fs e h = tt
shaped standing or_form fs e h = tt
shaped standing progn fs e h = tt
shaped standing prog1 fs e h = tt
shaped standing (let_form bs) fs e h = let_shape bs fs h
shaped standing (let_in_order bs) fs e h = let_shape bs fs h
shaped standing (setq ns) fs e h = setq_shape ns fs h
shaped standing setf fs e h = setf_shape fs h
shaped standing incf fs e h = change_shape fs h
shaped standing decf fs e h = change_shape fs h
shaped standing (place p) fs e h = absurd (cc e)
shaped standing (dotimes n has_result) fs e h = dotimes_shape has_result fs h
shaped standing (with_slots bs) fs e h = tt
shaped standing call_next_method fs e h = tt
shaped standing next_method_p fs e h = tt
shaped standing (call n) fs e h = tt
shaped standing (call_method m ns) fs e h = made_has m ns fs (second_so (in_effective standing) (forms_of_made (m ∷ ns) (roles_of fs)) h)

pub forms_are_shaped : FormsAreShaped
forms_are_shaped standing (form o fs) h =
    let made_well : is_made_well standing (form o fs) ≡ true = second_so (is_expression (role_of o)) (is_made_well standing (form o fs)) h in
    shaped standing o fs (first_so (is_expression (role_of o)) (is_made_well standing (form o fs)) h) (first_so (takes standing o (roles_of fs)) (are_made_well standing fs) made_well)
