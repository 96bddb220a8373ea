-- The parts of a shape nest less deep than the datum, so that room never ends.
use Rattle.std.proofs.Common.{◌≡◌, ◌≤◌, ◌<◌, ℕ, zero, suc, Bool, true, false, List, [], ◌∷◌, ◌++◌, Option, Some, None, refl, ap, ◌∙◌, arith}
use Rattle.std.specs.Prelude.{⊤, nat_le, ◌==◌, ◌&&◌, ◌||◌, if◌then◌else◌, codes}
use Rattle.lisp_data.specs.Name.{Name}
use Rattle.lisp_data.specs.Datum.{Dat, integer, symbol, string, list, dotted, method, Dats, nil, cons, length_of, nesting_of, nesting_in}
use Rattle.clos_forms.specs.Binding.{Entry, Counter, each, each_in, names_of, bounds_of, inits_of, binding_in, entry, let_with, let_shape, let_in_order_shape, assignments_in, counter_in, counted, dotimes_with, dotimes_shape}
use Rattle.clos_forms.specs.Body.{body_of, body_parts, or_alone, is_declaration, is_string}
use Rattle.clos_forms.specs.Distinct.{are_distinct}
use Rattle.clos_forms.specs.Fault.{◌>>=◌}
use Rattle.clos_forms.specs.Form.{Form, form, Forms, cons as more, nil as none}
use Rattle.clos_forms.specs.FunctionName.{symbol_in, variable_in, unless_constant, function_named}
use Rattle.clos_forms.specs.Grammar.{each_part, tree_at}
use Rattle.clos_names.specs.Names.{is_called, is_one_of, definitions}
use Rattle.clos_forms.specs.NamedMethods.{NamedMethod, made_of, form_in, made_parts, headed_method, method_in, next_methods_in, calling, call_method_shape}
use Rattle.clos_forms.specs.Operator.{Operator, BoundSlot, function, if_form, clause, when, unless, prog1, incf, decf, call, let_form, let_in_order, setq, setf, with_slots, place, slot_value_place, call_place, variable_place, call_next_method, next_method_p}
use Rattle.clos_forms.specs.Part.{Part, Shape, shape, operation, in_role, in_roles, optional, only_in, at_most_one, in_effective, in_method}
use Rattle.clos_forms.specs.Place.{named_place, place_shape, setf_parts, change_shape}
use Rattle.clos_forms.specs.Quotation.{quotation}
use Rattle.clos_forms.specs.Room.{RoomSuffices}
use Rattle.clos_forms.specs.Shape.{atom, quoting, special_shape, named_shape, headed_shape, expression_shape, clause_shape, shape_of}
use Rattle.clos_forms.specs.Slots.{slot_in, slots_with, variables_of, with_slots_shape}
use Rattle.clos_names.specs.Special.{special_of, special_operators}
use Rattle.clos_forms.specs.declared.part.Context.{Context}
use Rattle.clos_forms.specs.declared.part.Role.{Role}
use Rattle.clos_forms.specs.declared.part.Role.TheVariants.{Expression, Clause, Place}
use Rattle.clos_names.specs.declared.special.Special.{Special}
use Rattle.clos_names.specs.declared.special.Special.TheVariants.{Quote, Function, If, Cond, When, Unless, And, Or, Progn, Prog1, Let, LetInOrder, Setq, Setf, Incf, Decf, Dotimes, WithSlots, CallNextMethod, NextMethodP}

-- each part nests less than so deep
abbrev Within : ℕ → List Part → Type 0
Within k [] = ⊤
Within k (p ∷ ps) = (nesting_of p.datum < k) × Within k ps

-- and so do those of a shape, where there is one
abbrev Deep : ℕ → Option Shape → Type 0
Deep k None = ⊤
Deep k (Some s) = Within k s.parts

-- ---- the same forms

each_same : (f g : Part → Option Form) (ps : List Part) (k : ℕ) → Within k ps → ((q : Part) → nesting_of q.datum < k → f q ≡ g q) → (o : Option Forms) → each_part f ps o ≡ each_part g ps o
each_same f g [] k w e o = refl
each_same f g (p ∷ ps) k w e o =
    ap (λ x. x >>= λ t. each_part f ps o >>= λ ts. Some (more t ts)) (e p w.0)
    ∙ ap (λ r. g p >>= λ t. r >>= λ ts. Some (more t ts)) (each_same f g ps k w.1 e o)

shape_same : (f g : Part → Option Form) (k : ℕ) (o : Option Shape) → Deep k o → ((q : Part) → nesting_of q.datum < k → f q ≡ g q) → (o >>= λ s. each_part f s.parts (Some none) >>= λ fs. Some (form s.operator fs)) ≡ (o >>= λ s. each_part g s.parts (Some none) >>= λ fs. Some (form s.operator fs))
shape_same f g k None w e = refl
shape_same f g k (Some s) w e = ap (λ r. r >>= λ fs. Some (form s.operator fs)) (each_same f g s.parts k w e (Some none))

-- ---- lists of parts

wider : (j k : ℕ) (ps : List Part) → j ≤ k → Within j ps → Within k ps
wider j k [] le w = tt
wider j k (p ∷ ps) le w = (omega (arith, w.0, le), wider j k ps le w.1)

deeper : (j k : ℕ) (o : Option Shape) → j ≤ k → Deep j o → Deep k o
deeper j k None le w = tt
deeper j k (Some s) le w = wider j k s.parts le w

both : (k : ℕ) (ps qs : List Part) → Within k ps → Within k qs → Within k (ps ++ qs)
both k [] qs w v = v
both k (p ∷ ps) qs w v = (w.0, both k ps qs w.1 v)

roles : (r : Role) (l : Dats) → Within (nesting_in l) (in_roles r l)
roles r nil = tt
roles r (cons d l) = (omega arith, wider (nesting_in l) (nesting_in (cons d l)) (in_roles r l) (omega arith) (roles r l))

alone_nests : (d : Dat) (m l : Dats) → nesting_in m ≤ nesting_in l → nesting_in (or_alone d m) ≤ nesting_in (cons d l)
alone_nests d nil l h = omega arith
alone_nests d (cons e m) l h = omega (arith, h)

body_step : (a b : Bool) (d : Dat) (m l : Dats) → nesting_in m ≤ nesting_in l → nesting_in (if a then m else if b then or_alone d m else cons d l) ≤ nesting_in (cons d l)
body_step true b d m l h = omega (arith, h)
body_step false true d m l h = alone_nests d m l h
body_step false false d m l h = omega arith

body_nests : (l : Dats) → nesting_in (body_of l) ≤ nesting_in l
body_nests nil = omega arith
body_nests (cons d l) = body_step (is_declaration d) (is_string d) d (body_of l) l (body_nests l)

body : (l : Dats) → Within (nesting_in l) (body_parts l)
body l = wider (nesting_in (body_of l)) (nesting_in l) (body_parts l) (body_nests l) (roles Expression (body_of l))

-- ---- shapes without parts, and shapes under a condition

bare : {A : Type 0} (k : ℕ) (o : Option A) (f : A → Operator) → Deep k (o >>= λ x. Some (atom (f x)))
bare k None f = tt
bare k (Some x) f = tt

when_so : (b : Bool) (k : ℕ) (s : Shape) → Within k s.parts → Deep k (if b then Some s else None)
when_so true k s w = w
when_so false k s w = tt

unless_so : (b : Bool) (k : ℕ) (s : Shape) → Within k s.parts → Deep k (if b then None else Some s)
unless_so true k s w = tt
unless_so false k s w = w

-- ---- bindings

-- the values of entries, where there are any
abbrev Inits : ℕ → Option (List Entry) → Type 0
Inits k None = ⊤
Inits k (Some es) = Within k (inits_of es)

abbrev Init : ℕ → Option Entry → Type 0
Init k None = ⊤
Init k (Some e) = Within k (optional e.init)

init_after : (o : Option Name) (l : Dats) → Init (nesting_in l) (o >>= λ n. at_most_one l >>= λ init. Some (entry n init))
init_after None l = tt
init_after (Some n) nil = tt
init_after (Some n) (cons d nil) = (omega arith, tt)
init_after (Some n) (cons d (cons e l)) = tt

no_init : (k : ℕ) (o : Option Name) → Init k (o >>= λ n. Some (entry n None))
no_init k None = tt
no_init k (Some n) = tt

init_wider : (j k : ℕ) (o : Option Entry) → j ≤ k → Init j o → Init k o
init_wider j k None le w = tt
init_wider j k (Some e) le w = wider j k (optional e.init) le w

binding : (d : Dat) → Init (nesting_of d) (binding_in d)
binding (integer n) = tt
binding (symbol name) = no_init 0 (unless_constant name)
binding (string s) = tt
binding (list nil) = tt
binding (list (cons v l)) =
    init_wider (nesting_in l) (nesting_in (cons v l)) (variable_in v >>= λ n. at_most_one l >>= λ init. Some (entry n init)) (omega arith)
    (init_after (variable_in v) l)
binding (dotted l d) = tt
binding (method n) = tt

inits_step : (k : ℕ) (o : Option Entry) (r : Option (List Entry)) → Init k o → Inits k r → Inits k (o >>= λ x. r >>= λ xs. Some (x ∷ xs))
inits_step k None r w v = tt
inits_step k (Some e) None w v = tt
inits_step k (Some e) (Some es) w v = both k (optional e.init) (inits_of es) w v

inits_wider : (j k : ℕ) (o : Option (List Entry)) → j ≤ k → Inits j o → Inits k o
inits_wider j k None le w = tt
inits_wider j k (Some es) le w = wider j k (inits_of es) le w

bindings : (l : Dats) → Inits (nesting_in l) (each binding_in l)
bindings nil = tt
bindings (cons d l) =
    inits_step (nesting_in (cons d l)) (binding_in d) (each binding_in l)
    (init_wider (nesting_of d) (nesting_in (cons d l)) (binding_in d) (omega arith) (binding d))
    (inits_wider (nesting_in l) (nesting_in (cons d l)) (each binding_in l) (omega arith) (bindings l))

empty_list : (b : Bool) → Inits 0 (if b then Some [] else None)
empty_list true = tt
empty_list false = tt

listed : (d : Dat) → Inits (nesting_of d) (each_in binding_in d)
listed (integer n) = tt
listed (symbol name) = empty_list (is_called (codes "NIL") name)
listed (string s) = tt
listed (list l) = bindings l
listed (dotted l d) = tt
listed (method n) = tt

let_case : (k : ℕ) (o : Option (List Entry)) (l : Dats) → Inits k o → nesting_in l ≤ k → Deep k (o >>= λ es. let_with es l)
let_case k None l w le = tt
let_case k (Some es) l w le =
    when_so (are_distinct (names_of es)) k (shape (let_form (bounds_of es)) (inits_of es ++ body_parts l))
    (both k (inits_of es) (body_parts l) w (wider (nesting_in l) k (body_parts l) le (body l)))

let_in_order_case : (k : ℕ) (o : Option (List Entry)) (l : Dats) → Inits k o → nesting_in l ≤ k → Deep k (o >>= λ es. Some (shape (let_in_order (bounds_of es)) (inits_of es ++ body_parts l)))
let_in_order_case k None l w le = tt
let_in_order_case k (Some es) l w le = both k (inits_of es) (body_parts l) w (wider (nesting_in l) k (body_parts l) le (body l))

let_deep : (l : Dats) → Deep (nesting_in l) (let_shape l)
let_deep nil = tt
let_deep (cons d l) =
    let_case (nesting_in (cons d l)) (each_in binding_in d) l (inits_wider (nesting_of d) (nesting_in (cons d l)) (each_in binding_in d) (omega arith) (listed d))
    (omega arith)

let_in_order_deep : (l : Dats) → Deep (nesting_in l) (let_in_order_shape l)
let_in_order_deep nil = tt
let_in_order_deep (cons d l) =
    let_in_order_case (nesting_in (cons d l)) (each_in binding_in d) l
    (inits_wider (nesting_of d) (nesting_in (cons d l)) (each_in binding_in d) (omega arith) (listed d)) (omega arith)

-- ---- setq and setf

assigned : (k : ℕ) (v : Option Name) (d : Dat) (r : Option (List Entry)) → nesting_of d < k → Inits k r → Inits k (v >>= λ n. r >>= λ es. Some (entry n (Some d) ∷ es))
assigned k None d r lt w = tt
assigned k (Some n) d None lt w = tt
assigned k (Some n) d (Some es) lt w = (lt, w)

assignments : (l : Dats) → Inits (nesting_in l) (assignments_in l)
assignments nil = tt
assignments (cons v nil) = tt
assignments (cons v (cons d l)) =
    assigned (nesting_in (cons v (cons d l))) (variable_in v) d (assignments_in l) (omega arith)
    (inits_wider (nesting_in l) (nesting_in (cons v (cons d l))) (assignments_in l) (omega arith) (assignments l))

setq_case : (k : ℕ) (o : Option (List Entry)) → Inits k o → Deep k (o >>= λ es. Some (shape (setq (names_of es)) (inits_of es)))
setq_case k None w = tt
setq_case k (Some es) w = w

abbrev Parts : ℕ → Option (List Part) → Type 0
Parts k None = ⊤
Parts k (Some ps) = Within k ps

parts_wider : (j k : ℕ) (o : Option (List Part)) → j ≤ k → Parts j o → Parts k o
parts_wider j k None le w = tt
parts_wider j k (Some ps) le w = wider j k ps le w

set_step : (k : ℕ) (p d : Dat) (r : Option (List Part)) → nesting_of p < k → nesting_of d < k → Parts k r → Parts k (r >>= λ ps. Some (in_role Place p ∷ (in_role Expression d ∷ ps)))
set_step k p d None h g w = tt
set_step k p d (Some ps) h g w = (h, (g, w))

set_parts : (l : Dats) → Parts (nesting_in l) (setf_parts l)
set_parts nil = tt
set_parts (cons p nil) = tt
set_parts (cons p (cons d l)) =
    set_step (nesting_in (cons p (cons d l))) p d (setf_parts l) (omega arith) (omega arith)
    (parts_wider (nesting_in l) (nesting_in (cons p (cons d l))) (setf_parts l) (omega arith) (set_parts l))

setf_case : (k : ℕ) (o : Option (List Part)) → Parts k o → Deep k (o >>= λ ps. Some (shape setf ps))
setf_case k None w = tt
setf_case k (Some ps) w = w

change_deep : (o : Operator) (l : Dats) → Deep (nesting_in l) (change_shape o l)
change_deep o nil = tt
change_deep o (cons p l) =
    when_so (nat_le (length_of l) 1) (nesting_in (cons p l)) (shape o (in_role Place p ∷ in_roles Expression l))
    (omega arith, wider (nesting_in l) (nesting_in (cons p l)) (in_roles Expression l) (omega arith) (roles Expression l))

-- ---- dotimes and with-slots

abbrev Count : ℕ → Option Counter → Type 0
Count k None = ⊤
Count k (Some c) = (nesting_of c.count < k) × Within k (optional c.result)

count_after : (o : Option Name) (l : Dats) → Count (nesting_in l) (o >>= λ n. counted n l)
count_after None l = tt
count_after (Some n) nil = tt
count_after (Some n) (cons d nil) = (omega arith, tt)
count_after (Some n) (cons d (cons e nil)) = (omega arith, (omega arith, tt))
count_after (Some n) (cons d (cons e (cons g l))) = tt

count_wider : (j k : ℕ) (o : Option Counter) → j ≤ k → Count j o → Count k o
count_wider j k None le w = tt
count_wider j k (Some c) le w = (omega (arith, w.0, le), wider j k (optional c.result) le w.1)

counter : (d : Dat) → Count (nesting_of d) (counter_in d)
counter (integer n) = tt
counter (symbol name) = tt
counter (string s) = tt
counter (list nil) = tt
counter (list (cons v l)) = count_wider (nesting_in l) (nesting_in (cons v l)) (variable_in v >>= λ n. counted n l) (omega arith) (count_after (variable_in v) l)
counter (dotted l d) = tt
counter (method n) = tt

dotimes_case : (k : ℕ) (o : Option Counter) (l : Dats) → Count k o → nesting_in l ≤ k → Deep k (o >>= λ c. Some (dotimes_with c l))
dotimes_case k None l w le = tt
dotimes_case k (Some c) l w le = (w.0, both k (optional c.result) (body_parts l) w.1 (wider (nesting_in l) k (body_parts l) le (body l)))

dotimes_deep : (l : Dats) → Deep (nesting_in l) (dotimes_shape l)
dotimes_deep nil = tt
dotimes_deep (cons d l) =
    dotimes_case (nesting_in (cons d l)) (counter_in d) l (count_wider (nesting_of d) (nesting_in (cons d l)) (counter_in d) (omega arith) (counter d)) (omega arith)

slots_case : (k : ℕ) (o : Option (List BoundSlot)) (d : Dat) (l : Dats) → nesting_of d < k → nesting_in l ≤ k → Deep k (o >>= λ ss. slots_with ss d l)
slots_case k None d l lt le = tt
slots_case k (Some ss) d l lt le =
    when_so (are_distinct (variables_of ss)) k (shape (with_slots ss) (in_role Expression d ∷ body_parts l))
    (lt, wider (nesting_in l) k (body_parts l) le (body l))

with_slots_deep : (l : Dats) → Deep (nesting_in l) (with_slots_shape l)
with_slots_deep nil = tt
with_slots_deep (cons e nil) = tt
with_slots_deep (cons e (cons d l)) = slots_case (nesting_in (cons e (cons d l))) (each_in slot_in e) d l (omega arith) (omega arith)

-- ---- call-method

-- the form of which a method is made, where there is one
abbrev MadeOf : ℕ → Option NamedMethod → Type 0
MadeOf k None = ⊤
MadeOf k (Some m) = Within k (optional (form_in m))

abbrev AllMadeOf : ℕ → Option (List NamedMethod) → Type 0
AllMadeOf k None = ⊤
AllMadeOf k (Some ms) = Within k (made_parts ms)

method_wider : (j k : ℕ) (o : Option NamedMethod) → j ≤ k → MadeOf j o → MadeOf k o
method_wider j k None le w = tt
method_wider j k (Some m) le w = wider j k (optional (form_in m)) le w

methods_wider : (j k : ℕ) (o : Option (List NamedMethod)) → j ≤ k → AllMadeOf j o → AllMadeOf k o
methods_wider j k None le w = tt
methods_wider j k (Some ms) le w = wider j k (made_parts ms) le w

after_make : (b : Bool) (l : Dats) → MadeOf (nesting_in l) (if b then only_in l >>= (λ d. Some (made_of d)) else None)
after_make false l = tt
after_make true nil = tt
after_make true (cons d nil) = (omega arith, tt)
after_make true (cons d (cons e l)) = tt

after_name : (o : Option Name) (l : Dats) → MadeOf (nesting_in l) (o >>= λ n. headed_method n l)
after_name None l = tt
after_name (Some n) l = after_make (is_called (codes "MAKE-METHOD") n) l

method_deep : (d : Dat) → MadeOf (nesting_of d) (method_in d)
method_deep (integer n) = tt
method_deep (symbol name) = tt
method_deep (string s) = tt
method_deep (list nil) = tt
method_deep (list (cons v l)) =
    method_wider (nesting_in l) (nesting_in (cons v l)) (symbol_in v >>= λ n. headed_method n l) (omega arith) (after_name (symbol_in v) l)
method_deep (dotted l d) = tt
method_deep (method n) = tt

methods_step : (k : ℕ) (o : Option NamedMethod) (r : Option (List NamedMethod)) → MadeOf k o → AllMadeOf k r → AllMadeOf k (o >>= λ x. r >>= λ xs. Some (x ∷ xs))
methods_step k None r w v = tt
methods_step k (Some m) None w v = tt
methods_step k (Some m) (Some ms) w v = both k (optional (form_in m)) (made_parts ms) w v

methods : (l : Dats) → AllMadeOf (nesting_in l) (each method_in l)
methods nil = tt
methods (cons d l) =
    methods_step (nesting_in (cons d l)) (method_in d) (each method_in l)
    (method_wider (nesting_of d) (nesting_in (cons d l)) (method_in d) (omega arith) (method_deep d))
    (methods_wider (nesting_in l) (nesting_in (cons d l)) (each method_in l) (omega arith) (methods l))

no_methods : (b : Bool) → AllMadeOf 0 (if b then Some [] else None)
no_methods true = tt
no_methods false = tt

listed_methods : (d : Dat) → AllMadeOf (nesting_of d) (each_in method_in d)
listed_methods (integer n) = tt
listed_methods (symbol name) = no_methods (is_called (codes "NIL") name)
listed_methods (string s) = tt
listed_methods (list l) = methods l
listed_methods (dotted l d) = tt
listed_methods (method n) = tt

next_methods : (l : Dats) → AllMadeOf (nesting_in l) (next_methods_in l)
next_methods nil = tt
next_methods (cons d nil) = methods_wider (nesting_of d) (nesting_in (cons d nil)) (each_in method_in d) (omega arith) (listed_methods d)
next_methods (cons d (cons e l)) = tt

method_case : (k : ℕ) (m : Option NamedMethod) (o : Option (List NamedMethod)) → MadeOf k m → AllMadeOf k o → Deep k (m >>= λ x. o >>= λ ms. Some (calling x ms))
method_case k None o w v = tt
method_case k (Some m) None w v = tt
method_case k (Some m) (Some ms) w v = both k (optional (form_in m)) (made_parts ms) w v

call_method_deep : (l : Dats) → Deep (nesting_in l) (call_method_shape l)
call_method_deep nil = tt
call_method_deep (cons d l) =
    method_case (nesting_in (cons d l)) (method_in d) (next_methods_in l)
    (method_wider (nesting_of d) (nesting_in (cons d l)) (method_in d) (omega arith) (method_deep d))
    (methods_wider (nesting_in l) (nesting_in (cons d l)) (next_methods_in l) (omega arith) (next_methods l))

call_deep : (a b : Bool) (name : Name) (l : Dats) → Deep (nesting_in l) (if a then None else if b then call_method_shape l else Some (operation (call name) l))
call_deep true b name l = tt
call_deep false true name l = call_method_deep l
call_deep false false name l = roles Expression l

-- ---- all shapes

special_deep : (context : Context) (s : Special) (l : Dats) → Deep (nesting_in l) (special_shape context s l)
special_deep context Quote l = bare (nesting_in l) (only_in l) (λ d. quoting (quotation d))
special_deep context Function l = bare (nesting_in l) (only_in l >>= function_named) function
special_deep context If l = when_so (nat_le 2 (length_of l) && nat_le (length_of l) 3) (nesting_in l) (operation if_form l) (roles Expression l)
special_deep context Cond l = roles Clause l
special_deep context When l = when_so (nat_le 1 (length_of l)) (nesting_in l) (operation when l) (roles Expression l)
special_deep context Unless l = when_so (nat_le 1 (length_of l)) (nesting_in l) (operation unless l) (roles Expression l)
special_deep context And l = roles Expression l
special_deep context Or l = roles Expression l
special_deep context Progn l = roles Expression l
special_deep context Prog1 l = when_so (nat_le 1 (length_of l)) (nesting_in l) (operation prog1 l) (roles Expression l)
special_deep context Let l = let_deep l
special_deep context LetInOrder l = let_in_order_deep l
special_deep context Setq l = setq_case (nesting_in l) (assignments_in l) (assignments l)
special_deep context Setf l = setf_case (nesting_in l) (setf_parts l) (set_parts l)
special_deep context Incf l = change_deep incf l
special_deep context Decf l = change_deep decf l
special_deep context Dotimes l = dotimes_deep l
special_deep context WithSlots l = with_slots_deep l
special_deep context CallNextMethod l = when_so (in_method context) (nesting_in l) (operation call_next_method l) (roles Expression l)
special_deep context NextMethodP l = when_so (in_method context && nat_le (length_of l) 0) (nesting_in l) (atom next_method_p) tt

named_deep : (o : Option Special) (context : Context) (name : Name) (l : Dats) → Deep (nesting_in l) (named_shape o context name l)
named_deep None context name l = call_deep (is_one_of definitions name) (in_effective context && is_called (codes "CALL-METHOD") name) name l
named_deep (Some s) context name l = special_deep context s l

headed_deep : (context : Context) (d : Dat) (l : Dats) → Deep (nesting_in l) (headed_shape context d l)
headed_deep context (integer n) l = tt
headed_deep context (symbol name) l = named_deep (special_of name) context name l
headed_deep context (string s) l = tt
headed_deep context (list m) l = tt
headed_deep context (dotted m d) l = tt
headed_deep context (method n) l = tt

expression_deep : (context : Context) (d : Dat) → Deep (nesting_of d) (expression_shape context d)
expression_deep context (integer n) = tt
expression_deep context (symbol name) = tt
expression_deep context (string s) = tt
expression_deep context (list nil) = tt
expression_deep context (list (cons d l)) = deeper (nesting_in l) (nesting_in (cons d l)) (headed_shape context d l) (omega arith) (headed_deep context d l)
expression_deep context (dotted l d) = tt
expression_deep context (method n) = tt

clause_deep : (d : Dat) → Deep (nesting_of d) (clause_shape d)
clause_deep (integer n) = tt
clause_deep (symbol name) = tt
clause_deep (string s) = tt
clause_deep (list l) = when_so (nat_le 1 (length_of l)) (nesting_in l) (operation clause l) (roles Expression l)
clause_deep (dotted l d) = tt
clause_deep (method n) = tt

called_place : (a b c : Bool) (name : Name) (l : Dats) → Deep (nesting_in l) (if a then (if b then Some (operation (place slot_value_place) l) else None) else if c then None else Some (operation (place (call_place name)) l))
called_place true b c name l = when_so b (nesting_in l) (operation (place slot_value_place) l) (roles Expression l)
called_place false b c name l = unless_so c (nesting_in l) (operation (place (call_place name)) l) (roles Expression l)

place_called : (o : Option Name) (l : Dats) → Deep (nesting_in l) (o >>= λ n. named_place n l)
place_called None l = tt
place_called (Some name) l =
    called_place (is_called (codes "SLOT-VALUE") name) (length_of l == 2) (is_one_of special_operators name || is_one_of definitions name) name l

place_deep : (d : Dat) → Deep (nesting_of d) (place_shape d)
place_deep (integer n) = tt
place_deep (symbol name) = bare 0 (unless_constant name) (λ n. place (variable_place n))
place_deep (string s) = tt
place_deep (list nil) = tt
place_deep (list (cons d l)) = deeper (nesting_in l) (nesting_in (cons d l)) (symbol_in d >>= λ n. named_place n l) (omega arith) (place_called (symbol_in d) l)
place_deep (dotted l d) = tt
place_deep (method n) = tt

shape_deep : (context : Context) (r : Role) (d : Dat) → Deep (nesting_of d) (shape_of context r d)
shape_deep context Expression d = expression_deep context d
shape_deep context Clause d = clause_deep d
shape_deep context Place d = place_deep d

-- ---- room

same_trees : (m n : ℕ) (context : Context) (p : Part) → nesting_of p.datum < m → nesting_of p.datum < n → tree_at m context p ≡ tree_at n context p
same_trees zero n context p h g = absurd (omega (arith, h))
same_trees (suc m) zero context p h g = absurd (omega (arith, g))
same_trees (suc m) (suc n) context p h g =
    shape_same (tree_at m context) (tree_at n context) (nesting_of p.datum) (shape_of context p.role p.datum) (shape_deep context p.role p.datum)
    (λ q lt. same_trees m n context q (omega (arith, lt, h)) (omega (arith, lt, g)))

pub room_suffices : RoomSuffices
room_suffices context p room lt = same_trees room (suc (nesting_of p.datum)) context p lt (omega arith)
