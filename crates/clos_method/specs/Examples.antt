-- A few lambda lists and calls.
use Rattle.std.specs.Prelude.{◌≡◌, ℕ, Bool, true, false, List, [], ◌∷◌, Some, None, codes, pos, ◌&&◌, if◌then◌else◌, refl}
use Rattle.std.proofs.Common.{ap}
use Rattle.lisp_data.specs.Name.{Name}
use Rattle.lisp_data.specs.Print.{Specializer, on_class, on_eql}
use Rattle.lisp_data.specs.Same.{same-Decides}
use Rattle.lisp_data.specs.Value.{integer}
use Rattle.lisp_data.specs.inner.ValueCode.{value_code}
use Rattle.clos_method.specs.Arguments.{Argument}
use Rattle.clos_method.specs.Keywords.{accepts_keyword, checks_keywords}
use Rattle.clos_method.specs.Order.{ordered, placed}
use Rattle.clos_method.specs.Shape.{is_congruent, made_by, takes_count}
use Rattle.clos_method.specs.System.{system_shape}
use Rattle.clos_method.specs.declared.method.Method.{Method}
use Rattle.clos_method.specs.declared.method.MethodBody.TheVariants.{Reader}
use Rattle.clos_method.specs.declared.origin.Origin.TheVariants.{Defmethod}
use Rattle.clos_method.specs.declared.shape.Shape.{Shape}
use Rattle.clos_method.specs.declared.system.SystemFunction.TheVariants.{SlotMissing}

abbrev key : List ℕ → Name
key text = record { text = text; keyword = true }

-- (x)
abbrev plain : Shape
plain = record { required = 1; optional = 0; rest = false; keys = None }

-- (x &rest r)
abbrev resting : Shape
resting = record { required = 1; optional = 0; rest = true; keys = None }

-- (x &key a), and with &allow-other-keys or without
abbrev keyed : List ℕ → Bool → Shape
keyed text others = record { required = 1; optional = 0; rest = false; keys = Some (record { names = key text ∷ []; allow_other_keys = others }) }

rest_accepts_keywords : is_congruent (keyed (codes "A") false) resting ≡ true
rest_accepts_keywords = refl

other_keyword : is_congruent (keyed (codes "A") false) (keyed (codes "B") false) ≡ false
other_keyword = refl

other_keywords_allowed : is_congruent (keyed (codes "A") false) (keyed (codes "B") true) ≡ true
other_keywords_allowed = refl

no_keywords : is_congruent (keyed (codes "A") false) plain ≡ false
no_keywords = refl

keywords_for_rest : is_congruent resting (keyed (codes "A") false) ≡ true
keywords_for_rest = refl

made_without_names : is_congruent (made_by (keyed (codes "A") false)) (keyed (codes "B") false) ≡ true
made_without_names = refl

slot_missing_with_value : takes_count (system_shape SlotMissing) 5 ≡ true
slot_missing_with_value = refl

slot_missing_with_more : takes_count (system_shape SlotMissing) 6 ≡ false
slot_missing_with_more = refl

-- a method of these specializers
abbrev on : List Specializer → Shape → Method
on ss shape = record { generic = record { 0 = 0 }; qualifiers = []; specializers = ss; shape = shape; origin = Defmethod; body = Reader (key (codes "A")) }

-- an argument 3 of the class 5, below 4, below 0
abbrev three : Argument
three = record { list = 5 ∷ 4 ∷ 0 ∷ []; value = integer (pos 3) }

-- on 0, on 4, on (eql 3), on 5, on 9, and on 4 again
abbrev methods : List Method
methods =
    on (on_class 0 ∷ []) plain ∷ on (on_class 4 ∷ []) plain ∷ on (on_eql (integer (pos 3)) ∷ []) plain ∷ on (on_class 5 ∷ []) plain ∷ on (on_class 9 ∷ []) plain
    ∷ on (on_class 4 ∷ []) plain ∷ []

abbrev put : ℕ → List ℕ → List ℕ
put = placed methods (0 ∷ []) (three ∷ [])

most_specific_first : ordered methods (0 ∷ []) (three ∷ []) (0 ∷ 1 ∷ 2 ∷ 3 ∷ 4 ∷ 5 ∷ []) ≡ 2 ∷ 3 ∷ 1 ∷ 5 ∷ 0 ∷ []
most_specific_first =
    ap (λ b. put 0 (put 1 (if b && true then put 2 (3 ∷ 5 ∷ []) else (3 ∷ 5 ∷ [])))) ((same-Decides value_code (integer (pos 3)) (integer (pos 3))).1 refl)

-- on (0, 4) and on (4, 0)
abbrev pairs : List Method
pairs = on (on_class 0 ∷ on_class 4 ∷ []) plain ∷ on (on_class 4 ∷ on_class 0 ∷ []) plain ∷ []

first_place_first : ordered pairs (0 ∷ 1 ∷ []) (three ∷ three ∷ []) (0 ∷ 1 ∷ []) ≡ 1 ∷ 0 ∷ []
first_place_first = refl

second_place_first : ordered pairs (1 ∷ 0 ∷ []) (three ∷ three ∷ []) (0 ∷ 1 ∷ []) ≡ 0 ∷ 1 ∷ []
second_place_first = refl

-- the keyword A of an applicable method, and B, which is of another
abbrev with_keys : List Method
with_keys = on [] (keyed (codes "A") false) ∷ on [] (keyed (codes "B") false) ∷ on [] resting ∷ []

checked : checks_keywords resting with_keys (0 ∷ 2 ∷ []) ≡ true
checked = refl

named : accepts_keyword resting with_keys (0 ∷ 2 ∷ []) (key (codes "A")) ≡ true
named = refl

of_no_applicable_method : accepts_keyword resting with_keys (0 ∷ 2 ∷ []) (key (codes "B")) ≡ false
of_no_applicable_method = refl

always_accepted : accepts_keyword resting with_keys (0 ∷ 2 ∷ []) (key (codes "ALLOW-OTHER-KEYS")) ≡ true
always_accepted = refl
