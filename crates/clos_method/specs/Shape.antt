-- The shapes of lambda lists: what arguments a generic function or a method takes, without variables (HyperSpec 3.4.2, 7.6.4).
use Rattle.std.specs.Prelude.{ℕ, ◌==◌, ◌+◌, nat_le, Bool, false, ◌&&◌, ◌||◌, List, [], Option, Some, None, is_some, length, map, option_map}
use Rattle.std.specs.List.{list_all, list_any}
use Rattle.lisp_data.specs.Name.{Name, same_kind, same_name}
use Rattle.clos_lambda.specs.declared.lambda_list.Keys.{Keys}
use Rattle.clos_lambda.specs.declared.lambda_list.LambdaList.{LambdaList}
use Rattle.clos_method.specs.declared.shape.Keywords.{Keywords}
use Rattle.clos_method.specs.declared.shape.Shape.{Shape}

-- whether it takes arguments after the required and the optional ones
abbrev pub takes_more : Shape → Bool
takes_more s = s.rest || is_some s.keys

-- the keywords that it names
abbrev pub names_of : Option Keywords → List Name
names_of None = []
names_of (Some k) = k.names

abbrev pub allows_others : Option Keywords → Bool
allows_others None = false
allows_others (Some k) = k.allow_other_keys

-- whether one that has &rest or not, and these keywords, accepts a keyword: by its name, by &allow-other-keys, or by &rest without &key
abbrev pub accepts_with : Bool → Option Keywords → Name → Bool
accepts_with rest None name = rest
accepts_with rest (Some k) name = k.allow_other_keys || list_any (same_name name) k.names

abbrev pub accepts : Shape → Name → Bool
accepts s name = accepts_with s.rest s.keys name

-- A method's lambda list is congruent with that of its generic function: equal numbers of required and of optional parameters,
-- both with &rest or &key or neither, and the method accepts each keyword of the function (7.6.4).
abbrev pub is_congruent : Shape → Shape → Bool
is_congruent generic method =
    (generic.required == method.required)
    && ((generic.optional == method.optional)
    && (same_kind (takes_more generic) (takes_more method) && list_all (accepts method) (names_of generic.keys)))

-- whether so many arguments fit
abbrev pub takes_count : Shape → ℕ → Bool
takes_count s n = nat_le s.required n && (takes_more s || nat_le n (s.required + s.optional))

-- ---- the shape of a lambda list: its keywords are the names of the arguments of its keyword parameters

abbrev pub keywords_in : Keys → Keywords
keywords_in k = record { names = map (λ e. e.keyword) k.entries; allow_other_keys = k.allow_other_keys }

abbrev pub shape_of : LambdaList → Shape
shape_of l = record {
  required = length l.required;
  optional = length l.optional;
  rest = is_some l.rest;
  keys = option_map keywords_in l.keys;
}

-- ---- the shape of the generic function that a method makes where there is none (7.6.4, 7.7 defmethod)

abbrev pub no_keywords : Keywords
no_keywords = record { names = []; allow_other_keys = false }

abbrev pub made_by : Shape → Shape
made_by s = record s { keys = option_map (λ k. no_keywords) s.keys }
