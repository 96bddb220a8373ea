-- The argument precedence order of each generic function that is read has each of its required parameters (HyperSpec 7.6.6.1.2,
-- 7.7 defgeneric).
use Rattle.std.proofs.Common.{◌≡◌, inl, inr, ℕ, zero, suc, ◌+◌, ◌<◌, Bool, true, false, not, ◌&&◌, ◌||◌, List, [], ◌∷◌, ◌++◌, length, map, Option, Some, None, get_or, refl, ap, sym, ◌∙◌, true≢false, arith}
use Rattle.std.specs.Prelude.{IfSome, codes, nat_lt, if◌then◌else◌, slice_get, unwrap_or}
use Rattle.std.specs.List.{list_any, position_or_len}
use Rattle.std.specs.Cmp.{first_so, second_so}
use Rattle.std.proofs.lemmas.Option.{none-some, slice_get-get_or, slice_get_within}
use Rattle.lisp_data.specs.Datum.{Dat, Dats, nil, cons}
use Rattle.lisp_data.specs.KeyLaws.{same_name-Decides}
use Rattle.lisp_data.specs.Name.{Name, same_name}
use Rattle.lisp_data.specs.Same.{both_so}
use Rattle.clos_forms.specs.Binding.{each}
use Rattle.clos_forms.specs.Distinct.{are_among, are_distinct}
use Rattle.clos_forms.specs.Fault.{◌>>=◌}
use Rattle.clos_world.specs.clos_lambda.LambdaList.{all_variables, entries_of, generic_lambda_list_in, has_inits, if_distinct, key_variables, keys_from, lambda_list_in, names_in, optional_variables, optionals_in, ordinary, parameter_in, rest_in, with_keys, with_optionals, with_rest}
use Rattle.clos_world.specs.clos_lambda.Lists.{list_in}
use Rattle.clos_world.specs.clos_lambda.Sections.{after, back, front, past}
use Rattle.clos_world.specs.clos_lambda.declared.lambda_list.Optional.{Optional}
use Rattle.clos_world.specs.clos_lambda.declared.lambda_list.LambdaList.{LambdaList}
use Rattle.clos_method.specs.Laws.{IsMember}
use Rattle.clos_syntax.specs.FunctionName.{new_function_in}
use Rattle.clos_syntax.specs.Generic.{fits, generic, generic_in, generic_options_in, generic_with, orders}
use Rattle.clos_syntax.specs.declared.generic.GenericDefinition.{GenericDefinition}
use Rattle.clos_syntax.proofs.WhereGiven.{keeps, passes}
use Rattle.clos_generic.proofs.Members.{each_place, one_item}
use Rattle.clos_generic.specs.Sound.{IsOrderly}
use Rattle.clos_definition.specs.Generic.{options_of, place_in, precedence_of}

same_self : (r : Name) → same_name r r ≡ true
same_self r = (same_name-Decides r r).1 refl

-- ---- a name is found at its place among distinct names

among : (p : Name → Bool) (ns : List Name) (i : ℕ) (r : Name) → slice_get ns i ≡ Some r → p r ≡ true → list_any p ns ≡ true
among p [] i r h k = absurd (none-some r h)
among p (n ∷ ns) zero r h k = ap (λ b. b || list_any p ns) (ap p (one_item n r h) ∙ k)
among p (n ∷ ns) (suc i) r h k = ap (λ b. p n || b) (among p ns i r h k) ∙ or_true (p n) where
  or_true : (b : Bool) → (b || true) ≡ true
  or_true true = refl
  or_true false = refl

not_here : (b : Bool) (n r : Name) (ns : List Name) (i : ℕ) → same_name r n ≡ b → slice_get ns i ≡ Some r
    → not (list_any (λ m. same_name m n) ns) ≡ true → b ≡ false
not_here true n r ns i t h k = absurd (true≢false (sym k ∙ ap not (among (λ m. same_name m n) ns i r h t)))
not_here false n r ns i t h k = refl

found_at : (ns : List Name) (i : ℕ) (r : Name) → slice_get ns i ≡ Some r → are_distinct ns ≡ true
    → position_or_len (same_name r) ns ≡ i
found_at [] i r h k = absurd (none-some r h)
found_at (n ∷ ns) zero r h k =
    let same : same_name r n ≡ true = (same_name-Decides r n).1
    (sym (one_item n r h)) in ap (λ b. if not b then 1 + position_or_len (same_name r) ns else 0) same
found_at (n ∷ ns) (suc i) r h k =
    let other : same_name r n ≡ false =
    not_here (same_name r n) n r ns i refl h (first_so (not (list_any (λ m. same_name m n) ns)) (are_distinct ns) k) in
    let rest = found_at ns i r h (second_so (not (list_any (λ m. same_name m n) ns)) (are_distinct ns) k) in
    let step : position_or_len (same_name r) (n ∷ ns) ≡ 1 + position_or_len (same_name r) ns =
    ap (λ b. if not b then 1 + position_or_len (same_name r) ns else 0) other in
    omega (arith, step, rest)

within_length : (k n : ℕ) → k < n → unwrap_or (if nat_lt k n then Some k else None) n ≡ k
within_length k n h = grind (arith, h)

placed : (ns : List Name) (i : ℕ) (r : Name) → slice_get ns i ≡ Some r → are_distinct ns ≡ true → place_in ns r ≡ i
placed ns i r h k =
    ap (λ j. unwrap_or (if nat_lt j (length ns) then Some j else None) (length ns)) (found_at ns i r h k)
    ∙ within_length i (length ns) (slice_get_within ns i r h)

-- ---- where each name is among others, each place is among theirs

among_at : (ns ms : List Name) (i : ℕ) (r : Name) → are_among ns ms ≡ true → slice_get ns i ≡ Some r
    → list_any (λ m. same_name m r) ms ≡ true
among_at [] ms i r h k = absurd (none-some r k)
among_at (n ∷ ns) ms zero r h k =
    ap (λ x. list_any (λ m. same_name m x) ms) (sym (one_item n r k))
    ∙ first_so (list_any (λ m. same_name m n) ms) (are_among ns ms) h
among_at (n ∷ ns) ms (suc i) r h k = among_at ns ms i r (second_so (list_any (λ m. same_name m n) ms) (are_among ns ms) h) k

place_here : (required : List Name) (m r : Name) (ms : List Name) (i : ℕ) (b : Bool) → same_name m r ≡ b
    → place_in required r ≡ i → (b || list_any (λ x. same_name x r) ms) ≡ true
    → (list_any (λ x. same_name x r) ms ≡ true → IsMember (map (place_in required) ms) i)
    → IsMember (map (place_in required) (m ∷ ms)) i
place_here required m r ms i true t h k rest = inl (ap (place_in required) ((same_name-Decides m r).0 t) ∙ h)
place_here required m r ms i false t h k rest = inr (rest k)

place_among : (required ms : List Name) (i : ℕ) (r : Name) → place_in required r ≡ i
    → list_any (λ m. same_name m r) ms ≡ true → IsMember (map (place_in required) ms) i
place_among required [] i r h k = absurd (true≢false (sym k))
place_among required (m ∷ ms) i r h k = place_here required m r ms i (same_name m r) refl h k (place_among required ms i r h)

no_name : Name
no_name = record { text = []; keyword = false }

has_each : (required names : List Name) → are_distinct required ≡ true → orders required names ≡ true → (p : ℕ)
    → p < length required → IsMember (map (place_in required) names) p
has_each required names h k p l =
    let there = slice_get-get_or required p no_name l in
    let each = second_so (are_distinct names && are_among names required) (are_among required names) (regrouped k) in
    place_among required names p (get_or required p no_name) (placed required p (get_or required p no_name) there h)
    (among_at required names p (get_or required p no_name) each there) where
      regrouped : orders required names ≡ true
          → ((are_distinct names && are_among names required) && are_among required names) ≡ true
      regrouped e = e

order_sound : (required : List Name) (o : Option (List Name)) → are_distinct required ≡ true → fits required o ≡ true
    → (p : ℕ) → p < length required → IsMember (precedence_of required o) p
order_sound required None h k p l = each_place (length required) p l
order_sound required (Some names) h k p l = has_each required names h k p l

-- ---- lambda lists have no variable twice

abbrev Distinct : LambdaList → Type 0
Distinct l = are_distinct l.required ≡ true

not_any_before : (p : Name → Bool) (xs ys : List Name) → not (list_any p (xs ++ ys)) ≡ true → not (list_any p xs) ≡ true
not_any_before p [] ys h = refl
not_any_before p (x ∷ xs) ys h = not_or (p x) h (not_any_before p xs ys) where
  not_or : (b : Bool) → not (b || list_any p (xs ++ ys)) ≡ true
      → (not (list_any p (xs ++ ys)) ≡ true → not (list_any p xs) ≡ true) → not (b || list_any p xs) ≡ true
  not_or true k rest = k
  not_or false k rest = rest k

distinct_before : (xs ys : List Name) → are_distinct (xs ++ ys) ≡ true → are_distinct xs ≡ true
distinct_before [] ys h = refl
distinct_before (x ∷ xs) ys h =
    both_so (not (list_any (λ m. same_name m x) xs)) (are_distinct xs)
    (not_any_before (λ m. same_name m x) xs ys (first_so (not (list_any (λ m. same_name m x) (xs ++ ys)))
    (are_distinct (xs ++ ys)) h))
    (distinct_before xs ys (second_so (not (list_any (λ m. same_name m x) (xs ++ ys))) (are_distinct (xs ++ ys)) h))

where_true : {A : Type 0} (P : A → Type 0) (b : Bool) (x : A) → (b ≡ true → P x) → IfSome (if b then Some x else None) P
where_true P true x h = h refl
where_true P false x h = tt

where_false : {A : Type 0} (P : A → Type 0) (b : Bool) (x : A) → P x → IfSome (if b then None else Some x) P
where_false P true x h = tt
where_false P false x h = h

distinct_list : (l : LambdaList) → IfSome (if_distinct l) Distinct
distinct_list l =
    where_true Distinct (are_distinct (all_variables l)) l
    (distinct_before l.required (optional_variables l.optional ++ (names_in l.rest ++ key_variables (entries_of l.keys))))

distinct_keys : (ns : List Name) (os : List Optional) (r : Option Name) (l : Dats) → IfSome (with_keys ns os r l) Distinct
distinct_keys ns os r l =
    passes Distinct (keys_from (after (codes "&KEY") l) l)
    (λ ks. if_distinct (record { required = ns; optional = os; rest = r; keys = ks }))
    (λ ks. distinct_list (record { required = ns; optional = os; rest = r; keys = ks }))

distinct_rest : (ns : List Name) (os : List Optional) (l : Dats) → IfSome (with_rest ns os l) Distinct
distinct_rest ns os l =
    passes Distinct (rest_in (after (codes "&REST") l)) (λ r. with_keys ns os r (past l (after (codes "&REST") l)))
    (λ r. distinct_keys ns os r (past l (after (codes "&REST") l)))

distinct_optionals : (ns : List Name) (l : Dats) → IfSome (with_optionals ns l) Distinct
distinct_optionals ns l =
    passes Distinct (optionals_in (after (codes "&OPTIONAL") l)) (λ os. with_rest ns os (past l (after (codes "&OPTIONAL") l)))
    (λ os. distinct_rest ns os (past l (after (codes "&OPTIONAL") l)))

distinct_ordinary : (l : Dats) → IfSome (ordinary l) Distinct
distinct_ordinary l = passes Distinct (each parameter_in (front l)) (λ required. with_optionals required (back l))
    (λ required. distinct_optionals required (back l))

distinct_generic : (d : Dat) → IfSome (generic_lambda_list_in d) Distinct
distinct_generic d =
    keeps Distinct Distinct (lambda_list_in d) (λ l. if has_inits l then None else Some l)
    (passes Distinct (list_in d) ordinary distinct_ordinary)
    (λ l h. where_false Distinct (has_inits l) l h)

-- ---- generic functions

abbrev HasOrder : GenericDefinition → Type 0
HasOrder d = IsOrderly (options_of d)

orderly_with : (name parameters : Dat) (options : Dats) → IfSome (generic_with name parameters options) HasOrder
orderly_with name parameters options =
    passes HasOrder (new_function_in name)
    (λ n. generic_lambda_list_in parameters >>= λ l. generic_options_in options >>= λ os.
    (if fits l.required os.precedence then Some (generic n l os) else None))
    (λ n. keeps Distinct HasOrder (generic_lambda_list_in parameters)
    (λ l. generic_options_in options >>= λ os. (if fits l.required os.precedence then Some (generic n l os) else None))
    (distinct_generic parameters)
    (λ l h. passes HasOrder (generic_options_in options)
    (λ os. (if fits l.required os.precedence then Some (generic n l os) else None))
    (λ os. where_true HasOrder (fits l.required os.precedence) (generic n l os) (λ k. order_sound l.required os.precedence h k))))

pub orderly : (l : Dats) → IfSome (generic_in l) (λ d. IsOrderly (options_of d))
orderly nil = tt
orderly (cons name nil) = tt
orderly (cons name (cons parameters options)) = orderly_with name parameters options
