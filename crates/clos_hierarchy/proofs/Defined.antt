-- Definitions put among others, and taken back.
use Rattle.std.proofs.Common.{◌≡◌, ℕ, zero, suc, Bool, true, false, List, [], ◌∷◌, ◌++◌, Option, Some, None, length, map, ◌<◌, ◌≤◌, ◌+◌, arith, refl, sym, ap, ◌∙◌}
use Rattle.std.specs.Prelude.{not, option_to_list, slice_get, slice_set, slice_index_or, position, nat_lt, IsSome}
use Rattle.std.specs.List.{list_any, position_or_len}
use Rattle.std.proofs.lemmas.Bool.{ltb-false}
use Rattle.std.proofs.lemmas.List.{map-set}
use Rattle.std.specs.declared.alloc.Global.{Global}
use Rattle.std.specs.declared.vec.Vec.{Vec}
use Rattle.std.proofs.lemmas.Option.{slice_get_read}
use Rattle.indexmap.specs.IndexSet.{insert_key}
use Rattle.indexmap.proofs.RemoveLemmas.{popped_last}
use Rattle.lisp_data.specs.Name.{Name, same_name}

abbrev pub items_of : List (Vec Name Global) → List (List Name)
items_of xs = map (λ v. v.items) xs

pub set_items : (xs : List (Vec Name Global)) (i : ℕ) (v : Vec Name Global) → items_of (slice_set xs i v) ≡ slice_set (items_of xs) i v.items
set_items xs i v = map-set (λ u. u.items) xs i v

pub got_items : (xs : List (Vec Name Global)) (i : ℕ) (v : Vec Name Global) → slice_get xs i ≡ Some v → slice_get (items_of xs) i ≡ Some v.items
got_items [] i v h = cc
got_items (x ∷ xs) zero v h = cc
got_items (x ∷ xs) (suc i) v h = got_items xs i v h

is_not : {a b c : Bool} → b ≡ a → b ≡ c → a ≡ c
is_not e h = sym e ∙ h

is_last_by : (ks : List Name) (k : Name) (a : Bool) → list_any (same_name k) ks ≡ a → not a ≡ true → insert_key same_name ks k ≡ ks ++ k ∷ []
is_last_by ks k true e h = cc
is_last_by ks k false e h = cc

is_there_by : (ks : List Name) (k : Name) (a : Bool) → list_any (same_name k) ks ≡ a → not a ≡ false → (list_any (same_name k) ks ≡ true) × (insert_key same_name ks k ≡ ks)
is_there_by ks k true e h = (e, cc)
is_there_by ks k false e h = cc

pub is_last : (ks : List Name) (k : Name) (b : Bool) → b ≡ not (list_any (same_name k) ks) → b ≡ true → insert_key same_name ks k ≡ ks ++ k ∷ []
is_last ks k b e h = is_last_by ks k (list_any (same_name k) ks) refl (is_not e h)

pub is_there : (ks : List Name) (k : Name) (b : Bool) → b ≡ not (list_any (same_name k) ks) → b ≡ false → (list_any (same_name k) ks ≡ true) × (insert_key same_name ks k ≡ ks)
is_there ks k b e h = is_there_by ks k (list_any (same_name k) ks) refl (is_not e h)

set_back : (xs : List (List Name)) (i : ℕ) (a b : List Name) → slice_get xs i ≡ Some b → slice_set (slice_set xs i a) i b ≡ xs
set_back [] i a b h = cc
set_back (x ∷ xs) zero a b h = cc
set_back (x ∷ xs) (suc i) a b h = ap (λ u. x ∷ u) (set_back xs i a b h)

pub restored : (xs : List (Vec Name Global)) (above : List (List Name)) (i : ℕ) (a : List Name) (v : Vec Name Global) → items_of xs ≡ slice_set above i a → slice_get above i ≡ Some v.items
    → items_of (slice_set xs i v) ≡ above
restored xs above i a v e h = set_items xs i v ∙ (ap (λ u. slice_set u i v.items) e ∙ set_back above i a v.items h)

pub popped : (xs ys : List Name) (x : Name) (r : Option Name) → xs ++ x ∷ [] ≡ ys ++ option_to_list r → IsSome r → ys ≡ xs
popped xs ys x r e s = (popped_last xs ys x r e s).1

pub read_items : (xs : List (Vec Name Global)) (i : ℕ) (v : Vec Name Global) → i < length xs → v ≡ slice_index_or xs i v → slice_get (items_of xs) i ≡ Some v.items
read_items xs i v h e = got_items xs i v (slice_get_read xs (length xs) i v refl h e)

some_place : (i j : ℕ) → Some i ≡ Some j → i ≡ j
some_place i j h = cc

at_most_by : (p : Name → Bool) (x : Name) (xs : List Name) (b : Bool) → p x ≡ b → position_or_len p xs ≤ length xs → position_or_len p (x ∷ xs) ≤ length (x ∷ xs)
at_most_by p x xs true e h = let i : position_or_len p (x ∷ xs) ≡ 0 = cc in omega (arith, i)
at_most_by p x xs false e h = let i : position_or_len p (x ∷ xs) ≡ 1 + position_or_len p xs = cc in omega (arith, i, h)

at_most : (p : Name → Bool) (xs : List Name) → position_or_len p xs ≤ length xs
at_most p [] = omega (arith)
at_most p (x ∷ xs) = at_most_by p x xs (p x) refl (at_most p xs)

place_by : (p : Name → Bool) (xs : List Name) (b : Bool) (o : Option ℕ) → nat_lt (position_or_len p xs) (length xs) ≡ b → o ≡ position p xs → (o ≡ None → position_or_len p xs ≡ length xs) × ((i : ℕ) → o ≡ Some i → i ≡ position_or_len p xs)
place_by p xs true o e h = ((λ k. cc), λ i k. some_place i (position_or_len p xs) cc)
place_by p xs false o e h =
    ((λ k. let g : length xs ≤ position_or_len p xs = ltb-false (position_or_len p xs) (length xs) e in let w : position_or_len p xs ≤ length xs = at_most p xs in omega (arith, g, w)), λ i k. cc)

-- a name that is found stands at its place, and another comes last
pub place_found : (p : Name → Bool) (xs : List Name) (i : ℕ) → position p xs ≡ Some i → i ≡ position_or_len p xs
place_found p xs i h = (place_by p xs (nat_lt (position_or_len p xs) (length xs)) (position p xs) refl refl).1 i h

pub place_past : (p : Name → Bool) (xs : List Name) → position p xs ≡ None → position_or_len p xs ≡ length xs
place_past p xs h = (place_by p xs (nat_lt (position_or_len p xs) (length xs)) (position p xs) refl refl).0 h
