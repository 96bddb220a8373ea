-- Lists seen through a function.
use Rattle.std.proofs.Common.{◌≡◌, ◌<◌, ℕ, zero, suc, arith, drop, set, get_or, List, [], ◌∷◌, ◌++◌, map, take, reverse, length, refl, ap, ◌∙◌, sym, true, false, Some, None}
use Rattle.std.specs.Prelude.{is_some, if◌then◌else◌}
use Rattle.std.proofs.Math.Seq.{drop-cons}
use Rattle.std.proofs.lemmas.List.{take-map, reverse-reverse, length-reverse, length-map, map-append, reverse-append, append_assoc}
use Rattle.lisp_data.specs.Name.{Name, same_name}
use Rattle.lisp_data.specs.Value.{Val}
use Rattle.lisp_data.specs.ValueView.{value_of}
use Rattle.lisp_data.specs.declared.value.Value.{Value}
use Rattle.clos_meaning.specs.clos_world.World.{Denoted, held, local_named}
use Rattle.clos_meaning.specs.Assignment.{with_local}
use Rattle.clos_machine.specs.LocalsView.{denoted_of, local_of}
use Rattle.clos_machine.specs.declared.locals.Denotation.TheVariants.{Held}
use Rattle.clos_machine.specs.declared.locals.Local.{Local}

pub as_many : {A B : Type 0} (f : A → B) (xs : List A) → length xs ≡ length (reverse (map f xs))
as_many f xs = sym (length-reverse (map f xs) ∙ length-map xs f)

pub outermost_of_map : {A B : Type 0} (f : A → B) (n : ℕ) (xs : List A) → reverse (map f (take n xs)) ≡ reverse (take n (reverse (reverse (map f xs))))
outermost_of_map f n xs = ap reverse (sym (take-map f n xs) ∙ ap (take n) (sym (reverse-reverse (map f xs))))

pub last_mapped : {A B : Type 0} (f : A → B) (xs : List A) (x : A) (ys : List B) → map f (xs ++ x ∷ []) ++ ys ≡ map f xs ++ (f x ∷ ys)
last_mapped f [] x ys = refl
last_mapped f (z ∷ xs) x ys = ap (λ l. f z ∷ l) (last_mapped f xs x ys)

-- ---- the lexical names, the innermost first

-- past other names
pub named_past : (name : Name) (xs ys : List (Name × Denoted)) → local_named xs name ≡ None → local_named (xs ++ ys) name ≡ local_named ys name
named_past name [] ys h = refl
named_past name (x ∷ xs) ys h =
    elim (same_name x.0 name)
    as (λ b. (if b then Some x.1 else local_named xs name) ≡ None → (if b then Some x.1 else local_named (xs ++ ys) name) ≡ local_named ys name)
    [ true ↦ λ e. absurd (cc e) | false ↦ λ e. named_past name xs ys e ] h

set_past : (name : Name) (v : Val) (xs ys : List (Name × Denoted)) → local_named xs name ≡ None → with_local name v (xs ++ ys) ≡ xs ++ with_local name v ys
set_past name v [] ys h = refl
set_past name v (x ∷ xs) ys h =
    elim (same_name x.0 name)
    as (λ b. (if b then Some x.1 else local_named xs name) ≡ None → (if b then (x.0, held v) ∷ (xs ++ ys) else x ∷ with_local name v (xs ++ ys)) ≡ x ∷ (xs ++ with_local name v ys))
    [ true ↦ λ e. absurd (cc e) | false ↦ λ e. ap (λ l. x ∷ l) (set_past name v xs ys e) ] h

-- the names round one of them
pub turned_round : (before : List Local) (x : Local) (after : List Local) → reverse (map local_of (before ++ x ∷ after)) ≡ reverse (map local_of after) ++ local_of x ∷ reverse (map local_of before)
turned_round before x after =
    ap reverse (map-append local_of before (x ∷ after)) ∙ reverse-append (map local_of before) (local_of x ∷ map local_of after)
    ∙ ap (λ l. l ++ reverse (map local_of before)) (reverse-append (local_of x ∷ []) (map local_of after))
    ∙ append_assoc (reverse (map local_of after)) (local_of x ∷ []) (reverse (map local_of before))

other_name : (name : Name) (x : Local) (after : List Local) → same_name x.name name ≡ false → local_named (reverse (map local_of after)) name ≡ None
    → local_named (reverse (map local_of (x ∷ after))) name ≡ None
other_name name x after e h =
    ap (λ l. local_named l name) (turned_round [] x after) ∙ named_past name (reverse (map local_of after)) (local_of x ∷ []) h
    ∙ ap (λ b. if b then Some (denoted_of x.denotation) else None) e

this_name : (name : Name) (before : List Local) (x : Local) (after : List Local) → same_name x.name name ≡ true → local_named (reverse (map local_of after)) name ≡ None
    → is_some (local_named (reverse (map local_of (before ++ x ∷ after))) name) ≡ true
this_name name before x after e h =
    ap is_some (ap (λ l. local_named l name) (turned_round before x after) ∙ named_past name (reverse (map local_of after)) (local_of x ∷ reverse (map local_of before)) h
    ∙ ap (λ b. if b then Some (denoted_of x.denotation) else local_named (reverse (map local_of before)) name) e)

this_set : (name : Name) (before : List Local) (x : Local) (after : List Local) (value : Value) → same_name x.name name ≡ true → local_named (reverse (map local_of after)) name ≡ None
    → reverse (map local_of (before ++ (record x { denotation = Held value }) ∷ after)) ≡ with_local name (value_of value) (reverse (map local_of (before ++ x ∷ after)))
this_set name before x after value e h =
    turned_round before (record x { denotation = Held value }) after
    ∙ sym (ap (with_local name (value_of value)) (turned_round before x after)
    ∙ set_past name (value_of value) (reverse (map local_of after)) (local_of x ∷ reverse (map local_of before)) h
    ∙ ap (λ l. reverse (map local_of after) ++ l)
    (ap (λ b. if b then (x.name, held (value_of value)) ∷ reverse (map local_of before) else local_of x ∷ with_local name (value_of value) (reverse (map local_of before))) e))

set_split : {A : Type 0} (xs : List A) (i : ℕ) (y : A) → i < length xs → set xs i y ≡ take i xs ++ y ∷ drop (suc i) xs
set_split [] i y h = absurd (omega (arith, h))
set_split (x ∷ xs) zero y h = refl
set_split (x ∷ xs) (suc i) y h = ap (λ l. x ∷ l) (set_split xs i y (omega (arith, h)))

pub split_at : {A : Type 0} (xs : List A) (i : ℕ) (x : A) → i < length xs → get_or xs i x ≡ x → xs ≡ take i xs ++ x ∷ drop (suc i) xs
split_at [] i x h e = absurd (omega (arith, h))
split_at (y ∷ xs) zero x h e = ap (λ z. z ∷ xs) e
split_at (y ∷ xs) (suc i) x h e = ap (λ l. y ∷ l) (split_at xs i x (omega (arith, h)) e)

-- the one at a place, where none after it has the name
pub other_at : (name : Name) (xs : List Local) (i : ℕ) (x : Local) → i < length xs → get_or xs i x ≡ x → same_name x.name name ≡ false
    → local_named (reverse (map local_of (drop (suc i) xs))) name ≡ None → local_named (reverse (map local_of (drop i xs))) name ≡ None
other_at name xs i x h e n r =
    ap (λ l. local_named (reverse (map local_of l)) name) (drop-cons xs i x h ∙ ap (λ y. y ∷ drop (suc i) xs) e) ∙ other_name name x (drop (suc i) xs) n r

pub this_at : (name : Name) (xs : List Local) (i : ℕ) (x : Local) (value : Value) → i < length xs → get_or xs i x ≡ x → same_name x.name name ≡ true
    → local_named (reverse (map local_of (drop (suc i) xs))) name ≡ None
    → (is_some (local_named (reverse (map local_of xs)) name) ≡ true)
    × (reverse (map local_of (set xs i (record x { denotation = Held value }))) ≡ with_local name (value_of value) (reverse (map local_of xs)))
this_at name xs i x value h e n r = (
  ap (λ l. is_some (local_named (reverse (map local_of l)) name)) (split_at xs i x h e) ∙ this_name name (take i xs) x (drop (suc i) xs) n r,
  ap (λ l. reverse (map local_of l)) (set_split xs i (record x { denotation = Held value }) h)
      ∙ this_set name (take i xs) x (drop (suc i) xs) value n r
      ∙ ap (λ l. with_local name (value_of value) (reverse (map local_of l))) (sym (split_at xs i x h e)),
)

pub same_at : {A : Type 0} (xs : List A) (i : ℕ) (x y : A) → i < length xs → get_or xs i x ≡ x → get_or xs i y ≡ y → x ≡ y
same_at [] i x y h e d = absurd (omega (arith, h))
same_at (z ∷ xs) zero x y h e d = sym e ∙ d
same_at (z ∷ xs) (suc i) x y h e d = same_at xs i x y (omega (arith, h)) e d
