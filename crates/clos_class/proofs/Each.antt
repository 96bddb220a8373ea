-- The first of each name.
use Rattle.std.proofs.Common.{◌≡◌, Bool, true, false, ◌&&◌, ◌||◌, List, [], ◌∷◌, ◌++◌, Option, Some, None, refl, ap, sym, ◌∙◌}
use Rattle.std.specs.Prelude.{not, cond}
use Rattle.std.specs.List.{filter, filter_map, list_any, cons_option}
use Rattle.std.proofs.lemmas.List.Folds.{list_any-append}
use Rattle.lisp_data.specs.Name.{Name, same_name}
use Rattle.lisp_data.specs.KeyLaws.{same_name-Decides}
use Rattle.clos_class.specs.Slots.{first_of_each, distinct}
use Rattle.clos_class.specs.inner.Building.{new_of}

-- ---- names

pub same_itself : (n : Name) → same_name n n ≡ true
same_itself n = (same_name-Decides n n).1 refl

pub is_same : (n m : Name) → same_name n m ≡ true → n ≡ m
is_same n m h = (same_name-Decides n m).0 h

turned_by : (n m : Name) (a b : Bool) → same_name n m ≡ a → same_name m n ≡ b → a ≡ b
turned_by n m true true e h = refl
turned_by n m false false e h = refl
turned_by n m true false e h = sym (sym h ∙ ap (λ k. same_name m k) (is_same n m e) ∙ same_itself m)
turned_by n m false true e h = sym e ∙ ap (λ k. same_name n k) (is_same m n h) ∙ same_itself n

pub turned : (n m : Name) → same_name n m ≡ same_name m n
turned n m = turned_by n m (same_name n m) (same_name m n) refl refl

-- ---- filters

module _ {X : Type 0} where
  pub filter_twice : (p q : X → Bool) (xs : List X) → filter p (filter q xs) ≡ filter (λ x. q x && p x) xs
  filter_twice p q [] = refl
  filter_twice p q (x ∷ xs) =
      elim (q x)
      as (λ b. filter p (cond b (x ∷ filter q xs) (filter q xs)) ≡ cond (b && p x) (x ∷ filter (λ y. q y && p y) xs) (filter (λ y. q y && p y) xs))
      [ true ↦ ap (λ l. cond (p x) (x ∷ l) l) (filter_twice p q xs) | false ↦ filter_twice p q xs ]

  pub filter_alike : (p q : X → Bool) → ((x : X) → p x ≡ q x) → (xs : List X) → filter p xs ≡ filter q xs
  filter_alike p q e [] = refl
  filter_alike p q e (x ∷ xs) = ap (λ b. cond b (x ∷ filter p xs) (filter p xs)) (e x) ∙ ap (λ l. cond (q x) (x ∷ l) l) (filter_alike p q e xs)

  pub none_after : (xs : List X) → xs ≡ xs ++ []
  none_after [] = refl
  none_after (x ∷ xs) = ap (λ l. x ∷ l) (none_after xs)

  pub filter_all : (xs : List X) → filter (λ x. true) xs ≡ xs
  filter_all [] = refl
  filter_all (x ∷ xs) = ap (λ l. x ∷ l) (filter_all xs)

-- ---- one more of some of which these names are known

none_or : (a b : Bool) → (not a && not b) ≡ not (b || (a || false))
none_or true true = refl
none_or true false = refl
none_or false true = refl
none_or false false = refl

known_by : (n m : Name) (ks : List Name) (a : Bool) → same_name n m ≡ a → list_any (same_name n) ks ≡ true → (not a && not (list_any (same_name m) ks)) ≡ not (list_any (same_name m) ks)
known_by n m ks true e h = ap not (sym (ap (λ k. list_any (same_name k) ks) (sym (is_same n m e)) ∙ h))
known_by n m ks false e h = refl

module _ {X : Type 0} (name : X → Name) where
  -- one whose name is known is passed over
  pub known : (x : X) (xs : List X) (ks : List Name) → list_any (same_name (name x)) ks ≡ true → new_of name ks (first_of_each name (x ∷ xs)) ≡ new_of name ks (first_of_each name xs)
  known x xs ks h =
      ap (λ b. cond (not b) (x ∷ new_of name ks (filter (λ y. not (same_name (name x) (name y))) (first_of_each name xs))) (new_of name ks (filter (λ y. not (same_name (name x) (name y))) (first_of_each name xs)))) h
      ∙ filter_twice (λ y. not (list_any (same_name (name y)) ks)) (λ y. not (same_name (name x) (name y))) (first_of_each name xs)
      ∙ filter_alike (λ y. not (same_name (name x) (name y)) && not (list_any (same_name (name y)) ks)) (λ y. not (list_any (same_name (name y)) ks))
      (λ y. known_by (name x) (name y) ks (same_name (name x) (name y)) refl h)
      (first_of_each name xs)

  -- another comes next
  pub unknown : (x : X) (xs : List X) (ks : List Name) → list_any (same_name (name x)) ks ≡ false
      → new_of name ks (first_of_each name (x ∷ xs)) ≡ x ∷ new_of name (ks ++ name x ∷ []) (first_of_each name xs)
  unknown x xs ks h =
      ap (λ b. cond (not b) (x ∷ new_of name ks (filter (λ y. not (same_name (name x) (name y))) (first_of_each name xs))) (new_of name ks (filter (λ y. not (same_name (name x) (name y))) (first_of_each name xs)))) h
      ∙ ap (λ l. x ∷ l)
      (filter_twice (λ y. not (list_any (same_name (name y)) ks)) (λ y. not (same_name (name x) (name y))) (first_of_each name xs)
      ∙ filter_alike (λ y. not (same_name (name x) (name y)) && not (list_any (same_name (name y)) ks)) (λ y. not (list_any (same_name (name y)) (ks ++ name x ∷ [])))
      (λ y. none_or (same_name (name x) (name y)) (list_any (same_name (name y)) ks)
      ∙ ap (λ b. not (list_any (same_name (name y)) ks || (b || false))) (turned (name x) (name y))
      ∙ ap not (sym (list_any-append (same_name (name y)) ks (name x ∷ []))))
      (first_of_each name xs))

-- ---- what there is to some names

none_by : {X : Type 0} (h : Name → Option X) (n m : Name) (ms ns : List Name) → h n ≡ None → filter_map h ns ≡ filter_map h ms → (b : Bool) → same_name n m ≡ b
    → filter_map h (cond (not b) (m ∷ ns) ns) ≡ cons_option (h m) (filter_map h ms)
none_by h n m ms ns e f true s = f ∙ ap (λ o. cons_option o (filter_map h ms)) (sym (ap h (sym (is_same n m s)) ∙ e))
none_by h n m ms ns e f false s = ap (cons_option (h m)) f

keeps_none : {X : Type 0} (h : Name → Option X) (n : Name) → h n ≡ None → (ms : List Name) → filter_map h (filter (λ m. not (same_name n m)) ms) ≡ filter_map h ms
keeps_none h n e [] = refl
keeps_none h n e (m ∷ ms) = none_by h n m ms (filter (λ k. not (same_name n k)) ms) e (keeps_none h n e ms) (same_name n m) refl

module _ {X : Type 0} (name : X → Name) where
  -- one more is added unless its name is known
  pub added : (acc : List X) (ks : List Name) (x : X) (xs : List X) (b : Bool) → list_any (same_name (name x)) ks ≡ b
      → cond b acc (acc ++ x ∷ []) ++ new_of name (cond b ks (ks ++ name x ∷ [])) (first_of_each name xs) ≡ acc ++ new_of name ks (first_of_each name (x ∷ xs))
  added acc ks x xs true h = ap (λ l. acc ++ l) (sym (known name x xs ks h))
  added acc ks x xs false h = one_by_one acc x (new_of name (ks ++ name x ∷ []) (first_of_each name xs)) ∙ ap (λ l. acc ++ l) (sym (unknown name x xs ks h))
    where
      one_by_one : (cs : List X) (a : X) (bs : List X) → (cs ++ a ∷ []) ++ bs ≡ cs ++ a ∷ bs
      one_by_one [] a bs = refl
      one_by_one (c ∷ cs) a bs = ap (λ l. c ∷ l) (one_by_one cs a bs)

  module _ (h : Name → Option X) where
    dropped_by : (n m : Name) (o : Option X) (xs ys : List X) → ((x : X) → o ≡ Some x → name x ≡ m) → filter (λ y. not (same_name n (name y))) xs ≡ ys
        → (b : Bool) → same_name n m ≡ b → filter (λ y. not (same_name n (name y))) (cons_option o xs) ≡ cond b ys (cons_option o ys)
    dropped_by n m None xs ys g e true s = e
    dropped_by n m None xs ys g e false s = e
    dropped_by n m (Some x) xs ys g e true s =
        ap (λ b. cond (not b) (x ∷ filter (λ y. not (same_name n (name y))) xs) (filter (λ y. not (same_name n (name y))) xs)) (ap (same_name n) (g x refl) ∙ s) ∙ e
    dropped_by n m (Some x) xs ys g e false s =
        ap (λ b. cond (not b) (x ∷ filter (λ y. not (same_name n (name y))) xs) (filter (λ y. not (same_name n (name y))) xs)) (ap (same_name n) (g x refl) ∙ s)
        ∙ ap (λ l. x ∷ l) e

    chosen_by : (n m : Name) (ms : List Name) (b : Bool) → same_name n m ≡ b
        → cond b (filter_map h ms) (cons_option (h m) (filter_map h ms)) ≡ filter_map h (cond (not b) (m ∷ ms) ms)
    chosen_by n m ms true s = refl
    chosen_by n m ms false s = refl

    module _ (named : (m : Name) (x : X) → h m ≡ Some x → name x ≡ m) where
      dropped : (n : Name) (ms : List Name) → filter (λ y. not (same_name n (name y))) (filter_map h ms) ≡ filter_map h (filter (λ m. not (same_name n m)) ms)
      dropped n [] = refl
      dropped n (m ∷ ms) =
          dropped_by n m (h m) (filter_map h ms) (filter_map h (filter (λ k. not (same_name n k)) ms)) (named m) (dropped n ms) (same_name n m) refl
          ∙ chosen_by n m (filter (λ k. not (same_name n k)) ms) (same_name n m) refl

      each_by : (n : Name) (ns : List Name) (o : Option X) → h n ≡ o → first_of_each name (filter_map h ns) ≡ filter_map h (distinct ns)
          → first_of_each name (cons_option o (filter_map h ns)) ≡ cons_option o (filter_map h (filter (λ m. not (same_name n m)) (distinct ns)))
      each_by n ns None e f = f ∙ sym (keeps_none h n e (distinct ns))
      each_by n ns (Some x) e f =
          ap (λ l. x ∷ l)
          (ap (λ k. filter (λ y. not (same_name k (name y))) (first_of_each name (filter_map h ns))) (named n x e)
          ∙ ap (filter (λ y. not (same_name n (name y)))) f
          ∙ dropped n (distinct ns))

      -- the first of each of what there is to names is what there is to the first of each
      pub each : (ns : List Name) → first_of_each name (filter_map h ns) ≡ filter_map h (distinct ns)
      each [] = refl
      each (n ∷ ns) = each_by n ns (h n) refl (each ns)
