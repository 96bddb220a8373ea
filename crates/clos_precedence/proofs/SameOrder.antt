-- A class precedence list depends on the superclasses of its family alone.
use Rattle.std.proofs.Common.{◌≡◌, ℕ, zero, suc, true, List, [], ◌∷◌, Option, Some, None, length, refl, subst, ap}
use Rattle.std.specs.Prelude.{if◌then◌else◌, option_map}
use Rattle.clos_precedence.specs.Precedence.{Supers, has, is_free, first_left, if_free, next_above, are_done, if_all_done, with_first, in_turn, precedence_list, Upward}
use Rattle.clos_precedence.proofs.Truth.{nothing}
use Rattle.clos_precedence.proofs.Next.{Inside, Found, found as next_is, inside_more}
use Rattle.clos_precedence.proofs.Members.{has_first, has_later}

-- these have the same superclasses by both
abbrev pub Agree : Supers → Supers → List ℕ → Type 0
Agree f g all = (k : ℕ) → has all k ≡ true → f k ≡ g k

pub agree_later : (f g : Supers) (k : ℕ) (ks : List ℕ) → Agree f g (k ∷ ks) → Agree f g ks
agree_later f g k ks a j h = a j (has_later k j ks h)

pub same_free : (f g : Supers) (ks done : List ℕ) (x : ℕ) → Agree f g ks → is_free f ks done x ≡ is_free g ks done x
same_free f g [] done x a = refl
same_free f g (k ∷ ks) done x a =
    let p : f k ≡ g k = a k (has_first k ks) in
    let q : is_free f ks done x ≡ is_free g ks done x = same_free f g ks done x (agree_later f g k ks a) in cc

same_if_free : (f g : Supers) (all done : List ℕ) (o : Option ℕ) → Agree f g all → if_free f all done o ≡ if_free g all done o
same_if_free f g all done None a = refl
same_if_free f g all done (Some x) a = ap (λ v. if v then Some x else None) (same_free f g all done x a)

same_next : (f g : Supers) (all done ks : List ℕ) → Agree f g all → Agree f g ks → next_above f all done ks ≡ next_above g all done ks
same_next f g all done [] a b = refl
same_next f g all done (k ∷ ks) a b =
    let p : f k ≡ g k = b k (has_first k ks) in
    let q : if_free f all done (first_left done (f k)) ≡ if_free g all done (first_left done (f k)) = same_if_free f g all done (first_left done (f k)) a in
    let r : next_above f all done ks ≡ next_above g all done ks = same_next f g all done ks a (agree_later f g k ks b) in cc

same_first : (o : Option ℕ) (end : Option (List ℕ)) (r s : ℕ → Option (List ℕ)) → ((x : ℕ) → o ≡ Some x → r x ≡ s x) → with_first o end r ≡ with_first o end s
same_first None end r s h = refl
same_first (Some x) end r s h = ap (λ v. option_map (λ xs. x ∷ xs) v) (h x refl)

same_turns : (n : ℕ) (f g : Supers) (all done : List ℕ) → Agree f g all → Upward f all → Inside all done → in_turn n f all done ≡ in_turn n g all done
same_turns zero f g all done a u i = refl
same_turns (suc n) f g all done a u i =
    let p : next_above f all done done ≡ next_above g all done done = same_next f g all done done a (λ k h. a k (i k h)) in
    let q : with_first (next_above f all done done) (if_all_done (are_done done all)) (λ x. in_turn n f all (x ∷ done))
    ≡ with_first (next_above f all done done) (if_all_done (are_done done all)) (λ x. in_turn n g all (x ∷ done)) =
    same_first (next_above f all done done) (if_all_done (are_done done all)) (λ x. in_turn n f all (x ∷ done)) (λ x. in_turn n g all (x ∷ done))
    (λ x e.
    let m : Found f all done done x = next_is f all done done x e in
    same_turns n f g all (x ∷ done) a u (inside_more all done x (u m.below x (i m.below m.among) m.direct) i)) in
    subst (λ v. with_first (next_above f all done done) (if_all_done (are_done done all)) (λ x. in_turn n f all (x ∷ done)) ≡ with_first v (if_all_done (are_done done all)) (λ x. in_turn n g all (x ∷ done))) p q

one_inside : (c : ℕ) (all : List ℕ) → has all c ≡ true → Inside all (c ∷ [])
one_inside c all h = inside_more all [] c h (λ k e. nothing e)

pub same_order : (f g : Supers) (c : ℕ) (all : List ℕ) → Agree f g all → Upward f all → has all c ≡ true → precedence_list f c all ≡ precedence_list g c all
same_order f g c all a u h =
    let p : is_free f all [] c ≡ is_free g all [] c = same_free f g all [] c a in
    let q : in_turn (length all) f all (c ∷ []) ≡ in_turn (length all) g all (c ∷ []) = same_turns (length all) f g all (c ∷ []) a u (one_inside c all h) in cc
