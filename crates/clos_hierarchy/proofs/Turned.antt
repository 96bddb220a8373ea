-- A class precedence list, over its own members.
use Rattle.std.proofs.Common.{◌≡◌, ℕ, true, List, [], ◌∷◌, refl}
use Rattle.clos_precedence.specs.Precedence.{Supers, are_before_done, is_free, Next, InTurn, IsPrecedenceList, IsFamily}
use Rattle.clos_hierarchy.specs.Classes.{Classes, Listing, listed, superclasses}
use Rattle.clos_hierarchy.specs.inner.Kept.{Within, AreWhole}
use Rattle.clos_precedence.proofs.Truth.{both}
use Rattle.clos_precedence.proofs.Next.{free_at}
use Rattle.clos_precedence.proofs.InTurn.{found_is_one}
use Rattle.clos_precedence.proofs.Members.{has_first, has_later}
use Rattle.clos_precedence.proofs.Depth.{none_done}
use Rattle.clos_hierarchy.proofs.Rounds.{Holds}
use Rattle.clos_hierarchy.proofs.Families.{Base, base_of, over}

free_within : (f : Supers) (ks js done : List ℕ) (x : ℕ) → Within ks js → is_free f js done x ≡ true → is_free f ks done x ≡ true
free_within f [] js done x w h = refl
free_within f (k ∷ ks) js done x w h =
    both (are_before_done done x k (f k)) (is_free f ks done x) (free_at f js done x k h (w k (has_first k ks))) (free_within f ks js done x (λ y e. w y (has_later k y ks e)) h)

next_over : (f : Supers) (all l done : List ℕ) (x : ℕ) → Within all l → Within l all → Next f all done x → Next f l done x
next_over f all l done x w v n = (w x n.0, n.1, free_within f l all done x v n.2, λ y a d g. n.3 y (v y a) d (free_within f all l done y w g))

turn_over : (f : Supers) (all l done xs : List ℕ) → Within all l → Within l all → InTurn f all done xs → InTurn f l done xs
turn_over f all l done [] w v t = tt
turn_over f all l done (x ∷ xs) w v t = (next_over f all l done x w v t.0, turn_over f all l (x ∷ done) xs w v t.1)

pub own_list : (cs : Classes) (of : ℕ → Listing) (n : ℕ) (l : List ℕ) → Holds cs of → AreWhole cs of → of n ≡ listed l → IsPrecedenceList (superclasses cs) l l
own_list cs of n l t w h =
    let b : Base cs of n l = base_of cs of n l (t n l h) in
    let m : IsFamily (superclasses cs) n (n ∷ b.above) = over cs of n l b w in
    let p : IsPrecedenceList (superclasses cs) (n ∷ b.above) l = found_is_one (superclasses cs) n (n ∷ b.above) l m b.ordered in
    let v : Within l (n ∷ b.above) = λ x g. (none_done (superclasses cs) (n ∷ b.above) [] l x p.0 g).1 in (turn_over (superclasses cs) (n ∷ b.above) l [] l p.1 v p.0, λ x g. g)
