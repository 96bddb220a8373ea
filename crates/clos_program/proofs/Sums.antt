-- The sums that the program's functions answer.
use Rattle.std.proofs.Common.{◌≡◌, List, [], ◌∷◌, length, get_or, ap, ◌∙◌, arith, refl, rules, w64, FitsSigned, to_z, of_z}
use Rattle.std.specs.Int.{w128}
use Rattle.std.specs.Prelude.{ℤ, pos, negsuc, ◌+ℤ◌, ◌*ℤ◌}
use Rattle.clos_ending.specs.clos_system.clos_session.clos_native.Relation.{weighed}

pub weighed_two : (xs : List ℤ) → length xs ≡ 2 → weighed (pos 3 ∷ negsuc 1 ∷ []) (pos 7) xs ≡ (pos 3 *ℤ get_or xs 0 (pos 0)) +ℤ
    ((negsuc 1 *ℤ get_or xs 1 (pos 0)) +ℤ pos 7)
weighed_two [] e = absurd (omega arith)
weighed_two (x ∷ []) e = absurd (omega arith)
weighed_two (x ∷ y ∷ []) e = refl
weighed_two (x ∷ y ∷ z ∷ zs) e = absurd (omega arith)

module _ (x y : ℤ) (h : FitsSigned w64 x) (k : FitsSigned w64 y) where
  first_kept : to_z w128 (of_z w128 (pos 3 *ℤ x)) ≡ pos 3 *ℤ x
  first_kept = search (rules, h)

  second_kept : to_z w128 (of_z w128 (negsuc 1 *ℤ y)) ≡ negsuc 1 *ℤ y
  second_kept = search (rules, k)

  rest_kept : to_z w128 (of_z w128 ((negsuc 1 *ℤ y) +ℤ pos 7)) ≡ (negsuc 1 *ℤ y) +ℤ pos 7
  rest_kept = search (rules, k)

  sum_kept : to_z w128 (of_z w128 ((pos 3 *ℤ x) +ℤ ((negsuc 1 *ℤ y) +ℤ pos 7))) ≡ (pos 3 *ℤ x) +ℤ ((negsuc 1 *ℤ y) +ℤ pos 7)
  sum_kept = search (rules, h, k)

  -- no part of the sum passes 128 bits
  pub sums : (a b : ℤ) → to_z w128 (of_z w128 a) ≡ x → to_z w128 (of_z w128 b) ≡ y
      → to_z w128 (of_z w128 (to_z w128 (of_z w128 (pos 3 *ℤ to_z w128 (of_z w128 a))) +ℤ to_z w128
      (of_z w128 (to_z w128 (of_z w128 (negsuc 1 *ℤ to_z w128 (of_z w128 b))) +ℤ pos 7))))
      ≡ (pos 3 *ℤ x) +ℤ ((negsuc 1 *ℤ y) +ℤ pos 7)
  sums a b p q =
      ap (λ v. to_z w128 (of_z w128 (to_z w128 (of_z w128 (pos 3 *ℤ v)) +ℤ to_z w128
      (of_z w128 (to_z w128 (of_z w128 (negsuc 1 *ℤ to_z w128 (of_z w128 b))) +ℤ pos 7))))) p
      ∙ ap (λ v. to_z w128 (of_z w128 (v +ℤ to_z w128 (of_z w128 (to_z w128 (of_z w128 (negsuc 1 *ℤ to_z w128 (of_z w128 b))) +ℤ pos 7)))))
      first_kept
      ∙ ap (λ v. to_z w128 (of_z w128 ((pos 3 *ℤ x) +ℤ to_z w128 (of_z w128 (to_z w128 (of_z w128 (negsuc 1 *ℤ v)) +ℤ pos 7))))) q
      ∙ ap (λ v. to_z w128 (of_z w128 ((pos 3 *ℤ x) +ℤ to_z w128 (of_z w128 (v +ℤ pos 7))))) second_kept
      ∙ ap (λ v. to_z w128 (of_z w128 ((pos 3 *ℤ x) +ℤ v))) rest_kept ∙ sum_kept
