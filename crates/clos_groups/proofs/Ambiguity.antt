-- The pair of the first group that has one, group by group.
use Rattle.std.proofs.Common.{◌≡◌, ◌+◌, ◌<◌, ℕ, zero, suc, List, [], ◌∷◌, Option, drop, length, refl, ap, sym, ◌∙◌, arith}
use Rattle.std.specs.Prelude.{Some, None, slice_get}
use Rattle.lisp_data.specs.declared.ids.MethodId.{MethodId}
use Rattle.clos_method.specs.MethodIds.{method_numbers}
use Rattle.clos_method.specs.declared.method.Method.{Method}
use Rattle.clos_groups.specs.Group.{members}
use Rattle.clos_groups.specs.Refusal.{ambiguous_from, or_later, or_twins, twin_of, twins}
use Rattle.clos_combination.specs.declared.group.GroupSpecifier.{GroupSpecifier}

no_twin : (methods : List Method) (o : Option Method) → None ≡ twin_of methods o []
no_twin methods None = refl
no_twin methods (Some m) = refl

-- there is no pair among fewer than two
pub alone : (methods : List Method) (ids : List MethodId) → length ids < 2 → None ≡ twins methods (method_numbers ids)
alone methods [] lt = refl
alone methods (i ∷ []) lt = ap (λ o. or_later i.0 o None) (no_twin methods (slice_get methods i.0))
alone methods (i ∷ (j ∷ ids)) lt = absurd (omega (arith, lt))

module _ (methods : List Method) (gs : List GroupSpecifier) (ms : List ℕ) where
  -- the pair of the group at this place
  abbrev pub pair_at : ℕ → Option (ℕ × ℕ)
  pair_at j = twins methods (members methods gs j ms)

  pub step : (j k : ℕ) (rest : List GroupSpecifier) → k < length rest → ambiguous_from methods gs ms j (drop k rest) ≡ or_twins (pair_at j) (ambiguous_from methods gs ms (j + 1) (drop (k + 1) rest))
  step j k [] lt = absurd (omega (arith, lt))
  step j zero (g ∷ rest) lt = refl
  step j (suc k) (g ∷ rest) lt =
      let next : suc (k + 1) ≡ suc k + 1 = omega arith
      in step j k rest (omega (arith, lt)) ∙ ap (λ n. or_twins (pair_at j) (ambiguous_from methods gs ms (j + 1) (drop n (g ∷ rest)))) next

  pub found : (k : ℕ) (p : ℕ × ℕ) → k < length gs → Some p ≡ pair_at k → Some p ≡ ambiguous_from methods gs ms k (drop k gs)
  found k p lt is = ap (λ o. or_twins o (ambiguous_from methods gs ms (k + 1) (drop (k + 1) gs))) is ∙ sym (step k k gs lt)

  pub passed : (k : ℕ) → k < length gs → None ≡ pair_at k → ambiguous_from methods gs ms (k + 1) (drop (k + 1) gs) ≡ ambiguous_from methods gs ms k (drop k gs)
  passed k lt is = ap (λ o. or_twins o (ambiguous_from methods gs ms (k + 1) (drop (k + 1) gs))) is ∙ sym (step k k gs lt)
