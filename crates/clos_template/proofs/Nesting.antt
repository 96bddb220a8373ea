-- How deep lists nest that are made of others.
use Rattle.std.proofs.Common.{◌≡◌, ◌≤◌, ◌<◌, ℕ, List, [], ◌∷◌, arith, subst}
use Rattle.lisp_data.specs.Datum.{Dat, Dats, nil, cons, nesting_in}
use Rattle.clos_lambda.specs.Lists.{ahead}
use Rattle.clos_template.specs.Function.{reversed}

-- a list nests no deeper than one with more before it
pub ahead_nests : (ds : List Dat) (l : Dats) → nesting_in l ≤ nesting_in (ahead ds l)
ahead_nests [] l = omega arith
ahead_nests (d ∷ ds) l = omega (arith, ahead_nests ds l)

pub reversed_nests : (l m : Dats) → nesting_in m ≤ nesting_in (reversed l m)
reversed_nests nil m = omega arith
reversed_nests (cons d l) m = omega (arith, reversed_nests l (cons d m))

-- what is too deep stays so
pub too_deep_ahead : (n : ℕ) (ds : List Dat) (l m : Dats) → ahead ds l ≡ m → n < nesting_in l → n < nesting_in m
too_deep_ahead n ds l m e h = let P : Dats → Type 0 = λ x. n < nesting_in x in subst P e (omega (arith, ahead_nests ds l, h))

pub too_deep_reversed : (n : ℕ) (l m r : Dats) → reversed l m ≡ r → n < nesting_in m → n < nesting_in r
too_deep_reversed n l m r e h = let P : Dats → Type 0 = λ x. n < nesting_in x in subst P e (omega (arith, reversed_nests l m, h))
