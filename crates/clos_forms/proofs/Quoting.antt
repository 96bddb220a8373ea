-- Values before others.
use Rattle.std.proofs.Common.{◌≡◌, map, List, [], ◌∷◌, ◌++◌, Option, Some, None, refl, ap}
use Rattle.lisp_data.specs.Value.{Val, Vals}
use Rattle.lisp_data.specs.ValueView.{value_of}
use Rattle.lisp_data.specs.declared.value.Value.{Value}
use Rattle.clos_forms.specs.Quotation.{prepended, with_front}

pub prepended_push : (xs : List Value) (x : Value) (o : Option Vals) → prepended (map value_of (xs ++ x ∷ [])) o ≡ prepended (map value_of xs) (with_front (Some (value_of x)) o)
prepended_push [] x o = refl
prepended_push (u ∷ xs) x o = ap (with_front (Some (value_of u))) (prepended_push xs x o)

pub prepended_one : (vs : List Val) (v : Val) (o : Option Vals) → prepended (vs ++ v ∷ []) o ≡ prepended vs (with_front (Some v) o)
prepended_one [] v o = refl
prepended_one (u ∷ vs) v o = ap (with_front (Some u)) (prepended_one vs v o)

pub prepended_none : (vs : List Val) → prepended vs None ≡ None
prepended_none [] = refl
prepended_none (v ∷ vs) = ap (with_front (Some v)) (prepended_none vs)
