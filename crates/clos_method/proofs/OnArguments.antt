-- Arguments by their places.
use Rattle.std.proofs.Common.{◌≡◌, ℕ, zero, suc, List, [], ◌∷◌, length, refl, ap, ◌∙◌, sym, arith}
use Rattle.std.specs.Prelude.{slice_get, Some, None}
use Rattle.lisp_data.specs.Value.{Val}
use Rattle.lisp_data.specs.declared.ids.ClassId.{ClassId}
use Rattle.lisp_data.specs.declared.value.Value.{Value}
use Rattle.clos_precedence.specs.PrecedenceView.{numbers}
use Rattle.clos_class.specs.Table.{Table}
use Rattle.clos_hierarchy.specs.Classes.{listing, list_in}
use Rattle.clos_method.specs.Arguments.{Argument, arguments_of}
use Rattle.clos_method.specs.Qualifiers.{values_in}

many : (t : Table) (cs : List ClassId) (vs : List Value) → length cs ≡ length vs → length vs ≡ length (arguments_of t (numbers cs) (values_in vs))
many t [] [] h = refl
many t [] (v ∷ vs) h = sym h
many t (c ∷ cs) [] h = refl
many t (c ∷ cs) (v ∷ vs) h = ap suc (many t cs vs (omega (arith, h)))

pub as_many : (t : Table) (cs : List ClassId) (vs : List Value) (args : List Argument) → length cs ≡ length vs → arguments_of t (numbers cs) (values_in vs) ≡ args
    → length vs ≡ length args
as_many t cs vs args h e = many t cs vs h ∙ ap length e

pub at_place : (t : Table) (cs : List ℕ) (vs : List Val) (k c : ℕ) (v : Val) → slice_get cs k ≡ Some c → slice_get vs k ≡ Some v
    → slice_get (arguments_of t cs vs) k ≡ Some (record { list = list_in (listing t.table.classes c); value = v })
at_place t [] vs k c v p q = cc
at_place t (d ∷ cs) [] k c v p q = cc
at_place t (d ∷ cs) (w ∷ vs) zero c v p q = cc
at_place t (d ∷ cs) (w ∷ vs) (suc k) c v p q = at_place t cs vs k c v p q

pub past_classes : (t : Table) (cs : List ℕ) (vs : List Val) (k : ℕ) → slice_get cs k ≡ None → slice_get (arguments_of t cs vs) k ≡ None
past_classes t [] vs k p = refl
past_classes t (d ∷ cs) [] k p = refl
past_classes t (d ∷ cs) (w ∷ vs) zero p = cc
past_classes t (d ∷ cs) (w ∷ vs) (suc k) p = past_classes t cs vs k p

pub past_values : (t : Table) (cs : List ℕ) (vs : List Val) (k : ℕ) → slice_get vs k ≡ None → slice_get (arguments_of t cs vs) k ≡ None
past_values t [] vs k p = refl
past_values t (d ∷ cs) [] k p = refl
past_values t (d ∷ cs) (w ∷ vs) zero p = cc
past_values t (d ∷ cs) (w ∷ vs) (suc k) p = past_values t cs vs k p
