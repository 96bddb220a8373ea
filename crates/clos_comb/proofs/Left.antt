-- Functions that a change leaves as they were are called as before.
use Rattle.std.proofs.Common.{◌≡◌, inl, inr, ℕ, ◌<◌, ◌==◌, Bool, ◌||◌, true, false, List, [], ◌∷◌, Option, Some, None, length, option_map, refl, ap, sym, ◌∙◌, true≢false, eq-eqb}
use Rattle.std.specs.Prelude.{codes, if◌then◌else◌, slice_get}
use Rattle.std.specs.List.{list_any}
use Rattle.std.specs.Map.{lookup}
use Rattle.lisp_data.specs.KeyLaws.{same_name-Decides}
use Rattle.lisp_data.specs.Name.{Name, same_name}
use Rattle.lisp_data.specs.Value.{Val}
use Rattle.clos_forms.specs.clos_names.Names.{is_called}
use Rattle.clos_comb.specs.Effective.{combined_for, effective, if_defined}
use Rattle.clos_comb.specs.Outcome.{Combined, bad_expansion}
use Rattle.clos_comb.specs.Table as combinations
use Rattle.clos_comb.specs.Table.{Combination, built_in_named, combination_named, combination_of, name_of, or_defined, standard, with_combination, with_named}
use Rattle.clos_groups.specs.clos_combination.declared.combination.CombinationDefinition.{CombinationDefinition}
use Rattle.clos_generic.specs.Calls.{has_eql, ordered, precedence_in}
use Rattle.clos_generic.specs.Table.{Function, Table, methods_in, methods_of}
use Rattle.clos_generic.specs.TableView.{AreThere}
use Rattle.clos_groups.specs.clos_method.Applicable as core
use Rattle.clos_groups.specs.clos_method.Arguments.{Argument}
use Rattle.clos_groups.specs.clos_method.Laws.{IsMember}
use Rattle.clos_groups.specs.clos_method.Order as order
use Rattle.clos_comb.specs.Left.{IsCalledAlike, IsLeft, LeavesOtherUses, LeavesOthers}
use Rattle.clos_comb.proofs.Agreeing.{AgreeOn, combined_alike, eql_alike, ordered_alike, ordered_there}

second_so : (a : Bool) → (a || true) ≡ true
second_so true = refl
second_so false = refl

among : (ms : List ℕ) (n : ℕ) → IsMember ms n → list_any (λ k. k == n) ms ≡ true
among [] n i = absurd i
among (m ∷ ms) n (inl e) = ap (λ b. b || list_any (λ k. k == n) ms) (eq-eqb m n e)
among (m ∷ ms) n (inr i) = ap (λ b. (m == n) || b) (among ms n i) ∙ second_so (m == n)

module _ (old new : Table) (g : ℕ) (there : AreThere old.functions old.methods) (left : IsLeft old new g) where
  agree : AgreeOn new.methods old.methods (methods_of old g)
  agree n i = left.methods n (there g n (among (methods_of old g) n i))

  objects : (place : ℕ) (v : Val) → has_eql new g place v ≡ has_eql old g place v
  objects place v =
      ap (λ o. core.has_eql new.methods (methods_in o) place v) left.function
      ∙ eql_alike new.methods old.methods (methods_of old g) place v agree

  methods : (args : List Argument) → ordered new g args ≡ ordered old g args
  methods args =
      ap (λ o. order.ordered new.methods (precedence_in o) args (methods_in o)) left.function
      ∙ ordered_alike new.methods old.methods (precedence_in (slice_get old.functions g)) args (methods_of old g) agree

  -- a function that is there is combined as before
  by_combination : (c : Option Combination) (f : Function) (ms : List ℕ) → AgreeOn new.methods old.methods f.methods
      → AgreeOn new.methods old.methods ms → if_defined c new.methods f ms ≡ if_defined c old.methods f ms
  by_combination None f ms a h = refl
  by_combination (Some c) f ms a h = combined_alike new.methods old.methods c f.methods f.combination.arguments ms a h

  for_function : (c : combinations.Table) (o : Option Function) (ms : List ℕ) → AgreeOn new.methods old.methods (methods_in o)
      → AgreeOn new.methods old.methods ms → combined_for c new.methods ms o ≡ combined_for c old.methods ms o
  for_function c None ms a h = refl
  for_function c (Some f) ms a h = by_combination (combination_named c f.combination.name) f ms a h

  combined : (c : combinations.Table) (args : List Argument)
      → effective c new g (ordered new g args) ≡ effective c old g (ordered old g args)
  combined c args =
      ap (effective c new g) (methods args)
      ∙ ap (combined_for c new.methods (ordered old g args)) left.function
      ∙ for_function c (slice_get old.functions g) (ordered old g args) agree
      (λ n i. agree n (ordered_there old.methods old.methods (precedence_in (slice_get old.functions g)) args old.methods (methods_of old g) n i))

pub leaves_others : LeavesOthers
leaves_others old new g there left = record {
  objects = objects old new g there left;
  methods = methods old new g there left;
  combined = combined old new g there left;
}

-- ---- method combinations

-- names are the same both ways
turned : (k name : Name) (b : Bool) → same_name name k ≡ b → same_name k name ≡ false → same_name name k ≡ false
turned k name true e h = absurd (true≢false (sym ((same_name-Decides k name).1 (sym ((same_name-Decides name k).0 e))) ∙ h))
turned k name false e h = e

found_next : (k name : Name) (d : CombinationDefinition) (e : Name × CombinationDefinition) (es : List (Name × CombinationDefinition))
    (b : Bool) → same_name k e.0 ≡ b → same_name name k ≡ false
    → lookup (same_name name) (with_named k d es) ≡ lookup (same_name name) es
    → lookup (same_name name) (if b then (e.0, d) ∷ es else e ∷ with_named k d es) ≡ lookup (same_name name) (e ∷ es)
found_next k name d e es true t h rest =
    let apart : same_name name e.0 ≡ false = ap (same_name name) (sym ((same_name-Decides k e.0).0 t)) ∙ h in
    ap (λ b. if b then Some d else lookup (same_name name) es) apart
    ∙ sym (ap (λ b. if b then Some e.1 else lookup (same_name name) es) apart)
found_next k name d e es false t h rest = ap (λ o. if same_name name e.0 then Some e.1 else o) rest

-- what is defined under another name is found as before
found_alike : (k name : Name) (d : CombinationDefinition) (es : List (Name × CombinationDefinition)) → same_name name k ≡ false
    → lookup (same_name name) (with_named k d es) ≡ lookup (same_name name) es
found_alike k name d [] h = ap (λ b. if b then Some d else None) h
found_alike k name d (e ∷ es) h = found_next k name d e es (same_name k e.0) refl h (found_alike k name d es h)

pub leaves_other_uses : LeavesOtherUses
leaves_other_uses d c t g f ms e h =
    ap (combined_for (with_combination d c) t.methods ms) e
    ∙ ap (λ o. if_defined (if is_called (codes "STANDARD") f.combination.name then Some standard
    else or_defined (built_in_named f.combination.name) (option_map combination_of o)) t.methods f ms)
    (found_alike (name_of d) f.combination.name d c.defined (turned (name_of d) f.combination.name (same_name f.combination.name (name_of d)) refl h))
    ∙ sym (ap (combined_for c t.methods ms) e)
