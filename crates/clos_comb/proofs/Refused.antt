-- What groups refuse: of the standard combination and of short forms only PRIMARY has to have a method.
use Rattle.std.proofs.Common.{◌≡◌, ◌⊎◌, ℕ, List, Bool, true, false, Option, Some, None, refl, ap, sym, ◌∙◌, inl, inr}
use Rattle.std.specs.Prelude.{codes, is_some, not, if◌then◌else◌}
use Rattle.std.specs.List.{list_any}
use Rattle.lisp_data.specs.Name.{Name}
use Rattle.clos_groups.specs.Group.{is_in}
use Rattle.clos_groups.specs.Refusal.{Refusal, ambiguous_from, among, empty_from, or_empty, refusal, told_pair, ungrouped}
use Rattle.clos_groups.specs.Refusal as group
use Rattle.clos_groups.specs.clos_combination.declared.group.GroupSpecifier.{GroupSpecifier}
use Rattle.clos_groups.specs.clos_combination.declared.combination.LongForm.{LongForm}
use Rattle.clos_groups.specs.clos_method.declared.method.Method.{Method}
use Rattle.clos_comb.specs.Effective.{is_free}
use Rattle.clos_comb.specs.Groups.{plain, short_groups, standard_groups}
use Rattle.clos_comb.specs.Outcome.{Combined, group_empty, is_method, name_at, refused_primary, unless_refused}
use Rattle.clos_comb.specs.Table.{Combination, long}

-- a pair is refused in the same way
pair_told : (gs : List GroupSpecifier) (p : Option (ℕ × ℕ)) (c : Combined) (r : Refusal) → Some r ≡ told_pair p → refused_primary r ≡ unless_refused gs (told_pair p) c
pair_told gs None c r e = absurd (cc e)
pair_told gs (Some p) c r e = let is : r ≡ group.ambiguous_methods p.0 p.1 = cc e in ap refused_primary is

-- the same, where empty groups are called PRIMARY
told_so : (gs : List GroupSpecifier) (u o : Option ℕ) (p : Option (ℕ × ℕ)) (c : Combined) (r : Refusal) → ((k : ℕ) → o ≡ Some k → name_at gs k ≡ plain (codes "PRIMARY"))
    → Some r ≡ or_empty u o p → refused_primary r ≡ unless_refused gs (or_empty u o p) c
told_so gs (Some m) o p c r h e = let is : r ≡ group.invalid_method m = cc e in ap refused_primary is
told_so gs None (Some k) p c r h e = let is : r ≡ group.group_empty k = cc e in ap refused_primary is ∙ ap group_empty (sym (h k refl))
told_so gs None None p c r h e = pair_told gs p c r e

-- a place that is found only there
found_at : (b : Bool) (j k : ℕ) → (if b then Some j else None) ≡ Some k → k ≡ j
found_at true j k e = let is : j ≡ k = cc e in sym is
found_at false j k e = absurd (cc e)

module _ (methods : List Method) (added ms : List ℕ) (c : Combined) (r : Refusal) where
  pub standard_told : (gs : List GroupSpecifier) → gs ≡ standard_groups → Some r ≡ refusal methods gs added ms → refused_primary r ≡ unless_refused standard_groups (refusal methods standard_groups added ms) c
  standard_told gs is e =
      told_so standard_groups (ungrouped methods standard_groups ms) (empty_from methods standard_groups ms 0 standard_groups) (ambiguous_from methods standard_groups (among ms added) 0 standard_groups) c r
      (λ k h. ap (name_at standard_groups) (found_at (not (list_any (is_in methods standard_groups 2) ms)) 2 k h)) (e ∙ ap (λ hs. refusal methods hs added ms) is)

  pub short_told : (name : Name) (gs : List GroupSpecifier) → gs ≡ short_groups name → Some r ≡ refusal methods gs added ms
      → refused_primary r ≡ unless_refused (short_groups name) (refusal methods (short_groups name) added ms) c
  short_told name gs is e =
      told_so (short_groups name) (ungrouped methods (short_groups name) ms) (empty_from methods (short_groups name) ms 0 (short_groups name))
      (ambiguous_from methods (short_groups name) (among ms added) 0 (short_groups name)) c r
      (λ k h. ap (name_at (short_groups name)) (found_at (not (list_any (is_in methods (short_groups name) 1) ms)) 1 k h)) (e ∙ ap (λ hs. refusal methods hs added ms) is)

-- what takes no memory is a method that no group takes, or an empty group
pub free_told : (c : Combination) (u o : Option ℕ) (p : Option (ℕ × ℕ)) → is_free c (or_empty u o p) ≡ true → (is_some u ≡ true) ⊎ (is_some o ≡ true)
free_told c (Some m) o p e = inl refl
free_told c None (Some k) p e = inr refl
free_told c None None None e = absurd (cc e)
free_told c None None (Some p) e = absurd (cc e)

-- of a long form it is such a method alone
pub long_told : (f : LongForm) (o : Option Refusal) (r : Refusal) → Some r ≡ o → is_free (long f) o ≡ true → is_method r ≡ true
long_told f o (group.invalid_method m) h e = refl
long_told f o (group.group_empty k) h e = ap (is_free (long f)) h ∙ e
long_told f o (group.ambiguous_methods m n) h e = ap (is_free (long f)) h ∙ e
