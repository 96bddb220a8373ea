-- What is kept under a key is what the definitions give now: what is found, and what becomes of it as one more is kept.
use Rattle.std.proofs.Common.{◌≡◌, ℕ, Bool, true, false, List, [], Option, Some, None, Result, Ok, Err, OnOk, OnErr, option_map, refl, ap, subst, sym, ◌∙◌}
use Rattle.std.specs.Prelude.{if◌then◌else◌, take}
use Rattle.std.specs.Coded.{Coded-set, coded_list, coded_ℕ}
use Rattle.std.proofs.Math.Logic.{∥∥₁_elim, ∥∥₁_map}
use Rattle.std.proofs.lemmas.Option.{none-some}
use Rattle.std.specs.declared.alloc.AllocError.{AllocError}
use Rattle.lisp_data.specs.Value.{Val}
use Rattle.clos_cache.specs.Cache.{Keeps, Kept, found}
use Rattle.clos_cache.specs.Key.{Key, same_key}
use Rattle.clos_cache.specs.KeyLaws.{same_key-Decides}
use Rattle.clos_cache.proofs.Places.{one_item}
use Rattle.clos_class.specs.Table.{Table}
use Rattle.clos_comb.specs.Effective.{effective}
use Rattle.clos_generic.specs.TableView.{AreThere}
use Rattle.clos_comb.specs.OutcomeView.{combined_of}
use Rattle.clos_comb.specs.Table as combinations
use Rattle.clos_generic.specs.Table as generics
use Rattle.clos_world.specs.Dispatch.{arguments, combination_of, ordered, required_by}
use Rattle.clos_world.specs.Kept.{AreNow, IsFor, IsNow}
use Rattle.clos_world.specs.Keys.{key_of}
use Rattle.clos_world.specs.World.{State}
use Rattle.clos_world.specs.declared.effective_method.EffectiveMethod.{EffectiveMethod}
use Rattle.clos_world.proofs.Combined.{combined_code}
use Rattle.clos_world.proofs.Known.{call_known, same_methods}

-- what is found is an outcome that is kept
kept_there : (o : Option (Kept EffectiveMethod)) (e : EffectiveMethod) → Some e ≡ option_map (λ k. k.outcome) o
    → (k : Kept EffectiveMethod) × (o ≡ Some k) × (k.outcome ≡ e)
kept_there None e h = absurd (none-some e (sym h))
kept_there (Some k) e h = (k, refl, one_item k.outcome e (sym h))

module _ (w : State) (g : ℕ) (vs : List Val) where
  -- for the arguments of this call
  abbrev IsForCall : EffectiveMethod → Type 0
  IsForCall e = IsFor w.classes w.generics w.combinations g (arguments w (take (required_by w g) vs)) e

  hit : (es : List (Key × Kept EffectiveMethod)) (key : Key) (e : EffectiveMethod) → AreNow w.classes w.generics w.combinations es
      → key ≡ key_of w g vs → Some e ≡ option_map (λ k. k.outcome) (found es key) → IsForCall e
  hit es key e h k f =
      let x = kept_there (found es key) e f in
      let is : IsNow w.classes w.generics w.combinations (key_of w g vs) x.0 =
      subst (λ q. IsNow w.classes w.generics w.combinations q x.0) k (h.now key x.0 x.1) in
      subst IsForCall x.2 (is.calls (arguments w (take (required_by w g) vs)) (call_known w g 0 (take (required_by w g) vs)))

  pub hit_methods : (es : List (Key × Kept EffectiveMethod)) (key : Key) (e : EffectiveMethod)
      → ∥ AreNow w.classes w.generics w.combinations es ∥₁
      → key ≡ key_of w g vs → Some e ≡ option_map (λ k. k.outcome) (found es key) → e.methods ≡ ordered w g vs
  hit_methods es key e h k f = ∥∥₁_elim h (Coded-set (coded_list coded_ℕ) _ _) (λ now. (hit es key e now k f).methods)

  pub hit_outcome : (es : List (Key × Kept EffectiveMethod)) (key : Key) (e : EffectiveMethod)
      → ∥ AreNow w.classes w.generics w.combinations es ∥₁
      → key ≡ key_of w g vs → Some e ≡ option_map (λ k. k.outcome) (found es key)
      → combined_of e.outcome ≡ effective w.combinations w.generics g (ordered w g vs)
  hit_outcome es key e h k f = ∥∥₁_elim h (Coded-set combined_code _ _) (λ now. (hit es key e now k f).outcome)

  -- what is worked out for a call is for all calls of its key
  for_all : (k : Kept EffectiveMethod) → IsForCall k.outcome → k.combination ≡ combination_of w g
      → IsNow w.classes w.generics w.combinations (key_of w g vs) k
  for_all k h n = record {
    calls = λ args known.
        let same = same_methods w.classes w.generics g (key_of w g vs).arguments (arguments w (take (required_by w g) vs)) args
        (call_known w g 0 (take (required_by w g) vs)) known in
        record { methods = h.methods ∙ same; outcome = h.outcome ∙ ap (effective w.combinations w.generics g) same };
    combination = n;
  }

module _ (classes : Table) (t : generics.Table) (c : combinations.Table) where
  -- nothing is kept
  pub none_kept : AreThere t.functions t.methods → ∥ AreNow classes t c [] ∥₁
  none_kept there = ∣ record { now = λ key k h. absurd (none-some k h); there = there } ∣₁

  under_one : (b : Bool) (key other : Key) (k x : Kept EffectiveMethod) (o : Option (Kept EffectiveMethod)) → same_key key other ≡ b
      → (if b then Some k else o) ≡ Some x → IsNow classes t c key k → (o ≡ Some x → IsNow classes t c other x)
      → IsNow classes t c other x
  under_one true key other k x o h e now old =
      subst (λ q. IsNow classes t c q x) ((same_key-Decides key other).0 h) (subst (IsNow classes t c key) (one_item k x e) now)
  under_one false key other k x o h e now old = old e

  -- one more is kept
  one_more : (es es' : List (Key × Kept EffectiveMethod)) (key : Key) (k : Kept EffectiveMethod) → AreNow classes t c es
      → IsNow classes t c key k → Keeps key k es es' → AreNow classes t c es'
  one_more es es' key k h now keeps = record {
    now = λ other x e. under_one (same_key key other) key other k x (found es other) refl (sym (keeps other) ∙ e) now (h.now other x);
    there = h.there;
  }

-- what is worked out for a call is kept under its key, unless memory is refused
module _ (w w' : State) (same : w' ≡ w) (g : ℕ) (vs : List Val) (es es' : List (Key × Kept EffectiveMethod)) (key : Key)
    (k : Kept EffectiveMethod) where
  now_kept : key ≡ key_of w g vs → k.combination ≡ combination_of w g → k.outcome.methods ≡ ordered w g vs
      → combined_of k.outcome.outcome ≡ effective w.combinations w.generics g (ordered w g vs)
      → IsNow w'.classes w'.generics w'.combinations key k
  now_kept e n m o =
      subst (λ x. IsNow x.classes x.generics x.combinations key k) (sym same)
      (subst (λ q. IsNow w.classes w.generics w.combinations q k) (sym e)
      (for_all w g vs k (record { methods = m; outcome = o }) n))

  pub kept_after : (r : Result (Unit {0}) AllocError) → OnOk r (Keeps key k es es') → OnErr r (es' ≡ es)
      → ∥ AreNow w'.classes w'.generics w'.combinations es ∥₁ → key ≡ key_of w g vs → k.combination ≡ combination_of w g
      → k.outcome.methods ≡ ordered w g vs
      → combined_of k.outcome.outcome ≡ effective w.combinations w.generics g (ordered w g vs)
      → ∥ AreNow w'.classes w'.generics w'.combinations es' ∥₁
  kept_after (Ok u) ok err h e n m o =
      ∥∥₁_map h (λ now. one_more w'.classes w'.generics w'.combinations es es' key k now (now_kept e n m o) ok)
  kept_after (Err a) ok err h e n m o = subst (λ x. ∥ AreNow w'.classes w'.generics w'.combinations x ∥₁) (sym err) h

-- ---- where no table changes

module _ (t : generics.Table) (c : combinations.Table) (es : List (Key × Kept EffectiveMethod)) (old new : Table) where
  pub same_classes : new ≡ old → ∥ AreNow old t c es ∥₁ → ∥ AreNow new t c es ∥₁
  same_classes e h = subst (λ x. ∥ AreNow x t c es ∥₁) (sym e) h

module _ (classes : Table) (c : combinations.Table) (es : List (Key × Kept EffectiveMethod)) (old new : generics.Table) where
  pub same_functions : new ≡ old → ∥ AreNow classes old c es ∥₁ → ∥ AreNow classes new c es ∥₁
  same_functions e h = subst (λ x. ∥ AreNow classes x c es ∥₁) (sym e) h

-- a call leaves a table as it was, whether it is refused or not
pub same_either_way : {A E X : Type 0} {P Q : Type 0} (x y : X) (r : Result A E) → OnOk r P → OnErr r Q → (P → x ≡ y) → (Q → x ≡ y)
    → x ≡ y
same_either_way x y (Ok a) ok err f g = f ok
same_either_way x y (Err e) ok err f g = g err
