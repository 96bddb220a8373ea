-- What is kept under a key is what the definitions give now, for all arguments that have this key.
use Rattle.std.specs.Prelude.{◌≡◌, ℕ, suc, codes, false, List, [], ◌∷◌, Option, Some, None, if◌then◌else◌, slice_get}
use Rattle.lisp_data.specs.Name.{Name}
use Rattle.clos_cache.specs.Cache.{Kept, found}
use Rattle.clos_cache.specs.Key as keys
use Rattle.clos_class.specs.Table.{Table}
use Rattle.clos_comb.specs.Effective.{effective}
use Rattle.clos_generic.specs.TableView.{AreThere}
use Rattle.clos_comb.specs.OutcomeView.{combined_of}
use Rattle.clos_comb.specs.Table as combinations
use Rattle.clos_generic.specs.Calls.{has_eql, ordered}
use Rattle.clos_generic.specs.Table as generics
use Rattle.clos_hierarchy.specs.Classes.{list_in, listing}
use Rattle.clos_method.specs.Arguments.{Argument}
use Rattle.clos_world.specs.declared.effective_method.EffectiveMethod.{EffectiveMethod}

-- the name of the method combination of a function
abbrev pub combination_in : Option generics.Function → Name
combination_in None = record { text = codes "STANDARD"; keyword = false }
combination_in (Some f) = f.combination.name

module _ (classes : Table) (t : generics.Table) (g : ℕ) where
  -- This is what a key of the function knows of an argument at this place: the class has the argument's class precedence list, and
  -- the object is the argument where a method has it as eql specializer there.
  pub record IsKnown (place : ℕ) (k : keys.Argument) (a : Argument) : Type 0 where
    pub list : a.list ≡ list_in (listing classes.table.classes k.class)
    pub object : k.object ≡ (if has_eql t g place a.value then Some a.value else None)

  -- .. of each, the first of which stands at this place
  abbrev pub AreKnown : ℕ → List keys.Argument → List Argument → Type 0
  AreKnown place [] [] = Unit {0}
  AreKnown place [] (a ∷ args) = ⊥
  AreKnown place (k ∷ ks) [] = ⊥
  AreKnown place (k ∷ ks) (a ∷ args) = IsKnown place k a × AreKnown (suc place) ks args

module _ (classes : Table) (t : generics.Table) (c : combinations.Table) where
  -- the applicable methods in order, and what they are combined into
  pub record IsFor (g : ℕ) (args : List Argument) (e : EffectiveMethod) : Type 0 where
    pub methods : e.methods ≡ ordered t g args
    pub outcome : combined_of e.outcome ≡ effective c t g (ordered t g args)

  -- for all arguments of this key, under the name of the function's method combination
  pub record IsNow (key : keys.Key) (k : Kept EffectiveMethod) : Type 0 where
    pub calls : (args : List Argument) → AreKnown classes t key.generic 0 key.arguments args → IsFor key.generic args k.outcome
    pub combination : k.combination ≡ combination_in (slice_get t.functions key.generic)

  -- of all that is kept; and each method of a function is there, so that none that comes later was meant
  pub record AreNow (es : List (keys.Key × Kept EffectiveMethod)) : Type 0 where
    pub now : (key : keys.Key) (k : Kept EffectiveMethod) → found es key ≡ Some k → IsNow key k
    pub there : AreThere t.functions t.methods

-- So it stays where the generic functions change and this is left, whatever the classes and the method combinations are.
abbrev pub FunctionsKeep : generics.Table → List (keys.Key × Kept EffectiveMethod) → generics.Table → List (keys.Key × Kept EffectiveMethod)
    → Type 0
FunctionsKeep old kept new left = (classes : Table) (c : combinations.Table) → AreNow classes old c kept → AreNow classes new c left

-- .. where the classes change
abbrev pub ClassesKeep : Table → List (keys.Key × Kept EffectiveMethod) → Table → List (keys.Key × Kept EffectiveMethod) → Type 0
ClassesKeep old kept new left = (t : generics.Table) (c : combinations.Table) → AreNow old t c kept → AreNow new t c left
