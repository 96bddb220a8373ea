-- Argument lists of which the same is known have one list of ordered methods.
use Rattle.std.proofs.Common.{◌≡◌, ◌⊎◌, inl, inr, ℕ, zero, suc, ◌+◌, Bool, true, false, ◌||◌, ◌&&◌, List, [], ◌∷◌, Option, Some, None, option_map, refl, ap, subst, sym, ◌∙◌, true≢false, arith}
use Rattle.std.specs.Prelude.{if◌then◌else◌, slice_get, unwrap_or}
use Rattle.std.specs.List.{list_any}
use Rattle.std.proofs.lemmas.Option.{none-some}
use Rattle.lisp_data.specs.Keys.{same_value}
use Rattle.lisp_data.specs.Print.{Specializer, on_class, on_eql}
use Rattle.lisp_data.specs.Value.{Val}
use Rattle.clos_cache.specs.Key as keys
use Rattle.clos_cache.proofs.Places.{one_item}
use Rattle.clos_class.specs.Table.{Table}
use Rattle.clos_generic.specs.Calls.{has_eql, ordered, precedence_in}
use Rattle.clos_generic.specs.Table as generics
use Rattle.clos_generic.specs.Table.{methods_of}
use Rattle.clos_method.specs.Applicable.{all_fit, applies_to, fits, has_eql_at, is_applicable, is_eql_to, specializers_in, specializers_of}
use Rattle.clos_method.specs.Arguments.{Argument}
use Rattle.clos_method.specs.Laws.{IsMember}
use Rattle.clos_method.specs.Order as order
use Rattle.clos_method.specs.Order.{comes_before, decided, is_before, is_more_specific, placed}
use Rattle.clos_method.specs.Specializer.{same_specializer}
use Rattle.clos_method.specs.declared.method.Method.{Method}
use Rattle.clos_world.specs.Dispatch.{arguments}
use Rattle.clos_world.specs.Kept.{AreKnown, IsKnown}
use Rattle.clos_world.specs.Keys.{arguments_from}
use Rattle.clos_world.specs.World.{State}

-- ---- an object is known of both, or of neither

-- what is known is the one where it is known, and the other too; or it is known of neither
known_of_both : (x y : Bool) (u v : Val) (o : Option Val) → o ≡ (if x then Some u else None) → o ≡ (if y then Some v else None)
    → ((x ≡ false) × (y ≡ false)) ⊎ (u ≡ v)
known_of_both true true u v o h k = inr (one_item u v (sym h ∙ k))
known_of_both true false u v o h k = absurd (none-some u (sym k ∙ h))
known_of_both false true u v o h k = absurd (none-some v (sym h ∙ k))
known_of_both false false u v o h k = inl (refl, refl)

neither : (b c : Bool) → (b || c) ≡ false → (b ≡ false) × (c ≡ false)
neither true c h = absurd (true≢false h)
neither false c h = (refl, h)

not_any : (p : ℕ → Bool) (ns : List ℕ) (n : ℕ) → list_any p ns ≡ false → IsMember ns n → p n ≡ false
not_any p [] n h i = absurd i
not_any p (m ∷ ns) n h (inl e) = ap p (sym e) ∙ (neither (p m) (list_any p ns) h).0
not_any p (m ∷ ns) n h (inr i) = not_any p ns n (neither (p m) (list_any p ns) h).1 i

module _ (classes : Table) (t : generics.Table) (g : ℕ) where
  module _ (n : ℕ) (member : IsMember (methods_of t g) n) where
    -- a method of the function has an object as eql specializer, which is neither
    not_eql : (place : ℕ) (u v : Val) → has_eql t g place u ≡ false → slice_get (specializers_of t.methods n) place ≡ Some (on_eql v)
        → same_value v u ≡ false
    not_eql place u v h e =
        ap (is_eql_to u) (sym e) ∙ not_any (has_eql_at t.methods place u) (methods_of t g) n h member

    alike_or_not : (place : ℕ) (u v x : Val)
        → ((has_eql t g place u ≡ false) × (has_eql t g place v ≡ false)) ⊎ (u ≡ v)
        → slice_get (specializers_of t.methods n) place ≡ Some (on_eql x) → same_value x u ≡ same_value x v
    alike_or_not place u v x (inl h) e = not_eql place u x h.0 e ∙ sym (not_eql place v x h.1 e)
    alike_or_not place u v x (inr e) s = ap (same_value x) e

    fits_alike : (place : ℕ) (k : keys.Argument) (a b : Argument) → IsKnown classes t g place k a → IsKnown classes t g place k b
        → (s : Specializer) → slice_get (specializers_of t.methods n) place ≡ Some s → fits a s ≡ fits b s
    fits_alike place k a b h i (on_class c) e = ap (λ l. fits (record a { list = l }) (on_class c)) (h.list ∙ sym i.list)
    fits_alike place k a b h i (on_eql v) e =
        alike_or_not place a.value b.value v
        (known_of_both (has_eql t g place a.value) (has_eql t g place b.value) a.value b.value k.object h.object i.object) e

    both : (x x' y y' : Bool) → x ≡ x' → y ≡ y' → (x && y) ≡ (x' && y')
    both x x' y y' h k = ap (λ b. b && y) h ∙ ap (λ b. x' && b) k

    all_alike : (place : ℕ) (ks : List keys.Argument) (xs ys : List Argument) → AreKnown classes t g place ks xs
        → AreKnown classes t g place ks ys → (ss : List Specializer)
        → ((j : ℕ) (s : Specializer) → slice_get ss j ≡ Some s → slice_get (specializers_of t.methods n) (place + j) ≡ Some s)
        → all_fit xs ss ≡ all_fit ys ss
    all_alike place [] [] [] h i ss e = refl
    all_alike place [] [] (y ∷ ys) h i ss e = absurd i
    all_alike place [] (x ∷ xs) ys h i ss e = absurd h
    all_alike place (k ∷ ks) [] ys h i ss e = absurd h
    all_alike place (k ∷ ks) (x ∷ xs) [] h i ss e = absurd i
    all_alike place (k ∷ ks) (x ∷ xs) (y ∷ ys) h i [] e = refl
    all_alike place (k ∷ ks) (x ∷ xs) (y ∷ ys) h i (s ∷ ss) e =
        both (fits x s) (fits y s) (all_fit xs ss) (all_fit ys ss)
        (fits_alike place k x y h.0 i.0 s
        (subst (λ p. slice_get (specializers_of t.methods n) p ≡ Some s) (omega arith) (e 0 s refl)))
        (all_alike (suc place) ks xs ys h.1 i.1 ss
        (λ j r q. subst (λ p. slice_get (specializers_of t.methods n) p ≡ Some r) (omega arith) (e (suc j) r q)))

    method_alike : (ks : List keys.Argument) (xs ys : List Argument) → AreKnown classes t g 0 ks xs → AreKnown classes t g 0 ks ys
        → (o : Option Method) → slice_get t.methods n ≡ o → applies_to xs o ≡ applies_to ys o
    method_alike ks xs ys h i None e = refl
    method_alike ks xs ys h i (Some m) e =
        all_alike 0 ks xs ys h i m.specializers (λ j s q. subst (λ p. slice_get (specializers_of t.methods n) p ≡ Some s) (omega arith) (ap (λ o. slice_get (specializers_in o) j) e ∙ q))

  -- ---- their order

  decided_alike : (o o' : Option Argument) → option_map (λ a. a.list) o ≡ option_map (λ a. a.list) o' → (x y : Option Specializer)
      → decided o x y ≡ decided o' x y
  decided_alike None None h x y = refl
  decided_alike None (Some b) h x y = absurd (none-some b.list h)
  decided_alike (Some a) None h x y = absurd (none-some a.list (sym h))
  decided_alike (Some a) (Some b) h None y = refl
  decided_alike (Some a) (Some b) h (Some s) None = refl
  decided_alike (Some a) (Some b) h (Some s) (Some u) =
      ap (λ l. if same_specializer s u then None else Some (is_more_specific l s u)) (one_item a.list b.list h)

  lists_alike : (place : ℕ) (ks : List keys.Argument) (xs ys : List Argument) → AreKnown classes t g place ks xs
      → AreKnown classes t g place ks ys → (p : ℕ)
      → option_map (λ a. a.list) (slice_get xs p) ≡ option_map (λ a. a.list) (slice_get ys p)
  lists_alike place [] [] [] h i p = refl
  lists_alike place [] [] (y ∷ ys) h i p = absurd i
  lists_alike place [] (x ∷ xs) ys h i p = absurd h
  lists_alike place (k ∷ ks) [] ys h i p = absurd h
  lists_alike place (k ∷ ks) (x ∷ xs) [] h i p = absurd i
  lists_alike place (k ∷ ks) (x ∷ xs) (y ∷ ys) h i zero = ap Some (h.0.list ∙ sym i.0.list)
  lists_alike place (k ∷ ks) (x ∷ xs) (y ∷ ys) h i (suc p) = lists_alike (suc place) ks xs ys h.1 i.1 p

  module _ (ks : List keys.Argument) (xs ys : List Argument) (h : AreKnown classes t g 0 ks xs) (i : AreKnown classes t g 0 ks ys) where
    before_alike : (ps : List ℕ) (us vs : List Specializer) → is_before ps xs us vs ≡ is_before ps ys us vs
    before_alike [] us vs = refl
    before_alike (p ∷ ps) us vs =
        ap (λ d. unwrap_or d (is_before ps xs us vs))
        (decided_alike (slice_get xs p) (slice_get ys p) (lists_alike 0 ks xs ys h i p) (slice_get us p) (slice_get vs p))
        ∙ ap (unwrap_or (decided (slice_get ys p) (slice_get us p) (slice_get vs p))) (before_alike ps us vs)

    module _ (ps : List ℕ) where
      placed_alike : (m : ℕ) (ns : List ℕ) → placed t.methods ps xs m ns ≡ placed t.methods ps ys m ns
      placed_alike m [] = refl
      placed_alike m (n ∷ ns) =
          ap (λ b. if b then n ∷ placed t.methods ps xs m ns else m ∷ n ∷ ns)
          (before_alike ps (specializers_of t.methods n) (specializers_of t.methods m))
          ∙ ap (λ l. if comes_before t.methods ps ys n m then n ∷ l else m ∷ n ∷ ns) (placed_alike m ns)

      ordered_alike : (ns : List ℕ) → ((n : ℕ) → IsMember ns n → IsMember (methods_of t g) n)
          → order.ordered t.methods ps xs ns ≡ order.ordered t.methods ps ys ns
      ordered_alike [] k = refl
      ordered_alike (n ∷ ns) k =
          ap (λ b. if b then placed t.methods ps xs n (order.ordered t.methods ps xs ns) else order.ordered t.methods ps xs ns)
          (method_alike n (k n (inl refl)) ks xs ys h i (slice_get t.methods n) refl)
          ∙ ap (λ l. if is_applicable t.methods ys n then l else order.ordered t.methods ps xs ns)
          (placed_alike n (order.ordered t.methods ps xs ns))
          ∙ ap (λ l. if is_applicable t.methods ys n then placed t.methods ps ys n l else l)
          (ordered_alike ns (λ m j. k m (inr j)))

    pub same_methods : ordered t g xs ≡ ordered t g ys
    same_methods = ordered_alike (precedence_in (slice_get t.functions g)) (methods_of t g) (λ n j. j)

-- what the key of a call knows is known of its arguments
pub call_known : (w : State) (g place : ℕ) (vs : List Val)
    → AreKnown w.classes w.generics g place (arguments_from w g place vs) (arguments w vs)
call_known w g place [] = tt
call_known w g place (v ∷ vs) = (record { list = refl; object = refl }, call_known w g (suc place) vs)
