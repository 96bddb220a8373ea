-- What is kept of calls after the changes of an effect, and a removal of what is not there.
use Rattle.std.proofs.Common.{◌≡◌, ℕ, zero, suc, ◌==◌, Bool, true, false, ◌||◌, List, [], ◌∷◌, ◌++◌, Option, refl, ap, sym, ◌∙◌, true≢false}
use Rattle.std.specs.Prelude.{if◌then◌else◌, slice_get}
use Rattle.std.specs.List.{list_any}
use Rattle.clos_cache.specs.Cache.{Change, Kept, left_after, left_of}
use Rattle.clos_cache.specs.Key.{Key}
use Rattle.clos_generic.specs.Table.{Function, Table, methods_in, methods_of, with_changed, with_methods, without, without_method}

-- some changes after others
left_both : {T : Type 0} (xs ys : List Change) (key : Key) (o : Option (Kept T))
    → left_after (xs ++ ys) key o ≡ left_after ys key (left_after xs key o)
left_both [] ys key o = refl
left_both (x ∷ xs) ys key o = left_both xs ys key (left_of x key o)

pub left_of_three : {T : Type 0} (xs ys zs : List Change) (key : Key) (o : Option (Kept T))
    → left_after zs key (left_after ys key (left_after xs key o)) ≡ left_after (xs ++ ys ++ zs) key o
left_of_three xs ys zs key o =
    sym (left_both (xs ++ ys) zs key o ∙ ap (left_after zs key) (left_both xs ys key o))

-- ---- a method that is not there

not_first : (a b : Bool) → (a || b) ≡ false → (a ≡ false) × (b ≡ false)
not_first true b h = absurd (true≢false h)
not_first false b h = (refl, h)

none_out : (p : ℕ → Bool) (ms : List ℕ) → list_any p ms ≡ false → without p ms ≡ ms
none_out p [] h = refl
none_out p (m ∷ ms) h =
    let parts = not_first (p m) (list_any p ms) h in
    ap (λ b. if b then ms else m ∷ without p ms) parts.0 ∙ ap (λ l. m ∷ l) (none_out p ms parts.1)

no_change : (change : List ℕ → List ℕ) (fs : List Function) (g : ℕ)
    → change (methods_in (slice_get fs g)) ≡ methods_in (slice_get fs g) → with_changed (with_methods change) g fs ≡ fs
no_change change [] g h = refl
no_change change (f ∷ fs) zero h = ap (λ ms. record f { methods = ms } ∷ fs) h
no_change change (f ∷ fs) (suc g) h = ap (λ l. f ∷ l) (no_change change fs g h)

-- nothing is changed where the function does not have it
pub none_removed : (g m : ℕ) (t : Table) → list_any (λ n. n == m) (methods_of t g) ≡ false → without_method g m t ≡ t
none_removed g m t h =
    ap (λ fs. record t { functions = fs })
    (no_change (without (λ n. n == m)) t.functions g (none_out (λ n. n == m) (methods_of t g) h))
