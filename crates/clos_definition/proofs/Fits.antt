-- Where the table does not refuse the changes of a definition form, each is congruent when it is made, and what is sound stays so.
use Rattle.std.proofs.Common.{◌≡◌, ◌≢◌, ℕ, ◌+◌, ◌==◌, Bool, true, false, not, ◌&&◌, ◌||◌, List, [], ◌∷◌, ◌++◌, length, map, Option, Some, None, refl, ap, sym, subst, ◌∙◌, true≢false, eqb-true, eq-eqb, arith, length-append}
use Rattle.std.specs.Prelude.{if◌then◌else◌, nat_lt, position, slice_get}
use Rattle.std.specs.List.{list_all, list_any, position_or_len}
use Rattle.std.specs.Option.{option_or}
use Rattle.std.specs.Cmp.{first_so, second_so}
use Rattle.std.proofs.lemmas.Option.{none-some, slice_get_within}
use Rattle.std.proofs.lemmas.List.{length_push}
use Rattle.std.proofs.lemmas.List.Folds.{position_or_len_push}
use Rattle.clos_forms.specs.declared.operator.FunctionName.{FunctionName}
use Rattle.clos_generic.specs.Changes.{addition_fits, all_congruent, changes_refusal, definition_fits, fits_or_goes, has_number, is_removal_of, one_more_if_new, shape_after, shape_if, shape_in, staying_fit, takes_shape}
use Rattle.clos_generic.specs.Fault.{Refusal, fits_in, incongruent, or_else, takes_in, when}
use Rattle.clos_generic.specs.Table.{Function, Table, added, defined_at, made, methods_in, methods_named, methods_of, named, named_in, redefined, same_function, with_changed, with_definition, with_method, without, without_method}
use Rattle.clos_generic.specs.Table as table
use Rattle.clos_generic.specs.declared.changes.Definition.{Definition}
use Rattle.clos_generic.specs.declared.changes.Removal.{Removal}
use Rattle.clos_generic.proofs.Changed.{length_of_changed}
use Rattle.clos_generic.proofs.Named.{same_names}
use Rattle.clos_method.specs.Laws.{HasNoneTwice, IsMember}
use Rattle.clos_method.specs.Shape.{is_congruent}
use Rattle.clos_method.specs.declared.method.Method.{Method}
use Rattle.clos_method.specs.declared.shape.Shape.{Shape}
use Rattle.clos_definition.specs.Effect.{AdditionsFit, AreApart, DefinitionsFit, addition_of, changed, changes_of, with_definitions, with_methods, without_all}
use Rattle.clos_generic.specs.Sound.{Each, IsOrderly, IsSound, IsSpecialized}
use Rattle.clos_generic.proofs.Members.{AtChanged, AtPushed, all_at, all_of, at_changed, at_last, at_pushed, elsewhere, gone, here, left_over, of_list, the_last}
use Rattle.clos_generic.proofs.Soundness.{added_sound, sound_defined, without_sound}

-- ---- tests

none_of : (a b : Bool) → a ≡ false → b ≡ false → (a || b) ≡ false
none_of false b h k = k
none_of true b h k = absurd (true≢false h)

neither_first : (a b : Bool) → a ≡ false → (a && b) ≡ false
neither_first false b h = refl
neither_first true b h = absurd (true≢false h)

neither_second : (a b : Bool) → b ≡ false → (a && b) ≡ false
neither_second false b h = refl
neither_second true b h = h

the_other : (a b : Bool) → (a || b) ≡ true → a ≡ false → b ≡ true
the_other false b h k = h
the_other true b h k = absurd (true≢false k)

differ_by : (b : Bool) (m n : ℕ) → (m == n) ≡ b → m ≢ n → b ≡ false
differ_by true m n t h = absurd (h (eqb-true m n t))
differ_by false m n t h = refl

differ : (m n : ℕ) → m ≢ n → (m == n) ≡ false
differ m n h = differ_by (m == n) m n refl h

-- ---- found by a test, with one more at the end

at_most_by : {X : Type 0} (p : X → Bool) (x : X) (xs : List X) (b : Bool) → p x ≡ b
    → nat_lt (length xs) (position_or_len p xs) ≡ false → nat_lt (length (x ∷ xs)) (position_or_len p (x ∷ xs)) ≡ false
at_most_by p x xs true e h = let i : position_or_len p (x ∷ xs) ≡ 0 = cc in grind arith
at_most_by p x xs false e h = let i : position_or_len p (x ∷ xs) ≡ 1 + position_or_len p xs = cc in grind arith

at_most : {X : Type 0} (p : X → Bool) (xs : List X) → nat_lt (length xs) (position_or_len p xs) ≡ false
at_most p [] = grind arith
at_most p (x ∷ xs) = at_most_by p x xs (p x) refl (at_most p xs)

abbrev place : ℕ → ℕ → Option ℕ
place m l = if nat_lt m l then Some m else None

abbrev last_if : Bool → ℕ → Option ℕ
last_if b n = if b then Some n else None

joined : (a n m l : ℕ) (b : Bool) → nat_lt n a ≡ false → m ≡ (if a == n then n + (if b then 0 else 1) else a) → l ≡ n + 1
    → place m l ≡ option_or (place a n) (last_if b n)
joined a n m l true h e g = grind arith
joined a n m l false h e g = grind arith

pub with_last : {X : Type 0} (p : X → Bool) (xs : List X) (y : X)
    → position p (xs ++ y ∷ []) ≡ option_or (position p xs) (last_if (p y) (length xs))
with_last p xs y = joined (position_or_len p xs) (length xs) (position_or_len p (xs ++ y ∷ [])) (length (xs ++ y ∷ []))
    (p y) (at_most p xs) (position_or_len_push p xs y) (length_push xs y)

-- ---- methods go

still_named : (t : Table) (g m : ℕ) (x : FunctionName) → named (without_method g m t) x ≡ named t x
still_named t g m x = same_names (table.with_methods (without (λ n. n == m))) (λ f. refl) t.functions g x

pub named_still : (rs : List Removal) (t : Table) (x : FunctionName) → named (without_all rs t) x ≡ named t x
named_still [] t x = refl
named_still (r ∷ rs) t x = named_still rs (without_method r.generic.0 r.method.0 t) x ∙ still_named t r.generic.0 r.method.0 x

methods_stay : (rs : List Removal) (t : Table) → (without_all rs t).methods ≡ t.methods
methods_stay [] t = refl
methods_stay (r ∷ rs) t = methods_stay rs (without_method r.generic.0 r.method.0 t)

as_many : (rs : List Removal) (t : Table) → length (without_all rs t).functions ≡ length t.functions
as_many [] t = refl
as_many (r ∷ rs) t =
    as_many rs (without_method r.generic.0 r.method.0 t)
    ∙ length_of_changed (table.with_methods (without (λ n. n == r.method.0))) t.functions r.generic.0

pub removals_sound : (rs : List Removal) (t : Table) → IsSound t → IsSound (without_all rs t)
removals_sound [] t s = s
removals_sound (r ∷ rs) t s = removals_sound rs (without_method r.generic.0 r.method.0 t) (without_sound t.functions t.methods s r.generic.0 r.method.0)

-- a function with fewer methods is one that had more, and none that it has is one of these removals
record From (t : Table) (rs : List Removal) (g : ℕ) (f : Function) : Type 0 where
  pub origin : Function
  pub there : slice_get t.functions g ≡ Some origin
  pub shape : f.shape ≡ origin.shape
  pub stays : (n : ℕ) → IsMember f.methods n → IsMember origin.methods n
  pub left : (n : ℕ) → IsMember f.methods n → list_any (is_removal_of g n) rs ≡ false

not_removed : (r : Removal) (g n : ℕ) (ms : List ℕ) → HasNoneTwice ms → IsMember (without (λ k. k == r.method.0) ms) n
    → is_removal_of g n r ≡ false
not_removed r g n ms once h =
    neither_second (r.generic.0 == g) (r.method.0 == n)
    (differ r.method.0 n (λ e. gone r.method.0 ms once (subst (IsMember (without (λ k. k == r.method.0) ms)) (sym e) h)))

from_one : (t : Table) (r : Removal) (rs : List Removal) (g : ℕ) (f : Function) → IsSound t
    → (o : From (without_method r.generic.0 r.method.0 t) rs g f)
    → AtChanged (table.with_methods (without (λ n. n == r.method.0))) r.generic.0 t.functions g o.origin → From t (r ∷ rs) g f
from_one t r rs g f s o (here x e h k) = record {
  origin = x;
  there = h;
  shape = o.shape ∙ ap (λ y. y.shape) k;
  stays = λ n i. left_over (λ n. n == r.method.0) x.methods n (subst (λ ms. IsMember ms n) (ap (λ y. y.methods) k) (o.stays n i));
  left = λ n i.
      none_of (is_removal_of g n r) (list_any (is_removal_of g n) rs)
      (not_removed r g n x.methods (s.each_function g x h).distinct
      (subst (λ ms. IsMember ms n) (ap (λ y. y.methods) k) (o.stays n i))) (o.left n i);
}
from_one t r rs g f s o (elsewhere e h) = record {
  origin = o.origin;
  there = h;
  shape = o.shape;
  stays = o.stays;
  left = λ n i.
      none_of (is_removal_of g n r) (list_any (is_removal_of g n) rs)
      (neither_first (r.generic.0 == g) (r.method.0 == n) (differ r.generic.0 g (λ q. e (sym q)))) (o.left n i);
}

from : (rs : List Removal) (t : Table) (g : ℕ) (f : Function) → IsSound t
    → slice_get (without_all rs t).functions g ≡ Some f → From t rs g f
from [] t g f s h = record { origin = f; there = h; shape = refl; stays = λ n i. i; left = λ n i. refl }
from (r ∷ rs) t g f s h =
    let o = from rs (without_method r.generic.0 r.method.0 t) g f (without_sound t.functions t.methods s r.generic.0 r.method.0) h in
    from_one t r rs g f s o
    (at_changed (table.with_methods (without (λ n. n == r.method.0))) r.generic.0 t.functions g o.origin o.there)

-- what stays of the methods of a function fits where those that stay were asked
fit_of : (rs : List Removal) (t : Table) (shape : Shape) (g n : ℕ) (o : Option Function) → IsSound t
    → slice_get (without_all rs t).functions g ≡ o
    → list_all (fits_or_goes t rs g shape) (methods_of t g) ≡ true → IsMember (methods_in o) n
    → fits_in shape (slice_get t.methods n) ≡ true
fit_of rs t shape g n None s h k i = absurd i
fit_of rs t shape g n (Some f) s h k i =
    let o = from rs t g f s h in
    let there = subst (λ p. IsMember (methods_in p) n) (sym o.there) (o.stays n i) in
    the_other (list_any (is_removal_of g n) rs) (fits_in shape (slice_get t.methods n))
    (all_at (fits_or_goes t rs g shape) (methods_of t g) n k there) (o.left n i)

fit_named : (rs : List Removal) (t : Table) (shape : Shape) (found : Option ℕ) → IsSound t → staying_fit t rs shape found ≡ true
    → (n : ℕ) → IsMember (methods_named (without_all rs t) found) n → fits_in shape (slice_get t.methods n) ≡ true
fit_named rs t shape None s h n i = absurd i
fit_named rs t shape (Some g) s h n i = fit_of rs t shape g n (slice_get (without_all rs t).functions g) s refl h i

-- each of these methods may be one of a function of this shape
abbrev AllFit : Table → Shape → List ℕ → Type 0
AllFit t shape ms = (n : ℕ) → IsMember ms n → fits_in shape (slice_get t.methods n) ≡ true

definition_fit : (rs : List Removal) (t : Table) (d : Definition) → IsSound t → definition_fits t rs d ≡ true
    → AllFit (without_all rs t) d.options.shape (methods_named (without_all rs t) (named (without_all rs t) d.name))
definition_fit rs t d s h n i =
    ap (λ ms. fits_in d.options.shape (slice_get ms n)) (methods_stay rs t)
    ∙ fit_named rs t d.options.shape (named t d.name) s h n
    (subst (λ o. IsMember (methods_named (without_all rs t) o) n) (named_still rs t d.name) i)

-- ---- functions are defined

abbrev after : Definition → Table → Table
after d t = with_definition d.name d.options t

-- a method of a function after it is one before it
old_in : (t : Table) (d : Definition) (found : Option ℕ) (g n : ℕ) (o : Option Function)
    → slice_get (defined_at found d.name d.options t.functions) g ≡ o → IsMember (methods_in o) n
    → IsMember (methods_of t g) n
old_in t d found g n None h i = absurd i
old_in t d None g n (Some f) h i = old_pushed (at_pushed t.functions (made d.name d.options) g f h) where
  old_pushed : AtPushed t.functions (made d.name d.options) g f → IsMember (methods_of t g) n
  old_pushed (of_list k) = subst (λ o. IsMember (methods_in o) n) (sym k) i
  old_pushed (the_last e k) = absurd (subst (λ y. IsMember y.methods n) (sym k) i)
old_in t d (Some m) g n (Some f) h i = old_changed (at_changed (redefined d.options) m t.functions g f h) where
  old_changed : AtChanged (redefined d.options) m t.functions g f → IsMember (methods_of t g) n
  old_changed (here x e k q) = subst (λ o. IsMember (methods_in o) n) (sym k) (subst (λ y. IsMember y.methods n) q i)
  old_changed (elsewhere e k) = subst (λ o. IsMember (methods_in o) n) (sym k) i

pub named_new : (t : Table) (d : Definition) (x : FunctionName) → named t d.name ≡ None
    → named (after d t) x ≡ option_or (named t x) (last_if (same_function d.name x) (length t.functions))
named_new t d x h =
    ap (λ o. named_in (defined_at o d.name d.options t.functions) x) h
    ∙ with_last (λ f. same_function f.name x) t.functions (made d.name d.options)

named_old : (t : Table) (d : Definition) (x : FunctionName) (g : ℕ) → named t d.name ≡ Some g → named (after d t) x ≡ named t x
named_old t d x g h =
    ap (λ o. named_in (defined_at o d.name d.options t.functions) x) h
    ∙ same_names (redefined d.options) (λ f. refl) t.functions g x

-- a method of the function of this name after it is one before it
old_new : (t : Table) (d : Definition) (x : FunctionName) (n : ℕ) (o : Option ℕ) (b : Bool) → named t x ≡ o → named t d.name ≡ None
    → IsMember (methods_named (after d t) (option_or o (last_if b (length t.functions)))) n → IsMember (methods_named t o) n
old_new t d x n (Some g) b e h i = old_in t d (named t d.name) g n (slice_get (after d t).functions g) refl i
old_new t d x n None false e h i = absurd i
old_new t d x n None true e h i = elim (subst (λ o. IsMember (methods_in o) n) (new_last t d h) i) [ ] where
  new_last : (t : Table) (d : Definition) → named t d.name ≡ None
      → slice_get (after d t).functions (length t.functions) ≡ Some (made d.name d.options)
  new_last t d h = ap (λ o. slice_get (defined_at o d.name d.options t.functions) (length t.functions)) h
      ∙ at_last t.functions (made d.name d.options)

old_named_by : (t : Table) (d : Definition) (x : FunctionName) (n : ℕ) (o : Option ℕ) → named t d.name ≡ o
    → IsMember (methods_named (after d t) (named (after d t) x)) n
    → IsMember (methods_named t (named t x)) n
old_named_by t d x n None h i =
    old_new t d x n (named t x) (same_function d.name x) refl h
    (subst (λ o. IsMember (methods_named (after d t) o) n) (named_new t d x h) i)
old_named_by t d x n (Some g) h i =
    old_at (named t x) (subst (λ o. IsMember (methods_named (after d t) o) n) (named_old t d x g h) i) where
      old_at : (o : Option ℕ) → IsMember (methods_named (after d t) o) n → IsMember (methods_named t o) n
      old_at None j = j
      old_at (Some k) j = old_in t d (named t d.name) k n (slice_get (after d t).functions k) refl j

abbrev FitsNamed : Table → Definition → Type 0
FitsNamed t d = AllFit t d.options.shape (methods_named t (named t d.name))

fits_after : (t : Table) (d : Definition) (ds : List Definition) → Each (FitsNamed t) ds → Each (FitsNamed (after d t)) ds
fits_after t d [] h = tt
fits_after t d (e ∷ ds) h = ((λ n i. h.0 n (old_named_by t d e.name n (named t d.name) refl i)), fits_after t d ds h.1)

definitions_fit : (ds : List Definition) (t : Table) → Each (λ d. IsOrderly d.options) ds → Each (FitsNamed t) ds → DefinitionsFit ds t
definitions_fit [] t o h = tt
definitions_fit (d ∷ ds) t o h = (
  o.0,
  all_of (λ n. fits_in d.options.shape (slice_get t.methods n)) (methods_named t (named t d.name)) h.0,
  definitions_fit ds (after d t) o.1 (fits_after t d ds h.1),
)

pub definitions_sound : (ds : List Definition) (t : Table) → IsSound t → DefinitionsFit ds t → IsSound (with_definitions ds t)
definitions_sound [] t s h = s
definitions_sound (d ∷ ds) t s h = definitions_sound ds (after d t) (sound_defined t (named t d.name) d.name d.options s h.0 h.1) h.2

-- ---- the shapes of functions after definitions

shape_new : (now : Table) (d : Definition) (o : Option Shape) (n g : ℕ) (f : Function) → length now.functions ≡ n
    → ((f : Function) → slice_get now.functions g ≡ Some f → Some f.shape ≡ o)
    → AtPushed now.functions (made d.name d.options) g f → Some f.shape ≡ shape_if (n == g) d.options.shape o
shape_new now d o n g f l known (of_list h) =
    let within = slice_get_within now.functions g f h in
    known f h ∙ sym (ap (λ b. shape_if b d.options.shape o) (differ n g (λ e. omega (arith, l, e, within))))
shape_new now d o n g f l known (the_last e h) =
    ap (λ y. Some y.shape) (sym h) ∙ sym (ap (λ b. shape_if b d.options.shape o) (eq-eqb n g (sym l ∙ sym e)))

shape_old : (now : Table) (d : Definition) (o : Option Shape) (i g : ℕ) (f : Function)
    → ((f : Function) → slice_get now.functions g ≡ Some f → Some f.shape ≡ o)
    → AtChanged (redefined d.options) i now.functions g f → Some f.shape ≡ shape_if (i == g) d.options.shape o
shape_old now d o i g f known (here x e h k) =
    ap (λ y. Some y.shape) k ∙ sym (ap (λ b. shape_if b d.options.shape o) (eq-eqb i g (sym e)))
shape_old now d o i g f known (elsewhere e h) = known f h
    ∙ sym (ap (λ b. shape_if b d.options.shape o) (differ i g (λ q. e (sym q))))

shape_next : (t now : Table) (d : Definition) (o : Option Shape) (added g : ℕ) (f : Function) (found : Option ℕ)
    → length now.functions ≡ length t.functions + added
    → ((f : Function) → slice_get now.functions g ≡ Some f → Some f.shape ≡ o)
    → slice_get (defined_at found d.name d.options now.functions) g ≡ Some f
    → Some f.shape ≡ shape_if (has_number t found added g) d.options.shape o
shape_next t now d o added g f None l known h =
    shape_new now d o (length t.functions + added) g f l known (at_pushed now.functions (made d.name d.options) g f h)
shape_next t now d o added g f (Some i) l known h = shape_old now d o i g f known
    (at_changed (redefined d.options) i now.functions g f h)

count_next : (t now : Table) (d : Definition) (added : ℕ) (found : Option ℕ) → length now.functions ≡ length t.functions + added
    → length (defined_at found d.name d.options now.functions) ≡ length t.functions + one_more_if_new found added
count_next t now d added None h = grind (arith, length-append, h)
count_next t now d added (Some g) h = length_of_changed (redefined d.options) now.functions g ∙ h

shapes_known : (t : Table) (g : ℕ) (ds : List Definition) (now : Table) (added : ℕ) (o : Option Shape)
    → length now.functions ≡ length t.functions + added → AreApart t now ds
    → ((f : Function) → slice_get now.functions g ≡ Some f → Some f.shape ≡ o) → (f : Function)
    → slice_get (with_definitions ds now).functions g ≡ Some f
    → Some f.shape ≡ shape_after t added ds g o
shapes_known t g [] now added o l a known f h = known f h
shapes_known t g (d ∷ ds) now added o l a known f h =
    shapes_known t g ds (after d now) (one_more_if_new (named t d.name) added)
    (shape_if (has_number t (named t d.name) added g) d.options.shape o)
    (ap (λ x. length (defined_at x d.name d.options now.functions)) a.0 ∙ count_next t now d added (named t d.name) l) a.1
    (λ e k. shape_next t now d o added g e (named t d.name) l known
    (ap (λ x. slice_get (defined_at x d.name d.options now.functions) g) (sym a.0) ∙ k)) f h

-- ---- methods come

-- the method is congruent with its function
abbrev Takes : Table → Method → Type 0
Takes t m = (f : Function) → slice_get t.functions m.generic.0 ≡ Some f → is_congruent f.shape m.shape ≡ true

takes_still : (t : Table) (g : ℕ) (m k : Method) (f : Function) → Takes t k
    → AtChanged (table.with_methods (added t.methods m)) g t.functions k.generic.0 f
    → is_congruent f.shape k.shape ≡ true
takes_still t g m k f h (here x e i q) = ap (λ y. is_congruent y.shape k.shape) q ∙ h x i
takes_still t g m k f h (elsewhere e i) = h f i

takes_after : (t : Table) (m : Method) (ms : List Method) → Each (Takes t) ms → Each (Takes (with_method m.generic.0 m t)) ms
takes_after t m [] h = tt
takes_after t m (k ∷ ms) h = (
  (λ f i. takes_still t m.generic.0 m k f h.0 (at_changed
      (table.with_methods (added t.methods m)) m.generic.0 t.functions k.generic.0 f i)),
  takes_after t m ms h.1,
)

takes : (m : Method) (o : Option Function) → ((f : Function) → o ≡ Some f → is_congruent f.shape m.shape ≡ true)
    → takes_in m.shape o ≡ true
takes m None h = refl
takes m (Some f) h = h f refl

additions_fit : (ms : List Method) (t : Table) → Each IsSpecialized ms → Each (Takes t) ms → AdditionsFit ms t
additions_fit [] t o h = tt
additions_fit (m ∷ ms) t o h = (
  o.0,
  takes m (slice_get t.functions m.generic.0) h.0,
  additions_fit ms (with_method m.generic.0 m t) o.1 (takes_after t m ms h.1),
)

pub additions_sound : (ms : List Method) (t : Table) → IsSound t → AdditionsFit ms t → IsSound (with_methods ms t)
additions_sound [] t s h = s
additions_sound (m ∷ ms) t s h =
    additions_sound ms (with_method m.generic.0 m t) (added_sound t.functions t.methods s m.generic.0 m h.0 h.1) h.2

-- ---- all changes of a form

own_takes : (t : Table) (rs : List Removal) (ds : List Definition) (m : Method) → IsSound t → AreApart t (without_all rs t) ds
    → addition_fits t ds (addition_of m) ≡ true
    → Takes (with_definitions ds (without_all rs t)) m
own_takes t rs ds m s a h f k =
    let known = shapes_known t m.generic.0 ds (without_all rs t) 0 (shape_in (slice_get t.functions m.generic.0))
    (omega (arith, as_many rs t)) a
    (λ e i. let o = from rs t m.generic.0 e s i in ap Some o.shape ∙ ap shape_in (sym o.there)) f k in
    ap (λ o. takes_shape o m.shape) known ∙ h

all_take : (t : Table) (rs : List Removal) (ds : List Definition) (ms : List Method) → IsSound t → AreApart t (without_all rs t) ds
    → list_all (addition_fits t ds) (map addition_of ms) ≡ true → Each (Takes (with_definitions ds (without_all rs t))) ms
all_take t rs ds [] s a h = tt
all_take t rs ds (m ∷ ms) s a h = (
  own_takes t rs ds m s a (first_so (addition_fits t ds (addition_of m)) (list_all (addition_fits t ds) (map addition_of ms)) h),
  all_take t rs ds ms s a (second_so (addition_fits t ds (addition_of m)) (list_all (addition_fits t ds) (map addition_of ms)) h),
)

all_fit : (t : Table) (rs : List Removal) (ds : List Definition) → IsSound t → list_all (definition_fits t rs) ds ≡ true
    → Each (FitsNamed (without_all rs t)) ds
all_fit t rs [] s h = tt
all_fit t rs (d ∷ ds) s h = (
  definition_fit rs t d s (first_so (definition_fits t rs d) (list_all (definition_fits t rs) ds) h),
  all_fit t rs ds s (second_so (definition_fits t rs d) (list_all (definition_fits t rs) ds) h),
)

allowed : (b : Bool) (o : Option Refusal) → or_else (when (not b) incongruent) o ≡ None → b ≡ true
allowed true o h = refl
allowed false o h = absurd (none-some incongruent (sym h))

module _ (t : Table) (rs : List Removal) (ds : List Definition) (ms : List Method) (s : IsSound t) where
  pub changes_fit : Each (λ d. IsOrderly d.options) ds → Each IsSpecialized ms → AreApart t (without_all rs t) ds
      → changes_refusal t (changes_of rs ds ms) ≡ None
      → DefinitionsFit ds (without_all rs t) × AdditionsFit ms (with_definitions ds (without_all rs t))
  changes_fit os own a h =
      let fit = allowed (all_congruent t (changes_of rs ds ms)) _ h in
      let definitions = first_so (list_all (definition_fits t rs) ds) (list_all (addition_fits t ds) (map addition_of ms)) fit in
      let additions = second_so (list_all (definition_fits t rs) ds) (list_all (addition_fits t ds) (map addition_of ms)) fit in (
        definitions_fit ds (without_all rs t) os (all_fit t rs ds s definitions),
        additions_fit ms (with_definitions ds (without_all rs t)) own (all_take t rs ds ms s a additions),
      )

  pub changes_sound : Each (λ d. IsOrderly d.options) ds → Each IsSpecialized ms → AreApart t (without_all rs t) ds
      → changes_refusal t (changes_of rs ds ms) ≡ None → IsSound (changed rs ds ms t)
  changes_sound os own a h =
      let fit = changes_fit os own a h in
      additions_sound ms (with_definitions ds (without_all rs t))
      (definitions_sound ds (without_all rs t) (removals_sound rs t s) fit.0) fit.1

-- ---- definitions whose names are apart

-- of one name
pub one_apart : (t : Table) (rs : List Removal) (d : Definition) → AreApart t (without_all rs t) (d ∷ [])
one_apart t rs d = (named_still rs t d.name, tt)
