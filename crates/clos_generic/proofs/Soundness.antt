-- What is sound stays so when methods go, functions are defined, and methods come.
use Rattle.std.proofs.Common.{◌≡◌, inl, inr, ℕ, zero, suc, ◌<◌, ◌==◌, Bool, true, false, List, [], ◌∷◌, ◌++◌, length, not, Option, Some, None, refl, ap, sym, subst, ◌∙◌, eqb-true, arith, length-append}
use Rattle.std.specs.Prelude.{slice_get}
use Rattle.std.specs.Cmp.{first_so}
use Rattle.std.proofs.lemmas.Option.{none-some}
use Rattle.clos_forms.specs.declared.operator.FunctionName.{FunctionName}
use Rattle.clos_method.specs.Applicable.{specializers_in, specializers_of}
use Rattle.clos_method.specs.Shape.{is_congruent}
use Rattle.clos_method.specs.declared.method.Method.{Method}
use Rattle.clos_method.specs.declared.shape.Shape.{Shape}
use Rattle.clos_generic.specs.Fault.{Refusal, addition_refusal, all_fit, definition_refusal, fits_in, incongruent, or_else, takes_in, when}
use Rattle.clos_generic.specs.Initial.{standard_options}
use Rattle.clos_generic.specs.Sound.{AreSound, IsOrderly, IsSound, IsSoundFunction, IsSpecialized}
use Rattle.clos_generic.specs.Table.{Function, Table, added, defined_at, is_alike_at, made, methods_in, methods_named, named, redefined, with_changed, with_methods, without}
use Rattle.clos_generic.specs.declared.options.Options.{Options}
use Rattle.clos_generic.proofs.Members.{AtChanged, AtPushed, all_at, at_changed, at_last, at_pushed, before_pushed, each_place, elsewhere, here, left_once, left_over, of_list, pushed, pushed_once, the_last}

-- ---- nothing, and the same

pub sound_none : (fs : List Function) (ms : List Method) → fs ≡ [] → ms ≡ [] → AreSound fs ms
sound_none fs ms e h = record {
  each_function = λ g f k. absurd (none-some f (ap (λ l. slice_get l g) (sym e) ∙ k));
  each_method = λ n m k. absurd (none-some m (ap (λ l. slice_get l n) (sym h) ∙ k));
}

pub sound_same : (fs gs : List Function) (ms ns : List Method) → AreSound fs ms → gs ≡ fs → ns ≡ ms → AreSound gs ns
sound_same fs gs ms ns s e h = subst (λ l. AreSound l ns) (sym e) (subst (λ l. AreSound fs l) (sym h) s)

-- ---- methods go

fewer_methods : (ms : List Method) (p : ℕ → Bool) (f : Function) → IsSoundFunction ms f
    → IsSoundFunction ms (with_methods (without p) f)
fewer_methods ms p f s = record {
  distinct = left_once p f.methods s.distinct;
  there = λ n h. s.there n (left_over p f.methods n h);
  specialized = λ n h. s.specialized n (left_over p f.methods n h);
  places = s.places;
}

module _ (fs : List Function) (ms : List Method) (s : AreSound fs ms) where
  function_without : (g m i : ℕ) (f : Function) → AtChanged (with_methods (without (λ n. n == m))) g fs i f → IsSoundFunction ms f
  function_without g m i f (here x e h k) = subst (IsSoundFunction ms) (sym k) (fewer_methods ms (λ n. n == m) x (s.each_function i x h))
  function_without g m i f (elsewhere e h) = s.each_function i f h

  pub without_sound : (g m : ℕ) → AreSound (with_changed (with_methods (without (λ n. n == m))) g fs) ms
  without_sound g m = record {
    each_function = λ i f h. function_without g m i f (at_changed (with_methods (without (λ n. n == m))) g fs i f h);
    each_method = s.each_method;
  }

  -- ---- a function is defined

  fit_required : (shape : Shape) (n : ℕ) (o : Option Method) → slice_get ms n ≡ o → n < length ms → fits_in shape o ≡ true
      → length (specializers_in o) ≡ shape.required
  fit_required shape n None h within k = absurd (not_past ms n h within) where
    not_past : (xs : List Method) (n : ℕ) → slice_get xs n ≡ None → n < length xs → ⊥
    not_past [] n h k = omega (arith, k)
    not_past (x ∷ xs) zero h k = none-some x (sym h)
    not_past (x ∷ xs) (suc n) h k = not_past xs n h (omega (arith, k))
  fit_required shape n (Some m) h within k =
      s.each_method n m h ∙ sym (eqb-true shape.required m.shape.required (first_so (shape.required == m.shape.required) _ k))

  with_options : (o : Options) (f : Function) → IsOrderly o → all_fit ms o.shape f.methods ≡ true → IsSoundFunction ms f
      → IsSoundFunction ms (redefined o f)
  with_options o f places fit k = record {
    distinct = k.distinct;
    there = k.there;
    specialized = λ n h. fit_required o.shape n (slice_get ms n) refl (k.there n h)
        (all_at (λ m. fits_in o.shape (slice_get ms m)) f.methods n fit h);
    places = places;
  }

  redefined_at : (g i : ℕ) (o : Options) (f : Function) → IsOrderly o → all_fit ms o.shape (methods_in (slice_get fs g)) ≡ true
      → AtChanged (redefined o) g fs i f → IsSoundFunction ms f
  redefined_at g i o f places fit (elsewhere e h) = s.each_function i f h
  redefined_at g i o f places fit (here x e h k) =
      subst (IsSoundFunction ms) (sym k) (with_options o x places
      (sym (ap (λ l. all_fit ms o.shape l) (ap methods_in (ap (slice_get fs) (sym e) ∙ h))) ∙ fit) (s.each_function i x h))

  pub redefined_sound : (g : ℕ) (o : Options) → IsOrderly o → all_fit ms o.shape (methods_in (slice_get fs g)) ≡ true
      → AreSound (with_changed (redefined o) g fs) ms
  redefined_sound g o places fit = record {
    each_function = λ i f h. redefined_at g i o f places fit (at_changed (redefined o) g fs i f h);
    each_method = s.each_method;
  }

  new_function : (name : FunctionName) (o : Options) → IsOrderly o → IsSoundFunction ms (made name o)
  new_function name o places = record {
    distinct = tt;
    there = λ n h. absurd h;
    specialized = λ n h. absurd h;
    places = places;
  }

  made_at : (i : ℕ) (name : FunctionName) (o : Options) (f : Function) → IsOrderly o → AtPushed fs (made name o) i f
      → IsSoundFunction ms f
  made_at i name o f places (of_list h) = s.each_function i f h
  made_at i name o f places (the_last e h) = subst (IsSoundFunction ms) h (new_function name o places)

  pub made_sound : (name : FunctionName) (o : Options) → IsOrderly o → AreSound (fs ++ made name o ∷ []) ms
  made_sound name o places = record {
    each_function = λ i f h. made_at i name o f places (at_pushed fs (made name o) i f h);
    each_method = s.each_method;
  }

  -- ---- a method comes

  longer : (m : Method) (n : ℕ) → n < length ms → n < length (ms ++ m ∷ [])
  longer m n h = grind (arith, length-append)

  one_more : (m : Method) (f : Function) → IsSoundFunction ms f → IsSoundFunction (ms ++ m ∷ []) f
  one_more m f k = record {
    distinct = k.distinct;
    there = λ n h. let l = k.there n h in longer m n l;
    specialized = λ n h. ap (λ o. length (specializers_in o)) (before_pushed ms m n (k.there n h)) ∙ k.specialized n h;
    places = k.places;
  }

  with_new : (m : Method) (f : Function) → IsSoundFunction ms f → length m.specializers ≡ f.shape.required
      → IsSoundFunction (ms ++ m ∷ []) (with_methods (added ms m) f)
  with_new m f k fit = record {
    distinct = pushed_once left (length ms) (left_once alike f.methods k.distinct)
        (λ h. past (k.there (length ms) (left_over alike f.methods (length ms) h)));
    there = λ n h. elim (pushed left (length ms) n h) as (λ _. n < length (ms ++ m ∷ []))
        [ inl i ↦ (one_more m f k).there n (left_over alike f.methods n i) | inr i ↦ below n i ];
    specialized = λ n h. elim (pushed left (length ms) n h) as (λ _. length (specializers_of (ms ++ m ∷ []) n) ≡ f.shape.required) [
      | inl i ↦ (one_more m f k).specialized n (left_over alike f.methods n i)
      | inr i ↦ ap (λ j. length (specializers_of (ms ++ m ∷ []) j)) (sym i)
          ∙ ap (λ o. length (specializers_in o)) (at_last ms m) ∙ fit
    ];
    places = k.places;
  } where
    alike : ℕ → Bool
    alike n = is_alike_at ms m.qualifiers m.specializers n

    left : List ℕ
    left = without alike f.methods

    past : length ms < length ms → ⊥
    past h = omega (arith, h)

    below : (n : ℕ) → length ms ≡ n → n < length (ms ++ m ∷ [])
    below n e = grind (arith, length-append, e)

  added_at : (g i : ℕ) (m : Method) (f : Function) → IsSpecialized m → takes_in m.shape (slice_get fs g) ≡ true
      → AtChanged (with_methods (added ms m)) g fs i f → IsSoundFunction (ms ++ m ∷ []) f
  added_at g i m f own fit (elsewhere e h) = one_more m f (s.each_function i f h)
  added_at g i m f own fit (here x e h k) =
      subst (IsSoundFunction (ms ++ m ∷ [])) (sym k) (with_new m x (s.each_function i x h) (own ∙ sym same)) where
        takes : is_congruent x.shape m.shape ≡ true
        takes = sym (ap (takes_in m.shape) (ap (slice_get fs) (sym e) ∙ h)) ∙ fit

        same : x.shape.required ≡ m.shape.required
        same = eqb-true x.shape.required m.shape.required (first_so (x.shape.required == m.shape.required) _ takes)

  method_at : (n : ℕ) (m x : Method) → IsSpecialized m → AtPushed ms m n x → IsSpecialized x
  method_at n m x own (of_list h) = s.each_method n x h
  method_at n m x own (the_last e h) = subst IsSpecialized h own

  pub added_sound : (g : ℕ) (m : Method) → IsSpecialized m → takes_in m.shape (slice_get fs g) ≡ true
      → AreSound (with_changed (with_methods (added ms m)) g fs) (ms ++ m ∷ [])
  added_sound g m own fit = record {
    each_function = λ i f h. added_at g i m f own fit (at_changed (with_methods (added ms m)) g fs i f h);
    each_method = λ n x h. method_at n m x own (at_pushed ms m n x h);
  }

-- ---- a definition of either kind

pub sound_defined : (t : Table) (found : Option ℕ) (name : FunctionName) (o : Options) → IsSound t → IsOrderly o
    → all_fit t.methods o.shape (methods_named t found) ≡ true → AreSound (defined_at found name o t.functions) t.methods
sound_defined t None name o s orderly fit = made_sound t.functions t.methods s name o orderly
sound_defined t (Some g) name o s orderly fit = redefined_sound t.functions t.methods s g o orderly fit

-- ---- options that are not written

pub standard_orderly : (s : Shape) → IsOrderly (standard_options s)
standard_orderly s p h = each_place s.required p h

-- ---- what the table does not refuse is congruent

allowed : (b : Bool) (o : Option Refusal) → or_else (when (not b) incongruent) o ≡ None → b ≡ true
allowed true o h = refl
allowed false o h = absurd (none-some incongruent (sym h))

pub definition_allowed : (t : Table) (name : FunctionName) (o : Options) → definition_refusal t name o ≡ None
    → all_fit t.methods o.shape (methods_named t (named t name)) ≡ true
definition_allowed t name o h = allowed (all_fit t.methods o.shape (methods_named t (named t name))) _ h

pub addition_allowed : (t : Table) (g : ℕ) (m : Method) → addition_refusal t g m ≡ None
    → takes_in m.shape (slice_get t.functions g) ≡ true
addition_allowed t g m h = allowed (takes_in m.shape (slice_get t.functions g)) _ h
