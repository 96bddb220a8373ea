-- The generic functions of the system are sound.
use Rattle.std.proofs.Common.{◌≡◌, inl, inr, ℕ, zero, suc, ◌<◌, true, List, [], ◌∷◌, ◌++◌, length, map, Some, refl, ap, sym, subst, ◌∙◌, arith}
use Rattle.std.specs.Prelude.{slice_get}
use Rattle.std.proofs.lemmas.Option.{none-some}
use Rattle.clos_generic.specs.Initial.{initial, system_generic, system_options}
use Rattle.clos_method.specs.Applicable.{specializers_of}
use Rattle.clos_method.specs.Laws.{IsMember}
use Rattle.clos_method.specs.Method.{system_method}
use Rattle.clos_method.specs.System.{system_functions, system_number, system_required, system_shape}
use Rattle.clos_method.specs.declared.method.Method.{Method}
use Rattle.clos_method.specs.Shape.{is_congruent}
use Rattle.clos_method.specs.declared.system.SystemFunction.{SystemFunction}
use Rattle.clos_method.specs.declared.system.SystemFunction.TheVariants.{InitializeInstance, ReinitializeInstance, SharedInitialize, UpdateInstanceForRedefinedClass, UpdateInstanceForDifferentClass, SlotUnbound, SlotMissing, NoApplicableMethod, NoNextMethod}
use Rattle.clos_generic.specs.Sound.{Each, IsSound, IsSoundFunction, IsSpecialized}
use Rattle.clos_generic.specs.Fault.{takes_in}
use Rattle.clos_generic.specs.Table.{Function, made}
use Rattle.clos_generic.proofs.Members.{at_last, each_place, one_item}

each_at : {X : Type 0} (P : X → Type 0) (xs : List X) (i : ℕ) (x : X) → Each P xs → slice_get xs i ≡ Some x → P x
each_at P [] i x h k = absurd (none-some x k)
each_at P (y ∷ ys) zero x h k = subst P (one_item y x k) h.0
each_at P (y ∷ ys) (suc i) x h k = each_at P ys i x h.1 k

abbrev methods : List Method
methods = map system_method system_functions

only : (m n : ℕ) → IsMember (m ∷ []) n → m ≡ n
only m n (inl e) = e
only m n (inr h) = absurd h

sound_one : (f : SystemFunction) → system_number f < 9 → length
    (specializers_of methods (system_number f)) ≡ system_required f → IsSoundFunction methods (system_generic f)
sound_one f h k = record {
  distinct = ((λ e. e), tt);
  there = λ n i. subst (λ m. m < 9) (only (system_number f) n i) h;
  specialized = λ n i. ap (λ m. length (specializers_of methods m)) (sym (only (system_number f) n i)) ∙ k;
  places = λ p i. each_place (system_required f) p i;
}

all_sound : Each (IsSoundFunction methods) (map system_generic system_functions)
all_sound = (
  sound_one InitializeInstance (omega arith) refl,
  (
    sound_one ReinitializeInstance (omega arith) refl,
    (
      sound_one SharedInitialize (omega arith) refl,
      (
        sound_one UpdateInstanceForRedefinedClass (omega arith) refl,
        (
          sound_one UpdateInstanceForDifferentClass (omega arith) refl,
          (
            sound_one SlotUnbound (omega arith) refl,
            (
              sound_one SlotMissing (omega arith) refl,
              (
                sound_one NoApplicableMethod (omega arith) refl,
                (sound_one NoNextMethod (omega arith) refl, tt),
              ),
            ),
          ),
        ),
      ),
    ),
  ),
)

pub own_specialized : (f : SystemFunction) → IsSpecialized (system_method f)
own_specialized InitializeInstance = refl
own_specialized ReinitializeInstance = refl
own_specialized SharedInitialize = refl
own_specialized UpdateInstanceForRedefinedClass = refl
own_specialized UpdateInstanceForDifferentClass = refl
own_specialized SlotUnbound = refl
own_specialized SlotMissing = refl
own_specialized NoApplicableMethod = refl
own_specialized NoNextMethod = refl

own_congruent : (f : SystemFunction) → is_congruent (system_shape f) (system_method f).shape ≡ true
own_congruent InitializeInstance = refl
own_congruent ReinitializeInstance = refl
own_congruent SharedInitialize = refl
own_congruent UpdateInstanceForRedefinedClass = refl
own_congruent UpdateInstanceForDifferentClass = refl
own_congruent SlotUnbound = refl
own_congruent SlotMissing = refl
own_congruent NoApplicableMethod = refl
own_congruent NoNextMethod = refl

-- its method may be added to the function that was made last
pub own_fits : (f : SystemFunction) (fs : List Function)
    → takes_in (system_method f).shape (slice_get (fs ++ made (system_generic f).name (system_options f) ∷ []) (length fs)) ≡ true
own_fits f fs =
    ap (takes_in (system_method f).shape) (at_last fs (made (system_generic f).name (system_options f))) ∙ own_congruent f

all_own : (fs : List SystemFunction) → Each IsSpecialized (map system_method fs)
all_own [] = tt
all_own (f ∷ fs) = (own_specialized f, all_own fs)

pub initial_sound : (a b : ℕ) → IsSound (initial a b)
initial_sound a b = record {
  each_function = λ g f h. each_at (IsSoundFunction methods) (map system_generic system_functions) g f all_sound h;
  each_method = λ n m h. each_at IsSpecialized methods n m (all_own system_functions) h;
}
