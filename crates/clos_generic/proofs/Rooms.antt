-- Room for the methods of functions, as these change.
use Rattle.std.proofs.Common.{◌≡◌, ℕ, zero, suc, ◌+◌, ◌<◌, ◌≤◌, List, [], ◌∷◌, ◌++◌, Option, Some, None, Bool, true, false, length, take, arith, refl, ap, sym, ◌∙◌, subst, ◌⊎◌, inl, inr, eqb-true}
use Rattle.std.specs.Prelude.{◌==◌, ◌||◌, slice_get, slice_set, slice_index_or}
use Rattle.std.proofs.lemmas.List.Folds.{list_any_more}
use Rattle.lisp_data.specs.declared.ids.GenericId.{GenericId}
use Rattle.clos_generic.specs.inner.Reserved.{HasRoom, HasSpare, is_added}
use Rattle.clos_generic.specs.declared.function.Function.{Function}
use Rattle.clos_generic.specs.declared.spare.Spare.{Spare}
use Rattle.clos_generic.proofs.Changed.{said_of_changed}

pub room_less : (n m : ℕ) (o : Option Function) → m ≤ n → HasRoom n o → HasRoom m o
room_less n m None h r = tt
room_less n m (Some f) h r = omega (arith, h, r)

pub spare_less : (n m : ℕ) (o : Option Spare) → m ≤ n → HasSpare n o → HasSpare m o
spare_less n m None h r = tt
spare_less n m (Some s) h r = (r.0, omega (arith, h, r.1))

-- a function more
pub room_pushed : (n : ℕ) (fs : List Function) (f : Function) (g : ℕ) → HasRoom n (Some f) → HasRoom n (slice_get fs g) → HasRoom n (slice_get (fs ++ f ∷ []) g)
room_pushed n [] f zero k h = k
room_pushed n [] f (suc g) k h = tt
room_pushed n (x ∷ xs) f zero k h = h
room_pushed n (x ∷ xs) f (suc g) k h = room_pushed n xs f g k h

-- One function is changed.
pub room_changed : (n m : ℕ) (fs : List Function) (i : ℕ) (f e : Function) (g : ℕ) → f ≡ slice_index_or fs i f → m ≤ n → (HasRoom n (Some f) → HasRoom m (Some e)) → HasRoom n (slice_get fs g)
    → HasRoom m (slice_get (slice_set fs i e) g)
room_changed n m fs i f e g is l k h = said_of_changed (HasRoom n) (HasRoom m) fs i f e g is (λ o r. room_less n m o l r) k h

-- A function that is there has the room that it is said to have.
pub room_there : (n : ℕ) (fs : List Function) (i : ℕ) (f : Function) → i < length fs → f ≡ slice_index_or fs i f → HasRoom n (slice_get fs i) → HasRoom n (Some f)
room_there n [] i f l is h = absurd (omega (arith, l))
room_there n (x ∷ xs) zero f l is h = subst (λ y. HasRoom n (Some y)) (sym is) h
room_there n (x ∷ xs) (suc i) f l is h = room_there n xs i f (omega (arith, l)) is h

pub room_set : (n : ℕ) (fs : List Function) (i : ℕ) (e : Function) → HasRoom n (Some e) → HasRoom n (slice_get (slice_set fs i e) i)
room_set n [] i e h = tt
room_set n (x ∷ xs) zero e h = h
room_set n (x ∷ xs) (suc i) e h = room_set n xs i e h

pub no_room : (n : ℕ) (fs : List Function) (i : ℕ) → length fs ≤ i → HasRoom n (slice_get fs i)
no_room n [] i h = tt
no_room n (x ∷ xs) zero h = absurd (omega (arith, h))
no_room n (x ∷ xs) (suc i) h = no_room n xs i (omega (arith, h))

-- ---- functions that have additions

pub one_of : (b c : Bool) → (b || c) ≡ true → (b ≡ true) ⊎ (c ≡ true)
one_of true c h = inl refl
one_of false c h = inr h

-- one more of them has room
pub room_of_more : (n g : ℕ) (fs es : List Function) (xs : List GenericId) (i : ℕ) (x : GenericId) → i < length xs → x ≡ slice_index_or xs i x
    → ((h : ℕ) → is_added h (take i xs) ≡ true → HasRoom n (slice_get fs h)) → ((h : ℕ) → HasRoom n (slice_get fs h) → HasRoom n (slice_get es h)) → HasRoom n (slice_get es x.0)
    → is_added g (take (i + 1) xs) ≡ true → HasRoom n (slice_get es g)
room_of_more n g fs es xs i x l is before still here a =
    elim (one_of (is_added g (take i xs)) ((slice_index_or xs i x).0 == g) (sym (list_any_more (λ h. h.0 == g) xs i x l) ∙ a)) [
      | inl h ↦ still g (before g h)
      | inr h ↦ subst (λ m. HasRoom n (slice_get es m)) (ap (λ y. y.0) is ∙ eqb-true ((slice_index_or xs i x).0) g h) here
    ]

-- a spare more
pub spare_pushed : (n : ℕ) (ss : List Spare) (s : Spare) (k : ℕ) → HasSpare n (Some s) → ((j : ℕ) → HasSpare n (slice_get ss j)) → HasSpare n (slice_get (ss ++ s ∷ []) k)
spare_pushed n [] s zero h t = h
spare_pushed n [] s (suc k) h t = tt
spare_pushed n (x ∷ xs) s zero h t = t zero
spare_pushed n (x ∷ xs) s (suc k) h t = spare_pushed n xs s k h (λ j. t (suc j))
