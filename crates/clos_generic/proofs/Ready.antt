-- The memory that is reserved, as the table changes.
use Rattle.std.proofs.Common.{◌≡◌, ℕ, zero, suc, ◌+◌, ◌≤◌, List, [], ◌∷◌, ◌++◌, Some, None, Bool, true, false, length, arith, map, refl, ap, sym, ◌∙◌, subst, true≢false}
use Rattle.std.specs.Prelude.{◌==◌, ◌||◌, slice_get, vec_len, vec_capacity, if◌then◌else◌}
use Rattle.std.specs.declared.alloc.Global.{Global}
use Rattle.std.specs.declared.vec.Vec.{Vec}
use Rattle.lisp_data.specs.declared.ids.GenericId.{GenericId}
use Rattle.clos_method.specs.declared.method.Method.{Method}
use Rattle.clos_generic.specs.inner.Reserved.{HasRoom, HasSpare, IsReady, first_if, ids_of, is_added, keys_of}
use Rattle.clos_generic.specs.Held.{after_first, is_first}
use Rattle.clos_generic.specs.declared.function.Function.{Function}
use Rattle.clos_generic.specs.declared.spare.Spare.{Spare}
use Rattle.clos_generic.proofs.Rooms.{room_less, room_pushed, spare_less}

-- ---- the first of a list

first_by : {X : Type 0} (b : Bool) (x y : X) → Some x ≡ (if b then Some y else None) → (b ≡ true) × (y ≡ x)
first_by true x y e = (refl, cc)
first_by false x y e = absurd (cc e)

pub first_there : {X : Type 0} (p : X → Bool) (xs : List X) (x : X) → Some x ≡ first_if p xs → xs ≡ x ∷ after_first p xs
first_there p [] x e = absurd (cc e)
first_there p (y ∷ ys) x e =
    let f = first_by (p y) x y e in
    ap (λ z. z ∷ ys) f.1 ∙ ap (λ b. x ∷ (if b then ys else [])) (sym f.0)

pub first_passes : {X : Type 0} (p : X → Bool) (xs : List X) (x : X) → Some x ≡ first_if p xs → p x ≡ true
first_passes p [] x e = absurd (cc e)
first_passes p (y ∷ ys) x e = let f = first_by (p y) x y e in ap p (sym f.1) ∙ f.0

no_more : {X : Type 0} (p : X → Bool) (xs : List X) → length (after_first p xs) ≤ length xs
no_more p [] = omega arith
no_more p (x ∷ xs) = elim (p x) as (λ b. length (if b then xs else []) ≤ length (x ∷ xs)) [ true ↦ omega arith | false ↦ omega arith ]

no_spare : (n k : ℕ) → HasSpare n (slice_get [] k)
no_spare n k = tt

spares_after : (n : ℕ) (p : Spare → Bool) (ss : List Spare) → ((k : ℕ) → HasSpare n (slice_get ss k)) → (k : ℕ) → HasSpare n (slice_get (after_first p ss) k)
spares_after n p [] h k = h k
spares_after n p (s ∷ ss) h k = elim (p s) as (λ b. HasSpare n (slice_get (if b then ss else []) k)) [ true ↦ h (suc k) | false ↦ no_spare n k ]

module _ (F E : Vec Function Global) (a b : ℕ) (M : Vec Method Global) (ss : List Spare) (A : List GenericId) where
  -- a function is changed, and a definition of this kind is past
  pub ready_redefined : (p : Spare → Bool) (rest : List Spare) → IsReady F a b M ss A → rest ≡ after_first p ss → vec_len E ≡ vec_len F → vec_capacity E ≡ vec_capacity F
      → ((n g : ℕ) → HasRoom n (slice_get F.items g) → HasRoom n (slice_get E.items g)) → IsReady E a b M rest A
  ready_redefined p rest r e l c h =
      let m : length rest ≤ length ss = subst (λ x. length x ≤ length ss) (sym e) (no_more p ss) in
      record {
        functions_fit = omega (arith, r.functions_fit, m, l, c);
        symbols_fit = omega (arith, r.symbols_fit, m);
        setters_fit = omega (arith, r.setters_fit, m);
        methods_fit = r.methods_fit;
        rooms = λ g i. h (length A) g (r.rooms g i);
        spare_rooms = subst (λ x. (k : ℕ) → HasSpare (length A) (slice_get x k)) (sym e) (spares_after (length A) p ss r.spare_rooms);
      }

  -- a function is changed, and all methods may have more memory
  pub ready_changed : (N : Vec Method Global) → IsReady F a b M ss A → vec_len E ≡ vec_len F → vec_capacity E ≡ vec_capacity F → vec_len N ≡ vec_len M → vec_capacity M ≤ vec_capacity N
      → ((n g : ℕ) → HasRoom n (slice_get F.items g) → HasRoom n (slice_get E.items g)) → IsReady E a b N ss A
  ready_changed N r l c m d h = record {
    functions_fit = omega (arith, r.functions_fit, l, c);
    symbols_fit = r.symbols_fit;
    setters_fit = r.setters_fit;
    methods_fit = omega (arith, r.methods_fit, m, d);
    rooms = λ g i. h (length A) g (r.rooms g i);
    spare_rooms = r.spare_rooms;
  }

  -- A function is made from the first spare.
  pub ready_made : (s : Spare) (rest : List Spare) (f : Function) (x y : ℕ) → IsReady F a b M ss A → ss ≡ s ∷ rest → vec_len E ≡ vec_len F + 1 → vec_capacity E ≡ vec_capacity F
      → E.items ≡ F.items ++ f ∷ [] → f.methods ≡ s.methods → a ≤ x + 1 → b ≤ y + 1 → IsReady E x y M rest A
  ready_made s rest f x y r e l c i m d o =
      let n : length ss ≡ suc (length rest) = ap length e in
      let spares : (k : ℕ) → HasSpare (length A) (slice_get (s ∷ rest) k) = subst (λ z. (k : ℕ) → HasSpare (length A) (slice_get z k)) e r.spare_rooms in
      let t : HasSpare (length A) (Some s) = spares zero in
      let len : vec_len s.methods ≡ 0 = s.methods.ok.0 ∙ ap length t.0 in
      let room : HasRoom (length A) (Some f) = subst (λ v. vec_len v + length A ≤ vec_capacity v) (sym m) (omega (arith, len, t.1)) in
      record {
        functions_fit = omega (arith, r.functions_fit, n, l, c);
        symbols_fit = omega (arith, r.symbols_fit, n, d);
        setters_fit = omega (arith, r.setters_fit, n, o);
        methods_fit = r.methods_fit;
        rooms = λ g h. subst (λ z. HasRoom (length A) (slice_get z g)) (sym i) (room_pushed (length A) F.items f g room (r.rooms g h));
        spare_rooms = λ k. spares (suc k);
      }

pub or_true : (c d : Bool) → d ≡ true → (c || d) ≡ true
or_true true d h = refl
or_true false d h = h

module _ (F E : Vec Function Global) (a b : ℕ) (M N : Vec Method Global) (ss : List Spare) where
  -- A method is added.
  pub ready_added : (p : GenericId → Bool) (A rest : List GenericId) → IsReady F a b M ss A → rest ≡ after_first p A → vec_len E ≡ vec_len F → vec_capacity E ≡ vec_capacity F
      → vec_len N ≡ vec_len M + 1 → vec_capacity M ≤ vec_capacity N → vec_len N ≤ vec_capacity N
      → ((n g : ℕ) → HasRoom (n + 1) (slice_get F.items g) → HasRoom n (slice_get E.items g)) → IsReady E a b N ss rest
  ready_added p A rest r e l c m d o h = subst (λ x. IsReady E a b N ss x) (sym e) (by A r)
    where
      none : (A : List GenericId) → IsReady F a b M ss A → IsReady E a b N ss []
      none A r = record {
        functions_fit = omega (arith, r.functions_fit, l, c);
        symbols_fit = r.symbols_fit;
        setters_fit = r.setters_fit;
        methods_fit = omega (arith, o);
        rooms = λ g i. absurd (true≢false (sym i));
        spare_rooms = λ k. spare_less (length A) 0 (slice_get ss k) (omega arith) (r.spare_rooms k);
      }

      one : (x : GenericId) (xs : List GenericId) → IsReady F a b M ss (x ∷ xs) → IsReady E a b N ss xs
      one x xs r = record {
        functions_fit = omega (arith, r.functions_fit, l, c);
        symbols_fit = r.symbols_fit;
        setters_fit = r.setters_fit;
        methods_fit = omega (arith, r.methods_fit, m, d);
        rooms = λ g i. h (length xs) g (room_less (length (x ∷ xs)) (length xs + 1) (slice_get F.items g) (omega arith) (r.rooms g (or_true (x.0 == g) (is_added g xs) i)));
        spare_rooms = λ k. spare_less (length (x ∷ xs)) (length xs) (slice_get ss k) (omega arith) (r.spare_rooms k);
      }

      by : (A : List GenericId) → IsReady F a b M ss A → IsReady E a b N ss (after_first p A)
      by [] r = none [] r
      by (x ∷ xs) r = elim (p x) as (λ q. IsReady E a b N ss (if q then xs else [])) [ true ↦ one x xs r | false ↦ none (x ∷ xs) r ]

-- Nothing is reserved.
pub ready_idle : (E : Vec Function Global) (x y : ℕ) (N : Vec Method Global) (ss : List Spare) (A : List GenericId) → ss ≡ [] → A ≡ [] → IsReady E x y N ss A
ready_idle E x y N ss A e h =
    let none : IsReady E x y N [] [] = record {
      functions_fit = omega (arith, E.ok.1);
      symbols_fit = omega arith;
      setters_fit = omega arith;
      methods_fit = omega (arith, N.ok.1);
      rooms = λ g i. absurd (true≢false (sym i));
      spare_rooms = λ k. no_spare 0 k;
    } in
    subst (λ l. IsReady E x y N l A) (sym e) (subst (λ l. IsReady E x y N [] l) (sym h) none)

none_of_map : {X Y : Type 0} (f : X → Y) (xs : List X) → map f xs ≡ [] → xs ≡ []
none_of_map f [] e = refl
none_of_map f (x ∷ xs) e = absurd (cc e)

pub no_spares : (ss : List Spare) → keys_of ss ≡ [] → ss ≡ []
no_spares ss e = none_of_map (λ (s : Spare). s.key) ss e

pub no_additions : (A : List GenericId) → ids_of A ≡ [] → A ≡ []
no_additions A e = none_of_map (λ (g : GenericId). g.0) A e

-- The first of the additions has room.
pub first_room : (fs : List Function) (A : List GenericId) (ns : List ℕ) (g : ℕ) → ids_of A ≡ ns → is_first (λ h. h == g) ns ≡ true
    → ((h : ℕ) → is_added h A ≡ true → HasRoom (length A) (slice_get fs h)) → HasRoom 1 (slice_get fs g)
first_room fs A ns g e i h = by A (subst (λ x. is_first (λ h. h == g) x ≡ true) (sym e) i) h
  where
    by : (A : List GenericId) → is_first (λ h. h == g) (ids_of A) ≡ true → ((h : ℕ) → is_added h A ≡ true → HasRoom (length A) (slice_get fs h)) → HasRoom 1 (slice_get fs g)
    by [] i h = absurd (true≢false (sym i))
    by (x ∷ xs) i h = room_less (length (x ∷ xs)) 1 (slice_get fs g) (omega arith) (h g (ap (λ b. b || is_added g xs) i))
