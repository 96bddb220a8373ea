-- Steps of printing: what waits on the stack, and a method's lists from a place on.
use Rattle.std.proofs.Common.{◌≡◌, ℕ, zero, suc, ◌+◌, ◌*◌, ◌<◌, arith, length, Bool, List, [], ◌∷◌, ◌++◌, drop, map, refl, ap, ◌∙◌, sym, add-one}
use Rattle.std.proofs.lemmas.List.{append_assoc, append-nil, length-append}
use Rattle.std.proofs.lemmas.Option.{none-some}
use Rattle.std.specs.Prelude.{Option, Some, None, option_map, slice_get, codes, unwrap_or, MatchOption, Result, Ok, Err, is_ok, OnOk, if◌then◌else◌}
use Rattle.std.specs.Borrow.{Bor}
use Rattle.lisp_data.specs.Value.{Val}
use Rattle.lisp_data.specs.ValueView.{value_of}
use Rattle.lisp_data.specs.Print.{Names, Specializer, spaced, list_text, text_with, specializer_text, lists_text, methods_within}
use Rattle.lisp_data.specs.PrintView.{pending, piece_text, specializer_told, Prints}
use Rattle.lisp_data.specs.declared.value.Value.{Value}
use Rattle.lisp_data.specs.declared.naming.Specializer as told
use Rattle.lisp_data.specs.declared.print.Piece.{Piece}

-- what is pushed comes first
pub pending_pushed : (readably : Bool) (names : Names) (ps : List Piece) (p : Piece) → pending readably names (ps ++ p ∷ []) ≡ piece_text readably names p ++ pending readably names ps
pending_pushed readably names [] p = sym (append-nil (piece_text readably names p))
pending_pushed readably names (q ∷ ps) p =
    ap (λ t. t ++ piece_text readably names q) (pending_pushed readably names ps p)
    ∙ append_assoc (piece_text readably names p) (pending readably names ps) (piece_text readably names q)

some_same : {A : Type 0} (x y : A) → Some x ≡ Some y → x ≡ y
some_same x y e = ap (λ o. unwrap_or o x) e

drop_end : {A : Type 0} (xs : List A) (i : ℕ) → slice_get xs i ≡ None → drop i xs ≡ []
drop_end [] zero e = refl
drop_end [] (suc i) e = refl
drop_end (x ∷ xs) zero e = absurd (none-some x (sym e))
drop_end (x ∷ xs) (suc i) e = drop_end xs i e

drop_more : {A : Type 0} (xs : List A) (i : ℕ) (y : A) → slice_get xs i ≡ Some y → drop i xs ≡ y ∷ drop (suc i) xs
drop_more [] i y e = absurd (none-some y e)
drop_more (x ∷ xs) zero y e = ap (λ z. z ∷ xs) (some_same x y e)
drop_more (x ∷ xs) (suc i) y e = drop_more xs i y e

module _ (names : Names) (depth : ℕ) where
  abbrev value_in : Bool → Val → List ℕ
  value_in readably = text_with readably names (methods_within readably names depth)

  abbrev each : Bool → Specializer → List ℕ
  each readably = specializer_text readably names (methods_within readably names depth)

  abbrev lists : Bool → List Val → List Specializer → List ℕ
  lists readably = lists_text readably names (methods_within readably names depth)

  pub qualifiers_told : (r : Option (Bor Value)) (qs : List Val) (ss : List Specializer) (place : ℕ) → option_map (λ (v : Bor Value). value_of v.now) r ≡ slice_get qs place
      → MatchOption r ((readably : Bool) → lists readably (drop place qs) ss ≡ codes " " ++ (list_text (map (each readably) ss) ++ codes ">"))
      (λ v. (readably : Bool) → lists readably (drop place qs) ss ≡ codes " " ++ (value_in readably (value_of v.now) ++ lists readably (drop (place + 1) qs) ss))
  qualifiers_told None qs ss place e = λ readably. ap (λ l. lists readably l ss) (drop_end qs place (sym e))
  qualifiers_told (Some v) qs ss place e = λ readably.
      ap (λ l. lists readably l ss) (drop_more qs place (value_of v.now) (sym e) ∙ ap (λ i. value_of v.now ∷ drop i qs) (sym (add-one place)))
      ∙ ap (λ t. codes " " ++ t) (append_assoc (value_in readably (value_of v.now)) (spaced (map (value_in readably) (drop (place + 1) qs))) (codes " " ++ (list_text (map (each readably) ss) ++ codes ">")))

  pub specializers_told : (r : Option told.Specializer) (ss : List Specializer) (place : ℕ) → option_map specializer_told r ≡ slice_get ss place
      → MatchOption r ((readably : Bool) → spaced (map (each readably) (drop place ss)) ++ codes ")>" ≡ codes ")>")
      (λ s. (readably : Bool) → spaced (map (each readably) (drop place ss)) ++ codes ")>" ≡ codes " " ++ (each readably (specializer_told s) ++ (spaced (map (each readably) (drop (place + 1) ss)) ++ codes ")>")))
  specializers_told None ss place e = λ readably. ap (λ l. spaced (map (each readably) l) ++ codes ")>") (drop_end ss place (sym e))
  specializers_told (Some s) ss place e = λ readably.
      ap (λ l. spaced (map (each readably) l) ++ codes ")>") (drop_more ss place (specializer_told s) (sym e) ∙ ap (λ i. specializer_told s ∷ drop i ss) (sym (add-one place)))
      ∙ ap (λ t. codes " " ++ t) (append_assoc (each readably (specializer_told s)) (spaced (map (each readably) (drop (place + 1) ss))) (codes ")>"))

  first_list : (readably : Bool) (ss : List Specializer) (t : List ℕ) → list_text (t ∷ map (each readably) ss) ++ codes ">" ≡ codes "(" ++ (t ++ (spaced (map (each readably) ss) ++ codes ")>"))
  first_list readably ss t =
      ap (λ u. codes "(" ++ u) (append_assoc t (spaced (map (each readably) ss) ++ codes ")") (codes ">") ∙ ap (λ u. t ++ u) (append_assoc (spaced (map (each readably) ss)) (codes ")") (codes ">")))

  pub first_told : (r : Option told.Specializer) (ss : List Specializer) → option_map specializer_told r ≡ slice_get ss 0
      → MatchOption r ((readably : Bool) → list_text (map (each readably) ss) ++ codes ">" ≡ codes "NIL>")
      (λ s. (readably : Bool) → list_text (map (each readably) ss) ++ codes ">" ≡ codes "(" ++ (each readably (specializer_told s) ++ (spaced (map (each readably) (drop 1 ss)) ++ codes ")>")))
  first_told None [] e = λ readably. refl
  first_told None (x ∷ ss) e = absurd (none-some x e)
  first_told (Some s) [] e = absurd (none-some (specializer_told s) (sym e))
  first_told (Some s) (x ∷ ss) e = λ readably.
      ap (λ z. list_text (map (each readably) (z ∷ ss)) ++ codes ">") (some_same x (specializer_told s) (sym e)) ∙ first_list readably ss (each readably (specializer_told s))

pub ok_from_if : {T E A : Type 0} (r : Result T E) (x a b : A) → x ≡ (if is_ok r then a else b) → OnOk r (x ≡ a)
ok_from_if (Ok t) x a b e = e
ok_from_if (Err f) x a b e = tt

-- a turn of the loop: what it took off the stack was written, or waits
pub turn_prints : (readably : Bool) (names : Names) (p : Piece) (text out out' : List ℕ) (old ps ps' : List Piece)
    → old ≡ ps ++ p ∷ [] → out ++ pending readably names old ≡ text → Prints readably names (piece_text readably names p) out ps out' ps'
    → out' ++ pending readably names ps' ≡ text
turn_prints readably names p text out out' old ps ps' popped before printed =
    printed.0 ∙ ap (λ t. out ++ t) (sym (ap (pending readably names) popped ∙ pending_pushed readably names ps p)) ∙ before

pub turn_pays : (readably : Bool) (names : Names) (p : Piece) (out out' : List ℕ) (old ps ps' : List Piece)
    → old ≡ ps ++ p ∷ [] → Prints readably names (piece_text readably names p) out ps out' ps'
    → 2 * length (pending readably names ps') + length ps' < 2 * length (pending readably names old) + length old
turn_pays readably names p out out' old ps ps' popped printed =
    let pushed = ap (pending readably names) popped ∙ pending_pushed readably names ps p in
    let one : length old ≡ length ps + 1 = ap length popped ∙ length-append ps (p ∷ []) in
    let all : length out' + length (pending readably names ps') ≡ length out + length (pending readably names old) =
    sym (length-append out' (pending readably names ps')) ∙ ap length (printed.0 ∙ ap (λ t. out ++ t) (sym pushed)) ∙ length-append out (pending readably names old) in
    omega (arith, one, all, printed.1)
