-- The lines of an input, as they are taken one after another.
use Rattle.std.proofs.Common.{◌≡◌, ◌∙◌, ℕ, ◌<◌, ◌==◌, List, [], ◌∷◌, ◌++◌, Option, Some, None, Bool, true, false, length, refl, ap, sym, subst, append_assoc, append-nil, arith}
use Rattle.std.specs.Prelude.{IfSome}
use Rattle.std.specs.Io.BufRead.{take_through, drop_through}
use Rattle.clos_prompt.specs.Prompt.{Comes, extended, lines_of}
use Rattle.clos_prompt.specs.inner.Loop.{TakesLine}

-- whether the byte before a text ends a line
begun : (b : ℕ) (text : List ℕ) (t : Bool) → (b == 10) ≡ t
    → extended b (lines_of text) ≡ (b ∷ take_through 10 text) ∷ lines_of (drop_through 10 text)
    → lines_of (b ∷ text) ≡ take_through 10 (b ∷ text) ∷ lines_of (drop_through 10 (b ∷ text))
begun b text true e h = rw e refl
begun b text false e h = rw e h

-- the first line of a text, and those of what follows it
first_line : (b : ℕ) (text : List ℕ) → lines_of (b ∷ text) ≡ take_through 10 (b ∷ text) ∷ lines_of (drop_through 10 (b ∷ text))
first_line b [] = begun b [] (b == 10) refl refl
first_line b (c ∷ text) = begun b (c ∷ text) (b == 10) refl (ap (extended b) (first_line c text))

some_byte : (b : ℕ) (text : List ℕ) (t : Bool) → (b == 10) ≡ t → 0 < length (take_through 10 (b ∷ text))
some_byte b text true e = rw e (omega arith)
some_byte b text false e = rw e (omega arith)

no_line : (text : List ℕ) → length (take_through 10 text) ≡ 0 → text ≡ []
no_line [] e = refl
no_line (b ∷ text) e =
    let some : 0 < length (take_through 10 (b ∷ text)) = some_byte b text (b == 10) refl in
    absurd (omega arith)

-- one more line was taken
pub comes_on : (known left left' : Option (List ℕ)) (lines : List (List ℕ)) (line : List ℕ) → Comes known left lines
    → TakesLine left left' line → 0 < length line → Comes known left' (lines ++ line ∷ [])
comes_on None left left' lines line c t h = tt
comes_on (Some all) None left' lines line c t h = absurd c
comes_on (Some all) (Some []) left' lines line c t h =
    let none : length line ≡ 0 = ap length t.0 in
    absurd (omega arith)
comes_on (Some all) (Some (b ∷ text)) left' lines line c t h =
    let rest = lines_of (drop_through 10 (b ∷ text)) in
    let next : lines_of (b ∷ text) ≡ line ∷ rest = first_line b text ∙ ap (λ l. l ∷ rest) (sym t.0) in
    subst (λ l. Comes (Some all) l (lines ++ line ∷ [])) (sym t.1)
    (c ∙ ap (λ l. lines ++ l) next ∙ sym (append_assoc lines (line ∷ []) rest))

-- no line is left
pub all_came : (known left left' : Option (List ℕ)) (lines : List (List ℕ)) (line : List ℕ) → Comes known left lines
    → TakesLine left left' line → length line ≡ 0 → IfSome known (λ text. lines ≡ lines_of text)
all_came None left left' lines line c t h = tt
all_came (Some all) None left' lines line c t h = absurd c
all_came (Some all) (Some text) left' lines line c t h =
    let none : text ≡ [] = no_line text (ap length (sym t.0) ∙ h) in
    sym (c ∙ ap (λ x. lines ++ lines_of x) none ∙ append-nil lines)

-- the line that would be next
pub next_one : (left : Option (List ℕ)) → (line : List ℕ) × IfSome left (λ text. line ≡ take_through 10 text)
next_one None = ([], tt)
next_one (Some text) = (take_through 10 text, refl)

pub one_taken : (left left' : Option (List ℕ)) (line : List ℕ) → TakesLine left left' line → IfSome left (λ text. line ≡ take_through 10 text)
one_taken None left' line t = tt
one_taken (Some text) left' line t = t.0
