-- Whether a line has ended, and lines that are told.
use Rattle.std.proofs.Common.{◌≡◌, ℕ, ◌-◌, ◌<◌, ◌==◌, suc, get_or, append-nil, List, [], ◌∷◌, ◌++◌, length, refl, ap, sym, ◌∙◌, arith, append_assoc}
use Rattle.clos_transcript.specs.Told.{ends_line}

-- nothing was written
pub nothing_more : (out xs : List ℕ) → length xs ≡ 0 → ends_line (out ++ xs) ≡ ends_line out
nothing_more out [] e = ap ends_line (append-nil out)
nothing_more out (x ∷ xs) e = absurd (omega arith)

last_alone : (out : List ℕ) (x : ℕ) → ends_line (out ++ x ∷ []) ≡ (x == 10)
last_alone [] x = refl
last_alone (a ∷ []) x = refl
last_alone (a ∷ b ∷ out) x = last_alone (b ∷ out) x

-- the last byte decides whether a line has ended
pub last_byte : (out xs : List ℕ) → 0 < length xs → ends_line (out ++ xs) ≡ (get_or xs (length xs - 1) 0 == 10)
last_byte out [] h = absurd (omega arith)
last_byte out (x ∷ []) h = last_alone out x
last_byte out (x ∷ y ∷ ys) h =
    let e : length (x ∷ y ∷ ys) - 1 ≡ suc (length (y ∷ ys) - 1) = omega arith in
    ap ends_line (sym (append_assoc out (x ∷ []) (y ∷ ys))) ∙ last_byte (out ++ x ∷ []) (y ∷ ys) (omega arith)
    ∙ ap (λ k. get_or (x ∷ y ∷ ys) k 0 == 10) (sym e)

pub storage_told : (out piece a b d : List ℕ) (x : List ℕ) → out ++ piece ≡ x → out ++ (((piece ++ a) ++ b) ++ d) ≡ x ++ (a ++ (b ++ d))
storage_told out piece a b d x e = simp append_assoc (sym (append_assoc out piece (a ++ (b ++ d))) ∙ ap (λ z. z ++ (a ++ (b ++ d))) e)
