-- Writers that keep whether a line has ended.
use Rattle.std.proofs.Common.{◌≡◌, ℕ, ◌+◌, ◌-◌, ◌≤◌, ◌&&◌, not, if◌then◌else◌, List, [], ◌∷◌, ◌++◌, Option, Some, None, Bool, true, false, length, drop, nat_lt, refl, ap, ◌∙◌, arith}
use Rattle.std.specs.Io.KnownBytes.{Appends, Keeps}
use Rattle.std.proofs.lemmas.Bool.{ltb-false, le-ltb}
use Rattle.std.proofs.lemmas.List.{drop-append-le, drop_all, length-append}
use Rattle.clos_ending.specs.clos_system.clos_transcript.Told.{ends_line}
use Rattle.clos_program.specs.Lines.{is_lined, is_same, lined}

low : (b s : Bool) → (not b && s) ≡ true → b ≡ false
low true s h = cc
low false s h = refl

high : (b s : Bool) → (not b && s) ≡ true → s ≡ true
high true s h = cc
high false s h = h

same : (b : Bool) → is_same b b ≡ true
same true = refl
same false = refl

-- these bytes come after those that are there
kept : (all bs : List ℕ) (count : ℕ) (more : Bool) → count ≤ length all
    → more ≡ ends_line (drop (length all - count) all ++ bs) → is_lined (count + length bs) more (all ++ bs) ≡ true
kept all bs count more le h =
    let start : length (all ++ bs) - (count + length bs) ≡ length all - count = omega (arith, length-append all bs) in
    let few : nat_lt (length (all ++ bs)) (count + length bs) ≡ false =
    le-ltb (length (all ++ bs)) (count + length bs) (omega (arith, length-append all bs)) in
    let came : drop (length all - count) (all ++ bs) ≡ drop (length all - count) all ++ bs =
    drop-append-le (length all - count) all bs (omega arith) in
    rw (few, start, came, h) (same (ends_line (drop (length all - count) all ++ bs)))

lined_all : (count : ℕ) (fresh : Bool) (all : List ℕ) → is_lined count fresh all ≡ true
    → lined count fresh (Some all) ≡ Some ((length all - count) ∷ all)
lined_all count fresh all h = rw h refl

-- what is appended to the one is appended to the other
pub goes_on : (known new : Option (List ℕ)) (count : ℕ) (fresh more : Bool) (bs : List ℕ) → Appends known new bs
    → ((out : List ℕ) → more ≡ ends_line (out ++ bs)) → Appends (lined count fresh known) (lined (count + length bs) more new) bs
goes_on None new count fresh more bs a h = tt
goes_on (Some all) None count fresh more bs a h = absurd a
goes_on (Some all) (Some new) count fresh more bs a h = go (is_lined count fresh all) refl
  where
    go : (b : Bool) → is_lined count fresh all ≡ b → Appends (lined count fresh (Some all)) (lined (count + length bs) more (Some new)) bs
    go false e = rw e tt
    go true e =
        let le : count ≤ length all = ltb-false (length all) count (low _ _ e) in
        let k : is_lined (count + length bs) more (all ++ bs) ≡ true = kept all bs count more le (h (drop (length all - count) all)) in
        let start : length (all ++ bs) - (count + length bs) ≡ length all - count = omega (arith, length-append all bs) in
        let to : lined (count + length bs) more (Some new) ≡ Some ((length all - count) ∷ (all ++ bs)) =
        ap (λ l. lined (count + length bs) more (Some l)) a ∙ lined_all (count + length bs) more (all ++ bs) k
        ∙ ap (λ n. Some (n ∷ (all ++ bs))) start in
        rw (lined_all count fresh all e, to) refl

told_same : (a b : Bool) → is_same a b ≡ true → a ≡ b
told_same true true h = refl
told_same true false h = cc
told_same false true h = cc
told_same false false h = refl

-- What is known of the one is what the other holds, and whether a line has ended with what came.
pub held : (count : ℕ) (fresh : Bool) (known : Option (List ℕ)) (n : ℕ) (all : List ℕ) → lined count fresh known ≡ Some (n ∷ all)
    → (known ≡ Some all) × (fresh ≡ ends_line (drop n all))
held count fresh None n all e = cc
held count fresh (Some bs) n all e = go (is_lined count fresh bs) refl e
  where
    go : (b : Bool) → is_lined count fresh bs ≡ b → (if b then Some ((length bs - count) ∷ bs) else None) ≡ Some (n ∷ all)
        → (◌≡◌ {A = Option (List ℕ)} (Some bs) (Some all)) × (fresh ≡ ends_line (drop n all))
    go false is e = cc
    go true is e =
        let first : length bs - count ≡ n = cc in
        let rest : bs ≡ all = cc in
        (ap Some rest, rw (← first, ← rest) (told_same fresh (ends_line (drop (length bs - count) bs)) (high _ _ is)))

-- nothing came yet
pub new_lined : (all : List ℕ) → lined 0 true (Some all) ≡ Some (length all ∷ all)
new_lined all =
    let none : length all - 0 ≡ length all = omega arith in
    let past : drop (length all) all ≡ [] = drop_all (length all) all (omega arith) in
    let few : nat_lt (length all) 0 ≡ false = le-ltb (length all) 0 (omega arith) in
    let is : is_lined 0 true all ≡ true = rw (few, none, past) refl in
    lined_all 0 true all is ∙ ap (λ n. Some (n ∷ all)) none

-- what came
pub came : (old : List ℕ) (known : Option (List ℕ)) (bs : List ℕ) → Appends (Some old) known bs → known ≡ Some (old ++ bs)
came old None bs a = absurd a
came old (Some all) bs a = ap Some a

pub stayed : (old : List ℕ) (known : Option (List ℕ)) → Keeps (Some old) known → known ≡ Some old
stayed old None a = absurd a
stayed old (Some all) a = ap Some a
