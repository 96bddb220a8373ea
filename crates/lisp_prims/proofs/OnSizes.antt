-- How large the lists are that are made element by element.
use Rattle.std.proofs.Common.{◌≡◌, ◌∙◌, ◌≢◌, ◌⊎◌, inl, inr, ℕ, ◌+◌, ◌<◌, ◌≤◌, Bool, true, false, if◌then◌else◌, List, [], ◌∷◌, ◌++◌, length, map, drop, Result, Ok, Err, refl, sym, ap, subst, arith}
use Rattle.std.specs.Prelude.{max, nat_le, reverse, MatchResult}
use Rattle.std.proofs.lemmas.Bool.Decides.{leb_tells}
use Rattle.std.proofs.lemmas.List.{drop_all, reverse-append, length-reverse}
use Rattle.lisp_data.specs.Limits.{most_elements, most_nesting}
use Rattle.lisp_data.specs.Value.{Val, list, Vals, nil, cons, elements, length_of, nesting_of, nesting_in, is_within_limits}
use Rattle.lisp_data.specs.ValueView.{value_of}
use Rattle.lisp_data.specs.declared.value.Value.{Value}
use Rattle.lisp_prims.specs.Fault.{Answers, Condition, unsupported, StandsFor, given, takes_memory}
use Rattle.lisp_prims.specs.declared.fault.PrimFault.{PrimFault}
use Rattle.lisp_prims.specs.declared.fault.PrimFault.TheVariants.{Memory}
use Rattle.lisp_prims.specs.Lists.{as_value, consed, put_before, size_in, sized, AreWithinLimits}

-- how deep lists nest in these values, each with a list around it
abbrev pub deepest : List Val → ℕ
deepest [] = 0
deepest (v ∷ vs) = max (nesting_of v + 1) (deepest vs)

-- ---- what a size tells

data Tells (n d : ℕ) : Type 0 where
  fits : n ≤ most_elements → d ≤ most_nesting → sized n d ≡ Ok (n, d) → Tells n d
  long : most_elements < n → sized n d ≡ Err unsupported → Tells n d
  deep : most_nesting < d → sized n d ≡ Err unsupported → Tells n d

told_of : (n d : ℕ) (a b : Bool) → (((a ≡ true) × (n ≤ most_elements)) ⊎ ((a ≡ false) × (most_elements < n)))
    → (((b ≡ true) × (d ≤ most_nesting)) ⊎ ((b ≡ false) × (most_nesting < d)))
    → nat_le n most_elements ≡ a → nat_le d most_nesting ≡ b → Tells n d
told_of n d a b (inl p) (inl q) e f = fits p.1 q.1 (simp (e, f, p.0, q.0))
told_of n d a b (inl p) (inr q) e f = deep q.1 (simp (e, f, p.0, q.0))
told_of n d a b (inr p) q e f = long p.1 (simp (e, p.0))

tells : (n d : ℕ) → Tells n d
tells n d = told_of n d (nat_le n most_elements) (nat_le d most_nesting) (leb_tells n most_elements) (leb_tells d most_nesting) refl refl

within_by : (n d : ℕ) → Tells n d → n ≤ most_elements → d ≤ most_nesting → sized n d ≡ Ok (n, d)
within_by n d (fits p q e) h k = e
within_by n d (long p e) h k = absurd (omega arith)
within_by n d (deep p e) h k = absurd (omega arith)

pub sized-within : (n d : ℕ) → n ≤ most_elements → d ≤ most_nesting → sized n d ≡ Ok (n, d)
sized-within n d h k = within_by n d (tells n d) h k

ok_by : (n d : ℕ) (s : ℕ × ℕ) → Tells n d → Ok s ≡ sized n d → s ≡ (n, d)
ok_by n d s (fits p q e) h = cc
ok_by n d s (long p e) h = absurd cc
ok_by n d s (deep p e) h = absurd cc

sized-Ok : (n d : ℕ) (s : ℕ × ℕ) → Ok s ≡ sized n d → s ≡ (n, d)
sized-Ok n d s h = ok_by n d s (tells n d) h

more_by : (n d m e : ℕ) (c : Condition) → n ≤ m → d ≤ e → Tells n d → Tells m e → Err c ≡ sized n d → Err c ≡ sized m e
more_by n d m e c h k (fits p q i) t j = absurd cc
more_by n d m e c h k (long p i) (fits p' q' i') j = absurd (omega arith)
more_by n d m e c h k (long p i) (long p' i') j = cc
more_by n d m e c h k (long p i) (deep p' i') j = cc
more_by n d m e c h k (deep p i) (fits p' q' i') j = absurd (omega arith)
more_by n d m e c h k (deep p i) (long p' i') j = cc
more_by n d m e c h k (deep p i) (deep p' i') j = cc

sized-more : (n d m e : ℕ) (c : Condition) → n ≤ m → d ≤ e → Err c ≡ sized n d → Err c ≡ sized m e
sized-more n d m e c h k j = more_by n d m e c h k (tells n d) (tells m e) j

-- ---- lists that are made

made-size : (b : Bool) (l : Vals) → given (if b then Ok l else Err unsupported) size_in ≡ (if b then Ok (length_of l, nesting_in l) else Err unsupported)
made-size true l = refl
made-size false l = refl

pub consed-size : (v : Val) (l : Vals) → given (consed v l) size_in ≡ sized (length_of l + 1) (max (nesting_of v + 1) (nesting_in l))
consed-size v l = made-size (is_within_limits (cons v l)) (cons v l)

one_more : (v : Val) (x : Result Vals Condition) (n d : ℕ) → given x size_in ≡ sized n d → given (given x (consed v)) size_in ≡ sized (n + 1) (max (nesting_of v + 1) d)
one_more v (Ok m) n d e =
    let k : (length_of m, nesting_in m) ≡ (n, d) = sized-Ok n d (length_of m, nesting_in m) e in
    consed-size v m ∙ ap (λ (s : ℕ × ℕ). sized (s.0 + 1) (max (nesting_of v + 1) s.1)) k
one_more v (Err c) n d e = sized-more n d (n + 1) (max (nesting_of v + 1) d) c (omega arith) (omega arith) e

sized-same : (n d m e : ℕ) → n ≡ m → d ≡ e → sized n d ≡ sized m e
sized-same n d m e h k = ap (λ (i : ℕ). sized i d) h ∙ ap (λ (i : ℕ). sized m i) k

pub size-put_before : (vs : List Val) (l : Vals) → length_of l ≤ most_elements → nesting_in l ≤ most_nesting
    → given (put_before vs l) size_in ≡ sized (length vs + length_of l) (max (deepest vs) (nesting_in l))
size-put_before [] l h k =
    sym (sized-within (length_of l) (nesting_in l) h k) ∙ sized-same (length_of l) (nesting_in l) (0 + length_of l) (max 0 (nesting_in l)) (omega arith) (omega arith)
size-put_before (v ∷ vs) l h k =
    one_more v (put_before vs l) (length vs + length_of l) (max (deepest vs) (nesting_in l)) (size-put_before vs l h k)
    ∙ sized-same (length vs + length_of l + 1) (max (nesting_of v + 1) (max (deepest vs) (nesting_in l))) (length (v ∷ vs) + length_of l) (max (deepest (v ∷ vs)) (nesting_in l))
    (omega arith) (omega arith)

-- ---- the elements of a list

length-elements : (l : Vals) → length (elements l) ≡ length_of l
length-elements nil = refl
length-elements (cons v l) = let e : length (elements l) ≡ length_of l = length-elements l in omega arith

deepest-elements : (l : Vals) → deepest (elements l) ≡ nesting_in l
deepest-elements nil = refl
deepest-elements (cons v l) = ap (λ (n : ℕ). max (nesting_of v + 1) n) (deepest-elements l)

deepest-append : (vs ws : List Val) → deepest (vs ++ ws) ≡ max (deepest vs) (deepest ws)
deepest-append [] ws = omega arith
deepest-append (v ∷ vs) ws = let e : deepest (vs ++ ws) ≡ max (deepest vs) (deepest ws) = deepest-append vs ws in omega arith

deepest-reverse : (vs : List Val) → deepest (reverse vs) ≡ deepest vs
deepest-reverse [] = refl
deepest-reverse (v ∷ vs) =
    let e : deepest (reverse (v ∷ vs)) ≡ max (deepest (reverse vs)) (deepest (v ∷ [])) = ap deepest (reverse-append (v ∷ []) vs) ∙ deepest-append (reverse vs) (v ∷ []) in
    let f : deepest (reverse vs) ≡ deepest vs = deepest-reverse vs in
    omega arith

length-values : (xs : List Value) → length (map value_of xs) ≡ length xs
length-values [] = refl
length-values (x ∷ xs) = let e : length (map value_of xs) ≡ length xs = length-values xs in omega arith

pub size-values : (xs : List Value) (l : Vals) (d : ℕ) → max (deepest (map value_of xs)) (nesting_in l) ≡ d → length_of l ≤ most_elements → nesting_in l ≤ most_nesting
    → given (put_before (map value_of xs) l) size_in ≡ sized (length xs + length_of l) d
size-values xs l d e h k =
    size-put_before (map value_of xs) l h k
    ∙ sized-same (length (map value_of xs) + length_of l) (max (deepest (map value_of xs)) (nesting_in l)) (length xs + length_of l) d
    (omega (arith, length-values xs)) e

-- a loop over values has the deepest of them and of the list behind them, once none is left
pub size-told : (r : Result (ℕ × ℕ) PrimFault) (xs : List Value) (l : Vals) (n d i : ℕ) → Answers r (sized (length xs + n) d) → n ≡ length_of l
    → max (deepest (map value_of xs)) (nesting_in l) ≡ max (deepest (map value_of (drop i xs))) d → length xs ≤ i → n ≤ most_elements → nesting_in l ≤ most_nesting
    → Answers r (given (put_before (map value_of xs) l) size_in)
size-told r xs l n d i a e f g h k =
    let none : deepest (map value_of (drop i xs)) ≡ 0 = ap (λ (ys : List Value). deepest (map value_of ys)) (drop_all i xs g) in
    let all : sized (length xs + n) d ≡ given (put_before (map value_of xs) l) size_in =
    ap (λ (m : ℕ). sized (length xs + m) d) e ∙ sym (size-values xs l d (omega arith) (omega arith) k) in
    subst (λ (x : Result (ℕ × ℕ) Condition). Answers r x) all a

pub size-joined : (m l : Vals) → length_of l ≤ most_elements → nesting_in l ≤ most_nesting
    → given (put_before (elements m) l) size_in ≡ sized (length_of m + length_of l) (max (nesting_in m) (nesting_in l))
size-joined m l h k =
    size-put_before (elements m) l h k
    ∙ ap (λ (n : ℕ). sized (n + length_of l) (max (deepest (elements m)) (nesting_in l))) (length-elements m)
    ∙ ap (λ (d : ℕ). sized (length_of m + length_of l) (max d (nesting_in l))) (deepest-elements m)

pub size-reversed : (l : Vals) → given (put_before (reverse (elements l)) nil) size_in ≡ sized (length_of l) (nesting_in l)
size-reversed l =
    size-put_before (reverse (elements l)) nil (omega arith) (omega arith)
    ∙ sized-same (length (reverse (elements l)) + length_of nil) (max (deepest (reverse (elements l))) (nesting_in nil)) (length_of l) (nesting_in l)
    (omega (arith, length-reverse (elements l), length-elements l)) (omega (arith, deepest-reverse (elements l), deepest-elements l))

pub size-with : (m : Vals) (x : Result Vals Condition) (s : ℕ × ℕ) → given x size_in ≡ Ok s → AreWithinLimits s
    → given (given x (put_before (elements m))) size_in ≡ sized (length_of m + s.0) (max (nesting_in m) s.1)
size-with m (Ok l) s e h =
    let k : (length_of l, nesting_in l) ≡ s = cc in
    size-joined m l (subst (λ (t : ℕ × ℕ). t.0 ≤ most_elements) (sym k) h.0) (subst (λ (t : ℕ × ℕ). t.1 ≤ most_nesting) (sym k) h.1) ∙ ap (λ (t : ℕ × ℕ). sized (length_of m + t.0) (max (nesting_in m) t.1)) k
size-with m (Err c) s e h = absurd cc

-- ---- what takes memory

some_list : (l : Vals) → length_of l ≢ 0 → takes_memory (list l) ≡ true
some_list nil h = absurd (h refl)
some_list (cons v l) h = refl

no_list : (l : Vals) → length_of l ≡ 0 → l ≡ nil
no_list nil h = refl
no_list (cons v l) h = absurd (omega arith)

pub wanting : (x : Result Vals Condition) (s : ℕ × ℕ) → given x size_in ≡ Ok s → s.0 ≢ 0 → MatchResult (given x as_value) (λ v. takes_memory v ≡ true) (StandsFor Memory)
wanting (Ok l) s e h = some_list l (λ k. let i : (length_of l, nesting_in l) ≡ s = cc in h (ap (λ (t : ℕ × ℕ). t.0) (sym i) ∙ k))
wanting (Err c) s e h = absurd cc

pub empty : (x : Result Vals Condition) (s : ℕ × ℕ) → given x size_in ≡ Ok s → s.0 ≡ 0 → given x as_value ≡ Ok (list nil)
empty (Ok l) s e h = ap (λ (m : Vals). as_value m) (no_list l (let i : (length_of l, nesting_in l) ≡ s = cc in ap (λ (t : ℕ × ℕ). t.0) i ∙ h))
empty (Err c) s e h = absurd cc

pub ruleset sizes = (consed-size, size-values, size-reversed, size-with, wanting, empty)
