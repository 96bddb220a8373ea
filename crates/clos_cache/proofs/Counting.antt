-- What is built are the first uses of keys that are not kept.
use Rattle.std.proofs.Common.{◌≡◌, ℕ, ◌+◌, ◌≤◌, min, List, [], ◌∷◌, Bool, true, false, ◌||◌, length, refl, ap, sym, ◌∙◌, arith}
use Rattle.std.specs.Prelude.{if◌then◌else◌}
use Rattle.std.specs.List.{list_any}
use Rattle.clos_cache.specs.Key.{Key, same_key}
use Rattle.clos_cache.specs.KeyLaws.{same_key-Decides}
use Rattle.clos_cache.specs.Uses.{CountsFirstUses, Uses, after, first_uses, keeping}

-- a key that is kept already
same_or : (b k a : Bool) → (b ≡ true → k ≡ true) → (k || a) ≡ (k || (b || a))
same_or true true a h = refl
same_or true false a h = absurd (cc (h refl))
same_or false true a h = refl
same_or false false a h = refl

-- a key that is kept now
moved_or : (b k a : Bool) → ((b || k) || a) ≡ (k || (b || a))
moved_or true true a = refl
moved_or true false a = refl
moved_or false true a = refl
moved_or false false a = refl

kept_with : (most : ℕ) (first : Key) (keys : List Key) (u : Uses) (key : Key) (b : Bool) → u.kept first ≡ b
    → ((v : Uses) → (after most keys v).kept key ≡ (v.kept key || list_any (λ k. same_key k key) keys))
    → (after most keys (if b then u else record { kept = keeping first u.kept; built = min (u.built + 1) most })).kept key
    ≡ (u.kept key || (same_key first key || list_any (λ k. same_key k key) keys))
kept_with most first keys u key true h rest =
    rest u ∙ same_or (same_key first key) (u.kept key) (list_any (λ k. same_key k key) keys)
    (λ e. ap u.kept (sym ((same_key-Decides first key).0 e)) ∙ h)
kept_with most first keys u key false h rest =
    rest (record { kept = keeping first u.kept; built = min (u.built + 1) most })
    ∙ moved_or (same_key first key) (u.kept key) (list_any (λ k. same_key k key) keys)

or_nothing : (b : Bool) → b ≡ (b || false)
or_nothing true = refl
or_nothing false = refl

kept_after : (most : ℕ) (keys : List Key) (u : Uses) (key : Key)
    → (after most keys u).kept key ≡ (u.kept key || list_any (λ k. same_key k key) keys)
kept_after most [] u key = or_nothing (u.kept key)
kept_after most (first ∷ keys) u key = kept_with most first keys u key (u.kept first) refl (λ v. kept_after most keys v key)

-- ---- how many are built

one_less : (b n most : ℕ) → b ≤ most → min (min (b + 1) most + n) most ≡ min (b + (1 + n)) most
one_less b n most h = grind (arith, h)

built_with : (most : ℕ) (first : Key) (keys : List Key) (u : Uses) (b : Bool) → u.built ≤ most
    → ((v : Uses) → v.built ≤ most → (after most keys v).built ≡ min (v.built + length (first_uses v.kept keys)) most)
    → (after most keys (if b then u else record { kept = keeping first u.kept; built = min (u.built + 1) most })).built
    ≡ min (u.built + length (if b then first_uses u.kept keys else first ∷ first_uses (keeping first u.kept) keys)) most
built_with most first keys u true h rest = rest u h
built_with most first keys u false h rest =
    let v : Uses = record { kept = keeping first u.kept; built = min (u.built + 1) most } in
    let small : min (u.built + 1) most ≤ most = omega arith in
    let n = length (first_uses (keeping first u.kept) keys) in
    let more : length (first ∷ first_uses (keeping first u.kept) keys) ≡ 1 + n = omega arith in
    rest v small ∙ one_less u.built n most h ∙ ap (λ m. min (u.built + m) most) (sym more)

built_after : (most : ℕ) (keys : List Key) (u : Uses) → u.built ≤ most
    → (after most keys u).built ≡ min (u.built + length (first_uses u.kept keys)) most
built_after most [] u h = grind (arith, h)
built_after most (first ∷ keys) u h = built_with most first keys u (u.kept first) h (λ v k. built_after most keys v k)

pub counts_first_uses : CountsFirstUses
counts_first_uses most keys u h = (kept_after most keys u, built_after most keys u h)
