-- A set of the names that stand behind a place, and what is known of those names.
use Rattle.std.proofs.Common.{◌≡◌, ◌+◌, ◌<◌, ◌≤◌, ℕ, zero, suc, Bool, true, false, List, [], ◌∷◌, length, drop, get_or, refl, ap, sym, subst, ◌∙◌, arith}
use Rattle.std.proofs.lemmas.List.{drop_more}
use Rattle.std.specs.Prelude.{not, ◌&&◌, ◌||◌, cond}
use Rattle.std.specs.List.{list_any}
use Rattle.lisp_data.specs.Name.{Name, same_name}
use Rattle.clos_forms.specs.Distinct.{are_distinct}

-- whether a name is one of these
abbrev pub has : List Name → Name → Bool
has ns n = list_any (λ m. same_name m n) ns

pub cond_is_or : (a b : Bool) → cond a true b ≡ (a || b)
cond_is_or true b = refl
cond_is_or false b = refl

-- one more name
pub has_more : (ns : List Name) (i : ℕ) (n q : Name) → i < length ns → n ≡ get_or ns i n → has (drop i ns) q ≡ cond (same_name n q) true (has (drop (i + 1) ns) q)
has_more ns i n q lt e =
    ap (λ l. has l q) (drop_more ns i n lt ∙ ap (λ m. m ∷ drop (i + 1) ns) (sym e)) ∙ sym (cond_is_or (same_name n q) (has (drop (i + 1) ns) q))

and_so : (a b : Bool) → a ≡ false → b ≡ true → (not a && b) ≡ true
and_so true b h g = sym h
and_so false b h g = g

elim_false : false ≡ true → ⊥
elim_false h = let P : Bool → Type 0 = λ b. cond b ⊥ (Unit {0}) in subst P h tt

not_so : (a b : Bool) → a ≡ true → (not a && b) ≡ false
not_so true b h = refl
not_so false b h = absurd (elim_false h)

-- a name that is none of those behind it
pub distinct_more : (ns : List Name) (i : ℕ) (n : Name) → i < length ns → n ≡ get_or ns i n → has (drop (i + 1) ns) n ≡ false → are_distinct (drop (i + 1) ns) ≡ true → are_distinct (drop i ns) ≡ true
distinct_more ns i n lt e h g =
    ap are_distinct (drop_more ns i n lt ∙ ap (λ m. m ∷ drop (i + 1) ns) (sym e))
    ∙ and_so (has (drop (i + 1) ns) n) (are_distinct (drop (i + 1) ns)) h g

-- a name that is one of those behind it
pub twice : (ns : List Name) (i : ℕ) (n : Name) → i < length ns → n ≡ get_or ns i n → has (drop (i + 1) ns) n ≡ true → are_distinct (drop i ns) ≡ false
twice ns i n lt e h =
    ap are_distinct (drop_more ns i n lt ∙ ap (λ m. m ∷ drop (i + 1) ns) (sym e))
    ∙ not_so (has (drop (i + 1) ns) n) (are_distinct (drop (i + 1) ns)) h

and_false : (a b : Bool) → b ≡ false → (a && b) ≡ false
and_false true b h = h
and_false false b h = refl

-- what stands twice behind a place stands twice
pub all_twice : (ns : List Name) (i : ℕ) → are_distinct (drop i ns) ≡ false → are_distinct ns ≡ false
all_twice ns zero h = h
all_twice [] (suc i) h = h
all_twice (n ∷ ns) (suc i) h = and_false (not (has ns n)) (are_distinct ns) (all_twice ns i h)

is_so : (b : Bool) → not b ≡ false → b ≡ true
is_so true h = refl
is_so false h = sym h

-- a name that a set of those behind it has
pub found_twice : (ns : List Name) (i k : ℕ) (n : Name) (b : Bool) → i + 1 ≡ k → k ≤ length ns → n ≡ get_or ns i n → b ≡ has (drop k ns) n → not b ≡ false → are_distinct ns ≡ false
found_twice ns i k n b e le g h f =
    let lt : i < length ns = omega (arith, e, le) in
    all_twice ns i (twice ns i n lt g (ap (λ j. has (drop j ns) n) e ∙ sym h ∙ is_so b f))
