-- Names that stand twice.
use Rattle.std.proofs.Common.{◌≡◌, Bool, true, false, List, [], ◌∷◌, refl, ap, sym, ◌∙◌}
use Rattle.std.specs.Prelude.{not, ◌||◌, cond}
use Rattle.std.specs.List.{list_any}
use Rattle.lisp_data.specs.Name.{Name, same_name}
use Rattle.clos_hierarchy.specs.Table.{has_twice}

-- whether one of these was seen, or stands twice among them
abbrev pub seen_or_twice : (Name → Bool) → List Name → Bool
seen_or_twice seen ns = list_any seen ns || has_twice ns

none_any : (seen : Name → Bool) (ns : List Name) → ((n : Name) → seen n ≡ false) → list_any seen ns ≡ false
none_any seen [] h = refl
none_any seen (n ∷ ns) h = ap (λ b. b || list_any seen ns) (h n) ∙ none_any seen ns h

pub none_seen : (seen : Name → Bool) (ns : List Name) → ((n : Name) → seen n ≡ false) → seen_or_twice seen ns ≡ has_twice ns
none_seen seen ns h = ap (λ b. b || has_twice ns) (none_any seen ns h)

cond_is_or : (a b : Bool) → cond a true b ≡ (a || b)
cond_is_or true b = refl
cond_is_or false b = refl

between : (a b c d : Bool) → ((a || b) || (c || d)) ≡ ((a || c) || (b || d))
between true b c d = refl
between false true true d = refl
between false true false d = refl
between false false c d = refl

any_more : (old new : Name → Bool) (n : Name) (ns : List Name) → ((q : Name) → new q ≡ cond (same_name n q) true (old q)) → list_any new ns ≡ (list_any (same_name n) ns || list_any old ns)
any_more old new n [] h = refl
any_more old new n (m ∷ ns) h =
    ap (λ b. b || list_any new ns) (h m ∙ cond_is_or (same_name n m) (old m))
    ∙ (ap (λ b. (same_name n m || old m) || b) (any_more old new n ns h) ∙ between (same_name n m) (old m) (list_any (same_name n) ns) (list_any old ns))

turned : (a b c : Bool) → ((a || b) || c) ≡ (b || (a || c))
turned true true c = refl
turned true false c = refl
turned false b c = refl

-- one that was not seen is seen now
pub one_seen : (old new : Name → Bool) (n : Name) (ns : List Name) → old n ≡ false → ((q : Name) → new q ≡ cond (same_name n q) true (old q)) → seen_or_twice new ns ≡ seen_or_twice old (n ∷ ns)
one_seen old new n ns e h =
    ap (λ b. b || has_twice ns) (any_more old new n ns h)
    ∙ (turned (list_any (same_name n) ns) (list_any old ns) (has_twice ns) ∙ ap (λ b. (b || list_any old ns) || has_twice (n ∷ ns)) (sym e))

pub was_not_seen : (is_new b : Bool) → is_new ≡ not b → is_new ≡ true → b ≡ false
was_not_seen is_new true e h = cc
was_not_seen is_new false e h = refl
