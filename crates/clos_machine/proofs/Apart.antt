-- Lexical names that differ.
use Rattle.std.proofs.Common.{◌≡◌, ◌<◌, ℕ, suc, drop, take, get_or, List, [], ◌∷◌, ◌++◌, map, reverse, length, refl, ap, ◌∙◌, sym, subst, true, false, true≢false, Option, Some, None, is_some, option_map}
use Rattle.std.specs.Prelude.{if◌then◌else◌}
use Rattle.std.proofs.Math.Seq.{drop-cons}
use Rattle.std.proofs.lemmas.List.{map-append, reverse-append, take-append-drop}
use Rattle.lisp_data.specs.KeyLaws.{same_name-Decides}
use Rattle.lisp_data.specs.Name.{Name, same_name}
use Rattle.lisp_data.specs.Value.{Val}
use Rattle.clos_meaning.specs.clos_world.World.{Denoted, held, local_named}
use Rattle.clos_meaning.specs.Assignment.{with_local}
use Rattle.clos_machine.specs.LocalsView.{AreApart, AreOthers, denoted_of, local_of}
use Rattle.clos_machine.specs.declared.locals.Local.{Local}
use Rattle.clos_machine.proofs.Lists.{named_past, split_at, turned_round}

apart_outer : (xs ys : List (Name × Denoted)) → AreApart (xs ++ ys) → AreApart ys
apart_outer [] ys h = h
apart_outer (x ∷ xs) ys h = apart_outer xs ys h.1

-- where only so many of the outermost stay
pub apart_left : (n : ℕ) (xs : List Local) → AreApart (reverse (map local_of xs)) → AreApart (reverse (map local_of (take n xs)))
apart_left n xs h =
    let split : reverse (map local_of xs) ≡ reverse (map local_of (drop n xs)) ++ reverse (map local_of (take n xs)) =
    ap (λ l. reverse (map local_of l)) (sym (take-append-drop n xs))
    ∙ ap reverse (map-append local_of (take n xs) (drop n xs)) ∙ reverse-append (map local_of (take n xs)) (map local_of (drop n xs)) in
    apart_outer (reverse (map local_of (drop n xs))) (reverse (map local_of (take n xs))) (subst AreApart split h)

-- a name stands nowhere further in
first_of : (xs : List (Name × Denoted)) (l : Name × Denoted) (ys : List (Name × Denoted)) (name : Name) → AreApart (xs ++ l ∷ ys) → same_name l.0 name ≡ true
    → local_named (xs ++ l ∷ ys) name ≡ Some l.1
first_of [] l ys name h e = ap (λ b. if b then Some l.1 else local_named ys name) e
first_of (x ∷ xs) l ys name h e =
    elim (same_name x.0 name)
    as (λ b. same_name x.0 name ≡ b → (if b then Some x.1 else local_named (xs ++ l ∷ ys) name) ≡ Some l.1) [
      | true ↦ λ n.
          let one : same_name l.0 x.0 ≡ true = (same_name-Decides l.0 x.0).1 ((same_name-Decides l.0 name).0 e ∙ sym ((same_name-Decides x.0 name).0 n)) in
          let twice : None ≡ Some l.1 = sym h.0 ∙ first_of xs l ys x.0 h.1 one in
          absurd (cc twice)
      | false ↦ λ n. first_of xs l ys name h.1 e
    ]
    refl

-- the one at a place
pub at_place : (name : Name) (xs : List Local) (i : ℕ) (x : Local) → i < length xs → get_or xs i x ≡ x → same_name x.name name ≡ true → AreApart (reverse (map local_of xs))
    → Some (denoted_of x.denotation) ≡ local_named (reverse (map local_of xs)) name
at_place name xs i x h e n d =
    let round : reverse (map local_of xs) ≡ reverse (map local_of (drop (suc i) xs)) ++ local_of x ∷ reverse (map local_of (take i xs)) =
    ap (λ l. reverse (map local_of l)) (split_at xs i x h e) ∙ turned_round (take i xs) x (drop (suc i) xs) in
    sym (ap (λ l. local_named l name) round
    ∙ first_of (reverse (map local_of (drop (suc i) xs))) (local_of x) (reverse (map local_of (take i xs))) name (subst AreApart round d) n)

-- a name that is not there does not come by an assignment
still_none : (name : Name) (v : Val) (ls : List (Name × Denoted)) (n : Name) → local_named ls n ≡ None → local_named (with_local name v ls) n ≡ None
still_none name v [] n h = h
still_none name v (l ∷ ls) n h =
    elim (same_name l.0 name)
    as (λ b. local_named (if b then (l.0, held v) ∷ ls else l ∷ with_local name v ls) n ≡ None) [
      | true ↦
          elim (same_name l.0 n)
          as (λ c. (if c then Some l.1 else local_named ls n) ≡ None → (if c then Some (held v) else local_named ls n) ≡ None)
          [ true ↦ λ e. absurd (cc e) | false ↦ λ e. e ] h
      | false ↦
          elim (same_name l.0 n)
          as (λ c. (if c then Some l.1 else local_named ls n) ≡ None → (if c then Some l.1 else local_named (with_local name v ls) n) ≡ None)
          [ true ↦ λ e. absurd (cc e) | false ↦ λ e. still_none name v ls n e ] h
    ]

pub apart_set : (name : Name) (v : Val) (ls : List (Name × Denoted)) → AreApart ls → AreApart (with_local name v ls)
apart_set name v [] h = h
apart_set name v (l ∷ ls) h =
    elim (same_name l.0 name)
    as (λ b. AreApart (if b then (l.0, held v) ∷ ls else l ∷ with_local name v ls))
    [ true ↦ h | false ↦ (still_none name v ls l.0 h.0, apart_set name v ls h.1) ]

-- of two lists, the second within the first
pub apart_appended : (xs ys : List Local) → AreApart (reverse (map local_of ys) ++ reverse (map local_of xs)) → AreApart (reverse (map local_of (xs ++ ys)))
apart_appended xs ys h =
    subst AreApart (sym (ap reverse (map-append local_of xs ys) ∙ reverse-append (map local_of xs) (map local_of ys))) h

pub apart_together : (xs ys : List (Name × Denoted)) → AreApart xs → AreApart ys → AreOthers xs ys → AreApart (xs ++ ys)
apart_together [] ys h d o = d
apart_together (x ∷ xs) ys h d o = (named_past x.0 xs ys h.0 ∙ o.0, apart_together xs ys h.1 d o.1)

others_after : (xs : List (Name × Denoted)) (x : Name × Denoted) (ls : List (Name × Denoted)) → AreOthers xs ls → local_named ls x.0 ≡ None → AreOthers (xs ++ x ∷ []) ls
others_after [] x ls h n = (n, h)
others_after (y ∷ xs) x ls h n = (h.0, others_after xs x ls h.1 n)

-- one more, further out
pub one_other : (ls : List (Name × Denoted)) (xs : List Local) (i : ℕ) (x : Local) → i < length xs → get_or xs i x ≡ x → local_named ls x.name ≡ None
    → AreOthers (reverse (map local_of (drop (suc i) xs))) ls → AreOthers (reverse (map local_of (drop i xs))) ls
one_other ls xs i x h e n o =
    subst (λ l. AreOthers (reverse (map local_of l)) ls) (sym (drop-cons xs i x h ∙ ap (λ y. y ∷ drop (suc i) xs) e))
    (subst (λ l. AreOthers l ls) (sym (turned_round [] x (drop (suc i) xs)))
    (others_after (reverse (map local_of (drop (suc i) xs))) (local_of x) ls o n))

pub none_found : {A B : Type 0} (f : A → B) (o : Option A) (found : Option B) → option_map f o ≡ found → is_some o ≡ false → found ≡ None
none_found f None found e h = sym e
none_found f (Some x) found e h = absurd (true≢false h)
