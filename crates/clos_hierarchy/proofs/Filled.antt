-- One round over some classes.
use Rattle.std.proofs.Common.{◌≡◌, ℕ, ◌==◌, ◌<◌, Bool, true, false, true≢false, List, [], ◌∷◌, ◌++◌, length, arith, refl, ap, sym, subst, ◌∙◌}
use Rattle.std.specs.Prelude.{◌||◌}
use Rattle.std.proofs.lemmas.Bool.{eqb-true}
use Rattle.lisp_data.specs.declared.ids.ClassId.{ClassId}
use Rattle.clos_precedence.specs.Precedence.{has}
use Rattle.clos_precedence.specs.PrecedenceView.{numbers}
use Rattle.clos_hierarchy.specs.Classes.{Classes}
use Rattle.clos_hierarchy.specs.declared.kept.Kept.{Kept}
use Rattle.clos_hierarchy.specs.inner.Kept.{Ends, Filled, Keeps, Knows, Progress, lacking_in}
use Rattle.clos_hierarchy.specs.inner.Touched.{AllEnd, AreWithin, Closes, EndElse, OthersStay}
use Rattle.clos_precedence.proofs.Truth.{or_right}
use Rattle.clos_hierarchy.proofs.Filling.{adds_through, knows}

-- nothing more is found of those among these that are not left
abbrev pub EndBut : Classes → List Kept → List ℕ → List ℕ → Type 0
EndBut cs ks all left = (n : ℕ) → has all n ≡ true → has left n ≡ false → Ends cs ks n

-- of those that are left some are done
pub record Goes (b : Bool) (cs : Classes) (old now : List Kept) (all left : List ℕ) : Type 0 where
  pub filled : Filled b cs old now (EndBut cs old all left)
  pub others : OthersStay all old now

pub goes_first : (cs : Classes) (ks : List Kept) (all : List ℕ) → Goes false cs ks ks all all
goes_first cs ks all = record { filled = (refl, λ k n h i. absurd (true≢false (sym h ∙ i))); others = (refl, λ n h. refl) }

turned : (a b c : Bool) → (a || (b || c)) ≡ (b || (a || c))
turned true true c = refl
turned true false c = refl
turned false b c = refl

pub has_last : (x : ℕ) (xs : List ℕ) (n : ℕ) → has (xs ++ x ∷ []) n ≡ (x == n || has xs n)
has_last x [] n = refl
has_last x (y ∷ xs) n = ap (λ b. y == n || b) (has_last x xs n) ∙ turned (y == n) (x == n) (has xs n)

end_by : (cs : Classes) (old : List Kept) (all left rest : List ℕ) (x : ℕ) (b : Bool) → EndBut cs old all left → Ends cs old x → (n : ℕ) → has all n ≡ true → has rest n ≡ false → has left n ≡ (b || has rest n) → (x == n) ≡ b
    → Ends cs old n
end_by cs old all left rest x true f e n h i l q = subst (Ends cs old) (eqb-true x n q) e
end_by cs old all left rest x false f e n h i l q = f n h (l ∙ i)

round_by : (b c : Bool) (cs : Classes) (old mid new : List Kept) (all left rest : List ℕ) (x : ℕ) → Filled b cs old mid (EndBut cs old all left) → Filled c cs mid new (Ends cs mid x)
    → ((n : ℕ) → has left n ≡ (x == n || has rest n)) → Filled (b || c) cs old new (EndBut cs old all rest)
round_by true true cs old mid new all left rest x f g l =
    let p : lacking_in mid < lacking_in old = f.0 in
    let q : lacking_in new < lacking_in mid = g.0 in (omega (arith, p, q), g.1 ∙ f.1, (λ k. g.2 (f.2 k)), adds_through old mid new f.3 g.3)
round_by true false cs old mid new all left rest x f g l = subst (λ v. Filled true cs old v (EndBut cs old all rest)) (sym g.0) f
round_by false true cs old mid new all left rest x f g l = subst (λ v. Filled true cs v new (EndBut cs old all rest)) f.0 g
round_by false false cs old mid new all left rest x f g l = (
  g.0 ∙ f.0,
  λ k n h i. end_by cs old all left rest x (x == n) (f.1 k) (subst (λ v. Ends cs v x) f.0 (g.1 (subst (Keeps cs) (sym f.0) k))) n h i (l n) refl,
)

stay_by : (x : ℕ) (all : List ℕ) (n : ℕ) (b : Bool) → (x == n) ≡ b → has all x ≡ true → has all n ≡ false → has (x ∷ []) n ≡ false
stay_by x all n true e h i = absurd (true≢false (sym (subst (λ k. has all k ≡ true) (eqb-true x n e) h) ∙ i))
stay_by x all n false e h i = ap (λ b. b || false) e

pub goes_next : (b c : Bool) (cs : Classes) (old mid new : List Kept) (all left rest : List ℕ) (x : ℕ) → Goes b cs old mid all left → Filled c cs mid new (Ends cs mid x) → OthersStay (x ∷ []) mid new
    → ((n : ℕ) → has left n ≡ (x == n || has rest n)) → has all x ≡ true → Goes (b || c) cs old new all rest
goes_next b c cs old mid new all left rest x g f o l h = record {
  filled = round_by b c cs old mid new all left rest x g.filled f l;
  others = (o.0 ∙ g.others.0, λ n i. o.1 n (stay_by x all n (x == n) refl h i) ∙ g.others.1 n i);
}

-- where one of them could not be found, the others stayed
pub stopped : (b : Bool) (cs : Classes) (old mid new : List Kept) (all left : List ℕ) (x : ℕ) → Goes b cs old mid all left → OthersStay (x ∷ []) mid new → has all x ≡ true → OthersStay all old new
stopped b cs old mid new all left x g o h = (o.0 ∙ g.others.0, λ n i. o.1 n (stay_by x all n (x == n) refl h i) ∙ g.others.1 n i)

pub all_done : (b : Bool) (cs : Classes) (old new : List Kept) (all left : List ℕ) → left ≡ [] → Filled b cs old new (EndBut cs old all left) → Filled b cs old new (AllEnd cs old all)
all_done true cs old new all left e f = f
all_done false cs old new all left e f = (f.0, λ k n h. f.1 k n h (ap (λ l. has l n) e))

-- ---- at the end

end_by_all : (cs : Classes) (ks : List Kept) (all : List ℕ) (n : ℕ) (b : Bool) → has all n ≡ b → AllEnd cs ks all → EndElse cs all ks → Ends cs ks n
end_by_all cs ks all n true e a w = a n e
end_by_all cs ks all n false e a w = w n e

pub knows_then : (cs : Classes) (ks : List Kept) (all : List ℕ) → Progress cs ks → AllEnd cs ks all → EndElse cs all ks → Knows cs ks
knows_then cs ks all p a w = knows cs ks p (λ n h. end_by_all cs ks all n (has all n) refl a w)

-- ---- the loops

pub it_was : (b c : Bool) → b ≡ true → b ≡ (b || c)
it_was true c h = refl
it_was false c h = absurd (true≢false (sym h))

pub it_was_not : (b c : Bool) → b ≡ false → c ≡ (b || c)
it_was_not true c h = absurd (true≢false h)
it_was_not false c h = refl

pub place_there : (old now : List Kept) (all : List ℕ) (x : ℕ) → AreWithin all old → OthersStay all old now → has all x ≡ true → x < length now
place_there old now all x w o h = let p : x < length old = w x h in let q : length now ≡ length old = o.0 in omega (arith, p, q)

pub goes_on : (b c r : Bool) (cs : Classes) (old mid new : List Kept) (all left rest : List ℕ) (x : ℕ) → Goes b cs old mid all left × ((n : ℕ) → has left n ≡ true → has all n ≡ true)
    → Filled c cs mid new (Ends cs mid x) → OthersStay (x ∷ []) mid new → ((n : ℕ) → has left n ≡ (x == n || has rest n)) → has left x ≡ true → r ≡ (b || c)
    → Goes r cs old new all rest × ((n : ℕ) → has rest n ≡ true → has all n ≡ true)
goes_on b c r cs old mid new all left rest x g f o l h e = (
  subst (λ v. Goes v cs old new all rest) (sym e) (goes_next b c cs old mid new all left rest x g.0 f o l (g.1 x h)),
  λ n i. g.1 n (l n ∙ or_right (x == n) (has rest n) i),
)

pub knows_end : (b : Bool) (cs : Classes) (first old new : List Kept) (all : List ℕ) → b ≡ false → (Progress cs first → Progress cs old) → OthersStay all first old → Filled b cs old new (AllEnd cs old all) → Progress cs first
    → Closes cs all first → Knows cs new
knows_end true cs first old new all h p o f q w = absurd (true≢false h)
knows_end false cs first old new all h p o f q w = let r : Progress cs old = p q in subst (Knows cs) (sym f.0) (knows_then cs old all r (f.1 r.keeps) (w old o r.keeps))

pub numbers_end : (cs : List ClassId) (c : ClassId) → numbers (cs ++ c ∷ []) ≡ numbers cs ++ c.0 ∷ []
numbers_end [] c = refl
numbers_end (x ∷ cs) c = ap (λ l. x.0 ∷ l) (numbers_end cs c)
