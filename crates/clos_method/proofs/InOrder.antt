-- The list that dispatch finds is in order, and no other list is.
use Rattle.std.proofs.Common.{◌≡◌, ℕ, ◌⊎◌, inl, inr, Bool, true, false, List, [], ◌∷◌, length, refl, ap, sym, ◌∙◌, true≢false}
use Rattle.std.specs.Prelude.{if◌then◌else◌}
use Rattle.clos_method.specs.Applicable.{is_applicable, specializers_of}
use Rattle.clos_method.specs.Arguments.{Argument}
use Rattle.clos_method.specs.Laws.{HasNoneTwice, IsCall, IsMember, IsOrdered, IsTheOnlyOrder, ListsInOrder, StandsAhead}
use Rattle.clos_method.specs.Order.{comes_before, is_before, ordered, placed}
use Rattle.clos_method.specs.declared.method.Method.{Method}
use Rattle.clos_method.proofs.Ahead.{Placing, same_one, first_ahead, second_ahead, is_first_in, is_second_in, not_both, placing, same_lists, turned}
use Rattle.clos_method.proofs.Before.{Counts, not_before_itself, same_specializers}
use Rattle.clos_method.proofs.Placed.{Order, old, new_ahead, new_behind, from_placed, into_placed, placed_once, placed_order, placed_sorted}

module _ (methods : List Method) (order : List ℕ) (args : List Argument) where
  abbrev InOrder : List ℕ → List ℕ → Type 0
  InOrder candidates listed = IsOrdered methods order args candidates listed

  abbrev applies : ℕ → Bool
  applies n = is_applicable methods args n

  abbrev Specialized : List ℕ → Type 0
  Specialized candidates = (n : ℕ) → IsMember candidates n → length (specializers_of methods n) ≡ length args

  pub counts : (candidates listed : List ℕ) → Specialized candidates → InOrder candidates listed → (n : ℕ) → IsMember listed n → Counts methods order args n
  counts cs l s o n h = record { applicable = (o.applicable n h).1; specialized = s n (o.applicable n h).0 }

  -- ---- one more candidate that is applicable

  applies_too : (m : ℕ) (cs l : List ℕ) → InOrder cs l → applies m ≡ true → (n : ℕ) → (m ≡ n) ⊎ IsMember l n → IsMember (m ∷ cs) n × (applies n ≡ true)
  applies_too m cs l o h n (inl e) = (inl e, ap applies (sym e) ∙ h)
  applies_too m cs l o h n (inr k) = (inr (o.applicable n k).0, (o.applicable n k).1)

  listed_too : (m : ℕ) (cs l : List ℕ) → InOrder cs l → (n : ℕ) → applies n ≡ true → IsMember (m ∷ cs) n → (m ≡ n) ⊎ IsMember l n
  listed_too m cs l o n h (inl e) = inl e
  listed_too m cs l o n h (inr k) = inr (o.complete n k h)

  equal_ones : (a b : ℕ) → specializers_of methods a ≡ specializers_of methods b → comes_before methods order args a b ≡ false
  equal_ones a b e = ap (is_before order args (specializers_of methods a)) (sym e) ∙ not_before_itself order args (specializers_of methods a)

  added_too : (m : ℕ) (cs l : List ℕ) → InOrder cs l → (a b : ℕ) → specializers_of methods a ≡ specializers_of methods b → Order methods order args m l a b → StandsAhead (m ∷ cs) a b
  added_too m cs l o a b e (old h) = inr (o.by_addition a b h e)
  added_too m cs l o a b e (new_ahead p h) = inl (p, (o.applicable b h).0)
  added_too m cs l o a b e (new_behind h p) =
      absurd (true≢false (sym h ∙ ap (comes_before methods order args a) p ∙ equal_ones a b e))

  with_one : (m : ℕ) (cs l : List ℕ) → (IsMember cs m → ⊥) → Specialized (m ∷ cs) → applies m ≡ true → InOrder cs l → InOrder (m ∷ cs) (placed methods order args m l)
  with_one m cs l out s h o = record {
    applicable = λ n k. applies_too m cs l o h n (from_placed methods order args m l n k);
    complete = λ n k e. into_placed methods order args m l n (listed_too m cs l o n e k);
    distinct = placed_once methods order args m l (λ k. out (o.applicable m k).0) o.distinct;
    by_precedence = λ n k p. placed_sorted methods order args m l (record { applicable = h; specialized = s m (inl refl) }) (counts cs l (λ i j. s i (inr j)) o) o.by_precedence n k p;
    by_addition = λ n k p e. added_too m cs l o n k e (placed_order methods order args m l n k p);
  }

  not_it : (m : ℕ) (cs l : List ℕ) → applies m ≡ false → InOrder cs l → (n : ℕ) → applies n ≡ true → IsMember (m ∷ cs) n → IsMember l n
  not_it m cs l h o n e (inl p) = absurd (true≢false (sym e ∙ ap applies (sym p) ∙ h))
  not_it m cs l h o n e (inr k) = o.complete n k e

  without_one : (m : ℕ) (cs l : List ℕ) → applies m ≡ false → InOrder cs l → InOrder (m ∷ cs) l
  without_one m cs l h o = record {
    applicable = λ n k. (inr (o.applicable n k).0, (o.applicable n k).1);
    complete = λ n k e. not_it m cs l h o n e k;
    distinct = o.distinct;
    by_precedence = o.by_precedence;
    by_addition = λ n k p e. inr (o.by_addition n k p e);
  }

  next : (t : Bool) (m : ℕ) (cs l : List ℕ) → applies m ≡ t → (IsMember cs m → ⊥) → Specialized (m ∷ cs) → InOrder cs l → InOrder (m ∷ cs) (if t then placed methods order args m l else l)
  next true m cs l h out s o = with_one m cs l out s h o
  next false m cs l h out s o = without_one m cs l h o

  pub in_order : (cs : List ℕ) → HasNoneTwice cs → Specialized cs → InOrder cs (ordered methods order args cs)
  in_order [] d s = record {
    applicable = λ n h. absurd h;
    complete = λ n h e. h;
    distinct = tt;
    by_precedence = λ n m h. absurd h;
    by_addition = λ n m h e. h;
  }
  in_order (m ∷ cs) d s = next (applies m) m cs (ordered methods order args cs) refl d.0 s (in_order cs d.1 (λ n h. s n (inr h)))

  -- ---- two lists in order

  module _ (cs l k : List ℕ) (call : IsCall methods order args cs) (o : InOrder cs l) (q : InOrder cs k) where
    in_other : (n : ℕ) → IsMember l n → IsMember k n
    in_other n h = q.complete n (o.applicable n h).0 (o.applicable n h).1

    ahead_by : (n m : ℕ) → StandsAhead l n m → Placing k n m → StandsAhead k n m
    ahead_by n m h (first_ahead p) = p
    ahead_by n m h (same_one e) = absurd (not_both l n m o.distinct h (turned l n m e h))
    ahead_by n m h (second_ahead p) =
        let e : specializers_of methods n ≡ specializers_of methods m =
        same_specializers methods order args n m call.each_place (counts cs l call.specialized o n (is_first_in l n m h)) (counts cs l call.specialized o m (is_second_in l n m h))
        (q.by_precedence m n p) (o.by_precedence n m h) in
        absurd (not_both cs n m call.distinct (o.by_addition n m h e) (q.by_addition m n p (sym e)))

    pub ahead_in_other : (n m : ℕ) → StandsAhead l n m → StandsAhead k n m
    ahead_in_other n m h = ahead_by n m h (placing k n m (in_other n (is_first_in l n m h)) (in_other m (is_second_in l n m h)))

  pub only_one : (cs l k : List ℕ) → IsCall methods order args cs → InOrder cs l → InOrder cs k → l ≡ k
  only_one cs l k call o q =
      same_lists l k o.distinct q.distinct (λ n h. q.complete n (o.applicable n h).0 (o.applicable n h).1) (λ n h. o.complete n (q.applicable n h).0 (q.applicable n h).1)
      (ahead_in_other cs l k call o q)

pub lists_in_order : ListsInOrder
lists_in_order methods order args cs call = in_order methods order args cs call.distinct call.specialized

pub is_the_only_order : IsTheOnlyOrder
is_the_only_order methods order args cs listed call o = only_one methods order args cs listed (ordered methods order args cs) call o (lists_in_order methods order args cs call)
