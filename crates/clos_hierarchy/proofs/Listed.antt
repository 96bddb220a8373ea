-- What is told of a class precedence list, and of classes from none on.
use Rattle.std.proofs.Common.{◌≡◌, ℕ, false, true≢false, List, [], ◌∷◌, Some, inl, length, arith, refl, sym, subst, ap, ◌∙◌}
use Rattle.std.specs.Prelude.{nat_lt}
use Rattle.std.proofs.lemmas.Bool.{le-ltb}
use Rattle.lisp_data.specs.Name.{Name}
use Rattle.clos_precedence.specs.Precedence.{IsPrecedenceList}
use Rattle.clos_hierarchy.specs.Classes.{Classes, Listing, lacking, broken, listed, number_of, with_class, found, superclasses, listing}
use Rattle.clos_hierarchy.specs.declared.kept.Kept.{Kept}
use Rattle.clos_hierarchy.specs.inner.KeptView.{listing_at}
use Rattle.clos_hierarchy.specs.inner.Direct.{AreDirect}
use Rattle.clos_hierarchy.specs.inner.Kept.{Changes, Knows}
use Rattle.clos_hierarchy.specs.inner.Told.{Tells, Told}
use Rattle.clos_hierarchy.specs.inner.Touched.{NoneBroken}
use Rattle.clos_hierarchy.specs.Table.{list_if}
use Rattle.clos_hierarchy.specs.TableView.{IsListOf}
use Rattle.clos_hierarchy.specs.Initial.{Row, fixed_name, fixed_names, all_defined}
use Rattle.clos_precedence.proofs.Unique.{at_most_one}
use Rattle.clos_hierarchy.proofs.Rounds.{sound_holds}
use Rattle.clos_hierarchy.proofs.Turned.{own_list}
use Rattle.clos_hierarchy.proofs.Admitted.{changed_by}

pub list_of : (cs : Classes) (ks : List Kept) (n : ℕ) (l : List ℕ) → Knows cs ks → listing_at ks n ≡ listed l → IsListOf cs n l
list_of cs ks n l k h =
    let o : IsPrecedenceList (superclasses cs) l l = own_list cs (listing_at ks) n l (sound_holds cs (listing_at ks) k.keeps.sound) k.keeps.whole h in
    record { whole = k.keeps.whole n l h; order = o; only = λ j q. at_most_one (superclasses cs) l j l q o }

pub found_list : (cs : Classes) (ks : List Kept) (n : ℕ) → Knows cs ks → list_if (listing_at ks n) ≡ list_if (listing cs n)
found_list cs ks n k = ap list_if (k.same n)

told_by : (cs : Classes) (ks : List Kept) (n : ℕ) (l : List ℕ) (a : Listing) → Knows cs ks → listing_at ks n ≡ a → Some l ≡ list_if a → IsListOf cs n l
told_by cs ks n l lacking k e h = cc
told_by cs ks n l broken k e h = cc
told_by cs ks n l (listed m) k e h = let p : listing_at ks n ≡ listed l = cc in list_of cs ks n l k p

pub told_list : (cs : Classes) (ks : List Kept) (n : ℕ) (l : List ℕ) → Knows cs ks → Some l ≡ list_if (listing_at ks n) → IsListOf cs n l
told_list cs ks n l k h = told_by cs ks n l (listing_at ks n) k refl h

-- ---- no classes

abbrev pub nothing_defined : Classes
nothing_defined = record { names = []; above = [] }

none_found : (of : ℕ → Listing) (n : ℕ) → found nothing_defined of n ≡ lacking
none_found of n = let p : nat_lt n 0 ≡ false = le-ltb n 0 (omega (arith)) in cc

pub knows_none : (cs : Classes) (ks : List Kept) → cs ≡ nothing_defined → ks ≡ [] → Knows cs ks
knows_none cs ks e h = subst (λ v. Knows v ks) (sym e) (subst (λ v. Knows nothing_defined v) (sym h) (record {
  keeps = record {
    sound = λ n. inl refl;
    whole = λ n l g. cc;
    nested = λ n l x g i. cc;
    above = λ n l g. cc;
  };
  same = λ n. refl;
  length = refl;
}))

pub tells_none : (cs : Classes) (t : Told) → cs ≡ nothing_defined → t.kept ≡ [] → Tells cs t
tells_none cs t e h = record {
  knows = knows_none cs t.kept e h;
  well = subst NoneBroken (sym h) (λ n. refl);
  direct = subst (λ v. AreDirect v t.direct) (sym e) (λ n x g. absurd (true≢false (sym g)));
}

-- ---- one more

pub added : (cs to : Classes) (t u : Told) (n : ℕ) (name : Name) (above : List Name) → length cs.above ≡ length cs.names → to ≡ with_class cs name above → n ≡ number_of cs name
    → ((ds : Classes) → Tells ds t → Changes ds to n → Tells to u) → Tells cs t → Tells to u
added cs to t u n name above l e h p k = p cs k (changed_by cs to n name above l e h)

pub stepped : (cs now end : Classes) (r : Row) (rows : List Row) → now ≡ with_class cs (fixed_name r.0) (fixed_names r.1) → end ≡ all_defined now rows → end ≡ all_defined cs (r ∷ rows)
stepped cs now end r rows e h = h ∙ ap (λ v. all_defined v rows) e
