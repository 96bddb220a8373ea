-- Marks of classes, and rows of what stands before them, by their numbers.
use Rattle.std.proofs.Common.{◌≡◌, ℕ, zero, suc, ◌==◌, Bool, true, false, List, [], ◌∷◌, ◌++◌, Some, length, ◌<◌, arith, refl, sym, subst, ap, ◌∙◌}
use Rattle.std.specs.Prelude.{not, ◌&&◌, ◌||◌, slice_get, slice_set, slice_index_or, unwrap_or, option_map}
use Rattle.std.specs.declared.alloc.Global.{Global}
use Rattle.std.specs.declared.vec.Vec.{Vec}
use Rattle.std.proofs.lemmas.Bool.{eqb-true, eq-eqb}
use Rattle.std.proofs.lemmas.List.{map-append, map-set, length-map}
use Rattle.std.proofs.lemmas.Option.{slice_get-map, slice_get_read}
use Rattle.lisp_data.specs.declared.ids.ClassId.{ClassId}
use Rattle.clos_precedence.specs.Precedence.{has, are_done}
use Rattle.clos_precedence.specs.PrecedenceView.{numbers}
use Rattle.clos_precedence.specs.OrderView.{is_marked, rows_of, row_at}

set_here : {A : Type 0} (xs : List A) (k : ℕ) (v : A) → k < length xs → slice_get (slice_set xs k v) k ≡ Some v
set_here [] k v h = absurd (omega (arith, h))
set_here (x ∷ xs) zero v h = refl
set_here (x ∷ xs) (suc k) v h = set_here xs k v (omega (arith, h))

set_elsewhere : {A : Type 0} (xs : List A) (k n : ℕ) (v : A) → (k ≡ n → ⊥) → slice_get (slice_set xs k v) n ≡ slice_get xs n
set_elsewhere [] k n v h = refl
set_elsewhere (x ∷ xs) zero zero v h = absurd (h refl)
set_elsewhere (x ∷ xs) zero (suc n) v h = refl
set_elsewhere (x ∷ xs) (suc k) zero v h = refl
set_elsewhere (x ∷ xs) (suc k) (suc n) v h = set_elsewhere xs k n v (λ e. h (ap suc e))

not_equal : (k x : ℕ) → (k == x) ≡ false → k ≡ x → ⊥
not_equal k x h e = let p : (k == x) ≡ true = eq-eqb k x e in cc

-- ---- marks

pub marked_more : (marks : List Bool) (x : ℕ) → is_marked (marks ++ false ∷ []) x ≡ is_marked marks x
marked_more [] zero = refl
marked_more [] (suc x) = refl
marked_more (m ∷ marks) zero = refl
marked_more (m ∷ marks) (suc x) = marked_more marks x

marked_by : (marks : List Bool) (k x : ℕ) (b : Bool) → (k == x) ≡ b → k < length marks → is_marked (slice_set marks k true) x ≡ (b || is_marked marks x)
marked_by marks k x true e h = ap (λ o. unwrap_or o false) (subst (λ n. slice_get (slice_set marks k true) n ≡ Some true) (eqb-true k x e) (set_here marks k true h))
marked_by marks k x false e h = ap (λ o. unwrap_or o false) (set_elsewhere marks k x true (not_equal k x e))

pub marked_set : (marks : List Bool) (k x : ℕ) → k < length marks → is_marked (slice_set marks k true) x ≡ ((k == x) || is_marked marks x)
marked_set marks k x h = marked_by marks k x (k == x) refl h

-- ---- rows

pub row_more : (rows : List (List ℕ)) (x : ℕ) → row_at (rows ++ [] ∷ []) x ≡ row_at rows x
row_more [] zero = refl
row_more [] (suc x) = refl
row_more (r ∷ rows) zero = refl
row_more (r ∷ rows) (suc x) = row_more rows x

pub empty_row : (rows : List (Vec ClassId Global)) (v : Vec ClassId Global) (x : ℕ) → v.items ≡ [] → row_at (rows_of (rows ++ v ∷ [])) x ≡ row_at (rows_of rows) x
empty_row rows v x e = ap (λ r. row_at r x) (map-append (λ u. numbers u.items) rows (v ∷ []) ∙ ap (λ r. rows_of rows ++ numbers r ∷ []) e) ∙ row_more (rows_of rows) x

turned : (a b c : Bool) → (a && (b && c)) ≡ (b && (a && c))
turned true true c = refl
turned true false c = refl
turned false true c = refl
turned false false c = refl

done_at_end : (done xs : List ℕ) (x : ℕ) → are_done done (xs ++ x ∷ []) ≡ (has done x && are_done done xs)
done_at_end done [] x = refl
done_at_end done (y ∷ ys) x = ap (λ b. has done y && b) (done_at_end done ys x) ∙ turned (has done y) (has done x) (are_done done ys)

row_read : (rows : List (Vec ClassId Global)) (k : ℕ) (v : Vec ClassId Global) → k < length rows → v ≡ slice_index_or rows k v → row_at (rows_of rows) k ≡ numbers v.items
row_read rows k v h e = ap (λ o. unwrap_or o []) (slice_get-map (λ u. numbers u.items) rows k ∙ ap (option_map (λ u. numbers u.items)) (slice_get_read rows (length rows) k v refl h e))

row_set : (rows : List (Vec ClassId Global)) (k : ℕ) (v w : Vec ClassId Global) (c : ClassId) → k < length rows → v ≡ slice_index_or rows k v → w.items ≡ v.items ++ c ∷ []
    → rows_of (slice_set rows k w) ≡ slice_set (rows_of rows) k (row_at (rows_of rows) k ++ c.0 ∷ [])
row_set rows k v w c h e g =
    map-set (λ u. numbers u.items) rows k w
    ∙ ap (λ r. slice_set (rows_of rows) k r) (ap numbers g ∙ (map-append (λ d. d.0) v.items (c ∷ []) ∙ ap (λ r. r ++ c.0 ∷ []) (sym (row_read rows k v h e))))

added_by : (rows : List (List ℕ)) (k y : ℕ) (done : List ℕ) (x : ℕ) (b : Bool) → (k == x) ≡ b → k < length rows
    → are_done done (row_at (slice_set rows k (row_at rows k ++ y ∷ [])) x) ≡ ((not b || has done y) && are_done done (row_at rows x))
added_by rows k y done x true e h =
    let p : row_at (slice_set rows k (row_at rows k ++ y ∷ [])) k ≡ row_at rows k ++ y ∷ [] = ap (λ o. unwrap_or o []) (set_here rows k (row_at rows k ++ y ∷ []) h) in
    subst (λ n. are_done done (row_at (slice_set rows k (row_at rows k ++ y ∷ [])) n) ≡ (has done y && are_done done (row_at rows n))) (eqb-true k x e)
    (ap (are_done done) p ∙ done_at_end done (row_at rows k) y)
added_by rows k y done x false e h = ap (λ o. are_done done (unwrap_or o [])) (set_elsewhere rows k x (row_at rows k ++ y ∷ []) (not_equal k x e))

-- one more in the row of a class
pub row_added : (rows : List (Vec ClassId Global)) (k : ℕ) (v w : Vec ClassId Global) (c : ClassId) → k < length rows → v ≡ slice_index_or rows k v → w.items ≡ v.items ++ c ∷ []
    → (done : List ℕ) (x : ℕ) → are_done done (row_at (rows_of (slice_set rows k w)) x) ≡ ((not (k == x) || has done c.0) && are_done done (row_at (rows_of rows) x))
row_added rows k v w c h e g done x =
    ap (λ r. are_done done (row_at r x)) (row_set rows k v w c h e g)
    ∙ added_by (rows_of rows) k c.0 done x (k == x) refl (subst (λ n. k < n) (sym (length-map rows (λ u. numbers u.items))) h)

pub moved_first : (a b c : Bool) → (b && (a && c)) ≡ ((a && b) && c)
moved_first true b c = refl
moved_first false true c = refl
moved_first false false c = refl

pub and_true : (a : Bool) → (a && true) ≡ a
and_true true = refl
and_true false = refl
