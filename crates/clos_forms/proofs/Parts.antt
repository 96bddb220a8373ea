-- Parts and entries that are added, one after another.
use Rattle.std.proofs.Common.{◌≡◌, ℕ, suc, List, [], ◌∷◌, ◌++◌, map, Option, Some, None, refl, ap, sym, ◌∙◌}
use Rattle.std.proofs.lemmas.List.{map-append}
use Rattle.clos_forms.specs.Fault.{◌>>=◌, Fails}
use Rattle.clos_forms.specs.declared.fault.SyntaxFault.{SyntaxFault}
use Rattle.clos_forms.specs.declared.fault.SyntaxFault.TheVariants.{Program, Memory}
use Rattle.clos_forms.specs.Form.{Form, form, Forms, cons}
use Rattle.clos_forms.specs.Grammar.{each_part, tree_at, trees_at}
use Rattle.clos_forms.specs.Part.{Part, Shape}
use Rattle.clos_forms.specs.Shape.{shape_of}
use Rattle.clos_forms.specs.declared.part.Context.{Context}

pub pushed : {A B : Type 0} (f : A → B) (xs : List A) (x : A) → map f (xs ++ x ∷ []) ≡ map f xs ++ f x ∷ []
pushed f xs x = map-append f xs (x ∷ [])

-- one more, and then the others
pub pushed_before : {A B : Type 0} (f : A → B) (xs : List A) (x : A) (ys : List B) → map f (xs ++ x ∷ []) ++ ys ≡ map f xs ++ f x ∷ ys
pushed_before f [] x ys = refl
pushed_before f (u ∷ xs) x ys = ap (λ zs. f u ∷ zs) (pushed_before f xs x ys)

-- these, and then those, where there are any
abbrev pub after : {A : Type 0} → List A → Option (List A) → Option (List A)
after [] o = o
after (x ∷ xs) o = after xs o >>= λ ys. Some (x ∷ ys)

pub after_none : {A : Type 0} (xs : List A) → after xs None ≡ None
after_none [] = refl
after_none (x ∷ xs) = ap (λ o. o >>= λ ys. Some (x ∷ ys)) (after_none xs)

pub after_all : {A : Type 0} (xs : List A) → after xs (Some []) ≡ Some xs
after_all [] = refl
after_all (x ∷ xs) = ap (λ o. o >>= λ ys. Some (x ∷ ys)) (after_all xs)

pub after_one : {A B : Type 0} (f : A → B) (xs : List A) (x : A) (o : Option (List B)) → after (map f (xs ++ x ∷ [])) o ≡ after (map f xs) (o >>= λ ys. Some (f x ∷ ys))
after_one f [] x o = refl
after_one f (u ∷ xs) x o = ap (λ r. r >>= λ ys. Some (f u ∷ ys)) (after_one f xs x o)

pub after_two : {B : Type 0} (xs : List B) (x : B) (o : Option (List B)) → after (xs ++ x ∷ []) o ≡ after xs (o >>= λ ys. Some (x ∷ ys))
after_two [] x o = refl
after_two (u ∷ xs) x o = ap (λ r. r >>= λ ys. Some (u ∷ ys)) (after_two xs x o)

-- ---- trees

nothing_else : (o : Option Form) → (o >>= λ f. None >>= λ (fs : Forms). Some (cons f fs)) ≡ None
nothing_else (Some f) = refl
nothing_else None = refl

pub no_trees : (tree : Part → Option Form) (ps : List Part) → each_part tree ps None ≡ None
no_trees tree [] = refl
no_trees tree (p ∷ ps) = ap (λ r. tree p >>= λ f. r >>= λ fs. Some (cons f fs)) (no_trees tree ps) ∙ nothing_else (tree p)

-- the tree of a part, before these
abbrev pub before_trees : Option Form → Option Forms → Option Forms
before_trees t o = t >>= λ f. o >>= λ fs. Some (cons f fs)

pub last_part : {A : Type 0} (view : A → Part) (tree : Part → Option Form) (ps : List A) (p : A) (o : Option Forms) → each_part tree (map view (ps ++ p ∷ [])) o ≡ each_part tree (map view ps) (before_trees (tree (view p)) o)
last_part view tree [] p o = refl
last_part view tree (q ∷ ps) p o = ap (λ r. tree (view q) >>= λ f. r >>= λ fs. Some (cons f fs)) (last_part view tree ps p o)

-- ---- a loop that gathers what each datum gives: what was gathered and what the rest gives is what all give

pub refused : {A : Type 0} (xs : List A) (o t : Option (List A)) → after xs o ≡ t → o ≡ None → t ≡ None
refused xs o t h n = sym h ∙ ap (after xs) n ∙ after_none xs

pub ended : {A : Type 0} (xs : List A) (o t : Option (List A)) → after xs o ≡ t → o ≡ Some [] → t ≡ Some xs
ended xs o t h n = sym h ∙ ap (after xs) n ∙ after_all xs

pub goes_on : {A B : Type 0} (f : A → B) (xs : List A) (x : A) (o rest t : Option (List B)) → after (map f xs) o ≡ t → o ≡ (rest >>= λ ys. Some (f x ∷ ys)) → after (map f (xs ++ x ∷ [])) rest ≡ t
goes_on f xs x o rest t h n = after_one f xs x rest ∙ ap (after (map f xs)) (sym n) ∙ h

pub fault_passes : {A B : Type 0} (e : SyntaxFault) (r : Option A) (k : A → Option B) → Fails e r → Fails e (r >>= k)
fault_passes Program r k h = ap (λ x. x >>= k) h
fault_passes Memory r k h = tt

pub failed : {A : Type 0} (e : SyntaxFault) (xs : List A) (o t : Option (List A)) → after xs o ≡ t → Fails e o → Fails e t
failed Program xs o t h n = refused xs o t h n
failed Memory xs o t h n = tt

pub trees_failed : {A : Type 0} (view : A → Part) (tree : Part → Option Form) (e : SyntaxFault) (all ps : List A) (p : A) (o t : Option Forms) → all ≡ ps ++ p ∷ [] → each_part tree (map view all) o ≡ t → Fails e (tree (view p)) → Fails e t
trees_failed view tree Program all ps p o t a h n =
    sym h ∙ ap (λ xs. each_part tree (map view xs) o) a ∙ last_part view tree ps p o ∙ ap (λ x. each_part tree (map view ps) (before_trees x o)) n
    ∙ no_trees tree (map view ps)
trees_failed view tree Memory all ps p o t a h n = tt

pub trees_go_on : {A : Type 0} (view : A → Part) (tree : Part → Option Form) (all ps : List A) (p : A) (f : Form) (fs : Forms) (t : Option Forms) → all ≡ ps ++ p ∷ [] → each_part tree (map view all) (Some fs) ≡ t → tree (view p) ≡ Some f → each_part tree (map view ps) (Some (cons f fs)) ≡ t
trees_go_on view tree all ps p f fs t a h n =
    ap (λ x. each_part tree (map view ps) (before_trees x (Some fs))) (sym n) ∙ sym (last_part view tree ps p (Some fs))
    ∙ ap (λ xs. each_part tree (map view xs) (Some fs)) (sym a) ∙ h

-- one list further in
pub tree_step : (room m : ℕ) (context : Context) (p : Part) (s : Shape) (fs : Forms) → room ≡ suc m → shape_of context p.role p.datum ≡ Some s → trees_at m context s.parts ≡ Some fs → tree_at room context p ≡ Some (form s.operator fs)
tree_step room m context p s fs r h n =
    ap (λ k. tree_at k context p) r ∙ ap (λ o. o >>= λ u. trees_at m context u.parts >>= λ gs. Some (form u.operator gs)) h
    ∙ ap (λ o. o >>= λ gs. Some (form s.operator gs)) n

-- where the list further in is refused
pub tree_refused : (e : SyntaxFault) (room m : ℕ) (context : Context) (p : Part) (s : Shape) → room ≡ suc m → shape_of context p.role p.datum ≡ Some s → Fails e (trees_at m context s.parts) → Fails e (tree_at room context p)
tree_refused Program room m context p s r h n =
    ap (λ k. tree_at k context p) r ∙ ap (λ o. o >>= λ u. trees_at m context u.parts >>= λ gs. Some (form u.operator gs)) h
    ∙ ap (λ o. o >>= λ gs. Some (form s.operator gs)) n
tree_refused Memory room m context p s r h n = tt
