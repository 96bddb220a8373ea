-- Templates of parts, one after another.
use Rattle.std.proofs.Common.{◌≡◌, ℕ, suc, List, [], ◌∷◌, ◌++◌, map, Option, Some, None, refl, ap, sym, ◌∙◌}
use Rattle.clos_forms.specs.Fault.{◌>>=◌, Fails}
use Rattle.clos_forms.specs.declared.fault.SyntaxFault.{SyntaxFault}
use Rattle.clos_forms.specs.declared.fault.SyntaxFault.TheVariants.{Program, Memory}
use Rattle.clos_template.specs.Template.{Template, template, Templates, cons}
use Rattle.clos_template.specs.Grammar.{each_part, tree_at, trees_at}
use Rattle.clos_template.specs.Part.{Part, Shape}
use Rattle.clos_template.specs.Shape.{shape_of}

nothing_else : (o : Option Template) → (o >>= λ t. None >>= λ (ts : Templates). Some (cons t ts)) ≡ None
nothing_else (Some t) = refl
nothing_else None = refl

no_trees : (tree : Part → Option Template) (ps : List Part) → each_part tree ps None ≡ None
no_trees tree [] = refl
no_trees tree (p ∷ ps) = ap (λ r. tree p >>= λ t. r >>= λ ts. Some (cons t ts)) (no_trees tree ps) ∙ nothing_else (tree p)

-- the template of a part, before these
abbrev before_trees : Option Template → Option Templates → Option Templates
before_trees t o = t >>= λ f. o >>= λ ts. Some (cons f ts)

last_part : {A : Type 0} (view : A → Part) (tree : Part → Option Template) (ps : List A) (p : A) (o : Option Templates) → each_part tree (map view (ps ++ p ∷ [])) o ≡ each_part tree (map view ps) (before_trees (tree (view p)) o)
last_part view tree [] p o = refl
last_part view tree (q ∷ ps) p o = ap (λ r. tree (view q) >>= λ f. r >>= λ fs. Some (cons f fs)) (last_part view tree ps p o)

-- where the template of the last part is refused
pub trees_failed : {A : Type 0} (view : A → Part) (tree : Part → Option Template) (e : SyntaxFault) (all ps : List A) (p : A) (o t : Option Templates) → all ≡ ps ++ p ∷ [] → each_part tree (map view all) o ≡ t → Fails e (tree (view p)) → Fails e t
trees_failed view tree Program all ps p o t a h n =
    sym h ∙ ap (λ xs. each_part tree (map view xs) o) a ∙ last_part view tree ps p o ∙ ap (λ x. each_part tree (map view ps) (before_trees x o)) n
    ∙ no_trees tree (map view ps)
trees_failed view tree Memory all ps p o t a h n = tt

-- where it is given
pub trees_go_on : {A : Type 0} (view : A → Part) (tree : Part → Option Template) (all ps : List A) (p : A) (f : Template) (fs : Templates) (t : Option Templates) → all ≡ ps ++ p ∷ [] → each_part tree (map view all) (Some fs) ≡ t → tree (view p) ≡ Some f → each_part tree (map view ps) (Some (cons f fs)) ≡ t
trees_go_on view tree all ps p f fs t a h n =
    ap (λ x. each_part tree (map view ps) (before_trees x (Some fs))) (sym n) ∙ sym (last_part view tree ps p (Some fs))
    ∙ ap (λ xs. each_part tree (map view xs) (Some fs)) (sym a) ∙ h

-- one list further in
pub tree_step : (room m : ℕ) (p : Part) (s : Shape) (fs : Templates) → room ≡ suc m → shape_of p.role p.datum ≡ Some s → trees_at m s.parts ≡ Some fs → tree_at room p ≡ Some (template s.operator fs)
tree_step room m p s fs r h n =
    ap (λ k. tree_at k p) r ∙ ap (λ o. o >>= λ u. trees_at m u.parts >>= λ gs. Some (template u.operator gs)) h
    ∙ ap (λ o. o >>= λ gs. Some (template s.operator gs)) n

-- where the list further in is refused
pub tree_refused : (e : SyntaxFault) (room m : ℕ) (p : Part) (s : Shape) → room ≡ suc m → shape_of p.role p.datum ≡ Some s → Fails e (trees_at m s.parts) → Fails e (tree_at room p)
tree_refused Program room m p s r h n =
    ap (λ k. tree_at k p) r ∙ ap (λ o. o >>= λ u. trees_at m u.parts >>= λ gs. Some (template u.operator gs)) h
    ∙ ap (λ o. o >>= λ gs. Some (template s.operator gs)) n
tree_refused Memory room m p s r h n = tt
