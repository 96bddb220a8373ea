-- What it says of two layouts that they are one.
use Rattle.std.proofs.Common.{◌≡◌, ◌&&◌, ◌||◌, Bool, true, false, List, [], ◌∷◌, Option, Some, None, refl, sym, ap, ◌∙◌, true≢false}
use Rattle.std.specs.Prelude.{is_some}
use Rattle.std.specs.List.{list_all, list_any}
use Rattle.std.specs.Map.{keys_of, lookup}
use Rattle.std.proofs.lemmas.Bool.{eq-eqb, eqb-true}
use Rattle.std.proofs.lemmas.Map.Made.{is_some-lookup}
use Rattle.lisp_data.specs.KeyLaws.{same_name-Decides}
use Rattle.lisp_data.specs.Name.{Name, same_name}
use Rattle.lisp_data.specs.declared.ids.CellId.{CellId}
use Rattle.clos_class.specs.Laws.{TellsLayouts}
use Rattle.clos_class.specs.Slots.{agrees_on, same_cell, same_cells, same_layout, same_names}

both : (a b : Bool) → (a && b) ≡ true → (a ≡ true) × (b ≡ true)
both true b e = (refl, e)
both false b e = absurd (true≢false (sym e))

joined : (a b : Bool) → a ≡ true → b ≡ true → (a && b) ≡ true
joined a b p q = ap (λ x. x && b) p ∙ q

-- ---- names in order

names_told : (ms ns : List Name) → same_names ms ns ≡ true → ms ≡ ns
names_told [] [] e = refl
names_told [] (n ∷ ns) e = absurd (true≢false (sym e))
names_told (m ∷ ms) [] e = absurd (true≢false (sym e))
names_told (m ∷ ms) (n ∷ ns) e =
    let h = both (same_name m n) (same_names ms ns) e in λ i. (same_name-Decides m n).0 h.0 i ∷ names_told ms ns h.1 i

names_alike : (ns : List Name) → same_names ns ns ≡ true
names_alike [] = refl
names_alike (n ∷ ns) = joined (same_name n n) (same_names ns ns) ((same_name-Decides n n).1 refl) (names_alike ns)

-- ---- cells by names

cell_told : (c d : Option CellId) → same_cell c d ≡ true → c ≡ d
cell_told None None e = refl
cell_told None (Some d) e = absurd (true≢false (sym e))
cell_told (Some c) None e = absurd (true≢false (sym e))
cell_told (Some c) (Some d) e = ap (λ n. Some (record { 0 = n })) (eqb-true c.0 d.0 e)

cell_alike : (c : Option CellId) → same_cell c c ≡ true
cell_alike None = refl
cell_alike (Some c) = eq-eqb c.0 c.0 refl

agreed_at : (p : Name → Bool) (ns : List Name) (name : Name) → list_all p ns ≡ true → list_any (same_name name) ns ≡ true → p name ≡ true
agreed_at p [] name a h = absurd (true≢false (sym h))
agreed_at p (n ∷ ns) name a h = by (same_name name n) refl h (λ k. agreed_at p ns name (both (p n) (list_all p ns) a).1 k)
  where
    by : (b : Bool) → same_name name n ≡ b → (b || list_any (same_name name) ns) ≡ true → (list_any (same_name name) ns ≡ true → p name ≡ true) → p name ≡ true
    by true e k rest = ap p ((same_name-Decides name n).0 e) ∙ (both (p n) (list_all p ns) a).0
    by false e k rest = rest k

none_found : (es : List (Name × CellId)) (name : Name) → list_any (same_name name) (keys_of es) ≡ false → lookup (same_name name) es ≡ None
none_found es name h = none (lookup (same_name name) es) (is_some-lookup (same_name name) es ∙ h)
  where
    none : (o : Option CellId) → is_some o ≡ false → o ≡ None
    none None e = refl
    none (Some c) e = absurd (true≢false e)

all_pass : (p : Name → Bool) → ((n : Name) → p n ≡ true) → (ns : List Name) → list_all p ns ≡ true
all_pass p h [] = refl
all_pass p h (n ∷ ns) = joined (p n) (list_all p ns) (h n) (all_pass p h ns)

cells_told : (a b : List (Name × CellId)) → same_cells a b ≡ true → (name : Name) → lookup (same_name name) a ≡ lookup (same_name name) b
cells_told a b e name = by (list_any (same_name name) (keys_of a)) (list_any (same_name name) (keys_of b)) refl refl
  where
    by : (p q : Bool) → list_any (same_name name) (keys_of a) ≡ p → list_any (same_name name) (keys_of b) ≡ q → lookup (same_name name) a ≡ lookup (same_name name) b
    by true q x y = cell_told _ _ (agreed_at (agrees_on a b) (keys_of a) name (both (list_all (agrees_on a b) (keys_of a)) _ e).0 x)
    by false true x y = cell_told _ _ (agreed_at (agrees_on a b) (keys_of b) name (both (list_all (agrees_on a b) (keys_of a)) (list_all (agrees_on a b) (keys_of b)) e).1 y)
    by false false x y = none_found a name x ∙ sym (none_found b name y)

cells_alike : (a b : List (Name × CellId)) → ((name : Name) → lookup (same_name name) a ≡ lookup (same_name name) b) → same_cells a b ≡ true
cells_alike a b h = joined (list_all (agrees_on a b) (keys_of a)) (list_all (agrees_on a b) (keys_of b)) (all_pass (agrees_on a b) agrees (keys_of a)) (all_pass (agrees_on a b) agrees (keys_of b))
  where
    agrees : (name : Name) → agrees_on a b name ≡ true
    agrees name = ap (λ c. same_cell (lookup (same_name name) a) c) (sym (h name)) ∙ cell_alike (lookup (same_name name) a)

pub tells_layouts : TellsLayouts
tells_layouts a b = (told, alike)
  where
    told : same_layout a b ≡ true → (a.locals ≡ b.locals) × ((name : Name) → lookup (same_name name) a.shared ≡ lookup (same_name name) b.shared)
    told e = let h = both (same_names a.locals b.locals) (same_cells a.shared b.shared) e in (names_told a.locals b.locals h.0, cells_told a.shared b.shared h.1)

    alike : (a.locals ≡ b.locals) × ((name : Name) → lookup (same_name name) a.shared ≡ lookup (same_name name) b.shared) → same_layout a b ≡ true
    alike h = joined (same_names a.locals b.locals) (same_cells a.shared b.shared) (ap (same_names a.locals) (sym h.0) ∙ names_alike a.locals) (cells_alike a.shared b.shared h.1)
