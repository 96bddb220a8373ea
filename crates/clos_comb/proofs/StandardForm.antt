-- The form that is made at once for the standard combination is that of its datum: as a form, and as many methods are called in
-- it as stand in the datum.
use Rattle.std.proofs.Common.{◌≡◌, ℕ, suc, arith, List, [], ◌∷◌, ◌++◌, map, reverse, length, Option, Some, None, true, refl, ap, sym, ◌∙◌, append-nil, eq-eqb}
use Rattle.std.proofs.lemmas.Bool.{le-leb}
use Rattle.std.specs.Prelude.{codes, nat_le, ◌+◌, if◌then◌else◌}
use Rattle.lisp_data.specs.Datum.{Dat, list, method, Dats, length_of}
use Rattle.lisp_data.specs.Datum as given
use Rattle.clos_forms.specs.Binding.{each}
use Rattle.clos_forms.specs.Effective.{called_by, called_by_all, calling_all, methods_in_all, methods_of, numbers_of}
use Rattle.clos_forms.specs.Fault.{◌>>=◌}
use Rattle.clos_forms.specs.Form.{Form, Forms, form, nil, cons}
use Rattle.clos_forms.specs.Grammar.{each_part, form_of, tree_at, trees_at}
use Rattle.clos_forms.specs.NamedMethods.{NamedMethod, numbered, made_of, callables_of, calling, made_parts, method_in}
use Rattle.clos_forms.specs.Operator.{Callable, the_method, made, progn, prog1}
use Rattle.clos_forms.specs.Part.{Shape, in_role, in_roles, operation}
use Rattle.clos_forms.specs.declared.part.Context.TheVariants.{Effective}
use Rattle.clos_forms.specs.WellFormed.{role_of}
use Rattle.clos_comb.specs.Calls.{around, call_of, calls_before, methods_before}
use Rattle.clos_comb.specs.Calls as calls
use Rattle.clos_comb.specs.Laws.{MakesItsForm}
use Rattle.clos_comb.specs.Standard.{main, primary_call, standard_form}
use Rattle.clos_comb.specs.Tree.{alone, around_tree, called_before, main_tree, method_called, primary_called, standard_tree}

-- the form of a datum, where there is so much room
abbrev tree : ℕ → Dat → Option Form
tree room d = tree_at room Effective (in_role (role_of progn) d)

-- the forms of data
abbrev trees : ℕ → Dats → Option Forms
trees room l = trees_at room Effective (in_roles (role_of progn) l)

-- ---- next methods

each_method : (ms : List ℕ) (l : Dats) (ns : List NamedMethod) → each method_in l ≡ Some ns → each method_in (methods_before ms l) ≡ Some (map numbered ms ++ ns)
each_method [] l ns e = e
each_method (m ∷ ms) l ns e = ap (λ o. o >>= λ xs. Some (numbered m ∷ xs)) (each_method ms l ns e)

called_these : (ms : List ℕ) (ns : List NamedMethod) → callables_of (map numbered ms ++ ns) ≡ map the_method ms ++ callables_of ns
called_these [] ns = refl
called_these (m ∷ ms) ns = ap (λ cs. the_method m ∷ cs) (called_these ms ns)

none_made : (ms : List ℕ) (ns : List NamedMethod) → made_parts (map numbered ms ++ ns) ≡ made_parts ns
none_made [] ns = refl
none_made (m ∷ ms) ns = none_made ms ns

-- what is called, as a form
abbrev of_shape : ℕ → Shape → Option Form
of_shape room s = each_part (tree_at room Effective) s.parts (Some nil) >>= λ fs. Some (form s.operator fs)

-- the form of a call, where its next methods are these
abbrev with_next : ℕ → ℕ → Option (List NamedMethod) → Option Form
with_next room m o = (o >>= λ ns. Some (calling (numbered m) ns)) >>= of_shape room

-- a call whose next methods are a list that is not empty
listed_call : (room m : ℕ) (d : Dat) (l : Dats) → tree (suc room) (call_of m (given.cons d l)) ≡ with_next room m (each method_in (given.cons d l))
listed_call room m d l = refl

-- a call of a method with numbered next methods
call_tree : (room m : ℕ) (ns : List ℕ) → tree (suc room) (call_of m (methods_before ns given.nil)) ≡ Some (method_called m (map the_method ns) nil)
call_tree room m [] = refl
call_tree room m (n ∷ ns) =
    listed_call room m (method n) (methods_before ns given.nil)
    ∙ ap (with_next room m) (each_method (n ∷ ns) given.nil [] refl)
    ∙ ap (λ ps. each_part (tree_at room Effective) ps (Some nil) >>= λ fs. Some (method_called m (callables_of (map numbered (n ∷ ns) ++ [])) fs)) (none_made (n ∷ ns) [])
    ∙ ap (λ cs. Some (method_called m cs nil)) (called_these (n ∷ ns) [] ∙ append-nil (map the_method (n ∷ ns)))

-- a call whose last next method is made of a form
abbrev within : List ℕ → Dat → List NamedMethod
within rs d = map numbered rs ++ made_of d ∷ []

made_call_of : (room m : ℕ) (rs : List ℕ) (d : Dat) (f : Form) → tree room d ≡ Some f → with_next room m (Some (within rs d)) ≡ Some (method_called m (map the_method rs ++ made ∷ []) (alone f))
made_call_of room m rs d f e =
    ap (λ ps. each_part (tree_at room Effective) ps (Some nil) >>= λ fs. Some (method_called m (callables_of (within rs d)) fs)) (none_made rs (made_of d ∷ []))
    ∙ ap (λ o. (o >>= λ g. Some (cons g nil)) >>= λ fs. Some (method_called m (callables_of (within rs d)) fs)) e
    ∙ ap (λ cs. Some (method_called m cs (alone f))) (called_these rs (made_of d ∷ []))

around_call : (room : ℕ) (rs : List ℕ) (d : Dat) (f : Form) → tree (suc room) d ≡ Some f → tree room d ≡ Some f → tree (suc room) (around rs d) ≡ Some (around_tree rs f)
around_call room [] d f h e = h
around_call room (r ∷ []) d f h e =
    listed_call room r (calls.made_of d) given.nil ∙ ap (with_next room r) (each_method [] (given.cons (calls.made_of d) given.nil) (made_of d ∷ []) refl)
    ∙ made_call_of room r [] d f e
around_call room (r ∷ (s ∷ rs)) d f h e =
    listed_call room r (method s) (methods_before rs (given.cons (calls.made_of d) given.nil))
    ∙ ap (with_next room r) (each_method (s ∷ rs) (given.cons (calls.made_of d) given.nil) (made_of d ∷ []) refl)
    ∙ made_call_of room r (s ∷ rs) d f e

-- ---- before, primary and after methods

calls_trees : (room : ℕ) (ms : List ℕ) (l : Dats) (fs : Forms) → trees (suc room) l ≡ Some fs → trees (suc room) (calls_before ms l) ≡ Some (called_before ms fs)
calls_trees room [] l fs e = e
calls_trees room (m ∷ ms) l fs e =
    ap (λ o. o >>= λ f. trees (suc room) (calls_before ms l) >>= λ gs. Some (cons f gs)) (call_tree room m [])
    ∙ ap (λ o. o >>= λ gs. Some (cons (method_called m [] nil) gs)) (calls_trees room ms l fs e)

primary_trees : (room : ℕ) (ps : List ℕ) → trees (suc room) (primary_call ps) ≡ Some (primary_called ps)
primary_trees room [] = refl
primary_trees room (p ∷ ps) = ap (λ o. o >>= λ f. Some (cons f nil)) (call_tree room p ps)

-- several methods: the datum, and its form
abbrev listed : List ℕ → List ℕ → List ℕ → Dat
listed bs ps qs =
    list (given.cons (calls.symbol_called (codes "MULTIPLE-VALUE-PROG1"))
    (given.cons (list (given.cons (calls.symbol_called (codes "PROGN")) (calls_before bs (primary_call ps)))) (calls_before (reverse qs) given.nil)))

abbrev listed_tree : List ℕ → List ℕ → List ℕ → Form
listed_tree bs ps qs = form prog1 (cons (form progn (called_before bs (primary_called ps))) (called_before (reverse qs) nil))

one_at_least : (n : ℕ) → nat_le 1 (n + 1) ≡ true
one_at_least n = le-leb 1 (n + 1) (omega arith)

-- what follows MULTIPLE-VALUE-PROG1
abbrev listed_parts : List ℕ → List ℕ → List ℕ → Dats
listed_parts bs ps qs = given.cons (list (given.cons (calls.symbol_called (codes "PROGN")) (calls_before bs (primary_call ps)))) (calls_before (reverse qs) given.nil)

listed_law : (room : ℕ) (bs ps qs : List ℕ) → tree (suc (suc (suc room))) (listed bs ps qs) ≡ Some (listed_tree bs ps qs)
listed_law room bs ps qs =
    ap (λ b. (if b then Some (operation prog1 (listed_parts bs ps qs)) else None) >>= of_shape (suc (suc room))) (one_at_least (length_of (calls_before (reverse qs) given.nil)))
    ∙ ap (λ o. ((o >>= λ fs. Some (form progn fs)) >>= λ f. trees (suc (suc room)) (calls_before (reverse qs) given.nil) >>= λ gs. Some (cons f gs)) >>= λ fs. Some (form prog1 fs))
    (calls_trees room bs (primary_call ps) (primary_called ps) (primary_trees room ps))
    ∙ ap (λ o. (o >>= λ gs. Some (cons (form progn (called_before bs (primary_called ps))) gs)) >>= λ fs. Some (form prog1 fs)) (calls_trees (suc room) (reverse qs) given.nil nil refl)

main_law : (room : ℕ) (bs ps qs : List ℕ) → tree (suc (suc (suc room))) (main bs ps qs) ≡ Some (main_tree bs ps qs)
main_law room [] [] qs = listed_law room [] [] qs
main_law room [] (p ∷ []) [] = call_tree (suc (suc room)) p []
main_law room [] (p ∷ []) (q ∷ qs) = listed_law room [] (p ∷ []) (q ∷ qs)
main_law room [] (p ∷ (r ∷ ps)) qs = listed_law room [] (p ∷ (r ∷ ps)) qs
main_law room (b ∷ bs) ps qs = listed_law room (b ∷ bs) ps qs

tree_law : (rs bs ps qs : List ℕ) → form_of Effective (standard_form rs bs ps qs) ≡ Some (standard_tree rs bs ps qs)
tree_law rs bs ps qs = around_call 1_000 rs (main bs ps qs) (main_tree bs ps qs) (main_law 998 bs ps qs) (main_law 997 bs ps qs)

-- ---- the methods that are called are those of the datum

methods_in_front : (ms : List ℕ) (l : Dats) → methods_in_all (methods_before ms l) ≡ ms ++ methods_in_all l
methods_in_front [] l = refl
methods_in_front (m ∷ ms) l = ap (λ ns. m ∷ ns) (methods_in_front ms l)

numbers_in_front : (ms : List ℕ) (cs : List Callable) → numbers_of (map the_method ms ++ cs) ≡ ms ++ numbers_of cs
numbers_in_front [] cs = refl
numbers_in_front (m ∷ ms) cs = ap (λ ns. m ∷ ns) (numbers_in_front ms cs)

numbers_alone : (ms : List ℕ) → numbers_of (map the_method ms) ≡ ms
numbers_alone [] = refl
numbers_alone (m ∷ ms) = ap (λ ns. m ∷ ns) (numbers_alone ms)

call_methods : (m : ℕ) (ns : List ℕ) → methods_of (call_of m (methods_before ns given.nil)) ≡ m ∷ ns
call_methods m [] = refl
call_methods m (n ∷ ns) =
    ap (λ xs. m ∷ xs) (append-nil (n ∷ methods_in_all (methods_before ns given.nil)) ∙ ap (λ xs. n ∷ xs) (methods_in_front ns given.nil ∙ append-nil ns))

called_methods : (m : ℕ) (ns : List ℕ) → called_by (method_called m (map the_method ns) nil) ≡ m ∷ ns
called_methods m ns = append-nil (m ∷ numbers_of (map the_method ns)) ∙ ap (λ xs. m ∷ xs) (numbers_alone ns)

calls_methods : (ms : List ℕ) (l : Dats) → methods_in_all (calls_before ms l) ≡ ms ++ methods_in_all l
calls_methods [] l = refl
calls_methods (m ∷ ms) l = ap (λ xs. m ∷ xs) (calls_methods ms l)

calls_called : (ms : List ℕ) (fs : Forms) → called_by_all (called_before ms fs) ≡ ms ++ called_by_all fs
calls_called [] fs = refl
calls_called (m ∷ ms) fs = ap (λ xs. m ∷ xs) (calls_called ms fs)

primary_methods : (ps : List ℕ) → methods_in_all (primary_call ps) ≡ ps
primary_methods [] = refl
primary_methods (p ∷ ps) = append-nil (methods_of (call_of p (methods_before ps given.nil))) ∙ call_methods p ps

primaries_called : (ps : List ℕ) → called_by_all (primary_called ps) ≡ ps
primaries_called [] = refl
primaries_called (p ∷ ps) = append-nil (called_by (method_called p (map the_method ps) nil)) ∙ called_methods p ps

-- in the order in which they are called
abbrev in_order : List ℕ → List ℕ → List ℕ → List ℕ
in_order bs ps qs = (bs ++ ps) ++ reverse qs

listed_methods : (bs ps qs : List ℕ) → methods_of (listed bs ps qs) ≡ in_order bs ps qs
listed_methods bs ps qs =
    ap (λ xs. xs ++ methods_in_all (calls_before (reverse qs) given.nil)) (calls_methods bs (primary_call ps) ∙ ap (λ xs. bs ++ xs) (primary_methods ps))
    ∙ ap (λ xs. (bs ++ ps) ++ xs) (calls_methods (reverse qs) given.nil ∙ append-nil (reverse qs))

listed_called : (bs ps qs : List ℕ) → called_by (listed_tree bs ps qs) ≡ in_order bs ps qs
listed_called bs ps qs =
    ap (λ xs. xs ++ called_by_all (called_before (reverse qs) nil)) (calls_called bs (primary_called ps) ∙ ap (λ xs. bs ++ xs) (primaries_called ps))
    ∙ ap (λ xs. (bs ++ ps) ++ xs) (calls_called (reverse qs) nil ∙ append-nil (reverse qs))

main_called : (bs ps qs : List ℕ) → called_by (main_tree bs ps qs) ≡ methods_of (main bs ps qs)
main_called [] [] qs = listed_called [] [] qs ∙ sym (listed_methods [] [] qs)
main_called [] (p ∷ []) [] = refl
main_called [] (p ∷ []) (q ∷ qs) = listed_called [] (p ∷ []) (q ∷ qs) ∙ sym (listed_methods [] (p ∷ []) (q ∷ qs))
main_called [] (p ∷ (r ∷ ps)) qs = listed_called [] (p ∷ (r ∷ ps)) qs ∙ sym (listed_methods [] (p ∷ (r ∷ ps)) qs)
main_called (b ∷ bs) ps qs = listed_called (b ∷ bs) ps qs ∙ sym (listed_methods (b ∷ bs) ps qs)

around_methods : (r : ℕ) (rs : List ℕ) (d : Dat) → methods_of (around (r ∷ rs) d) ≡ r ∷ (rs ++ methods_of d)
around_methods r [] d = ap (λ xs. r ∷ xs) (append-nil ((methods_of d ++ []) ++ []) ∙ append-nil (methods_of d ++ []) ∙ append-nil (methods_of d))
around_methods r (s ∷ rs) d =
    ap (λ xs. r ∷ xs)
    (append-nil (s ∷ methods_in_all (methods_before rs (given.cons (calls.made_of d) given.nil)))
    ∙ ap (λ xs. s ∷ xs) (methods_in_front rs (given.cons (calls.made_of d) given.nil) ∙ ap (λ xs. rs ++ xs) (append-nil (methods_of d ++ []) ∙ append-nil (methods_of d))))

around_called : (r : ℕ) (rs : List ℕ) (f : Form) → called_by (around_tree (r ∷ rs) f) ≡ r ∷ (rs ++ called_by f)
around_called r rs f =
    ap (λ xs. xs ++ (called_by f ++ [])) (ap (λ xs. r ∷ xs) (numbers_in_front rs (made ∷ []) ∙ append-nil rs))
    ∙ ap (λ xs. r ∷ (rs ++ xs)) (append-nil (called_by f))

all_called : (rs bs ps qs : List ℕ) → called_by (standard_tree rs bs ps qs) ≡ methods_of (standard_form rs bs ps qs)
all_called [] bs ps qs = main_called bs ps qs
all_called (r ∷ rs) bs ps qs =
    around_called r rs (main_tree bs ps qs) ∙ ap (λ xs. r ∷ (rs ++ xs)) (main_called bs ps qs) ∙ sym (around_methods r rs (main bs ps qs))

pub makes_its_form : MakesItsForm
makes_its_form rs bs ps qs =
    ap (λ o. o >>= calling_all (methods_of (standard_form rs bs ps qs))) (tree_law rs bs ps qs)
    ∙ ap (λ b. if b then Some (standard_tree rs bs ps qs) else None) (eq-eqb (length (called_by (standard_tree rs bs ps qs))) (length (methods_of (standard_form rs bs ps qs))) (ap length (all_called rs bs ps qs)))
