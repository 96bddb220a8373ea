-- The form of the standard combination's datum, as it is made at once.
use Rattle.std.specs.Prelude.{ℕ, List, [], ◌∷◌, ◌++◌, map, reverse}
use Rattle.clos_forms.specs.Form.{Form, Forms, form, nil, cons}
use Rattle.clos_forms.specs.Operator.{Callable, the_method, made, call_method, progn, prog1}

-- a call of this method with these next methods, of which one may be made of a form
abbrev pub method_called : ℕ → List Callable → Forms → Form
method_called m next forms = form (call_method (the_method m) next) forms

-- calls of these methods, which have no next methods, and then these forms
abbrev pub called_before : List ℕ → Forms → Forms
called_before [] forms = forms
called_before (m ∷ ms) forms = cons (method_called m [] nil) (called_before ms forms)

-- one form
abbrev pub alone : Form → Forms
alone f = cons f nil

-- the most specific primary method, with the others as next methods
abbrev pub primary_called : List ℕ → Forms
primary_called [] = nil
primary_called (p ∷ ps) = alone (method_called p (map the_method ps) nil)

-- before methods, primary ones and after methods
abbrev pub main_tree : List ℕ → List ℕ → List ℕ → Form
main_tree [] (p ∷ []) [] = method_called p [] nil
main_tree bs ps qs = form prog1 (cons (form progn (called_before bs (primary_called ps))) (called_before (reverse qs) nil))

-- around methods, of which the last has the form as its next method
abbrev pub around_tree : List ℕ → Form → Form
around_tree [] f = f
around_tree (r ∷ rs) f = method_called r (map the_method rs ++ made ∷ []) (alone f)

-- all of them
abbrev pub standard_tree : List ℕ → List ℕ → List ℕ → List ℕ → Form
standard_tree rs bs ps qs = around_tree rs (main_tree bs ps qs)
