-- What effective forms are made of (HyperSpec 7.6.6.2, 7.7 call-method), as data.
use Rattle.std.specs.Prelude.{ℕ, codes, false, List, [], ◌∷◌}
use Rattle.lisp_data.specs.Datum.{Dat, symbol, list, method, Dats, nil, cons}

-- the symbol of these characters, which is no keyword
abbrev pub symbol_called : List ℕ → Dat
symbol_called text = symbol (record { text = text; keyword = false })

-- these methods before those data
abbrev pub methods_before : List ℕ → Dats → Dats
methods_before [] l = l
methods_before (m ∷ ms) l = cons (method m) (methods_before ms l)

-- the list of the next methods, where there are any
abbrev pub next_in : Dats → Dats
next_in nil = nil
next_in (cons d l) = cons (list (cons d l)) nil

-- (call-method m) or (call-method m (next ..)): a call of this method with these next methods
abbrev pub call_of : ℕ → Dats → Dat
call_of m next = list (cons (symbol_called (codes "CALL-METHOD")) (cons (method m) (next_in next)))

-- calls of these methods, which have no next methods, before those data
abbrev pub calls_before : List ℕ → Dats → Dats
calls_before [] l = l
calls_before (m ∷ ms) l = cons (call_of m nil) (calls_before ms l)

-- (make-method d): a method that is made of this form
abbrev pub made_of : Dat → Dat
made_of d = list (cons (symbol_called (codes "MAKE-METHOD")) (cons d nil))

-- a form within around methods, of which the last has it as its next method
abbrev pub around : List ℕ → Dat → Dat
around [] d = d
around (r ∷ rs) d = call_of r (methods_before rs (cons (made_of d) nil))
