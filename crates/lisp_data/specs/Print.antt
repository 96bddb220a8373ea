-- How values print (HyperSpec 22.1.3).
use Rattle.std.specs.Prelude.{ℕ, zero, suc, Bool, true, false, List, [], ◌∷◌, ◌++◌, Option, Some, None, codes, map, option_and_then, if◌then◌else◌, ◌==◌, ◌||◌}
use Rattle.std.specs.Fmt.{decimal, signed_decimal}
use Rattle.std.specs.List.{flat_map}
use Rattle.lisp_data.specs.Name.{Name}
use Rattle.lisp_data.specs.Value.{Val, integer, symbol, string, list, class, generic, method, instance, Vals, nil, cons}

-- what a function is called (HyperSpec glossary, function name): a symbol, or (SETF symbol)
pub data Called : Type 0 where
  by_symbol : Name → Called
  by_setf : Name → Called

-- what a method asks of one argument (7.6.2): a class, by its number, or to be EQL to an object
pub data Specializer : Type 0 where
  on_class : ℕ → Specializer
  on_eql : Val → Specializer

-- what a method prints: the number of its function, its qualifiers and its specializers
pub record MethodParts : Type 0 where
  pub generic : ℕ
  pub qualifiers : List Val
  pub specializers : List Specializer

abbrev pub qualifiers_of : Option MethodParts → List Val
qualifiers_of None = []
qualifiers_of (Some m) = m.qualifiers

abbrev pub specializers_of : Option MethodParts → List Specializer
specializers_of None = []
specializers_of (Some m) = m.specializers

-- what the numbers of classes, generic functions, methods and instances stand for
pub record Names : Type 0 where
  pub class : ℕ → Option Name
  pub generic : ℕ → Option Called
  pub method : ℕ → Option MethodParts
  pub class_of : ℕ → Option ℕ

-- a symbol (22.1.3.3): its characters, a keyword's after a colon
abbrev pub name_text : Name → List ℕ
name_text n = (if n.keyword then codes ":" else []) ++ n.text

-- a name, or a question mark where there is none
abbrev pub known_text : Option Name → List ℕ
known_text None = codes "?"
known_text (Some n) = name_text n

-- a character of a string: a backslash stands before a double quote (34) and a backslash (92)
abbrev pub escaped : ℕ → List ℕ
escaped b = if (b == 34) || (b == 92) then 92 ∷ b ∷ [] else b ∷ []

-- a string (22.1.3.4): readably its characters between double quotes, else these alone
abbrev pub string_text : Bool → List ℕ → List ℕ
string_text true s = codes "\"" ++ (flat_map escaped s ++ codes "\"")
string_text false s = s

-- each text after a space
abbrev pub spaced : List (List ℕ) → List ℕ
spaced [] = []
spaced (t ∷ ts) = codes " " ++ (t ++ spaced ts)

-- a list of these texts (22.1.3.5): in parentheses with single spaces, the empty list as NIL
abbrev pub list_text : List (List ℕ) → List ℕ
list_text [] = codes "NIL"
list_text (t ∷ ts) = codes "(" ++ (t ++ (spaced ts ++ codes ")"))

-- a class, by its number
abbrev pub class_name_text : Names → ℕ → List ℕ
class_name_text names c = known_text (names.class c)

-- what a function is called: a symbol, or the list of SETF and one
unfoldable pub called_text : Option Called → List ℕ
called_text None = codes "?"
called_text (Some (by_symbol n)) = name_text n
called_text (Some (by_setf n)) = codes "(SETF " ++ (name_text n ++ codes ")")

-- an instance (22.1.3.13): its class's name and its number
abbrev pub instance_text : Names → ℕ → List ℕ
instance_text names n = codes "#<" ++ (known_text (option_and_then names.class (names.class_of n)) ++ (codes " " ++ (decimal n ++ codes ">")))

module _ (readably : Bool) (names : Names) where
  -- the bytes that a value prints as, where methods print so
  abbrev mutual
    pub text_with : (ℕ → List ℕ) → Val → List ℕ
    text_with methods (integer n) = signed_decimal n
    text_with methods (symbol s) = name_text s
    text_with methods (string s) = string_text readably s
    text_with methods (list l) = list_text (texts_with methods l)
    text_with methods (class n) = codes "#<CLASS " ++ (class_name_text names n ++ codes ">")
    text_with methods (generic n) = codes "#<GENERIC-FUNCTION " ++ (called_text (names.generic n) ++ codes ">")
    text_with methods (method n) = methods n
    text_with methods (instance n) = instance_text names n

    -- the bytes of each element
    pub texts_with : (ℕ → List ℕ) → Vals → List (List ℕ)
    texts_with methods nil = []
    texts_with methods (cons v l) = text_with methods v ∷ texts_with methods l

  unfoldable pub specializer_text : (ℕ → List ℕ) → Specializer → List ℕ
  specializer_text methods (on_class c) = class_name_text names c
  specializer_text methods (on_eql v) = codes "(EQL " ++ (text_with methods v ++ codes ")")

  -- after the name of a method's function: the qualifiers each after a space, then the list of specializers
  abbrev pub lists_text : (ℕ → List ℕ) → List Val → List Specializer → List ℕ
  lists_text methods qualifiers specializers =
      spaced (map (text_with methods) qualifiers) ++ (codes " " ++ (list_text (map (specializer_text methods) specializers) ++ codes ">"))

  -- a method (22.1.3.13)
  abbrev pub described : (ℕ → List ℕ) → Option MethodParts → List ℕ
  described methods None = codes "#<METHOD ?>"
  described methods (Some m) =
      codes "#<METHOD " ++ (called_text (names.generic m.generic) ++ lists_text methods m.qualifiers m.specializers)

  -- a method by its number, where so many methods may stand inside one another as objects of eql specializers
  abbrev pub methods_within : ℕ → ℕ → List ℕ
  methods_within zero n = codes "#<METHOD ?>"
  methods_within (suc k) n = described (methods_within k) (names.method n)

  -- a method by its number. The methods in its specializers were made before it, so they are fewer than its number
  abbrev pub method_text : ℕ → List ℕ
  method_text n = methods_within (suc n) n

  -- the bytes that a value prints as, readably (prin1) or not (princ)
  abbrev pub text_of : Val → List ℕ
  text_of v = text_with method_text v
