-- The value that a `Value` stands for, and the list that a link does.
use Rattle.std.specs.Prelude.{◌≡◌}
use Rattle.lisp_data.specs.Value.{length_of, nesting_in, Val, integer, symbol, string, list, class, generic, method, instance, Vals, nil, cons}
use Rattle.lisp_data.specs.declared.value.Value.{Value}
use Rattle.lisp_data.specs.declared.value.Value.TheVariants.{Int, Sym, Str, List, Class, Generic, Method, Instance}
use Rattle.lisp_data.specs.declared.value.Link.{Link}
use Rattle.lisp_data.specs.declared.value.Link.TheVariants.{End, More}

abbrev pub value_of : Value → Val
value_of (Int n) = integer n
value_of (Sym name) = symbol name
value_of (Str text) = string text
value_of (List items) = list items
value_of (Class id) = class id.0
value_of (Generic id) = generic id.0
value_of (Method id) = method id.0
value_of (Instance id) = instance id.0

abbrev pub items_of : Link → Vals
items_of End = nil
items_of (More pair) = cons (value_of pair.value.head) pair.value.tail

-- the length and the nesting that a list keeps are its own
abbrev pub KnowsItself : Link → Type 0
KnowsItself End = Unit {0}
KnowsItself (More pair) =
    (pair.value.length ≡ length_of (items_of (More pair))) × (pair.value.nesting ≡ nesting_in (items_of (More pair)))
