-- What a quote form quotes (HyperSpec 3.8 quote).
use Rattle.std.specs.Prelude.{List, [], ◌∷◌, codes, Option, Some, None, option_map, if◌then◌else◌}
use Rattle.lisp_data.specs.Name.{Name}
use Rattle.lisp_data.specs.Value.{Val, Vals, is_within_limits}
use Rattle.lisp_data.specs.Value as value
use Rattle.lisp_data.specs.Datum.{Dat, integer, symbol, string, list, dotted, method, Dats, nil, cons}
use Rattle.clos_names.specs.Names.{is_called}

-- the symbol of this name: NIL is the empty list
abbrev pub name_value : Name → Val
name_value name = if is_called (codes "NIL") name then value.list value.nil else value.symbol name

-- a list that is neither too long nor too deep
abbrev pub within_limits : Vals → Option Vals
within_limits l = if is_within_limits l then Some l else None

-- a value before others, where all have one and the longer list is within the limits
abbrev pub with_front : Option Val → Option Vals → Option Vals
with_front (Some v) (Some l) = within_limits (value.cons v l)
with_front (Some v) None = None
with_front None l = None

-- the value of a quoted datum: a dotted list, one too long or too deep, and a method have none
abbrev mutual
  -- an integer and a string are themselves, NIL is the empty list; a list has a value where all in it have one
  pub quotation : Dat → Option Val
  quotation (integer n) = Some (value.integer n)
  quotation (symbol name) = Some (name_value name)
  quotation (string s) = Some (value.string s)
  quotation (list l) = option_map value.list (quotations l)
  quotation (dotted l d) = None
  quotation (method n) = None

  -- the values of all of these, in order, where they are within the limits of a list
  pub quotations : Dats → Option Vals
  quotations nil = Some value.nil
  quotations (cons d l) = with_front (quotation d) (quotations l)

-- these values before others
abbrev pub prepended : List Val → Option Vals → Option Vals
prepended [] o = o
prepended (v ∷ vs) o = with_front (Some v) (prepended vs o)
