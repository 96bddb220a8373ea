-- What is told of functions and methods, and what is still to be printed, as the definitions have it.
use Rattle.std.specs.Prelude.{ℕ, ◌+◌, ◌*◌, ◌≤◌, ◌≡◌, ◌++◌, Bool, List, [], ◌∷◌, Option, Some, None, map, drop, length, codes}
use Rattle.lisp_data.specs.ValueView.{value_of}
use Rattle.lisp_data.specs.Print.{Names, Called, by_symbol, by_setf, Specializer, on_class, on_eql, qualifiers_of, specializers_of}
use Rattle.lisp_data.specs.Print.{spaced, list_text, described, text_with, texts_with, specializer_text, lists_text, methods_within, method_text}
use Rattle.lisp_data.specs.declared.ids.ClassId.{ClassId}
use Rattle.lisp_data.specs.declared.ids.GenericId.{GenericId}
use Rattle.lisp_data.specs.declared.naming.FunctionName as told_name
use Rattle.lisp_data.specs.declared.naming.FunctionName.TheVariants.{Symbol, Setf}
use Rattle.lisp_data.specs.declared.naming.Specializer as told
use Rattle.lisp_data.specs.declared.naming.Specializer.TheVariants.{Class, Eql}
use Rattle.lisp_data.specs.declared.print.Piece as piece
use Rattle.lisp_data.specs.declared.print.Piece.TheVariants.{Whole, Rest, Qualifiers, Specializers, MoreSpecializers, Specialized, Close}

abbrev pub number_of_class : ClassId → ℕ
number_of_class c = c.0

abbrev pub number_of_generic : GenericId → ℕ
number_of_generic g = g.0

abbrev pub called : told_name.FunctionName → Called
called (Symbol n) = by_symbol n.now
called (Setf n) = by_setf n.now

abbrev pub specializer_told : told.Specializer → Specializer
specializer_told (Class c) = on_class c.0
specializer_told (Eql v) = on_eql (value_of v.now)

module _ (readably : Bool) (names : Names) where
  -- methods, where so many may stand inside one another; None where only the outermost one's number tells
  abbrev pub methods_by : Option ℕ → ℕ → List ℕ
  methods_by None = method_text readably names
  methods_by (Some k) = methods_within readably names k

  -- a method, where so many may stand inside it, or where it may not stand itself
  abbrev pub method_inside : Option ℕ → ℕ → List ℕ
  method_inside None n = codes "#<METHOD ?>"
  method_inside (Some k) n = described readably names (methods_within readably names k) (names.method n)

  -- a method's qualifiers from a place on, its specializers and its end
  unfoldable pub qualifiers_from : ℕ → ℕ → ℕ → List ℕ
  qualifiers_from n place depth =
      lists_text readably names (methods_within readably names depth) (drop place (qualifiers_of (names.method n))) (specializers_of (names.method n))

  -- a method's specializers from a place on that is not the first, and its end
  unfoldable pub specializers_from : ℕ → ℕ → ℕ → List ℕ
  specializers_from n place depth =
      spaced (map (specializer_text readably names (methods_within readably names depth)) (drop place (specializers_of (names.method n)))) ++ codes ")>"

  -- the list of a method's specializers, and its end
  unfoldable pub specializers_text : ℕ → ℕ → List ℕ
  specializers_text n depth =
      list_text (map (specializer_text readably names (methods_within readably names depth)) (specializers_of (names.method n))) ++ codes ">"

  -- what is still to be written of a piece
  abbrev pub piece_text : piece.Piece → List ℕ
  piece_text (Whole v depth) = text_with readably names (methods_by depth) (value_of v.now)
  piece_text (Rest l depth) = spaced (texts_with readably names (methods_by depth) l.now) ++ codes ")"
  piece_text (Qualifiers m place depth) = qualifiers_from m.0 place depth
  piece_text (Specializers m depth) = specializers_text m.0 depth
  piece_text (MoreSpecializers m place depth) = specializers_from m.0 place depth
  piece_text (Specialized s depth) = specializer_text readably names (methods_within readably names depth) (specializer_told s)
  piece_text Close = codes ")"

  -- and of a stack of them, whose last one comes first
  abbrev pub pending : List piece.Piece → List ℕ
  pending [] = []
  pending (p ∷ ps) = pending ps ++ piece_text p

  -- A text is written or waits on the stack, and each byte written pays for two pieces.
  abbrev pub Prints : List ℕ → List ℕ → List piece.Piece → List ℕ → List piece.Piece → Type 0
  Prints text out pieces out' pieces' =
      (out' ++ pending pieces' ≡ out ++ (text ++ pending pieces))
      × (length pieces' + 2 * length out ≤ length pieces + 2 * length out')
