-- The lexical name that a `Local` stands for.
use Rattle.std.specs.Prelude.{◌≡◌, ⊤, List, [], ◌∷◌, None}
use Rattle.lisp_data.specs.ValueView.{value_of}
use Rattle.clos_meaning.specs.clos_world.World as world
use Rattle.clos_machine.specs.declared.locals.Denotation.{Denotation}
use Rattle.clos_machine.specs.declared.locals.Denotation.TheVariants.{Held, InSlot}
use Rattle.clos_machine.specs.declared.locals.Local.{Local}

abbrev pub denoted_of : Denotation → world.Denoted
denoted_of (Held v) = world.held (value_of v)
denoted_of (InSlot slot object) = world.in_slot slot (value_of object)

abbrev pub local_of : Local → world.Local
local_of l = (l.name, denoted_of l.denotation)

-- none of the first names is among the others
abbrev pub AreOthers : List world.Local → List world.Local → Type 0
AreOthers [] ls = ⊤
AreOthers (x ∷ xs) ls = (world.local_named ls x.0 ≡ None) × AreOthers xs ls

-- no name stands twice
abbrev pub AreApart : List world.Local → Type 0
AreApart [] = ⊤
AreApart (l ∷ ls) = (world.local_named ls l.0 ≡ None) × AreApart ls
