-- Room for the parts of parts never ends.
use Rattle.std.specs.Prelude.{◌≡◌, ◌<◌, ℕ, suc}
use Rattle.lisp_data.specs.Datum.{nesting_of}
use Rattle.clos_forms.specs.Grammar.{tree_at}
use Rattle.clos_forms.specs.Part.{Part}
use Rattle.clos_forms.specs.declared.part.Context.{Context}

-- A datum has the same form in any room that is above its nesting: one list deeper, there is one less of both.
abbrev pub RoomSuffices : Type 0
RoomSuffices = (context : Context) (p : Part) (room : ℕ) → nesting_of p.datum < room → tree_at room context p ≡ tree_at (suc (nesting_of p.datum)) context p
