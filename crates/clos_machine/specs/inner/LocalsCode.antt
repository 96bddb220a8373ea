-- How the logic stores what a name denotes: as a value, or as a name and a value.
use Rattle.std.specs.Prelude.{◌≡◌, ◌⊎◌, List, refl}
use Rattle.std.specs.Coded.{Coded, code_by, coded×, coded⊎, coded_list}
use Rattle.std.proofs.Common.{inl, inr}
use Rattle.lisp_data.specs.Name.{Name}
use Rattle.lisp_data.specs.inner.NameCode.{name_code}
use Rattle.lisp_data.specs.Value.{Val}
use Rattle.lisp_data.specs.inner.ValueCode.{value_code}
use Rattle.clos_meaning.specs.clos_world.World.{Denoted, held, in_slot, Local}

abbrev denoted_to : Denoted → Val ⊎ (Name × Val)
denoted_to (held v) = inl v
denoted_to (in_slot slot object) = inr (slot, object)

abbrev denoted_from : Val ⊎ (Name × Val) → Denoted
denoted_from (inl v) = held v
denoted_from (inr p) = in_slot p.0 p.1

pub denoted_back : (d : Denoted) → denoted_from (denoted_to d) ≡ d
denoted_back (held v) = refl
denoted_back (in_slot slot object) = refl

abbrev denoted_code : Coded Denoted
denoted_code = code_by (Val ⊎ (Name × Val)) (coded⊎ value_code (coded× name_code value_code)) denoted_to denoted_from denoted_back

abbrev pub locals_code : Coded (List Local)
locals_code = coded_list (coded× name_code denoted_code)
