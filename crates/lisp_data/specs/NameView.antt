-- The names that spellings are of.
use Rattle.std.specs.Prelude.{◌≡◌, false}
use Rattle.lisp_data.specs.Keys.{hash_of}
use Rattle.lisp_data.specs.Name.{Name}
use Rattle.lisp_data.specs.declared.name.Spelling.{Spelling}
use Rattle.lisp_data.specs.declared.name.Spelling.TheVariants.{Fixed, Shared}

abbrev pub name_of : Spelling → Name
name_of (Fixed text) = record { text = text.now.now; keyword = false }
name_of (Shared spelled) = record { text = spelled.value.text; keyword = spelled.value.keyword }

-- the hash that is kept is that of the characters
abbrev pub IsHashed : Spelling → Type 0
IsHashed (Fixed text) = Unit {0}
IsHashed (Shared spelled) = spelled.value.digest ≡ hash_of spelled.value.text
