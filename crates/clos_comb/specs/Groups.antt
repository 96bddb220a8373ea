-- The groups of the standard combination and of short forms (HyperSpec 7.6.6.2, 7.6.6.4).
use Rattle.std.specs.Prelude.{ℕ, codes, Bool, true, false, List, [], ◌∷◌}
use Rattle.lisp_data.specs.Name.{Name}
use Rattle.lisp_data.specs.Value.{symbol}
use Rattle.clos_forms.specs.Quotation.{name_value}
use Rattle.clos_groups.specs.clos_combination.Pattern.{Pattern, unqualified, qualified_by}
use Rattle.clos_groups.specs.clos_combination.declared.group.GroupSpecifier.{GroupSpecifier}
use Rattle.clos_groups.specs.clos_combination.declared.group.Order.TheVariants.{First}

-- a name of the language's own, which is no keyword
abbrev pub plain : List ℕ → Name
plain text = record { text = text; keyword = false }

-- a group of this name, whose one pattern this is
abbrev pub group : Name → Pattern → Bool → GroupSpecifier
group name p required = record { name = name; patterns = p ∷ []; order = First; required = required }

-- the methods that this keyword qualifies, of which there may be none
abbrev pub keyword_group : List ℕ → GroupSpecifier
keyword_group text = group (plain text) (qualified_by (symbol (record { text = text; keyword = true }))) false

-- the methods that are neither before, after nor around others, of which there has to be one
abbrev pub primary_group : Pattern → GroupSpecifier
primary_group p = group (plain (codes "PRIMARY")) p true

-- of the standard combination: primary methods have no qualifier
abbrev pub standard_groups : List GroupSpecifier
standard_groups = keyword_group (codes "AROUND") ∷ keyword_group (codes "BEFORE") ∷ primary_group unqualified ∷ keyword_group (codes "AFTER") ∷ []

-- of a short form: its name qualifies primary methods
abbrev pub short_groups : Name → List GroupSpecifier
short_groups name = keyword_group (codes "AROUND") ∷ primary_group (qualified_by (name_value name)) ∷ []
