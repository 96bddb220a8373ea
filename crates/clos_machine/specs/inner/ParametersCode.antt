-- How the logic stores what a parameter is bound to.
use Rattle.std.specs.Prelude.{◌≡◌, ◌⊎◌, refl}
use Rattle.std.specs.Coded.{Coded, code_by, coded×, coded⊎, coded_list}
use Rattle.std.proofs.Common.{inl, inr}
use Rattle.lisp_data.specs.inner.NameCode.{name_code}
use Rattle.lisp_data.specs.Value.{Val}
use Rattle.lisp_data.specs.inner.ValueCode.{value_code}
use Rattle.clos_forms.specs.Form.{Form}
use Rattle.clos_forms.specs.inner.FormCode.{form_code}
use Rattle.clos_meaning.specs.clos_world.declared.condition.Condition.{Condition}
use Rattle.clos_meaning.specs.clos_world.contracts.condition.Condition as condition
use Rattle.clos_meaning.specs.Parameters.{Source, Sources, argument, refused, init}

abbrev source_to : Source → Val ⊎ (Condition ⊎ Form)
source_to (argument v) = inl v
source_to (refused c) = inr (inl c)
source_to (init f) = inr (inr f)

abbrev source_from : Val ⊎ (Condition ⊎ Form) → Source
source_from (inl v) = argument v
source_from (inr (inl c)) = refused c
source_from (inr (inr f)) = init f

pub source_back : (s : Source) → source_from (source_to s) ≡ s
source_back (argument v) = refl
source_back (refused c) = refl
source_back (init f) = refl

abbrev pub sources_code : Coded Sources
sources_code =
    coded_list (coded× name_code (code_by (Val ⊎ (Condition ⊎ Form)) (coded⊎ value_code (coded⊎ condition.the_row.coded form_code)) source_to source_from source_back))
