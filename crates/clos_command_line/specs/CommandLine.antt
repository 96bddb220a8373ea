-- The command line `clos [--echo] [--notices] [--steps N] [--depth N] [FILE..]`, as clap's definition of a
-- parse reads it, and the settings that a parse gives. It has a version to show, besides help.
use Rattle.std.specs.Prelude.{◌≡◌, ◌≤◌, ℕ, Bool, false, true, List, [], ◌∷◌, Some, codes, map, unwrap_or}
use Rattle.std.specs.Option.{option_map_or}
use Rattle.std.specs.Str.{bytes_eq}
use Rattle.std.specs.Str.Parse.{digits_value, without_leading_plus}
use Rattle.clap.specs.Words.{App, IsUnsignedIn, Row, Rule, Text, all_of, first_of, first_value}
use Rattle.clap.specs.Words.{new_app, new_rule, with_rule}
use Rattle.clap.specs.declared.parser.matches.Found.{Found}
use Rattle.clap.specs.declared.builder.action.ArgAction.TheVariants.{Set, SetTrue, Append}
use Rattle.clap.specs.declared.builder.value_parser.ValueParser.TheVariants as vp
use Rattle.clos_command_line.specs.declared.options.Settings.{Settings}

-- a flag
abbrev pub flag_rule : Text → Rule
flag_rule name = record (new_rule name) { long = Some name; action = Some SetTrue }

-- an option with a number from 1 to `most`, and what stands for it where it is not given
abbrev pub number_rule : Text → ℕ → Text → Rule
number_rule name most default = record (new_rule name) {
  long = Some name;
  action = Some Set;
  value_names = 1;
  parser = Some (vp.Unsigned 1 most);
  defaults = default ∷ [];
}

-- any number of files
abbrev pub files_rule : Rule
files_rule = record (new_rule (codes "files")) { action = Some Append; value_names = 1 }

-- a command with a version
abbrev pub with_version : App → App
with_version a = record a { top = record a.top { has_version = true } }

unfoldable pub clos_command : App
clos_command =
    with_rule (with_rule (with_rule (with_rule (with_rule (with_version (new_app (codes "clos"))) (flag_rule (codes "echo")))
    (flag_rule (codes "notices"))) (number_rule (codes "steps") 1000000000 (codes "1000000")))
    (number_rule (codes "depth") 4000 (codes "1000"))) files_rule

-- the value of an option is the text of the number n
abbrev pub IsNumberOf : Text → List Row → ℕ → Type 0
IsNumberOf id rows n =
    (t : Text) × (first_of id rows ≡ Some t) × (n ≡ digits_value 10 (without_leading_plus t))

-- whether a flag was given
abbrev pub is_given : Text → List Row → Bool
is_given id rows = option_map_or (λ t. bytes_eq t (codes "true")) (first_of id rows) false

-- the settings are what the matches say
pub record AreMatched (rows : List Row) (s : Settings) : Type 0 where
  pub echo : s.echo ≡ is_given (codes "echo") rows
  pub notices : s.notices ≡ is_given (codes "notices") rows
  pub steps : IsNumberOf (codes "steps") rows s.steps
  pub depth : IsNumberOf (codes "depth") rows s.depth
  pub files : map (λ f. f.now) s.files.items ≡ unwrap_or (all_of (codes "files") rows) []

-- a parse found a number from 1 to `most` for the option
abbrev pub HasNumber : Found → Text → ℕ → Type 0
HasNumber f id most = (t : Text) × (first_value f id ≡ Some t) × IsUnsignedIn 1 most t

-- steps and depth are in their ranges
abbrev pub AreInRange : Settings → Type 0
AreInRange s = (1 ≤ s.steps) × (s.steps ≤ 1000000000) × (1 ≤ s.depth) × (s.depth ≤ 4000)
