use Rattle.std.proofs.Common.{ap, ◌≡◌, ◌∙◌, [], sym, codes, unwrap_or, false}
use Rattle.std.specs.Option.{option_map_or}
use Rattle.std.specs.Str.{bytes_eq}
use Rattle.std.specs.Str.Parse.{digits_value, without_leading_plus}
use Rattle.clap.specs.Words.{found_of}
use Rattle.clap.proofs.WalkLemmas.{first_value-rows, raw_values-rows}
use Rattle.clos_command_line.proofs.command_line.settings_found.Goals as goal

pub returns-clause-matched : goal.returns-clause-matched
returns-clause-matched c =
    let found = found_of c.args.matches.now in
    let s = c.requires.steps in
    let d = c.requires.depth in record {
      echo = c.has_flag-echo.ensures ∙ ap (λ o. option_map_or (λ t. bytes_eq t (codes "true")) o false) (first_value-rows found (codes "echo"));
      notices = c.has_flag-notices.ensures
          ∙ ap (λ o. option_map_or (λ t. bytes_eq t (codes "true")) o false) (first_value-rows found (codes "notices"));
      steps = (s.0, sym (first_value-rows found (codes "steps")) ∙ s.1, c.number-steps.ensures s.0 1000000000 (c.get_str.ensures ∙ s.1) s.2);
      depth = (d.0, sym (first_value-rows found (codes "depth")) ∙ d.1, c.number-depth.ensures d.0 4000 (c.get_str-2.ensures ∙ d.1) d.2);
      files = c.in_ok-files.ensures ∙ ap (λ o. unwrap_or o []) (raw_values-rows found (codes "files"));
    }

pub returns-clause-in_range : goal.returns-clause-in_range
returns-clause-in_range c =
    let s = c.requires.steps in
    let d = c.requires.depth in
    let steps : c.number-steps.result ≡ digits_value 10 (without_leading_plus s.0) = c.number-steps.ensures s.0 1000000000 (c.get_str.ensures ∙ s.1) s.2 in
    let depth : c.number-depth.result ≡ digits_value 10 (without_leading_plus d.0) = c.number-depth.ensures d.0 4000 (c.get_str-2.ensures ∙ d.1) d.2 in
    (rw steps s.2.2, rw steps s.2.3, rw depth d.2.2, rw depth d.2.3)
