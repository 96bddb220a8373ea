-- What an `Outcome` stands for.
use Rattle.clos_comb.specs.Outcome.{Combined, effective, invalid_method, group_empty, ambiguous_methods, bad_expansion, expansion_limit}
use Rattle.clos_comb.specs.declared.outcome.Outcome as of_code
use Rattle.clos_comb.specs.declared.outcome.Outcome.TheVariants.{Effective, InvalidMethod, RequiredGroupEmpty, AmbiguousMethods, BadExpansion, ExpansionLimit}

-- the outcome that the code's is
abbrev pub combined_of : of_code.Outcome → Combined
combined_of (Effective f) = effective f
combined_of (InvalidMethod id) = invalid_method id.0
combined_of (RequiredGroupEmpty name) = group_empty name
combined_of (AmbiguousMethods earlier later) = ambiguous_methods earlier.0 later.0
combined_of BadExpansion = bad_expansion
combined_of ExpansionLimit = expansion_limit
