-- What clap's facts on a parse say of the options of the command line.
use Rattle.std.proofs.Common.{◌≡◌, ◌⊎◌, ◌∙◌, ◌<◌, ◌≤◌, ◌&&◌, ap, ℕ, Bool, true, false, not, zero, suc, List, [], ◌∷◌, length, map, is_some, Option, Some, None, refl, sym, subst, inl, inr, arith}
use Rattle.std.specs.List.{All, slice_index_or}
use Rattle.std.specs.Str.{bytes_eq}
use Rattle.std.specs.Prelude.{find, option_map, slice_get, codes}
use Rattle.std.specs.Borrow.{Bor}
use Rattle.std.proofs.lemmas.List.{get_or-map, length-map}
use Rattle.std.proofs.lemmas.Bool.{eqb-true}
use Rattle.std.proofs.lemmas.List.Elements.{All-get_or}
use Rattle.std.proofs.lemmas.Slice.Eq.{bytes_eq-Decides}
use Rattle.clap.specs.Facts.{Entry, EntryPasses, HasIn, IsParsed, PassesArg, WantsDefault, args_of, groups_of, least_values, parser_of, parser_of_value, unwrap_or_range}
use Rattle.clap.specs.Built.{IsAuto, IsParsedFrom, IsPlain, IsPlainArg, SameRules}
use Rattle.clap.specs.Matches.{first_value, found_of, has_subcommand, matched_of}
use Rattle.clap.specs.Texts.{items_of}
use Rattle.clap.specs.Values.{Accepts, IsUnsignedIn}
use Rattle.clap.specs.declared.builder.command.Command.TheOpen.{Command-F}
use Rattle.clap.specs.Words.{is_simple, is_simple_and_free}
use Rattle.clap.specs.Walk.{Rule, Text, is_empty, is_free_arg, is_simple_arg, rule_of, texts}
use Rattle.clap.specs.Simple.{App, app_of, has_plain_fields}
use Rattle.clap.proofs.CallerLemmas.{default_present, entry_by_id, same_rules_by_id}
use Rattle.clap.specs.declared.builder.action.ArgAction.TheVariants.{Count, Set}
use Rattle.clap.specs.declared.builder.arg.Arg.{Arg}
use Rattle.clap.specs.declared.builder.command.Command.{Command}
use Rattle.clap.specs.declared.builder.command.Command.TheViews.{out-Command}
use Rattle.clap.specs.declared.builder.range.ValueRange.{ValueRange}
use Rattle.clap.specs.declared.builder.value_parser.ValueParser.{ValueParser}
use Rattle.clap.specs.declared.builder.value_parser.ValueParser.TheVariants as vp
use Rattle.clap.specs.declared.parser.matches.ArgMatches.{ArgMatches}
use Rattle.clap.specs.declared.parser.matches.Found.{Found}
use Rattle.clap.specs.declared.parser.matches.MatchedArg.{MatchedArg}
use Rattle.clos_command_line.specs.CommandLine.{HasNumber, clos_command, number_rule}

-- ---- tests

nothing : {X : Type 0} (xs : List X) → is_empty xs ≡ true → xs ≡ []
nothing [] h = refl
nothing (x ∷ xs) h =
    let zero_length : length (x ∷ xs) ≡ 0 = eqb-true _ _ h in
    absurd (omega arith)

absent : {X : Type 0} (o : Option X) → not (is_some o) ≡ true → o ≡ None
absent None h = refl
absent (Some x) h = cc

-- ---- an argument whose rule is simple and free

abbrev SimpleTests : Arg → Type 0
SimpleTests a = (a.default_vals_ifs.items ≡ []) × (a.overrides.items ≡ []) × (a.groups.items ≡ []) × (a.val_delim ≡ None)

split_simple : (a b c d r : Bool) → (a && (b && (c && (not d && r)))) ≡ true → (a ≡ true) × (b ≡ true) × (c ≡ true) × (not d ≡ true)
split_simple true true true false r h = (refl, refl, refl, refl)
split_simple true true true true r h = cc
split_simple true true false d r h = cc
split_simple true false c d r h = cc
split_simple false b c d r h = cc

simple_tests : (a : Arg) → is_simple_arg a ≡ true → SimpleTests a
simple_tests a simple =
    let s = split_simple (is_empty a.overrides.items) (is_empty a.default_vals_ifs.items) (is_empty a.groups.items) (is_some a.val_delim)
    (not (is_some a.terminator) && (not a.allow_hyphen_values && (not a.allow_negative_numbers
    && (not a.require_equals && (not a.last && not a.global))))) simple in
    (nothing a.default_vals_ifs.items s.1, nothing a.overrides.items s.0, nothing a.groups.items s.2, absent a.val_delim s.3)

split_free : (a b r : Bool) → (not a && (b && r)) ≡ true → (a ≡ false) × (b ≡ true)
split_free false true r h = (refl, refl)
split_free false false r h = cc
split_free true b r h = cc

plain_arg : (a : Arg) → is_simple_arg a ≡ true → is_free_arg a ≡ true → IsPlainArg a
plain_arg a simple free =
    let s = simple_tests a simple in
    let f = split_free a.exclusive (is_empty a.conflicts.items) (is_empty a.needs.items && (is_empty a.r_ifs.items
    && (is_empty a.r_ifs_all.items && (is_empty a.r_unless.items && is_empty a.r_unless_all.items)))) free in
    (f.0, nothing a.conflicts.items f.1, s.1, s.2)

-- ---- the arguments of the command

abbrev the_rules : List Rule
the_rules = clos_command.top.rules

rules_are : (c : Command) → app_of c ≡ clos_command → map rule_of (args_of c) ≡ the_rules
rules_are c e = ap (λ (a : App). a.top.rules) e

five : (c : Command) → app_of c ≡ clos_command → length (args_of c) ≡ 5
unfolding clos_command
five c e = sym (length-map (args_of c) rule_of) ∙ ap length (rules_are c e)

rule_at : (c : Command) → app_of c ≡ clos_command → (k : ℕ) (d : Arg) → k < length (args_of c)
    → rule_of (slice_index_or (args_of c) k d) ≡ slice_index_or the_rules k (rule_of d)
rule_at c e k d lt = sym (get_or-map rule_of (args_of c) k d (rule_of d) lt) ∙ ap (λ l. slice_index_or l k (rule_of d)) (rules_are c e)

simple_at : (k : ℕ) (d : Rule) → k < 5 → ((slice_index_or the_rules k d).is_simple ≡ true) × ((slice_index_or the_rules k d).is_free ≡ true)
unfolding clos_command
simple_at zero d lt = (refl, refl)
simple_at (suc zero) d lt = (refl, refl)
simple_at (suc (suc zero)) d lt = (refl, refl)
simple_at (suc (suc (suc zero))) d lt = (refl, refl)
simple_at (suc (suc (suc (suc zero)))) d lt = (refl, refl)
simple_at (suc (suc (suc (suc (suc n))))) d lt = absurd (omega arith)

simple_arg : (c : Command) → app_of c ≡ clos_command → (k : ℕ) (d : Arg) → k < length (args_of c)
    → (is_simple_arg (slice_index_or (args_of c) k d) ≡ true) × (is_free_arg (slice_index_or (args_of c) k d) ≡ true)
simple_arg c e k d lt =
    let at = rule_at c e k d lt in
    let lt5 : k < 5 = subst (λ n. k < n) (five c e) lt in
    let s = simple_at k (rule_of d) lt5 in
    (ap (λ (r : Rule). r.is_simple) at ∙ s.0, ap (λ (r : Rule). r.is_free) at ∙ s.1)

plain_fields : (c : Command) → app_of c ≡ clos_command → has_plain_fields (out-Command c) ≡ true
unfolding clos_command
plain_fields c e = ap (λ (a : App). a.top.is_plain) e

split_fields : (a b c r : Bool) → (a && (not b && (not c && r))) ≡ true → (a ≡ true) × (c ≡ false)
split_fields true false false r h = (refl, refl)
split_fields true false true r h = cc
split_fields true true c r h = cc
split_fields false b c r h = cc

field_tests : (f : Command-F Command) → has_plain_fields f ≡ true → (is_empty f.groups.items ≡ true) × (f.has_globals ≡ false)
field_tests f h = split_fields (is_empty f.groups.items) f.allow_external_subcommands f.has_globals (not f.infer_long_args
    && (not f.allow_missing_positional && (not f.infer_subcommands && (not f.args_conflicts_with_subcommands
    && (not f.subcommand_precedence_over_arg && (not (is_some f.long_flag) && (not (is_some f.short_flag)
    && (is_empty f.long_flag_aliases.items && is_empty f.short_flag_aliases.items)))))))) h

no_groups : (c : Command) → app_of c ≡ clos_command → groups_of c ≡ []
no_groups c e = nothing (groups_of c) (field_tests (out-Command c) (plain_fields c e)).0

no_globals : (c : Command) → app_of c ≡ clos_command → (out-Command c).has_globals ≡ false
no_globals c e = (field_tests (out-Command c) (plain_fields c e)).1

all_plain : (c : Command) → app_of c ≡ clos_command → IsPlain c
all_plain c e = (
  (λ k d lt. plain_arg (slice_index_or (args_of c) k d) (simple_arg c e k d lt).0 (simple_arg c e k d lt).1),
  no_groups c e,
)

some_arg : (xs : List Arg) → length xs ≡ 5 → Arg
some_arg [] h = absurd (omega arith)
some_arg (x ∷ xs) h = x

-- ---- the entry of an option

some_text : (xs : List (Bor Text)) (t : Text) → texts xs ≡ t ∷ [] → 0 < length xs
some_text [] t h = cc
some_text (x ∷ xs) t h = omega arith

id_found : (xs : List Entry) (id : Text) → HasIn xs id → is_some (find (λ e. bytes_eq e.0.now id) xs) ≡ true
id_found [] id h = absurd (omega arith)
id_found (x ∷ xs) id h = go (bytes_eq x.0.now id) refl h.0 refl (λ rest. id_found xs id rest)
  where
    go : (b : Bool) → bytes_eq x.0.now id ≡ b → (i : ℕ) → h.0 ≡ i → (HasIn xs id → is_some (find (λ e. bytes_eq e.0.now id) xs) ≡ true) → is_some (find (λ e. bytes_eq e.0.now id) (x ∷ xs)) ≡ true
    go true e i same rec = rw e refl
    go false e zero same rec =
        let here : bytes_eq (slice_index_or (x ∷ xs) h.0 x).0.now id ≡ true = h.2 x in
        let bad : bytes_eq x.0.now id ≡ true = rw same at here in
        cc
    go false e (suc i) same rec =
        let rest : HasIn xs id = (i, omega arith, λ d. rw same at (h.2 d)) in
        rw e (rec rest)

mapped_found : (f : Found) (id : Text) → is_some (find (λ e. bytes_eq e.0.now id) f.entries.items) ≡ true → is_some (matched_of f id) ≡ true
mapped_found f id h = go (find (λ e. bytes_eq e.0.now id) f.entries.items) h
  where
    go : (o : Option Entry) → is_some o ≡ true → is_some (option_map (λ e. e.1) o) ≡ true
    go None h = cc
    go (Some e) h = refl

head_accepted : (P : Bor Text → Type 0) (vs : List (Bor Text)) → 0 < length vs → All P vs
    → (v : Bor Text) × (option_map (λ s. s.now) (slice_get vs 0) ≡ Some v.now) × P v
head_accepted P [] lt h = absurd (omega arith)
head_accepted P (v ∷ vs) lt h = (v, refl, All-get_or P (v ∷ vs) 0 v (omega arith) h)

-- an option of the command: its place, and its rule there
record IsOption (name : Text) (most : ℕ) (default : Text) (k : ℕ) : Type 0 where
  low : k < 5
  rule : (d : Rule) → slice_index_or the_rules k d ≡ number_rule name most default
  unique : (j : ℕ) (d : Rule) → j < 5 → bytes_eq (slice_index_or the_rules j d).id name ≡ true → j ≡ k
  named : name ≡ [] → ⊥
  own : (name ≡ codes "help") ⊎ (name ≡ codes "version") → ⊥

module _ (old : Command) (m : ArgMatches) (p : IsParsedFrom old m) (e : app_of old ≡ clos_command) (name : Text) (most : ℕ) (default : Text) (k : ℕ) (o : IsOption name most default k) (d : Arg) where
  arg : Arg
  arg = slice_index_or (args_of old) k d

  there : k < length (args_of old)
  there = subst (λ n. k < n) (sym (five old e)) o.low

  arg_rule : rule_of (slice_index_or (args_of old) k d) ≡ number_rule name most default
  arg_rule = rule_at old e k d there ∙ o.rule (rule_of d)

  arg_id : (slice_index_or (args_of old) k d).id.now ≡ name
  arg_id = ap (λ (r : Rule). r.id) arg_rule

  arg_parser : (slice_index_or (args_of old) k d).value_parser ≡ Some (vp.Unsigned 1 most)
  arg_parser = ap (λ (r : Rule). r.parser) arg_rule

  arg_action : (slice_index_or (args_of old) k d).action ≡ Some Set
  arg_action = ap (λ (r : Rule). r.action) arg_rule

  arg_range : 1 ≤ least_values (slice_index_or (args_of old) k d)
  arg_range =
      let none : (slice_index_or (args_of old) k d).num_vals ≡ None = ap (λ (r : Rule). r.range) arg_rule in
      subst (λ (r : Option ValueRange). 1 ≤ (unwrap_or_range r).start_inclusive) (sym none) (omega arith)

  arg_default : WantsDefault (slice_index_or (args_of old) k d)
  arg_default = (
    (simple_tests (slice_index_or (args_of old) k d) (simple_arg old e k d there).0).0,
    some_text (items_of (slice_index_or (args_of old) k d).default_vals) default (ap (λ (r : Rule). r.defaults) arg_rule),
  )

  arg_own : IsAuto (slice_index_or (args_of old) k d) → ⊥
  arg_own auto = o.own (elim auto [ inl h ↦ inl (sym arg_id ∙ h) | inr h ↦ inr (sym arg_id ∙ h) ])

  arg_named : (slice_index_or (args_of old) k d).id.now ≡ [] → ⊥
  arg_named h = o.named (sym arg_id ∙ h)

  arg_unique : (j : ℕ) (x : Arg) → j < length (args_of old)
      → bytes_eq (slice_index_or (args_of old) j x).id.now (slice_index_or (args_of old) k d).id.now ≡ true → j ≡ k
  arg_unique j x lt same =
      let at : (slice_index_or (args_of old) j x).id.now ≡ (slice_index_or the_rules j (rule_of x)).id = ap (λ (r : Rule). r.id) (rule_at old e j x lt) in
      o.unique j (rule_of x) (subst (λ n. j < n) (five old e) lt) (rw (← at, ← arg_id) same)

  parsed : IsParsed p.built (found_of m) (has_subcommand m)
  parsed = p.parsed (p.from.globals ∙ no_globals old e)

  has_entry : is_some (matched_of (found_of m) name) ≡ true
  has_entry = subst (λ (id : Text). is_some (matched_of (found_of m) id) ≡ true) arg_id
      (mapped_found (found_of m) _ (id_found (found_of m).entries.items _ (default_present old m p (no_globals old e) k d there arg_default)))

  same_rules : (j : ℕ) (x : Arg) → j < length (args_of p.built) → slice_index_or (args_of p.built) j x ≡ x → bytes_eq x.id.now name ≡ true
      → SameRules (slice_index_or (args_of old) k d) x
  same_rules j x lt at same =
      same_rules_by_id old m p k d there arg_unique arg_own j x lt at (subst (λ (id : Text). bytes_eq x.id.now id ≡ true) (sym arg_id) same)

  no_group : (x : Entry) → x.0.now ≡ name → EntryPasses p.built x → x.1.is_group ≡ true → ⊥
  no_group x key pass g = elim (pass.3 g) [
    | inl empty ↦ o.named (sym key ∙ empty)
    | inr lots ↦
        let none : groups_of p.built ≡ [] = (p.from.plain (all_plain old e)).1 in
        let bad : 0 < 0 = rw none at lots in
        absurd (omega arith)
  ]

  has_values : (x : Entry) → x.0.now ≡ name → EntryPasses p.built x → 0 < length x.1.vals.items
  has_values x key pass = elim pass.1 [
    | inl h ↦ absurd (no_group x key pass h.0)
    | inr (inl v) ↦ v
    | inr (inr (inl h)) ↦
        let any = h.1 in
        let s = same_rules any.0 any.1 any.2 any.3 (rw key at any.4.0) in
        let is_set : any.1.action ≡ Some Set = s.action Set arg_action in
        let bad : Set ≡ Count = rw is_set at any.4.1 in
        cc
    | inr (inr (inr h)) ↦
        let s = same_rules h.0 h.1 h.2 h.3 (rw key at h.4.0) in
        elim h.4.1 [
          | inl none ↦
              let one = s.least arg_action arg_range in
              absurd (omega arith)
          | inr has ↦
              let bad : false ≡ true = rw (s.val_delim, (simple_tests (slice_index_or (args_of old) k d) (simple_arg old e k d there).0).3) at has in
              cc
        ]
  ]

  value_read : (x : Entry) → x.0.now ≡ name → EntryPasses p.built x
      → (t : Text) × (option_map (λ s. s.now) (slice_get x.1.vals.items 0) ≡ Some t) × IsUnsignedIn 1 most t
  value_read x key pass = elim pass.0 [
    | inl g ↦ absurd (no_group x key pass g)
    | inr all ↦
        let v = head_accepted (λ v. PassesArg p.built x.0.now v.now) x.1.vals.items (has_values x key pass) all in
        let any = v.2 in
        let s = same_rules any.0 any.1 any.2 any.3 (subst (λ (id : Text). bytes_eq any.1.id.now id ≡ true) key any.4.0) in
        let is_q : parser_of any.1 ≡ vp.Unsigned 1 most = ap parser_of_value (s.parser (vp.Unsigned 1 most) arg_parser) in
        let accepted = subst (λ (q : ValueParser). Accepts any.1.ignore_case q v.0.now) is_q any.4.1 in
        (v.0.now, v.1, accepted)
  ]

  -- the option has a value, which is a number in its range
  option_value : (t : Text) × (first_value (found_of m) name ≡ Some t) × IsUnsignedIn 1 most t
  option_value = go (matched_of (found_of m) name) refl has_entry
    where
      go : (f : Option MatchedArg) → matched_of (found_of m) name ≡ f → is_some (matched_of (found_of m) name) ≡ true
          → (t : Text) × (first_value (found_of m) name ≡ Some t) × IsUnsignedIn 1 most t
      go None is some =
          let bad : false ≡ true = rw is at some in
          cc
      go (Some x) is some =
          let got = entry_by_id (EntryPasses p.built) (found_of m).entries.items name x parsed.values is in
          let key : got.0.0.now ≡ name = (bytes_eq-Decides got.0.0.now name).0 got.2 in
          let read = value_read got.0 key got.3 in
          let value : option_map (λ s. s.now) (slice_get x.vals.items 0) ≡ Some read.0 = rw got.1 at read.1 in
          (read.0, rw is value, read.2)

steps_option : IsOption (codes "steps") 1000000000 (codes "1000000") 2
unfolding clos_command
steps_option = record {
  low = omega arith;
  rule = λ d. refl;
  unique = λ j d. only j d;
  named = λ h. cc;
  own = λ h. elim h [ inl x ↦ cc | inr x ↦ cc ];
}
  where
    only : (j : ℕ) (d : Rule) → j < 5 → bytes_eq (slice_index_or the_rules j d).id (codes "steps") ≡ true → j ≡ 2
    only zero d lt h = cc
    only (suc zero) d lt h = cc
    only (suc (suc zero)) d lt h = refl
    only (suc (suc (suc zero))) d lt h = cc
    only (suc (suc (suc (suc zero)))) d lt h = cc
    only (suc (suc (suc (suc (suc n))))) d lt h = absurd (omega arith)

depth_option : IsOption (codes "depth") 4000 (codes "1000") 3
unfolding clos_command
depth_option = record {
  low = omega arith;
  rule = λ d. refl;
  unique = λ j d. only j d;
  named = λ h. cc;
  own = λ h. elim h [ inl x ↦ cc | inr x ↦ cc ];
}
  where
    only : (j : ℕ) (d : Rule) → j < 5 → bytes_eq (slice_index_or the_rules j d).id (codes "depth") ≡ true → j ≡ 3
    only zero d lt h = cc
    only (suc zero) d lt h = cc
    only (suc (suc zero)) d lt h = cc
    only (suc (suc (suc zero))) d lt h = refl
    only (suc (suc (suc (suc zero)))) d lt h = cc
    only (suc (suc (suc (suc (suc n))))) d lt h = absurd (omega arith)

pub steps_value : (old : Command) (m : ArgMatches) → IsParsedFrom old m → app_of old ≡ clos_command
    → HasNumber (found_of m) (codes "steps") 1000000000
steps_value old m p e = option_value old m p e (codes "steps") 1000000000 (codes "1000000") 2 steps_option (some_arg (args_of old) (five old e))

pub depth_value : (old : Command) (m : ArgMatches) → IsParsedFrom old m → app_of old ≡ clos_command
    → HasNumber (found_of m) (codes "depth") 4000
depth_value old m p e = option_value old m p e (codes "depth") 4000 (codes "1000") 3 depth_option (some_arg (args_of old) (five old e))

-- clap gives the matches of the command as a function of the words, and the kinds of its faults
pub simple_command : (is_simple clos_command ≡ true) × (is_simple_and_free clos_command ≡ true)
unfolding clos_command
simple_command = (refl, refl)
