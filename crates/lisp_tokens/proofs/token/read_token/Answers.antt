use Rattle.std.proofs.Common.{◌≡◌, ◌∙◌, ◌<◌, sym, refl, subst, ap, arith, length, List, ℕ, drop, slice_index, true, false, map, Bool}
use Rattle.std.specs.Prelude.{FitsSigned}
use Rattle.std.specs.Int.{w64}
use Rattle.std.specs.Char.{to_ascii_uppercase}
use Rattle.std.proofs.lemmas.Int.{to_z-of_z}
use Rattle.lisp_data.specs.Name.{Name}
use Rattle.lisp_data.specs.Datum.{integer, symbol}
use Rattle.std.specs.Str.{IsAscii}
use Rattle.std.proofs.lemmas.Result.{err_from_is_err_and}
use Rattle.std.proofs.lemmas.Str.{IsUtf8-from_ascii}
use Rattle.lisp_tokens.specs.declared.token.Class.TheVariants.{Integer, Dot, Keyword, Symbol, Bad}
use Rattle.lisp_tokens.proofs.OnTokens.{run-ascii, Reads-token, Fails-token, Takes-token, keyword-length}
use Rattle.lisp_tokens.proofs.token.read_token.Goals as goal

abbrev named_by : List ℕ → Bool → Name
named_by text keyword = record { text = map to_ascii_uppercase text; keyword = keyword }

pub unreachable-requires : goal.unreachable-requires
unreachable-requires c =
    let ascii : IsAscii c.token_at-token.result.now = subst IsAscii (sym c.token_at-token.ensures.value) (run-ascii (drop c.args.at c.args.bytes.now)) in
    c.in_default.ensures.cases.0 (IsUtf8-from_ascii c.token_at-token.result.now ascii)

pub integer-requires-clause-ascii : goal.integer-requires-clause-ascii
integer-requires-clause-ascii c =
    subst IsAscii (sym c.token_at-token.ensures.value) (run-ascii (drop c.args.at c.args.bytes.now))

pub range_from-requires : goal.range_from-requires
range_from-requires c =
    let token = c.token_at-token.result.now in
    let same : c.in-Ok.text.now ≡ token = c.in-Ok.ensures.cases.0 in
    let some = keyword-length token (c.in-Keyword.ensures.keyword refl) in
    let ascii : IsAscii token = subst IsAscii (sym c.token_at-token.ensures.value) (run-ascii (drop c.args.at c.args.bytes.now)) in
    let low : slice_index c.in-Ok.text.now 1 < 128 = subst (λ (t : List ℕ). slice_index t 1 < 128) (sym same) (ascii 1) in
    λ above. (omega (arith, ap length same), λ more high. absurd (omega arith))

pub returns-in-Some : goal.returns-in-Some
returns-in-Some c = λ room.
    let fits = c.in-Some.ensures.0 in
    let same = c.in-Some.ensures.1 in
    Reads-token c.args.bytes.now room c.args.at c.token_at-token.result.now Integer _ c.requires.within c.requires.begins c.token_at-token.ensures.value c.in-Integer.ensures.value
    (fits, ap integer (to_z-of_z w64 c.in-Some.number (subst (FitsSigned w64) (sym same) fits) ∙ same))

pub returns-in-None : goal.returns-in-None
returns-in-None c = λ room.
    Fails-token c.args.bytes.now room c.args.at c.token_at-token.result.now Integer _ c.requires.within c.requires.begins c.token_at-token.ensures.value c.in-Integer.ensures.value (c.in-None.ensures, refl)

pub returns-in_ok-upcased_name-in-Keyword : goal.returns-in_ok-upcased_name-in-Keyword
returns-in_ok-upcased_name-in-Keyword c = λ room.
    Reads-token c.args.bytes.now room c.args.at c.token_at-token.result.now Keyword _ c.requires.within c.requires.begins c.token_at-token.ensures.value c.in-Keyword.ensures.value
    (ap symbol (c.in_ok-upcased_name-in-Keyword.ensures ∙ ap (λ (t : List ℕ). named_by t true) (c.range_from.ensures.value ∙ ap (drop 1) c.in-Ok.ensures.cases.0)))

pub returns-in_ok-upcased_name-in-Symbol : goal.returns-in_ok-upcased_name-in-Symbol
returns-in_ok-upcased_name-in-Symbol c = λ room.
    Reads-token c.args.bytes.now room c.args.at c.token_at-token.result.now Symbol _ c.requires.within c.requires.begins c.token_at-token.ensures.value c.in-Symbol.ensures.value
    (ap symbol (c.in_ok-upcased_name-in-Symbol.ensures ∙ ap (λ (t : List ℕ). named_by t false) c.in-Ok.ensures.cases.0))

pub returns-in-Dot : goal.returns-in-Dot
returns-in-Dot c = λ room.
    Fails-token c.args.bytes.now room c.args.at c.token_at-token.result.now Dot _ c.requires.within c.requires.begins c.token_at-token.ensures.value c.in-Dot.ensures.value refl

pub returns-in-Bad : goal.returns-in-Bad
returns-in-Bad c = λ room.
    Fails-token c.args.bytes.now room c.args.at c.token_at-token.result.now Bad _ c.requires.within c.requires.begins c.token_at-token.ensures.value c.in-Bad.ensures.value refl

-- memory runs out only at a name

pub returns-in_err-upcased_name-in-Keyword : goal.returns-in_err-upcased_name-in-Keyword
returns-in_err-upcased_name-in-Keyword c =
    let token = c.token_at-token.result.now in
    let p = err_from_is_err_and c.from_residual.result c.from_residual.ensures.1 in
    rw (p.1, p.2) (λ room. Takes-token c.args.bytes.now room c.args.at token Keyword (named_by (drop 1 token) true) c.requires.within c.requires.begins c.token_at-token.ensures.value c.in-Keyword.ensures.value refl)

pub returns-in_err-upcased_name-in-Symbol : goal.returns-in_err-upcased_name-in-Symbol
returns-in_err-upcased_name-in-Symbol c =
    let token = c.token_at-token.result.now in
    let p = err_from_is_err_and c.from_residual-in_err-upcased_name-in-Symbol.result c.from_residual-in_err-upcased_name-in-Symbol.ensures.1 in
    rw (p.1, p.2) (λ room. Takes-token c.args.bytes.now room c.args.at token Symbol (named_by token false) c.requires.within c.requires.begins c.token_at-token.ensures.value c.in-Symbol.ensures.value refl)
