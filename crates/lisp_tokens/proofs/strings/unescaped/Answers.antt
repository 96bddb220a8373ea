use Rattle.std.proofs.Common.{◌≡◌, ◌≢◌, ◌⊎◌, ◌++◌, inl, inr, true, append-nil, ◌∙◌, sym, encode_utf8, string_bytes}
use Rattle.std.proofs.lemmas.List.{nil_from_length}
use Rattle.std.proofs.lemmas.Str.{IsUtf8-past_char, chars-nil}
use Rattle.std.specs.Str.Iter.{chars_rest}
use Rattle.lisp_tokens.proofs.OnStrings.{written-backslash, written-kept}
use Rattle.lisp_tokens.proofs.strings.unescaped.Goals as goal
use Rattle.lisp_tokens.proofs.strings.unescaped.Goals.{else-character-eq92-via-then-character-eq92+else-not-taken, else-character-eq92-via-else-character-eq92}

pub loop-character-preserved-then-not-taken : goal.loop-character-preserved-then-not-taken
loop-character-preserved-then-not-taken c =
    let before = c.loop-character.invariant in
    let split = c.in-Some.ensures.steps.0 in
    record {
      text = IsUtf8-past_char _ _ c.in-Some.character before.text split;
      written = written-backslash _ _ _ _ c.loop-character.taken c.in-Some.character before.text split c.if-character-eq92.true c.if-not-taken.true before.written;
    }

pub loop-character-preserved : goal.loop-character-preserved
loop-character-preserved c =
    let before = c.loop-character.invariant in
    let split = c.in-Some.ensures.steps.0 in
    let kept : (c.loop-character.taken ≡ true) ⊎ (c.in-Some.character ≢ 92) = elim c.else-character-eq92.branch [
      | else-character-eq92-via-then-character-eq92+else-not-taken w ↦ inl w.if-not-taken.false
      | else-character-eq92-via-else-character-eq92 w ↦ inr w.if-character-eq92.false
    ] in
    let pushed : string_bytes c.push.new.self ≡ string_bytes c.loop-character.out ++ encode_utf8 c.in-Some.character = c.in_ok-push.ensures.bytes in
    record {
      text = IsUtf8-past_char _ _ c.in-Some.character before.text split;
      written = written-kept _ _ _ _ _ c.loop-character.taken c.in-Some.character before.text split kept pushed before.written;
    }

pub returns : goal.returns
returns c =
    let none = nil_from_length (chars_rest c.loop-character.character-iterator) c.in-None.ensures.steps.0.0 in
    let written = rw (none, chars-nil) at c.loop-character.invariant.written in
    sym (append-nil (string_bytes c.loop-character.out)) ∙ written
