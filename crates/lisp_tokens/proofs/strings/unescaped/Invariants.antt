use Rattle.std.proofs.Common.{◌≡◌, ◌++◌, IsUtf8, string_bytes, encode_utf8_all}
use Rattle.std.specs.Str.{chars}
use Rattle.std.specs.Str.Iter.{chars_rest}
use Rattle.lisp_tokens.specs.Strings.{unescaped, characters}
use Rattle.lisp_tokens.proofs.strings.unescaped.Given as goal

-- what is left of the body completes what was written
abbrev pub invariant-loop-character : goal.invariant-loop-character
invariant-loop-character l = record {
  text : IsUtf8 (chars_rest l.character-iterator);
  written : string_bytes l.out ++ encode_utf8_all (unescaped l.taken (chars (chars_rest l.character-iterator))) ≡ characters l.body;
}
