use Rattle.std.proofs.Common.{drop, inl, inr}
use Rattle.lisp_tokens.specs.Front.{Begins}
use Rattle.lisp_tokens.specs.Reading.{BeginsDatum, second, a_prefix}
use Rattle.lisp_tokens.specs.declared.front.Front.TheVariants.{String, List as AList, Prefixed}
use Rattle.lisp_reader.proofs.OnFaults.{RefusesEnd-front, RefusesEnd-token}
use Rattle.lisp_reader.proofs.OnReading.{BeginsDatum-string, BeginsDatum-list, BeginsDatum-token}
use Rattle.lisp_reader.proofs.read.surplus.Goals as goal
use Rattle.lisp_reader.proofs.read.surplus.Goals.{in-Ok, in-Err}

pub returns-in-Nothing : goal.returns-in-Nothing
returns-in-Nothing c = λ from gaps.
    RefusesEnd-front c.args.bytes.now from c.args.at c.in-Nothing.fault c.requires.within c.requires.unclosed gaps c.in-Nothing.ensures

pub returns-in-String : goal.returns-in-String
returns-in-String c = λ from gaps.
    let opens : BeginsDatum (drop c.args.at c.args.bytes.now) = elim c.in-String.is [
      | inl is ↦ let b : Begins c.args.bytes.now c.args.at String = rw is at c.front_at.ensures in BeginsDatum-string c.args.bytes.now c.args.at b.0 b.1
      | inr other ↦ elim other [
        | inl is ↦ let b : Begins c.args.bytes.now c.args.at AList = rw is at c.front_at.ensures in BeginsDatum-list c.args.bytes.now c.args.at b.0 b.1
        | inr is ↦ let b : Begins c.args.bytes.now c.args.at (Prefixed is.0) = rw is.1 at c.front_at.ensures in a_prefix _ _ _ b.2
      ]
    ] in
    (c.requires.within, second _ _ gaps opens)

pub returns-after-read_token : goal.returns-after-read_token
returns-after-read_token c = λ from gaps.
    elim c.match-read_token.branch [
      | in-Ok w ↦ rw w.result-is (c.requires.within, second _ _ gaps (BeginsDatum-token c.args.bytes.now 0 c.args.at _ _ c.in-Token.ensures.0 c.in-Token.ensures.1 (w.in-Ok.ensures 0).2))
      | in-Err w ↦ rw w.result-is (RefusesEnd-token c.args.bytes.now from c.args.at w.in-Err.fault c.in-Token.ensures.0 c.in-Token.ensures.1 c.requires.unclosed gaps (w.in-Err.ensures 0))
    ]
