use Rattle.std.proofs.Common.{◌≡◌, ◌∙◌, ◌≤◌, ◌<◌, ◌+◌, ◌-◌, ap, sym, subst, length, nat_eq, get_or, take, arith}
use Rattle.std.specs.Io.KnownBytes.{Appends}
use Rattle.std.proofs.lemmas.List.{get_or-take, length-take, length-take-le, take-take}
use Rattle.clos_ending.proofs.clos_system.clos_transcript.Lines.{last_byte}
use Rattle.clos_program.specs.Lines.{lined}
use Rattle.clos_program.proofs.Lines.{goes_on}
use Rattle.clos_program.proofs.output.OutputWrite.write.Goals as goal

pub returns-then-count-gt0-clause-bytes : goal.returns-then-count-gt0-clause-bytes
returns-then-count-gt0-clause-bytes g c =
    let n = c.in_ok-count.count in
    let buf = c.args.buf.now in
    let count = c.args.self.now.count in
    let fresh = c.args.self.now.fresh in
    let old = g.W.Write.contents c.args.self.now.writer in
    let new = g.W.Write.contents c.write.new.self in
    let ended = nat_eq (get_or buf (n - 1) 0) 10 in
    let few : n ≤ length (take c.min-most.result buf) = c.in_ok-count.ensures.bound in
    let short = length-take c.min-most.result buf in
    let many : length (take n buf) ≡ n = length-take-le n buf (omega (arith, few, short)) in
    let most : n ≤ c.min-most.result = omega (arith, few, short) in
    let appends : Appends old new (take n buf) =
    subst (λ bs. Appends old new bs) (take-take n c.min-most.result buf most) c.in_ok-count.ensures.bytes in
    let first : 0 < length (take n buf) = omega (arith, many, c.if-count-gt0.true) in
    let last : nat_eq (get_or (take n buf) (length (take n buf) - 1) 0) 10 ≡ ended = ap (λ k. nat_eq (get_or (take n buf) (k - 1) 0) 10) many
    ∙ ap (λ b. nat_eq b 10) (get_or-take n buf (n - 1) 0 (omega (arith, c.if-count-gt0.true))) in
    subst (λ k. Appends (lined count fresh old) (lined (count + k) ended new) (take n buf)) many
    (goes_on old new count fresh ended (take n buf) appends (λ out. sym (last_byte out (take n buf) first ∙ last)))
