use Rattle.std.proofs.Common.{◌≡◌, rules, w64, FitsSigned, to_z, of_z}
use Rattle.std.proofs.lemmas.Int.{fits_signed_from_abs}
use Rattle.std.specs.Int.{w128}
use Rattle.clos_program.proofs.Sums.{sums}
use Rattle.clos_program.proofs.natives.affine_sum.Goals as goal

pub returns : goal.returns
returns c =
    let h : FitsSigned w64 c.args.first = search (rules, fits_signed_from_abs) in
    let k : FitsSigned w64 c.args.second = search (rules, fits_signed_from_abs) in
    let x : to_z w128 (of_z w128 c.from.result) ≡ c.args.first = search rules in
    let y : to_z w128 (of_z w128 c.from-2.result) ≡ c.args.second = search rules in
    sums c.args.first c.args.second h k c.from.result c.from-2.result x y
