use Rattle.std.proofs.Common.{ℕ, leb, cond, bit_or, refl, arith}
use Rattle.std.proofs.lemmas.Simd.{zip2_splat, length-chunk}
use lib.Lanes.{chunk}
use Rattle.session_lang.specs.Lines.{is_printable}
use Rattle.session_lang.proofs.LaneLemmas.{PassesIn, itself, joined, passes_in, splat_is}
use Rattle.session_lang.proofs.lines.printable_run.Goals as goal

run : (c : goal.After-first_set) → PassesIn is_printable c.args.bytes.now c.args.at 16 c.first_set.result
run c =
    let v = chunk c.args.at 16 c.args.bytes.now in
    let long = length-chunk c.args.at 16 c.args.bytes.now c.requires in
    passes_in is_printable c.args.bytes.now c.args.at 16 _ _ c.requires (omega arith) c.type_inv.bytes c.first_set.ensures _
    (joined bit_or _ _ v (zip2_splat {Y = ℕ} _ v 16 32 long) (joined (λ a b. cond (leb a b) 255 0) _ _ v (splat_is v 16 127 long) (itself v))) refl

pub returns-clause-few : goal.returns-clause-few
returns-clause-few c = (run c).few

pub returns-clause-printable : goal.returns-clause-printable
returns-clause-printable c = (run c).pass
