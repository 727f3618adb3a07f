use Rattle.std.proofs.Common.{◌≡◌, ◌-◌, ◌++◌, take, drop, arith, ◌∙◌, ap, length, length-append, vec_len, List, ℕ}
use Rattle.std.proofs.Math.Seq.{drop-append_seam, take-append_seam}
use Rattle.disk_core.proofs.mem_log.put_before.Goals as goal

pub returns-clause-ok : goal.returns-clause-ok
returns-clause-ok c =
    let more : List ℕ = c.args.bytes.now in
    let old : List ℕ = c.args.tail.now.items in
    let whole : c.extend_from_slice.new.self.items ≡ old ++ more = c.in_ok-extend_from_slice.ensures.items in
    let size = c.extend_from_slice.new.self.ok.0 in
    let first : vec_len c.extend_from_slice.new.self - length more ≡ length old = omega (arith, size, ap length whole, length-append old more) in
    c.rotate_right.ensures.items ∙ (λ i. drop (first i) (whole i) ++ take (first i) (whole i)) ∙ (λ i. drop-append_seam old more i ++ take-append_seam old more i)

pub returns-clause-length : goal.returns-clause-length
returns-clause-length c =
    let more : List ℕ = c.args.bytes.now in
    let old : List ℕ = c.args.tail.now.items in
    let whole : c.extend_from_slice.new.self.items ≡ old ++ more = c.in_ok-extend_from_slice.ensures.items in
    let size = c.extend_from_slice.new.self.ok.0 in
    let first : vec_len c.extend_from_slice.new.self - length more ≡ length old = omega (arith, size, ap length whole, length-append old more) in
    let is : c.rotate_right.new.self.items ≡ more ++ old =
    c.rotate_right.ensures.items ∙ (λ i. drop (first i) (whole i) ++ take (first i) (whole i)) ∙ (λ i. drop-append_seam old more i ++ take-append_seam old more i) in
    ap length is ∙ length-append more old
