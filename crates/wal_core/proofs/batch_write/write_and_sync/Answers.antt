use Rattle.std.proofs.Common.{length}
use Rattle.disk_core.specs.Volume.{Wrote}
use Rattle.wal_core.specs.Crash.{IsWritten}
use Rattle.wal_core.proofs.Steps.{kept_first, kept_step, kept_quiet, one_step}
use Rattle.wal_core.proofs.BatchWrites.{unwritten}
use Rattle.wal_core.proofs.batch_write.write_and_sync.Goals as goal

pub returns-in_err-write_at-clause-any_moment : goal.returns-in_err-write_at-clause-any_moment
returns-in_err-write_at-clause-any_moment g c told =
    let d = g.D.LogDisk in let d0 = c.args.disk.now in let at = c.args.at in let n = length c.args.from.now in
    one_step d.moment d.left_at d.images (IsWritten (d.images d0) at n) d0 c.write_at.new.self (Wrote at n) (λ x left. g.met.D.LogDisk.only_now d0 x told left) (λ x left. (x, left, unwritten at n x))
    (c.write_at.ensures.crash told) (λ x y left step. (x, left, step)) (c.write_at.ensures.time told)

pub returns-clause-any_moment : goal.returns-clause-any_moment
returns-clause-any_moment g c told =
    let d = g.D.LogDisk in let d0 = c.args.disk.now in let at = c.args.at in let n = length c.args.from.now in
    let P = IsWritten (d.images d0) at n in
    let k0 = kept_first d.moment d.left_at d.images P d0 (λ x left. g.met.D.LogDisk.only_now d0 x told left) (λ x left. (x, left, unwritten at n x)) in
    let k1 = kept_step d.moment d.left_at d.images P d0 d0 c.write_at.new.self (Wrote at n) k0 (c.write_at.ensures.crash told) (λ x y left step. (x, left, step)) (c.write_at.ensures.time told) in
    (kept_quiet d.moment d.left_at d.images P d0 c.write_at.new.self c.sync.new.self k1 (c.sync.ensures.crash told) (c.sync.ensures.time told)).leaves

pub returns-clause-left : goal.returns-clause-left
returns-clause-left g c told x left = c.write_at.ensures.crash told x (c.sync.ensures.crash told x left)
