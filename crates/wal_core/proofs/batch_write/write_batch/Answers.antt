use Rattle.std.proofs.Common.{ℕ, ◌+◌, List, [], ◌∷◌, length, ◌∙◌, ap}
use Rattle.disk_core.specs.Volume.{overlaid}
use Rattle.disk_core.specs.Moments.{leaves_weaker, run_then}
use Rattle.wal_core.specs.Opening.{body_in}
use Rattle.wal_core.specs.Crash.{IsFromImage, IsWritten}
use Rattle.wal_core.proofs.BatchWrites.{torn_batch, torn_opening, with_batch, zero_at_end, on_ok}
use Rattle.wal_core.proofs.batch_write.write_batch.Goals as goal

pub returns-in_err-write_and_sync-clause-any_moment : goal.returns-in_err-write_and_sync-clause-any_moment
returns-in_err-write_and_sync-clause-any_moment g c told =
    let d = g.D.LogDisk in let d0 = c.args.disk.now in let gate = c.args.gate in let behind = c.args.behind.now in
    leaves_weaker d.moment d.left_at d0 c.write_and_sync.new.disk (IsWritten (d.images d0) (gate + 1) (length behind)) (IsFromImage (d.images d0) gate (body_in behind))
    (c.write_and_sync.ensures.any_moment told) (torn_batch (d.images d0) gate behind c.requires.behind (c.requires.at_rest told))

pub returns-in_err-write_and_sync-clause-left : goal.returns-in_err-write_and_sync-clause-left
returns-in_err-write_and_sync-clause-left g c told x left =
    torn_batch (g.D.LogDisk.images c.args.disk.now) c.args.gate c.args.behind.now c.requires.behind (c.requires.at_rest told) x (c.write_and_sync.ensures.left told x left)

pub returns-clause-any_moment : goal.returns-clause-any_moment
returns-clause-any_moment g c told =
    let d = g.D.LogDisk in let d0 = c.args.disk.now in let d1 = c.write_and_sync.new.disk in let gate = c.args.gate in let behind = c.args.behind.now in
    let rest = c.requires.at_rest told in let P = IsFromImage (d.images d0) gate (body_in behind) in
    let first = leaves_weaker d.moment d.left_at d0 d1 (IsWritten (d.images d0) (gate + 1) (length behind)) P (c.write_and_sync.ensures.any_moment told) (torn_batch (d.images d0) gate behind c.requires.behind rest) in
    run_then d.moment d.left_at d0 d1 c.write_and_sync-2.new.disk P (IsWritten (d.images d1) gate 1) first (c.write_and_sync-2.ensures.any_moment told)
    (torn_opening (d.images d0) gate behind c.requires.behind rest (d.reads d0) (d.reads d1) (g.met.D.LogDisk.reads_image d0 told) (c.write_and_sync.ensures.start told) (c.in_ok-write_and_sync.ensures.bytes told) (d.images d1) (c.in_ok-write_and_sync.ensures.synced told))

pub returns-clause-left : goal.returns-clause-left
returns-clause-left g c told x left =
    let d = g.D.LogDisk in let d0 = c.args.disk.now in let d1 = c.write_and_sync.new.disk in
    torn_opening (d.images d0) c.args.gate c.args.behind.now c.requires.behind (c.requires.at_rest told) (d.reads d0) (d.reads d1) (g.met.D.LogDisk.reads_image d0 told) (c.write_and_sync.ensures.start told) (c.in_ok-write_and_sync.ensures.bytes told)
    (d.images d1) (c.in_ok-write_and_sync.ensures.synced told) x (c.write_and_sync-2.ensures.left told x left)

pub returns-clause-written : goal.returns-clause-written
returns-clause-written g c told =
    let d = g.D.LogDisk in let d0 = c.args.disk.now in let d1 = c.write_and_sync.new.disk in
    on_ok c.write_and_sync-2.result (c.write_and_sync-2.ensures.bytes told) (
    with_batch (d.images d0) c.args.gate c.args.behind.now c.requires.behind (c.requires.at_rest told) (d.reads d0) (d.reads d1) (g.met.D.LogDisk.reads_image d0 told) (c.write_and_sync.ensures.start told) (c.in_ok-write_and_sync.ensures.bytes told)
    (d.reads c.write_and_sync-2.new.disk) (c.write_and_sync-2.ensures.start told))

pub returns-clause-closed : goal.returns-clause-closed
returns-clause-closed g c told =
    let d = g.D.LogDisk in let d0 = c.args.disk.now in let d1 = c.write_and_sync.new.disk in
    on_ok c.write_and_sync-2.result (c.write_and_sync-2.ensures.bytes told) (
    zero_at_end (d.images d0) c.args.gate c.args.behind.now c.requires.behind (c.requires.at_rest told) (d.reads d0) (d.reads d1) (g.met.D.LogDisk.reads_image d0 told) (c.write_and_sync.ensures.start told) (c.in_ok-write_and_sync.ensures.bytes told)
    (d.reads c.write_and_sync-2.new.disk) (c.write_and_sync-2.ensures.start told))

pub returns-clause-bytes : goal.returns-clause-bytes
returns-clause-bytes g c told =
    on_ok c.write_and_sync-2.result (c.write_and_sync-2.ensures.bytes told) (λ is. is ∙ ap (λ (b : List ℕ). overlaid b c.args.gate (1 ∷ [])) (c.in_ok-write_and_sync.ensures.bytes told))
