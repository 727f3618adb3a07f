use Rattle.std.proofs.Common.{◌≡◌, refl, ℕ, ◌+◌, ◌<◌, List, [], length, Option, sym, ◌∙◌, ap, subst, arith}
use Rattle.std.specs.Prelude.{IsSome}
use Rattle.disk_core.specs.Images.{LeavesOnly}
use Rattle.tx_events.specs.declared.record.Rec.{Rec}
use Rattle.disk_core.specs.Volume.{Volume}
use Rattle.wal_records.specs.Lawful.{are_lawful}
use Rattle.wal_core.specs.Crash.{IsWritten}
use Rattle.wal_core.specs.Log.{IsReady}
use Rattle.wal_core.proofs.Flush.{nothing_next}
use Rattle.wal_core.proofs.Starts.{nothing_behind}
use Rattle.wal_core.specs.declared.checkpoint.LastCheckpoint.{LastCheckpoint}
use Rattle.wal_core.specs.Opening.{opened, walked}
use Rattle.wal_core.specs.LastBatch.{last_batch}
use Rattle.wal_core.specs.Checkpoint.{IsCheckpointIn, MayBegin}
use Rattle.wal_core.proofs.LastBatches.{started_alone}
use Rattle.wal_core.proofs.Keeping.{first_found, start_keeps}
use Rattle.wal_core.proofs.GateWrites.{gate_within, one_gate, opens_so, writes_so}
use Rattle.wal_core.proofs.wal_log.WalLog.start.Goals as goal

pub invariant_of-log : goal.invariant_of-log
invariant_of-log g c =
    let found = c.in-Ok.found in let none : c.new.result ≡ [] = c.new.ensures in
    let empty : length c.new.result ≡ 0 = ap length none in
    let recs : length c.items.result.now ≡ length found.recs = ap length c.items.ensures in
    let behind = c.in-Ok-no_batch.ensures ∙ nothing_behind in
    record {
      counts = omega (arith, empty);
      small = omega (arith, empty, recs, c.in-Ok.ensures.numbers, c.in-Ok.ensures.place);
      numbers = omega (arith, empty, recs, c.in-Ok.ensures.numbers, ap length c.in-Ok-no_batch.ensures);
      next_batch = nothing_next c.in-Ok-no_batch.behind.items c.new.result none behind;
      few = λ some. absurd (omega (arith, empty, some));
      lawful = ap are_lawful none;
      numbered = omega (arith, recs, c.in-Ok.ensures.numbers);
      firsts = λ told up.
          let ready = c.in-Ok-close_gate.ensures.ready told in
          let w : Volume = g.D.LogDisk.reads c.close_gate.new.disk in
          let same = first_found found.first found.recs found.counters found.gate (found.first + length found.recs) w
          (c.in-Ok-close_gate.ensures.opens told ∙ ap opened (c.read_log.ensures.same told) ∙ c.in-Ok.ensures.read told) refl ready in
          omega (arith, same);
      starts = λ told up. c.in-Ok-close_gate.ensures.start told ∙ ap (λ (v : Volume). v.start) (c.read_log.ensures.same told) ∙ sym (c.in-Ok.ensures.begins told);
      begins = λ told up k e v left.
          let d = g.D.LogDisk in let next : ℕ = found.first + length c.items.result.now + length c.new.result in
          let last : found.first + length found.recs ≡ next = omega (arith, empty, recs) in
          let v0 : Volume = d.reads c.args.disk in let w : Volume = d.reads c.close_gate.new.disk in
          let same : d.reads c.read_log.new.disk ≡ v0 = c.read_log.ensures.same told in
          subst (λ (x : Volume). MayBegin k found.gate c.new.result found.counters next x) (sym (c.in-Ok-close_gate.ensures.synced told v left)) (
          started_alone k v0 w found.gate next found.first found.recs c.new.result found.counters (subst (λ (o : Option LastCheckpoint). IsCheckpointIn (last_batch v0) found.counters o) e (c.in-Ok.ensures.last told)) (c.in-Ok.ensures.read told)
          (c.in-Ok-close_gate.ensures.opens told ∙ ap opened same) (c.in-Ok-close_gate.ensures.start told ∙ ap (λ (x : Volume). x.start) same)
          (λ some. c.in-Ok-close_gate.ensures.batches told some ∙ ap (λ (x : Volume). (walked x).bodies) same) (subst (λ (n : ℕ). IsReady found.gate [] found.counters n w) last (c.in-Ok-close_gate.ensures.ready told)) none);
      ready = λ told up v left.
          let ready = c.in-Ok-close_gate.ensures.ready told in
          let next : found.first + length found.recs ≡ found.first + length c.items.result.now + length c.new.result = omega (arith, empty, recs) in
          subst (λ (x : Volume). IsReady found.gate c.new.result found.counters (found.first + length c.items.result.now + length c.new.result) x) (sym (c.in-Ok-close_gate.ensures.synced told v left))
          (subst (λ (l : List Rec). IsReady found.gate l found.counters (found.first + length c.items.result.now + length c.new.result) (g.D.LogDisk.reads c.close_gate.new.disk)) (sym none)
          (subst (λ (k : ℕ). IsReady found.gate [] found.counters k (g.D.LogDisk.reads c.close_gate.new.disk)) next ready));
    }

pub returns-clause-keeps : goal.returns-clause-keeps
returns-clause-keeps g c told =
    let d = g.D.LogDisk in let found = c.in-Ok.found in let none : c.new.result ≡ [] = c.new.ensures in
    let recs : length c.items.result.now ≡ length found.recs = ap length c.items.ensures in
    let next : ℕ = found.first + length c.items.result.now + length c.new.result in
    let last : next ≡ found.first + length found.recs = omega (arith, recs, ap length none) in
    let v : Volume = d.reads c.close_gate.new.disk in
    start_keeps found.first found.recs c.new.result found.counters found.gate next (found.first + length c.items.result.now + 0) v (d.images c.close_gate.new.disk) none last (omega (arith, ap length none)) (c.in-Ok-close_gate.ensures.synced told)
    (c.in-Ok-close_gate.ensures.opens told ∙ ap opened (c.read_log.ensures.same told) ∙ c.in-Ok.ensures.read told) (subst (λ (n : ℕ). IsReady found.gate [] found.counters n v) (sym last) (c.in-Ok-close_gate.ensures.ready told))

-- ---- what a crash leaves: it was read first, and then the gate was written

pub returns-clause-any_moment : goal.returns-clause-any_moment
returns-clause-any_moment g c told ends =
    let d = g.D.LogDisk in let found = c.in-Ok.found in let d0 = c.args.disk in let mid = c.read_log.new.disk in
    let same = c.read_log.ensures.same told in
    let within : IsSome found.counters → found.gate < length (d.reads d0).bytes = gate_within (d.reads d0) found.first found.gate found.recs found.counters (c.in-Ok.ensures.read told) ends in
    opens_so d.moment d.left_at d.images d0 mid c.close_gate.new.disk (c.read_log.ensures.any_moment told) (d.reads d0) (d.reads mid) (g.met.D.LogDisk.reads_image d0 told) same
    (c.close_gate.ensures.any_moment told (subst (λ (z : Volume). IsSome found.counters → found.gate < length z.bytes) (sym same) within))

pub returns-in_default-close_gate-clause-any_moment_err : goal.returns-in_default-close_gate-clause-any_moment_err
returns-in_default-close_gate-clause-any_moment_err g c told ends =
    let d = g.D.LogDisk in let found = c.in-Ok.found in let d0 = c.args.disk in let mid = c.read_log.new.disk in
    let same = c.read_log.ensures.same told in
    let within : IsSome found.counters → found.gate < length (d.reads d0).bytes = gate_within (d.reads d0) found.first found.gate found.recs found.counters (c.in-Ok.ensures.read told) ends in
    opens_so d.moment d.left_at d.images d0 mid c.close_gate.new.disk (c.read_log.ensures.any_moment told) (d.reads d0) (d.reads mid) (g.met.D.LogDisk.reads_image d0 told) same
    (c.close_gate.ensures.any_moment told (subst (λ (z : Volume). IsSome found.counters → found.gate < length z.bytes) (sym same) within))

pub returns-clause-written : goal.returns-clause-written
returns-clause-written g c told =
    let d = g.D.LogDisk in
    writes_so d.moment d.left_at d.images c.args.disk c.read_log.new.disk c.close_gate.new.disk (c.read_log.ensures.any_moment told) c.in-Ok.found.gate (c.read_log.ensures.crash told) (c.close_gate.ensures.written told)

pub returns-in_default-close_gate-clause-written_err : goal.returns-in_default-close_gate-clause-written_err
returns-in_default-close_gate-clause-written_err g c told o is =
    let d = g.D.LogDisk in let d0 = c.args.disk in let found = c.in-Ok.found in let last = c.close_gate.new.disk in
    let gate : found.gate ≡ o.gate = one_gate (opened (d.reads d0)) _ o (c.in-Ok.ensures.read told) is in
    subst (λ (k : ℕ). LeavesOnly d.moment d.left_at d0 last (IsWritten (d.images d0) k 1)) gate
    (writes_so d.moment d.left_at d.images d0 c.read_log.new.disk last (c.read_log.ensures.any_moment told) found.gate (c.read_log.ensures.crash told) (c.close_gate.ensures.written told))
