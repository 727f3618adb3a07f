use Rattle.std.proofs.Common.{Err, List, Ok, Some, ap, arith, length, subst, sym, ◌∙◌, ◌≡◌, ◌≤◌}
use Rattle.std.specs.List.{slice_get}
use Rattle.tx_events.specs.declared.record.Rec.{Rec}
use Rattle.tx_events.specs.LifeBase.{committed_in}
use Rattle.wal_core.specs.LogViews.{log_disk, log_end, log_first, log_next}
use Rattle.replay_core.specs.Redo.{AreNear}
use Rattle.replay_core.specs.Banks.{NoCountFell, members_become, offsets_become, states_become}
use Rattle.replay_core.specs.Moments.{FitThroughout}
use Rattle.replay_core.specs.Refused.{volumes_of}
use Rattle.replay_core.specs.Replay.{Replays}
use Rattle.replay_core.specs.Spans.{AreMultisInReach, member_span, offset_span}
use Rattle.replay_core.specs.Volumes.{LeavesFit, RecoversLog}
use Rattle.replay_core.proofs.LaterLogs.{ids_near, multis_in_reach}
use Rattle.replay_core.proofs.Recovering.{replay_leaves, replay_recovers}
use Rattle.replay_core.proofs.Refusing.{on_disk, pages_of, refusal_is}
use Rattle.replay_core.proofs.Throughout.{throughout}
use Rattle.replay_core.proofs.recovery.recover.Goals as goal

pub replay-requires-clause-near : goal.replay-requires-clause-near
replay-requires-clause-near g c =
    let found = c.args.found in
    subst (λ (t : List Rec). AreNear found.base.oldest (committed_in t)) (sym c.items.ensures) (ids_near (log_first found.log) found.recs found.base c.requires.found.1.comes)

pub replay-requires-clause-multis : goal.replay-requires-clause-multis
replay-requires-clause-multis g c =
    let found = c.args.found in
    subst (λ (t : List Rec). AreMultisInReach t found.base) (sym c.items.ensures) (multis_in_reach (log_first found.log) found.recs found.base c.requires.found.1.comes)

pub returns-in-Err-clause-again : goal.returns-in-Err-clause-again
returns-in-Err-clause-again g c v is told told' log fit =
    let l = g.L.LogDisk in let p = g.P.PageDisk in let a = c.args in let found = a.found in
    let old = pages_of (volumes_of v a.xact a.subtrans a.offsets a.members) in
    let new = c.replay.new.pages in let w = c.with_log.ensures in let n = c.requires.as_many in let result = c.with_log.result in
    let r = subst (λ (t : List Rec). Replays p t found.base found.log c.replay.new.log old new (Err c.in-Err.refusal)) c.items.ensures c.in-Err.ensures in
    subst (λ z. LeavesFit l p old.xact.items z result.xact.items result.offsets.items result.members.items log) (sym (w.log ∙ c.into_disk.ensures))
    (subst (λ z. LeavesFit l p old.xact.items (log_disk c.replay.new.log) z.items result.offsets.items result.members.items log) (sym w.pages.0)
    (subst (λ z. LeavesFit l p old.xact.items (log_disk c.replay.new.log) new.xact.items z.items result.members.items log) (sym w.pages.2)
    (subst (λ z. LeavesFit l p old.xact.items (log_disk c.replay.new.log) new.xact.items new.offsets.items z.items log) (sym w.pages.3)
    (replay_leaves l p v old new found is c.replay.new.log told told' (g.met.L.LogDisk.reads_image v told) (λ d. g.met.P.PageDisk.reads_image d told') c.requires.some n.1 n.2 log fit c.in-Err.refusal r))))

pub returns-in-Err-clause-refused : goal.returns-in-Err-clause-refused
returns-in-Err-clause-refused g c v is =
    let w = c.with_log.ensures in let a = c.args in
    refusal_is g.L.LogDisk g.P.PageDisk (volumes_of v a.xact a.subtrans a.offsets a.members) c.with_log.result a.found is c.replay.new.log (w.log ∙ c.into_disk.ensures)
    c.replay.new.pages w.pages.0 w.pages.1 w.pages.2 w.pages.3 c.in-Err.refusal c.in-Err.ensures.refused

pub returns-clause-recovers : goal.returns-clause-recovers
returns-clause-recovers g c v is told told' log fit =
    let l = g.L.LogDisk in let p = g.P.PageDisk in let a = c.args in let found = a.found in
    let old = pages_of (volumes_of v a.xact a.subtrans a.offsets a.members) in
    let new = c.replay.new.pages in let b = c.begun.ensures in let n = c.requires.as_many in let r0 = c.begun.result in let xs = old.xact.items in
    let r = subst (λ (t : List Rec). Replays p t found.base found.log c.replay.new.log old new (Ok (tt {0}))) c.items.ensures c.in_default.ensures in
    subst (λ z. RecoversLog l p v xs z r0.xact.items r0.offsets.items r0.members.items r0.from r0.base log) (sym b.log)
    (subst (λ z. RecoversLog l p v xs c.replay.new.log z.items r0.offsets.items r0.members.items r0.from r0.base log) (sym b.pages.0)
    (subst (λ z. RecoversLog l p v xs c.replay.new.log new.xact.items z.items r0.members.items r0.from r0.base log) (sym b.pages.2)
    (subst (λ z. RecoversLog l p v xs c.replay.new.log new.xact.items new.offsets.items z.items r0.from r0.base log) (sym b.pages.3)
    (subst (λ z. RecoversLog l p v xs c.replay.new.log new.xact.items new.offsets.items new.members.items z r0.base log) (sym (b.from ∙ c.next-from.ensures))
    (subst (λ z. RecoversLog l p v xs c.replay.new.log new.xact.items new.offsets.items new.members.items (log_next found.log) z log) (sym b.base)
    (replay_recovers l p v old new found is c.replay.new.log told told' (g.met.L.LogDisk.reads_image v told) (λ d. g.met.P.PageDisk.reads_image d told') c.requires.some n.1 n.2 log fit r))))))

pub returns-clause-all : goal.returns-clause-all
returns-clause-all g c = (c.begun.ensures.from ∙ c.next-from.ensures, c.begun.ensures.base)

pub returns-clause-end : goal.returns-clause-end
returns-clause-end g c = ap log_end c.begun.ensures.log ∙ c.in_default.ensures.end

pub returns-clause-states : goal.returns-clause-states
returns-clause-states g c told bank disk at =
    let r = c.in_default.ensures in let xs = c.args.xact.items in
    on_disk g.P.PageDisk (states_become (length xs) c.items.result.now c.args.found.base) xs c.replay.new.pages.xact.items r.count.xact (r.restored told).xact bank disk (subst (λ z. slice_get z.items bank ≡ Some disk) c.begun.ensures.pages.0 at)

pub returns-clause-parents : goal.returns-clause-parents
returns-clause-parents g c told bank disk at = (c.in_default.ensures.restored told).subtrans bank disk (subst (λ z. slice_get z.items bank ≡ Some disk) c.begun.ensures.pages.1 at)

pub returns-clause-multis : goal.returns-clause-multis
returns-clause-multis g c told =
    let r = c.in_default.ensures in let b = c.begun.ensures.pages in let a = c.args in let recs = c.items.result.now in let base = a.found.base in (
      λ bank disk at. on_disk g.P.PageDisk (offsets_become (length a.offsets.items) recs (offset_span recs base)) a.offsets.items c.replay.new.pages.offsets.items r.count.offsets (r.restored told).offsets bank disk (subst (λ z. slice_get z.items bank ≡ Some disk) b.2 at),
      λ bank disk at. on_disk g.P.PageDisk (members_become (length a.members.items) recs (member_span recs base)) a.members.items c.replay.new.pages.members.items r.count.members (r.restored told).members bank disk (subst (λ z. slice_get z.items bank ≡ Some disk) b.3 at),
    )

pub returns-clause-counted : goal.returns-clause-counted
returns-clause-counted g c v is =
    let l = g.L.LogDisk in let p = g.P.PageDisk in let a = c.args in let r = c.in_default.ensures in let b = c.begun.ensures in
    let up = is.count in
    let more = r.log_counted in (
      subst (λ z. l.faults v ≤ l.faults (log_disk z)) (sym b.log) (omega (arith, up, more)),
      subst (λ z. NoCountFell p a.xact.items z.items) (sym b.pages.0) r.counted.xact,
      subst (λ z. NoCountFell p a.subtrans.items z.items) (sym b.pages.1) r.counted.subtrans,
      subst (λ z. NoCountFell p a.offsets.items z.items) (sym b.pages.2) r.counted.offsets,
      subst (λ z. NoCountFell p a.members.items z.items) (sym b.pages.3) r.counted.members,
    )

pub returns-in-Err-clause-moments : goal.returns-in-Err-clause-moments
returns-in-Err-clause-moments g c v is told told' log fit =
    let l = g.L.LogDisk in let p = g.P.PageDisk in let a = c.args in let found = a.found in
    let old = pages_of (volumes_of v a.xact a.subtrans a.offsets a.members) in
    let new = c.replay.new.pages in let w = c.with_log.ensures in let n = c.requires.as_many in
    let r = subst (λ (t : List Rec). Replays p t found.base found.log c.replay.new.log old new (Err c.in-Err.refusal)) c.items.ensures c.in-Err.ensures in
    subst (λ z. FitThroughout l p (volumes_of (log_disk found.log) a.xact a.subtrans a.offsets a.members) z (log_first found.log) log)
    (λ i. record { log = sym (w.log ∙ c.into_disk.ensures) i; xact = sym w.pages.0 i; subtrans = sym w.pages.1 i; offsets = sym w.pages.2 i; members = sym w.pages.3 i })
    (throughout l p v old new found is c.replay.new.log told told' (g.met.L.LogDisk.reads_image v told) (λ d. g.met.P.PageDisk.reads_image d told') (λ d x left. g.met.L.LogDisk.only_now d x told left) c.requires.some n.1 n.2 log fit (Err c.in-Err.refusal) r)

pub returns-clause-moments : goal.returns-clause-moments
returns-clause-moments g c v is told told' log fit =
    let l = g.L.LogDisk in let p = g.P.PageDisk in let a = c.args in let found = a.found in
    let old = pages_of (volumes_of v a.xact a.subtrans a.offsets a.members) in
    let new = c.replay.new.pages in let b = c.begun.ensures in let n = c.requires.as_many in
    let r = subst (λ (t : List Rec). Replays p t found.base found.log c.replay.new.log old new (Ok (tt {0}))) c.items.ensures c.in_default.ensures in
    subst (λ z. FitThroughout l p (volumes_of (log_disk found.log) a.xact a.subtrans a.offsets a.members) z (log_first found.log) log)
    (λ i. record { log = log_disk (sym b.log i); xact = sym b.pages.0 i; subtrans = sym b.pages.1 i; offsets = sym b.pages.2 i; members = sym b.pages.3 i })
    (throughout l p v old new found is c.replay.new.log told told' (g.met.L.LogDisk.reads_image v told) (λ d. g.met.P.PageDisk.reads_image d told') (λ d x left. g.met.L.LogDisk.only_now d x told left) c.requires.some n.1 n.2 log fit (Ok (tt {0})) r)
