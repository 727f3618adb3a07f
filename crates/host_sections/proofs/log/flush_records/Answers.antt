use Rattle.std.proofs.Common.{Err, ◌≡◌, ℕ, arith, ap, ◌∙◌, subst, sym, refl}
use Rattle.std.proofs.lemmas.List.{length-map}
use Rattle.hall.specs.Calls.{start_of, view}
use Rattle.hall.specs.declared.view.Stage.TheVariants.{Inside}
use Rattle.notes.specs.Lists.{add, at}
use Rattle.tx_events.specs.declared.event.By.{By}
use Rattle.tx_events.specs.declared.record.Rec.{Rec}
use Rattle.tx_core.specs.declared.entry.LogCall.TheVariants as calls
use Rattle.tx_core.specs.EngineInvariant.{EngineInvariant}
use Rattle.tx_core.specs.Entries.{records_of}
use Rattle.tx_core.specs.FaultsRise.{faults_told}
use Rattle.tx_core.specs.Locks.{log_lock}
use Rattle.tx_core.proofs.FaultCounts.{risen_past}
use Rattle.tx_core.proofs.LogLaws.{flushes_rise}
use Rattle.tx_core.proofs.Quiet.{hosts_keep}
use Rattle.wal_core.specs.LogViews.{log_disk, log_down}
use Rattle.engine_parts.specs.declared.part.Part.TheVariants as parts
use Rattle.engine_parts.specs.Faults.{flush_fault_by}
use Rattle.wal_core.specs.declared.refusal.LogRefusal.{LogRefusal}
use Rattle.engine_parts.specs.Holds.{Knowledge}
use Rattle.engine_parts.specs.Parts.{IsLogOf}
use Rattle.host_sections.specs.Asked.{LogMoments}
use Rattle.host_sections.specs.HostEntries.{AddsFlush, flush_by, next_number}
use Rattle.host_sections.proofs.Asking.{asks_with, asks_without, flush_moments}
use Rattle.host_sections.proofs.Aloneness.{came_out}
use Rattle.host_sections.proofs.LogSteps.{flush_fails, flushed_stands, log_untouched}
use Rattle.host_sections.proofs.Noted.{noted_adds, noted_alone, noted_may, noted_own, noted_stands}
use Rattle.host_sections.proofs.Refusals.{not_down, refused_down, same_err}
use Rattle.host_sections.proofs.log.flush_records.Goals as goal

pub leave-requires-clause-inside : goal.leave-requires-clause-inside
leave-requires-clause-inside g c = let i = c.take_log-held.ensures.inside in i.inside ∙ ap Inside (sym i.cell)

pub leave-requires-clause-cell : goal.leave-requires-clause-cell
leave-requires-clause-cell g c = let cell = c.take_log-held.ensures.inside.cell in let laid = c.requires.alone.laid in omega (arith, cell, laid)

pub leave-requires-clause-session : goal.leave-requires-clause-session
leave-requires-clause-session g c = noted_own c.args.hall.now log_lock c.args.pass.now c.take_log-held.new.pass c.requires.alone c.take_log-held.ensures.inside c.flush_note-flush.result.value (flush_by c.args.by c.next-next.result) c.flush_note-flush.ensures c.requires.turn

pub leave-requires-clause-may : goal.leave-requires-clause-may
leave-requires-clause-may g c =
    let start = start_of c.args.hall.now in
    let old = (view c.args.pass.now).seen in
    let s = subst (λ l. IsLogOf start l (at old log_lock)) (sym c.deref_mut-log.ensures.value) c.take_log-held.ensures.stands in
    let i = c.take_log-held.ensures.inside in
    let last = (flushes_rise start old (subst (EngineInvariant start) i.seen i.kept)).within in
    let same = length-map (records_of old) (λ (r : By × Rec). r.1) in
    let next = c.next-next.ensures in
    let is = s.next_is in
    let up = s.up (not_down (log_down c.deref_mut-log.result.now) (λ n put. let refused = c.in-Ok.ensures.is_down n put in cc)) in
    noted_may c.args.hall.now log_lock c.args.pass.now c.take_log-held.new.pass c.requires.alone c.take_log-held.ensures.inside c.flush_note-flush.result.value (flush_by c.args.by c.next-next.result) c.flush_note-flush.ensures c.requires.turn ((hosts_keep start old c.args.by).flush c.next-next.result (omega (arith, last, same, next, is)) (omega (arith, same, next, is)) up)

pub leave-requires-clause-stands : goal.leave-requires-clause-stands
leave-requires-clause-stands g c =
    let start = start_of c.args.hall.now in
    let old = (view c.args.pass.now).seen in
    let o = c.deref_mut-log.result.now in
    let n = c.flush.new.self in
    let f = c.in-Ok.ensures in
    let s = subst (λ l. IsLogOf start l (at old log_lock)) (sym c.deref_mut-log.ensures.value) c.take_log-held.ensures.stands in
    let up = not_down (log_down o) (λ m put. let refused = f.is_down m put in cc) in
    noted_stands c.args.hall.now log_lock c.args.pass.now c.take_log-held.new.pass c.requires.alone c.take_log-held.ensures.inside c.flush_note-flush.result.value (flush_by c.args.by c.next-next.result) c.flush_note-flush.ensures (parts.Log (record c.take_log-held.result { value = n }))
    (refl, flushed_stands start o n (at old log_lock) c.args.by s c.next-next.result c.next-next.ensures f.recs f.next f.counters f.ok f.end f.same_end (f.stays (λ q. cc)) up f.faults f.first f.checkpoint f.keeps f.begins_same)

pub returns-in-Ok-clause-alone : goal.returns-in-Ok-clause-alone
returns-in-Ok-clause-alone g c = noted_alone c.args.hall.now log_lock c.args.pass.now c.take_log-held.new.pass c.requires.alone c.take_log-held.ensures.inside c.flush_note-flush.result.value (flush_by c.args.by c.next-next.result) c.flush_note-flush.ensures c.leave.new.pass c.leave.ensures.own c.leave.ensures.left

pub returns-in-Ok-clause-holds : goal.returns-in-Ok-clause-holds
returns-in-Ok-clause-holds g c = c.leave.ensures.left.holds ∙ c.take_log-held.ensures.inside.holds

pub returns-in-Ok-clause-adds : goal.returns-in-Ok-clause-adds
returns-in-Ok-clause-adds g c =
    let start = start_of c.args.hall.now in
    let old = (view c.args.pass.now).seen in
    let s = subst (λ l. IsLogOf start l (at old log_lock)) (sym c.deref_mut-log.ensures.value) c.take_log-held.ensures.stands in
    let next : c.next-next.result ≡ next_number start old = c.next-next.ensures ∙ s.next_is in
    noted_adds c.args.hall.now log_lock c.args.pass.now c.take_log-held.new.pass c.requires.alone c.take_log-held.ensures.inside c.flush_note-flush.result.value (flush_by c.args.by c.next-next.result) c.flush_note-flush.ensures c.leave.new.pass c.leave.ensures.own c.leave.ensures.left ∙ ap (λ (n : ℕ). add old log_lock (flush_by c.args.by n)) next

-- its volume failed
pub leave-requires-in-LogFault-clause-inside : goal.leave-requires-in-LogFault-clause-inside
leave-requires-in-LogFault-clause-inside g c = let i = c.take_log-held.ensures.inside in i.inside ∙ ap Inside (sym i.cell)

pub leave-requires-in-LogFault-clause-cell : goal.leave-requires-in-LogFault-clause-cell
leave-requires-in-LogFault-clause-cell g c = let cell = c.take_log-held.ensures.inside.cell in let laid = c.requires.alone.laid in omega (arith, cell, laid)

pub leave-requires-in-LogFault-clause-session : goal.leave-requires-in-LogFault-clause-session
leave-requires-in-LogFault-clause-session g c =
    let noted = c.flush_fault_note-fault.ensures ∙ ap (λ l. flush_fault_by c.args.by (g.L.LogDisk.faults (log_disk l))) c.deref.ensures in
    noted_own c.args.hall.now log_lock c.args.pass.now c.take_log-held.new.pass c.requires.alone c.take_log-held.ensures.inside c.flush_fault_note-fault.result.value (flush_fault_by c.args.by (g.L.LogDisk.faults (log_disk c.flush.new.self))) noted c.requires.turn

pub leave-requires-in-LogFault-clause-may : goal.leave-requires-in-LogFault-clause-may
leave-requires-in-LogFault-clause-may g c =
    let start = start_of c.args.hall.now in
    let d = g.L.LogDisk in
    let old = (view c.args.pass.now).seen in
    let o = c.deref_mut-log.result.now in
    let n = c.flush.new.self in
    let f = c.in-Err.ensures in
    let s = subst (λ l. IsLogOf start l (at old log_lock)) (sym c.deref_mut-log.ensures.value) c.take_log-held.ensures.stands in
    let noted = c.flush_fault_note-fault.ensures ∙ ap (λ l. flush_fault_by c.args.by (g.L.LogDisk.faults (log_disk l))) c.deref.ensures in
    let up = s.up (not_down (log_down o) (λ m put. let refused = same_err (f.is_down m put) in let failed = c.in-LogFault.is in cc)) in
    let risen = risen_past (faults_told start log_lock (at old log_lock)) (d.faults (log_disk o)) (d.faults (log_disk n)) s.count (f.fault (ap Err c.in-LogFault.is)) in
    noted_may c.args.hall.now log_lock c.args.pass.now c.take_log-held.new.pass c.requires.alone c.take_log-held.ensures.inside c.flush_fault_note-fault.result.value (flush_fault_by c.args.by (g.L.LogDisk.faults (log_disk c.flush.new.self))) noted c.requires.turn ((hosts_keep start old c.args.by).log_fault calls.Flush (d.faults (log_disk n)) tt (λ q. up) risen)

pub leave-requires-in-LogFault-clause-stands : goal.leave-requires-in-LogFault-clause-stands
leave-requires-in-LogFault-clause-stands g c =
    let start = start_of c.args.hall.now in
    let old = (view c.args.pass.now).seen in
    let o = c.deref_mut-log.result.now in
    let n = c.flush.new.self in
    let f = c.in-Err.ensures in
    let s = subst (λ l. IsLogOf start l (at old log_lock)) (sym c.deref_mut-log.ensures.value) c.take_log-held.ensures.stands in
    let noted = c.flush_fault_note-fault.ensures ∙ ap (λ l. flush_fault_by c.args.by (g.L.LogDisk.faults (log_disk l))) c.deref.ensures in
    noted_stands c.args.hall.now log_lock c.args.pass.now c.take_log-held.new.pass c.requires.alone c.take_log-held.ensures.inside c.flush_fault_note-fault.result.value (flush_fault_by c.args.by (g.L.LogDisk.faults (log_disk c.flush.new.self))) noted (parts.Log (record c.take_log-held.result { value = n }))
    (refl, flush_fails start o n (at old log_lock) c.args.by s f.recs f.next f.counters f.err f.err_end (f.put_down (ap Err c.in-LogFault.is)) f.first f.keeps f.begins_same)

pub returns-in-LogFault-clause-alone : goal.returns-in-LogFault-clause-alone
returns-in-LogFault-clause-alone g c =
    let noted = c.flush_fault_note-fault.ensures ∙ ap (λ l. flush_fault_by c.args.by (g.L.LogDisk.faults (log_disk l))) c.deref.ensures in
    noted_alone c.args.hall.now log_lock c.args.pass.now c.take_log-held.new.pass c.requires.alone c.take_log-held.ensures.inside c.flush_fault_note-fault.result.value (flush_fault_by c.args.by (g.L.LogDisk.faults (log_disk c.flush.new.self))) noted c.leave-in-LogFault.new.pass c.leave-in-LogFault.ensures.own c.leave-in-LogFault.ensures.left

pub returns-in-LogFault-clause-holds : goal.returns-in-LogFault-clause-holds
returns-in-LogFault-clause-holds g c = c.leave-in-LogFault.ensures.left.holds ∙ c.take_log-held.ensures.inside.holds

pub returns-in-LogFault-clause-adds : goal.returns-in-LogFault-clause-adds
returns-in-LogFault-clause-adds g c =
    let start = start_of c.args.hall.now in
    let d = g.L.LogDisk in
    let old = (view c.args.pass.now).seen in
    let s = subst (λ l. IsLogOf start l (at old log_lock)) (sym c.deref_mut-log.ensures.value) c.take_log-held.ensures.stands in
    let o = c.deref_mut-log.result.now in
    let n = c.flush.new.self in
    let noted = c.flush_fault_note-fault.ensures ∙ ap (λ l. flush_fault_by c.args.by (d.faults (log_disk l))) c.deref.ensures in
    record {
      count = d.faults (log_disk n);
      risen = risen_past (faults_told start log_lock (at old log_lock)) (d.faults (log_disk o)) (d.faults (log_disk n)) s.count (c.in-Err.ensures.fault (ap Err c.in-LogFault.is));
      adds = noted_adds c.args.hall.now log_lock c.args.pass.now c.take_log-held.new.pass c.requires.alone c.take_log-held.ensures.inside c.flush_fault_note-fault.result.value (flush_fault_by c.args.by (g.L.LogDisk.faults (log_disk c.flush.new.self))) noted c.leave-in-LogFault.new.pass c.leave-in-LogFault.ensures.own c.leave-in-LogFault.ensures.left;
    }

-- the log was down
pub put_back-requires-clause-inside : goal.put_back-requires-clause-inside
put_back-requires-clause-inside g c = let i = c.take_log-held.ensures.inside in i.inside ∙ ap Inside (sym i.cell)

pub put_back-requires-clause-stands : goal.put_back-requires-clause-stands
put_back-requires-clause-stands g c =
    let start = start_of c.args.hall.now in
    let i = c.take_log-held.ensures.inside in
    let seen = (view c.take_log-held.new.pass).seen in
    let s = subst (λ l. IsLogOf start l (at (view c.args.pass.now).seen log_lock)) (sym c.deref_mut-log.ensures.value) c.take_log-held.ensures.stands in
    let here = subst (λ z. IsLogOf start c.deref_mut-log.result.now (at z log_lock)) (sym i.seen) s in
    let o = c.deref_mut-log.result.now in
    let n = c.flush.new.self in
    let f = c.in-Err.ensures in
    let down = refused_down c.in-Err.refusal c.in_default.not-LogFault (λ q. f.no_other.0 (ap Err q)) (λ q. f.no_other.1 (ap Err q)) (λ place q. f.no_other.2 place (ap Err q)) in
    subst (λ (z : ℕ). (z ≡ log_lock) × IsLogOf start n (at seen z)) (sym i.cell)
    (refl, log_untouched start o n (at seen log_lock) (f.down_asks_nothing down.0 (f.down down.0 (ap Err down.1))) f.recs f.next f.first f.err f.counters (f.stays (λ q. c.in_default.not-LogFault (same_err q))) f.err_checkpoint f.err_end here)

pub returns-in_default-clause-alone : goal.returns-in_default-clause-alone
returns-in_default-clause-alone g c =
    (came_out c.args.hall.now log_lock c.args.pass.now c.take_log-held.new.pass c.put_back.new.pass c.requires.alone c.take_log-held.ensures.inside c.put_back.ensures.own.0 c.put_back.ensures.view).alone

pub returns-in_default-clause-holds : goal.returns-in_default-clause-holds
returns-in_default-clause-holds g c =
    (came_out c.args.hall.now log_lock c.args.pass.now c.take_log-held.new.pass c.put_back.new.pass c.requires.alone c.take_log-held.ensures.inside c.put_back.ensures.own.0 c.put_back.ensures.view).holds

pub returns-in_default-clause-adds : goal.returns-in_default-clause-adds
returns-in_default-clause-adds g c =
    let start = start_of c.args.hall.now in
    let old = (view c.args.pass.now).seen in
    let s = subst (λ l. IsLogOf start l (at old log_lock)) (sym c.deref_mut-log.ensures.value) c.take_log-held.ensures.stands in
    let f = c.in-Err.ensures in
    let down = refused_down c.in-Err.refusal c.in_default.not-LogFault (λ q. f.no_other.0 (ap Err q)) (λ q. f.no_other.1 (ap Err q)) (λ place q. f.no_other.2 place (ap Err q)) in
    let out = came_out c.args.hall.now log_lock c.args.pass.now c.take_log-held.new.pass c.put_back.new.pass c.requires.alone c.take_log-held.ensures.inside c.put_back.ensures.own.0 c.put_back.ensures.view in
    subst (λ (r : LogRefusal). AddsFlush {T = Unit {0}} start c.args.by old (view c.put_back.new.pass).seen (Err r)) (sym down.1)
    (record { same = out.seen; is_down = (s.failed down.0 (f.down down.0 (ap Err down.1))).0 })

pub returns-in_default-clause-kept : goal.returns-in_default-clause-kept
returns-in_default-clause-kept g c = subst (EngineInvariant (start_of c.args.hall.now)) (sym (ap (λ (z : Knowledge). z.seen) c.put_back.ensures.view)) c.take_log-held.ensures.inside.kept

pub returns-in-Ok-clause-was_kept : goal.returns-in-Ok-clause-was_kept
returns-in-Ok-clause-was_kept g c = let i = c.take_log-held.ensures.inside in subst (EngineInvariant (start_of c.args.hall.now)) i.seen i.kept

pub returns-in-LogFault-clause-was_kept : goal.returns-in-LogFault-clause-was_kept
returns-in-LogFault-clause-was_kept g c = let i = c.take_log-held.ensures.inside in subst (EngineInvariant (start_of c.args.hall.now)) i.seen i.kept

pub returns-in_default-clause-was_kept : goal.returns-in_default-clause-was_kept
returns-in_default-clause-was_kept g c = let i = c.take_log-held.ensures.inside in subst (EngineInvariant (start_of c.args.hall.now)) i.seen i.kept

-- what was asked of the volume
pub returns-in-Ok-clause-asks : goal.returns-in-Ok-clause-asks
returns-in-Ok-clause-asks g c =
    let start = start_of c.args.hall.now in
    let d = g.L.LogDisk in
    let old = (view c.args.pass.now).seen in
    let held = c.take_log-held.result in
    let o = c.deref_mut-log.result.now in
    let n = c.flush.new.self in
    let wide = c.requires.alone.own.wide in
    let s = subst (λ l. IsLogOf start l (at old log_lock)) (sym c.deref_mut-log.ensures.value) c.take_log-held.ensures.stands in
    let f = c.in-Ok.ensures in
    let up = not_down (log_down o) (λ m put. let refused = f.is_down m put in cc) in
    asks_with g.L.LogDisk g.P.PageDisk start log_lock old (view c.leave.new.pass).seen (omega (arith, wide, c.requires.alone.laid)) (parts.Log held) (parts.Log (record held { value = n }))
    (refl, c.take_log-held.ensures.stands) (subst (λ z. LogMoments z n) c.deref_mut-log.ensures.value (flush_moments o n f.first f.keeps_at_each_moment))
    (flush_by c.args.by c.next-next.result)
    (refl, flushed_stands start o n (at old log_lock) c.args.by s c.next-next.result c.next-next.ensures f.recs f.next f.counters f.ok f.end f.same_end (f.stays (λ q. cc)) up f.faults f.first f.checkpoint f.keeps f.begins_same)
    (noted_adds c.args.hall.now log_lock c.args.pass.now c.take_log-held.new.pass c.requires.alone c.take_log-held.ensures.inside c.flush_note-flush.result.value (flush_by c.args.by c.next-next.result) c.flush_note-flush.ensures c.leave.new.pass c.leave.ensures.own c.leave.ensures.left)

pub returns-in-LogFault-clause-asks : goal.returns-in-LogFault-clause-asks
returns-in-LogFault-clause-asks g c =
    let start = start_of c.args.hall.now in
    let d = g.L.LogDisk in
    let old = (view c.args.pass.now).seen in
    let held = c.take_log-held.result in
    let o = c.deref_mut-log.result.now in
    let n = c.flush.new.self in
    let wide = c.requires.alone.own.wide in
    let s = subst (λ l. IsLogOf start l (at old log_lock)) (sym c.deref_mut-log.ensures.value) c.take_log-held.ensures.stands in
    let f = c.in-Err.ensures in
    let noted = c.flush_fault_note-fault.ensures ∙ ap (λ l. flush_fault_by c.args.by (d.faults (log_disk l))) c.deref.ensures in
    asks_with g.L.LogDisk g.P.PageDisk start log_lock old (view c.leave-in-LogFault.new.pass).seen (omega (arith, wide, c.requires.alone.laid)) (parts.Log held) (parts.Log (record held { value = n }))
    (refl, c.take_log-held.ensures.stands) (subst (λ z. LogMoments z n) c.deref_mut-log.ensures.value (flush_moments o n f.first f.keeps_at_each_moment))
    (flush_fault_by c.args.by (d.faults (log_disk n)))
    (refl, flush_fails start o n (at old log_lock) c.args.by s f.recs f.next f.counters f.err f.err_end (f.put_down (ap Err c.in-LogFault.is)) f.first f.keeps f.begins_same)
    (noted_adds c.args.hall.now log_lock c.args.pass.now c.take_log-held.new.pass c.requires.alone c.take_log-held.ensures.inside c.flush_fault_note-fault.result.value (flush_fault_by c.args.by (g.L.LogDisk.faults (log_disk c.flush.new.self))) noted c.leave-in-LogFault.new.pass c.leave-in-LogFault.ensures.own c.leave-in-LogFault.ensures.left)

pub returns-in_default-clause-asks : goal.returns-in_default-clause-asks
returns-in_default-clause-asks g c =
    let start = start_of c.args.hall.now in
    let d = g.L.LogDisk in
    let i = c.take_log-held.ensures.inside in
    let old = (view c.args.pass.now).seen in
    let held = c.take_log-held.result in
    let o = c.deref_mut-log.result.now in
    let n = c.flush.new.self in
    let wide = c.requires.alone.own.wide in
    let s = subst (λ l. IsLogOf start l (at old log_lock)) (sym c.deref_mut-log.ensures.value) c.take_log-held.ensures.stands in
    let f = c.in-Err.ensures in
    let down = refused_down c.in-Err.refusal c.in_default.not-LogFault (λ q. f.no_other.0 (ap Err q)) (λ q. f.no_other.1 (ap Err q)) (λ place q. f.no_other.2 place (ap Err q)) in
    let out = came_out c.args.hall.now log_lock c.args.pass.now c.take_log-held.new.pass c.put_back.new.pass c.requires.alone c.take_log-held.ensures.inside c.put_back.ensures.own.0 c.put_back.ensures.view in
    asks_without g.L.LogDisk g.P.PageDisk start log_lock old (view c.put_back.new.pass).seen (omega (arith, wide, c.requires.alone.laid)) (parts.Log held) (parts.Log (record held { value = n }))
    (refl, c.take_log-held.ensures.stands) (subst (λ z. LogMoments z n) c.deref_mut-log.ensures.value (flush_moments o n f.first f.keeps_at_each_moment))
    (refl, log_untouched start o n (at old log_lock) (f.down_asks_nothing down.0 (f.down down.0 (ap Err down.1))) f.recs f.next f.first f.err f.counters (f.stays (λ q. c.in_default.not-LogFault (same_err q))) f.err_checkpoint f.err_end s)
    out.seen
