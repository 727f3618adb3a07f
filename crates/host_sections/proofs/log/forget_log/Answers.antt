use Rattle.std.proofs.Common.{Err, IsSome, Option, ◌≡◌, ℕ, arith, ap, ◌∙◌, subst, sym, refl}
use Rattle.hall.specs.Calls.{start_of, view}
use Rattle.hall.specs.declared.view.Stage.TheVariants.{Inside}
use Rattle.notes.specs.Lists.{at}
use Rattle.tx_core.specs.declared.entry.LogCall.TheVariants as calls
use Rattle.tx_core.specs.EngineInvariant.{EngineInvariant}
use Rattle.tx_core.specs.FaultsRise.{faults_told}
use Rattle.tx_core.specs.Locks.{log_lock}
use Rattle.tx_core.proofs.FaultCounts.{risen_past}
use Rattle.tx_core.proofs.Quiet.{hosts_keep}
use Rattle.wal_core.specs.LogViews.{log_checkpoint, log_disk, log_down, log_first}
use Rattle.wal_core.specs.declared.checkpoint.LastCheckpoint.{LastCheckpoint}
use Rattle.wal_core.specs.declared.refusal.LogRefusal.{LogRefusal}
use Rattle.engine_parts.specs.declared.part.Part.TheVariants as parts
use Rattle.engine_parts.specs.Holds.{Knowledge}
use Rattle.engine_parts.specs.Parts.{IsLogOf}
use Rattle.host_sections.specs.Asked.{LogMoments}
use Rattle.host_sections.specs.HostEntries.{AddsForget, forget_by, forget_fault_by}
use Rattle.host_sections.proofs.Asking.{asks_with, asks_without}
use Rattle.host_sections.proofs.Aloneness.{came_out}
use Rattle.host_sections.proofs.LogSteps.{forget_fails, forgotten_stands, log_untouched}
use Rattle.host_sections.proofs.Noted.{noted_adds, noted_alone, noted_may, noted_own, noted_stands}
use Rattle.host_sections.proofs.Refusals.{first_is, not_down, refused_down, same_err}
use Rattle.host_sections.proofs.log.forget_log.Goals as goal

pub forget_before_checkpoint-requires : goal.forget_before_checkpoint-requires
forget_before_checkpoint-requires g c =
    let start = start_of c.args.hall.now in
    let s = subst (λ l. IsLogOf start l (at (view c.args.pass.now).seen log_lock)) (sym c.deref_mut-log.ensures.value) c.take_log-held.ensures.stands in
    let k = s.alone c.args.number c.requires.ends in
    subst (λ (o : Option LastCheckpoint). IsSome o) (sym k.1) refl

pub leave-requires-clause-inside : goal.leave-requires-clause-inside
leave-requires-clause-inside g c = let i = c.take_log-held.ensures.inside in i.inside ∙ ap Inside (sym i.cell)

pub leave-requires-clause-cell : goal.leave-requires-clause-cell
leave-requires-clause-cell g c = let cell = c.take_log-held.ensures.inside.cell in let laid = c.requires.alone.laid in omega (arith, cell, laid)

pub leave-requires-clause-session : goal.leave-requires-clause-session
leave-requires-clause-session g c = noted_own c.args.hall.now log_lock c.args.pass.now c.take_log-held.new.pass c.requires.alone c.take_log-held.ensures.inside c.forget_note-forget.result.value (forget_by c.args.by c.args.number) c.forget_note-forget.ensures c.requires.turn

pub leave-requires-clause-may : goal.leave-requires-clause-may
leave-requires-clause-may g c =
    let start = start_of c.args.hall.now in
    let old = (view c.args.pass.now).seen in
    let s = subst (λ l. IsLogOf start l (at old log_lock)) (sym c.deref_mut-log.ensures.value) c.take_log-held.ensures.stands in
    let up = s.up (not_down (log_down c.deref_mut-log.result.now) (λ n put. let refused = c.in-Ok.ensures.is_down n put in cc)) in
    noted_may c.args.hall.now log_lock c.args.pass.now c.take_log-held.new.pass c.requires.alone c.take_log-held.ensures.inside c.forget_note-forget.result.value (forget_by c.args.by c.args.number) c.forget_note-forget.ensures c.requires.turn ((hosts_keep start old c.args.by).forget c.args.number c.requires.may up)

pub leave-requires-clause-stands : goal.leave-requires-clause-stands
leave-requires-clause-stands g c =
    let start = start_of c.args.hall.now in
    let old = (view c.args.pass.now).seen in
    let o = c.deref_mut-log.result.now in
    let n = c.forget_before_checkpoint.new.self in
    let f = c.in-Ok.ensures in
    let s = subst (λ l. IsLogOf start l (at old log_lock)) (sym c.deref_mut-log.ensures.value) c.take_log-held.ensures.stands in
    let up = not_down (log_down o) (λ m put. let refused = f.is_down m put in cc) in
    noted_stands c.args.hall.now log_lock c.args.pass.now c.take_log-held.new.pass c.requires.alone c.take_log-held.ensures.inside c.forget_note-forget.result.value (forget_by c.args.by c.args.number) c.forget_note-forget.ensures (parts.Log (record c.take_log-held.result { value = n }))
    (refl, forgotten_stands start o n (at old log_lock) c.args.by s c.args.number f.recs f.next f.counters f.flushed f.end (f.stays (λ q. cc)) up f.faults (first_is c.args.number (log_checkpoint o) (log_first n) (s.alone c.args.number c.requires.ends) (f.first (λ place q. cc))) f.keeps f.begins)

pub returns-in-Ok-clause-alone : goal.returns-in-Ok-clause-alone
returns-in-Ok-clause-alone g c = noted_alone c.args.hall.now log_lock c.args.pass.now c.take_log-held.new.pass c.requires.alone c.take_log-held.ensures.inside c.forget_note-forget.result.value (forget_by c.args.by c.args.number) c.forget_note-forget.ensures c.leave.new.pass c.leave.ensures.own c.leave.ensures.left

pub returns-in-Ok-clause-holds : goal.returns-in-Ok-clause-holds
returns-in-Ok-clause-holds g c = c.leave.ensures.left.holds ∙ c.take_log-held.ensures.inside.holds

pub returns-in-Ok-clause-adds : goal.returns-in-Ok-clause-adds
returns-in-Ok-clause-adds g c = noted_adds c.args.hall.now log_lock c.args.pass.now c.take_log-held.new.pass c.requires.alone c.take_log-held.ensures.inside c.forget_note-forget.result.value (forget_by c.args.by c.args.number) c.forget_note-forget.ensures c.leave.new.pass c.leave.ensures.own c.leave.ensures.left

-- its volume failed
pub leave-requires-in-LogFault-clause-inside : goal.leave-requires-in-LogFault-clause-inside
leave-requires-in-LogFault-clause-inside g c = let i = c.take_log-held.ensures.inside in i.inside ∙ ap Inside (sym i.cell)

pub leave-requires-in-LogFault-clause-cell : goal.leave-requires-in-LogFault-clause-cell
leave-requires-in-LogFault-clause-cell g c = let cell = c.take_log-held.ensures.inside.cell in let laid = c.requires.alone.laid in omega (arith, cell, laid)

pub leave-requires-in-LogFault-clause-session : goal.leave-requires-in-LogFault-clause-session
leave-requires-in-LogFault-clause-session g c =
    let noted = c.forget_fault_note-fault.ensures ∙ ap (λ l. forget_fault_by c.args.by c.args.number (g.L.LogDisk.faults (log_disk l))) c.deref.ensures in
    noted_own c.args.hall.now log_lock c.args.pass.now c.take_log-held.new.pass c.requires.alone c.take_log-held.ensures.inside c.forget_fault_note-fault.result.value (forget_fault_by c.args.by c.args.number (g.L.LogDisk.faults (log_disk c.forget_before_checkpoint.new.self))) noted c.requires.turn

pub leave-requires-in-LogFault-clause-may : goal.leave-requires-in-LogFault-clause-may
leave-requires-in-LogFault-clause-may g c =
    let start = start_of c.args.hall.now in
    let d = g.L.LogDisk in
    let old = (view c.args.pass.now).seen in
    let o = c.deref_mut-log.result.now in
    let n = c.forget_before_checkpoint.new.self in
    let f = c.in-Err.ensures in
    let s = subst (λ l. IsLogOf start l (at old log_lock)) (sym c.deref_mut-log.ensures.value) c.take_log-held.ensures.stands in
    let noted = c.forget_fault_note-fault.ensures ∙ ap (λ l. forget_fault_by c.args.by c.args.number (g.L.LogDisk.faults (log_disk l))) c.deref.ensures in
    let up = s.up (not_down (log_down o) (λ m put. let refused = same_err (f.is_down m put) in let failed = c.in-LogFault.is in cc)) in
    let risen = risen_past (faults_told start log_lock (at old log_lock)) (d.faults (log_disk o)) (d.faults (log_disk n)) s.count (f.fault (ap Err c.in-LogFault.is)) in
    noted_may c.args.hall.now log_lock c.args.pass.now c.take_log-held.new.pass c.requires.alone c.take_log-held.ensures.inside c.forget_fault_note-fault.result.value (forget_fault_by c.args.by c.args.number (g.L.LogDisk.faults (log_disk c.forget_before_checkpoint.new.self))) noted c.requires.turn ((hosts_keep start old c.args.by).log_fault (calls.Forget c.args.number) (d.faults (log_disk n)) c.requires.may (λ q. up) risen)

pub leave-requires-in-LogFault-clause-stands : goal.leave-requires-in-LogFault-clause-stands
leave-requires-in-LogFault-clause-stands g c =
    let start = start_of c.args.hall.now in
    let old = (view c.args.pass.now).seen in
    let o = c.deref_mut-log.result.now in
    let n = c.forget_before_checkpoint.new.self in
    let f = c.in-Err.ensures in
    let s = subst (λ l. IsLogOf start l (at old log_lock)) (sym c.deref_mut-log.ensures.value) c.take_log-held.ensures.stands in
    let noted = c.forget_fault_note-fault.ensures ∙ ap (λ l. forget_fault_by c.args.by c.args.number (g.L.LogDisk.faults (log_disk l))) c.deref.ensures in
    let up = not_down (log_down o) (λ m put. let refused = same_err (f.is_down m put) in let failed = c.in-LogFault.is in cc) in
    noted_stands c.args.hall.now log_lock c.args.pass.now c.take_log-held.new.pass c.requires.alone c.take_log-held.ensures.inside c.forget_fault_note-fault.result.value (forget_fault_by c.args.by c.args.number (g.L.LogDisk.faults (log_disk c.forget_before_checkpoint.new.self))) noted (parts.Log (record c.take_log-held.result { value = n }))
    (refl, forget_fails start o n (at old log_lock) c.args.by s c.args.number f.recs f.next f.counters f.flushed f.end (f.put_down (ap Err c.in-LogFault.is)) up (first_is c.args.number (log_checkpoint o) (log_first n) (s.alone c.args.number c.requires.ends) (f.first (λ place q. let failed = c.in-LogFault.is in let other = same_err q in cc))) f.keeps f.begins)

pub returns-in-LogFault-clause-alone : goal.returns-in-LogFault-clause-alone
returns-in-LogFault-clause-alone g c =
    let noted = c.forget_fault_note-fault.ensures ∙ ap (λ l. forget_fault_by c.args.by c.args.number (g.L.LogDisk.faults (log_disk l))) c.deref.ensures in
    noted_alone c.args.hall.now log_lock c.args.pass.now c.take_log-held.new.pass c.requires.alone c.take_log-held.ensures.inside c.forget_fault_note-fault.result.value (forget_fault_by c.args.by c.args.number (g.L.LogDisk.faults (log_disk c.forget_before_checkpoint.new.self))) noted c.leave-in-LogFault.new.pass c.leave-in-LogFault.ensures.own c.leave-in-LogFault.ensures.left

pub returns-in-LogFault-clause-holds : goal.returns-in-LogFault-clause-holds
returns-in-LogFault-clause-holds g c = c.leave-in-LogFault.ensures.left.holds ∙ c.take_log-held.ensures.inside.holds

pub returns-in-LogFault-clause-adds : goal.returns-in-LogFault-clause-adds
returns-in-LogFault-clause-adds g c =
    let start = start_of c.args.hall.now in
    let d = g.L.LogDisk in
    let old = (view c.args.pass.now).seen in
    let s = subst (λ l. IsLogOf start l (at old log_lock)) (sym c.deref_mut-log.ensures.value) c.take_log-held.ensures.stands in
    let o = c.deref_mut-log.result.now in
    let n = c.forget_before_checkpoint.new.self in
    let noted = c.forget_fault_note-fault.ensures ∙ ap (λ l. forget_fault_by c.args.by c.args.number (d.faults (log_disk l))) c.deref.ensures in
    record {
      count = d.faults (log_disk n);
      risen = risen_past (faults_told start log_lock (at old log_lock)) (d.faults (log_disk o)) (d.faults (log_disk n)) s.count (c.in-Err.ensures.fault (ap Err c.in-LogFault.is));
      adds = noted_adds c.args.hall.now log_lock c.args.pass.now c.take_log-held.new.pass c.requires.alone c.take_log-held.ensures.inside c.forget_fault_note-fault.result.value (forget_fault_by c.args.by c.args.number (g.L.LogDisk.faults (log_disk c.forget_before_checkpoint.new.self))) noted c.leave-in-LogFault.new.pass c.leave-in-LogFault.ensures.own c.leave-in-LogFault.ensures.left;
    }

-- the log was down
pub put_back-requires-clause-inside : goal.put_back-requires-clause-inside
put_back-requires-clause-inside g c = let i = c.take_log-held.ensures.inside in i.inside ∙ ap Inside (sym i.cell)

pub put_back-requires-clause-stands : goal.put_back-requires-clause-stands
put_back-requires-clause-stands g c =
    let start = start_of c.args.hall.now in
    let i = c.take_log-held.ensures.inside in
    let seen = (view c.take_log-held.new.pass).seen in
    let s = subst (λ l. IsLogOf start l (at (view c.args.pass.now).seen log_lock)) (sym c.deref_mut-log.ensures.value) c.take_log-held.ensures.stands in
    let here = subst (λ z. IsLogOf start c.deref_mut-log.result.now (at z log_lock)) (sym i.seen) s in
    let o = c.deref_mut-log.result.now in
    let n = c.forget_before_checkpoint.new.self in
    let f = c.in-Err.ensures in
    let down = refused_down c.in-Err.refusal c.in_default.not-LogFault (λ q. f.no_other.0 (ap Err q)) (λ q. f.no_other.1 (ap Err q)) (λ place q. f.no_other.2 place (ap Err q)) in
    subst (λ (z : ℕ). (z ≡ log_lock) × IsLogOf start n (at seen z)) (sym i.cell)
    (refl, log_untouched start o n (at seen log_lock) (f.down_asks_nothing down.0 (f.down down.0 (ap Err down.1))) f.recs f.next (f.first_down down.0 (ap Err down.1)) f.flushed f.counters (f.stays (λ q. c.in_default.not-LogFault (same_err q))) f.checkpoint f.end here)

pub returns-in_default-clause-alone : goal.returns-in_default-clause-alone
returns-in_default-clause-alone g c =
    (came_out c.args.hall.now log_lock c.args.pass.now c.take_log-held.new.pass c.put_back.new.pass c.requires.alone c.take_log-held.ensures.inside c.put_back.ensures.own.0 c.put_back.ensures.view).alone

pub returns-in_default-clause-holds : goal.returns-in_default-clause-holds
returns-in_default-clause-holds g c =
    (came_out c.args.hall.now log_lock c.args.pass.now c.take_log-held.new.pass c.put_back.new.pass c.requires.alone c.take_log-held.ensures.inside c.put_back.ensures.own.0 c.put_back.ensures.view).holds

pub returns-in_default-clause-adds : goal.returns-in_default-clause-adds
returns-in_default-clause-adds g c =
    let start = start_of c.args.hall.now in
    let old = (view c.args.pass.now).seen in
    let s = subst (λ l. IsLogOf start l (at old log_lock)) (sym c.deref_mut-log.ensures.value) c.take_log-held.ensures.stands in
    let f = c.in-Err.ensures in
    let down = refused_down c.in-Err.refusal c.in_default.not-LogFault (λ q. f.no_other.0 (ap Err q)) (λ q. f.no_other.1 (ap Err q)) (λ place q. f.no_other.2 place (ap Err q)) in
    let out = came_out c.args.hall.now log_lock c.args.pass.now c.take_log-held.new.pass c.put_back.new.pass c.requires.alone c.take_log-held.ensures.inside c.put_back.ensures.own.0 c.put_back.ensures.view in
    subst (λ (r : LogRefusal). AddsForget {T = Unit {0}} start c.args.by c.args.number old (view c.put_back.new.pass).seen (Err r)) (sym down.1)
    (record { same = out.seen; is_down = (s.failed down.0 (f.down down.0 (ap Err down.1))).0 })

pub returns-in_default-clause-kept : goal.returns-in_default-clause-kept
returns-in_default-clause-kept g c = subst (EngineInvariant (start_of c.args.hall.now)) (sym (ap (λ (z : Knowledge). z.seen) c.put_back.ensures.view)) c.take_log-held.ensures.inside.kept

-- what was asked of the volume
pub returns-in-Ok-clause-asks : goal.returns-in-Ok-clause-asks
returns-in-Ok-clause-asks g c =
    let start = start_of c.args.hall.now in
    let d = g.L.LogDisk in
    let old = (view c.args.pass.now).seen in
    let held = c.take_log-held.result in
    let o = c.deref_mut-log.result.now in
    let n = c.forget_before_checkpoint.new.self in
    let wide = c.requires.alone.own.wide in
    let s = subst (λ l. IsLogOf start l (at old log_lock)) (sym c.deref_mut-log.ensures.value) c.take_log-held.ensures.stands in
    let f = c.in-Ok.ensures in
    let up = not_down (log_down o) (λ m put. let refused = f.is_down m put in cc) in
    asks_with g.L.LogDisk g.P.PageDisk start log_lock old (view c.leave.new.pass).seen (omega (arith, wide, c.requires.alone.laid)) (parts.Log held) (parts.Log (record held { value = n }))
    (refl, c.take_log-held.ensures.stands) (subst (λ z. LogMoments z n) c.deref_mut-log.ensures.value f.keeps_at_each_moment)
    (forget_by c.args.by c.args.number)
    (refl, forgotten_stands start o n (at old log_lock) c.args.by s c.args.number f.recs f.next f.counters f.flushed f.end (f.stays (λ q. cc)) up f.faults (first_is c.args.number (log_checkpoint o) (log_first n) (s.alone c.args.number c.requires.ends) (f.first (λ place q. cc))) f.keeps f.begins)
    (noted_adds c.args.hall.now log_lock c.args.pass.now c.take_log-held.new.pass c.requires.alone c.take_log-held.ensures.inside c.forget_note-forget.result.value (forget_by c.args.by c.args.number) c.forget_note-forget.ensures c.leave.new.pass c.leave.ensures.own c.leave.ensures.left)

pub returns-in-LogFault-clause-asks : goal.returns-in-LogFault-clause-asks
returns-in-LogFault-clause-asks g c =
    let start = start_of c.args.hall.now in
    let d = g.L.LogDisk in
    let old = (view c.args.pass.now).seen in
    let held = c.take_log-held.result in
    let o = c.deref_mut-log.result.now in
    let n = c.forget_before_checkpoint.new.self in
    let wide = c.requires.alone.own.wide in
    let s = subst (λ l. IsLogOf start l (at old log_lock)) (sym c.deref_mut-log.ensures.value) c.take_log-held.ensures.stands in
    let f = c.in-Err.ensures in
    let noted = c.forget_fault_note-fault.ensures ∙ ap (λ l. forget_fault_by c.args.by c.args.number (d.faults (log_disk l))) c.deref.ensures in
    let up = not_down (log_down o) (λ m put. let refused = same_err (f.is_down m put) in let failed = c.in-LogFault.is in cc) in
    asks_with g.L.LogDisk g.P.PageDisk start log_lock old (view c.leave-in-LogFault.new.pass).seen (omega (arith, wide, c.requires.alone.laid)) (parts.Log held) (parts.Log (record held { value = n }))
    (refl, c.take_log-held.ensures.stands) (subst (λ z. LogMoments z n) c.deref_mut-log.ensures.value f.keeps_at_each_moment)
    (forget_fault_by c.args.by c.args.number (d.faults (log_disk n))) (
      refl,
      forget_fails start o n (at old log_lock) c.args.by s c.args.number f.recs f.next f.counters f.flushed f.end (f.put_down (ap Err c.in-LogFault.is)) up
          (first_is c.args.number (log_checkpoint o) (log_first n) (s.alone c.args.number c.requires.ends) (f.first (λ place q. let failed = c.in-LogFault.is in let other = same_err q in cc))) f.keeps f.begins,
    )
    (noted_adds c.args.hall.now log_lock c.args.pass.now c.take_log-held.new.pass c.requires.alone c.take_log-held.ensures.inside c.forget_fault_note-fault.result.value (forget_fault_by c.args.by c.args.number (g.L.LogDisk.faults (log_disk c.forget_before_checkpoint.new.self))) noted c.leave-in-LogFault.new.pass c.leave-in-LogFault.ensures.own c.leave-in-LogFault.ensures.left)

pub returns-in_default-clause-asks : goal.returns-in_default-clause-asks
returns-in_default-clause-asks g c =
    let start = start_of c.args.hall.now in
    let d = g.L.LogDisk in
    let i = c.take_log-held.ensures.inside in
    let old = (view c.args.pass.now).seen in
    let held = c.take_log-held.result in
    let o = c.deref_mut-log.result.now in
    let n = c.forget_before_checkpoint.new.self in
    let wide = c.requires.alone.own.wide in
    let s = subst (λ l. IsLogOf start l (at old log_lock)) (sym c.deref_mut-log.ensures.value) c.take_log-held.ensures.stands in
    let f = c.in-Err.ensures in
    let down = refused_down c.in-Err.refusal c.in_default.not-LogFault (λ q. f.no_other.0 (ap Err q)) (λ q. f.no_other.1 (ap Err q)) (λ place q. f.no_other.2 place (ap Err q)) in
    let out = came_out c.args.hall.now log_lock c.args.pass.now c.take_log-held.new.pass c.put_back.new.pass c.requires.alone c.take_log-held.ensures.inside c.put_back.ensures.own.0 c.put_back.ensures.view in
    asks_without g.L.LogDisk g.P.PageDisk start log_lock old (view c.put_back.new.pass).seen (omega (arith, wide, c.requires.alone.laid)) (parts.Log held) (parts.Log (record held { value = n }))
    (refl, c.take_log-held.ensures.stands) (subst (λ z. LogMoments z n) c.deref_mut-log.ensures.value f.keeps_at_each_moment)
    (refl, log_untouched start o n (at old log_lock) (f.down_asks_nothing down.0 (f.down down.0 (ap Err down.1))) f.recs f.next (f.first_down down.0 (ap Err down.1)) f.flushed f.counters (f.stays (λ q. c.in_default.not-LogFault (same_err q))) f.checkpoint f.end s)
    out.seen
