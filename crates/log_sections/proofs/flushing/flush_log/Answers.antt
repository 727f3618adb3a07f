use Rattle.engine_parts.specs.LogTail.{log_tail}
use Rattle.engine_parts.proofs.Tails.{flushed_tail, same_tail}
use Rattle.engine_parts.specs.Parts.{IsLogOf}
use Rattle.std.proofs.Common.{Err, inl, inr, ◌≡◌, ◌<◌, ◌≤◌, arith, ap, ◌∙◌, subst, sym, refl, ◌++◌, ◌∷◌, []}
use Rattle.std.proofs.lemmas.List.{length-map}
use Rattle.std.proofs.lemmas.Bool.Decides.{nat_tests}
use Rattle.std.proofs.lemmas.Option.{same_Some}
use Rattle.hall.specs.Calls.{view, start_of}
use Rattle.notes.specs.Lists.{at}
use Rattle.tx_events.specs.declared.event.By.{By}
use Rattle.tx_events.specs.declared.record.Rec.{Rec}
use Rattle.tx_core.specs.declared.entry.Entry.{Entry}
use Rattle.tx_core.specs.declared.entry.Kind.TheVariants as kinds
use Rattle.tx_core.specs.declared.entry.LogCall.TheVariants as calls
use Rattle.tx_core.specs.Entries.{records_of, flushed_in, flushed_to}
use Rattle.tx_core.specs.Locks.{log_lock}
use Rattle.tx_core.proofs.Lasting.{stands_grows}
use Rattle.wal_core.specs.LogViews.{log_checkpoint, log_counters, log_disk, log_down, log_first, log_flushed, log_next, log_recs}
use Rattle.engine_parts.specs.declared.session.Session.{Session}
use Rattle.engine_parts.specs.Answers.{MetLogFault}
use Rattle.engine_parts.specs.Faults.{flush_fault_by, look_of}
use Rattle.engine_parts.specs.Sessions.{by_at, inner_id, look_by}
use Rattle.engine_parts.proofs.Leaving.{call_left, grown_left, stands_left}
use Rattle.engine_parts.proofs.Logging.{failed_here, failed_more, first_same, flush_alone, flush_stands, goes_on, log_looks, unflushed, up_more}
use Rattle.engine_parts.proofs.May.{met_log_fault}
use Rattle.engine_parts.proofs.Sectioning.{same_command, section_of}
use Rattle.engine_parts.proofs.Stepping.{went_quiet}
use Rattle.log_sections.proofs.Sections.{down_left, flush_looked, flush_refused, same_err, seen_below, not_down, fault_left}
use Rattle.tx_core.specs.FaultsRise.{count_in, faults_at, faults_told}
use Rattle.tx_core.proofs.FaultCounts.{risen_past}
use Rattle.tx_core.proofs.LastNumbers.{number_push, number_same}
use Rattle.tx_core.proofs.LogLaws.{flushes_rise}
use Rattle.log_sections.proofs.flushing.flush_log.Goals as goal

-- the record is on disk already
pub leave_looked-requires-clause-stands : goal.leave_looked-requires-clause-stands
leave_looked-requires-clause-stands g c =
    let u = c.enter_log-held.new.caller in
    (refl, log_looks (start_of c.args.hall.now) c.deref_mut-log.result.now (at (view u.pass).seen log_lock) (by_at u.number u.session.levels.commands) (subst (λ l. IsLogOf (start_of c.args.hall.now) l (at (view c.enter_log-held.new.caller.pass).seen log_lock)) (sym c.deref_mut-log.ensures.value) c.enter_log-held.ensures.stands))

-- all are flushed
pub leave_flushed-requires-clause-within : goal.leave_flushed-requires-clause-within
leave_flushed-requires-clause-within g c =
    let s = (subst (λ l. IsLogOf (start_of c.args.hall.now) l (at (view c.enter_log-held.new.caller.pass).seen log_lock)) (sym c.deref_mut-log.ensures.value) c.enter_log-held.ensures.stands) in
    let same = length-map (records_of (view c.enter_log-held.new.caller.pass).seen) (λ (r : By × Rec). r.1) in
    let next = c.next-next.ensures in
    let is = s.next_is in
    omega arith

pub leave_flushed-requires-clause-stands : goal.leave_flushed-requires-clause-stands
leave_flushed-requires-clause-stands g c =
    let start = start_of c.args.hall.now in
    let d = g.L.LogDisk in
    let u = c.enter_log-held.new.caller in
    let o = c.deref_mut-log.result.now in
    let n = c.flush.new.self in
    let f = c.in-Ok.ensures in
    let s = (subst (λ l. IsLogOf (start_of c.args.hall.now) l (at (view c.enter_log-held.new.caller.pass).seen log_lock)) (sym c.deref_mut-log.ensures.value) c.enter_log-held.ensures.stands) in
    let es = at (view u.pass).seen log_lock in
    let by = by_at u.number u.session.levels.commands in
    let flush : Entry = record { by = by; kind = kinds.Flush c.next-next.result } in
    goes_on start d.tells (d.faults (log_disk o)) (d.faults (log_disk n)) (d.images (log_disk o)) (d.images (log_disk n)) (log_recs o) (log_recs n) (log_next o) (log_next n) (log_first o) (log_first n) (log_flushed o) (log_flushed n) (log_counters o) (log_counters n) (log_down o) (log_down n) (log_checkpoint o) (log_checkpoint n) (log_tail o) (log_tail n) es by s (kinds.Flush c.next-next.result) refl (flushed_tail o n c.next-next.result f.next f.ok f.end f.same_end)
    f.recs f.next f.counters (f.ok ∙ (sym c.next-next.ensures ∙ sym (number_push flushed_in start.from es flush c.next-next.result refl)))
    (let same : faults_told start log_lock (es ++ flush ∷ []) ≡ faults_told start log_lock es = number_same count_in (faults_at start log_lock) es flush refl in let before = s.count in let rises = f.faults in omega arith)
    (λ m is. absurd (let refused = f.is_down m (sym (f.stays (λ q. cc)) ∙ is) in cc))
    (λ none. up_more es flush refl (s.up (sym (f.stays (λ q. cc)) ∙ none)))
    (first_same start es flush (log_first o) (log_first n) f.first refl s.first_is) (flush_alone start o n es by s c.next-next.result f.checkpoint) f.keeps refl f.begins_same

pub returns-then-flushed-number-clause-may : goal.returns-then-flushed-number-clause-may
returns-then-flushed-number-clause-may g c =
    let e = c.enter_log-held.ensures in
    let r = c.leave_looked.ensures in
    let wide = c.requires.may.ready.at.wide in
    let same = r.same.0 ∙ e.same.0 in
    call_left (start_of c.args.hall.now) (view c.args.caller.now.pass) (view c.enter_log-held.new.caller.pass) (view c.leave_looked.new.caller.pass) c.args.caller.now.number c.leave_looked.new.caller.number log_lock c.args.caller.now.session c.leave_looked.new.caller.session _
    c.requires.may e.entered.learns (omega arith) r.left refl (ap (λ (z : Session). inner_id z) same) (ap (λ (z : Session). z.levels.open_ids.items) same) (ap (λ (z : Session). z.stage) same) (r.same.1 ∙ e.same.1) r.ready

pub returns-then-flushed-number-clause-went : goal.returns-then-flushed-number-clause-went
returns-then-flushed-number-clause-went g c =
    let e = c.enter_log-held.ensures in
    let wide = c.requires.may.ready.at.wide in
    went_quiet (start_of c.args.hall.now) (view c.args.caller.now.pass) (view c.enter_log-held.new.caller.pass) (view c.leave_looked.new.caller.pass) c.args.caller.now.number log_lock c.args.caller.now.session _ c.requires.may.ready.at e.entered.kept e.entered.learns (omega arith) refl refl refl c.leave_looked.ensures.left

pub returns-then-flushed-number-clause-flushes : goal.returns-then-flushed-number-clause-flushes
returns-then-flushed-number-clause-flushes g c =
    let e = c.enter_log-held.ensures in
    let wide = c.requires.may.ready.at.wide in
    let long = e.entered.learns.long in
    let start = start_of c.args.hall.now in
    let u = view c.enter_log-held.new.caller.pass in
    let w = view c.leave_looked.new.caller.pass in
    let to = c.flushed.ensures in
    let is = (subst (λ l. IsLogOf (start_of c.args.hall.now) l (at (view c.enter_log-held.new.caller.pass).seen log_lock)) (sym c.deref_mut-log.ensures.value) c.enter_log-held.ensures.stands).flushed_is in
    let past : c.args.number < flushed_to start (at u.seen log_lock) = grind (arith, nat_tests) in
    let f = flush_stands start (at u.seen log_lock) c.args.number c.requires.stands.0 past in
    (f.0, f.1, stands_grows u.seen w.seen log_lock (kinds.Flush f.0) (grown_left start u w log_lock _ (omega arith) c.leave_looked.ensures.left) (f.2, f.3))

pub returns-in-Ok-clause-may : goal.returns-in-Ok-clause-may
returns-in-Ok-clause-may g c =
    let e = c.enter_log-held.ensures in
    let r = c.leave_flushed.ensures in
    let wide = c.requires.may.ready.at.wide in
    let same = r.same.0 ∙ e.same.0 in
    call_left (start_of c.args.hall.now) (view c.args.caller.now.pass) (view c.enter_log-held.new.caller.pass) (view c.leave_flushed.new.caller.pass) c.args.caller.now.number c.leave_flushed.new.caller.number log_lock c.args.caller.now.session c.leave_flushed.new.caller.session _
    c.requires.may e.entered.learns (omega arith) r.left refl (ap (λ (z : Session). inner_id z) same) (ap (λ (z : Session). z.levels.open_ids.items) same) (ap (λ (z : Session). z.stage) same) (r.same.1 ∙ e.same.1) r.ready

pub returns-in-Ok-clause-went : goal.returns-in-Ok-clause-went
returns-in-Ok-clause-went g c =
    let e = c.enter_log-held.ensures in
    let wide = c.requires.may.ready.at.wide in
    went_quiet (start_of c.args.hall.now) (view c.args.caller.now.pass) (view c.enter_log-held.new.caller.pass) (view c.leave_flushed.new.caller.pass) c.args.caller.now.number log_lock c.args.caller.now.session _ c.requires.may.ready.at e.entered.kept e.entered.learns (omega arith) refl refl refl c.leave_flushed.ensures.left

pub returns-in-Ok-clause-flushes : goal.returns-in-Ok-clause-flushes
returns-in-Ok-clause-flushes g c =
    let e = c.enter_log-held.ensures in
    let wide = c.requires.may.ready.at.wide in
    let long = e.entered.learns.long in
    let start = start_of c.args.hall.now in
    let u = view c.enter_log-held.new.caller.pass in
    let w = view c.leave_flushed.new.caller.pass in
    let below = seen_below start (view c.args.caller.now.pass).seen u.seen c.args.number e.entered.learns.knows.grows c.requires.stands.1 in
    let next = c.next-next.ensures in
    let is = (subst (λ l. IsLogOf (start_of c.args.hall.now) l (at (view c.enter_log-held.new.caller.pass).seen log_lock)) (sym c.deref_mut-log.ensures.value) c.enter_log-held.ensures.stands).next_is in
    (c.next-next.result, omega arith, (by_at c.enter_log-held.new.caller.number c.enter_log-held.new.caller.session.levels.commands, stands_left start u w log_lock _ (omega arith) c.leave_flushed.ensures.left))

-- the volume failed
pub leave_failed-requires-clause-stands : goal.leave_failed-requires-clause-stands
leave_failed-requires-clause-stands g c =
    let start = start_of c.args.hall.now in
    let d = g.L.LogDisk in
    let u = c.enter_log-held.new.caller in
    let o = c.deref_mut-log.result.now in
    let n = c.flush.new.self in
    let f = c.in-Err.ensures in
    let s = (subst (λ l. IsLogOf (start_of c.args.hall.now) l (at (view c.enter_log-held.new.caller.pass).seen log_lock)) (sym c.deref_mut-log.ensures.value) c.enter_log-held.ensures.stands) in
    let es = at (view u.pass).seen log_lock in
    let by = by_at u.number u.session.levels.commands in
    let fault : Entry = flush_fault_by by (d.faults (log_disk n)) in
    goes_on start d.tells (d.faults (log_disk o)) (d.faults (log_disk n)) (d.images (log_disk o)) (d.images (log_disk n)) (log_recs o) (log_recs n) (log_next o) (log_next n) (log_first o) (log_first n) (log_flushed o) (log_flushed n) (log_counters o) (log_counters n) (log_down o) (log_down n) (log_checkpoint o) (log_checkpoint n) (log_tail o) (log_tail n) es by s fault.kind refl (same_tail o n f.recs f.next f.err f.err_end)
    f.recs f.next f.counters (f.err ∙ (s.flushed_is ∙ sym (number_same flushed_in start.from es fault refl)))
    (let here = number_push count_in (faults_at start log_lock) es fault (d.faults (log_disk n)) refl in omega arith)
    (λ m is.
    let here : m ≡ log_flushed o = same_Some m (log_flushed o) (sym is ∙ f.put_down (ap Err c.in-LogFault.is)) in
    let still = f.err in
    (failed_here start es by calls.Flush (d.faults (log_disk n)) m refl (here ∙ s.flushed_is), omega arith))
    (λ none. absurd (let some = sym none ∙ f.put_down (ap Err c.in-LogFault.is) in cc))
    (first_same start es fault (log_first o) (log_first n) f.first refl s.first_is) (unflushed start es fault (log_checkpoint n) refl) f.keeps refl f.begins_same

pub returns-in-LogFault-clause-may : goal.returns-in-LogFault-clause-may
returns-in-LogFault-clause-may g c =
    let e = c.enter_log-held.ensures in
    let r = c.leave_failed.ensures in
    let wide = c.requires.may.ready.at.wide in
    let same = r.same.0 ∙ e.same.0 in
    call_left (start_of c.args.hall.now) (view c.args.caller.now.pass) (view c.enter_log-held.new.caller.pass) (view c.leave_failed.new.caller.pass) c.args.caller.now.number c.leave_failed.new.caller.number log_lock c.args.caller.now.session c.leave_failed.new.caller.session _
    c.requires.may e.entered.learns (omega arith) r.left refl (ap (λ (z : Session). inner_id z) same) (ap (λ (z : Session). z.levels.open_ids.items) same) (ap (λ (z : Session). z.stage) same) (r.same.1 ∙ e.same.1) r.ready

pub returns-in-LogFault-clause-went : goal.returns-in-LogFault-clause-went
returns-in-LogFault-clause-went g c =
    let e = c.enter_log-held.ensures in
    let wide = c.requires.may.ready.at.wide in
    went_quiet (start_of c.args.hall.now) (view c.args.caller.now.pass) (view c.enter_log-held.new.caller.pass) (view c.leave_failed.new.caller.pass) c.args.caller.now.number log_lock c.args.caller.now.session _ c.requires.may.ready.at e.entered.kept e.entered.learns (omega arith) refl refl refl c.leave_failed.ensures.left

pub returns-in-LogFault-clause-flushes : goal.returns-in-LogFault-clause-flushes
returns-in-LogFault-clause-flushes g c =
    let e = c.enter_log-held.ensures in
    let wide = c.requires.may.ready.at.wide in
    let long = e.entered.learns.long in
    let start = start_of c.args.hall.now in
    let u = view c.enter_log-held.new.caller.pass in
    let w = view c.leave_failed.new.caller.pass in
    let by = by_at c.enter_log-held.new.caller.number c.enter_log-held.new.caller.session.levels.commands in
    let count = g.L.LogDisk.faults (log_disk c.flush.new.self) in
    let es = at u.seen log_lock in
    let flushed = (subst (λ l. IsLogOf (start_of c.args.hall.now) l (at (view c.enter_log-held.new.caller.pass).seen log_lock)) (sym c.deref_mut-log.ensures.value) c.enter_log-held.ensures.stands).flushed_is in
    let asked = c.flushed.ensures in (
      subst (λ (b : By). MetLogFault w.seen b) (λ j. by_at (e.same.1 j) (e.same.0 j).levels.commands) (met_log_fault start u w by count (omega arith) c.leave_failed.ensures.left),
      (flushed_to start es, fault_left start u w by count (omega arith) c.leave_failed.ensures.left, omega arith),
    )

-- the log was down
pub leave_looked-requires-in-Err-clause-stands : goal.leave_looked-requires-in-Err-clause-stands
leave_looked-requires-in-Err-clause-stands g c =
    let start = start_of c.args.hall.now in
    let d = g.L.LogDisk in
    let u = c.enter_log-held.new.caller in
    let o = c.deref_mut-log.result.now in
    let n = c.flush.new.self in
    let f = c.in-Err.ensures in
    let s = (subst (λ l. IsLogOf (start_of c.args.hall.now) l (at (view c.enter_log-held.new.caller.pass).seen log_lock)) (sym c.deref_mut-log.ensures.value) c.enter_log-held.ensures.stands) in
    let es = at (view u.pass).seen log_lock in
    let by = by_at u.number u.session.levels.commands in
    let look : Entry = record { by = by; kind = kinds.Look } in (
      refl,
      goes_on start d.tells (d.faults (log_disk o)) (d.faults (log_disk n)) (d.images (log_disk o)) (d.images (log_disk n)) (log_recs o) (log_recs n) (log_next o) (log_next n) (log_first o) (log_first n) (log_flushed o) (log_flushed n) (log_counters o) (log_counters n) (log_down o) (log_down n) (log_checkpoint o) (log_checkpoint n) (log_tail o) (log_tail n) es by s kinds.Look refl (same_tail o n f.recs f.next f.err f.err_end)
          f.recs f.next f.counters (f.err ∙ (s.flushed_is ∙ sym (number_same flushed_in start.from es look refl)))
          (let same : faults_told start log_lock (es ++ look ∷ []) ≡ faults_told start log_lock es = number_same count_in (faults_at start log_lock) es look refl in let before = s.count in let rises = f.faults in omega arith)
          (λ m is. let before = s.failed m (sym (f.stays (λ q. c.in_default.not-LogFault (same_err q))) ∙ is) in let still = f.err in (failed_more start es look m before.0, (let le = before.1 in omega arith)))
          (λ none. up_more es look refl (s.up (sym (f.stays (λ q. c.in_default.not-LogFault (same_err q))) ∙ none)))
          (first_same start es look (log_first o) (log_first n) f.first refl s.first_is) (unflushed start es look (log_checkpoint n) refl) f.keeps refl f.begins_same,
    )

pub refusal_of-requires : goal.refusal_of-requires
refusal_of-requires g c place is = c.in-Err.ensures.no_other.2 place (ap Err is)

pub returns-in_default-clause-may : goal.returns-in_default-clause-may
returns-in_default-clause-may g c =
    let e = c.enter_log-held.ensures in
    let r = c.leave_looked-in-Err.ensures in
    let wide = c.requires.may.ready.at.wide in
    let same = r.same.0 ∙ e.same.0 in
    call_left (start_of c.args.hall.now) (view c.args.caller.now.pass) (view c.enter_log-held.new.caller.pass) (view c.leave_looked-in-Err.new.caller.pass) c.args.caller.now.number c.leave_looked-in-Err.new.caller.number log_lock c.args.caller.now.session c.leave_looked-in-Err.new.caller.session _
    c.requires.may e.entered.learns (omega arith) r.left refl (ap (λ (z : Session). inner_id z) same) (ap (λ (z : Session). z.levels.open_ids.items) same) (ap (λ (z : Session). z.stage) same) (r.same.1 ∙ e.same.1) r.ready

pub returns-in_default-clause-went : goal.returns-in_default-clause-went
returns-in_default-clause-went g c =
    let e = c.enter_log-held.ensures in
    let wide = c.requires.may.ready.at.wide in
    went_quiet (start_of c.args.hall.now) (view c.args.caller.now.pass) (view c.enter_log-held.new.caller.pass) (view c.leave_looked-in-Err.new.caller.pass) c.args.caller.now.number log_lock c.args.caller.now.session _ c.requires.may.ready.at e.entered.kept e.entered.learns (omega arith) refl refl refl c.leave_looked-in-Err.ensures.left

pub returns-in_default-clause-flushes : goal.returns-in_default-clause-flushes
returns-in_default-clause-flushes g c =
    let e = c.enter_log-held.ensures in
    let wide = c.requires.may.ready.at.wide in
    let long = e.entered.learns.long in
    let start = start_of c.args.hall.now in
    let u = view c.enter_log-held.new.caller.pass in
    let w = view c.leave_looked-in-Err.new.caller.pass in
    let none = c.in-Err.ensures.no_other in
    flush_refused start w.seen (by_at c.args.caller.now.number c.args.caller.now.session.levels.commands) c.args.number c.in-Err.refusal c.refusal_of.result c.refusal_of.ensures c.in_default.not-LogFault (λ is. none.0 (ap Err is)) (λ is. none.1 (ap Err is))
    (λ down is.
    let f = (subst (λ l. IsLogOf (start_of c.args.hall.now) l (at (view c.enter_log-held.new.caller.pass).seen log_lock)) (sym c.deref_mut-log.ensures.value) c.enter_log-held.ensures.stands).failed down (c.in-Err.ensures.down down (ap Err is)) in
    let le = f.1 in
    let to = c.flushed.ensures in
    let within : log_flushed c.deref_mut-log.result.now ≤ c.args.number = grind (arith, nat_tests) in
    (down_left start u w _ down (omega arith) c.leave_looked-in-Err.ensures.left f.0, omega arith))

-- the critical section
pub returns-then-flushed-number-clause-section : goal.returns-then-flushed-number-clause-section
returns-then-flushed-number-clause-section g c =
    let e = c.enter_log-held.ensures in
    let t = c.enter_log-held.new.caller in
    let s = c.args.caller.now.session in
    let n = c.args.caller.now.number in
    inr (section_of (start_of c.args.hall.now) (view c.args.caller.now.pass) (view t.pass) (view c.leave_looked.new.caller.pass) log_lock (look_by t.number t.session) (look_by n s) e.entered (ap look_of (same_command n t.number s t.session e.same.1 e.same.0)) c.leave_looked.ensures.left)

pub returns-in-Ok-clause-section : goal.returns-in-Ok-clause-section
returns-in-Ok-clause-section g c =
    let start = start_of c.args.hall.now in
    let e = c.enter_log-held.ensures in
    let t = c.enter_log-held.new.caller in
    let s = c.args.caller.now.session in
    let n = c.args.caller.now.number in
    let v = view c.args.caller.now.pass in
    let u = view t.pass in
    let to = c.next-next.result in
    let below = seen_below start v.seen u.seen c.args.number e.entered.learns.knows.grows c.requires.stands.1 in
    let next = c.next-next.ensures in
    let is = (subst (λ l. IsLogOf (start_of c.args.hall.now) l (at (view c.enter_log-held.new.caller.pass).seen log_lock)) (sym c.deref_mut-log.ensures.value) c.enter_log-held.ensures.stands).next_is in
    inl
    (to, omega arith, section_of start v u (view c.leave_flushed.new.caller.pass) log_lock _ (record { by = by_at n s.levels.commands; kind = kinds.Flush to }) e.entered (ap (λ (b : By). record { by = b; kind = kinds.Flush to }) (same_command n t.number s t.session e.same.1 e.same.0)) c.leave_flushed.ensures.left)

pub returns-in-LogFault-clause-section : goal.returns-in-LogFault-clause-section
returns-in-LogFault-clause-section g c =
    let e = c.enter_log-held.ensures in
    let t = c.enter_log-held.new.caller in
    let s = c.args.caller.now.session in
    let n = c.args.caller.now.number in
    let count = g.L.LogDisk.faults (log_disk c.flush.new.self) in
    (count, section_of (start_of c.args.hall.now) (view c.args.caller.now.pass) (view t.pass) (view c.leave_failed.new.caller.pass) log_lock _ (flush_fault_by (by_at n s.levels.commands) count) e.entered (ap (λ (b : By). flush_fault_by b count) (same_command n t.number s t.session e.same.1 e.same.0)) c.leave_failed.ensures.left)

pub returns-in_default-clause-section : goal.returns-in_default-clause-section
returns-in_default-clause-section g c =
    let start = start_of c.args.hall.now in
    let e = c.enter_log-held.ensures in
    let t = c.enter_log-held.new.caller in
    let s = c.args.caller.now.session in
    let n = c.args.caller.now.number in
    let none = c.in-Err.ensures.no_other in
    flush_looked start (by_at n s.levels.commands) (view c.args.caller.now.pass) (view c.leave_looked-in-Err.new.caller.pass) c.in-Err.refusal c.refusal_of.result c.refusal_of.ensures c.in_default.not-LogFault
    (section_of start (view c.args.caller.now.pass) (view t.pass) (view c.leave_looked-in-Err.new.caller.pass) log_lock (look_by t.number t.session) (look_by n s) e.entered (ap look_of (same_command n t.number s t.session e.same.1 e.same.0)) c.leave_looked-in-Err.ensures.left)

-- what the entries need
pub leave_flushed-requires-clause-rises : goal.leave_flushed-requires-clause-rises
leave_flushed-requires-clause-rises g c =
    let start = start_of c.args.hall.now in
    let e = c.enter_log-held.ensures in
    let u = view c.enter_log-held.new.caller.pass in
    let last = (flushes_rise start u.seen e.entered.kept).within in
    let same = length-map (records_of u.seen) (λ (r : By × Rec). r.1) in
    let next = c.next-next.ensures in
    let is = (subst (λ l. IsLogOf (start_of c.args.hall.now) l (at (view c.enter_log-held.new.caller.pass).seen log_lock)) (sym c.deref_mut-log.ensures.value) c.enter_log-held.ensures.stands).next_is in
    omega arith

pub leave_flushed-requires-clause-up : goal.leave_flushed-requires-clause-up
leave_flushed-requires-clause-up g c = (subst (λ l. IsLogOf (start_of c.args.hall.now) l (at (view c.enter_log-held.new.caller.pass).seen log_lock)) (sym c.deref_mut-log.ensures.value) c.enter_log-held.ensures.stands).up (not_down (log_down c.deref_mut-log.result.now) (λ n is. let refused = c.in-Ok.ensures.is_down n is in cc))

pub leave_failed-requires-clause-up : goal.leave_failed-requires-clause-up
leave_failed-requires-clause-up g c =
    (subst (λ l. IsLogOf (start_of c.args.hall.now) l (at (view c.enter_log-held.new.caller.pass).seen log_lock)) (sym c.deref_mut-log.ensures.value) c.enter_log-held.ensures.stands).up (not_down (log_down c.deref_mut-log.result.now) (λ n is. let refused = same_err (c.in-Err.ensures.is_down n is) in let failed = c.in-LogFault.is in cc))

pub leave_failed-requires-clause-risen : goal.leave_failed-requires-clause-risen
leave_failed-requires-clause-risen g c =
    let d = g.L.LogDisk in
    risen_past (faults_told (start_of c.args.hall.now) log_lock (at (view c.enter_log-held.new.caller.pass).seen log_lock)) (d.faults (log_disk c.deref_mut-log.result.now)) (d.faults (log_disk c.flush.new.self)) (subst (λ l. IsLogOf (start_of c.args.hall.now) l (at (view c.enter_log-held.new.caller.pass).seen log_lock)) (sym c.deref_mut-log.ensures.value) c.enter_log-held.ensures.stands).count (c.in-Err.ensures.fault (ap Err c.in-LogFault.is))
