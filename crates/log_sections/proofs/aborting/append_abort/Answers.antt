use Rattle.engine_parts.specs.LogTail.{log_tail}
use Rattle.engine_parts.proofs.Tails.{appended_tail, same_tail, took_room}
use Rattle.engine_parts.specs.Parts.{IsLogOf}
use Rattle.std.proofs.Common.{Err, IsTrue, ◌≡◌, arith, ap, ◌∙◌, subst, sym, refl, ◌++◌, ◌∷◌, [], Some}
use Rattle.std.proofs.lemmas.Bool.{false≢true}
use Rattle.hall.specs.Calls.{view, start_of}
use Rattle.notes.specs.Lists.{at}
use Rattle.tx_events.specs.declared.event.By.{By}
use Rattle.tx_events.specs.declared.record.Rec.{Rec}
use Rattle.tx_events.specs.After.{after_record}
use Rattle.tx_core.specs.declared.entry.Entry.{Entry}
use Rattle.tx_core.specs.declared.entry.Kind.TheVariants as kinds
use Rattle.tx_core.specs.Entries.{flushed_in}
use Rattle.tx_core.specs.Locks.{log_lock}
use Rattle.wal_core.specs.Log.{counters_or_none}
use Rattle.wal_core.specs.Opening.{number_fits}
use Rattle.wal_core.specs.LogViews.{log_checkpoint, log_counters, log_disk, log_down, log_first, log_flushed, log_next, log_recs}
use Rattle.engine_parts.specs.declared.session.Session.{Session}
use Rattle.engine_parts.specs.Faults.{look_of}
use Rattle.engine_parts.specs.Sessions.{by_at, inner_id, look_by}
use Rattle.engine_parts.proofs.Leaving.{call_left}
use Rattle.engine_parts.proofs.Logging.{appends, begins_untouched, failed_more, first_same, goes_on, log_looks, unflushed, up_more}
use Rattle.engine_parts.proofs.Sectioning.{same_command, section_of}
use Rattle.engine_parts.proofs.Stepping.{went_quiet}
use Rattle.log_sections.proofs.Aborted.{call_pending}
use Rattle.log_sections.specs.LogSections.{StandsUnder}
use Rattle.log_sections.proofs.Sections.{append_refused, base_of_log, down_left, log_refused, may_follow, not_down, same_err, stands_under, up_left}
use Rattle.tx_core.specs.FaultsRise.{count_in, faults_at, faults_told}
use Rattle.tx_core.proofs.LastNumbers.{number_same}
use Rattle.engine_parts.specs.Stages.{may_be_aborted, may_be_recorded}
use Rattle.engine_parts.specs.declared.session.Stage.TheVariants as stages
use Rattle.log_sections.proofs.aborting.append_abort.Goals as goal

-- nothing was appended: the log isn't one that may take the record
pub leave_looked-requires-clause-stands : goal.leave_looked-requires-clause-stands
leave_looked-requires-clause-stands g c =
    let u = c.enter_log-held.new.caller in
    (refl, log_looks (start_of c.args.hall.now) c.deref_mut-log.result.now (at (view u.pass).seen log_lock) (by_at u.number u.session.levels.commands) (subst (λ l. IsLogOf (start_of c.args.hall.now) l (at (view c.enter_log-held.new.caller.pass).seen log_lock)) (sym c.deref_mut-log.ensures.value) c.enter_log-held.ensures.stands))

pub returns-then-not-may_append-clause-may : goal.returns-then-not-may_append-clause-may
returns-then-not-may_append-clause-may g c =
    let e = c.enter_log-held.ensures in
    let r = c.leave_looked.ensures in
    let wide = c.requires.may.ready.at.wide in
    let same = r.same.0 ∙ e.same.0 in
    call_left (start_of c.args.hall.now) (view c.args.caller.now.pass) (view c.enter_log-held.new.caller.pass) (view c.leave_looked.new.caller.pass) c.args.caller.now.number c.leave_looked.new.caller.number log_lock c.args.caller.now.session c.leave_looked.new.caller.session _
    c.requires.may e.entered.learns (omega arith) r.left refl (ap (λ (z : Session). inner_id z) same) (ap (λ (z : Session). z.levels.open_ids.items) same) (ap (λ (z : Session). z.stage) same) (r.same.1 ∙ e.same.1) r.ready

pub returns-then-not-may_append-clause-went : goal.returns-then-not-may_append-clause-went
returns-then-not-may_append-clause-went g c =
    let e = c.enter_log-held.ensures in
    let wide = c.requires.may.ready.at.wide in
    went_quiet (start_of c.args.hall.now) (view c.args.caller.now.pass) (view c.enter_log-held.new.caller.pass) (view c.leave_looked.new.caller.pass) c.args.caller.now.number log_lock c.args.caller.now.session _ c.requires.may.ready.at e.entered.kept e.entered.learns (omega arith) refl refl refl c.leave_looked.ensures.left

-- the record is appended
pub returns-in-Ok-clause-may : goal.returns-in-Ok-clause-may
returns-in-Ok-clause-may g c =
    let e = c.enter_log-held.ensures in
    let r = c.leave_with_abort.ensures in
    call_pending (start_of c.args.hall.now) (view c.leave_with_abort.new.caller.pass) c.args.caller.now.number c.leave_with_abort.new.caller.number c.args.caller.now.session c.leave_with_abort.new.caller.session (r.session ∙ ap (λ (z : Session). record z { stage = stages.Aborting }) e.same.0) (r.number ∙ e.same.1) r.ready

pub returns-in-Ok-clause-went : goal.returns-in-Ok-clause-went
returns-in-Ok-clause-went g c =
    let e = c.enter_log-held.ensures in
    let wide = c.requires.may.ready.at.wide in
    went_quiet (start_of c.args.hall.now) (view c.args.caller.now.pass) (view c.enter_log-held.new.caller.pass) (view c.leave_with_abort.new.caller.pass) c.args.caller.now.number log_lock c.args.caller.now.session _ c.requires.may.ready.at e.entered.kept e.entered.learns (omega arith) refl refl refl c.leave_with_abort.ensures.left

pub leave_with_abort-requires-clause-base : goal.leave_with_abort-requires-clause-base
leave_with_abort-requires-clause-base g c =
    let e = c.enter_log-held.ensures in
    base_of_log (start_of c.args.hall.now) c.deref_mut-log.result.now (at (view c.enter_log-held.new.caller.pass).seen log_lock) c.args.rec.now (subst (λ l. IsLogOf (start_of c.args.hall.now) l (at (view c.enter_log-held.new.caller.pass).seen log_lock)) (sym c.deref_mut-log.ensures.value) c.enter_log-held.ensures.stands) (c.may_append.ensures.0 c.if-not-may_append.false).base

pub leave_with_abort-requires-clause-stands : goal.leave_with_abort-requires-clause-stands
leave_with_abort-requires-clause-stands g c =
    let d = g.L.LogDisk in
    let u = c.enter_log-held.new.caller in
    let o = c.deref_mut-log.result.now in
    let n = c.append.new.self in
    let a = c.in-Ok.ensures in
    let s = (subst (λ l. IsLogOf (start_of c.args.hall.now) l (at (view c.enter_log-held.new.caller.pass).seen log_lock)) (sym c.deref_mut-log.ensures.value) c.enter_log-held.ensures.stands) in
    appends (start_of c.args.hall.now) d.tells (d.faults (log_disk o)) (d.faults (log_disk n)) (d.images (log_disk o)) (d.images (log_disk n)) (log_recs o) (log_recs n) (log_next o) (log_next n) (log_first o) (log_first n) (log_flushed o) (log_flushed n) (log_counters o) (log_counters n) (log_down o) (log_down n) (log_checkpoint o) (log_checkpoint n) (log_tail o) (log_tail n) (at (view u.pass).seen log_lock) (by_at u.number u.session.levels.commands) s c.args.rec.now
    (appended_tail o n c.args.rec.now a.pending a.end) (took_room (log_down o) (log_tail o) c.args.rec.now c.in-Ok.number a.is_down a.is_full)
    a.recs a.next a.flushed (a.counters ∙ ap (λ (l : _). Some (after_record (counters_or_none l) c.args.rec.now)) s.counters_are) a.stays (ap d.faults a.disk) a.first a.keeps (begins_untouched o n a.disk a.first)

pub leave_looked-requires-in-Err-clause-stands : goal.leave_looked-requires-in-Err-clause-stands
leave_looked-requires-in-Err-clause-stands g c =
    let start = start_of c.args.hall.now in
    let d = g.L.LogDisk in
    let u = c.enter_log-held.new.caller in
    let o = c.deref_mut-log.result.now in
    let n = c.append.new.self in
    let a = c.in-Err.ensures in
    let s = (subst (λ l. IsLogOf (start_of c.args.hall.now) l (at (view c.enter_log-held.new.caller.pass).seen log_lock)) (sym c.deref_mut-log.ensures.value) c.enter_log-held.ensures.stands) in
    let es = at (view u.pass).seen log_lock in
    let look : Entry = record { by = by_at u.number u.session.levels.commands; kind = kinds.Look } in (
      refl,
      goes_on start d.tells (d.faults (log_disk o)) (d.faults (log_disk n)) (d.images (log_disk o)) (d.images (log_disk n)) (log_recs o) (log_recs n) (log_next o) (log_next n) (log_first o) (log_first n) (log_flushed o) (log_flushed n) (log_counters o) (log_counters n) (log_down o) (log_down n) (log_checkpoint o) (log_checkpoint n) (log_tail o) (log_tail n) es (by_at u.number u.session.levels.commands) s kinds.Look refl (same_tail o n a.err_recs.0 a.err_counters.1 a.flushed a.end)
          a.err_recs.0 a.err_counters.1 a.err_counters.0 (a.flushed ∙ (s.flushed_is ∙ sym (number_same flushed_in start.from es look refl)))
          (let same : faults_told start log_lock (es ++ look ∷ []) ≡ faults_told start log_lock es = number_same count_in (faults_at start log_lock) es look refl in let before = s.count in let still = ap d.faults a.disk in omega arith)
          (λ m is. let f = s.failed m (sym a.stays ∙ is) in let same = a.flushed in (failed_more start es look m f.0, (let le = f.1 in omega arith)))
          (λ none. up_more es look refl (s.up (sym a.stays ∙ none)))
          (first_same start es look (log_first o) (log_first n) a.first refl s.first_is) (unflushed start es look (log_checkpoint n) refl) a.err_keeps refl (begins_untouched o n a.disk a.first),
    )

pub refusal_of-requires : goal.refusal_of-requires
refusal_of-requires g c place is = c.in-Err.ensures.no_other.1 place (ap Err is)

pub returns-in-Err-clause-may : goal.returns-in-Err-clause-may
returns-in-Err-clause-may g c =
    let e = c.enter_log-held.ensures in
    let r = c.leave_looked-in-Err.ensures in
    let wide = c.requires.may.ready.at.wide in
    let same = r.same.0 ∙ e.same.0 in
    call_left (start_of c.args.hall.now) (view c.args.caller.now.pass) (view c.enter_log-held.new.caller.pass) (view c.leave_looked-in-Err.new.caller.pass) c.args.caller.now.number c.leave_looked-in-Err.new.caller.number log_lock c.args.caller.now.session c.leave_looked-in-Err.new.caller.session _
    c.requires.may e.entered.learns (omega arith) r.left refl (ap (λ (z : Session). inner_id z) same) (ap (λ (z : Session). z.levels.open_ids.items) same) (ap (λ (z : Session). z.stage) same) (r.same.1 ∙ e.same.1) r.ready

pub returns-in-Err-clause-went : goal.returns-in-Err-clause-went
returns-in-Err-clause-went g c =
    let e = c.enter_log-held.ensures in
    let wide = c.requires.may.ready.at.wide in
    went_quiet (start_of c.args.hall.now) (view c.args.caller.now.pass) (view c.enter_log-held.new.caller.pass) (view c.leave_looked-in-Err.new.caller.pass) c.args.caller.now.number log_lock c.args.caller.now.session _ c.requires.may.ready.at e.entered.kept e.entered.learns (omega arith) refl refl refl c.leave_looked-in-Err.ensures.left

-- what came of the record
pub returns-in-Ok-clause-takes : goal.returns-in-Ok-clause-takes
returns-in-Ok-clause-takes g c = c.leave_with_abort.ensures.session ∙ ap (λ (z : Session). record z { stage = stages.Aborting }) c.enter_log-held.ensures.same.0

pub returns-then-not-may_append-clause-takes : goal.returns-then-not-may_append-clause-takes
returns-then-not-may_append-clause-takes g c =
    let e = c.enter_log-held.ensures in
    let wide = c.requires.may.ready.at.wide in
    let long = e.entered.learns.long in
    let log = c.deref_mut-log.result.now in (
      c.leave_looked.ensures.same.0 ∙ e.same.0,
      λ lawful base. false≢true (sym c.if-not-may_append.true ∙ c.may_append.ensures.1 (may_follow (start_of c.args.hall.now) log (view c.enter_log-held.new.caller.pass) (view c.leave_looked.new.caller.pass) c.args.rec.now _ (subst (λ l. IsLogOf (start_of c.args.hall.now) l (at (view c.enter_log-held.new.caller.pass).seen log_lock)) (sym c.deref_mut-log.ensures.value) c.enter_log-held.ensures.stands)
          (subst (λ (z : Rec). IsTrue (number_fits (log_next log) z)) (sym c.requires.record.is) refl) (omega arith) refl c.leave_looked.ensures.left lawful base)),
    )

pub returns-in-Err-clause-takes : goal.returns-in-Err-clause-takes
returns-in-Err-clause-takes g c =
    let e = c.enter_log-held.ensures in
    let wide = c.requires.may.ready.at.wide in
    let long = e.entered.learns.long in
    let start = start_of c.args.hall.now in (
      c.leave_looked-in-Err.ensures.same.0 ∙ e.same.0,
      append_refused start (view c.leave_looked-in-Err.new.caller.pass).seen c.in-Err.refusal c.refusal_of.result c.refusal_of.ensures
          (λ is. c.in-Err.ensures.no_other.0 (ap Err is))
          (λ down is. down_left start (view c.enter_log-held.new.caller.pass) (view c.leave_looked-in-Err.new.caller.pass) _ down (omega arith) c.leave_looked-in-Err.ensures.left ((subst (λ l. IsLogOf (start_of c.args.hall.now) l (at (view c.enter_log-held.new.caller.pass).seen log_lock)) (sym c.deref_mut-log.ensures.value) c.enter_log-held.ensures.stands).failed down (c.in-Err.ensures.down down (ap Err is))).0)
          (λ why. up_left start (view c.enter_log-held.new.caller.pass) (view c.leave_looked-in-Err.new.caller.pass) _ (omega arith) c.leave_looked-in-Err.ensures.left refl
          ((subst (λ l. IsLogOf (start_of c.args.hall.now) l (at (view c.enter_log-held.new.caller.pass).seen log_lock)) (sym c.deref_mut-log.ensures.value) c.enter_log-held.ensures.stands).up (not_down (log_down c.deref_mut-log.result.now) (λ n is. log_refused c.in-Err.refusal n (same_err (c.in-Err.ensures.is_down n is)) why)))),
    )

-- the critical section
pub returns-then-not-may_append-clause-section : goal.returns-then-not-may_append-clause-section
returns-then-not-may_append-clause-section g c =
    let e = c.enter_log-held.ensures in
    let t = c.enter_log-held.new.caller in
    let s = c.args.caller.now.session in
    let n = c.args.caller.now.number in
    section_of (start_of c.args.hall.now) (view c.args.caller.now.pass) (view t.pass) (view c.leave_looked.new.caller.pass) log_lock (look_by t.number t.session) (look_by n s) e.entered (ap look_of (same_command n t.number s t.session e.same.1 e.same.0)) c.leave_looked.ensures.left

pub returns-in-Ok-clause-section : goal.returns-in-Ok-clause-section
returns-in-Ok-clause-section g c =
    let e = c.enter_log-held.ensures in
    let t = c.enter_log-held.new.caller in
    let s = c.args.caller.now.session in
    let n = c.args.caller.now.number in
    section_of (start_of c.args.hall.now) (view c.args.caller.now.pass) (view t.pass) (view c.leave_with_abort.new.caller.pass) log_lock _ (record { by = by_at n s.levels.commands; kind = kinds.Append c.args.rec.now }) e.entered
    (ap (λ (b : By). record { by = b; kind = kinds.Append c.args.rec.now }) (same_command n t.number s t.session e.same.1 e.same.0)) c.leave_with_abort.ensures.left

pub returns-in-Err-clause-section : goal.returns-in-Err-clause-section
returns-in-Err-clause-section g c =
    let e = c.enter_log-held.ensures in
    let t = c.enter_log-held.new.caller in
    let s = c.args.caller.now.session in
    let n = c.args.caller.now.number in
    section_of (start_of c.args.hall.now) (view c.args.caller.now.pass) (view t.pass) (view c.leave_looked-in-Err.new.caller.pass) log_lock (look_by t.number t.session) (look_by n s) e.entered (ap look_of (same_command n t.number s t.session e.same.1 e.same.0)) c.leave_looked-in-Err.ensures.left

pub leave_with_abort-requires-clause-up : goal.leave_with_abort-requires-clause-up
leave_with_abort-requires-clause-up g c = (subst (λ l. IsLogOf (start_of c.args.hall.now) l (at (view c.enter_log-held.new.caller.pass).seen log_lock)) (sym c.deref_mut-log.ensures.value) c.enter_log-held.ensures.stands).up (not_down (log_down c.deref_mut-log.result.now) (λ n is. let refused = c.in-Ok.ensures.is_down n is in cc))

pub leave_with_abort-requires-clause-unrecorded : goal.leave_with_abort-requires-clause-unrecorded
leave_with_abort-requires-clause-unrecorded g c = ap (λ (z : Session). may_be_recorded z.stage) c.enter_log-held.ensures.same.0 ∙ c.requires.unrecorded

pub leave_with_abort-requires-clause-unaborted : goal.leave_with_abort-requires-clause-unaborted
leave_with_abort-requires-clause-unaborted g c = ap (λ (z : Session). may_be_aborted z.stage) c.enter_log-held.ensures.same.0 ∙ c.requires.unaborted

pub returns-in-Ok-clause-numbered : goal.returns-in-Ok-clause-numbered
returns-in-Ok-clause-numbered g c =
    let start = start_of c.args.hall.now in
    let e = c.enter_log-held.ensures in
    let u = c.enter_log-held.new.caller in
    let w = c.leave_with_abort.new.caller in
    let s = c.args.caller.now.session in
    let n = c.args.caller.now.number in
    let wide = c.requires.may.ready.at.wide in
    let long = e.entered.learns.long in
    let next = subst (λ l. IsLogOf start l (at (view u.pass).seen log_lock)) (sym c.deref_mut-log.ensures.value) e.stands in
    subst (λ (b : By). StandsUnder start (view w.pass).seen b c.args.rec.now c.in-Ok.number) (same_command n u.number s u.session e.same.1 e.same.0)
    (stands_under start (view u.pass) (view w.pass) c.in-Ok.number (by_at u.number u.session.levels.commands) c.args.rec.now (omega arith) (c.in-Ok.ensures.number ∙ next.next_is) c.leave_with_abort.ensures.left)
