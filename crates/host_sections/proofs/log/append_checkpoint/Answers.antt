use Rattle.std.proofs.Common.{Err, Option, Some, ◌≡◌, ◌+◌, ℕ, arith, ap, ◌∙◌, subst, sym, refl, ◌++◌, ◌∷◌, []}
use Rattle.hall.specs.Calls.{start_of, view}
use Rattle.hall.specs.declared.view.Stage.TheVariants.{Inside}
use Rattle.notes.specs.Lists.{add, at}
use Rattle.tx_events.specs.After.{after_record}
use Rattle.tx_events.specs.declared.record.Counters.{Counters}
use Rattle.tx_events.specs.declared.record.Rec.{Rec}
use Rattle.tx_events.specs.declared.record.Rec.TheVariants as records
use Rattle.tx_core.specs.declared.entry.Entry.{Entry}
use Rattle.tx_core.specs.declared.entry.Kind.TheVariants as kinds
use Rattle.tx_core.specs.EngineInvariant.{EngineInvariant}
use Rattle.tx_core.specs.Entries.{session_of}
use Rattle.tx_core.specs.Laws.{StaysBase}
use Rattle.tx_core.specs.Locks.{log_lock}
use Rattle.tx_core.specs.RecordsFollow.{CheckpointOf}
use Rattle.tx_core.specs.StaysDown.{IsUp}
use Rattle.tx_core.proofs.Quiet.{hosts_keep}
use Rattle.wal_core.specs.Log.{counters_or_none}
use Rattle.wal_core.specs.LogViews.{log_checkpoint, log_counters, log_disk, log_down, log_first, log_flushed, log_next, log_recs}
use Rattle.engine_parts.specs.declared.part.Part.TheVariants as parts
use Rattle.engine_parts.specs.LogTail.{LacksRoom, LogTail, log_tail}
use Rattle.engine_parts.proofs.Tails.{appended_tail, took_room}
use Rattle.engine_parts.specs.Holds.{Knowledge, Leaves}
use Rattle.engine_parts.specs.Law.{MayKeep}
use Rattle.engine_parts.specs.Parts.{IsLogOf}
use Rattle.engine_parts.proofs.Logging.{appends, begins_untouched}
use Rattle.host_sections.specs.Asked.{LogMoments}
use Rattle.host_sections.specs.HostEntries.{append_by, checkpoint_by, next_number}
use Rattle.host_sections.proofs.Asking.{append_moments, asks_with, asks_without}
use Rattle.host_sections.proofs.Aloneness.{came_out, may_add, went_out}
use Rattle.host_sections.proofs.LogSteps.{log_untouched, may_append}
use Rattle.host_sections.proofs.Refusals.{append_refused, not_down, same_err}
use Rattle.host_sections.proofs.log.append_checkpoint.Goals as goal

pub append-requires : goal.append-requires
append-requires g c =
    let start = start_of c.args.hall.now in
    let old = (view c.args.pass.now).seen in
    let s = subst (λ l. IsLogOf start l (at old log_lock)) (sym c.deref_mut-log.ensures.value) c.take_log-held.ensures.stands in
    let next : c.next.result ≡ next_number start old = c.next.ensures ∙ s.next_is in
    let o = c.deref_mut-log.result.now in
    may_append start o o (at old log_lock) c.args.by s c.next.result c.args.counters c.next.ensures (omega arith) c.requires.lawful (subst (λ n. StaysBase start old (records.Checkpoint n c.args.counters)) (sym next) c.requires.base)

pub leave-requires-clause-inside : goal.leave-requires-clause-inside
leave-requires-clause-inside g c = let i = c.take_log-held.ensures.inside in i.inside ∙ ap Inside (sym i.cell)

pub leave-requires-clause-cell : goal.leave-requires-clause-cell
leave-requires-clause-cell g c = let cell = c.take_log-held.ensures.inside.cell in let laid = c.requires.alone.laid in omega (arith, cell, laid)

pub leave-requires-clause-session : goal.leave-requires-clause-session
leave-requires-clause-session g c =
    let a = c.requires.alone in
    ap session_of c.append_note-mark.ensures ∙ (c.requires.turn.known ∙ (sym a.name ∙ sym c.take_log-held.ensures.inside.name))

pub leave-requires-clause-may : goal.leave-requires-clause-may
leave-requires-clause-may g c =
    let start = start_of c.args.hall.now in
    let i = c.take_log-held.ensures.inside in
    let old = (view c.args.pass.now).seen in
    let seen = (view c.take_log-held.new.pass).seen in
    let s = subst (λ l. IsLogOf start l (at old log_lock)) (sym c.deref_mut-log.ensures.value) c.take_log-held.ensures.stands in
    let number : next_number start old ≡ c.in-Ok.number = sym (c.in-Ok.ensures.number ∙ s.next_is) in
    let base = subst (λ z. StaysBase start z (records.Checkpoint c.in-Ok.number c.args.counters)) (sym i.seen) (subst (λ n. StaysBase start old (records.Checkpoint n c.args.counters)) number c.requires.base) in
    let follows = subst (λ z. CheckpointOf start z (at z log_lock) c.in-Ok.number c.args.counters) (sym i.seen) (subst (λ n. CheckpointOf start old (at old log_lock) n c.args.counters) number c.requires.follows) in
    let same : c.next.result ≡ c.in-Ok.number = c.next.ensures ∙ sym c.in-Ok.ensures.number in
    let told : c.append_note-mark.result.value ≡ checkpoint_by c.args.by c.in-Ok.number c.args.counters = c.append_note-mark.ensures ∙ (λ j. checkpoint_by c.args.by (same j) c.args.counters) in
    let up = subst (λ z. IsUp (at z log_lock)) (sym i.seen) (s.up (not_down (log_down c.deref_mut-log.result.now) (λ m put. let refused = c.in-Ok.ensures.is_down m put in cc))) in
    subst (λ z. MayKeep start seen z c.append_note-mark.result.value) (sym i.cell)
    (may_add start seen log_lock c.args.by (kinds.Append (records.Checkpoint c.in-Ok.number c.args.counters)) c.append_note-mark.result.value told
    ((hosts_keep start seen c.args.by).checkpoint c.in-Ok.number c.args.counters base follows up)
    c.requires.turn)

pub leave-requires-clause-stands : goal.leave-requires-clause-stands
leave-requires-clause-stands g c =
    let start = start_of c.args.hall.now in
    let d = g.L.LogDisk in
    let i = c.take_log-held.ensures.inside in
    let old = (view c.args.pass.now).seen in
    let seen = (view c.take_log-held.new.pass).seen in
    let s = subst (λ l. IsLogOf start l (at old log_lock)) (sym c.deref_mut-log.ensures.value) c.take_log-held.ensures.stands in
    let here = subst (λ z. IsLogOf start c.deref_mut-log.result.now (at z log_lock)) (sym i.seen) s in
    let o = c.deref_mut-log.result.now in
    let n = c.append.new.self in
    let a = c.in-Ok.ensures in
    let es = at seen log_lock in
    let rec : Rec = records.Checkpoint c.next.result c.args.counters in
    subst (λ (z : ℕ). (z ≡ log_lock) × IsLogOf start n (at seen z ++ c.append_note-mark.result.value ∷ [])) (sym i.cell) (
      refl,
      subst (λ (e : Entry). IsLogOf start n (es ++ e ∷ [])) (sym c.append_note-mark.ensures)
          (appends start d.tells (d.faults (log_disk o)) (d.faults (log_disk n)) (d.images (log_disk o)) (d.images (log_disk n)) (log_recs o) (log_recs n) (log_next o) (log_next n) (log_first o) (log_first n) (log_flushed o) (log_flushed n) (log_counters o) (log_counters n) (log_down o) (log_down n) (log_checkpoint o) (log_checkpoint n) (log_tail o) (log_tail n) es c.args.by here rec
          (appended_tail o n rec a.pending a.end) (took_room (log_down o) (log_tail o) rec c.in-Ok.number a.is_down a.is_full)
          a.recs a.next a.flushed (a.counters ∙ ap (λ (l : Option Counters). Some (after_record (counters_or_none l) rec)) here.counters_are) a.stays (ap d.faults a.disk) a.first a.keeps (begins_untouched o n a.disk a.first)),
    )

pub returns-in-Ok-clause-alone : goal.returns-in-Ok-clause-alone
returns-in-Ok-clause-alone g c =
    let a = c.requires.alone in
    let i = c.take_log-held.ensures.inside in
    let wide = a.own.wide in
    let laid = a.laid in
    (went_out c.args.hall.now log_lock c.args.pass.now c.take_log-held.new.pass c.leave.new.pass a i c.leave.ensures.own c.append_note-mark.result.value
    (subst (λ z. Leaves (start_of c.args.hall.now) z c.append_note-mark.result.value (view c.take_log-held.new.pass) (view c.leave.new.pass)) i.cell c.leave.ensures.left)).alone

pub returns-in-Ok-clause-holds : goal.returns-in-Ok-clause-holds
returns-in-Ok-clause-holds g c = c.leave.ensures.left.holds ∙ c.take_log-held.ensures.inside.holds

pub returns-in-Ok-clause-adds : goal.returns-in-Ok-clause-adds
returns-in-Ok-clause-adds g c =
    let start = start_of c.args.hall.now in
    let i = c.take_log-held.ensures.inside in
    let old = (view c.args.pass.now).seen in
    let s = subst (λ l. IsLogOf start l (at old log_lock)) (sym c.deref_mut-log.ensures.value) c.take_log-held.ensures.stands in
    let same : c.next.result ≡ c.in-Ok.number = c.next.ensures ∙ sym c.in-Ok.ensures.number in
    let told : c.append_note-mark.result.value ≡ checkpoint_by c.args.by c.in-Ok.number c.args.counters = c.append_note-mark.ensures ∙ (λ j. checkpoint_by c.args.by (same j) c.args.counters) in
    (c.in-Ok.ensures.number ∙ s.next_is, c.leave.ensures.left.seen ∙ (λ j. add (i.seen j) (i.cell j) (told j)))

-- nothing was appended
pub put_back-requires-clause-inside : goal.put_back-requires-clause-inside
put_back-requires-clause-inside g c = let i = c.take_log-held.ensures.inside in i.inside ∙ ap Inside (sym i.cell)

pub put_back-requires-clause-stands : goal.put_back-requires-clause-stands
put_back-requires-clause-stands g c =
    let start = start_of c.args.hall.now in
    let i = c.take_log-held.ensures.inside in
    let seen = (view c.take_log-held.new.pass).seen in
    let s = subst (λ l. IsLogOf start l (at (view c.args.pass.now).seen log_lock)) (sym c.deref_mut-log.ensures.value) c.take_log-held.ensures.stands in
    let here = subst (λ z. IsLogOf start c.deref_mut-log.result.now (at z log_lock)) (sym i.seen) s in
    let o = c.deref_mut-log.result.now in
    let n = c.append.new.self in
    let a = c.in-Err.ensures in
    subst (λ (z : ℕ). (z ≡ log_lock) × IsLogOf start n (at seen z)) (sym i.cell)
    (refl, log_untouched start o n (at seen log_lock) a.disk a.err_recs.0 a.err_counters.1 a.first a.flushed a.err_counters.0 a.stays a.checkpoint a.end here)

pub returns-clause-alone : goal.returns-clause-alone
returns-clause-alone g c =
    (came_out c.args.hall.now log_lock c.args.pass.now c.take_log-held.new.pass c.put_back.new.pass c.requires.alone c.take_log-held.ensures.inside c.put_back.ensures.own.0 c.put_back.ensures.view).alone

pub returns-clause-holds : goal.returns-clause-holds
returns-clause-holds g c =
    (came_out c.args.hall.now log_lock c.args.pass.now c.take_log-held.new.pass c.put_back.new.pass c.requires.alone c.take_log-held.ensures.inside c.put_back.ensures.own.0 c.put_back.ensures.view).holds

pub returns-clause-adds : goal.returns-clause-adds
returns-clause-adds g c =
    let start = start_of c.args.hall.now in
    let old = (view c.args.pass.now).seen in
    let s = subst (λ l. IsLogOf start l (at old log_lock)) (sym c.deref_mut-log.ensures.value) c.take_log-held.ensures.stands in
    let a = c.in-Err.ensures in
    let out = came_out c.args.hall.now log_lock c.args.pass.now c.take_log-held.new.pass c.put_back.new.pass c.requires.alone c.take_log-held.ensures.inside c.put_back.ensures.own.0 c.put_back.ensures.view in
    append_refused start c.args.by c.args.counters old (view c.put_back.new.pass).seen c.in-Err.refusal out.seen
    (λ place q. (s.failed place (a.down place (ap Err q))).0)
    (λ other. s.up (not_down (log_down c.deref_mut-log.result.now) (λ m put. other m (same_err (a.is_down m put)))))
    (λ q. a.no_other.0 (ap Err q)) (λ place q. a.no_other.1 place (ap Err q))
    (λ q. subst (λ (z : LogTail × Rec). LacksRoom z.0 z.1) (λ j. (s.tail_is j, records.Checkpoint ((c.next.ensures ∙ s.next_is) j) c.args.counters)) (a.full (ap Err q)))

pub returns-clause-kept : goal.returns-clause-kept
returns-clause-kept g c = subst (EngineInvariant (start_of c.args.hall.now)) (sym (ap (λ (z : Knowledge). z.seen) c.put_back.ensures.view)) c.take_log-held.ensures.inside.kept

-- the volume wasn't asked
pub returns-in-Ok-clause-asks : goal.returns-in-Ok-clause-asks
returns-in-Ok-clause-asks g c =
    let start = start_of c.args.hall.now in
    let d = g.L.LogDisk in
    let i = c.take_log-held.ensures.inside in
    let old = (view c.args.pass.now).seen in
    let held = c.take_log-held.result in
    let o = c.deref_mut-log.result.now in
    let n = c.append.new.self in
    let wide = c.requires.alone.own.wide in
    let s = subst (λ l. IsLogOf start l (at old log_lock)) (sym c.deref_mut-log.ensures.value) c.take_log-held.ensures.stands in
    let a = c.in-Ok.ensures in
    let es = at old log_lock in
    let rec : Rec = records.Checkpoint c.next.result c.args.counters in
    asks_with g.L.LogDisk g.P.PageDisk start log_lock old (view c.leave.new.pass).seen (omega (arith, wide, c.requires.alone.laid)) (parts.Log held) (parts.Log (record held { value = n }))
    (refl, c.take_log-held.ensures.stands) (subst (λ z. LogMoments z n) c.deref_mut-log.ensures.value (append_moments o n (λ told e x now. g.met.L.LogDisk.only_now e x told now) a.disk a.first))
    (append_by c.args.by rec) (
      refl,
      appends start d.tells (d.faults (log_disk o)) (d.faults (log_disk n)) (d.images (log_disk o)) (d.images (log_disk n)) (log_recs o) (log_recs n) (log_next o) (log_next n) (log_first o) (log_first n) (log_flushed o) (log_flushed n) (log_counters o) (log_counters n) (log_down o) (log_down n) (log_checkpoint o) (log_checkpoint n) (log_tail o) (log_tail n) es c.args.by s rec
          (appended_tail o n rec a.pending a.end) (took_room (log_down o) (log_tail o) rec c.in-Ok.number a.is_down a.is_full)
          a.recs a.next a.flushed (a.counters ∙ ap (λ (l : Option Counters). Some (after_record (counters_or_none l) rec)) s.counters_are) a.stays (ap d.faults a.disk) a.first a.keeps (begins_untouched o n a.disk a.first),
    )
    (c.leave.ensures.left.seen ∙ (λ j. add (i.seen j) (i.cell j) (c.append_note-mark.ensures j)))

pub returns-clause-asks : goal.returns-clause-asks
returns-clause-asks g c =
    let start = start_of c.args.hall.now in
    let d = g.L.LogDisk in
    let i = c.take_log-held.ensures.inside in
    let old = (view c.args.pass.now).seen in
    let held = c.take_log-held.result in
    let o = c.deref_mut-log.result.now in
    let n = c.append.new.self in
    let wide = c.requires.alone.own.wide in
    let s = subst (λ l. IsLogOf start l (at old log_lock)) (sym c.deref_mut-log.ensures.value) c.take_log-held.ensures.stands in
    let a = c.in-Err.ensures in
    let out = came_out c.args.hall.now log_lock c.args.pass.now c.take_log-held.new.pass c.put_back.new.pass c.requires.alone c.take_log-held.ensures.inside c.put_back.ensures.own.0 c.put_back.ensures.view in
    asks_without g.L.LogDisk g.P.PageDisk start log_lock old (view c.put_back.new.pass).seen (omega (arith, wide, c.requires.alone.laid)) (parts.Log held) (parts.Log (record held { value = n }))
    (refl, c.take_log-held.ensures.stands) (subst (λ z. LogMoments z n) c.deref_mut-log.ensures.value (append_moments o n (λ told e x now. g.met.L.LogDisk.only_now e x told now) a.disk a.first))
    (refl, log_untouched start o n (at old log_lock) a.disk a.err_recs.0 a.err_counters.1 a.first a.flushed a.err_counters.0 a.stays a.checkpoint a.end s)
    out.seen
