use Rattle.std.proofs.Common.{◌<◌, ◌∙◌, List, Err, Ok, arith, length, sym, subst}
use Rattle.hall.specs.Calls.{start_of, view}
use Rattle.notes.specs.Lists.{at}
use Rattle.tx_events.specs.declared.record.Counters.{Counters}
use Rattle.tx_events.specs.declared.record.Rec.TheVariants as records
use Rattle.life_law.specs.LifeLog.{counters_behind}
use Rattle.tx_core.specs.declared.entry.Entry.{Entry}
use Rattle.tx_core.specs.EngineInvariant.{EngineInvariant}
use Rattle.tx_core.specs.Entries.{history}
use Rattle.tx_core.specs.MultiEntries.{multi_history}
use Rattle.tx_core.specs.Laws.{StaysBase}
use Rattle.tx_core.specs.Locks.{log_lock}
use Rattle.tx_core.specs.RecordsFollow.{CheckpointOf}
use Rattle.tx_core.specs.SyncsBeforeForgets.{MayForget}
use Rattle.wal_records.specs.Spelling.{AreCounters}
use Rattle.engine_parts.specs.Stand.{EndsInCheckpoint}
use Rattle.host_sections.specs.HostEntries.{AddsCheckpoint, HaveForms, next_number}
use Rattle.host_calls.proofs.Counting.{now_follows, now_lawful, now_stays}
use Rattle.host_calls.proofs.Forgetting.{may_forget}
use Rattle.host_calls.proofs.Stages.{appended_first, flushed, flushed_first, followed, forgotten}
use Rattle.host_calls.proofs.Wrote.{append_refused, ends, flush_refused, forgot, marked, put_down}
use Rattle.host_calls.proofs.writing.write_checkpoint.Goals as goal

pub append_checkpoint-requires-clause-lawful : goal.append_checkpoint-requires-clause-lawful
append_checkpoint-requires-clause-lawful g c =
    let start = start_of c.args.hall.now in
    let r = c.read_counters-counters.ensures in
    let kept = subst (EngineInvariant start) r.stays.seen r.kept in
    subst AreCounters (sym (c.in-Ok.ensures ∙ c.read_counters-counters.ensures.counters)) (now_lawful start (view c.args.pass.now).seen kept c.requires.lawful (subst HaveForms c.read_counters-counters.ensures.counters r.forms))

pub append_checkpoint-requires-clause-base : goal.append_checkpoint-requires-clause-base
append_checkpoint-requires-clause-base g c =
    let start = start_of c.args.hall.now in
    let old = (view c.args.pass.now).seen in
    let r = c.read_counters-counters.ensures in
    let kept = subst (EngineInvariant start) r.stays.seen r.kept in
    let n = next_number start old in
    let here : StaysBase start old (records.Checkpoint n (counters_behind start.base (history old) (multi_history old))) = now_stays start old kept c.requires.lawful n (subst HaveForms c.read_counters-counters.ensures.counters r.forms) in
    subst (λ (z : List (List Entry) × Counters). StaysBase start z.0 (records.Checkpoint (next_number start z.0) z.1)) (λ j. (sym r.stays.seen j, sym (c.in-Ok.ensures ∙ c.read_counters-counters.ensures.counters) j)) here

pub append_checkpoint-requires-clause-follows : goal.append_checkpoint-requires-clause-follows
append_checkpoint-requires-clause-follows g c =
    let start = start_of c.args.hall.now in
    let old = (view c.args.pass.now).seen in
    let r = c.read_counters-counters.ensures in
    let kept = subst (EngineInvariant start) r.stays.seen r.kept in
    subst (λ (z : List (List Entry) × Counters). CheckpointOf start z.0 (at z.0 log_lock) (next_number start z.0) z.1) (λ j. (sym r.stays.seen j, sym (c.in-Ok.ensures ∙ c.read_counters-counters.ensures.counters) j))
    (now_follows start old kept c.requires.lawful)

pub forget_log-requires-clause-ends : goal.forget_log-requires-clause-ends
forget_log-requires-clause-ends g c =
    let start = start_of c.args.hall.now in
    let by = c.args.by in
    let old = (view c.args.pass.now).seen in
    let r = c.read_counters-counters.ensures in
    let wide = c.requires.alone.own.wide in
    let inside : log_lock < length old = omega (arith, wide, c.requires.alone.laid) in
    let counters = c.in-Ok.shared in
    let mid = (view c.append_checkpoint.new.pass).seen in
    let appended : AddsCheckpoint start by counters old mid (Ok c.in-Ok-append_checkpoint.number) = subst (λ (z : List (List Entry)). AddsCheckpoint start by counters z mid (Ok c.in-Ok-append_checkpoint.number)) r.stays.seen c.in-Ok-append_checkpoint.ensures.adds in
    let mark = marked start by old inside counters c.in-Ok-append_checkpoint.number mid (c.in-Ok.ensures ∙ c.read_counters-counters.ensures.counters) appended in
    let late = (view c.flush_records.new.pass).seen in
    let flushed = put_down start by old inside mid mark late (tt {0}) c.in-Ok-flush_records.ensures.adds in
    subst (EndsInCheckpoint start (at late log_lock)) (sym appended.0) (ends start by old inside late flushed c.flush_records.ensures.kept c.requires.flushed)

pub forget_log-requires-clause-may : goal.forget_log-requires-clause-may
forget_log-requires-clause-may g c =
    let start = start_of c.args.hall.now in
    let by = c.args.by in
    let old = (view c.args.pass.now).seen in
    let r = c.read_counters-counters.ensures in
    let wide = c.requires.alone.own.wide in
    let inside : log_lock < length old = omega (arith, wide, c.requires.alone.laid) in
    let counters = c.in-Ok.shared in
    let mid = (view c.append_checkpoint.new.pass).seen in
    let appended : AddsCheckpoint start by counters old mid (Ok c.in-Ok-append_checkpoint.number) = subst (λ (z : List (List Entry)). AddsCheckpoint start by counters z mid (Ok c.in-Ok-append_checkpoint.number)) r.stays.seen c.in-Ok-append_checkpoint.ensures.adds in
    let mark = marked start by old inside counters c.in-Ok-append_checkpoint.number mid (c.in-Ok.ensures ∙ c.read_counters-counters.ensures.counters) appended in
    let late = (view c.flush_records.new.pass).seen in
    let flushed = put_down start by old inside mid mark late (tt {0}) c.in-Ok-flush_records.ensures.adds in
    subst (MayForget start late (at late log_lock)) (sym appended.0) (may_forget start by old late c.flush_records.ensures.kept flushed c.requires.synced c.requires.made)

pub returns-in-Ok-flush_records-clause-adds : goal.returns-in-Ok-flush_records-clause-adds
returns-in-Ok-flush_records-clause-adds g c =
    let start = start_of c.args.hall.now in
    let by = c.args.by in
    let old = (view c.args.pass.now).seen in
    let r = c.read_counters-counters.ensures in
    let wide = c.requires.alone.own.wide in
    let inside : log_lock < length old = omega (arith, wide, c.requires.alone.laid) in
    let counters = c.in-Ok.shared in
    let mid = (view c.append_checkpoint.new.pass).seen in
    let appended : AddsCheckpoint start by counters old mid (Ok c.in-Ok-append_checkpoint.number) = subst (λ (z : List (List Entry)). AddsCheckpoint start by counters z mid (Ok c.in-Ok-append_checkpoint.number)) r.stays.seen c.in-Ok-append_checkpoint.ensures.adds in
    let mark = marked start by old inside counters c.in-Ok-append_checkpoint.number mid (c.in-Ok.ensures ∙ c.read_counters-counters.ensures.counters) appended in
    let late = (view c.flush_records.new.pass).seen in
    let flushed = put_down start by old inside mid mark late (tt {0}) c.in-Ok-flush_records.ensures.adds in
    forgot start by old inside late flushed c.in-Ok-append_checkpoint.number (view c.forget_log.new.pass).seen c.forget_log.result appended.0 c.requires.up c.forget_log.ensures.adds

-- its flush failed
pub returns-in-Err-flush_records-clause-adds : goal.returns-in-Err-flush_records-clause-adds
returns-in-Err-flush_records-clause-adds g c =
    let start = start_of c.args.hall.now in
    let by = c.args.by in
    let old = (view c.args.pass.now).seen in
    let r = c.read_counters-counters.ensures in
    let wide = c.requires.alone.own.wide in
    let inside : log_lock < length old = omega (arith, wide, c.requires.alone.laid) in
    let counters = c.in-Ok.shared in
    let mid = (view c.append_checkpoint.new.pass).seen in
    let appended : AddsCheckpoint start by counters old mid (Ok c.in-Ok-append_checkpoint.number) = subst (λ (z : List (List Entry)). AddsCheckpoint start by counters z mid (Ok c.in-Ok-append_checkpoint.number)) r.stays.seen c.in-Ok-append_checkpoint.ensures.adds in
    let mark = marked start by old inside counters c.in-Ok-append_checkpoint.number mid (c.in-Ok.ensures ∙ c.read_counters-counters.ensures.counters) appended in
    flush_refused start by old inside mid mark (Unit {0}) (view c.flush_records.new.pass).seen c.in-Err-flush_records.refusal c.requires.up c.in-Err-flush_records.ensures.adds

-- nothing was appended
pub returns-in-Err-clause-adds : goal.returns-in-Err-clause-adds
returns-in-Err-clause-adds g c =
    let start = start_of c.args.hall.now in
    let by = c.args.by in
    let old = (view c.args.pass.now).seen in
    let r = c.read_counters-counters.ensures in
    let wide = c.requires.alone.own.wide in
    let inside : log_lock < length old = omega (arith, wide, c.requires.alone.laid) in
    let counters = c.in-Ok.shared in
    let mid = (view c.append_checkpoint.new.pass).seen in
    append_refused start by old inside (Unit {0}) counters mid c.in-Err.refusal (c.in-Ok.ensures ∙ c.read_counters-counters.ensures.counters) c.requires.up
    (subst (λ (z : List (List Entry)). AddsCheckpoint start by counters z mid (Err c.in-Err.refusal)) r.stays.seen c.in-Err.ensures.adds)

-- each section is a stage
pub returns-in-Ok-flush_records-clause-stages : goal.returns-in-Ok-flush_records-clause-stages
returns-in-Ok-flush_records-clause-stages g c =
    let start = start_of c.args.hall.now in
    let by = c.args.by in
    let old = (view c.args.pass.now).seen in
    let read = (view c.read_counters-counters.new.pass).seen in
    let mid = (view c.append_checkpoint.new.pass).seen in
    let late = (view c.flush_records.new.pass).seen in
    let last = (view c.forget_log.new.pass).seen in
    let a = c.append_checkpoint.ensures in
    let f = c.flush_records.ensures in
    let w = c.forget_log.ensures in
    followed start old mid last (appended_first start by c.in-Ok.shared old read mid c.append_checkpoint.result c.read_counters-counters.ensures.stays.seen a.asks a.adds a.kept)
    (flushed_first start by mid late last c.flush_records.result f.asks f.adds f.kept (forgotten start by c.in-Ok-append_checkpoint.number late last c.forget_log.result w.asks w.adds w.kept))

pub returns-in-Err-flush_records-clause-stages : goal.returns-in-Err-flush_records-clause-stages
returns-in-Err-flush_records-clause-stages g c =
    let start = start_of c.args.hall.now in
    let by = c.args.by in
    let old = (view c.args.pass.now).seen in
    let read = (view c.read_counters-counters.new.pass).seen in
    let mid = (view c.append_checkpoint.new.pass).seen in
    let late = (view c.flush_records.new.pass).seen in
    let a = c.append_checkpoint.ensures in
    let f = c.flush_records.ensures in
    followed start old mid late (appended_first start by c.in-Ok.shared old read mid c.append_checkpoint.result c.read_counters-counters.ensures.stays.seen a.asks a.adds a.kept)
    (flushed start by mid late c.flush_records.result f.asks f.adds f.kept)

pub returns-in-Err-clause-stages : goal.returns-in-Err-clause-stages
returns-in-Err-clause-stages g c =
    let a = c.append_checkpoint.ensures in
    appended_first (start_of c.args.hall.now) c.args.by c.in-Ok.shared (view c.args.pass.now).seen (view c.read_counters-counters.new.pass).seen (view c.append_checkpoint.new.pass).seen c.append_checkpoint.result
    c.read_counters-counters.ensures.stays.seen a.asks a.adds a.kept
