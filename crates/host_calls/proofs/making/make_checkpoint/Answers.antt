use Rattle.std.proofs.Common.{◌<◌, ◌+◌, ◌*◌, arith, length, subst}
use Rattle.hall.specs.Calls.{start_of, view}
use Rattle.tx_core.specs.Locks.{log_lock}
use Rattle.host_sections.specs.HostEntries.{flush_by, next_number}
use Rattle.host_calls.specs.Added.{AddsSyncs}
use Rattle.host_calls.proofs.Adding.{adds_one}
use Rattle.host_calls.proofs.Forgetting.{all_made, all_synced, made_behind, none_waits}
use Rattle.host_calls.proofs.Outcomes.{done_told, done_whole, flush_told, flushed_late, sync_told, up_late, was_up, write_told}
use Rattle.host_calls.proofs.Stages.{flushed, flushed_first, followed}
use Rattle.host_calls.proofs.making.make_checkpoint.Goals as goal

pub write_checkpoint-requires-clause-up : goal.write_checkpoint-requires-clause-up
write_checkpoint-requires-clause-up g c =
    let start = start_of c.args.hall.now in
    let by = c.args.by in
    let his = c.requires.turn.known in
    let old = (view c.args.pass.now).seen in
    let wide = c.requires.alone.own.wide in
    let inside : log_lock < length old = omega (arith, wide, c.requires.alone.laid) in
    let mid = (view c.flush_records.new.pass).seen in
    let kept = c.flush_records.ensures.kept in
    let f = adds_one log_lock (flush_by by (next_number start old)) old mid inside c.in-Ok.ensures.adds in
    let late = (view c.sync_all.new.pass).seen in
    let s = subst (λ b. AddsSyncs by 3 (3 + 4 * b) mid late) c.requires.banks c.in-Ok-sync_all.ensures.adds in
    up_late start by old his inside mid kept f late s

pub write_checkpoint-requires-clause-flushed : goal.write_checkpoint-requires-clause-flushed
write_checkpoint-requires-clause-flushed g c =
    let start = start_of c.args.hall.now in
    let by = c.args.by in
    let his = c.requires.turn.known in
    let old = (view c.args.pass.now).seen in
    let wide = c.requires.alone.own.wide in
    let inside : log_lock < length old = omega (arith, wide, c.requires.alone.laid) in
    let mid = (view c.flush_records.new.pass).seen in
    let kept = c.flush_records.ensures.kept in
    let f = adds_one log_lock (flush_by by (next_number start old)) old mid inside c.in-Ok.ensures.adds in
    let late = (view c.sync_all.new.pass).seen in
    let s = subst (λ b. AddsSyncs by 3 (3 + 4 * b) mid late) c.requires.banks c.in-Ok-sync_all.ensures.adds in
    flushed_late start by old his inside mid kept f late s

pub write_checkpoint-requires-clause-synced : goal.write_checkpoint-requires-clause-synced
write_checkpoint-requires-clause-synced g c =
    let start = start_of c.args.hall.now in
    let by = c.args.by in
    let his = c.requires.turn.known in
    let old = (view c.args.pass.now).seen in
    let wide = c.requires.alone.own.wide in
    let inside : log_lock < length old = omega (arith, wide, c.requires.alone.laid) in
    let mid = (view c.flush_records.new.pass).seen in
    let kept = c.flush_records.ensures.kept in
    let f = adds_one log_lock (flush_by by (next_number start old)) old mid inside c.in-Ok.ensures.adds in
    let late = (view c.sync_all.new.pass).seen in
    let s = subst (λ b. AddsSyncs by 3 (3 + 4 * b) mid late) c.requires.banks c.in-Ok-sync_all.ensures.adds in
    all_synced start by mid late kept (none_waits start by old mid (next_number start old) f c.requires.none) (all_made start by old mid (next_number start old) his kept f c.requires.made) s

pub returns-in-Ok-write_checkpoint-clause-went : goal.returns-in-Ok-write_checkpoint-clause-went
returns-in-Ok-write_checkpoint-clause-went g c =
    let start = start_of c.args.hall.now in
    let by = c.args.by in
    let his = c.requires.turn.known in
    let old = (view c.args.pass.now).seen in
    let wide = c.requires.alone.own.wide in
    let inside : log_lock < length old = omega (arith, wide, c.requires.alone.laid) in
    let mid = (view c.flush_records.new.pass).seen in
    let kept = c.flush_records.ensures.kept in
    let f = adds_one log_lock (flush_by by (next_number start old)) old mid inside c.in-Ok.ensures.adds in
    let late = (view c.sync_all.new.pass).seen in
    let s = subst (λ b. AddsSyncs by 3 (3 + 4 * b) mid late) c.requires.banks c.in-Ok-sync_all.ensures.adds in
    done_told start by old his inside mid kept f late s (view c.write_checkpoint.new.pass).seen (tt {0}) c.in-Ok-write_checkpoint.ensures.adds

pub returns-in-Ok-write_checkpoint-clause-whole : goal.returns-in-Ok-write_checkpoint-clause-whole
returns-in-Ok-write_checkpoint-clause-whole g c q =
    let start = start_of c.args.hall.now in
    let by = c.args.by in
    let his = c.requires.turn.known in
    let old = (view c.args.pass.now).seen in
    let wide = c.requires.alone.own.wide in
    let inside : log_lock < length old = omega (arith, wide, c.requires.alone.laid) in
    let mid = (view c.flush_records.new.pass).seen in
    let kept = c.flush_records.ensures.kept in
    let f = adds_one log_lock (flush_by by (next_number start old)) old mid inside c.in-Ok.ensures.adds in
    let late = (view c.sync_all.new.pass).seen in
    let s = subst (λ b. AddsSyncs by 3 (3 + 4 * b) mid late) c.requires.banks c.in-Ok-sync_all.ensures.adds in
    done_whole start by old his inside mid kept f late s (view c.write_checkpoint.new.pass).seen (tt {0}) c.requires.turn.no_command c.in-Ok-write_checkpoint.ensures.adds

pub returns-in-Ok-write_checkpoint-clause-up : goal.returns-in-Ok-write_checkpoint-clause-up
returns-in-Ok-write_checkpoint-clause-up g c =
    let start = start_of c.args.hall.now in
    let by = c.args.by in
    let his = c.requires.turn.known in
    let old = (view c.args.pass.now).seen in
    let wide = c.requires.alone.own.wide in
    let inside : log_lock < length old = omega (arith, wide, c.requires.alone.laid) in
    let mid = (view c.flush_records.new.pass).seen in
    let kept = c.flush_records.ensures.kept in
    let f = adds_one log_lock (flush_by by (next_number start old)) old mid inside c.in-Ok.ensures.adds in
    let late = (view c.sync_all.new.pass).seen in
    was_up start by old his inside mid kept f

pub returns-in-Err-write_checkpoint-clause-went : goal.returns-in-Err-write_checkpoint-clause-went
returns-in-Err-write_checkpoint-clause-went g c =
    let start = start_of c.args.hall.now in
    let by = c.args.by in
    let his = c.requires.turn.known in
    let old = (view c.args.pass.now).seen in
    let wide = c.requires.alone.own.wide in
    let inside : log_lock < length old = omega (arith, wide, c.requires.alone.laid) in
    let mid = (view c.flush_records.new.pass).seen in
    let kept = c.flush_records.ensures.kept in
    let f = adds_one log_lock (flush_by by (next_number start old)) old mid inside c.in-Ok.ensures.adds in
    let late = (view c.sync_all.new.pass).seen in
    let s = subst (λ b. AddsSyncs by 3 (3 + 4 * b) mid late) c.requires.banks c.in-Ok-sync_all.ensures.adds in
    (write_told start by old his inside mid kept f late s (Unit {0}) (view c.write_checkpoint.new.pass).seen c.in-Err-write_checkpoint.refusal c.refusal_of.result c.requires.turn.no_command c.in-Err-write_checkpoint.ensures.adds c.refusal_of.ensures).went

pub returns-in-Err-write_checkpoint-clause-fault : goal.returns-in-Err-write_checkpoint-clause-fault
returns-in-Err-write_checkpoint-clause-fault g c =
    let start = start_of c.args.hall.now in
    let by = c.args.by in
    let his = c.requires.turn.known in
    let old = (view c.args.pass.now).seen in
    let wide = c.requires.alone.own.wide in
    let inside : log_lock < length old = omega (arith, wide, c.requires.alone.laid) in
    let mid = (view c.flush_records.new.pass).seen in
    let kept = c.flush_records.ensures.kept in
    let f = adds_one log_lock (flush_by by (next_number start old)) old mid inside c.in-Ok.ensures.adds in
    let late = (view c.sync_all.new.pass).seen in
    let s = subst (λ b. AddsSyncs by 3 (3 + 4 * b) mid late) c.requires.banks c.in-Ok-sync_all.ensures.adds in
    (write_told start by old his inside mid kept f late s (Unit {0}) (view c.write_checkpoint.new.pass).seen c.in-Err-write_checkpoint.refusal c.refusal_of.result c.requires.turn.no_command c.in-Err-write_checkpoint.ensures.adds c.refusal_of.ensures).fault

pub returns-in-Err-write_checkpoint-clause-up : goal.returns-in-Err-write_checkpoint-clause-up
returns-in-Err-write_checkpoint-clause-up g c =
    let start = start_of c.args.hall.now in
    let by = c.args.by in
    let his = c.requires.turn.known in
    let old = (view c.args.pass.now).seen in
    let wide = c.requires.alone.own.wide in
    let inside : log_lock < length old = omega (arith, wide, c.requires.alone.laid) in
    let mid = (view c.flush_records.new.pass).seen in
    let kept = c.flush_records.ensures.kept in
    let f = adds_one log_lock (flush_by by (next_number start old)) old mid inside c.in-Ok.ensures.adds in
    let late = (view c.sync_all.new.pass).seen in
    let s = subst (λ b. AddsSyncs by 3 (3 + 4 * b) mid late) c.requires.banks c.in-Ok-sync_all.ensures.adds in
    (write_told start by old his inside mid kept f late s (Unit {0}) (view c.write_checkpoint.new.pass).seen c.in-Err-write_checkpoint.refusal c.refusal_of.result c.requires.turn.no_command c.in-Err-write_checkpoint.ensures.adds c.refusal_of.ensures).up

pub returns-in-Err-write_checkpoint-clause-untouched : goal.returns-in-Err-write_checkpoint-clause-untouched
returns-in-Err-write_checkpoint-clause-untouched g c =
    let start = start_of c.args.hall.now in
    let by = c.args.by in
    let his = c.requires.turn.known in
    let old = (view c.args.pass.now).seen in
    let wide = c.requires.alone.own.wide in
    let inside : log_lock < length old = omega (arith, wide, c.requires.alone.laid) in
    let mid = (view c.flush_records.new.pass).seen in
    let kept = c.flush_records.ensures.kept in
    let f = adds_one log_lock (flush_by by (next_number start old)) old mid inside c.in-Ok.ensures.adds in
    let late = (view c.sync_all.new.pass).seen in
    let s = subst (λ b. AddsSyncs by 3 (3 + 4 * b) mid late) c.requires.banks c.in-Ok-sync_all.ensures.adds in
    (write_told start by old his inside mid kept f late s (Unit {0}) (view c.write_checkpoint.new.pass).seen c.in-Err-write_checkpoint.refusal c.refusal_of.result c.requires.turn.no_command c.in-Err-write_checkpoint.ensures.adds c.refusal_of.ensures).untouched

pub returns-in-Err-sync_all-clause-went : goal.returns-in-Err-sync_all-clause-went
returns-in-Err-sync_all-clause-went g c =
    let start = start_of c.args.hall.now in
    let by = c.args.by in
    let his = c.requires.turn.known in
    let old = (view c.args.pass.now).seen in
    let wide = c.requires.alone.own.wide in
    let inside : log_lock < length old = omega (arith, wide, c.requires.alone.laid) in
    let mid = (view c.flush_records.new.pass).seen in
    let kept = c.flush_records.ensures.kept in
    let f = adds_one log_lock (flush_by by (next_number start old)) old mid inside c.in-Ok.ensures.adds in
    let late = (view c.sync_all.new.pass).seen in
    (sync_told start by old his inside mid kept f late (3 + 4 * c.args.cluster.banks) c.in-Err-sync_all.lock c.in-Err-sync_all.ensures.adds).went

pub returns-in-Err-sync_all-clause-fault : goal.returns-in-Err-sync_all-clause-fault
returns-in-Err-sync_all-clause-fault g c =
    let start = start_of c.args.hall.now in
    let by = c.args.by in
    let his = c.requires.turn.known in
    let old = (view c.args.pass.now).seen in
    let wide = c.requires.alone.own.wide in
    let inside : log_lock < length old = omega (arith, wide, c.requires.alone.laid) in
    let mid = (view c.flush_records.new.pass).seen in
    let kept = c.flush_records.ensures.kept in
    let f = adds_one log_lock (flush_by by (next_number start old)) old mid inside c.in-Ok.ensures.adds in
    let late = (view c.sync_all.new.pass).seen in
    (sync_told start by old his inside mid kept f late (3 + 4 * c.args.cluster.banks) c.in-Err-sync_all.lock c.in-Err-sync_all.ensures.adds).fault

pub returns-in-Err-sync_all-clause-up : goal.returns-in-Err-sync_all-clause-up
returns-in-Err-sync_all-clause-up g c =
    let start = start_of c.args.hall.now in
    let by = c.args.by in
    let his = c.requires.turn.known in
    let old = (view c.args.pass.now).seen in
    let wide = c.requires.alone.own.wide in
    let inside : log_lock < length old = omega (arith, wide, c.requires.alone.laid) in
    let mid = (view c.flush_records.new.pass).seen in
    let kept = c.flush_records.ensures.kept in
    let f = adds_one log_lock (flush_by by (next_number start old)) old mid inside c.in-Ok.ensures.adds in
    let late = (view c.sync_all.new.pass).seen in
    (sync_told start by old his inside mid kept f late (3 + 4 * c.args.cluster.banks) c.in-Err-sync_all.lock c.in-Err-sync_all.ensures.adds).up

pub returns-in-Err-clause-went : goal.returns-in-Err-clause-went
returns-in-Err-clause-went g c =
    let start = start_of c.args.hall.now in
    let by = c.args.by in
    let his = c.requires.turn.known in
    let old = (view c.args.pass.now).seen in
    let wide = c.requires.alone.own.wide in
    let inside : log_lock < length old = omega (arith, wide, c.requires.alone.laid) in
    let mid = (view c.flush_records.new.pass).seen in
    (flush_told start by old his inside (Unit {0}) mid c.in-Err.refusal c.refusal_of-in-Err.result c.flush_records.ensures.kept c.in-Err.ensures.adds c.refusal_of-in-Err.ensures).went

pub returns-in-Err-clause-fault : goal.returns-in-Err-clause-fault
returns-in-Err-clause-fault g c =
    let start = start_of c.args.hall.now in
    let by = c.args.by in
    let his = c.requires.turn.known in
    let old = (view c.args.pass.now).seen in
    let wide = c.requires.alone.own.wide in
    let inside : log_lock < length old = omega (arith, wide, c.requires.alone.laid) in
    let mid = (view c.flush_records.new.pass).seen in
    (flush_told start by old his inside (Unit {0}) mid c.in-Err.refusal c.refusal_of-in-Err.result c.flush_records.ensures.kept c.in-Err.ensures.adds c.refusal_of-in-Err.ensures).fault

pub returns-in-Err-clause-up : goal.returns-in-Err-clause-up
returns-in-Err-clause-up g c =
    let start = start_of c.args.hall.now in
    let by = c.args.by in
    let his = c.requires.turn.known in
    let old = (view c.args.pass.now).seen in
    let wide = c.requires.alone.own.wide in
    let inside : log_lock < length old = omega (arith, wide, c.requires.alone.laid) in
    let mid = (view c.flush_records.new.pass).seen in
    (flush_told start by old his inside (Unit {0}) mid c.in-Err.refusal c.refusal_of-in-Err.result c.flush_records.ensures.kept c.in-Err.ensures.adds c.refusal_of-in-Err.ensures).up

pub returns-in-Err-clause-untouched : goal.returns-in-Err-clause-untouched
returns-in-Err-clause-untouched g c =
    let start = start_of c.args.hall.now in
    let by = c.args.by in
    let his = c.requires.turn.known in
    let old = (view c.args.pass.now).seen in
    let wide = c.requires.alone.own.wide in
    let inside : log_lock < length old = omega (arith, wide, c.requires.alone.laid) in
    let mid = (view c.flush_records.new.pass).seen in
    (flush_told start by old his inside (Unit {0}) mid c.in-Err.refusal c.refusal_of-in-Err.result c.flush_records.ensures.kept c.in-Err.ensures.adds c.refusal_of-in-Err.ensures).untouched

-- none of the steps before it touches a multixact
pub write_checkpoint-requires-clause-made : goal.write_checkpoint-requires-clause-made
write_checkpoint-requires-clause-made g c =
    let start = start_of c.args.hall.now in
    let by = c.args.by in
    let his = c.requires.turn.known in
    let old = (view c.args.pass.now).seen in
    let wide = c.requires.alone.own.wide in
    let inside : log_lock < length old = omega (arith, wide, c.requires.alone.laid) in
    let mid = (view c.flush_records.new.pass).seen in
    let kept = c.flush_records.ensures.kept in
    let f = adds_one log_lock (flush_by by (next_number start old)) old mid inside c.in-Ok.ensures.adds in
    let late = (view c.sync_all.new.pass).seen in
    let s = subst (λ b. AddsSyncs by 3 (3 + 4 * b) mid late) c.requires.banks c.in-Ok-sync_all.ensures.adds in
    made_behind start by mid late his c.sync_all.ensures.kept s (all_made start by old mid (next_number start old) his kept f c.requires.made)

-- each section is a stage
pub returns-in-Ok-write_checkpoint-clause-stages : goal.returns-in-Ok-write_checkpoint-clause-stages
returns-in-Ok-write_checkpoint-clause-stages g c =
    let start = start_of c.args.hall.now in
    let mid = (view c.flush_records.new.pass).seen in
    let last = (view c.write_checkpoint.new.pass).seen in
    let f = c.flush_records.ensures in
    flushed_first start c.args.by (view c.args.pass.now).seen mid last c.flush_records.result f.asks f.adds f.kept
    (followed start mid (view c.sync_all.new.pass).seen last c.sync_all.ensures.stages c.write_checkpoint.ensures.stages)

pub returns-in-Err-write_checkpoint-clause-stages : goal.returns-in-Err-write_checkpoint-clause-stages
returns-in-Err-write_checkpoint-clause-stages g c =
    let start = start_of c.args.hall.now in
    let mid = (view c.flush_records.new.pass).seen in
    let last = (view c.write_checkpoint.new.pass).seen in
    let f = c.flush_records.ensures in
    flushed_first start c.args.by (view c.args.pass.now).seen mid last c.flush_records.result f.asks f.adds f.kept
    (followed start mid (view c.sync_all.new.pass).seen last c.sync_all.ensures.stages c.write_checkpoint.ensures.stages)

pub returns-in-Err-sync_all-clause-stages : goal.returns-in-Err-sync_all-clause-stages
returns-in-Err-sync_all-clause-stages g c =
    let f = c.flush_records.ensures in
    flushed_first (start_of c.args.hall.now) c.args.by (view c.args.pass.now).seen (view c.flush_records.new.pass).seen (view c.sync_all.new.pass).seen c.flush_records.result f.asks f.adds f.kept c.sync_all.ensures.stages

pub returns-in-Err-clause-stages : goal.returns-in-Err-clause-stages
returns-in-Err-clause-stages g c =
    let f = c.flush_records.ensures in
    flushed (start_of c.args.hall.now) c.args.by (view c.args.pass.now).seen (view c.flush_records.new.pass).seen c.flush_records.result f.asks f.adds f.kept

pub returns-in-Err-write_checkpoint-clause-full : goal.returns-in-Err-write_checkpoint-clause-full
returns-in-Err-write_checkpoint-clause-full g c =
    let start = start_of c.args.hall.now in
    let by = c.args.by in
    let his = c.requires.turn.known in
    let old = (view c.args.pass.now).seen in
    let wide = c.requires.alone.own.wide in
    let inside : log_lock < length old = omega (arith, wide, c.requires.alone.laid) in
    let mid = (view c.flush_records.new.pass).seen in
    let kept = c.flush_records.ensures.kept in
    let f = adds_one log_lock (flush_by by (next_number start old)) old mid inside c.in-Ok.ensures.adds in
    let late = (view c.sync_all.new.pass).seen in
    let s = subst (λ b. AddsSyncs by 3 (3 + 4 * b) mid late) c.requires.banks c.in-Ok-sync_all.ensures.adds in
    (write_told start by old his inside mid kept f late s (Unit {0}) (view c.write_checkpoint.new.pass).seen c.in-Err-write_checkpoint.refusal c.refusal_of.result c.requires.turn.no_command c.in-Err-write_checkpoint.ensures.adds c.refusal_of.ensures).full

pub returns-in-Err-sync_all-clause-full : goal.returns-in-Err-sync_all-clause-full
returns-in-Err-sync_all-clause-full g c =
    let start = start_of c.args.hall.now in
    let by = c.args.by in
    let his = c.requires.turn.known in
    let old = (view c.args.pass.now).seen in
    let wide = c.requires.alone.own.wide in
    let inside : log_lock < length old = omega (arith, wide, c.requires.alone.laid) in
    let mid = (view c.flush_records.new.pass).seen in
    let kept = c.flush_records.ensures.kept in
    let f = adds_one log_lock (flush_by by (next_number start old)) old mid inside c.in-Ok.ensures.adds in
    let late = (view c.sync_all.new.pass).seen in
    (sync_told start by old his inside mid kept f late (3 + 4 * c.args.cluster.banks) c.in-Err-sync_all.lock c.in-Err-sync_all.ensures.adds).full

pub returns-in-Err-clause-full : goal.returns-in-Err-clause-full
returns-in-Err-clause-full g c =
    let start = start_of c.args.hall.now in
    let by = c.args.by in
    let his = c.requires.turn.known in
    let old = (view c.args.pass.now).seen in
    let wide = c.requires.alone.own.wide in
    let inside : log_lock < length old = omega (arith, wide, c.requires.alone.laid) in
    let mid = (view c.flush_records.new.pass).seen in
    (flush_told start by old his inside (Unit {0}) mid c.in-Err.refusal c.refusal_of-in-Err.result c.flush_records.ensures.kept c.in-Err.ensures.adds c.refusal_of-in-Err.ensures).full
