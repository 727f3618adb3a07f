use Rattle.std.proofs.Common.{◌≡◌, ◌+◌, ℕ, Option, None, Some, Err, length, refl, sym, ◌∙◌, ap, subst, arith}
use Rattle.std.specs.Prelude.{is_some}
use Rattle.wal_core.specs.declared.batch_records.SoFar.{SoFar}
use Rattle.wal_core.specs.Opening.{History}
use Rattle.wal_core.specs.SoFar.{history_read, history_so_far, counters_so_far}
use Rattle.wal_core.specs.LastBatch.{Batch, last_in}
use Rattle.wal_core.specs.Checkpoint.{IsCheckpointIn}
use Rattle.wal_core.proofs.LastBatches.{counted_before, checkpoint_in}
use Rattle.wal_core.proofs.Scanning.{last_goes_on, last_ends, scanning, at_open, batch_long, scan_batch, scan_bad, scan_cut, scan_end, scan_none}
use Rattle.wal_core.proofs.batch_reader.read_batches.Goals as goal

pub returns-in_default-batch_body-clause-damaged : goal.returns-in_default-batch_body-clause-damaged
returns-in_default-batch_body-clause-damaged c at e =
    let s : ℕ = c.args.start in let l = c.loop-after in let h : Option History = history_so_far l.past in
    let same : l.at ≡ at = cc in
    sym l.invariant.so_far ∙ at_open s l.at h l.rest.now c.in-Some.after.now c.in-Some.ensures.some
    ∙ scan_cut s l.at h c.in-Some.after.now (c.batch_body.ensures.none (ap is_some c.in_default-batch_body.is)) l.invariant.begins ∙ ap (λ (k : ℕ). Err k) same

pub returns-in-Err-Unlawful-clause-damaged : goal.returns-in-Err-Unlawful-clause-damaged
returns-in-Err-Unlawful-clause-damaged c at e =
    let s : ℕ = c.args.start in let l = c.loop-after in let h : Option History = history_so_far l.past in
    let same : l.at ≡ at = cc in
    sym l.invariant.so_far ∙ at_open s l.at h l.rest.now c.in-Some.after.now c.in-Some.ensures.some
    ∙ scan_bad s l.at h c.in-Some.after.now c.in-Some-batch_body.body.now c.batch_body.new.rest.now c.in-Some-batch_body.ensures.some (rw c.in-Err-Unlawful.field-0-is at c.in-Err-Unlawful.ensures)
    ∙ ap (λ (k : ℕ). Err k) same

pub overflow_add-at-in-Some : goal.overflow_add-at-in-Some
overflow_add-at-in-Some c =
    omega (arith, c.loop-after.invariant.sum, ap length c.in-Some.ensures.some, batch_long c.in-Some.after.now c.in-Some-batch_body.body.now c.batch_body.new.rest.now c.in-Some-batch_body.ensures.some, c.requires)

pub loop-after-smaller : goal.loop-after-smaller
loop-after-smaller c =
    omega (arith, ap length c.in-Some.ensures.some, batch_long c.in-Some.after.now c.in-Some-batch_body.body.now c.batch_body.new.rest.now c.in-Some-batch_body.ensures.some)

pub loop-after-preserved : goal.loop-after-preserved
loop-after-preserved c =
    let s : ℕ = c.args.start in let l = c.loop-after in let h : Option History = history_so_far l.past in
    let long = batch_long c.in-Some.after.now c.in-Some-batch_body.body.now c.batch_body.new.rest.now c.in-Some-batch_body.ensures.some in
    record {
      sum = omega (arith, l.invariant.sum, ap length c.in-Some.ensures.some, long);
      so_far = sym (scan_batch s l.at h c.in-Some.after.now (history_read c.in-Ok.more) c.in-Some-batch_body.body.now c.batch_body.new.rest.now (5 + length c.in-Some-batch_body.body.now)
          c.in-Some-batch_body.ensures.some c.in-Ok.ensures refl) ∙ sym (at_open s l.at h l.rest.now c.in-Some.after.now c.in-Some.ensures.some) ∙ l.invariant.so_far;
      begins = λ (no : Some (history_read c.in-Ok.more) ≡ None). absurd cc;
      last = (
        Some (l.at, c.in-Some-batch_body.body.now),
        (
          last_goes_on l.invariant.last.0 l.at l.rest.now c.in-Some.after.now c.in-Some-batch_body.body.now c.batch_body.new.rest.now c.in-Some.ensures.some c.in-Some-batch_body.ensures.some ∙ l.invariant.last.1.0,
          checkpoint_in l.at h c.in-Some-batch_body.body.now (history_read c.in-Ok.more) c.count_so_far-count.result c.checkpoint_behind-checkpoint.result c.in-Ok.ensures c.count_so_far-count.ensures c.checkpoint_behind-checkpoint.ensures,
        ),
      );
    }

pub checkpoint_behind-checkpoint-requires : goal.checkpoint_behind-checkpoint-requires
checkpoint_behind-checkpoint-requires c =
    let l = c.loop-after in
    counted_before l.at (history_so_far l.past) c.in-Some-batch_body.body.now (history_read c.in-Ok.more) c.count_so_far-count.result c.in-Ok.ensures c.count_so_far-count.ensures

pub returns-in-Some-past-clause-last : goal.returns-in-Some-past-clause-last
returns-in-Some-past-clause-last c =
    let l = c.loop-after in let last = l.invariant.last in
    let p : SoFar = c.in-Some-past.past in
    let same : last.0 ≡ last_in c.args.start c.args.bytes.now = sym (last_ends last.0 (length l.rest.now + 1) l.at l.rest.now (c.behind_open.ensures.none (ap is_some c.in_default.is))) ∙ last.1.0 in
    subst (λ (o : Option Batch). IsCheckpointIn o (Some p.counters) l.checkpoint) same (subst (λ (o : Option SoFar). IsCheckpointIn last.0 (counters_so_far (history_so_far o)) l.checkpoint) c.in-Some-past.is last.1.1)

pub returns-in-Some-past-clause-found : goal.returns-in-Some-past-clause-found
returns-in-Some-past-clause-found c =
    let s : ℕ = c.args.start in let l = c.loop-after in
    sym l.invariant.so_far ∙ ap (λ (o : Option SoFar). scanning s (length l.rest.now + 1) l.at (history_so_far o) l.rest.now) c.in-Some-past.is
    ∙ scan_end s (length l.rest.now + 1) l.at (history_read c.in-Some-past.past) l.rest.now (c.behind_open.ensures.none (ap is_some c.in_default.is))

pub returns-in-None-clause-damaged : goal.returns-in-None-clause-damaged
returns-in-None-clause-damaged c at e =
    let s : ℕ = c.args.start in let l = c.loop-after in
    let same : s ≡ at = cc in
    sym l.invariant.so_far ∙ ap (λ (o : Option SoFar). scanning s (length l.rest.now + 1) l.at (history_so_far o) l.rest.now) c.in-None.is
    ∙ scan_none s (length l.rest.now + 1) l.at l.rest.now (c.behind_open.ensures.none (ap is_some c.in_default.is)) ∙ ap (λ (k : ℕ). Err k) same
