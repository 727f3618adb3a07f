use Rattle.std.proofs.Common.{List, None, Some, [], ap, inl, inr, sym, ◌+◌, ◌++◌, ◌∙◌, ◌∷◌, ◌≡◌}
use Rattle.tx_events.specs.declared.record.Rec.{Rec}
use Rattle.tx_events.specs.declared.record.Rec.TheVariants as records
use Rattle.wal_core.specs.LogViews.{log_checkpoint, log_counters, log_disk, log_down, log_end, log_first, log_next, log_pending}
use Rattle.replay_core.proofs.Settling.{checkpoint_end, each_kept, first_settled, flushing, forgetting, settles_unmoved}
use Rattle.replay_core.proofs.settle.settle.Goals as goal

pub returns-in-Err-clause-left : goal.returns-in-Err-clause-left
returns-in-Err-clause-left g c told first all k =
    let st = c.in_ok-append_checkpoint.ensures.done in
    let whole : List Rec = all ++ records.Checkpoint (log_next c.args.log.now) c.args.base ∷ [] in
    inr (inl (each_kept first whole c.flush.new.self (log_first c.args.log.now) (log_next c.args.log.now) (c.flush.ensures.first ∙ st.first) (c.in-Err.ensures.err ∙ st.flushed) (c.flush.ensures.keeps told first whole (st.keeps told first all k))))

pub returns-in-Ok-clause-settled : goal.returns-in-Ok-clause-settled
returns-in-Ok-clause-settled g c =
    let st = c.in_ok-append_checkpoint.ensures.done in
    let log1 = c.append_checkpoint.new.log in
    let log2 = c.flush.new.self in
    let log3 = c.forget_before_checkpoint.new.self in
    let number : log_first log3 ≡ log_next c.args.log.now
    = first_settled (log_end log1) (log_next c.args.log.now) (log_first log3) c.args.base (log_pending log1) (log_counters log1) (log_checkpoint log2) c.in_default.ensures.checkpoint st.pending st.counters (c.in-Ok.ensures.first (λ at e. absurd cc)) in
    record {
      base = st.is_base;
      recs = c.in-Ok.ensures.recs ∙ c.flush.ensures.recs ∙ st.recs;
      next = c.in-Ok.ensures.next ∙ c.flush.ensures.next ∙ st.next;
      flushed = c.in-Ok.ensures.flushed ∙ c.in_default.ensures.ok ∙ st.next;
      first = number;
      counters_are = c.in-Ok.ensures.counters ∙ c.flush.ensures.counters ∙ st.counters;
      up = c.in-Ok.ensures.stays (λ e. absurd cc) ∙ c.in_default.ensures.stays (λ e. absurd cc) ∙ st.up;
      keeps = λ told.
          let old = c.requires.keeps told in
          let whole : List Rec = old.1 ++ records.Checkpoint (log_next c.args.log.now) c.args.base ∷ [] in
          (old.0, whole, c.forget_before_checkpoint.ensures.keeps told old.0 whole (c.flush.ensures.keeps told old.0 whole (st.keeps told old.0 old.1 old.2)));
    }

pub returns-in-Ok-clause-kept : goal.returns-in-Ok-clause-kept
returns-in-Ok-clause-kept g c told first all k =
    let st = c.in_ok-append_checkpoint.ensures.done in
    let whole : List Rec = all ++ records.Checkpoint (log_next c.args.log.now) c.args.base ∷ [] in
    c.forget_before_checkpoint.ensures.keeps told first whole (c.flush.ensures.keeps told first whole (st.keeps told first all k))

pub returns-in-Err-forget_before_checkpoint-clause-left : goal.returns-in-Err-forget_before_checkpoint-clause-left
returns-in-Err-forget_before_checkpoint-clause-left g c told first all k =
    let st = c.in_ok-append_checkpoint.ensures.done in
    let e3 = c.in-Err-forget_before_checkpoint.ensures in
    let log1 = c.append_checkpoint.new.log in
    let log2 = c.flush.new.self in
    let log3 = c.forget_before_checkpoint.new.self in
    let whole : List Rec = all ++ records.Checkpoint (log_next c.args.log.now) c.args.base ∷ [] in
    let up : log_down log2 ≡ None = c.in_default.ensures.stays (λ e. absurd cc) ∙ st.up in
    let number : log_first log3 ≡ log_next c.args.log.now
    = first_settled (log_end log1) (log_next c.args.log.now) (log_first log3) c.args.base (log_pending log1) (log_counters log1) (log_checkpoint log2) c.in_default.ensures.checkpoint st.pending st.counters (e3.first (λ at e. let z : None ≡ Some at = sym up ∙ e3.down at e in absurd cc)) in
    inr (inr (each_kept first whole log3 (log_next c.args.log.now) (log_next c.args.log.now + 1) number (e3.flushed ∙ c.in_default.ensures.ok ∙ st.next)
    (c.forget_before_checkpoint.ensures.keeps told first whole (c.flush.ensures.keeps told first whole (st.keeps told first all k)))))

pub returns-in_err-append_checkpoint-clause-moments : goal.returns-in_err-append_checkpoint-clause-moments
returns-in_err-append_checkpoint-clause-moments g c told =
    let old = c.args.log.now in
    settles_unmoved c.args.base old c.append_checkpoint.new.log c.in_err-append_checkpoint.ensures.same_disk c.requires.flushed (λ v left. g.met.D.LogDisk.only_now (log_disk old) v told left)

pub returns-in-Err-clause-moments : goal.returns-in-Err-clause-moments
returns-in-Err-clause-moments g c told first all k =
    let st = c.in_ok-append_checkpoint.ensures.done in
    let old = c.args.log.now in
    let whole : List Rec = all ++ records.Checkpoint (log_next old) c.args.base ∷ [] in
    flushing first all c.args.base old c.append_checkpoint.new.log c.flush.new.self st.same_disk st.first st.flushed (c.flush.ensures.keeps_at_each_moment told first whole (st.keeps told first all k))

pub returns-in-Ok-clause-moments : goal.returns-in-Ok-clause-moments
returns-in-Ok-clause-moments g c told first all k =
    let st = c.in_ok-append_checkpoint.ensures.done in
    let old = c.args.log.now in
    let log1 = c.append_checkpoint.new.log in
    let log2 = c.flush.new.self in
    let log3 = c.forget_before_checkpoint.new.self in
    let whole : List Rec = all ++ records.Checkpoint (log_next old) c.args.base ∷ [] in
    let number : log_first log3 ≡ log_next old
    = first_settled (log_end log1) (log_next old) (log_first log3) c.args.base (log_pending log1) (log_counters log1) (log_checkpoint log2) c.in_default.ensures.checkpoint st.pending st.counters (c.in-Ok.ensures.first (λ at e. absurd cc)) in
    forgetting first all c.args.base old log2 log3 number (c.in_default.ensures.ok ∙ st.next)
    (flushing first all c.args.base old log1 log2 st.same_disk st.first st.flushed (c.flush.ensures.keeps_at_each_moment told first whole (st.keeps told first all k)))
    (c.forget_before_checkpoint.ensures.keeps_at_each_moment told first whole (c.flush.ensures.keeps told first whole (st.keeps told first all k)))

pub returns-in-Err-forget_before_checkpoint-clause-moments : goal.returns-in-Err-forget_before_checkpoint-clause-moments
returns-in-Err-forget_before_checkpoint-clause-moments g c told first all k =
    let st = c.in_ok-append_checkpoint.ensures.done in
    let e3 = c.in-Err-forget_before_checkpoint.ensures in
    let old = c.args.log.now in
    let log1 = c.append_checkpoint.new.log in
    let log2 = c.flush.new.self in
    let log3 = c.forget_before_checkpoint.new.self in
    let whole : List Rec = all ++ records.Checkpoint (log_next old) c.args.base ∷ [] in
    let up : log_down log2 ≡ None = c.in_default.ensures.stays (λ e. absurd cc) ∙ st.up in
    let number : log_first log3 ≡ log_next old
    = first_settled (log_end log1) (log_next old) (log_first log3) c.args.base (log_pending log1) (log_counters log1) (log_checkpoint log2) c.in_default.ensures.checkpoint st.pending st.counters (e3.first (λ at e. let z : None ≡ Some at = sym up ∙ e3.down at e in absurd cc)) in
    forgetting first all c.args.base old log2 log3 number (c.in_default.ensures.ok ∙ st.next)
    (flushing first all c.args.base old log1 log2 st.same_disk st.first st.flushed (c.flush.ensures.keeps_at_each_moment told first whole (st.keeps told first all k)))
    (c.forget_before_checkpoint.ensures.keeps_at_each_moment told first whole (c.flush.ensures.keeps told first whole (st.keeps told first all k)))

pub returns-in-Ok-clause-end : goal.returns-in-Ok-clause-end
returns-in-Ok-clause-end g c =
    let st = c.in_ok-append_checkpoint.ensures.done in
    let log1 = c.append_checkpoint.new.log in
    c.in-Ok.ensures.end ∙ (checkpoint_end log1 (log_end c.flush.new.self) (log_next c.args.log.now) c.args.base st.pending c.in_default.ensures.end ∙ ap (λ n. n + 62) c.append_checkpoint.ensures.end)
