use Rattle.std.proofs.Common.{◌≡◌, ◌⊎◌, ◌+◌, ◌<◌, ◌≤◌, ◌^◌, List, length, false, ap, ◌∙◌, sym, subst}
use Rattle.tx_events.specs.After.{past_ids, ids_of, after_record}
use Rattle.tx_events.specs.declared.multi.Member.{Member}
use Rattle.tx_events.specs.declared.record.Counters.{Counters}
use Rattle.tx_events.specs.declared.record.Rec.{Rec}
use Rattle.tx_events.specs.declared.record.Rec.TheVariants as records
use Rattle.wal_core.specs.BaseTest.{is_base_of}
use Rattle.wal_core.proofs.Counts.{multi_not_base, tree_not_base}
use Rattle.wal_core.proofs.counters.counters_after.Goals as goal

pub returns-in-Multi-clause-none : goal.returns-in-Multi-clause-none
returns-in-Multi-clause-none c none =
    let d = c.args.counters.now in let m = c.in-Multi in
    subst (λ (r : Rec). is_base_of (after_record d r) ≡ false) (sym m.is) (multi_not_base d m.multi m.offset m.members
    (subst (λ (l : List Member). (2 ^ 63 < past_ids d.next (ids_of l)) ⊎ ((2 ^ 63 ≤ m.multi) ⊎ (2 ^ 64 ≤ m.offset + length l))) c.items.ensures (c.after_multi.ensures.none none)))

pub returns-in-Checkpoint-clause-some : goal.returns-in-Checkpoint-clause-some
returns-in-Checkpoint-clause-some c =
    let d = c.args.counters.now in let n = c.in-Checkpoint.number in
    c.after_checkpoint.ensures n ∙ (ap (λ (k : Counters). after_record d (records.Checkpoint n k)) c.get.ensures ∙ ap (after_record d) (sym c.in-Checkpoint.is))

pub returns-in-Commit-clause-none : goal.returns-in-Commit-clause-none
returns-in-Commit-clause-none c none =
    tree_not_base c.args.counters.now c.in-Commit.top c.in-Commit.subs c.items-in-Commit.result.now c.args.rec.now c.in-Commit.is c.items-in-Commit.ensures (c.after_tree.ensures.none none)
