use Rattle.std.specs.Prelude.{ℕ}
use Rattle.std.specs.Ordering.{nat_cmp}
use Rattle.std.specs.BTreeMap as tree
use Rattle.disk_core.specs.MemPagesViews.{pages_now, pages_synced, page_moment}
use Rattle.disk_core.specs.MemPages.{synced_of, AreOutcomes}
use Rattle.disk_core.proofs.Clock.{pages_elapse}
use Rattle.disk_core.proofs.MemPagesCrash.{pages_only, pages_no_more}
use Rattle.disk_core.proofs.Notes.{all_synced}
use Rattle.disk_core.proofs.mem_pages.MemPagesPageDisk.sync.Goals as goal

pub returns-clause-durable : goal.returns-clause-durable
returns-clause-durable c image left =
    let v = pages_now c.args.self.now in let b = (λ (q : ℕ). tree.get nat_cmp c.forget_notes.new.before q) in
    pages_only (λ q. synced_of (b q) (v q)) v image (all_synced b v c.forget_notes.ensures) left

pub returns-clause-crash : goal.returns-clause-crash
returns-clause-crash c image left =
    let d = c.args.self.now in let v = pages_now d in let b = (λ (q : ℕ). tree.get nat_cmp c.forget_notes.new.before q) in
    pages_no_more (pages_synced d) (λ q. synced_of (b q) (v q)) v image (all_synced b v c.forget_notes.ensures) left

pub returns-clause-time : goal.returns-clause-time
returns-clause-time c =
    let d = c.args.self.now in
    pages_elapse d.past.value c.by-past.result.value (page_moment d) (AreOutcomes (λ q. synced_of (tree.get nat_cmp c.forget_notes.new.before q) (pages_now d q)) (pages_now d)) c.by-past.ensures
