use Rattle.std.specs.Ordering.{nat_cmp}
use Rattle.std.specs.BTreeMap as tree
use Rattle.disk_core.specs.MemPagesViews.{pages_now, pages_synced, page_moment}
use Rattle.disk_core.specs.MemPages.{synced_of, AreOutcomes}
use Rattle.disk_core.proofs.Clock.{pages_elapse}
use Rattle.disk_core.proofs.MemPagesCrash.{removed_either, removal_follows_either, outcomes_same}
use Rattle.disk_core.proofs.mem_pages.MemPagesPageDisk.remove.Goals as goal

pub returns-clause-others : goal.returns-clause-others
returns-clause-others c = removed_either c.remove_page-outcome.result c.args.page (pages_now c.args.self.now) (λ q. tree.get nat_cmp c.remove_page-outcome.new.now q) c.remove_page-outcome.ensures.ok c.remove_page-outcome.ensures.err

pub returns-clause-crash : goal.returns-clause-crash
returns-clause-crash c image left =
    let d = c.args.self.now in let n = c.remove_page-outcome.new in let e = c.remove_page-outcome.ensures in
    removal_follows_either c.remove_page-outcome.result c.args.page (pages_synced d) (pages_now d) (λ q. tree.get nat_cmp n.now q) e.ok e.err image
    (outcomes_same (pages_synced d) (λ q. synced_of (tree.get nat_cmp n.before q) (tree.get nat_cmp n.now q)) (λ q. tree.get nat_cmp n.now q) image e.synced left)

pub returns-clause-time : goal.returns-clause-time
returns-clause-time c =
    let d = c.args.self.now in let n = c.remove_page-outcome.new in
    pages_elapse d.past.value c.by-past.result.value (page_moment d) (AreOutcomes (λ q. synced_of (tree.get nat_cmp n.before q) (tree.get nat_cmp n.now q)) (λ q. tree.get nat_cmp n.now q)) c.by-past.ensures
