use Rattle.std.specs.Ordering.{nat_cmp}
use Rattle.std.specs.BTreeMap as tree
use Rattle.std.specs.BTreeMap.{btree_map_len}
use Rattle.disk_core.specs.MemPages.{HaveSame}
use Rattle.disk_core.proofs.mem_pages.put_all_back.Given as goal

abbrev pub invariant-loop-page : goal.invariant-loop-page
invariant-loop-page l = HaveSame (λ q. tree.get nat_cmp l.initial.before q) (λ q. tree.get nat_cmp l.initial.now q) (λ q. tree.get nat_cmp l.before q) (λ q. tree.get nat_cmp l.now q)

abbrev pub decreases-loop-page : goal.decreases-loop-page
decreases-loop-page l = btree_map_len l.before
