use Rattle.std.proofs.Common.{◌≡◌, ℕ}
use Rattle.std.specs.Ordering.{nat_cmp}
use Rattle.std.specs.BTreeMap as tree
use Rattle.std.specs.BTreeMap.{btree_map_len}
use Rattle.disk_core.proofs.Notes.{torn_of}
use Rattle.disk_core.proofs.mem_pages.tear_all.Given as goal

abbrev pub invariant-loop-page : goal.invariant-loop-page
invariant-loop-page l = (q : ℕ) → torn_of (tree.get nat_cmp l.before q) (tree.get nat_cmp l.now q) ≡ torn_of (tree.get nat_cmp l.initial.before q) (tree.get nat_cmp l.initial.now q)

abbrev pub decreases-loop-page : goal.decreases-loop-page
decreases-loop-page l = btree_map_len l.before
