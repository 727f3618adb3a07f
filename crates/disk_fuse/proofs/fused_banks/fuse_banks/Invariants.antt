use Rattle.std.proofs.Common.{◌≡◌, ◌≤◌, ◌+◌, ◌++◌, length, vec_len, vec_capacity}
use Rattle.std.specs.Prelude.{reverse}
use Rattle.disk_fuse.specs.FuseMedia.{fused_banks}
use Rattle.disk_fuse.proofs.fused_banks.fuse_banks.Given as goal

abbrev pub invariant-loop-inner : goal.invariant-loop-inner
invariant-loop-inner g l = record {
  wrapped : fused_banks l.at l.fails l.refused 0 l.fn.banks.items ≡ fused_banks l.at l.fails l.refused 0 l.banks.items ++ reverse l.into.items;
  room : length l.banks.items + vec_len l.into ≤ vec_capacity l.into;
}

abbrev pub decreases-loop-inner : goal.decreases-loop-inner
decreases-loop-inner g l = vec_len l.banks
