use Rattle.std.proofs.Common.{◌≡◌, ◌≤◌, ◌+◌, ◌++◌, length, vec_len, vec_capacity}
use Rattle.std.specs.Prelude.{reverse}
use Rattle.disk_fuse.specs.FuseMedia.{inner_banks, refusals}
use Rattle.disk_fuse.proofs.fused_banks.unfuse_banks.Given as goal

abbrev pub invariant-loop-bank : goal.invariant-loop-bank
invariant-loop-bank g l = record {
  unwrapped : inner_banks l.fn.banks.items ≡ inner_banks l.banks.items ++ reverse l.into.items;
  counted : refusals l.fn.banks.items ≡ refusals l.banks.items ++ reverse l.counts.items;
  room : length l.banks.items + vec_len l.into ≤ vec_capacity l.into;
  room_2 : length l.banks.items + vec_len l.counts ≤ vec_capacity l.counts;
}

abbrev pub decreases-loop-bank : goal.decreases-loop-bank
decreases-loop-bank g l = vec_len l.banks
