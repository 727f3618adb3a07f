-- A lock table is opened over a new log.
use Rattle.std.proofs.Common.{refl, arith}
use Rattle.disk_core.specs.declared.log_disk.LogDisk as logs
use Rattle.tx_events.specs.Base.{IsBase, first_base}
use Rattle.wal_core.specs.declared.wal_log.WalLog.{WalLog}
use Rattle.replay_core.specs.Opened.{IsFoundNew}
use Rattle.engine_host.specs.Opening.{IsEmptyLog}
use Rattle.engine_host.specs.Stores.{Store, of_xact, of_subtrans, of_offsets, of_members}

pub base_is : IsBase first_base
unfolding first_base
base_is = record {
  full = omega arith;
  full_oldest = omega arith;
  oldest = omega arith;
  next = omega arith;
  oldest_multi = omega arith;
  multi = omega arith;
  oldest_offset = omega arith;
  offset = omega arith;
  none = λ e. refl;
}

pub each_store : (Q : Store → Type 0) → Q of_xact → Q of_subtrans → Q of_offsets → Q of_members → (k : Store) → Q k
each_store Q a b c d of_xact = a
each_store Q a b c d of_subtrans = b
each_store Q a b c d of_offsets = c
each_store Q a b c d of_members = d

pub empty_log : {D : Type 0} {g : logs.Ghosts D} (disk : D) (log : WalLog D g) → IsFoundNew disk log → IsEmptyLog log
empty_log disk log found = record {
  recs = found.recs;
  next = found.next;
  first = found.first;
  flushed = found.flushed;
  down = found.up;
  counters = found.counters;
  keeps = found.keeps;
}
