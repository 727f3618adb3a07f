use Rattle.std.proofs.Common.{arith}
use Rattle.tx_events.specs.declared.record.Rec.TheVariants as records
use Rattle.wal_records.proofs.Lengths.{length-tree, length-multi, length-checkpoint, length-truncate}
use Rattle.wal_core.specs.Laws.{SizesMatch}
use Rattle.wal_core.proofs.laws.sizes_match.Goals as goal

sizes : SizesMatch
sizes (records.Commit top subs) = omega (arith, length-tree top subs)
sizes (records.Abort top subs) = omega (arith, length-tree top subs)
sizes (records.Multi multi offset members) = omega (arith, length-multi multi offset members)
sizes (records.Checkpoint number counters) = omega (arith, length-checkpoint number counters)
sizes (records.Truncate oldest multi offset) = omega (arith, length-truncate oldest multi offset)

pub returns : goal.returns
returns c = sizes
