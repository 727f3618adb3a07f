use Rattle.wal_records.proofs.Kept.{kept_after, kept_then}
use Rattle.wal_records.proofs.writing.put_ids.Goals as goal

pub returns-in_err-put_u64-clause-kept : goal.returns-in_err-put_u64-clause-kept
returns-in_err-put_u64-clause-kept c =
    let old = c.args.out.now.items in
    let now = c.loop-id.out.items in
    kept_then old now c.put_u64.new.out.items (kept_after old now _ c.loop-id.invariant) c.put_u64.ensures.kept
