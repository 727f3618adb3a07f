use Rattle.wal_records.proofs.Kept.{kept_after, kept_then}
use Rattle.wal_records.proofs.writing.put_members.Goals as goal

pub returns-in_err-put_member-clause-kept : goal.returns-in_err-put_member-clause-kept
returns-in_err-put_member-clause-kept c =
    let old = c.args.out.now.items in
    let now = c.loop-member.out.items in
    kept_then old now c.put_member.new.out.items (kept_after old now _ c.loop-member.invariant) c.put_member.ensures.kept
