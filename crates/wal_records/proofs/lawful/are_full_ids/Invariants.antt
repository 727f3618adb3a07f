use Rattle.std.proofs.Common.{◌≡◌, drop}
use Rattle.wal_records.specs.Lawful.{all_ids}
use Rattle.wal_records.proofs.lawful.are_full_ids.Given as goal

abbrev pub invariant-loop-member : goal.invariant-loop-member
invariant-loop-member l = all_ids (drop l.member-index l.members) ≡ all_ids l.fn.members
