use Rattle.std.proofs.Common.{◌≡◌, ◌≤◌, take}
use Rattle.std.specs.List.{count_by}
use Rattle.tx_events.specs.Multis.{is_updater}
use Rattle.multi_store.proofs.members.count_updaters.Given as goal

abbrev pub invariant-loop-member : goal.invariant-loop-member
invariant-loop-member l =
    (l.count ≡ count_by is_updater (take l.member-index l.members)) × (l.count ≤ l.member-index)
