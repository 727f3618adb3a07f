use Rattle.std.proofs.Common.{ap, arith, refl, rules, subst, sym, ◌++◌, ◌∙◌}
use Rattle.tx_core.specs.declared.entry.Start.{Start}
use Rattle.wal_core.specs.LogViews.{log_disk, log_end}
use Rattle.engine_host.specs.Opening.{IsBegunLog}
use Rattle.engine_host.specs.Stores.{volumes_in}
use Rattle.engine_host.proofs.Counting.{all_counted}
use Rattle.engine_host.proofs.Refusing.{none_long, room_left}
use Rattle.engine_host.proofs.begun_parts.open_begun.Goals as goal

-- With a ghost value the clauses of `requires` have no names: they stand in their order behind what is asked of
-- lifetimes.

pub add_banks-requires : goal.add_banks-requires
add_banks-requires g c =
    let l = c.in-Ok-first_locks.ensures in
    let cluster = c.requires.1.1.0 in
    let volumes = c.requires.1.1.1.0 in
    let count = l.count in
    let disks = l.disks in
    let room = l.room in
    let stand = l.stand in
    let shown = c.requires.1.1.1.1.1.1 in
    search (rules, cluster, volumes, count, disks, room, stand, shown)

pub taken_apart-requires : goal.taken_apart-requires
taken_apart-requires g c =
    let e = c.add_banks.ensures in
    record { room = room_left c.args.cluster.banks c.args.volumes c.add_banks.new.volumes c.add_banks.new.locks.items c.requires.1.1.1.0 e.capacity e.back }

pub gather-requires : goal.gather-requires
gather-requires g c =
    let l = c.in-Ok-first_locks.ensures in let added = c.in_default.ensures in
    let cluster = c.requires.1.1.0 in
    let before = c.requires.1.1.1.1.0 in
    let log = subst (λ b. IsBegunLog c.args.cluster g.begins b) (sym c.in-Ok.ensures.ok) c.requires.1.1.1.1.1.0 in
    let count = added.count in
    let room = l.room in
    let same_room = added.room in
    let stand = added.stand in
    search (rules, cluster, before, log, count, room, same_room, stand)

-- memory was wanting for a bank: the volumes of those that have one, and those that are left
pub returns-in-Err-add_banks-clause-kept : goal.returns-in-Err-add_banks-clause-kept
returns-in-Err-add_banks-clause-kept g c =
    let t = c.taken_apart.ensures in (
      t.log ∙ ap log_disk c.in-Ok.ensures.ok,
      λ k. t.volumes k ∙ (c.add_banks.ensures.kept refl k ∙ ap (λ l. l ++ (volumes_in k c.args.volumes).items) (none_long _ (c.in-Ok-first_locks.ensures.disks k))),
    )

pub returns-clause-counted : goal.returns-clause-counted
returns-clause-counted g c =
    let parts = c.gather.ensures in
    all_counted g.L.LogDisk g.P.PageDisk c.args.cluster.banks (log_disk c.args.log) c.in-Ok.log.value c.args.volumes c.add_banks.new.locks.items c.gather.result.start.value.faults
    (let same = ap (λ l. g.L.LogDisk.faults (log_disk l)) c.in-Ok.ensures.ok in omega (arith, same)) c.requires.1.1.1.0 c.in_default.ensures.counted (ap (λ (s : Start). s.faults) parts.start ∙ parts.faults)

pub returns-clause-end : goal.returns-clause-end
returns-clause-end g c =
    let parts = c.gather.ensures in
    ap (λ (s : Start). s.gate) parts.start ∙ (parts.end ∙ ap log_end c.in-Ok.ensures.ok)
