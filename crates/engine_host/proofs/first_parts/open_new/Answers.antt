use Rattle.std.proofs.Common.{[], IsTrue, ap, refl, rules, subst, sym, true, ◌+◌, ◌∙◌, ◌≤◌}
use Rattle.wal_core.specs.LogViews.{log_disk, log_end}
use Rattle.tx_core.specs.declared.entry.Start.{Start}
use Rattle.tx_events.proofs.Membership.{contains_has}
use Rattle.engine_parts.specs.Sessions.{AreGivenBefore}
use Rattle.engine_host.specs.Opening.{IsEmptyLog, ShowBeginning, life_from, nothing_before}
use Rattle.engine_host.specs.Refused.{IsRefusal}
use Rattle.engine_host.proofs.Counting.{all_counted}
use Rattle.engine_host.proofs.Multis.{zeros_show_members, zeros_show_offsets}
use Rattle.engine_host.proofs.Refusing.{from_bank, from_begin, room_left}
use Rattle.engine_host.proofs.Starting.{zeros_show}
use Rattle.engine_host.proofs.first_parts.open_new.Goals as goal

-- the log behind the box is the one that was handed in
pub begin_log-requires-clause-new : goal.begin_log-requires-clause-new
begin_log-requires-clause-new g c =
    subst (λ l. IsEmptyLog l) (sym (c.deref_mut-fresh.ensures.value ∙ c.in-Ok.ensures.ok)) c.requires.new

-- all pages are removed
pub add_banks-requires : goal.add_banks-requires
add_banks-requires g c =
    let p = g.P.PageDisk in let l = c.in-Ok-first_locks.ensures in
    let cluster = c.requires.cluster in
    let volumes = c.requires.volumes in
    let count = l.count in
    let disks = l.disks in
    let room = l.room in
    let stand = l.stand in
    let shown : IsTrue p.tells → ShowBeginning p c.args.cluster nothing_before true 0 c.args.volumes = λ told. record {
      states = λ bank disk at. zeros_show c.args.cluster nothing_before (0 + bank) c.requires.cluster.base refl;
      parents = λ bank disk at q small. refl;
      offsets = λ bank disk at. zeros_show_offsets c.args.cluster nothing_before refl (0 + bank) refl;
      members = λ bank disk at. zeros_show_members c.args.cluster nothing_before refl (0 + bank);
      durable = λ kept. absurd cc;
    } in
    search (rules, cluster, volumes, count, disks, room, stand, shown)

pub taken_apart-requires : goal.taken_apart-requires
taken_apart-requires g c =
    let e = c.add_banks.ensures in
    record { room = room_left c.args.cluster.banks c.args.volumes c.add_banks.new.volumes c.add_banks.new.locks.items c.requires.volumes e.capacity e.back }

pub taken_apart-requires-in-Err-begin_log : goal.taken_apart-requires-in-Err-begin_log
taken_apart-requires-in-Err-begin_log g c =
    let e = c.add_banks.ensures in
    record { room = room_left c.args.cluster.banks c.args.volumes c.add_banks.new.volumes c.add_banks.new.locks.items c.requires.volumes e.capacity e.back }

pub gather-requires : goal.gather-requires
gather-requires g c =
    let l = c.in-Ok-first_locks.ensures in let added = c.in_default.ensures in
    let cluster = c.requires.cluster in
    let before : AreGivenBefore (life_from c.args.cluster nothing_before []) = λ x k. absurd (contains_has [] x k) in
    let log = c.in_default-begin_log.ensures.begun in
    let count = added.count in
    let room = l.room in
    let same_room = added.room in
    let stand = added.stand in
    search (rules, cluster, before, log, count, room, same_room, stand)

pub returns-in-Err-add_banks-clause-refused : goal.returns-in-Err-add_banks-clause-refused
returns-in-Err-add_banks-clause-refused g c =
    let k = c.in-Err-add_banks.ensures.refused in
    from_bank c.args.cluster c.args.log c.args.volumes c.taken_apart.result k.0 c.add_banks.new.locks.items c.add_banks.new.volumes c.in-Err-add_banks.refusal k.1 k.2 c.taken_apart.ensures.volumes

pub returns-in-Err-begin_log-clause-refused : goal.returns-in-Err-begin_log-clause-refused
returns-in-Err-begin_log-clause-refused g c =
    let p = g.P.PageDisk in let v = c.args.volumes in let back = c.taken_apart-in-Err-begin_log.result in let refusal = c.in-Err-begin_log.refusal in
    let same = c.deref_mut-fresh.ensures.value ∙ c.in-Ok.ensures.ok in
    subst (λ l. IsRefusal p c.args.cluster l v back refusal) same
    (from_begin p c.args.cluster c.deref_mut-fresh.result.now c.begin_log.new.log v back refusal c.taken_apart-in-Err-begin_log.ensures.log c.in-Err-begin_log.ensures.refused)

pub returns-clause-counted : goal.returns-clause-counted
returns-clause-counted g c =
    let disk = g.L.LogDisk in
    let parts = c.gather.ensures in
    let v = c.args.volumes in
    let same = c.deref_mut-fresh.ensures.value ∙ c.in-Ok.ensures.ok in
    let up : disk.faults (log_disk c.args.log) ≤ disk.faults (log_disk c.begin_log.new.log) =
    subst (λ l. disk.faults (log_disk l) ≤ disk.faults (log_disk c.begin_log.new.log)) same c.begin_log.ensures.count in
    all_counted disk g.P.PageDisk c.args.cluster.banks (log_disk c.args.log) c.begin_log.new.log v c.add_banks.new.locks.items c.gather.result.start.value.faults
    up c.requires.volumes c.in_default.ensures.counted
    (ap (λ (s : Start). s.faults) parts.start ∙ parts.faults)

pub returns-clause-end : goal.returns-clause-end
returns-clause-end g c =
    let parts = c.gather.ensures in
    let same = c.deref_mut-fresh.ensures.value ∙ c.in-Ok.ensures.ok in
    ap (λ (s : Start). s.gate) parts.start ∙ (parts.end ∙ (c.in_default-begin_log.ensures.end ∙ ap (λ l. log_end l + 62) same))
