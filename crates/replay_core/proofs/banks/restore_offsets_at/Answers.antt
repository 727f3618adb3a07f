use Rattle.std.proofs.Common.{Err, Ok, OnOk, ap, subst, ◌∙◌, arith, vec_len}
use Rattle.tx_events.specs.declared.refusal.Lock.TheVariants as locks
use Rattle.replay_core.specs.Restore.{HasBytesOnDisk, bytes_on}
use Rattle.replay_core.specs.Banks.{Restoring, offsets_become, offsets_leave}
use Rattle.replay_core.proofs.BankRows.{bank_cause}
use Rattle.replay_core.proofs.Rows.{changed_at}
use Rattle.replay_core.proofs.banks.restore_offsets_at.Goals as goal

pub returns-in-Ok : goal.returns-in-Ok
returns-in-Ok g c =
    let p = g.P.PageDisk in let disk = c.swap_remove-disk.result in let now = c.restore_offsets-disk.result.0 in
    let arg = c.args.span.now in let recs = c.args.recs.now in let share = c.args.share.now in let e = c.restore_offsets-disk.ensures in
    changed_at (Restoring p (locks.Offsets share.bank) (offsets_leave share.banks recs arg share.bank) (offsets_become share.banks recs arg share.bank) (Ok (tt {0}))) c.args.volumes.now.items c.swap_remove-disk.new.self.items c.put_back.new.volumes.items (vec_len c.args.volumes.now) share.bank disk now
    (omega arith) c.requires.inside c.swap_remove-disk.ensures.value (let less = c.swap_remove-disk.ensures.len in omega arith) c.swap_remove-disk.ensures.by_index c.put_back.ensures.count c.put_back.ensures.swapped
    (record {
      moments = e.moments;
      shows = λ told. subst (λ r. OnOk r (offsets_become share.banks recs arg share.bank (bytes_on p disk) (bytes_on p now))) c.in-Ok.is (e.shows told);
      durable = λ told. subst (λ r. OnOk r (HasBytesOnDisk p now)) c.in-Ok.is (e.durable told);
      cause = tt;
      count = e.count;
    })

pub returns-in-Err : goal.returns-in-Err
returns-in-Err g c =
    let p = g.P.PageDisk in let disk = c.swap_remove-disk.result in let now = c.restore_offsets-disk.result.0 in
    let arg = c.args.span.now in let recs = c.args.recs.now in let share = c.args.share.now in let e = c.restore_offsets-disk.ensures in
    changed_at (Restoring p (locks.Offsets share.bank) (offsets_leave share.banks recs arg share.bank) (offsets_become share.banks recs arg share.bank) (Err c.refusal_at.result)) c.args.volumes.now.items c.swap_remove-disk.new.self.items c.put_back.new.volumes.items (vec_len c.args.volumes.now) share.bank disk now
    (omega arith) c.requires.inside c.swap_remove-disk.ensures.value (let less = c.swap_remove-disk.ensures.len in omega arith) c.swap_remove-disk.ensures.by_index c.put_back.ensures.count c.put_back.ensures.swapped
    (record {
      moments = e.moments;
      shows = λ told. tt;
      durable = λ told. tt;
      cause = bank_cause p (locks.Offsets share.bank) c.in-Err.refusal c.refusal_at.result disk now c.refusal_at.ensures (λ q. e.fault (c.in-Err.is ∙ ap Err q));
      count = e.count;
    })
