use Rattle.std.proofs.Common.{Err, Ok, arith, length, rules, subst, ◌≡◌}
use Rattle.tx_events.specs.declared.refusal.Lock.TheVariants as locks
use Rattle.replay_core.specs.Banks.{ChangesAt, Restoring, members_become, members_leave}
use Rattle.replay_core.proofs.BankRows.{all_restored, restore_failed, restoring}
use Rattle.replay_core.proofs.StoreRows.{same_members}
use Rattle.replay_core.proofs.Rows.{progress_more}
use Rattle.replay_core.proofs.banks.restore_all_members.Goals as goal

pub returns-in_err-restore_members_at : goal.returns-in_err-restore_members_at
returns-in_err-restore_members_at g c =
    let p = g.P.PageDisk in let old = c.args.volumes.now.items in let mid = c.loop-bank.volumes.items in let new = c.restore_members_at.new.volumes.items in let recs = c.args.recs.now in let arg = c.args.span.now in let n = c.loop-bank.bank in
    let long : c.len-banks.result ≡ length c.args.volumes.now.items = omega (arith, c.len-banks.ensures) in
    let step = subst (λ z. ChangesAt (Restoring p (locks.Members n) (members_leave z recs arg n) (members_become z recs arg n) (Err c.in_err-restore_members_at.field-0.0)) n mid new) long c.in_err-restore_members_at.ensures in
    let all = restore_failed p (λ bank. locks.Members bank) (members_leave (length old) recs arg) (members_become (length old) recs arg) old n mid new c.in_err-restore_members_at.field-0.0 (same_members (length old) recs arg) (λ d x told left. g.met.P.PageDisk.only_now d x told left) c.loop-bank.invariant.progress step in
    search (rules, all)

pub loop-bank-preserved : goal.loop-bank-preserved
loop-bank-preserved g c =
    let p = g.P.PageDisk in let old = c.args.volumes.now.items in let mid = c.loop-bank.volumes.items in let new = c.restore_members_at.new.volumes.items in let recs = c.args.recs.now in let arg = c.args.span.now in let n = c.loop-bank.bank in
    let long : c.len-banks.result ≡ length c.args.volumes.now.items = omega (arith, c.len-banks.ensures) in
    let step = subst (λ z. ChangesAt (Restoring p (locks.Members n) (members_leave z recs arg n) (members_become z recs arg n) (Ok (tt {0}))) n mid new) long c.in_ok-restore_members_at.ensures in
    record { progress = progress_more (restoring p (λ bank. locks.Members bank) (members_leave (length old) recs arg) (members_become (length old) recs arg) old) old n mid new c.loop-bank.invariant.progress step }

pub returns : goal.returns
returns g c =
    let p = g.P.PageDisk in let old = c.args.volumes.now.items in let recs = c.args.recs.now in let arg = c.args.span.now in
    all_restored p (λ bank. locks.Members bank) (members_leave (length old) recs arg) (members_become (length old) recs arg) old c.loop-bank.bank c.loop-bank.volumes.items c.loop-bank.invariant.progress (omega (arith, c.len-banks.ensures, c.loop-bank.auto.bank-end))
