use Rattle.std.proofs.Common.{ℕ, subst, sym}
use Rattle.tx_events.specs.LifeBase.{committed_in}
use Rattle.slru_bank.specs.Calls.{volume_of}
use Rattle.slru_bank.specs.Crash.{CrashLeaves}
use Rattle.replay_core.specs.Redo.{IsNamed}
use Rattle.replay_core.specs.Restore.{HasBytesOnDisk, MayRestore, RestoresAll, bytes_on}
use Rattle.replay_core.proofs.OnDisk.{durable_on, moments_on, shows_on, untouched}
use Rattle.replay_core.proofs.restore.restore_present.Goals as goal

pub returns-in-Err-clause-moments : goal.returns-in-Err-clause-moments
returns-in-Err-clause-moments g c told =
    untouched (IsNamed c.args.share.now c.args.base.now.oldest (committed_in c.args.recs.now)) c.args.base.now.next g.P.PageDisk c.args.disk c.in-Err.disk c.in-Err.ensures.err told (λ x left. g.met.P.PageDisk.only_now c.args.disk x told left)

pub returns-in-Ok-restore_bank-clause-shows : goal.returns-in-Ok-restore_bank-clause-shows
returns-in-Ok-restore_bank-clause-shows g c told =
    let d = g.P.PageDisk in let A : ℕ → Type 0 = IsNamed c.args.share.now c.args.base.now.oldest (committed_in c.args.recs.now) in
    subst (λ z. RestoresAll A c.args.base.now.next (bytes_on d c.args.disk) (bytes_on d z)) (sym c.keep.ensures)
    (shows_on A c.args.base.now.next c.args.disk c.in-Ok.bank c.restore_bank.new.bank c.in-Ok.ensures.disk c.in-Ok.ensures.map c.in-Ok-restore_bank.ensures told (g.met.P.PageDisk.reads_image (volume_of c.restore_bank.new.bank) told))

pub returns-in-Ok-restore_bank-clause-durable : goal.returns-in-Ok-restore_bank-clause-durable
returns-in-Ok-restore_bank-clause-durable g c told =
    let d = g.P.PageDisk in let A : ℕ → Type 0 = IsNamed c.args.share.now c.args.base.now.oldest (committed_in c.args.recs.now) in
    subst (λ z. HasBytesOnDisk d z) (sym c.keep.ensures)
    (durable_on A c.args.base.now.next c.args.disk c.in-Ok.bank c.restore_bank.new.bank c.in-Ok.ensures.disk c.in-Ok.ensures.map c.in-Ok-restore_bank.ensures told (g.met.P.PageDisk.reads_image (volume_of c.restore_bank.new.bank) told))

pub returns-in-Ok-restore_bank-clause-moments : goal.returns-in-Ok-restore_bank-clause-moments
returns-in-Ok-restore_bank-clause-moments g c told =
    let d = g.P.PageDisk in let A : ℕ → Type 0 = IsNamed c.args.share.now c.args.base.now.oldest (committed_in c.args.recs.now) in
    subst (λ z. CrashLeaves (MayRestore A c.args.base.now.next (bytes_on d c.args.disk)) d.images d.moment d.left_at c.args.disk z) (sym c.keep.ensures)
    (moments_on A c.args.base.now.next c.args.disk c.in-Ok.bank c.restore_bank.new.bank c.in-Ok.ensures.disk c.in-Ok.ensures.map c.restore_bank.result c.restore_bank.ensures told)

pub returns-in-Err-restore_bank-clause-moments : goal.returns-in-Err-restore_bank-clause-moments
returns-in-Err-restore_bank-clause-moments g c told =
    let d = g.P.PageDisk in let A : ℕ → Type 0 = IsNamed c.args.share.now c.args.base.now.oldest (committed_in c.args.recs.now) in
    subst (λ z. CrashLeaves (MayRestore A c.args.base.now.next (bytes_on d c.args.disk)) d.images d.moment d.left_at c.args.disk z) (sym c.keep-in-Err-restore_bank.ensures)
    (moments_on A c.args.base.now.next c.args.disk c.in-Ok.bank c.restore_bank.new.bank c.in-Ok.ensures.disk c.in-Ok.ensures.map c.restore_bank.result c.restore_bank.ensures told)
