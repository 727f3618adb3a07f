use Rattle.std.proofs.Common.{subst, sym}
use Rattle.slru_bank.specs.Calls.{volume_of}
use Rattle.slru_bank.specs.Crash.{CrashLeaves}
use Rattle.replay_multis.specs.Named.{IsMemberByte}
use Rattle.replay_multis.specs.Restore.{HasBytesOnDisk, IsPastOffset, MayBecome, RestoresAll, bytes_on}
use Rattle.replay_multis.specs.Steps.{MayLeave}
use Rattle.replay_multis.proofs.Restoring.{durable_on, moments_on, shows_on, untouched}
use Rattle.replay_multis.proofs.members.restore_present.Goals as goal

pub returns-in-Err-clause-moments : goal.returns-in-Err-clause-moments
returns-in-Err-clause-moments g c told =
    let s = c.args.span.now in
    untouched (MayBecome (IsMemberByte c.args.share.now s.oldest s.oldest_offset c.args.recs.now) (IsPastOffset s.from) (IsPastOffset s.next)) g.P.PageDisk c.args.disk c.in-Err.disk c.in-Err.ensures.err told (λ x left. g.met.P.PageDisk.only_now c.args.disk x told left)

pub returns-in-Ok-restore_bank-clause-shows : goal.returns-in-Ok-restore_bank-clause-shows
returns-in-Ok-restore_bank-clause-shows g c told =
    let d = g.P.PageDisk in let s = c.args.span.now in let N = IsMemberByte c.args.share.now s.oldest s.oldest_offset c.args.recs.now in
    subst (λ z. RestoresAll N (IsPastOffset s.from) (IsPastOffset s.next) (bytes_on d c.args.disk) (bytes_on d z)) (sym c.keep.ensures)
    (shows_on N (IsPastOffset s.from) (IsPastOffset s.next) c.args.disk c.in-Ok.bank c.restore_bank.new.bank c.in-Ok.ensures.disk c.in-Ok.ensures.map c.in-Ok-restore_bank.ensures told (g.met.P.PageDisk.reads_image (volume_of c.restore_bank.new.bank) told))

pub returns-in-Ok-restore_bank-clause-durable : goal.returns-in-Ok-restore_bank-clause-durable
returns-in-Ok-restore_bank-clause-durable g c told =
    let d = g.P.PageDisk in let s = c.args.span.now in let N = IsMemberByte c.args.share.now s.oldest s.oldest_offset c.args.recs.now in
    subst (λ z. HasBytesOnDisk d z) (sym c.keep.ensures)
    (durable_on N (IsPastOffset s.from) (IsPastOffset s.next) c.args.disk c.in-Ok.bank c.restore_bank.new.bank c.in-Ok.ensures.disk c.in-Ok.ensures.map c.in-Ok-restore_bank.ensures told (g.met.P.PageDisk.reads_image (volume_of c.restore_bank.new.bank) told))

pub returns-in-Ok-restore_bank-clause-moments : goal.returns-in-Ok-restore_bank-clause-moments
returns-in-Ok-restore_bank-clause-moments g c told =
    let d = g.P.PageDisk in let s = c.args.span.now in let N = IsMemberByte c.args.share.now s.oldest s.oldest_offset c.args.recs.now in
    subst (λ z. CrashLeaves (MayLeave (MayBecome N (IsPastOffset s.from) (IsPastOffset s.next)) (bytes_on d c.args.disk)) d.images d.moment d.left_at c.args.disk z) (sym c.keep.ensures)
    (moments_on N (IsPastOffset s.from) (IsPastOffset s.next) c.args.disk c.in-Ok.bank c.restore_bank.new.bank c.in-Ok.ensures.disk c.in-Ok.ensures.map c.restore_bank.result c.restore_bank.ensures told)

pub returns-in-Err-restore_bank-clause-moments : goal.returns-in-Err-restore_bank-clause-moments
returns-in-Err-restore_bank-clause-moments g c told =
    let d = g.P.PageDisk in let s = c.args.span.now in let N = IsMemberByte c.args.share.now s.oldest s.oldest_offset c.args.recs.now in
    subst (λ z. CrashLeaves (MayLeave (MayBecome N (IsPastOffset s.from) (IsPastOffset s.next)) (bytes_on d c.args.disk)) d.images d.moment d.left_at c.args.disk z) (sym c.keep-in-Err-restore_bank.ensures)
    (moments_on N (IsPastOffset s.from) (IsPastOffset s.next) c.args.disk c.in-Ok.bank c.restore_bank.new.bank c.in-Ok.ensures.disk c.in-Ok.ensures.map c.restore_bank.result c.restore_bank.ensures told)
