use Rattle.std.proofs.Common.{List, [], ap, arith, length, subst, ◌∷◌, ◌≡◌, ◌≤◌}
use Rattle.tx_events.specs.declared.multi.Member.{Member}
use Rattle.replay_multis.specs.Named.{IsMemberByte, IsRunByte}
use Rattle.replay_multis.specs.Steps.{RedoesBank}
use Rattle.replay_multis.proofs.Naming.{its_members, members_of}
use Rattle.replay_multis.proofs.Stepping.{same_named}
use Rattle.replay_multis.proofs.redo_members.redo_members_of.Goals as goal

pub redo_run-requires-clause-near : goal.redo_run-requires-clause-near
redo_run-requires-clause-near g c =
    let long : length c.items.result.now ≡ length c.in-Multi.members = ap (λ (t : List Member). length t) c.items.ensures in
    let below = c.requires.below c.in-Multi.multi c.in-Multi.offset c.in-Multi.members (0, omega arith, c.in-Multi.is) in
    let window = c.requires.window in
    omega (arith, long, below, window)

pub redo_run-requires-clause-small : goal.redo_run-requires-clause-small
redo_run-requires-clause-small g c =
    let long : length c.items.result.now ≡ length c.in-Multi.members = ap (λ (t : List Member). length t) c.items.ensures in
    let below = c.requires.below c.in-Multi.multi c.in-Multi.offset c.in-Multi.members (0, omega arith, c.in-Multi.is) in
    let small = c.requires.small in
    omega (arith, long, below, small)

pub returns : goal.returns
returns g c =
    let from : c.args.span.now.oldest ≤ c.in-Multi.multi = grind (arith, c.lt.ensures, c.if-lt.false) in
    let s = c.args.span.now in
    same_named (IsRunByte c.args.share.now s.oldest_offset c.in-Multi.offset c.in-Multi.members) (IsMemberByte c.args.share.now s.oldest s.oldest_offset (c.args.rec.now ∷ [])) c.args.bank.now c.redo_run.new.bank c.redo_run.result
    (its_members c.args.share.now s.oldest c.args.rec.now c.in-Multi.multi c.in-Multi.offset c.in-Multi.members c.in-Multi.is s.oldest_offset from)
    (λ q i b h. (members_of c.args.share.now s.oldest c.args.rec.now c.in-Multi.multi c.in-Multi.offset c.in-Multi.members c.in-Multi.is s.oldest_offset q i b h).1)
    (subst (λ (t : List Member). RedoesBank (IsRunByte c.args.share.now s.oldest_offset c.in-Multi.offset t) c.args.bank.now c.redo_run.new.bank c.redo_run.result) c.items.ensures c.redo_run.ensures)
