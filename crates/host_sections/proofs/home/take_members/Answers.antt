use Rattle.std.proofs.Common.{◌≡◌, arith, subst}
use Rattle.hall.specs.Calls.{start_of, view}
use Rattle.notes.specs.Lists.{at}
use Rattle.tx_core.specs.Locks.{members_lock}
use Rattle.engine_parts.specs.Parts.{IsMembersOf, PartStands}
use Rattle.engine_parts.proofs.Placing.{is_members}
use Rattle.host_sections.proofs.home.take_members.Goals as goal

pub take_part-part-requires-clause-lock : goal.take_part-part-requires-clause-lock
take_part-part-requires-clause-lock g c = omega (arith, c.requires.alone.laid, c.requires.bank)

pub returns-clause-stands : goal.returns-clause-stands
returns-clause-stands g c =
    let start = start_of c.args.hall.now in
    let es = at (view c.args.pass.now).seen (members_lock c.args.bank) in
    let s = subst (λ z. PartStands start (members_lock c.args.bank) z es) c.in-Members.is c.take_part-part.ensures.stands in
    let e = s.1 in
    let same : s.0 ≡ c.args.bank = omega arith in
    subst (λ z. IsMembersOf start z c.in-Members.store.value es) same s.2

pub unreachable-requires : goal.unreachable-requires
unreachable-requires g c =
    is_members (start_of c.args.hall.now) c.args.bank c.take_part-part.result (at (view c.args.pass.now).seen (members_lock c.args.bank)) c.take_part-part.ensures.stands c.in_default.not-Members
