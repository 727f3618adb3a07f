use Rattle.std.proofs.Common.{arith, subst, ◌+◌, ◌-◌, ◌≡◌, ◌≤◌}
use Rattle.hall.specs.Calls.{view, start_of}
use Rattle.engine_parts.specs.Adding.{IsPlain, MayMeet}
use Rattle.engine_parts.proofs.Adding.{plain_meets}
use Rattle.tx_events.specs.Multis.{free_offset}
use Rattle.tx_core.specs.MultiEntries.{multi_history}
use Rattle.xact_reads.specs.Multis.{AreReadFrom}
use Rattle.xact_reads.proofs.Aparting.{apart_then}
use Rattle.xact_reads.proofs.Gathering.{read_joined, read_since}
use Rattle.xact_reads.proofs.Banking.{free_later}
use Rattle.xact_reads.proofs.Going.{read_adds}
use Rattle.xact_reads.proofs.Once.{few_multis_before}
use Rattle.xact_reads.proofs.Pinning.{multi_both}
use Rattle.xact_reads.proofs.Standings.{oldest_offset_up}
use Rattle.xact_reads.proofs.gathers.read_slots.Goals as goal

pub returns-in-Ok-read_page-clause-went : goal.returns-in-Ok-read_page-clause-went
returns-in-Ok-read_page-clause-went g c =
    let u = c.read_page.new.caller in
    let e = c.in-Ok.ensures in
    multi_both c.args.caller.now.number u.number (view c.args.caller.now.pass).seen (view u.pass).seen (view c.read_page-2.new.caller.pass).seen e.same.1 e.went c.in-Ok-read_page.ensures.went

pub returns-in-Ok-read_page-clause-adds : goal.returns-in-Ok-read_page-clause-adds
returns-in-Ok-read_page-clause-adds g c =
    let old = c.args.caller.now in
    let u = c.read_page.new.caller in
    let e = c.in-Ok.ensures in
    read_adds old.number u.number old.session u.session IsPlain (view old.pass).seen (view u.pass).seen (view c.read_page-2.new.caller.pass).seen e.same.1 e.same.0 (λ lock kind m. m) e.adds c.in-Ok-read_page.ensures.adds

pub returns-in-Ok-read_page-clause-slots : goal.returns-in-Ok-read_page-clause-slots
returns-in-Ok-read_page-clause-slots g c told few from to =
    let start = start_of c.args.hall.now in
    let v = (view c.args.caller.now.pass).seen in
    let u = (view c.read_page.new.caller.pass).seen in
    let w = (view c.read_page-2.new.caller.pass).seen in
    let e = c.in-Ok.ensures in
    let f = c.in-Ok-read_page.ensures in
    let here = c.on_page-here.result in
    let some = c.on_page-here.ensures.some in
    let some1 = some.1 in
    let behind : c.args.offset + here ≤ free_offset start.base.offset (multi_history v) = omega (arith, some1, to) in
    let first : c.args.offset ≤ free_offset start.base.offset (multi_history v) = omega (arith, to) in
    let up = oldest_offset_up start u w f.ready.at.base f.ready.at.kept f.went.grows in
    let a = e.slots told (few_multis_before u w f.went.grows few) (omega (arith, up, from)) first in
    let same : c.from.result ≡ here = c.from.ensures in
    let at : c.args.offset + c.from.result ≤ free_offset start.base.offset (multi_history v) = omega (arith, same, behind) in
    let second = f.slots told few (omega (arith, from)) (free_later start v u (c.args.offset + c.from.result) e.ready.at.base e.ready.at.kept e.went.grows at) in
    let b = subst (λ z. AreReadFrom start u (c.args.offset + z) (c.args.count - here) c.read_page.new.into.items c.read_page-2.new.into.items) same second in
    let joined = read_joined start v c.args.offset here (c.args.count - here) c.args.into.now.items c.read_page.new.into.items c.read_page-2.new.into.items a (read_since start v u (c.args.offset + here) (c.args.count - here) c.read_page.new.into.items c.read_page-2.new.into.items e.went.grows (few_multis_before u w f.went.grows few) b) in
    let all : here + (c.args.count - here) ≡ c.args.count = omega (arith, some1) in
    subst (λ n. AreReadFrom start v c.args.offset n c.args.into.now.items c.read_page-2.new.into.items) all joined

pub returns-in-Err-read_page-clause-went : goal.returns-in-Err-read_page-clause-went
returns-in-Err-read_page-clause-went g c =
    let u = c.read_page.new.caller in
    let e = c.in-Ok.ensures in
    multi_both c.args.caller.now.number u.number (view c.args.caller.now.pass).seen (view u.pass).seen (view c.read_page-2.new.caller.pass).seen e.same.1 e.went c.in-Err-read_page.ensures.went

pub returns-in-Err-read_page-clause-adds : goal.returns-in-Err-read_page-clause-adds
returns-in-Err-read_page-clause-adds g c =
    let old = c.args.caller.now in
    let u = c.read_page.new.caller in
    let e = c.in-Ok.ensures in
    read_adds old.number u.number old.session u.session (MayMeet c.in-Err-read_page.refusal) (view old.pass).seen (view u.pass).seen (view c.read_page-2.new.caller.pass).seen e.same.1 e.same.0 (plain_meets c.in-Err-read_page.refusal) e.adds c.in-Err-read_page.ensures.adds

pub returns-in-Ok-read_page-clause-apart : goal.returns-in-Ok-read_page-clause-apart
returns-in-Ok-read_page-clause-apart g c =
    let u = c.read_page.new.caller in
    let e = c.in-Ok.ensures in
    apart_then c.args.caller.now.number u.number (view c.args.caller.now.pass).seen (view u.pass).seen (view c.read_page-2.new.caller.pass).seen e.same.1 e.apart c.in-Ok-read_page.ensures.apart

pub returns-in-Err-read_page-clause-apart : goal.returns-in-Err-read_page-clause-apart
returns-in-Err-read_page-clause-apart g c =
    let u = c.read_page.new.caller in
    let e = c.in-Ok.ensures in
    apart_then c.args.caller.now.number u.number (view c.args.caller.now.pass).seen (view u.pass).seen (view c.read_page-2.new.caller.pass).seen e.same.1 e.apart c.in-Err-read_page.ensures.apart
