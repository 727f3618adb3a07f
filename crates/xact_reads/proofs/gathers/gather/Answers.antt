use Rattle.std.proofs.Common.{arith, sym, ◌∙◌, ◌≡◌}
use Rattle.std.proofs.lemmas.Bool.Decides.{nat_tests}
use Rattle.hall.specs.Calls.{view, start_of}
use Rattle.engine_parts.specs.Adding.{IsPlain, MayMeet}
use Rattle.engine_parts.proofs.Adding.{plain_meets}
use Rattle.xact_reads.proofs.Aparting.{apart_then}
use Rattle.xact_reads.proofs.Ending.{end_small}
use Rattle.xact_reads.proofs.Gathering.{gathered, none_between}
use Rattle.xact_reads.proofs.Going.{read_adds}
use Rattle.xact_reads.proofs.Once.{few_multis_before}
use Rattle.xact_reads.proofs.Pinning.{multi_both, pinned_from, pinned_later, pins_kept}
use Rattle.xact_reads.proofs.Spanning.{spanned}
use Rattle.xact_reads.proofs.gathers.gather.Goals as goal

pub returns-then-count-eq0-clause-slots : goal.returns-then-count-eq0-clause-slots
returns-then-count-eq0-clause-slots g c told few =
    let start = start_of c.args.hall.now in
    let old = c.args.caller.now in
    let v = (view old.pass).seen in
    let u = (view c.ends_of.new.caller.pass).seen in
    let e = c.in-Ok.ensures in
    let p = pinned_later start v u c.args.held.now e.went.grows c.requires.pinned in
    let from = pinned_from start u old.number c.args.held.now.multi e.ready.at.kept (pins_kept old.number c.args.held.now.multi v u e.went c.requires.pins) in
    let s = spanned start u e.ready.at.kept e.ready.at.base few (e.ends told few).begun c.args.held.now c.in-Ok.ends p from (e.ends told few) in
    absurd (none_between start u c.args.held.now c.in-Ok.ends s (let zero : c.slots_in-count.result ≡ 0 = grind (arith, nat_tests, c.if-count-eq0.true) in sym c.slots_in-count.ensures ∙ zero))

pub read_slots-requires-clause-small : goal.read_slots-requires-clause-small
read_slots-requires-clause-small g c =
    let start = start_of c.args.hall.now in
    let e = c.in-Ok.ensures in
    let small = end_small start (view c.ends_of.new.caller.pass).seen c.args.held.now e.ready.at.base e.ready.at.kept (pinned_later start (view c.args.caller.now.pass).seen (view c.ends_of.new.caller.pass).seen c.args.held.now e.went.grows c.requires.pinned) in
    let upto = c.offset_in_full-offset.ensures.upto in
    omega (arith, small, upto)

pub returns-in-Ok-read_slots-clause-went : goal.returns-in-Ok-read_slots-clause-went
returns-in-Ok-read_slots-clause-went g c =
    let u = c.ends_of.new.caller in
    let e = c.in-Ok.ensures in
    multi_both c.args.caller.now.number u.number (view c.args.caller.now.pass).seen (view u.pass).seen (view c.read_slots.new.caller.pass).seen e.same.1 e.went c.in-Ok-read_slots.ensures.went

pub returns-in-Err-read_slots-clause-went : goal.returns-in-Err-read_slots-clause-went
returns-in-Err-read_slots-clause-went g c =
    let u = c.ends_of.new.caller in
    let e = c.in-Ok.ensures in
    multi_both c.args.caller.now.number u.number (view c.args.caller.now.pass).seen (view u.pass).seen (view c.read_slots.new.caller.pass).seen e.same.1 e.went c.in-Err-read_slots.ensures.went

pub returns-in-Ok-read_slots-clause-adds : goal.returns-in-Ok-read_slots-clause-adds
returns-in-Ok-read_slots-clause-adds g c =
    let old = c.args.caller.now in
    let u = c.ends_of.new.caller in
    let e = c.in-Ok.ensures in
    read_adds old.number u.number old.session u.session IsPlain (view old.pass).seen (view u.pass).seen (view c.read_slots.new.caller.pass).seen e.same.1 e.same.0 (λ lock kind m. m) e.adds c.in-Ok-read_slots.ensures.adds

pub returns-in-Err-read_slots-clause-adds : goal.returns-in-Err-read_slots-clause-adds
returns-in-Err-read_slots-clause-adds g c =
    let old = c.args.caller.now in
    let u = c.ends_of.new.caller in
    let e = c.in-Ok.ensures in
    read_adds old.number u.number old.session u.session (MayMeet c.in-Err-read_slots.refusal) (view old.pass).seen (view u.pass).seen (view c.read_slots.new.caller.pass).seen e.same.1 e.same.0 (plain_meets c.in-Err-read_slots.refusal) e.adds c.in-Err-read_slots.ensures.adds

pub returns-in-Ok-read_slots-clause-slots : goal.returns-in-Ok-read_slots-clause-slots
returns-in-Ok-read_slots-clause-slots g c told few =
    let start = start_of c.args.hall.now in
    let held = c.args.held.now in
    let old = c.args.caller.now in
    let v = (view old.pass).seen in
    let u = (view c.ends_of.new.caller.pass).seen in
    let w = (view c.read_slots.new.caller.pass).seen in
    let e = c.in-Ok.ensures in
    let f = c.in-Ok-read_slots.ensures in
    let few_then = few_multis_before u w f.went.grows few in
    let went = multi_both old.number c.ends_of.new.caller.number v u w e.same.1 e.went f.went in
    let p = pinned_later start v u held e.went.grows c.requires.pinned in
    let from = pinned_from start u old.number held.multi e.ready.at.kept (pins_kept old.number held.multi v u e.went c.requires.pins) in
    let later = pinned_from start w old.number held.multi f.ready.at.kept (pins_kept old.number held.multi v w went c.requires.pins) in
    let ends = e.ends told few_then in
    let s = spanned start u e.ready.at.kept e.ready.at.base few_then ends.begun held c.in-Ok.ends p from ends in
    gathered start u w f.ready.at.kept f.ready.at.base held c.in-Ok.ends c.offset_in_full-offset.result c.slots_in-count.result c.args.into.now.items c.read_slots.new.into.items f.went.grows few_then ends.begun s later c.requires.none c.offset_in_full-offset.ensures.value c.slots_in-count.ensures (λ low to. f.slots told few low to)

pub returns-in-Ok-read_slots-clause-apart : goal.returns-in-Ok-read_slots-clause-apart
returns-in-Ok-read_slots-clause-apart g c =
    let u = c.ends_of.new.caller in
    let e = c.in-Ok.ensures in
    apart_then c.args.caller.now.number u.number (view c.args.caller.now.pass).seen (view u.pass).seen (view c.read_slots.new.caller.pass).seen e.same.1 e.apart c.in-Ok-read_slots.ensures.apart

pub returns-in-Err-read_slots-clause-apart : goal.returns-in-Err-read_slots-clause-apart
returns-in-Err-read_slots-clause-apart g c =
    let u = c.ends_of.new.caller in
    let e = c.in-Ok.ensures in
    apart_then c.args.caller.now.number u.number (view c.args.caller.now.pass).seen (view u.pass).seen (view c.read_slots.new.caller.pass).seen e.same.1 e.apart c.in-Err-read_slots.ensures.apart
