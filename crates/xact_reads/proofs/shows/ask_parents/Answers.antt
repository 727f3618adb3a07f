use Rattle.std.proofs.Common.{sym, subst, ◌∙◌}
use Rattle.hall.specs.Calls.{view, start_of}
use Rattle.tx_events.specs.declared.event.By.{By}
use Rattle.engine_parts.specs.declared.session.Session.{Session}
use Rattle.engine_parts.specs.Adding.{IsPlain, MayMeet}
use Rattle.engine_parts.specs.Sessions.{by_at}
use Rattle.engine_parts.proofs.Adding.{plain_meets}
use Rattle.engine_parts.proofs.Sectioning.{same_command}
use Rattle.engine_parts.proofs.Unmoved.{at_same}
use Rattle.xact_reads.specs.Glances.{IsNamed}
use Rattle.bank_sections.specs.Faults.{IsSubtransFault}
use Rattle.xact_reads.specs.Apart.{FoundCut}
use Rattle.xact_reads.proofs.Aparting.{apart_any, apart_then}
use Rattle.xact_reads.proofs.Going.{read_adds, went_both}
use Rattle.xact_reads.proofs.Looking.{climb_limits, parent_unread, shows_none, shows_parents}
use Rattle.xact_reads.proofs.shows.ask_parents.Goals as goal

pub returns-then-not-committed-clause-shown : goal.returns-then-not-committed-clause-shown
returns-then-not-committed-clause-shown g c told =
    let old = c.args.caller.now in
    let w = c.is_committed.new.caller in
    let e = c.in-Ok.ensures in
    let start = start_of c.args.hall.now in
    shows_none start (view w.pass) old.number old.session c.args.name.now c.requires.glanced.0 c.args.glance (at_same start (view w.pass) old.number w.number old.session w.session e.same.1 e.same.0 e.ready) c.requires.glanced.1 c.in-Ok.committed c.requires.asks (e.state told) (search (c.if-not-committed.true))

pub climb-requires-clause-from : goal.climb-requires-clause-from
climb-requires-clause-from g c =
    let old = c.args.caller.now in
    (climb_limits (start_of c.args.hall.now) (view old.pass) old.number old.session c.args.name.now c.requires.glanced.0 c.args.glance c.requires.ready.at c.requires.glanced.1 c.requires.asks).0

pub climb-requires-clause-to : goal.climb-requires-clause-to
climb-requires-clause-to g c =
    let old = c.args.caller.now in
    (climb_limits (start_of c.args.hall.now) (view old.pass) old.number old.session c.args.name.now c.requires.glanced.0 c.args.glance c.requires.ready.at c.requires.glanced.1 c.requires.asks).1

pub returns-in-Ok-climb-clause-went : goal.returns-in-Ok-climb-clause-went
returns-in-Ok-climb-clause-went g c =
    let u = c.is_committed.new.caller in
    went_both c.args.caller.now.number u.number (view c.args.caller.now.pass).seen (view u.pass).seen (view c.climb.new.caller.pass).seen c.in-Ok.ensures.same.1 c.in-Ok.ensures.went c.in-Ok-climb.ensures.went

pub returns-in-Err-climb-clause-went : goal.returns-in-Err-climb-clause-went
returns-in-Err-climb-clause-went g c =
    let u = c.is_committed.new.caller in
    went_both c.args.caller.now.number u.number (view c.args.caller.now.pass).seen (view u.pass).seen (view c.climb.new.caller.pass).seen c.in-Ok.ensures.same.1 c.in-Ok.ensures.went c.in-Err-climb.ensures.went

pub returns-in-Err-climb-clause-unread : goal.returns-in-Err-climb-clause-unread
returns-in-Err-climb-clause-unread g c =
    let old = c.args.caller.now in
    let u = c.is_committed.new.caller in
    let e = c.in-Ok.ensures in
    let w = view c.climb.new.caller.pass in
    parent_unread (start_of c.args.hall.now) w.seen (by_at old.number old.session.levels.commands) c.args.glance.id c.in-Err-climb.refusal
    (subst (λ (b : By). IsSubtransFault w.seen b c.in-Err-climb.refusal) (same_command old.number u.number old.session u.session e.same.1 e.same.0) c.in-Err-climb.ensures.fault)

pub returns-in-Ok-climb-clause-shown : goal.returns-in-Ok-climb-clause-shown
returns-in-Ok-climb-clause-shown g c told =
    let old = c.args.caller.now in
    let u = c.is_committed.new.caller in
    let w = c.climb.new.caller in
    let d = c.in-Ok.ensures in
    let e = c.in-Ok-climb.ensures in
    let same = e.same.0 ∙ d.same.0 in
    let start = start_of c.args.hall.now in
    shows_parents start (view u.pass) old.number old.session c.args.name.now c.requires.glanced.0 c.args.glance (at_same start (view u.pass) old.number u.number old.session u.session d.same.1 d.same.0 d.ready) c.requires.glanced.1 (view w.pass) c.in-Ok.committed c.shows_top.result c.in-Ok-climb.topmost
    (at_same start (view w.pass) old.number w.number old.session w.session (e.same.1 ∙ d.same.1) same e.ready) e.went.on.grows c.requires.asks (d.state told) (search (c.if-not-committed.false)) (e.top told)
    (λ k named up. c.shows_top.ensures k (subst (λ (z : Session). IsNamed z.levels c.args.name.now k) (sym same) named) up)

pub returns-in-Ok-climb-clause-adds : goal.returns-in-Ok-climb-clause-adds
returns-in-Ok-climb-clause-adds g c =
    let old = c.args.caller.now in
    let u = c.is_committed.new.caller in
    let e = c.in-Ok.ensures in
    read_adds old.number u.number old.session u.session IsPlain (view old.pass).seen (view u.pass).seen (view c.climb.new.caller.pass).seen e.same.1 e.same.0 (λ lock kind m. m) e.adds c.in-Ok-climb.ensures.adds

pub returns-in-Err-climb-clause-adds : goal.returns-in-Err-climb-clause-adds
returns-in-Err-climb-clause-adds g c =
    let old = c.args.caller.now in
    let u = c.is_committed.new.caller in
    let e = c.in-Ok.ensures in
    read_adds old.number u.number old.session u.session (MayMeet c.in-Err-climb.refusal) (view old.pass).seen (view u.pass).seen (view c.climb.new.caller.pass).seen e.same.1 e.same.0 (plain_meets c.in-Err-climb.refusal) e.adds c.in-Err-climb.ensures.adds

pub returns-in-Ok-climb-clause-apart : goal.returns-in-Ok-climb-clause-apart
returns-in-Ok-climb-clause-apart g c =
    let u = c.is_committed.new.caller in
    let e = c.in-Ok.ensures in
    apart_then c.args.caller.now.number u.number (view c.args.caller.now.pass).seen (view u.pass).seen (view c.climb.new.caller.pass).seen e.same.1 e.apart c.in-Ok-climb.ensures.apart

pub returns-in-Err-climb-clause-apart : goal.returns-in-Err-climb-clause-apart
returns-in-Err-climb-clause-apart g c =
    let n = c.args.caller.now.number in
    let v = view c.args.caller.now.pass in
    let u = c.is_committed.new.caller in
    let w = view c.climb.new.caller.pass in
    let e = c.in-Ok.ensures in
    apart_any (FoundCut (start_of c.args.hall.now) (by_at n c.args.caller.now.session.levels.commands) v.seen w.seen c.args.glance.id) n v.seen w.seen c.in-Err-climb.refusal (apart_then n u.number v.seen (view u.pass).seen w.seen e.same.1 e.apart c.in-Err-climb.ensures.apart)
