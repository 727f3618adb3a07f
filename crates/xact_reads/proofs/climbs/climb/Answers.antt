use Rattle.std.proofs.Common.{◌<◌, IfSome, IsTrue, inl, inr, arith, refl, subst, ◌∙◌}
use Rattle.std.proofs.lemmas.Bool.Decides.{nat_tests}
use Rattle.hall.specs.Calls.{view, start_of}
use Rattle.bank_sections.specs.Reads.{IsParentOf, IsParentRead}
use Rattle.engine_parts.specs.Adding.{IsPlain, MayMeet}
use Rattle.engine_parts.specs.Sessions.{by_at}
use Rattle.engine_parts.proofs.Adding.{adds_nothing, plain_meets}
use Rattle.engine_parts.proofs.Stepping.{went_nowhere}
use Rattle.xact_reads.proofs.Aparting.{apart_then}
use Rattle.xact_reads.proofs.Climbing.{come_nowhere, none_before, stops_at, way_on}
use Rattle.xact_reads.proofs.Going.{read_adds, went_both}
use Rattle.xact_reads.proofs.climbs.climb.Goals as goal

pub loop-xmin-init : goal.loop-xmin-init
loop-xmin-init g c = (c.requires.own, c.requires.ready, went_nowhere c.args.caller.now.number (view c.args.caller.now.pass).seen, (refl, refl), omega arith, λ told. come_nowhere (start_of c.args.hall.now) (view c.args.caller.now.pass).seen c.args.x, adds_nothing (by_at c.args.caller.now.number c.args.caller.now.session.levels.commands) IsPlain (view c.args.caller.now.pass).seen, refl)

pub loop-xmin-preserved : goal.loop-xmin-preserved
loop-xmin-preserved g c =
    let i = c.loop-xmin.invariant in
    let u = c.loop-xmin.caller in
    let w = c.parent_of.new.caller in
    let e = c.in-Ok.ensures in
    let down = subst (λ z. IfSome z (λ y. y < c.loop-xmin.top)) c.in-Some.is e.below in
    let read = λ (told : IsTrue g.P.PageDisk.tells). subst (IsParentRead (start_of c.args.hall.now) (view w.pass).seen c.loop-xmin.top) c.in-Some.is (e.parent told) in (
      e.own,
      e.ready,
      went_both c.args.caller.now.number u.number (view c.args.caller.now.pass).seen (view u.pass).seen (view w.pass).seen i.3.1 i.2 e.went,
      (e.same.0 ∙ i.3.0, e.same.1 ∙ i.3.1),
      (let to = i.4 in omega arith),
      λ told. way_on (start_of c.args.hall.now) (view u.pass).seen (view w.pass).seen c.args.x c.loop-xmin.top c.in-Some.parent e.ready.at.base e.ready.at.kept e.went.on.grows (i.5 told) (read told),
      read_adds c.args.caller.now.number u.number c.args.caller.now.session u.session IsPlain (view c.args.caller.now.pass).seen (view u.pass).seen (view w.pass).seen i.3.1 i.3.0 (λ lock kind m. m) i.6 e.adds,
      apart_then c.args.caller.now.number u.number (view c.args.caller.now.pass).seen (view u.pass).seen (view w.pass).seen i.3.1 i.7 e.apart,
    )

pub returns-in-None-clause-went : goal.returns-in-None-clause-went
returns-in-None-clause-went g c =
    let i = c.loop-xmin.invariant in
    let u = c.loop-xmin.caller in
    went_both c.args.caller.now.number u.number (view c.args.caller.now.pass).seen (view u.pass).seen (view c.parent_of.new.caller.pass).seen i.3.1 i.2 c.in-Ok.ensures.went

pub returns-in-None-clause-top : goal.returns-in-None-clause-top
returns-in-None-clause-top g c told =
    let i = c.loop-xmin.invariant in
    let u = c.loop-xmin.caller in
    let w = c.parent_of.new.caller in
    let e = c.in-Ok.ensures in
    let v = view c.args.caller.now.pass in
    let went = went_both c.args.caller.now.number u.number v.seen (view u.pass).seen (view w.pass).seen i.3.1 i.2 e.went in
    stops_at (start_of c.args.hall.now) v.seen (view u.pass).seen (view w.pass).seen c.args.xmin c.args.x c.loop-xmin.top e.went.on.grows (i.5 told)
    (λ used few. inr (none_before (start_of c.args.hall.now) v.seen (view w.pass).seen c.loop-xmin.top went.on.grows (subst (IsParentOf (start_of c.args.hall.now) (view w.pass).seen c.loop-xmin.top) c.in-None.is (e.parent told used few))))

pub returns-in-Err-clause-went : goal.returns-in-Err-clause-went
returns-in-Err-clause-went g c =
    let i = c.loop-xmin.invariant in
    let u = c.loop-xmin.caller in
    went_both c.args.caller.now.number u.number (view c.args.caller.now.pass).seen (view u.pass).seen (view c.parent_of.new.caller.pass).seen i.3.1 i.2 c.in-Err.ensures.went

pub returns-clause-top : goal.returns-clause-top
returns-clause-top g c told =
    let i = c.loop-xmin.invariant in
    let u = c.loop-xmin.caller in
    stops_at (start_of c.args.hall.now) (view c.args.caller.now.pass).seen (view u.pass).seen (view u.pass).seen c.args.xmin c.args.x c.loop-xmin.top (went_nowhere u.number (view u.pass).seen).on.grows (i.5 told) (λ used few. inl (grind (arith, nat_tests, c.loop-xmin-test)))

pub returns-in-None-clause-adds : goal.returns-in-None-clause-adds
returns-in-None-clause-adds g c =
    let i = c.loop-xmin.invariant in
    let u = c.loop-xmin.caller in
    let w = c.parent_of.new.caller in
    read_adds c.args.caller.now.number u.number c.args.caller.now.session u.session IsPlain (view c.args.caller.now.pass).seen (view u.pass).seen (view w.pass).seen i.3.1 i.3.0 (λ lock kind m. m) i.6 c.in-Ok.ensures.adds

pub returns-in-Err-clause-adds : goal.returns-in-Err-clause-adds
returns-in-Err-clause-adds g c =
    let i = c.loop-xmin.invariant in
    let u = c.loop-xmin.caller in
    let w = c.parent_of.new.caller in
    read_adds c.args.caller.now.number u.number c.args.caller.now.session u.session (MayMeet c.in-Err.refusal) (view c.args.caller.now.pass).seen (view u.pass).seen (view w.pass).seen i.3.1 i.3.0 (plain_meets c.in-Err.refusal) i.6 c.in-Err.ensures.adds

pub returns-clause-adds : goal.returns-clause-adds
returns-clause-adds g c = c.loop-xmin.invariant.6

pub returns-in-None-clause-apart : goal.returns-in-None-clause-apart
returns-in-None-clause-apart g c =
    let i = c.loop-xmin.invariant in
    let u = c.loop-xmin.caller in
    apart_then c.args.caller.now.number u.number (view c.args.caller.now.pass).seen (view u.pass).seen (view c.parent_of.new.caller.pass).seen i.3.1 i.7 c.in-Ok.ensures.apart

pub returns-in-Err-clause-apart : goal.returns-in-Err-clause-apart
returns-in-Err-clause-apart g c =
    let i = c.loop-xmin.invariant in
    let u = c.loop-xmin.caller in
    apart_then c.args.caller.now.number u.number (view c.args.caller.now.pass).seen (view u.pass).seen (view c.parent_of.new.caller.pass).seen i.3.1 i.7 c.in-Err.ensures.apart

pub returns-clause-apart : goal.returns-clause-apart
returns-clause-apart g c = c.loop-xmin.invariant.7
