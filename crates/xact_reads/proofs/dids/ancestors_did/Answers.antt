use Rattle.std.proofs.Common.{◌<◌, arith, refl, subst, ◌∙◌}
use Rattle.std.proofs.lemmas.Bool.Decides.{nat_tests}
use Rattle.hall.specs.Calls.{view, start_of}
use Rattle.tx_events.specs.declared.event.By.{By}
use Rattle.engine_parts.specs.Adding.{IsPlain, MayMeet}
use Rattle.engine_parts.specs.Sessions.{by_at}
use Rattle.engine_parts.proofs.Adding.{adds_nothing, plain_meets}
use Rattle.engine_parts.proofs.Sectioning.{same_command}
use Rattle.engine_parts.proofs.Stepping.{went_nowhere}
use Rattle.xact_reads.specs.Ancestors.{ParentSays}
use Rattle.xact_reads.specs.Stores.{IsBelow}
use Rattle.xact_reads.specs.Readings.{IsUnread}
use Rattle.xact_reads.proofs.Ascending.{comes_before, comes_end, comes_nowhere, comes_on}
use Rattle.xact_reads.proofs.Going.{read_adds, went_both}
use Rattle.xact_reads.proofs.dids.ancestors_did.Goals as goal

pub loop-asked-init : goal.loop-asked-init
loop-asked-init g c = (
  c.requires.own,
  c.requires.ready,
  went_nowhere c.args.caller.now.number (view c.args.caller.now.pass).seen,
  (refl, refl),
  omega arith,
  adds_nothing (by_at c.args.caller.now.number c.args.caller.now.session.levels.commands) IsPlain (view c.args.caller.now.pass).seen,
  λ told. comes_nowhere (start_of c.args.hall.now) (view c.args.caller.now.pass).seen c.args.xmin c.args.asked,
)

pub loop-asked-preserved : goal.loop-asked-preserved
loop-asked-preserved g c =
    let i = c.loop-asked.invariant in
    let u = c.loop-asked.caller in
    let w = c.step_up.new.caller in
    let e = c.in-Ok.ensures in
    let v = c.args.caller.now in
    let start = start_of c.args.hall.now in
    let x = c.loop-asked.x in
    let below : c.in-Further.parent < x = subst (IsBelow x) c.in-Further.is e.further in (
      e.own,
      e.ready,
      went_both v.number u.number (view v.pass).seen (view u.pass).seen (view w.pass).seen i.3.1 i.2 e.went,
      (e.same.0 ∙ i.3.0, e.same.1 ∙ i.3.1),
      (let to = i.4 in omega arith),
      read_adds v.number u.number v.session u.session IsPlain (view v.pass).seen (view u.pass).seen (view w.pass).seen i.3.1 i.3.0 (λ lock kind m. m) i.5 e.adds,
      λ told. comes_on start (view v.pass).seen (view u.pass).seen (view w.pass).seen c.args.xmin c.args.asked x (i.6 told) i.2.on.grows e.went.on.grows (grind (arith, nat_tests, c.loop-asked-test)) c.in-Further.parent
          (subst (ParentSays start (view u.pass).seen (view w.pass).seen x) c.in-Further.is (e.said told)),
    )

pub returns-in-Ends-clause-said : goal.returns-in-Ends-clause-said
returns-in-Ends-clause-said g c told =
    let i = c.loop-asked.invariant in
    let u = view c.loop-asked.caller.pass in
    let w = view c.step_up.new.caller.pass in
    let e = c.in-Ok.ensures in
    let start = start_of c.args.hall.now in
    comes_end start (view c.args.caller.now.pass).seen u.seen w.seen c.args.xmin c.args.asked c.loop-asked.x (i.6 told) i.2.on.grows e.went.on.grows (grind (arith, nat_tests, c.loop-asked-test)) c.in-Ends.committed
    (subst (ParentSays start u.seen w.seen c.loop-asked.x) c.in-Ends.is (e.said told))

pub returns-clause-said : goal.returns-clause-said
returns-clause-said g c told =
    let i = c.loop-asked.invariant in
    comes_before (start_of c.args.hall.now) (view c.args.caller.now.pass).seen (view c.loop-asked.caller.pass).seen c.args.xmin c.args.asked c.loop-asked.x (i.6 told) (grind (arith, nat_tests, c.loop-asked-test))

pub returns-in-Ends-clause-went : goal.returns-in-Ends-clause-went
returns-in-Ends-clause-went g c =
    let i = c.loop-asked.invariant in
    let u = c.loop-asked.caller in
    went_both c.args.caller.now.number u.number (view c.args.caller.now.pass).seen (view u.pass).seen (view c.step_up.new.caller.pass).seen i.3.1 i.2 c.in-Ok.ensures.went

pub returns-in-Ends-clause-adds : goal.returns-in-Ends-clause-adds
returns-in-Ends-clause-adds g c =
    let i = c.loop-asked.invariant in
    let u = c.loop-asked.caller in
    read_adds c.args.caller.now.number u.number c.args.caller.now.session u.session IsPlain (view c.args.caller.now.pass).seen (view u.pass).seen (view c.step_up.new.caller.pass).seen i.3.1 i.3.0 (λ lock kind m. m) i.5 c.in-Ok.ensures.adds

pub returns-in-Err-clause-went : goal.returns-in-Err-clause-went
returns-in-Err-clause-went g c =
    let i = c.loop-asked.invariant in
    let u = c.loop-asked.caller in
    went_both c.args.caller.now.number u.number (view c.args.caller.now.pass).seen (view u.pass).seen (view c.step_up.new.caller.pass).seen i.3.1 i.2 c.in-Err.ensures.went

pub returns-in-Err-clause-adds : goal.returns-in-Err-clause-adds
returns-in-Err-clause-adds g c =
    let i = c.loop-asked.invariant in
    let u = c.loop-asked.caller in
    read_adds c.args.caller.now.number u.number c.args.caller.now.session u.session (MayMeet c.in-Err.refusal) (view c.args.caller.now.pass).seen (view u.pass).seen (view c.step_up.new.caller.pass).seen i.3.1 i.3.0 (plain_meets c.in-Err.refusal) i.5 c.in-Err.ensures.adds

pub returns-in-Err-clause-unread : goal.returns-in-Err-clause-unread
returns-in-Err-clause-unread g c =
    let i = c.loop-asked.invariant in
    let v = c.args.caller.now in
    let u = c.loop-asked.caller in
    let w = view c.step_up.new.caller.pass in
    subst (λ (b : By). IsUnread (start_of c.args.hall.now) w.seen b c.args.asked c.in-Err.refusal) (same_command v.number u.number v.session u.session i.3.1 i.3.0) c.in-Err.ensures.unread

pub returns-clause-adds : goal.returns-clause-adds
returns-clause-adds g c = c.loop-asked.invariant.5
