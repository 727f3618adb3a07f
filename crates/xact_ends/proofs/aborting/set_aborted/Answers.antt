use Rattle.std.proofs.Common.{◌≡◌, ℕ, ◌<◌, ◌≤◌, [], ap, ◌∙◌, subst, sym, refl, length, drop, slice_index, List, Contains, arith}
use Rattle.std.specs.List.{slice_range}
use Rattle.hall.specs.Calls.{view, start_of}
use Rattle.tx_events.specs.declared.event.By.{By}
use Rattle.slru_bank.proofs.RunShapes.{run_shares}
use Rattle.engine_parts.specs.declared.session.Session.{Session}
use Rattle.engine_parts.specs.Sessions.{by_at}
use Rattle.engine_parts.specs.Steps.{GoesOn}
use Rattle.engine_parts.proofs.Stepping.{goes_then, went_nowhere}
use Rattle.xact_ends.specs.Aborts.{AreAborted, IsOnePage}
use Rattle.bank_sections.specs.Faults.{IsXactFault}
use Rattle.xact_ends.proofs.Aborted.{aborted_more, aborted_none, aborted_on}
use Rattle.engine_parts.specs.Adding.{IsPlain, MayMeet}
use Rattle.engine_parts.proofs.Adding.{adds_after, adds_nothing, plain_meets}
use Rattle.engine_parts.proofs.Sectioning.{same_command}
use Rattle.xact_ends.proofs.aborting.set_aborted.Goals as goal

pub set_run-requires-clause-page : goal.set_run-requires-clause-page
set_run-requires-clause-page g c =
    let opened = c.loop-first.caller.session.levels.open_ids.items in
    subst (λ (l : List ℕ). IsOnePage l c.loop-first.first c.run_end-past.result) c.deref.ensures.value
    (λ id m. run_shares c.deref.result.now c.loop-first.first c.run_end-past.result _ c.run_end-past.ensures.run id m)

pub set_run-requires-clause-among : goal.set_run-requires-clause-among
set_run-requires-clause-among g c = subst (λ (l : List ℕ). c.run_end-past.result ≤ length l) c.deref.ensures.value c.run_end-past.ensures.within

pub loop-first-preserved : goal.loop-first-preserved
loop-first-preserved g c =
    let i = c.loop-first.invariant in
    let n = c.args.caller.now.number in
    let s = c.args.caller.now.session in
    let opened = s.levels.open_ids.items in
    let t = c.loop-first.caller in
    let start = start_of c.args.hall.now in
    let e = c.set_run.ensures in
    let mid = (view t.pass).seen in
    let more = (view c.set_run.new.caller.pass).seen in
    let x = c.in-Ok.ensures.sets in
    let same : t.session.levels.open_ids.items ≡ opened = ap (λ (z : Session). z.levels.open_ids.items) i.session in
    let goes : GoesOn n [] mid more = subst (λ z. GoesOn z [] mid more) i.number x.0 in
    record {
      step = e.step;
      session = x.1 ∙ i.session;
      number = e.number ∙ i.number;
      goes = goes_then n [] [] (view c.args.caller.now.pass).seen mid more i.goes goes;
      within = subst (λ (l : List ℕ). c.run_end-past.result ≤ length l) (c.deref.ensures.value ∙ same) c.run_end-past.ensures.within;
      set = aborted_more start more opened c.loop-first.first c.run_end-past.result (aborted_on start mid more opened 0 c.loop-first.first goes.grows i.set) (subst (λ (l : List ℕ). AreAborted start more l c.loop-first.first c.run_end-past.result) same x.2);
      adds = adds_after (by_at n c.args.caller.now.session.levels.commands) (by_at t.number t.session.levels.commands) IsPlain (view c.args.caller.now.pass).seen (view t.pass).seen more (same_command n t.number c.args.caller.now.session t.session i.number i.session) (λ lock kind m. m) i.adds c.in-Ok.ensures.adds;
    }

pub returns-in-Err-clause-sets : goal.returns-in-Err-clause-sets
returns-in-Err-clause-sets g c =
    let i = c.loop-first.invariant in
    let n = c.args.caller.now.number in
    let t = c.loop-first.caller in
    let mid = (view t.pass).seen in
    let more = (view c.set_run.new.caller.pass).seen in
    let x = c.in-Err.ensures.sets in (
      goes_then n [] [] (view c.args.caller.now.pass).seen mid more i.goes (subst (λ z. GoesOn z [] mid more) i.number x.0),
      x.1 ∙ i.session,
      subst (λ (b : By). IsXactFault more b c.in-Err.refusal) (λ j. by_at (i.number j) (i.session j).levels.commands) x.2,
    )

pub returns-clause-sets : goal.returns-clause-sets
returns-clause-sets g c =
    let i = c.loop-first.invariant in
    let opened = c.args.caller.now.session.levels.open_ids.items in
    let all : c.loop-first.first ≡ length opened =
    let same = ap (λ (z : Session). length z.levels.open_ids.items) i.session in
    let long = c.len.ensures in
    let past = c.loop-first-test.false in
    let within = i.within in
    omega arith in
    (i.goes, i.session, subst (λ z. AreAborted (start_of c.args.hall.now) (view c.loop-first.caller.pass).seen opened 0 z) all i.set)

pub returns-clause-adds : goal.returns-clause-adds
returns-clause-adds g c = c.loop-first.invariant.adds

pub returns-in-Err-clause-adds : goal.returns-in-Err-clause-adds
returns-in-Err-clause-adds g c =
    let i = c.loop-first.invariant in
    let old = c.args.caller.now in
    let t = c.loop-first.caller in
    adds_after (by_at old.number old.session.levels.commands) (by_at t.number t.session.levels.commands) (MayMeet c.in-Err.refusal) (view old.pass).seen (view t.pass).seen (view c.set_run.new.caller.pass).seen (same_command old.number t.number old.session t.session i.number i.session) (plain_meets c.in-Err.refusal) i.adds c.in-Err.ensures.adds
