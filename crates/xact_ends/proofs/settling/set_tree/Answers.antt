use Rattle.std.proofs.Common.{rules, ◌≡◌, ℕ, ◌+◌, ◌*◌, ◌^◌, ◌≤◌, ◌<◌, arith, ap, ◌∙◌, subst, sym, refl, List, [], ◌∷◌, Contains, length, Some, None, slice_get}
use Rattle.hall.specs.Calls.{view, start_of}
use Rattle.slru_bank.specs.Plan.{plan}
use Rattle.tx_core.specs.declared.entry.Entry.{Entry}
use Rattle.tx_events.specs.declared.event.By.{By}
use Rattle.engine_parts.specs.declared.session.Session.{Session}
use Rattle.engine_parts.specs.declared.session.Stage.TheVariants as stages
use Rattle.engine_parts.specs.Sessions.{by_at}
use Rattle.engine_parts.specs.Steps.{GoesOn}
use Rattle.engine_parts.proofs.Stepping.{goes_then}
use Rattle.bank_sections.specs.Faults.{IsXactFault}
use Rattle.xact_ends.proofs.Finishing.{settling_at, some_settling}
use Rattle.xact_ends.proofs.Treeing.{settled_all, steps_few}
use Rattle.engine_parts.specs.Adding.{IsPlain, MayMeet}
use Rattle.engine_parts.proofs.Adding.{adds_after, adds_nothing, plain_meets}
use Rattle.engine_parts.proofs.Sectioning.{same_command}
use Rattle.xact_ends.proofs.settling.set_tree.Goals as goal

pub step_of-requires : goal.step_of-requires
step_of-requires g c =
    let i = c.loop-k.invariant in
    let t = c.loop-k.caller in
    let start = start_of c.args.hall.now in
    let u = view t.pass in
    subst (λ (l : List ℕ). 1 ≤ length l) (sym c.deref.ensures.value)
    (some_settling start u.seen t.number c.loop-k.k t.session.levels.open_ids.items (settling_at start u t.number c.loop-k.k t.session i.step.may (ap (λ (z : Session). z.stage) i.settled)))

pub set_step-requires-clause-stage : goal.set_step-requires-clause-stage
set_step-requires-clause-stage g c = ap (λ (z : Session). z.stage) c.loop-k.invariant.settled

pub set_step-requires-clause-planned : goal.set_step-requires-clause-planned
set_step-requires-clause-planned g c top subs is = sym (c.in-Some.ensures top subs (c.deref.ensures.value ∙ is))

pub returns-in-None-clause-settles : goal.returns-in-None-clause-settles
returns-in-None-clause-settles g c =
    let i = c.loop-k.invariant in
    let t = c.loop-k.caller in
    let k = c.loop-k.k in
    let start = start_of c.args.hall.now in
    let u = view t.pass in
    let settling = settling_at start u t.number k t.session i.step.may (ap (λ (z : Session). z.stage) i.settled) in
    let none = sym (c.in-None.ensures settling.top settling.subs (c.deref.ensures.value ∙ settling.ids)) in
    (i.goes, (k, i.settled), λ id m. settled_all start u.seen t.number t.session.levels.open_ids.items k settling none id (subst (λ (z : Session). Contains z.levels.open_ids.items id) (sym i.settled) m))

pub returns-in-Err-clause-settles : goal.returns-in-Err-clause-settles
returns-in-Err-clause-settles g c =
    let i = c.loop-k.invariant in
    let n = c.args.caller.now.number in
    let s = c.args.caller.now.session in
    let t = c.loop-k.caller in
    let more = (view c.set_step.new.caller.pass).seen in
    let x = c.in-Err.ensures.sets in (
      goes_then n [] [] (view c.args.caller.now.pass).seen (view t.pass).seen more i.goes (subst (λ z. GoesOn z [] (view t.pass).seen more) i.number x.0),
      (c.loop-k.k, i.from, x.1 ∙ i.settled),
      subst (λ (b : By). IsXactFault more b c.in-Err.refusal) (λ j. by_at (i.number j) (i.settled j).levels.commands) x.2,
    )

pub loop-k-preserved : goal.loop-k-preserved
loop-k-preserved g c =
    let i = c.loop-k.invariant in
    let n = c.args.caller.now.number in
    let t = c.loop-k.caller in
    let k = c.loop-k.k in
    let e = c.set_step.ensures in
    let more = (view c.set_step.new.caller.pass).seen in
    let x = c.in-Ok.ensures.sets in
    record {
      step = e.step;
      settled = x.1 ∙ ap (λ (z : Session). record z { stage = stages.Settling (k + 1) }) i.settled;
      number = e.number ∙ i.number;
      goes = goes_then n [] [] (view c.args.caller.now.pass).seen (view t.pass).seen more i.goes (subst (λ z. GoesOn z [] (view t.pass).seen more) i.number x.0);
      from = (let f = i.from in omega arith);
      adds = adds_after (by_at n c.args.caller.now.session.levels.commands) (by_at t.number t.session.levels.commands) IsPlain (view c.args.caller.now.pass).seen (view t.pass).seen more (λ j. by_at (i.number j) (i.settled j).levels.commands) (λ lock kind m. m) i.adds c.in-Ok.ensures.adds;
    }

pub unreachable-requires : goal.unreachable-requires
unreachable-requires g c =
    let i = c.loop-k.invariant in
    let t = c.loop-k.caller in
    let start = start_of c.args.hall.now in
    let u = view t.pass in
    let few : length c.args.caller.now.session.levels.open_ids.items < 2 ^ 63 = search rules in
    let same = ap (λ (z : Session). length z.levels.open_ids.items) i.settled in
    let f = steps_few start u.seen t.number t.session.levels.open_ids.items c.loop-k.k (settling_at start u t.number c.loop-k.k t.session i.step.may (ap (λ (z : Session). z.stage) i.settled)) in
    let past = c.loop-k-test.false in
    omega arith

pub returns-in-None-clause-adds : goal.returns-in-None-clause-adds
returns-in-None-clause-adds g c = c.loop-k.invariant.adds

pub returns-in-Err-clause-adds : goal.returns-in-Err-clause-adds
returns-in-Err-clause-adds g c =
    let i = c.loop-k.invariant in
    let old = c.args.caller.now in
    let t = c.loop-k.caller in
    adds_after (by_at old.number old.session.levels.commands) (by_at t.number t.session.levels.commands) (MayMeet c.in-Err.refusal) (view old.pass).seen (view t.pass).seen (view c.set_step.new.caller.pass).seen (λ j. by_at (i.number j) (i.settled j).levels.commands) (plain_meets c.in-Err.refusal) i.adds c.in-Err.ensures.adds
