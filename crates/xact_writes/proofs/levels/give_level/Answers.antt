use Rattle.std.proofs.Common.{ℕ, [], Err, Ok, inl, inr, refl, ap, subst, ◌∙◌}
use Rattle.hall.specs.Calls.{view, start_of}
use Rattle.tx_events.specs.declared.event.By.{By}
use Rattle.proc_table.specs.declared.answers.Given.TheVariants as answers
use Rattle.engine_parts.specs.declared.session.Session.{Session}
use Rattle.engine_parts.specs.Adding.{IsPlain, MayMeet}
use Rattle.engine_parts.specs.Sessions.{by_at}
use Rattle.engine_parts.specs.Steps.{WentOn}
use Rattle.engine_parts.proofs.Adding.{adds_after, adds_nothing, adds_wider, plain_meets}
use Rattle.engine_parts.proofs.Sectioning.{same_command}
use Rattle.engine_parts.proofs.Stepping.{went_nowhere, went_then}
use Rattle.proc_sections.specs.Givings.{GivesId}
use Rattle.bank_sections.specs.Faults.{IsBankFault}
use Rattle.xact_writes.proofs.Giving.{give_adds}
use Rattle.xact_writes.proofs.Alike.{alike_from}
use Rattle.xact_writes.proofs.levels.give_level.Goals as goal

pub loop-init : goal.loop-init
loop-init g c =
    let old = c.args.caller.now in
    (c.requires.step, went_nowhere old.number (view old.pass).seen, (refl, refl), adds_nothing (by_at old.number old.session.levels.commands) IsPlain (view old.pass).seen)

pub returns-in-Err-clause-gives : goal.returns-in-Err-clause-gives
returns-in-Err-clause-gives g c =
    let n = c.args.caller.now.number in
    let i = c.loop.invariant in
    let v = view c.args.caller.now.pass in
    let u = view c.loop.caller.pass in
    let w = view c.give_id.new.caller.pass in
    let m = c.in-Err.ensures.gives in (
      went_then n [] [] v.seen u.seen w.seen i.1 (subst (λ z. WentOn z [] u.seen w.seen) i.2.1 m.0),
      alike_from c.args.caller.now.session c.give_id.new.caller.session (m.1 ∙ i.2.0),
      inl m.2,
    )

pub returns-in-Id-clause-gives : goal.returns-in-Id-clause-gives
returns-in-Id-clause-gives g c =
    let start = start_of c.args.hall.now in
    let i = c.loop.invariant in
    let u = c.loop.caller in
    let w = c.give_id.new.caller in
    let a = subst (λ z. GivesId start u.number u.session w.session (view u.pass).seen (view w.pass).seen (Ok z)) c.in-Id.is c.in-Ok.ensures.gives in record {
      middle = (view u.pass).seen;
      went = i.1;
      given = subst (λ (z : ℕ × Session). GivesId start z.0 z.1 w.session (view u.pass).seen (view w.pass).seen (Ok (answers.Id c.in-Id.id c.in-Id.warn))) (λ j. (i.2.1 j, i.2.0 j)) a;
    }

pub returns-in-Err-clause-step : goal.returns-in-Err-clause-step
returns-in-Err-clause-step g c = let e = c.give_id.ensures in record { own = e.own; laid = c.requires.step.laid; each = c.requires.step.each; may = e.may }

pub returns-in-Id-clause-step : goal.returns-in-Id-clause-step
returns-in-Id-clause-step g c = let e = c.give_id.ensures in record { own = e.own; laid = c.requires.step.laid; each = c.requires.step.each; may = e.may }

pub make_pages-requires-clause-step : goal.make_pages-requires-clause-step
make_pages-requires-clause-step g c = let e = c.give_id.ensures in record { own = e.own; laid = c.requires.step.laid; each = c.requires.step.each; may = e.may }

pub make_pages-requires-clause-next : goal.make_pages-requires-clause-next
make_pages-requires-clause-next g c =
    let u = c.loop.caller in
    let w = c.give_id.new.caller in
    (subst (λ z. GivesId (start_of c.args.hall.now) u.number u.session w.session (view u.pass).seen (view w.pass).seen (Ok z)) c.in-NeedPage.is c.in-Ok.ensures.gives).1

pub returns-in-Err-make_pages-clause-gives : goal.returns-in-Err-make_pages-clause-gives
returns-in-Err-make_pages-clause-gives g c =
    let n = c.args.caller.now.number in
    let i = c.loop.invariant in
    let v = view c.args.caller.now.pass in
    let u = c.loop.caller in
    let x = c.give_id.new.caller in
    let w = c.make_pages.new.caller in
    let a = subst (λ z. GivesId (start_of c.args.hall.now) u.number u.session x.session (view u.pass).seen (view x.pass).seen (Ok z)) c.in-NeedPage.is c.in-Ok.ensures.gives in
    let e = c.in-Err-make_pages.ensures in
    let number = c.in-Ok.ensures.number ∙ i.2.1 in
    let session = a.3 ∙ i.2.0 in
    let first = went_then n [] [] v.seen (view u.pass).seen (view x.pass).seen i.1 (subst (λ z. WentOn z [] (view u.pass).seen (view x.pass).seen) i.2.1 a.0) in (
      went_then n [] [] v.seen (view x.pass).seen (view w.pass).seen first (subst (λ z. WentOn z [] (view x.pass).seen (view w.pass).seen) number e.went),
      alike_from c.args.caller.now.session w.session (e.same.0 ∙ session),
      inr (subst (λ (b : By). IsBankFault (view w.pass).seen b c.in-Err-make_pages.refusal) (λ j. by_at (number j) (ap (λ z. z.levels.commands) session j)) e.fault),
    )

pub loop-preserved : goal.loop-preserved
loop-preserved g c =
    let n = c.args.caller.now.number in
    let i = c.loop.invariant in
    let v = view c.args.caller.now.pass in
    let u = c.loop.caller in
    let x = c.give_id.new.caller in
    let w = c.make_pages.new.caller in
    let a = subst (λ z. GivesId (start_of c.args.hall.now) u.number u.session x.session (view u.pass).seen (view x.pass).seen (Ok z)) c.in-NeedPage.is c.in-Ok.ensures.gives in
    let e = c.in-Ok-make_pages.ensures in
    let number = c.in-Ok.ensures.number ∙ i.2.1 in
    let session = a.3 ∙ i.2.0 in
    let s = c.args.caller.now.session in
    let by = by_at n s.levels.commands in
    let first = went_then n [] [] v.seen (view u.pass).seen (view x.pass).seen i.1 (subst (λ z. WentOn z [] (view u.pass).seen (view x.pass).seen) i.2.1 a.0) in
    let given = adds_after by (by_at u.number u.session.levels.commands) IsPlain v.seen (view u.pass).seen (view x.pass).seen (same_command n u.number s u.session i.2.1 i.2.0) (λ lock kind m. m) i.3
    (give_adds (start_of c.args.hall.now) (view u.pass) (view x.pass) u.number u.session (Ok c.in-Ok.given) i.0.may.ready.at c.in-Ok.ensures.section) in (
      e.step,
      went_then n [] [] v.seen (view x.pass).seen (view w.pass).seen first (subst (λ z. WentOn z [] (view x.pass).seen (view w.pass).seen) number e.went),
      (e.same.0 ∙ session, e.same.1 ∙ number),
      adds_after by (by_at x.number x.session.levels.commands) IsPlain v.seen (view x.pass).seen (view w.pass).seen (same_command n x.number s x.session number session) (λ lock kind m. m) given e.adds,
    )

pub returns-in-Err-clause-adds : goal.returns-in-Err-clause-adds
returns-in-Err-clause-adds g c =
    let old = c.args.caller.now in
    let i = c.loop.invariant in
    let u = c.loop.caller in
    let w = view c.give_id.new.caller.pass in
    let by = by_at old.number old.session.levels.commands in
    adds_wider by IsPlain (MayMeet c.in-Err.refusal) (view old.pass).seen w.seen (plain_meets c.in-Err.refusal)
    (adds_after by (by_at u.number u.session.levels.commands) IsPlain (view old.pass).seen (view u.pass).seen w.seen (same_command old.number u.number old.session u.session i.2.1 i.2.0) (λ lock kind m. m) i.3
    (give_adds (start_of c.args.hall.now) (view u.pass) w u.number u.session (Err c.in-Err.refusal) i.0.may.ready.at c.in-Err.ensures.section))

pub returns-in-Id-clause-adds : goal.returns-in-Id-clause-adds
returns-in-Id-clause-adds g c =
    let old = c.args.caller.now in
    let i = c.loop.invariant in
    let u = c.loop.caller in
    let w = view c.give_id.new.caller.pass in
    let by = by_at old.number old.session.levels.commands in
    adds_after by (by_at u.number u.session.levels.commands) IsPlain (view old.pass).seen (view u.pass).seen w.seen (same_command old.number u.number old.session u.session i.2.1 i.2.0) (λ lock kind m. m) i.3
    (give_adds (start_of c.args.hall.now) (view u.pass) w u.number u.session (Ok c.in-Ok.given) i.0.may.ready.at c.in-Ok.ensures.section)

pub returns-in-Err-make_pages-clause-adds : goal.returns-in-Err-make_pages-clause-adds
returns-in-Err-make_pages-clause-adds g c =
    let old = c.args.caller.now in
    let n = old.number in
    let s = old.session in
    let i = c.loop.invariant in
    let v = view old.pass in
    let u = c.loop.caller in
    let x = c.give_id.new.caller in
    let w = c.make_pages.new.caller in
    let a = subst (λ z. GivesId (start_of c.args.hall.now) u.number u.session x.session (view u.pass).seen (view x.pass).seen (Ok z)) c.in-NeedPage.is c.in-Ok.ensures.gives in
    let number = c.in-Ok.ensures.number ∙ i.2.1 in
    let session = a.3 ∙ i.2.0 in
    let by = by_at n s.levels.commands in
    let given = adds_after by (by_at u.number u.session.levels.commands) IsPlain v.seen (view u.pass).seen (view x.pass).seen (same_command n u.number s u.session i.2.1 i.2.0) (λ lock kind m. m) i.3
    (give_adds (start_of c.args.hall.now) (view u.pass) (view x.pass) u.number u.session (Ok c.in-Ok.given) i.0.may.ready.at c.in-Ok.ensures.section) in
    adds_after by (by_at x.number x.session.levels.commands) (MayMeet c.in-Err-make_pages.refusal) v.seen (view x.pass).seen (view w.pass).seen (same_command n x.number s x.session number session) (plain_meets c.in-Err-make_pages.refusal) given c.in-Err-make_pages.ensures.adds
