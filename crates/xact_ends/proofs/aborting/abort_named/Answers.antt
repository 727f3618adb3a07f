use Rattle.std.proofs.Common.{◌≡◌, ℕ, ◌≤◌, [], ap, ◌∙◌, subst, sym, refl, length}
use Rattle.hall.specs.Calls.{view, start_of}
use Rattle.tx_events.specs.declared.event.By.{By}
use Rattle.tx_events.specs.declared.xact_end.XactEnd.TheVariants as ends
use Rattle.engine_parts.specs.declared.session.Session.{Session}
use Rattle.engine_parts.specs.Sessions.{by_at, stance_of}
use Rattle.engine_parts.specs.Stages.{may_be_recorded}
use Rattle.engine_parts.specs.Steps.{GoesOn}
use Rattle.engine_parts.proofs.Stepping.{goes_then}
use Rattle.bank_sections.specs.Faults.{IsXactFault}
use Rattle.xact_ends.proofs.Aborted.{may_end_aborted}
use Rattle.xact_ends.proofs.Finishing.{finished_then}
use Rattle.engine_parts.specs.Adding.{IsPlain, IsRecordBy, MayAdd, MayMeet}
use Rattle.engine_parts.proofs.Adding.{may_wider, plain_wider}
use Rattle.xact_ends.proofs.Added.{both_add, end_adds}
use Rattle.tx_model.specs.declared.command.Command.TheVariants as commands
use Rattle.xact_ends.proofs.aborting.abort_named.Goals as goal

pub set_aborted-requires-clause-step : goal.set_aborted-requires-clause-step
set_aborted-requires-clause-step g c = let e = c.start_abort.ensures in record { own = e.own; laid = c.requires.step.laid; each = c.requires.step.each; may = e.may }

pub end_transaction-requires-clause-some : goal.end_transaction-requires-clause-some
end_transaction-requires-clause-some g c = subst (λ (z : Session). 1 ≤ length z.levels.open_ids.items) (sym (c.in-Ok.ensures.sets.1 ∙ c.start_abort.ensures.session)) c.requires.some

pub end_transaction-requires-clause-end : goal.end_transaction-requires-clause-end
end_transaction-requires-clause-end g c =
    let x = c.in-Ok.ensures.sets in
    let t = c.start_abort.new.caller in
    may_end_aborted (start_of c.args.hall.now) (view c.set_aborted.new.caller.pass).seen t.session c.set_aborted.new.caller.session x.1 (ap (λ (z : Session). may_be_recorded z.stage) c.start_abort.ensures.session) x.2

pub returns-in-Ok-clause-step : goal.returns-in-Ok-clause-step
returns-in-Ok-clause-step g c = let e = c.end_transaction.ensures in record { own = e.own; laid = c.requires.step.laid; each = c.requires.step.each; may = e.may }

pub returns-in-Ok-clause-aborts : goal.returns-in-Ok-clause-aborts
returns-in-Ok-clause-aborts g c =
    let x = c.in-Ok.ensures.sets in
    let n = c.args.caller.now.number in
    let a = c.start_abort.new.caller in
    let t = c.set_aborted.new.caller in
    let first = (view c.args.caller.now.pass).seen in
    let mid = (view a.pass).seen in
    let more = (view t.pass).seen in
    finished_then n t.number ends.Abort c.args.caller.now.session t.session c.end_transaction.new.caller.session first more (view c.end_transaction.new.caller.pass).seen
    (c.set_aborted.ensures.number ∙ c.start_abort.ensures.number) (ap (λ (z : Session). z.levels) (x.1 ∙ c.start_abort.ensures.session)) (ap (λ (z : Session). z.making) (x.1 ∙ c.start_abort.ensures.session))
    (goes_then n [] [] first mid more c.start_abort.ensures.goes (subst (λ z. GoesOn z [] mid more) c.start_abort.ensures.number x.0)) c.end_transaction.ensures.ended

pub returns-in-Err-clause-aborts : goal.returns-in-Err-clause-aborts
returns-in-Err-clause-aborts g c =
    let x = c.in-Err.ensures.sets in
    let n = c.args.caller.now.number in
    let a = c.start_abort.ensures in
    let first = (view c.args.caller.now.pass).seen in
    let mid = (view c.start_abort.new.caller.pass).seen in
    let more = (view c.set_aborted.new.caller.pass).seen in (
      goes_then n [] [] first mid more a.goes (subst (λ z. GoesOn z [] mid more) a.number x.0),
      ap (λ (z : Session). z.levels) (x.1 ∙ a.session),
      ap (λ (z : Session). z.stage) (x.1 ∙ a.session),
      subst (λ (b : By). IsXactFault more b c.in-Err.refusal) (λ j. by_at (a.number j) (a.session j).levels.commands) x.2,
      ap (λ (z : Session). z.making) (x.1 ∙ a.session),
    )

pub returns-in-Ok-clause-adds : goal.returns-in-Ok-clause-adds
returns-in-Ok-clause-adds g c =
    let old = c.args.caller.now in
    let n = old.number in
    let s = old.session in
    let by = by_at n s.levels.commands in
    let t = c.start_abort.new.caller in
    let u = c.set_aborted.new.caller in
    let w = c.end_transaction.new.caller in
    let x = c.in-Ok.ensures.sets in
    let a = c.start_abort.ensures in
    let start = start_of c.args.hall.now in
    let Records = IsRecordBy commands.Abort (stance_of s) s.stage s.levels.open_ids.items in
    let May = MayAdd Records ⊥ (λ r. ⊥) in
    let some = subst (λ (z : Session). 1 ≤ length z.levels.open_ids.items) (sym (x.1 ∙ a.session)) c.requires.some in
    let mid = both_add by (by_at t.number t.session.levels.commands) May IsPlain May (view old.pass).seen (view t.pass).seen (view u.pass).seen (λ j. by_at (a.number j) (a.session j).levels.commands) (λ lock kind m. m) (plain_wider Records ⊥ (λ r. ⊥)) a.adds c.in-Ok.ensures.adds in
    both_add by (by_at u.number u.session.levels.commands) May IsPlain May (view old.pass).seen (view u.pass).seen (view w.pass).seen (λ j. by_at ((c.set_aborted.ensures.number ∙ a.number) j) ((x.1 ∙ a.session) j).levels.commands) (λ lock kind m. m) (plain_wider Records ⊥ (λ r. ⊥)) mid
    (end_adds start (view u.pass) (view w.pass) u.number u.session ends.Abort c.set_aborted.ensures.step.may.ready.at some c.end_transaction.ensures.section)

pub returns-in-Err-clause-adds : goal.returns-in-Err-clause-adds
returns-in-Err-clause-adds g c =
    let old = c.args.caller.now in
    let n = old.number in
    let s = old.session in
    let by = by_at n s.levels.commands in
    let t = c.start_abort.new.caller in
    let a = c.start_abort.ensures in
    let r = c.in-Err.refusal in
    let Records = IsRecordBy commands.Abort (stance_of s) s.stage s.levels.open_ids.items in
    both_add by (by_at t.number t.session.levels.commands) (MayAdd Records ⊥ (λ q. ⊥)) (MayMeet r) (MayAdd Records ⊥ (λ q. r ≡ q)) (view old.pass).seen (view t.pass).seen (view c.set_aborted.new.caller.pass).seen (λ j. by_at (a.number j) (a.session j).levels.commands)
    (may_wider Records Records ⊥ ⊥ (λ q. ⊥) (λ q. r ≡ q) (λ rec m. m) (λ m. m) (λ q m. absurd m)) (may_wider (λ rec. ⊥) Records ⊥ ⊥ (λ q. r ≡ q) (λ q. r ≡ q) (λ rec m. absurd m) (λ m. m) (λ q m. m)) a.adds c.in-Err.ensures.adds
