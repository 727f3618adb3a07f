use Rattle.std.proofs.Common.{ℕ, List, subst, sym}
use Rattle.log_sections.specs.LogSections.{IsAbortOf}
use Rattle.engine_parts.specs.Adding.{IsAbortOf}
use Rattle.engine_parts.proofs.Adding.{adds_nothing}
use Rattle.engine_parts.specs.Sessions.{by_at}
use Rattle.hall.specs.Calls.{start_of, view}
use Rattle.std.proofs.lemmas.Bool.{false≢true}
use Rattle.engine_parts.specs.declared.session.Stage.TheVariants as stages
use Rattle.xact_ends.proofs.Staging.{call_staged, taken_stage}
use Rattle.xact_ends.proofs.aborting.log_abort.Goals as goal

pub log_abort_record-appended-requires-clause-record : goal.log_abort_record-appended-requires-clause-record
log_abort_record-appended-requires-clause-record g c = subst (λ (l : List ℕ). IsAbortOf l c.in-Ok.rec) c.deref.ensures.value c.in-Ok.ensures

pub returns-in-Err-clause-adds : goal.returns-in-Err-clause-adds
returns-in-Err-clause-adds g c = let old = c.args.caller.now in adds_nothing (by_at old.number old.session.levels.commands) _ (view old.pass).seen

pub returns-in-Ok-clause-may : goal.returns-in-Ok-clause-may
returns-in-Ok-clause-may g c =
    let t = c.log_abort_record-appended.new.caller in
    let e = c.log_abort_record-appended.ensures in
    let start = start_of c.args.hall.now in
    let k = taken_stage start (view t.pass).seen c.in-Ok.rec c.args.caller.now.session t.session c.log_abort_record-appended.result c.requires.unrecorded e.takes in
    call_staged start (view t.pass) t.number t.session stages.Aborting (λ q. k.0) (λ q. absurd (false≢true (sym q))) e.may.ready tt

pub returns-in-Ok-clause-session : goal.returns-in-Ok-clause-session
returns-in-Ok-clause-session g c =
    let t = c.log_abort_record-appended.new.caller in
    (taken_stage (start_of c.args.hall.now) (view t.pass).seen c.in-Ok.rec c.args.caller.now.session t.session c.log_abort_record-appended.result c.requires.unrecorded c.log_abort_record-appended.ensures.takes).1

pub returns-in-Err-clause-may : goal.returns-in-Err-clause-may
returns-in-Err-clause-may g c =
    let old = c.args.caller.now in
    call_staged (start_of c.args.hall.now) (view old.pass) old.number old.session stages.Aborting (λ q. c.requires.unrecorded) (λ q. absurd (false≢true (sym q))) c.requires.may.ready tt
