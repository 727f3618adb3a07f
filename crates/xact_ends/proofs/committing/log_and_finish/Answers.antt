use Rattle.std.proofs.Common.{◌≡◌, ℕ, List, Ok, ap, ◌∙◌, subst, sym}
use Rattle.hall.specs.Calls.{view, start_of}
use Rattle.tx_events.specs.declared.refusal.Refusal.TheVariants as refusals
use Rattle.engine_parts.specs.declared.session.Session.{Session}
use Rattle.engine_parts.specs.declared.session.Stage.{Stage}
use Rattle.engine_parts.specs.declared.session.Stage.TheVariants as stages
use Rattle.engine_parts.specs.Sessions.{by_at}
use Rattle.log_sections.specs.declared.appending.Appended.{Appended}
use Rattle.log_sections.specs.declared.appending.Appended.TheVariants as came
use Rattle.log_sections.specs.LogSections.{Appends, IsCommitOf}
use Rattle.xact_ends.specs.Logged.{IsNumbered}
use Rattle.xact_ends.specs.Stops.{Stops}
use Rattle.log_sections.specs.Rooms.{IsOneOrBefore}
use Rattle.xact_ends.proofs.Rooms.{IsBegun, recorded_never}
use Rattle.xact_ends.proofs.Finishing.{append_stops, commits_then, stops_appended}
use Rattle.engine_parts.specs.Adding.{IsOfCommit, IsToldBy, MayAdd}
use Rattle.engine_parts.proofs.Adding.{adds_nothing, adds_wider, may_wider}
use Rattle.xact_ends.proofs.Added.{both_add}
use Rattle.xact_ends.proofs.committing.log_and_finish.Goals as goal

pub log_commit_record-requires-clause-record : goal.log_commit_record-requires-clause-record
log_commit_record-requires-clause-record g c = subst (λ (l : List ℕ). IsCommitOf l c.in-Ok.rec) c.deref.ensures.value c.in-Ok.ensures

pub flush_and_finish-requires-clause-step : goal.flush_and_finish-requires-clause-step
flush_and_finish-requires-clause-step g c = let e = c.log_commit_record.ensures in record { own = e.own; laid = c.requires.step.laid; each = c.requires.step.each; may = e.may }

pub returns-clause-step : goal.returns-clause-step
returns-clause-step g c = let e = c.log_commit_record.ensures in record { own = e.own; laid = c.requires.step.laid; each = c.requires.step.each; may = e.may }

pub returns-clause-commits : goal.returns-clause-commits
returns-clause-commits g c =
    let start = start_of c.args.hall.now in
    let s = c.args.caller.now.session in
    let t = c.log_commit_record.new.caller in
    let by = by_at c.args.caller.now.number s.levels.commands in
    let x = c.in-Err-log_commit_record.ensures.appends in
    let stage : t.session.stage ≡ stages.Clear = ap (λ (z : Session). z.stage) x.0 ∙ c.requires.stage in (
      c.log_commit_record.ensures.went.on,
      ap (λ (z : Session). z.levels) x.0,
      subst (λ (z : Stage × Stage). Stops start (view t.pass).seen by z.0 z.1 c.in-Err-log_commit_record.refusal) (λ j. (sym c.requires.stage j, sym stage j)) (append_stops start (view t.pass).seen by c.in-Err-log_commit_record.refusal x.1),
      ap (λ (z : Session). z.making) x.0,
    )

pub returns-in-At-clause-commits : goal.returns-in-At-clause-commits
returns-in-At-clause-commits g c =
    let start = start_of c.args.hall.now in
    let s = c.args.caller.now.session in
    let n = c.args.caller.now.number in
    let t = c.log_commit_record.new.caller in
    let x = c.flush_and_finish.new.caller in
    let more = (view x.pass).seen in
    let number = c.in-At.number in
    let by = by_at n s.levels.commands in
    let appends : Appends start (view t.pass).seen c.in-Ok.rec s t.session (Ok (came.At number)) = subst (λ (a : Appended). Appends start (view t.pass).seen c.in-Ok.rec s t.session (Ok a)) c.in-At.is c.in-Ok-log_commit_record.ensures.appends in
    commits_then start n t.number s t.session x.session (view c.args.caller.now.pass).seen (view t.pass).seen more c.flush_and_finish.result c.log_commit_record.ensures.number (ap (λ (z : Session). z.levels) appends) (ap (λ (z : Session). z.making) appends) c.log_commit_record.ensures.went.on
    (λ e q. subst (λ (z : Stage). Stops start more by z x.session.stage e) (sym c.requires.stage) (stops_appended start more by number x.session.stage e (subst (λ (z : Stage). Stops start more by z x.session.stage e) (ap (λ (z : Session). z.stage) appends) q)))
    c.flush_and_finish.ensures.commits

pub returns-in-Err-clause-adds : goal.returns-in-Err-clause-adds
returns-in-Err-clause-adds g c = let old = c.args.caller.now in adds_nothing (by_at old.number old.session.levels.commands) _ (view old.pass).seen

pub returns-clause-adds : goal.returns-clause-adds
returns-clause-adds g c =
    let old = c.args.caller.now in
    let t = c.log_commit_record.new.caller in
    let by = by_at old.number old.session.levels.commands in
    let opened = old.session.levels.open_ids.items in
    let rec = c.in-Ok.rec in
    let r = c.in-Err-log_commit_record.refusal in
    adds_wider by (MayAdd (IsOfCommit opened) ⊥ (λ q. ⊥)) (MayAdd (IsOfCommit opened) (Unit {0}) (λ q. r ≡ q)) (view old.pass).seen (view t.pass).seen
    (may_wider (IsOfCommit opened) (IsOfCommit opened) ⊥ (Unit {0}) (λ q. ⊥) (λ q. r ≡ q) (λ z m. m) (λ m. absurd m) (λ q m. absurd m)) c.log_commit_record.ensures.adds

pub returns-in-At-clause-adds : goal.returns-in-At-clause-adds
returns-in-At-clause-adds g c =
    let start = start_of c.args.hall.now in
    let old = c.args.caller.now in
    let s = old.session in
    let t = c.log_commit_record.new.caller in
    let x = c.flush_and_finish.new.caller in
    let by = by_at old.number s.levels.commands in
    let opened = s.levels.open_ids.items in
    let rec = c.in-Ok.rec in
    let r = c.flush_and_finish.result in
    let appends : Appends start (view t.pass).seen rec s t.session (Ok (came.At c.in-At.number)) = subst (λ (a : Appended). Appends start (view t.pass).seen rec s t.session (Ok a)) c.in-At.is c.in-Ok-log_commit_record.ensures.appends in
    both_add by (by_at t.number t.session.levels.commands) (MayAdd (IsOfCommit opened) ⊥ (λ q. ⊥)) (MayAdd (λ z. ⊥) (Unit {0}) (IsToldBy r)) (MayAdd (IsOfCommit opened) (Unit {0}) (IsToldBy r)) (view old.pass).seen (view t.pass).seen (view x.pass).seen (λ j. by_at (c.log_commit_record.ensures.number j) (appends j).levels.commands)
    (may_wider (IsOfCommit opened) (IsOfCommit opened) ⊥ (Unit {0}) (λ q. ⊥) (IsToldBy r) (λ z m. m) (λ m. absurd m) (λ q m. absurd m))
    (may_wider (λ z. ⊥) (IsOfCommit opened) (Unit {0}) (Unit {0}) (IsToldBy r) (IsToldBy r) (λ z m. absurd m) (λ m. m) (λ q m. m))
    c.log_commit_record.ensures.adds c.flush_and_finish.ensures.adds

pub unreachable-requires : goal.unreachable-requires
unreachable-requires g c = subst (λ (a : Appended). IsNumbered (Ok a)) c.in-NoBase.is c.in-Ok-log_commit_record.ensures.numbered

pub returns-in-Err-clause-full : goal.returns-in-Err-clause-full
returns-in-Err-clause-full g c is = let two : refusals.Memory ≡ refusals.Full = is in absurd cc

pub returns-clause-full : goal.returns-clause-full
returns-clause-full g c = c.in-Err-log_commit_record.ensures.full

pub returns-in-At-clause-full : goal.returns-in-At-clause-full
returns-in-At-clause-full g c =
    let start = start_of c.args.hall.now in
    let s = c.args.caller.now.session in
    let by = by_at c.args.caller.now.number s.levels.commands in
    let t = c.log_commit_record.new.caller in
    let x = c.flush_and_finish.new.caller in
    let appends : Appends start (view t.pass).seen c.in-Ok.rec s t.session (Ok (came.At c.in-At.number)) = subst (λ (a : Appended). Appends start (view t.pass).seen c.in-Ok.rec s t.session (Ok a)) c.in-At.is c.in-Ok-log_commit_record.ensures.appends in
    recorded_never start t x by (IsOneOrBefore start (view x.pass).seen by (IsCommitOf s.levels.open_ids.items)) c.flush_and_finish.result (subst (λ (z : Session). IsBegun z.stage) (sym appends) tt) c.flush_and_finish.ensures.commits
