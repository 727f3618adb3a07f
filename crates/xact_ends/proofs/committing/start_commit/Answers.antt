use Rattle.std.proofs.Common.{◌≡◌, ℕ, ◌≤◌, None, ap, ◌∙◌, subst, sym, refl, length, List, Err, Result}
use Rattle.hall.specs.Calls.{view, start_of}
use Rattle.tx_events.specs.declared.refusal.Refusal.{Refusal}
use Rattle.engine_parts.specs.declared.session.Session.{Session}
use Rattle.engine_parts.specs.declared.session.Stage.{Stage}
use Rattle.engine_parts.specs.declared.session.Stage.TheVariants as stages
use Rattle.engine_parts.specs.Sessions.{by_at}
use Rattle.bank_sections.specs.Faults.{IsSubtransFault}
use Rattle.log_sections.specs.Rooms.{IsOneOrBefore}
use Rattle.log_sections.proofs.Rooms.{met_for_then, met_never}
use Rattle.xact_ends.specs.Stops.{Stops}
use Rattle.xact_ends.proofs.Finishing.{commits_then, link_stops}
use Rattle.engine_parts.specs.Adding.{IsCommitOf, IsOfCommit, IsPlain, IsToldBy, MayAdd, MayMeet}
use Rattle.engine_parts.proofs.Adding.{adds_wider, may_wider, plain_wider}
use Rattle.xact_ends.proofs.Added.{both_add, fault_wider}
use Rattle.xact_ends.proofs.committing.start_commit.Goals as goal

pub log_and_finish-requires-clause-step : goal.log_and_finish-requires-clause-step
log_and_finish-requires-clause-step g c = let e = c.record_parent.ensures in record { own = e.own; laid = c.requires.step.laid; each = c.requires.step.each; may = e.may }

pub log_and_finish-requires-clause-stage : goal.log_and_finish-requires-clause-stage
log_and_finish-requires-clause-stage g c = ap (λ (z : Session). z.stage) c.in-Ok.ensures.recorded ∙ c.requires.stage

pub log_and_finish-requires-clause-linked : goal.log_and_finish-requires-clause-linked
log_and_finish-requires-clause-linked g c = ap (λ (z : Session). z.unlinked) c.in-Ok.ensures.recorded

pub log_and_finish-requires-clause-some : goal.log_and_finish-requires-clause-some
log_and_finish-requires-clause-some g c = subst (λ (z : Session). 1 ≤ length z.levels.open_ids.items) (sym c.in-Ok.ensures.recorded) c.requires.some

pub returns-in-Ok-clause-commits : goal.returns-in-Ok-clause-commits
returns-in-Ok-clause-commits g c =
    let start = start_of c.args.hall.now in
    let s = c.args.caller.now.session in
    let n = c.args.caller.now.number in
    let t = c.record_parent.new.caller in
    let x = c.log_and_finish.new.caller in
    let more = (view x.pass).seen in
    let recorded = c.in-Ok.ensures.recorded in
    commits_then start n t.number s t.session x.session (view c.args.caller.now.pass).seen (view t.pass).seen more c.log_and_finish.result c.record_parent.ensures.number (ap (λ (z : Session). z.levels) recorded) (ap (λ (z : Session). z.making) recorded) c.record_parent.ensures.went.on
    (λ e q. subst (λ (z : Stage). Stops start more (by_at n s.levels.commands) z x.session.stage e) (ap (λ (z : Session). z.stage) recorded) q)
    c.log_and_finish.ensures.commits

pub returns-in-Err-clause-step : goal.returns-in-Err-clause-step
returns-in-Err-clause-step g c = let e = c.record_parent.ensures in record { own = e.own; laid = c.requires.step.laid; each = c.requires.step.each; may = e.may }

pub returns-in-Err-clause-commits : goal.returns-in-Err-clause-commits
returns-in-Err-clause-commits g c =
    let start = start_of c.args.hall.now in
    let s = c.args.caller.now.session in
    let t = c.record_parent.new.caller in
    let x = c.in-Err.ensures.recorded in
    let by = by_at c.args.caller.now.number s.levels.commands in
    let stage : t.session.stage ≡ stages.Clear = ap (λ (z : Session). z.stage) x.0 ∙ c.requires.stage in (
      c.record_parent.ensures.went.on,
      ap (λ (z : Session). z.levels) x.0,
      subst (λ (z : Stage × Stage). Stops start (view t.pass).seen by z.0 z.1 c.in-Err.refusal) (λ j. (sym c.requires.stage j, sym stage j)) (link_stops start (view t.pass).seen by c.in-Err.refusal x.1),
      ap (λ (z : Session). z.making) x.0,
    )

pub returns-in-Ok-clause-adds : goal.returns-in-Ok-clause-adds
returns-in-Ok-clause-adds g c =
    let old = c.args.caller.now in
    let s = old.session in
    let t = c.record_parent.new.caller in
    let x = c.log_and_finish.new.caller in
    let r = c.log_and_finish.result in
    let recorded = c.in-Ok.ensures.recorded in
    let opened = s.levels.open_ids.items in
    let same : t.session.levels.open_ids.items ≡ opened = ap (λ (z : Session). z.levels.open_ids.items) recorded in
    both_add (by_at old.number s.levels.commands) (by_at t.number t.session.levels.commands) IsPlain (MayAdd (IsOfCommit t.session.levels.open_ids.items) (Unit {0}) (IsToldBy r)) (MayAdd (IsOfCommit opened) (Unit {0}) (IsToldBy r)) (view old.pass).seen (view t.pass).seen (view x.pass).seen (λ j. by_at (c.record_parent.ensures.number j) (recorded j).levels.commands)
    (plain_wider (IsOfCommit opened) (Unit {0}) (IsToldBy r)) (may_wider (IsOfCommit t.session.levels.open_ids.items) (IsOfCommit opened) (Unit {0}) (Unit {0}) (IsToldBy r) (IsToldBy r) (λ z of. subst (λ (l : List ℕ). IsOfCommit l z) same of) (λ m. m) (λ q m. m)) c.in-Ok.ensures.adds c.log_and_finish.ensures.adds

pub returns-in-Err-clause-adds : goal.returns-in-Err-clause-adds
returns-in-Err-clause-adds g c =
    let old = c.args.caller.now in
    let r = c.in-Err.refusal in
    adds_wider (by_at old.number old.session.levels.commands) (MayMeet r) _ (view old.pass).seen (view c.record_parent.new.caller.pass).seen (fault_wider (IsOfCommit old.session.levels.open_ids.items) (Unit {0}) {T = Unit {0}} (Err r)) c.in-Err.ensures.adds

pub returns-in-Ok-clause-full : goal.returns-in-Ok-clause-full
returns-in-Ok-clause-full g c =
    let old = c.args.caller.now in
    let t = c.record_parent.new.caller in
    let recorded = c.in-Ok.ensures.recorded in
    let opened = old.session.levels.open_ids.items in
    let same : t.session.levels.open_ids.items ≡ opened = ap (λ (z : Session). z.levels.open_ids.items) recorded in
    met_for_then (start_of c.args.hall.now) (view c.log_and_finish.new.caller.pass).seen (by_at t.number t.session.levels.commands) (by_at old.number old.session.levels.commands) (IsCommitOf t.session.levels.open_ids.items) (IsCommitOf opened) c.log_and_finish.result
    (λ j. by_at (c.record_parent.ensures.number j) (recorded j).levels.commands) (λ z of. subst (λ (l : List ℕ). IsCommitOf l z) same of) c.log_and_finish.ensures.full

pub returns-in-Err-clause-full : goal.returns-in-Err-clause-full
returns-in-Err-clause-full g c =
    let start = start_of c.args.hall.now in
    let old = c.args.caller.now in
    let by = by_at old.number old.session.levels.commands in
    let seen = (view c.record_parent.new.caller.pass).seen in
    let refused : Result (Unit {0}) Refusal = Err c.in-Err.refusal in
    met_never start seen by (IsOneOrBefore start seen by (IsCommitOf old.session.levels.open_ids.items)) (IsSubtransFault seen by) refused c.in-Err.ensures.recorded.1 (λ none. none)
