use Rattle.std.proofs.Common.{Ok, ◌≡◌, ℕ, ap, ◌∙◌, subst, sym, refl, Err}
use Rattle.hall.specs.Calls.{view, start_of}
use Rattle.engine_parts.specs.declared.session.Session.{Session}
use Rattle.engine_parts.specs.declared.session.Stage.{Stage}
use Rattle.engine_parts.specs.declared.session.Stage.TheVariants as stages
use Rattle.engine_parts.specs.Sessions.{by_at}
use Rattle.engine_parts.specs.Stages.{may_be_aborted}
use Rattle.xact_ends.specs.Stops.{Stops}
use Rattle.xact_ends.proofs.Finishing.{commits_then, flush_stops, flushed_settling, logged_at, number_stands, stops_flushed}
use Rattle.xact_ends.proofs.Staging.{call_settled}
use Rattle.engine_parts.specs.Adding.{IsToldBy, MayAdd, MayFault}
use Rattle.engine_parts.proofs.Adding.{may_wider}
use Rattle.engine_parts.proofs.Sectioning.{same_command}
use Rattle.xact_ends.proofs.Added.{both_add, fault_wider, flush_adds}
use Rattle.xact_ends.proofs.committing.flush_and_finish.Goals as goal

pub flush_log-requires-clause-stands : goal.flush_log-requires-clause-stands
flush_log-requires-clause-stands g c =
    let start = start_of c.args.hall.now in
    let v = view c.args.caller.now.pass in
    let s = c.args.caller.now.session in
    let n = c.args.caller.now.number in
    number_stands start v.seen n c.args.number s.levels.open_ids.items (logged_at start v n c.args.number s c.requires.step.may c.requires.stage)

pub finish-requires-clause-step : goal.finish-requires-clause-step
finish-requires-clause-step g c =
    let start = start_of c.args.hall.now in
    let t = c.flush_log.new.caller in
    let w = view t.pass in
    let m = c.flush_log.ensures.may in
    let stage : t.session.stage ≡ stages.Logged c.args.number = ap (λ (z : Session). z.stage) c.flush_log.ensures.same.0 ∙ c.requires.stage in
    let l = logged_at start w t.number c.args.number t.session m stage in
    record {
      own = c.flush_log.ensures.own;
      laid = c.requires.step.laid;
      each = c.requires.step.each;
      may = call_settled start w t.number t.session 0 (ap may_be_aborted stage) m.ready (flushed_settling start w.seen t.number c.args.number t.session.levels.open_ids.items l c.in-Ok.ensures.flushes);
    }

pub returns-in-Ok-clause-commits : goal.returns-in-Ok-clause-commits
returns-in-Ok-clause-commits g c =
    let start = start_of c.args.hall.now in
    let s = c.args.caller.now.session in
    let n = c.args.caller.now.number in
    let t = c.flush_log.new.caller in
    let x = c.finish.new.caller in
    let more = (view x.pass).seen in
    let same = c.flush_log.ensures.same in
    commits_then start n t.number s (record t.session { stage = stages.Settling 0 }) x.session (view c.args.caller.now.pass).seen (view t.pass).seen more c.finish.result same.1 (ap (λ (z : Session). z.levels) same.0) (ap (λ (z : Session). z.making) same.0) c.flush_log.ensures.went.on
    (λ e q. subst (λ (z : Stage). Stops start more (by_at n s.levels.commands) z x.session.stage e) (sym c.requires.stage) (stops_flushed start more (by_at n s.levels.commands) c.args.number x.session.stage e q))
    c.finish.ensures.commits

pub returns-in-Err-clause-step : goal.returns-in-Err-clause-step
returns-in-Err-clause-step g c = let e = c.flush_log.ensures in record { own = e.own; laid = c.requires.step.laid; each = c.requires.step.each; may = e.may }

pub returns-in-Err-clause-commits : goal.returns-in-Err-clause-commits
returns-in-Err-clause-commits g c =
    let start = start_of c.args.hall.now in
    let s = c.args.caller.now.session in
    let t = c.flush_log.new.caller in
    let same = c.flush_log.ensures.same in
    let by = by_at c.args.caller.now.number s.levels.commands in
    let stage : t.session.stage ≡ stages.Logged c.args.number = ap (λ (z : Session). z.stage) same.0 ∙ c.requires.stage in (
      c.flush_log.ensures.went.on,
      ap (λ (z : Session). z.levels) same.0,
      subst (λ (z : Stage × Stage). Stops start (view t.pass).seen by z.0 z.1 c.in-Err.refusal) (λ j. (sym c.requires.stage j, sym stage j)) (flush_stops start (view t.pass).seen by c.args.number c.in-Err.refusal c.in-Err.ensures.flushes),
      ap (λ (z : Session). z.making) same.0,
    )

pub returns-in-Ok-clause-adds : goal.returns-in-Ok-clause-adds
returns-in-Ok-clause-adds g c =
    let old = c.args.caller.now in
    let t = c.flush_log.new.caller in
    let x = c.finish.new.caller in
    let same = c.flush_log.ensures.same in
    let by = by_at old.number old.session.levels.commands in
    let r = c.finish.result in
    both_add by (by_at t.number t.session.levels.commands) (MayAdd (λ rec. ⊥) (Unit {0}) (λ q. ⊥)) (MayFault r) (MayAdd (λ rec. ⊥) (Unit {0}) (IsToldBy r)) (view old.pass).seen (view t.pass).seen (view x.pass).seen (same_command old.number t.number old.session t.session same.1 same.0)
    (may_wider (λ rec. ⊥) (λ rec. ⊥) (Unit {0}) (Unit {0}) (λ q. ⊥) (IsToldBy r) (λ rec m. m) (λ m. m) (λ q m. absurd m)) (fault_wider (λ rec. ⊥) (Unit {0}) r)
    (flush_adds {T = Unit {0}} (start_of c.args.hall.now) (view old.pass) (view t.pass) by old.session c.args.number (Ok tt) c.requires.step.may.ready.at c.in-Ok.ensures.section) c.finish.ensures.adds

pub returns-in-Err-clause-adds : goal.returns-in-Err-clause-adds
returns-in-Err-clause-adds g c =
    let old = c.args.caller.now in
    flush_adds {T = Unit {0}} (start_of c.args.hall.now) (view old.pass) (view c.flush_log.new.caller.pass) (by_at old.number old.session.levels.commands) old.session c.args.number (Err c.in-Err.refusal) c.requires.step.may.ready.at c.in-Err.ensures.section
