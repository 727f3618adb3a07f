use Rattle.std.proofs.Common.{◌≡◌, ℕ, ◌≤◌, ap, ◌∙◌, subst, sym, refl, length}
use Rattle.hall.specs.Calls.{view, start_of}
use Rattle.tx_events.specs.declared.xact_end.XactEnd.TheVariants as ends
use Rattle.engine_parts.specs.declared.session.Session.{Session}
use Rattle.engine_parts.specs.declared.session.Stage.{Stage}
use Rattle.engine_parts.specs.Sessions.{by_at}
use Rattle.xact_ends.specs.Stops.{Stops}
use Rattle.xact_ends.proofs.Finishing.{finished_then, may_end_settled, settling_at, some_settling, tree_stops}
use Rattle.engine_parts.specs.Adding.{IsPlain}
use Rattle.xact_ends.proofs.Added.{both_add, end_adds}
use Rattle.xact_ends.proofs.committing.finish.Goals as goal

pub end_transaction-requires-clause-some : goal.end_transaction-requires-clause-some
end_transaction-requires-clause-some g c =
    let start = start_of c.args.hall.now in
    let v = view c.args.caller.now.pass in
    let s = c.args.caller.now.session in
    let n = c.args.caller.now.number in
    let settled = c.in-Ok.ensures.settles.1 in
    subst (λ (z : Session). 1 ≤ length z.levels.open_ids.items) (sym settled.1)
    (some_settling start v.seen n c.args.from s.levels.open_ids.items (settling_at start v n c.args.from s c.requires.step.may c.requires.stage))

pub end_transaction-requires-clause-end : goal.end_transaction-requires-clause-end
end_transaction-requires-clause-end g c =
    let x = c.in-Ok.ensures.settles in
    may_end_settled (start_of c.args.hall.now) (view c.set_tree.new.caller.pass).seen c.args.caller.now.session c.set_tree.new.caller.session x.1.0 x.1.1 x.2

pub returns-in-Ok-clause-step : goal.returns-in-Ok-clause-step
returns-in-Ok-clause-step g c = let e = c.end_transaction.ensures in record { own = e.own; laid = c.requires.step.laid; each = c.requires.step.each; may = e.may }

pub returns-in-Ok-clause-commits : goal.returns-in-Ok-clause-commits
returns-in-Ok-clause-commits g c =
    let x = c.in-Ok.ensures.settles in
    let t = c.set_tree.new.caller in
    finished_then c.args.caller.now.number t.number ends.Commit c.args.caller.now.session t.session c.end_transaction.new.caller.session (view c.args.caller.now.pass).seen (view t.pass).seen (view c.end_transaction.new.caller.pass).seen
    c.set_tree.ensures.number (ap (λ (z : Session). z.levels) x.1.1) (ap (λ (z : Session). z.making) x.1.1) x.0 c.end_transaction.ensures.ended

pub returns-in-Err-clause-commits : goal.returns-in-Err-clause-commits
returns-in-Err-clause-commits g c =
    let start = start_of c.args.hall.now in
    let s = c.args.caller.now.session in
    let u = view c.set_tree.new.caller.pass in
    let by = by_at c.args.caller.now.number s.levels.commands in
    let x = c.in-Err.ensures.settles in
    let is = x.1.2 in (
      x.0,
      ap (λ (z : Session). z.levels) is,
      subst (λ (z : Stage × Stage). Stops start u.seen by z.0 z.1 c.in-Err.refusal) (λ j. (sym c.requires.stage j, (sym is j).stage)) (tree_stops start u.seen by c.args.from x.1.0 c.in-Err.refusal x.1.1 x.2),
      ap (λ (z : Session). z.making) is,
    )

pub returns-in-Ok-clause-adds : goal.returns-in-Ok-clause-adds
returns-in-Ok-clause-adds g c =
    let old = c.args.caller.now in
    let t = c.set_tree.new.caller in
    let w = c.end_transaction.new.caller in
    let start = start_of c.args.hall.now in
    let v = view old.pass in
    let s = old.session in
    let settled = c.in-Ok.ensures.settles.1.1 in
    let some = subst (λ (z : Session). 1 ≤ length z.levels.open_ids.items) (sym settled) (some_settling start v.seen old.number c.args.from s.levels.open_ids.items (settling_at start v old.number c.args.from s c.requires.step.may c.requires.stage)) in
    both_add (by_at old.number s.levels.commands) (by_at t.number t.session.levels.commands) IsPlain IsPlain IsPlain v.seen (view t.pass).seen (view w.pass).seen (λ j. by_at (c.set_tree.ensures.number j) (settled j).levels.commands) (λ lock kind m. m) (λ lock kind m. m) c.in-Ok.ensures.adds
    (end_adds start (view t.pass) (view w.pass) t.number t.session ends.Commit c.set_tree.ensures.step.may.ready.at some c.end_transaction.ensures.section)
