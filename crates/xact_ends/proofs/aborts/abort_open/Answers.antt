use Rattle.std.proofs.Common.{rules, ◌≡◌, ℕ, ◌≤◌, List, [], ap, ◌∙◌, subst, sym, refl, length}
use Rattle.hall.specs.Calls.{view, start_of}
use Rattle.tx_events.specs.declared.xact_end.XactEnd.TheVariants as ends
use Rattle.xact_ends.proofs.Acts.{abort_free, ran_abort, ran_idless, abort_leaves}
use Rattle.engine_parts.proofs.Adding.{adds_wider}
use Rattle.engine_parts.specs.Sessions.{by_at}
use Rattle.xact_ends.proofs.aborts.abort_open.Goals as goal

pub returns-then-is_empty : goal.returns-then-is_empty
returns-then-is_empty g c =
    let none : c.args.caller.now.session.levels.open_ids.items ≡ [] = search rules in
    ran_idless c.args.hall.now ends.Abort c.args.caller.now c.close_idless.new.caller c.requires.step.own c.requires.step.may none c.requires.levels (abort_free c.args.caller.now.session.stage c.requires.stage) c.close_idless.ensures

pub returns : goal.returns
returns g c =
    let f = c.abort_named in
    let u = c.args.caller.now in
    let some : 1 ≤ length c.args.caller.now.session.levels.open_ids.items = search rules in
    ran_abort c.args.hall.now c.args.caller.now f.new.caller f.result f.ensures.step.own c.requires.step.may f.ensures.step.may f.ensures.number some c.requires.stage
    (adds_wider (by_at u.number u.session.levels.commands) _ _ (view u.pass).seen (view f.new.caller.pass).seen (abort_leaves (start_of c.args.hall.now) (view u.pass) u.number u.session c.requires.step.may.ready.at f.result) f.ensures.adds) f.ensures.aborts
