use Rattle.std.proofs.Common.{rules, ◌≡◌, ℕ, ◌≤◌, List, [], ap, ◌∙◌, subst, sym, refl, length}
use Rattle.hall.specs.Calls.{view, start_of}
use Rattle.tx_events.specs.declared.xact_end.XactEnd.TheVariants as ends
use Rattle.tx_model.specs.declared.command.Command.TheVariants as commands
use Rattle.life_law.specs.Refused.{held_by}
use Rattle.xact_ends.proofs.Acts.{ran_commit, ran_idless, commit_leaves}
use Rattle.engine_parts.proofs.Adding.{adds_wider}
use Rattle.engine_parts.specs.Sessions.{by_at}
use Rattle.engine_parts.specs.Stages.{pending_in}
use Rattle.engine_parts.specs.declared.session.Stage.{Stage}
use Rattle.xact_ends.proofs.commits.commit_anew.Goals as goal

pub returns-then-is_empty-clause-ran : goal.returns-then-is_empty-clause-ran
returns-then-is_empty-clause-ran g c =
    let none : c.args.caller.now.session.levels.open_ids.items ≡ [] = search rules in
    ran_idless c.args.hall.now ends.Commit c.args.caller.now c.close_idless.new.caller c.requires.step.own c.requires.step.may none c.requires.levels (ap (λ (z : Stage). held_by commands.Commit (pending_in z)) c.requires.stage) c.close_idless.ensures

pub returns-clause-ran : goal.returns-clause-ran
returns-clause-ran g c =
    let f = c.start_commit in
    let u = c.args.caller.now in
    let some : 1 ≤ length c.args.caller.now.session.levels.open_ids.items = search rules in
    ran_commit c.args.hall.now c.args.caller.now f.new.caller f.result f.ensures.step.own c.requires.step.may f.ensures.step.may f.ensures.number some (ap (λ (z : Stage). held_by commands.Commit (pending_in z)) c.requires.stage)
    (adds_wider (by_at u.number u.session.levels.commands) _ _ (view u.pass).seen (view f.new.caller.pass).seen (commit_leaves (start_of c.args.hall.now) (view u.pass) u.number u.session c.requires.step.may.ready.at f.result some c.requires.stage) f.ensures.adds) f.ensures.commits
