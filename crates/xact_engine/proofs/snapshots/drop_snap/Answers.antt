use Rattle.std.proofs.Common.{refl, ◌≡◌, ℕ, Option, None, is_none, sym, ap, ◌∙◌}
use Rattle.std.specs.Bool.{then_some}
use Rattle.tx_events.specs.declared.refusal.Refusal.TheVariants as refusals
use Rattle.tx_model.specs.declared.command.Command.TheVariants as commands
use Rattle.tx_model.specs.declared.reply.Reply.TheVariants as replies
use Rattle.tx_model.specs.Stance.{snap_of}
use Rattle.session_levels.specs.Stands as levels
use Rattle.session_levels.proofs.ActsLemmas.{snap_missing}
use Rattle.engine_parts.specs.Sessions.{stance_of}
use Rattle.engine_parts.proofs.Calling.{may_counted, own_counted, ran_counted, ran_refused}
use Rattle.xact_engine.proofs.Snapping.{any_found}
use Rattle.xact_engine.proofs.snapshots.drop_snap.Goals as goal

pub returns-in_default : goal.returns-in_default
returns-in_default g c =
    let old = c.args.caller.now in
    let s = stance_of old.session in
    let u = c.count.new.caller.session in
    let name = c.args.name.now in
    let none : snap_of name s ≡ None = sym (ap (λ z. snap_of name (levels.stance_of z)) c.count.ensures.levels) ∙ snap_missing name (stance_of u).levels u.levels.registered.items c.in_default.ensures.none in
    ran_refused c.args.hall.now old c.count.new.caller (commands.DropSnap name) refusals.NoSnapshot c.count.ensures c.requires refl refl
    (sym (ap (λ (o : Option ℕ). then_some (is_none o) refusals.NoSnapshot) none)) none

pub drop_registered-requires-clause-own : goal.drop_registered-requires-clause-own
drop_registered-requires-clause-own g c = own_counted c.args.hall.now c.args.caller.now c.count.new.caller c.count.ensures c.requires.step.own

pub drop_registered-requires-clause-may : goal.drop_registered-requires-clause-may
drop_registered-requires-clause-may g c = may_counted c.args.hall.now c.args.caller.now c.count.new.caller c.count.ensures c.requires

pub drop_registered-requires-clause-registered : goal.drop_registered-requires-clause-registered
drop_registered-requires-clause-registered g c = any_found c.args.name.now c.count.new.caller.session.levels.registered.items c.in-Some._registered.now c.in-Some.ensures.found

pub returns : goal.returns
returns g c = ran_counted c.args.hall.now c.args.caller.now c.count.new.caller c.drop_registered.new.caller (commands.DropSnap c.args.name.now) replies.Done c.count.ensures c.drop_registered.ensures

pub drop_registered-requires-clause-laid : goal.drop_registered-requires-clause-laid
drop_registered-requires-clause-laid g c = c.requires.step.laid
