use Rattle.std.proofs.Common.{refl, ◌≡◌, ◌≤◌, Some, None, is_some, nat_le, length, arith, sym, ap, ◌∙◌, le-leb}
use Rattle.std.proofs.lemmas.List.{length-map}
use Rattle.tx_events.specs.declared.refusal.Refusal.TheVariants as refusals
use Rattle.tx_model.specs.declared.command.Command.TheVariants as commands
use Rattle.tx_model.specs.declared.reply.Reply.TheVariants as replies
use Rattle.tx_model.specs.Stance.{snap_of}
use Rattle.session_levels.specs.Stands.{told_of}
use Rattle.session_levels.specs.Stands as levels
use Rattle.session_levels.proofs.ActsLemmas.{snap_found, snap_missing}
use Rattle.engine_parts.specs.Answers.{reply_of}
use Rattle.engine_parts.specs.Sessions.{stance_of}
use Rattle.engine_parts.proofs.Calling.{may_counted, own_counted, ran_counted, ran_refused}
use Rattle.engine_parts.proofs.Refusing.{first_fails, first_holds}
use Rattle.xact_engine.proofs.snapshots.snap.Goals as goal

pub returns-in-Some : goal.returns-in-Some
returns-in-Some g c =
    let old = c.args.caller.now in
    let s = stance_of old.session in
    let u = c.count.new.caller.session in
    let name = c.args.name.now in
    let found : snap_of name s ≡ Some c.in-Some._registered.now.command = sym (ap (λ z. snap_of name (levels.stance_of z)) c.count.ensures.levels) ∙ snap_found name (stance_of u).levels u.levels.registered.items c.in-Some._registered.now c.in-Some.ensures.found in
    ran_refused c.args.hall.now old c.count.new.caller (commands.Snap name) refusals.NameTaken c.count.ensures c.requires refl refl
    (sym (first_holds (is_some (snap_of name s)) refusals.NameTaken _ (ap is_some found))) (λ none. let taken = found in cc)

pub returns-then-len-ge-MOST_SNAPS : goal.returns-then-len-ge-MOST_SNAPS
returns-then-len-ge-MOST_SNAPS g c =
    let old = c.args.caller.now in
    let s = stance_of old.session in
    let u = c.count.new.caller.session in
    let name = c.args.name.now in
    let none : snap_of name s ≡ None = sym (ap (λ z. snap_of name (levels.stance_of z)) c.count.ensures.levels) ∙ snap_missing name (stance_of u).levels u.levels.registered.items c.in_default.ensures.none in
    let many : 64 ≤ length s.snaps = let count = ap (λ z. length (levels.stance_of z).snaps) c.count.ensures.levels in omega (arith, length-map u.levels.registered.items told_of) in
    ran_refused c.args.hall.now old c.count.new.caller (commands.Snap name) refusals.SnapLimit c.count.ensures c.requires refl refl
    (sym (first_fails (is_some (snap_of name s)) refusals.NameTaken _ (ap is_some none) ∙ first_holds (nat_le 64 (length s.snaps)) refusals.SnapLimit None (le-leb 64 (length s.snaps) many))) (none, many)

pub returns : goal.returns
returns g c =
    ran_counted c.args.hall.now c.args.caller.now c.count.new.caller c.take.new.caller (commands.Snap c.args.name.now) (reply_of replies.Snapped c.take.result) c.count.ensures c.take.ensures

pub take-requires-clause-own : goal.take-requires-clause-own
take-requires-clause-own g c = own_counted c.args.hall.now c.args.caller.now c.count.new.caller c.count.ensures c.requires.step.own

pub take-requires-clause-may : goal.take-requires-clause-may
take-requires-clause-may g c = may_counted c.args.hall.now c.args.caller.now c.count.new.caller c.count.ensures c.requires

pub take-requires-clause-laid : goal.take-requires-clause-laid
take-requires-clause-laid g c = c.requires.step.laid
