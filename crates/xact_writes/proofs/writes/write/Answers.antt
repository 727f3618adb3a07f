use Rattle.std.proofs.Common.{refl, ◌≡◌, ℕ, ◌==◌, List, ap, ◌∙◌, sym, subst, Some, length, arith, eq-eqb, ne_eqb, IfErr, Option, inr}
use Rattle.std.proofs.lemmas.List.{nil_from_length}
use Rattle.hall.specs.Calls.{view}
use Rattle.tx_events.specs.declared.refusal.Refusal.TheVariants as refusals
use Rattle.tx_model.specs.declared.command.Command.TheVariants as commands
use Rattle.tx_core.specs.declared.entry.Entry.{Entry}
use Rattle.session_levels.specs.Stands as levels
use Rattle.engine_parts.specs.Answers.{reply_of}
use Rattle.engine_parts.specs.Sessions.{stance_of}
use Rattle.engine_parts.specs.Stages.{pending_in}
use Rattle.engine_parts.proofs.Calling.{may_counted, ran_counted, ran_held, ran_refused, step_counted}
use Rattle.engine_parts.proofs.Refusing.{first_fails, first_holds, held_up}
use Rattle.xact_writes.specs.Writes.{IsFresh, reply_to, IsFiledBehind}
use Rattle.xact_writes.proofs.Writing.{clear_stage, fresh_next}
use Rattle.engine_parts.specs.declared.session.Unlinked.{Unlinked}
use Rattle.xact_writes.proofs.Filing.{filed_same}
use Rattle.xact_writes.proofs.writes.write.Goals as goal

pub depth-requires : goal.depth-requires
depth-requires g c = (may_counted c.args.hall.now c.args.caller.now c.count.new.caller c.count.ensures c.requires).ready.at.stands.depth

pub returns-then-depth-eq0-clause-ran : goal.returns-then-depth-eq0-clause-ran
returns-then-depth-eq0-clause-ran g c =
    let old = c.args.caller.now in
    let s = stance_of old.session in
    let empty : length s.levels ≡ 0 = let d = c.depth.ensures in let t = c.if-depth-eq0.true in let same = ap (λ z. length (levels.levels_of z.level_ids.items z.unnamed)) c.count.ensures.levels in omega arith in
    ran_refused c.args.hall.now old c.count.new.caller commands.Write refusals.NoTransaction c.count.ensures c.requires refl refl
    (sym (first_holds (length s.levels == 0) refusals.NoTransaction _ (eq-eqb (length s.levels) 0 empty))) (nil_from_length s.levels empty)

pub returns-in-Some-clause-ran : goal.returns-in-Some-clause-ran
returns-in-Some-clause-ran g c =
    let old = c.args.caller.now in
    let s = stance_of old.session in
    let stage = old.session.stage in
    let r = c.in-Some.refusal in
    let pending : pending_in stage ≡ Some r = sym (c.pending.ensures ∙ ap pending_in c.count.ensures.stage) ∙ c.in-Some.is in
    ran_held c.args.hall.now old c.count.new.caller commands.Write r c.count.ensures c.requires refl pending
    (first_fails (length s.levels == 0) refusals.NoTransaction _ (ne_eqb (length s.levels) 0 (λ e. let d = c.depth.ensures in let t = c.if-depth-eq0.false in let same = ap (λ z. length (levels.levels_of z.level_ids.items z.unnamed)) c.count.ensures.levels in omega arith))
    ∙ held_up (pending_in stage) r _ pending)

pub name_levels-requires-clause-step : goal.name_levels-requires-clause-step
name_levels-requires-clause-step g c = step_counted c.args.hall.now c.args.caller.now c.count.new.caller c.count.ensures c.requires

pub name_levels-requires-clause-clear : goal.name_levels-requires-clause-clear
name_levels-requires-clause-clear g c = clear_stage c.count.new.caller.session.stage (sym c.pending.ensures ∙ c.in_default.is)

pub name_levels-requires-clause-fresh : goal.name_levels-requires-clause-fresh
name_levels-requires-clause-fresh g c =
    let old = c.args.caller.now in
    let u = c.count.new.caller in
    let k = c.count.ensures in
    let fresh = fresh_next old.number old.session.levels.commands (view old.pass).seen c.requires.step.may.ready.at.stands.turn in
    subst (λ (z : (List (List Entry) × ℕ) × ℕ). IsFresh z.0.0 z.0.1 z.1) (λ j. (((view (sym k.pass j)).seen, sym k.number j), (sym k.levels j).commands)) fresh

pub name_levels-requires-clause-some : goal.name_levels-requires-clause-some
name_levels-requires-clause-some g c = let d = c.depth.ensures in let t = c.if-depth-eq0.false in omega arith

pub returns-clause-ran : goal.returns-clause-ran
returns-clause-ran g c = ran_counted c.args.hall.now c.args.caller.now c.count.new.caller c.name_levels.new.caller commands.Write (reply_of reply_to c.name_levels.result) c.count.ensures c.name_levels.ensures.ran

pub returns-then-depth-eq0-clause-filed : goal.returns-then-depth-eq0-clause-filed
returns-then-depth-eq0-clause-filed g c = inr c.count.ensures.unlinked

pub returns-in-Some-clause-filed : goal.returns-in-Some-clause-filed
returns-in-Some-clause-filed g c = filed_same c.args.caller.now.session.unlinked c.count.new.caller.session.unlinked c.in-Some.refusal c.count.ensures.unlinked

pub returns-clause-filed : goal.returns-clause-filed
returns-clause-filed g c =
    let w = c.name_levels.new.caller.session in
    subst (λ (o : Option Unlinked). IfErr c.name_levels.result (IsFiledBehind o w.unlinked)) c.count.ensures.unlinked c.name_levels.ensures.filed
