use Rattle.std.proofs.Common.{refl, ◌≡◌, ℕ, ◌≤◌, [], true, false, ap, ◌∙◌, sym, subst, ◌==◌, None, Some, length, arith, eq-eqb, ne_eqb}
use Rattle.std.proofs.lemmas.List.{nil_from_length}
use Rattle.hall.specs.Calls.{start_of, view}
use Rattle.tx_events.specs.declared.refusal.Refusal.TheVariants as refusals
use Rattle.tx_model.specs.declared.command.Command.TheVariants as commands
use Rattle.session_levels.specs.Stands as levels
use Rattle.engine_parts.specs.Sessions.{stance_of}
use Rattle.engine_parts.specs.Stages.{may_be_recorded, pending_in}
use Rattle.life_law.specs.Refused.{held_by}
use Rattle.engine_parts.proofs.Calling.{may_counted, ran_counted, ran_held, ran_refused, step_counted}
use Rattle.engine_parts.proofs.Refusing.{first_fails, first_holds, held_up}
use Rattle.xact_ends.proofs.Acts.{abort_held}
use Rattle.xact_ends.proofs.aborts.abort.Goals as goal

pub depth-requires : goal.depth-requires
depth-requires g c = (may_counted c.args.hall.now c.args.caller.now c.count.new.caller c.count.ensures c.requires).ready.at.stands.depth

pub returns-then-depth-eq0 : goal.returns-then-depth-eq0
returns-then-depth-eq0 g c =
    let old = c.args.caller.now in
    let s = stance_of old.session in
    let empty : length s.levels ≡ 0 = let d = c.depth.ensures in let t = c.if-depth-eq0.true in let same = ap (λ z. length (levels.levels_of z.level_ids.items z.unnamed)) c.count.ensures.levels in omega arith in
    ran_refused c.args.hall.now old c.count.new.caller commands.Abort refusals.NoTransaction c.count.ensures c.requires refl refl
    (sym (first_holds (length s.levels == 0) refusals.NoTransaction _ (eq-eqb (length s.levels) 0 empty))) (nil_from_length s.levels empty)

pub returns-then-is_recorded : goal.returns-then-is_recorded
returns-then-is_recorded g c =
    let old = c.args.caller.now in
    let s = stance_of old.session in
    let stage = old.session.stage in
    let recorded : may_be_recorded stage ≡ true = ap may_be_recorded (sym c.count.ensures.stage) ∙ (sym c.is_recorded.ensures ∙ c.if-is_recorded.true) in
    let held = abort_held stage recorded in
    ran_held c.args.hall.now old c.count.new.caller commands.Abort refusals.CommitPending c.count.ensures c.requires refl held.0
    (first_fails (length s.levels == 0) refusals.NoTransaction _ (ne_eqb (length s.levels) 0 (λ e. let d = c.depth.ensures in let t = c.if-depth-eq0.false in let same = ap (λ z. length (levels.levels_of z.level_ids.items z.unnamed)) c.count.ensures.levels in omega arith))
    ∙ held_up (held_by commands.Abort (pending_in stage)) refusals.CommitPending _ held.1)

pub abort_open-requires-clause-step : goal.abort_open-requires-clause-step
abort_open-requires-clause-step g c = step_counted c.args.hall.now c.args.caller.now c.count.new.caller c.count.ensures c.requires

pub abort_open-requires-clause-stage : goal.abort_open-requires-clause-stage
abort_open-requires-clause-stage g c = sym c.is_recorded.ensures ∙ c.if-is_recorded.false

pub abort_open-requires-clause-levels : goal.abort_open-requires-clause-levels
abort_open-requires-clause-levels g c = let d = c.depth.ensures in let t = c.if-depth-eq0.false in omega arith

pub returns : goal.returns
returns g c = ran_counted c.args.hall.now c.args.caller.now c.count.new.caller c.abort_open.new.caller commands.Abort _ c.count.ensures c.abort_open.ensures
