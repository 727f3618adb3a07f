use Rattle.std.proofs.Common.{[], ◌∷◌, ℕ, arith, le-leb, refl, subst, ◌<◌, ◌∙◌, ◌≤◌}
use Rattle.hall.specs.Calls.{view, start_of}
use Rattle.tx_events.specs.declared.refusal.Refusal.TheVariants as refusals
use Rattle.tx_events.specs.Running.{open_ids}
use Rattle.tx_model.specs.declared.command.Command.TheVariants as commands
use Rattle.tx_model.specs.declared.reply.Reply.TheVariants as replies
use Rattle.tx_model.specs.Replies.{alone}
use Rattle.tx_core.specs.Entries.{history}
use Rattle.tx_core.specs.declared.entry.Kind.TheVariants as kinds
use Rattle.engine_parts.specs.declared.session.Session.{Session}
use Rattle.engine_parts.specs.Adding.{IsPlain, MayLeave, MayMeet}
use Rattle.engine_parts.specs.Answers.{MayAnswer}
use Rattle.engine_parts.specs.Sessions.{by_at, stance_of}
use Rattle.engine_parts.specs.Steps.{WentOn}
use Rattle.engine_parts.proofs.Adding.{adds_nothing, adds_wider, met_leaves, plain_leaves, plain_meets}
use Rattle.engine_parts.proofs.Calling.{may_counted, own_counted}
use Rattle.engine_parts.proofs.Sectioning.{proc_section_adds}
use Rattle.engine_parts.proofs.Stepping.{went_nowhere, went_then}
use Rattle.engine_parts.proofs.Unmoved.{look_adds, ran_read, ran_unmoved}
use Rattle.proc_sections.specs.Askings.{question}
use Rattle.xact_reads.proofs.Going.{read_adds}
use Rattle.xact_reads.proofs.Standing.{asked_event, unasked, went_further}
use Rattle.xact_reads.proofs.statuses.status.Goals as goal

pub returns-then-number-lt3 : goal.returns-then-number-lt3
returns-then-number-lt3 g c =
    let old = c.args.caller.now in
    let u = c.count.new.caller in
    let x = c.args.x in
    let may = may_counted c.args.hall.now old u c.count.ensures c.requires in
    let small : x < 3 = subst (λ z. z < 3) c.number.ensures.value c.if-number-lt3.true in
    let by = by_at u.number u.session.levels.commands in
    ran_read c.args.hall.now old u u (commands.Status x) (replies.Known c.fixed.result) c.count.ensures c.requires (own_counted c.args.hall.now old u c.count.ensures c.requires.step.own) may.ready (went_nowhere u.number (view u.pass).seen) refl refl
    (unasked by x c.fixed.result small) (adds_nothing by _ (view u.pass).seen) (λ _. c.fixed.ensures, λ normal. absurd (omega arith)) refl refl refl refl refl refl refl

pub ask_status-requires-clause-ready : goal.ask_status-requires-clause-ready
ask_status-requires-clause-ready g c = (may_counted c.args.hall.now c.args.caller.now c.count.new.caller c.count.ensures c.requires).ready

pub returns-in-Err : goal.returns-in-Err
returns-in-Err g c =
    let old = c.args.caller.now in
    let u = c.count.new.caller in
    let w = c.ask_status.new.caller in
    let e = c.in-Err.ensures in
    let x = c.args.x in
    let may = may_counted c.args.hall.now old u c.count.ensures c.requires in
    let normal : 3 ≤ x = subst (λ z. 3 ≤ z) c.number.ensures.value c.if-number-lt3.false in
    ran_read c.args.hall.now old u w (commands.Status x) (replies.Refused refusals.Memory) c.count.ensures c.requires e.own e.ready e.asks e.same.0 e.same.1 refl
    (look_adds (start_of c.args.hall.now) (view u.pass) (view w.pass) u.number u.session (MayLeave (commands.Status x) (stance_of u.session) u.session.stage (open_ids u.number (history (view u.pass).seen)) (replies.Refused refusals.Memory)) may.ready.at (λ number. tt) tt e.section)
    (le-leb 3 x normal) refl refl refl refl refl refl refl

pub returns-in-Ok-settle : goal.returns-in-Ok-settle
returns-in-Ok-settle g c =
    let old = c.args.caller.now in
    let u = c.count.new.caller in
    let t = c.ask_status.new.caller in
    let w = c.settle.new.caller in
    let a = c.in-Ok.ensures in
    let f = c.in-Ok-settle.ensures in
    let x = c.args.x in
    let start = start_of c.args.hall.now in
    let by = by_at u.number u.session.levels.commands in
    let reply = replies.Known c.in-Ok-settle.status in
    let may = may_counted c.args.hall.now old u c.count.ensures c.requires in
    let normal : 3 ≤ x = subst (λ z. 3 ≤ z) c.number.ensures.value c.if-number-lt3.false in
    let event = question u.number u.session x in
    ran_unmoved c.args.hall.now (event ∷ []) old u w (commands.Status x) reply (refl, tt) c.count.ensures c.requires f.own f.ready
    (went_then u.number (event ∷ []) [] (view u.pass).seen (view t.pass).seen (view w.pass).seen a.asks.0 (subst (λ z. WentOn z [] (view t.pass).seen (view w.pass).seen) a.same.1 f.went)) (f.same.0 ∙ a.same.0) (f.same.1 ∙ a.same.1)
    (asked_event by x reply normal f.behind)
    (adds_wider by IsPlain _ (view u.pass).seen (view w.pass).seen (plain_leaves (commands.Status x) (stance_of u.session) u.session.stage (open_ids u.number (history (view u.pass).seen)) reply)
    (read_adds u.number t.number u.session t.session IsPlain (view u.pass).seen (view t.pass).seen (view w.pass).seen a.same.1 a.same.0 (λ lock kind m. m)
    (proc_section_adds start (view u.pass) (view t.pass) u.number u.session (record { by = by; kind = kinds.Event event }) may.ready.at refl a.section IsPlain (λ number. tt) tt) f.adds))
    (subst (λ (z : ℕ × Session). MayAnswer (g.P.PageDisk.tells) start (view w.pass).seen (alone (history (view u.pass).seen) (history (view w.pass).seen)) (by_at z.0 z.1.levels.commands) (stance_of z.1) z.1.stage (commands.Status x) reply) (λ j. (a.same.1 j, a.same.0 j))
    (f.allowed (history (view u.pass).seen) (went_further u.number event (view u.pass).seen (view t.pass).seen a.asks.0)))
    refl f.standing refl refl refl refl f.standing

pub returns-in-Err-settle : goal.returns-in-Err-settle
returns-in-Err-settle g c =
    let old = c.args.caller.now in
    let u = c.count.new.caller in
    let t = c.ask_status.new.caller in
    let w = c.settle.new.caller in
    let a = c.in-Ok.ensures in
    let f = c.in-Err-settle.ensures in
    let x = c.args.x in
    let start = start_of c.args.hall.now in
    let by = by_at u.number u.session.levels.commands in
    let refusal = c.in-Err-settle.refusal in
    let reply = replies.Refused refusal in
    let may = may_counted c.args.hall.now old u c.count.ensures c.requires in
    let normal : 3 ≤ x = subst (λ z. 3 ≤ z) c.number.ensures.value c.if-number-lt3.false in
    let event = question u.number u.session x in
    ran_unmoved c.args.hall.now (event ∷ []) old u w (commands.Status x) reply (refl, tt) c.count.ensures c.requires f.own f.ready
    (went_then u.number (event ∷ []) [] (view u.pass).seen (view t.pass).seen (view w.pass).seen a.asks.0 (subst (λ z. WentOn z [] (view t.pass).seen (view w.pass).seen) a.same.1 f.went)) (f.same.0 ∙ a.same.0) (f.same.1 ∙ a.same.1)
    (asked_event by x reply normal f.behind)
    (adds_wider by (MayMeet refusal) _ (view u.pass).seen (view w.pass).seen (met_leaves (commands.Status x) (stance_of u.session) u.session.stage (open_ids u.number (history (view u.pass).seen)) refusal)
    (read_adds u.number t.number u.session t.session (MayMeet refusal) (view u.pass).seen (view t.pass).seen (view w.pass).seen a.same.1 a.same.0 (plain_meets refusal)
    (proc_section_adds start (view u.pass) (view t.pass) u.number u.session (record { by = by; kind = kinds.Event event }) may.ready.at refl a.section IsPlain (λ number. tt) tt) f.adds))
    (subst (λ (z : ℕ × Session). MayAnswer (g.P.PageDisk.tells) start (view w.pass).seen (alone (history (view u.pass).seen) (history (view w.pass).seen)) (by_at z.0 z.1.levels.commands) (stance_of z.1) z.1.stage (commands.Status x) reply) (λ j. (a.same.1 j, a.same.0 j))
    (f.allowed (history (view u.pass).seen) (went_further u.number event (view u.pass).seen (view t.pass).seen a.asks.0)))
    refl f.standing refl refl refl refl f.standing
