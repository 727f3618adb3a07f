use Rattle.std.proofs.Common.{◌∙◌, ◌∷◌, [], ℕ, refl, subst}
use Rattle.hall.specs.Calls.{view, start_of}
use Rattle.tx_events.specs.declared.event.By.{By}
use Rattle.tx_events.specs.Running.{open_ids}
use Rattle.tx_model.specs.declared.command.Command.TheVariants as commands
use Rattle.tx_model.specs.declared.reply.Reply.TheVariants as replies
use Rattle.tx_core.specs.Entries.{history}
use Rattle.tx_core.specs.declared.entry.Kind.{Kind}
use Rattle.tx_core.specs.declared.entry.Kind.TheVariants as kinds
use Rattle.engine_parts.specs.Adding.{Adds, MayLeave}
use Rattle.engine_parts.specs.Sessions.{by_at, stance_of}
use Rattle.engine_parts.specs.Steps.{WentOn}
use Rattle.engine_parts.proofs.Adding.{adds_then}
use Rattle.engine_parts.proofs.Calling.{may_counted, own_counted}
use Rattle.engine_parts.proofs.Sectioning.{proc_section_adds}
use Rattle.engine_parts.proofs.Stepping.{went_then}
use Rattle.engine_parts.proofs.Unmoved.{at_same, look_adds, ran_read, ran_unmoved}
use Rattle.proc_sections.specs.Announcements.{announcement}
use Rattle.xact_freezes.proofs.IdsRaising.{announced_shown, refused_answer}
use Rattle.xact_freezes.proofs.ids.freeze.Goals as goal

pub announce_oldest-requires-clause-own : goal.announce_oldest-requires-clause-own
announce_oldest-requires-clause-own g c = own_counted c.args.hall.now c.args.caller.now c.count.new.caller c.count.ensures c.requires.step.own

pub announce_oldest-requires-clause-laid : goal.announce_oldest-requires-clause-laid
announce_oldest-requires-clause-laid g c = c.requires.step.laid

pub announce_oldest-requires-clause-ready : goal.announce_oldest-requires-clause-ready
announce_oldest-requires-clause-ready g c = (may_counted c.args.hall.now c.args.caller.now c.count.new.caller c.count.ensures c.requires).ready

pub returns-in-Ok-clause-ran : goal.returns-in-Ok-clause-ran
returns-in-Ok-clause-ran g c =
    let old = c.args.caller.now in
    let u = c.count.new.caller in
    let t = c.announce_oldest.new.caller in
    let w = c.publish_oldest.new.caller in
    let e = c.in-Ok.ensures in
    let f = c.publish_oldest.ensures in
    let oldest = c.args.oldest in
    let start = start_of c.args.hall.now in
    let by = by_at u.number u.session.levels.commands in
    let May : ℕ → Kind → Type 0 = MayLeave (commands.Freeze oldest) (stance_of u.session) u.session.stage (open_ids u.number (history (view u.pass).seen)) replies.Done in
    let may = may_counted c.args.hall.now old u c.count.ensures c.requires in
    ran_unmoved c.args.hall.now (announcement u.number u.session oldest ∷ []) old u w (commands.Freeze oldest) replies.Done (refl, tt) c.count.ensures c.requires f.own f.ready
    (went_then u.number (announcement u.number u.session oldest ∷ []) [] (view u.pass).seen (view t.pass).seen (view w.pass).seen e.announces (subst (λ z. WentOn z [] (view t.pass).seen (view w.pass).seen) e.same.1 f.went))
    (f.same.0 ∙ e.same.0) (f.same.1 ∙ e.same.1) refl
    (adds_then by May (view u.pass).seen (view t.pass).seen (view w.pass).seen
    (proc_section_adds start (view u.pass) (view t.pass) u.number u.session (record { by = by; kind = kinds.Event (announcement u.number u.session oldest) }) may.ready.at refl e.section May (λ number. tt) tt)
    (subst (λ (z : By). Adds z May (view t.pass).seen (view w.pass).seen) (λ j. by_at (e.same.1 j) (e.same.0 j).levels.commands) (look_adds start (view t.pass) (view w.pass) t.number t.session May e.ready.at (λ number. tt) tt f.section)))
    tt refl refl refl refl refl refl refl

pub returns-in-Ok-clause-published : goal.returns-in-Ok-clause-published
returns-in-Ok-clause-published g c =
    let u = c.count.new.caller in
    let t = c.announce_oldest.new.caller in
    let w = c.publish_oldest.new.caller in
    let f = c.publish_oldest.ensures in
    let start = start_of c.args.hall.now in
    let may = may_counted c.args.hall.now c.args.caller.now u c.count.ensures c.requires in
    announced_shown start (view u.pass) (view t.pass) (view w.pass) u.number u.session c.args.oldest may.ready.at c.in-Ok.ensures.section f.ready.at.kept f.went.on.grows f.shown

pub returns-in-Err-clause-ran : goal.returns-in-Err-clause-ran
returns-in-Err-clause-ran g c =
    let old = c.args.caller.now in
    let u = c.count.new.caller in
    let w = c.announce_oldest.new.caller in
    let e = c.in-Err.ensures in
    let oldest = c.args.oldest in
    let start = start_of c.args.hall.now in
    let reply = replies.Refused c.in-Err.refusal in
    let may = may_counted c.args.hall.now old u c.count.ensures c.requires in
    let answer = refused_answer (g.P.PageDisk.tells) start (view u.pass) (view w.pass) u.number u.session oldest c.in-Err.refusal (at_same start (view w.pass) u.number w.number u.session w.session e.same.1 e.same.0 e.ready) e.announces.0 e.announces.1 in
    ran_read c.args.hall.now old u w (commands.Freeze oldest) reply c.count.ensures c.requires e.own e.ready e.announces.0 e.same.0 e.same.1 refl
    (look_adds start (view u.pass) (view w.pass) u.number u.session (MayLeave (commands.Freeze oldest) (stance_of u.session) u.session.stage (open_ids u.number (history (view u.pass).seen)) reply) may.ready.at (λ number. tt) tt e.section)
    answer.0 refl answer.1 refl refl refl refl answer.1

pub returns-in-Err-clause-refused : goal.returns-in-Err-clause-refused
returns-in-Err-clause-refused g c = c.in-Err.ensures.announces.1
