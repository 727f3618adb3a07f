use Rattle.std.proofs.Common.{ℕ, ◌<◌, length, ap, arith, subst, sym, ◌∙◌}
use Rattle.hall.specs.Calls.{view, start_of}
use Rattle.notes.specs.Lists.{at}
use Rattle.tx_events.specs.declared.event.By.{By}
use Rattle.tx_core.specs.declared.entry.Entry.{Entry}
use Rattle.tx_core.specs.declared.entry.Kind.TheVariants as kinds
use Rattle.tx_core.specs.Locks.{multi_lock}
use Rattle.engine_parts.specs.declared.session.Session.{Session}
use Rattle.engine_parts.specs.Holds.{Leaves}
use Rattle.engine_parts.specs.Sessions.{IsReady, by_at}
use Rattle.multi_sections.proofs.Generating.{made_stands, may_make}
use Rattle.multi_sections.proofs.Readying.{makes_quiet, ready_multi}
use Rattle.multi_sections.proofs.leaving.leave_made.Goals as goal

pub leave_multi-requires-clause-may : goal.leave_multi-requires-clause-may
leave_multi-requires-clause-may g c =
    let r = c.requires in
    let by = by_at c.args.caller.now.number c.args.caller.now.session.levels.commands in
    may_make (start_of c.args.hall.now) (view c.args.caller.now.pass).seen by c.args.event.value c.event_note-entry.result.value (c.event_note-entry.ensures ∙ ap (λ (b : By). record { by = b; kind = kinds.Multi c.args.event.value }) c.command_of-by.ensures) r.by r.may r.told (r.at.turns multi_lock)

pub leave_multi-requires-clause-stands : goal.leave_multi-requires-clause-stands
leave_multi-requires-clause-stands g c =
    made_stands (start_of c.args.hall.now) c.args.multis.value (at (view c.args.caller.now.pass).seen multi_lock) c.command_of-by.result c.args.event.value c.event_note-entry.result.value c.event_note-entry.ensures c.requires.made

pub returns-clause-ready : goal.returns-clause-ready
returns-clause-ready g c =
    let start = start_of c.args.hall.now in
    let old = c.args.caller.now in
    let v = view old.pass in
    let w = view c.leave_multi.new.caller.pass in
    let s = old.session in
    let n = old.number in
    let event = c.args.event.value in
    let r = c.requires in
    let wide = r.at.wide in
    let inside : multi_lock < length v.seen = omega arith in
    let left = subst (λ (e : Entry). Leaves start multi_lock e v w) (c.event_note-entry.ensures ∙ ap (λ (b : By). record { by = b; kind = kinds.Multi event }) (c.command_of-by.ensures ∙ sym r.by)) c.leave_multi.ensures.left in
    let makes = makes_quiet start v w n event inside left r.none s.making r.at.makes in
    let same = c.leave_multi.ensures.same in
    subst (λ (z : ℕ × Session). IsReady start w z.0 z.1) (λ j. (sym same.1 j, sym same.0 j)) (ready_multi start v w n event inside left s s.making r.at r.by makes)
