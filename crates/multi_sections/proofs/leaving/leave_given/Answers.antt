use Rattle.std.proofs.Common.{ℕ, ◌<◌, Some, length, ap, arith, subst, sym, ◌∙◌}
use Rattle.hall.specs.Calls.{view, start_of}
use Rattle.notes.specs.Lists.{at}
use Rattle.tx_events.specs.declared.event.By.{By}
use Rattle.tx_core.specs.declared.entry.Entry.{Entry}
use Rattle.tx_core.specs.declared.entry.Kind.TheVariants as kinds
use Rattle.tx_events.specs.Multis.{InBase, MultiMayCome}
use Rattle.tx_core.specs.Locks.{multi_lock}
use Rattle.tx_core.specs.MultiEntries.{multi_history}
use Rattle.tx_core.specs.MultisLegal.{ToldOf}
use Rattle.tx_core.specs.RecordsOnce.{HasNoMulti}
use Rattle.engine_parts.specs.Makings.{Makes}
use Rattle.engine_parts.specs.declared.session.Session.{Session}
use Rattle.engine_parts.specs.Holds.{Leaves}
use Rattle.engine_parts.specs.Sessions.{IsReady, by_at}
use Rattle.multi_sections.proofs.Generating.{made_stands, may_make}
use Rattle.multi_sections.proofs.Readying.{makes_given, next_unrecorded, ready_multi}
use Rattle.multi_sections.proofs.leaving.leave_given.Goals as goal

pub leave_multi-requires-clause-may : goal.leave_multi-requires-clause-may
leave_multi-requires-clause-may g c =
    let r = c.requires in
    let start = start_of c.args.hall.now in
    let m = c.args.making in
    let may = subst (MultiMayCome start.base (InBase start.base) (multi_history (view c.args.caller.now.pass).seen)) (sym r.given) r.next in
    let told = subst (ToldOf start) (sym r.given) tt in
    let by = by_at c.args.caller.now.number c.args.caller.now.session.levels.commands in
    may_make (start_of c.args.hall.now) (view c.args.caller.now.pass).seen by c.args.event.value c.event_note-entry.result.value (c.event_note-entry.ensures ∙ ap (λ (b : By). record { by = b; kind = kinds.Multi c.args.event.value }) c.command_of-by.ensures) r.by may told (r.at.turns multi_lock)

pub leave_multi-requires-clause-stands : goal.leave_multi-requires-clause-stands
leave_multi-requires-clause-stands g c =
    made_stands (start_of c.args.hall.now) c.args.multis.value (at (view c.args.caller.now.pass).seen multi_lock) c.command_of-by.result c.args.event.value c.event_note-entry.result.value c.event_note-entry.ensures c.requires.made

pub returns-clause-ready : goal.returns-clause-ready
returns-clause-ready g c =
    let start = start_of c.args.hall.now in
    let old = c.args.caller.now in
    let v = view old.pass in
    let w = view c.leave_multi.new.caller.pass in
    let s = old.session in
    let n = old.number in
    let m = c.args.making in
    let event = c.args.event.value in
    let r = c.requires in
    let wide = r.at.wide in
    let inside : multi_lock < length v.seen = omega arith in
    let left = subst (λ (e : Entry). Leaves start multi_lock e v w) (c.event_note-entry.ensures ∙ ap (λ (b : By). record { by = b; kind = kinds.Multi event }) (c.command_of-by.ensures ∙ sym r.by)) c.leave_multi.ensures.left in
    let unrecorded = subst (HasNoMulti v.seen n) (sym r.next.next) (next_unrecorded start v.seen n r.at.kept) in
    let free = subst (Makes start v.seen n) r.free r.at.makes in
    let made = makes_given start v w n event inside left m.multi m.offset m.members r.given (ap (λ (b : By). b.session) r.by) r.next.fit r.full r.before unrecorded free in
    let makes : Makes start w.seen n (Some m) = subst (λ b. Makes start w.seen n (Some (record { multi = m.multi; offset = m.offset; members = m.members; logged = b }))) (sym r.unlogged) made in
    let same = c.leave_multi.ensures.same in
    subst (λ (z : ℕ × Session). IsReady start w z.0 (record z.1 { making = Some m })) (λ j. (sym same.1 j, sym same.0 j)) (ready_multi start v w n event inside left s (Some m) r.at r.by makes)
