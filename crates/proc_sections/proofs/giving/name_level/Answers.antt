use Rattle.std.proofs.Common.{◌++◌, ◌∷◌, [], ◌≡◌, ℕ, arith, ap, ◌∙◌, subst, sym, Option}
use Rattle.hall.specs.Calls.{view, start_of}
use Rattle.notes.specs.Lists.{at}
use Rattle.tx_events.specs.declared.event.By.{By}
use Rattle.tx_events.specs.History.{MayCome}
use Rattle.tx_model.specs.CommandEvents.{giving}
use Rattle.tx_core.specs.CommitRecordsExact.{HasNoRecord}
use Rattle.tx_core.specs.Entries.{history}
use Rattle.tx_core.specs.Locks.{proc_lock}
use Rattle.tx_core.specs.ProgramOrder.{IsInTurn}
use Rattle.engine_parts.specs.declared.session.Session.{Session}
use Rattle.engine_parts.specs.Stages.{may_be_recorded, may_be_aborted}
use Rattle.proc_sections.specs.Givings.{unlinked_of}
use Rattle.proc_sections.proofs.Naming.{giving_entry, may_giving, ready_given_at}
use Rattle.tx_core.specs.AbortRecordsExact.{HasNoAbortRecord}
use Rattle.engine_parts.proofs.Unrecorded.{open_unaborted}
use Rattle.proc_sections.proofs.giving.name_level.Goals as goal

pub leave_proc-requires-clause-may : goal.leave_proc-requires-clause-may
leave_proc-requires-clause-may g c =
    let seen = (view c.args.caller.now.pass).seen in
    may_giving (start_of c.args.hall.now) seen c.args.by c.args.parent.now c.args.id c.by-entry.result.value c.by-entry.ensures c.requires.shown c.requires.may c.requires.made
    (subst (λ (b : By). HasNoRecord seen b.session) (sym c.requires.by) (c.requires.at.clear (ap may_be_recorded c.requires.clear)))
    (subst (λ (b : By). HasNoAbortRecord seen b.session) (sym c.requires.by) (open_unaborted seen c.args.caller.now.number c.args.caller.now.session.levels.open_ids.items c.requires.at.stands.opened (c.requires.at.unaborted (ap may_be_aborted c.requires.clear)))) (subst (λ (b : By). IsInTurn (start_of c.args.hall.now) (at seen proc_lock) b) (sym c.requires.by) (c.requires.at.turns proc_lock))

pub returns-clause-named : goal.returns-clause-named
returns-clause-named g c =
    let s = c.args.caller.now.session in
    let same = c.leave_proc.ensures.same.0 in record {
      named = c.push_reserved.ensures.items ∙ ap (λ (z : Session). z.levels.level_ids.items ++ c.args.id ∷ []) same;
      opened = c.push_reserved-2.ensures.items ∙ ap (λ (z : Session). z.levels.open_ids.items ++ c.args.id ∷ []) same;
      unnamed = let left : c.leave_proc.new.caller.session.levels.unnamed ≡ s.levels.unnamed = ap (λ (z : Session). z.levels.unnamed) same in let some = c.requires.some in omega arith;
      registered = ap (λ (z : Session). z.levels.registered) same;
      count = ap (λ (z : Session). z.levels.commands) same;
      stage = ap (λ (z : Session). z.stage) same;
      making = ap (λ (z : Session). z.making) same;
      unlinked = c.unlinked_id-caller.ensures ∙ ap (λ (o : Option ℕ). unlinked_of c.args.id o) c.requires.parent;
    }

pub returns-clause-ready : goal.returns-clause-ready
returns-clause-ready g c =
    let start = start_of c.args.hall.now in
    let v = view c.args.caller.now.pass in
    let r = c.requires in
    ready_given_at start v (view c.leave_proc.new.caller.pass) c.args.caller.now.number _ c.args.caller.now.session _ c.args.id c.by-entry.result.value r.at (c.by-entry.ensures ∙ (λ j. giving_entry (r.by j) (r.parent j) c.args.id))
    (subst (λ (z : By × Option ℕ). MayCome start.base (history v.seen) (giving z.0 z.1 c.args.id)) (λ j. (r.by j, r.parent j)) r.may)
    r.made.0 r.clear r.linked (returns-clause-named g c) c.leave_proc.ensures.left c.leave_proc.ensures.same.1
