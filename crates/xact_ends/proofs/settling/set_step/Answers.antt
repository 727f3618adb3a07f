use Rattle.std.proofs.Common.{rules, ◌≡◌, ◌⊎◌, ℕ, ◌+◌, ◌*◌, ◌%◌, ◌^◌, ◌≤◌, ◌<◌, arith, ap, ◌∙◌, subst, sym, refl, List, [], ⊎_elim, length, Contains, Some, slice_get}
use Rattle.std.specs.List.{slice_range}
use Rattle.hall.specs.Calls.{view, start_of}
use Rattle.slru_bank.specs.declared.xact_state.State as stored
use Rattle.slru_bank.specs.declared.xact_state.State.TheVariants as named
use Rattle.slru_bank.specs.Plan.{plan}
use Rattle.tx_core.specs.declared.entry.State.{State}
use Rattle.engine_parts.specs.declared.session.Session.{Session}
use Rattle.engine_parts.specs.declared.session.Stage.TheVariants as stages
use Rattle.slru_bank.specs.Steps.{step_first, step_ids}
use Rattle.engine_parts.specs.Stages.{IsSettling, may_be_aborted}
use Rattle.bank_sections.specs.Sets.{AsksOnly, MaySet}
use Rattle.bank_sections.proofs.Unlinking.{call_went}
use Rattle.xact_ends.specs.Trees.{IsStepState}
use Rattle.xact_ends.proofs.Finishing.{settling_at}
use Rattle.xact_ends.proofs.Staging.{call_settled}
use Rattle.xact_ends.proofs.Treeing.{may_step, settled_more, step_order, step_sets, step_some, step_within, steps_few}
use Rattle.tx_events.specs.declared.refusal.Lock.TheVariants as locks
use Rattle.tx_core.specs.declared.entry.Kind.TheVariants as kinds
use Rattle.tx_core.specs.Laws.{all_set}
use Rattle.tx_core.specs.Locks.{xact_lock}
use Rattle.engine_parts.specs.Sessions.{by_at}
use Rattle.bank_sections.proofs.Faulting.{done_adds, fault_adds}
use Rattle.bank_sections.proofs.Visiting.{is_xact_lock}
use Rattle.xact_ends.proofs.settling.set_step.Goals as goal

pub first_of-first-requires : goal.first_of-first-requires
first_of-first-requires g c =
    let start = start_of c.args.hall.now in
    let v = view c.args.caller.now.pass in
    let s = c.args.caller.now.session in
    let n = c.args.caller.now.number in
    let few : length s.levels.open_ids.items < 2 ^ 63 = search rules in
    let settling = settling_at start v n c.args.k s c.requires.step.may c.requires.stage in
    let at_step = c.requires.planned settling.top settling.subs settling.ids in
    let w = step_within start v.seen n s.levels.open_ids.items c.args.k settling c.args.step.now at_step in
    let o = step_order start v.seen n s.levels.open_ids.items c.args.k settling c.args.step.now at_step in
    omega arith

pub entered-requires : goal.entered-requires
entered-requires g c =
    let start = start_of c.args.hall.now in
    let v = view c.args.caller.now.pass in
    let s = c.args.caller.now.session in
    let n = c.args.caller.now.number in
    let settling = settling_at start v n c.args.k s c.requires.step.may c.requires.stage in
    ⊎_elim
    (λ (q : c.args.step.now.state ≡ named.SubCommitted). subst IsStepState (sym q) tt)
    (λ (q : c.args.step.now.state ≡ named.Committed). subst IsStepState (sym q) tt)
    (step_sets start v.seen n s.levels.open_ids.items c.args.k settling c.args.step.now (c.requires.planned settling.top settling.subs settling.ids))

pub set_page-requires-clause-some : goal.set_page-requires-clause-some
set_page-requires-clause-some g c =
    let start = start_of c.args.hall.now in
    let v = view c.args.caller.now.pass in
    let s = c.args.caller.now.session in
    let n = c.args.caller.now.number in
    let settling = settling_at start v n c.args.k s c.requires.step.may c.requires.stage in
    let o = step_some start v.seen n s.levels.open_ids.items c.args.k settling c.args.step.now (c.requires.planned settling.top settling.subs settling.ids) in
    let first = c.first_of-first.ensures in
    omega arith

pub set_page-requires-clause-among : goal.set_page-requires-clause-among
set_page-requires-clause-among g c =
    let start = start_of c.args.hall.now in
    let v = view c.args.caller.now.pass in
    let s = c.args.caller.now.session in
    let n = c.args.caller.now.number in
    let settling = settling_at start v n c.args.k s c.requires.step.may c.requires.stage in
    step_within start v.seen n s.levels.open_ids.items c.args.k settling c.args.step.now (c.requires.planned settling.top settling.subs settling.ids)

pub set_page-requires-clause-may : goal.set_page-requires-clause-may
set_page-requires-clause-may g c =
    let start = start_of c.args.hall.now in
    let v = view c.args.caller.now.pass in
    let s = c.args.caller.now.session in
    let n = c.args.caller.now.number in
    let p = c.args.step.now in
    let settling = settling_at start v n c.args.k s c.requires.step.may c.requires.stage in
    let at_step = c.requires.planned settling.top settling.subs settling.ids in
    subst (λ (z : ℕ × ℕ). MaySet start v.seen n z.0 (slice_range s.levels.open_ids.items z.1 (p.past + 1)) c.entered.result) (λ j. (sym (c.bank_of-bank.ensures.value ∙ (λ i. p.page % c.requires.step.each.0 i)) j, sym c.first_of-first.ensures j))
    (may_step start v.seen n s.levels.open_ids.items c.args.k settling p at_step c.entered.result c.entered.ensures)

pub returns-in-Ok-clause-step : goal.returns-in-Ok-clause-step
returns-in-Ok-clause-step g c =
    let start = start_of c.args.hall.now in
    let v = view c.args.caller.now.pass in
    let s = c.args.caller.now.session in
    let n = c.args.caller.now.number in
    let p = c.args.step.now in
    let k = c.args.k in
    let t = c.set_page.new.caller in
    let w = view t.pass in
    let e = c.set_page.ensures in
    let settling = settling_at start v n k s c.requires.step.may c.requires.stage in
    let at_step = c.requires.planned settling.top settling.subs settling.ids in
    let ids : List ℕ = slice_range s.levels.open_ids.items c.first_of-first.result (p.past + 1) in
    let own : List ℕ = step_ids s.levels.open_ids.items p in
    let same : ids ≡ own = ap (λ z. slice_range s.levels.open_ids.items z (p.past + 1)) c.first_of-first.ensures in
    let more = settled_more start v.seen n s.levels.open_ids.items k settling p at_step w.seen c.entered.result c.entered.ensures e.goes.grows
    (λ id m. c.in-Ok.ensures.set id (subst (λ (l : List ℕ). Contains l id) (sym same) m))
    (subst (λ (l : List ℕ). AsksOnly n l c.entered.result v.seen w.seen) same e.asks) in
    record {
      own = e.own;
      laid = c.requires.step.laid;
      each = c.requires.step.each;
      may = call_settled start w t.number t.session (k + 1) (ap (λ (z : Session). may_be_aborted z.stage) e.same.0 ∙ ap may_be_aborted c.requires.stage) e.ready (subst (λ (z : ℕ × List ℕ). IsSettling start w.seen z.0 z.1 (k + 1)) (λ j. (sym e.same.1 j, (sym e.same.0 j).levels.open_ids.items)) more);
    }

pub returns-in-Ok-clause-sets : goal.returns-in-Ok-clause-sets
returns-in-Ok-clause-sets g c = (c.set_page.ensures.goes, ap (λ (z : Session). record z { stage = stages.Settling (c.args.k + 1) }) c.set_page.ensures.same.0)

pub returns-in-Err-DiskFault-clause-step : goal.returns-in-Err-DiskFault-clause-step
returns-in-Err-DiskFault-clause-step g c =
    let t = c.set_page.new.caller in
    let e = c.set_page.ensures in
    record {
      own = e.own;
      laid = c.requires.step.laid;
      each = c.requires.step.each;
      may = call_went (start_of c.args.hall.now) (view c.args.caller.now.pass) (view t.pass) c.args.caller.now.number t.number c.args.caller.now.session t.session [] c.requires.step.may (record { on = e.goes; asks = c.in-Err-DiskFault.ensures.unasked }) e.same.1 e.same.0 e.ready;
    }

pub overflow_add-step : goal.overflow_add-step
overflow_add-step g c =
    let start = start_of c.args.hall.now in
    let v = view c.args.caller.now.pass in
    let s = c.args.caller.now.session in
    let n = c.args.caller.now.number in
    let few : length s.levels.open_ids.items < 2 ^ 63 = search rules in
    let settling = settling_at start v n c.args.k s c.requires.step.may c.requires.stage in
    let w = step_within start v.seen n s.levels.open_ids.items c.args.k settling c.args.step.now (c.requires.planned settling.top settling.subs settling.ids) in
    omega arith

pub overflow_add-caller : goal.overflow_add-caller
overflow_add-caller g c =
    let start = start_of c.args.hall.now in
    let v = view c.args.caller.now.pass in
    let s = c.args.caller.now.session in
    let n = c.args.caller.now.number in
    let few : length s.levels.open_ids.items < 2 ^ 63 = search rules in
    let f = steps_few start v.seen n s.levels.open_ids.items c.args.k (settling_at start v n c.args.k s c.requires.step.may c.requires.stage) in
    omega arith

pub returns-in-Ok-clause-adds : goal.returns-in-Ok-clause-adds
returns-in-Ok-clause-adds g c =
    let old = c.args.caller.now in
    let start = start_of c.args.hall.now in
    let by = by_at old.number old.session.levels.commands in
    let bank = c.bank_of-bank.result in
    let inside : bank < start.banks = subst (λ z. bank < z) c.requires.step.each.0 c.bank_of-bank.ensures.within in
    done_adds start (view old.pass) (view c.set_page.new.caller.pass) (xact_lock bank) by old.session c.requires.step.may.ready.at (is_xact_lock start bank inside) (kinds.Set (all_set by c.entered.result (slice_range old.session.levels.open_ids.items c.first_of-first.result (c.args.step.now.past + 1)))) tt c.in-Ok.ensures.section

pub returns-in-Err-DiskFault-clause-adds : goal.returns-in-Err-DiskFault-clause-adds
returns-in-Err-DiskFault-clause-adds g c =
    let old = c.args.caller.now in
    let start = start_of c.args.hall.now in
    let by = by_at old.number old.session.levels.commands in
    let bank = c.bank_of-bank.result in
    let inside : bank < start.banks = subst (λ z. bank < z) c.requires.step.each.0 c.bank_of-bank.ensures.within in
    fault_adds start (view old.pass) (view c.set_page.new.caller.pass) (xact_lock bank) by old.session c.requires.step.may.ready.at (is_xact_lock start bank inside) _ c.in-Err-DiskFault.field-0 (locks.Xact bank) refl c.in-Err-DiskFault.field-0-is c.in-Err-DiskFault.ensures.section
