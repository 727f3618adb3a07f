use Rattle.std.proofs.Common.{◌≡◌, ℕ, ◌≤◌, nat_le, List, [], ◌∷◌, ap, ◌∙◌, subst, sym, refl, length, drop, Some}
use Rattle.std.specs.List.{filter}
use Rattle.hall.specs.Calls.{view, start_of}
use Rattle.tx_events.specs.declared.event.By.{By}
use Rattle.tx_events.specs.declared.event.Event.TheVariants as events
use Rattle.tx_events.specs.IdLists.{Ascending}
use Rattle.bank_sections.specs.Faults.{IsXactFault}
use Rattle.engine_parts.specs.declared.session.Session.{Session}
use Rattle.engine_parts.specs.declared.session.Stage.TheVariants as stages
use Rattle.engine_parts.specs.Sessions.{by_at, inner_id}
use Rattle.engine_parts.specs.Steps.{GoesOn}
use Rattle.engine_parts.proofs.Stepping.{goes_then}
use Rattle.proc_sections.specs.Undos.{AreRolledBack}
use Rattle.xact_ends.proofs.RolledBack.{call_undoing, inside_place, rolled_back, undone_from}
use Rattle.engine_parts.specs.Adding.{IsPlain}
use Rattle.tx_core.specs.declared.entry.Kind.TheVariants as kinds
use Rattle.engine_parts.proofs.Sectioning.{proc_section_adds}
use Rattle.xact_ends.proofs.Added.{both_add}
use Rattle.xact_ends.proofs.undoing.undo_named.Goals as goal

pub place_of-from-requires : goal.place_of-from-requires
place_of-from-requires g c = subst Ascending (sym c.deref.ensures.value) c.requires.may.ready.at.stands.ascend

pub roll_back-requires-clause-may : goal.roll_back-requires-clause-may
roll_back-requires-clause-may g c = let old = c.args.caller.now in call_undoing (start_of c.args.hall.now) (view old.pass) old.number old.session c.args.id c.requires.may c.requires.stage c.requires.innermost

pub roll_back-requires-clause-within : goal.roll_back-requires-clause-within
roll_back-requires-clause-within g c = subst (λ (l : List ℕ). c.place_of-from.result ≤ length l) c.deref.ensures.value c.place_of-from.ensures.within

pub roll_back-requires-clause-inside : goal.roll_back-requires-clause-inside
roll_back-requires-clause-inside g c =
    let s = c.args.caller.now.session in
    let from = c.place_of-from.result in
    let id = c.args.id in
    inside_place (record s { stage = stages.Undoing }) from id c.requires.innermost (subst (λ (l : List ℕ). drop from l ≡ filter (λ x. nat_le id x) l) c.deref.ensures.value c.place_of-from.ensures.from)

pub undo_savepoint-requires-clause-pending : goal.undo_savepoint-requires-clause-pending
undo_savepoint-requires-clause-pending g c = ap (λ (z : Session). z.stage) c.in-Ok.ensures.sets.1

pub undo_savepoint-requires-clause-savepoint : goal.undo_savepoint-requires-clause-savepoint
undo_savepoint-requires-clause-savepoint g c = subst (λ (z : Session). 2 ≤ length z.levels.level_ids.items) (sym c.in-Ok.ensures.sets.1) c.requires.savepoint

pub undo_savepoint-requires-clause-innermost : goal.undo_savepoint-requires-clause-innermost
undo_savepoint-requires-clause-innermost g c = ap (λ (z : Session). inner_id z) c.in-Ok.ensures.sets.1 ∙ c.requires.innermost

pub undo_savepoint-requires-clause-aborted : goal.undo_savepoint-requires-clause-aborted
undo_savepoint-requires-clause-aborted g c =
    let x = c.in-Ok.ensures.sets in
    let s = c.args.caller.now.session in
    let from = c.place_of-from.result in
    let id = c.args.id in
    let lists = (view c.roll_back.new.caller.pass).seen in
    subst (λ (z : Session). AreRolledBack (start_of c.args.hall.now) lists z.levels.open_ids.items id) (sym x.1)
    (rolled_back (start_of c.args.hall.now) lists s.levels.open_ids.items from id (subst (λ (l : List ℕ). drop from l ≡ filter (λ x. nat_le id x) l) c.deref.ensures.value c.place_of-from.ensures.from) x.2)

pub returns-in-Ok-clause-undoes : goal.returns-in-Ok-clause-undoes
returns-in-Ok-clause-undoes g c =
    let x = c.in-Ok.ensures.sets in
    let old = c.args.caller.now in
    let t = c.roll_back.new.caller in
    let new = c.undo_savepoint.new.caller in
    let id = c.args.id in
    let mid = (view t.pass).seen in
    let more = (view new.pass).seen in
    let u = c.undo_savepoint.ensures.undone in (
      goes_then old.number [] (events.Undo (by_at old.number old.session.levels.commands) id ∷ []) (view old.pass).seen mid more x.0
          (subst (λ (z : ℕ × ℕ). GoesOn z.0 (events.Undo (by_at z.0 z.1) id ∷ []) mid more) (λ j. (c.roll_back.ensures.number j, (x.1 j).levels.commands)) u.went.on),
      undone_from id old.session t.session new.session x.1 u.session,
    )

pub returns-in-Err-clause-undoes : goal.returns-in-Err-clause-undoes
returns-in-Err-clause-undoes g c =
    let x = c.in-Err.ensures.sets in
    (x.0, ap (λ (z : Session). z.levels) x.1, ap (λ (z : Session). z.stage) x.1, x.2, ap (λ (z : Session). z.making) x.1)

pub returns-in-Ok-clause-adds : goal.returns-in-Ok-clause-adds
returns-in-Ok-clause-adds g c =
    let x = c.in-Ok.ensures.sets in
    let old = c.args.caller.now in
    let t = c.roll_back.new.caller in
    let by = by_at old.number old.session.levels.commands in
    let own = by_at t.number t.session.levels.commands in
    both_add by own IsPlain IsPlain IsPlain (view old.pass).seen (view t.pass).seen (view c.undo_savepoint.new.caller.pass).seen (λ j. by_at (c.roll_back.ensures.number j) (x.1 j).levels.commands) (λ lock kind m. m) (λ lock kind m. m) c.in-Ok.ensures.adds
    (proc_section_adds (start_of c.args.hall.now) (view t.pass) (view c.undo_savepoint.new.caller.pass) t.number t.session (record { by = own; kind = kinds.Event (events.Undo own c.args.id) }) c.roll_back.ensures.may.ready.at refl c.undo_savepoint.ensures.section IsPlain (λ number. tt) tt)
