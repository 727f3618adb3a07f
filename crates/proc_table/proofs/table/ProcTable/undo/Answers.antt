use Rattle.std.proofs.Common.{◌≡◌, sym, ◌∙◌, subst, ap, arith, ◌≤◌, Contains, false}
use Rattle.std.specs.List.{filter}
use Rattle.tx_events.specs.Families.{is_top}
use Rattle.tx_events.specs.Running.{open_ids}
use Rattle.tx_events.specs.Savepoints.{is_inside}
use Rattle.proc_table.specs.Table.{InTurn}
use Rattle.tx_events.proofs.IdListSteps.{ascending_filtered}
use Rattle.tx_events.specs.IdLists.{Ascending}
use Rattle.proc_table.proofs.AskLemmas.{subs_ascend}
use Rattle.proc_table.proofs.OpenAscend.{open_ascend}
use Rattle.proc_table.proofs.EndStates.{is_promised}
use Rattle.proc_table.proofs.UndoStates.{state_undo}
use Rattle.proc_table.proofs.EntryLists.{zip_from_each}
use Rattle.proc_table.proofs.table.ProcTable.undo.Goals as goal

pub take_ids-requires-clause-subs : goal.take_ids-requires-clause-subs
take_ids-requires-clause-subs c = subs_ascend _ _ _ _ _ _ _ _ c.self.invariant.0

pub take_ids-requires-clause-ids : goal.take_ids-requires-clause-ids
take_ids-requires-clause-ids c =
    let view : c.self.inside.events.items ≡ c.args.self.now.events = ap (λ t. t.events) c.self.view_is in
    let up : Ascending (open_ids c.args.by.session c.args.self.now.events) = subst (λ h. Ascending (open_ids c.args.by.session h)) view (open_ascend c.self.inside.base c.self.inside.events.items c.args.by.session c.self.invariant.0.legal) in
    subst Ascending (sym c.requires.ids) (ascending_filtered (is_inside c.args.self.now.events c.args.id) (open_ids c.args.by.session c.args.self.now.events) up)

pub invariant_of-self : goal.invariant_of-self
invariant_of-self c =
    let view : c.self.inside.events.items ≡ c.args.self.now.events = ap (λ t. t.events) c.self.view_is in
    let turn : InTurn c.args.by c.self.inside.events.items = subst (InTurn c.args.by) (sym view) c.requires.turn in
    let id_open : Contains (open_ids c.args.by.session c.self.inside.events.items) c.args.id = subst (λ h. Contains (open_ids c.args.by.session h) c.args.id) (sym view) c.requires.id_open in
    let id_sub : is_top c.self.inside.events.items c.args.id ≡ false = ap (λ h. is_top h c.args.id) view ∙ c.requires.id_sub in
    let ids : c.args.ids.now ≡ filter (is_inside c.self.inside.events.items c.args.id) (open_ids c.args.by.session c.self.inside.events.items) =
    c.requires.ids ∙ sym (ap (λ h. filter (is_inside h c.args.id) (open_ids c.args.by.session h)) view) in
    let some : 1 ≤ c.self.inside.owed_events = is_promised _ _ _ _ _ _ _ _ c.args.by.session c.args.id c.self.invariant.0 id_open in (
      rw (c.push_reserved.ensures.items, c.greatest-self-inside.ensures, c.of.ensures)
          (state_undo _ _ c.args.by c.args.id c.self.inside.next _ _ _ c.args.ids.now _ _ _ c.self.invariant.0 (id_open, id_sub) turn ids (zip_from_each _ _ _ c.take_ids.ensures) some),
      omega (arith, c.push_reserved.ensures.len, c.push_reserved.ensures.capacity),
      c.self.invariant.2,
      tt,
    )
