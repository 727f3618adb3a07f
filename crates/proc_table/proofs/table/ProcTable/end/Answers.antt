use Rattle.std.proofs.Common.{◌≡◌, sym, ◌∙◌, subst, ap, arith, ◌≤◌, Contains, true}
use Rattle.std.proofs.lemmas.Bool.{false≢true}
use Rattle.std.specs.List.{Any}
use Rattle.tx_events.specs.Families.{is_top}
use Rattle.tx_events.specs.IdLists.{has}
use Rattle.tx_events.specs.Running.{open_ids}
use Rattle.proc_table.specs.declared.entry.Entry.{Entry}
use Rattle.proc_table.specs.Lists.{tops_of}
use Rattle.proc_table.specs.Table.{InTurn}
use Rattle.proc_table.proofs.EndStates.{state_ended, is_promised, has_entry}
use Rattle.proc_table.proofs.table.ProcTable.end.Goals as goal

pub unreachable-requires : goal.unreachable-requires
unreachable-requires c =
    let view : c.self.inside.events.items ≡ c.args.self.now.events = ap (λ t. t.events) c.self.view_is in
    let top_open : Contains (open_ids c.args.by.session c.self.inside.events.items) c.args.top = subst (λ h. Contains (open_ids c.args.by.session h) c.args.top) (sym view) c.requires.top_open in
    let top_top : is_top c.self.inside.events.items c.args.top ≡ true = ap (λ h. is_top h c.args.top) view ∙ c.requires.top_top in
    false≢true (sym c.in-None.ensures.none ∙ ap (λ l. has (tops_of l) c.args.top) c.deref.ensures.value ∙ has_entry _ _ _ _ _ _ _ _ c.args.by.session c.args.top c.self.invariant.0 top_open top_top)

pub invariant_of-self : goal.invariant_of-self
invariant_of-self c =
    let view : c.self.inside.events.items ≡ c.args.self.now.events = ap (λ t. t.events) c.self.view_is in
    let turn : InTurn c.args.by c.self.inside.events.items = subst (InTurn c.args.by) (sym view) c.requires.turn in
    let top_open : Contains (open_ids c.args.by.session c.self.inside.events.items) c.args.top = subst (λ h. Contains (open_ids c.args.by.session h) c.args.top) (sym view) c.requires.top_open in
    let top_top : is_top c.self.inside.events.items c.args.top ≡ true = ap (λ h. is_top h c.args.top) view ∙ c.requires.top_top in
    let some : 1 ≤ c.self.inside.owed_events = is_promised _ _ _ _ _ _ _ _ c.args.by.session c.args.top c.self.invariant.0 top_open in
    let one : Any (λ (e : Entry). (e.top ≡ c.args.top) × (c.in-Some.last ≡ e.last)) c.self.inside.entries.items = subst (Any (λ (e : Entry). (e.top ≡ c.args.top) × (c.in-Some.last ≡ e.last))) c.deref.ensures.value c.in-Some.ensures.some in (
      rw (c.push_reserved.ensures.items, c.event.ensures, c.greatest-self-inside.ensures, c.drop_top.ensures)
          (state_ended _ _ c.args.by c.args.top c.in-Some.last c.self.inside.next _ _ _ c.args.how _ _ c.self.invariant.0 turn top_open top_top one),
      omega (arith, c.push_reserved.ensures.len, c.push_reserved.ensures.capacity),
      c.self.invariant.2,
      tt,
    )
