use Rattle.std.proofs.Common.{◌≡◌, refl, sym, ◌∙◌, subst, ap, arith, rules}
use Rattle.std.specs.List.{All, list_any}
use Rattle.tx_events.specs.IdLists.{has}
use Rattle.tx_events.specs.Running.{running}
use Rattle.proc_table.specs.Entries.{SubsAscend, is_of_entry}
use Rattle.proc_table.specs.Table.{InTurn}
use Rattle.proc_table.proofs.AskLemmas.{asked_is, subs_ascend}
use Rattle.proc_table.proofs.KeptContents.{of_now_quiet}
use Rattle.tx_events.specs.declared.event.Event.TheVariants as events
use Rattle.proc_table.proofs.QuietStates.{state_asked}
use Rattle.proc_table.proofs.table.ProcTable.ask.Goals as goal

pub is_running-requires : goal.is_running-requires
is_running-requires c = subst (All SubsAscend) (sym c.deref.ensures.value) (subs_ascend _ _ _ _ _ _ _ _ c.self.invariant.0)

pub invariant_of-self-2 : goal.invariant_of-self-2
invariant_of-self-2 c =
    let view : c.self.inside.events.items ≡ c.args.self.now.events = ap (λ t. t.events) c.self.view_is in
    let turn : InTurn c.args.by c.self.inside.events.items = subst (InTurn c.args.by) (sym view) c.requires.turn in (
      rw (c.push_reserved.ensures.items, c.in_ok-make_room.ensures.items, c.of.ensures) (state_asked _ _ _ _ _ _ _ _ c.args.by c.args.x c.self.invariant.0 turn c.requires.full),
      omega (arith, c.push_reserved.ensures.len, c.push_reserved.ensures.capacity, c.in_ok-make_room.ensures.room),
      c.self.invariant.2,
      rw (c.push_reserved.ensures.items, c.in_ok-make_room.ensures.items, c.of.ensures) (of_now_quiet c.self.inside.base.next c.self.inside.events.items (events.Ask c.args.by c.args.x) c.self.inside.contents tt c.self.invariant.3),
    )

pub returns : goal.returns
returns c =
    let view : c.self.inside.events.items ≡ c.args.self.now.events = ap (λ t. t.events) c.self.view_is in
    let runs : c.is_running.result ≡ has (running c.args.self.now.events) c.args.x =
    c.is_running.ensures ∙ ap (list_any (is_of_entry c.args.x)) c.deref.ensures.value ∙ asked_is _ _ _ _ _ _ _ _ c.args.x c.self.invariant.0 ∙ ap (λ h. has (running h) c.args.x) view in
    (record { running = runs; next = search rules; oldest = search rules }, search rules)
