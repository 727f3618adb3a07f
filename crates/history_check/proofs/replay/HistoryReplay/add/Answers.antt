use Rattle.std.proofs.Common.{List, ℕ, ◌<◌, ◌≤◌, ap, sym, subst, refl, ◌∙◌, length, set, arith}
use Rattle.std.proofs.lemmas.List.{length-set}
use Rattle.history_check.specs.declared.opened.Opened.{Opened}
use Rattle.std.specs.List.{slice_index}
use Rattle.std.proofs.lemmas.Bool.{false≢true}
use Rattle.tx_events.specs.declared.event.By.{By}
use Rattle.history_check.specs.GivenIds.{AreKept, given_after}
use Rattle.history_check.specs.Links.{opens}
use Rattle.history_check.specs.Opened.{IsKept, IsNoted, IsOpened, opened_ids}
use Rattle.history_check.specs.Replays.{IsLawfulNext, Replayed}
use Rattle.history_check.proofs.AddLemmas.{replay_roomier, replay_stays, same_default, turn_of, view_after, within_table}
use Rattle.history_check.proofs.GivenSteps.{kept_ascend}
use Rattle.tx_events.specs.IdLists.{Ascending}
use Rattle.history_check.proofs.OpenedChanges.{may_add}
use Rattle.history_check.proofs.ReplaySteps.{replay_after}
use Rattle.history_check.proofs.TurnLemmas.{written_back}
use Rattle.history_check.proofs.replay.HistoryReplay.add.Goals as goal

pub returns-then-not-is_in_turn-clause-refused : goal.returns-then-not-is_in_turn-clause-refused
returns-then-not-is_in_turn-clause-refused c = λ f. (
  λ n.
      let its = subst (λ (r : Replayed). IsLawfulNext r c.args.event.now) (sym c.self.view_is) n in
      false≢true (sym c.if-not-is_in_turn.true ∙ (turn_of c.self.inside.table c.args.self.now c.args.event.now c.by-by.result c.self.inside.last.items c.as_slice.result.now c.is_in_turn.result c.self.view_is c.self.invariant.turns c.as_slice.ensures.value c.requires c.by-by.ensures c.is_in_turn.ensures).1 its.1),
  refl,
)

pub invariant_of-self-in_err-make_room : goal.invariant_of-self-in_err-make_room
invariant_of-self-in_err-make_room c =
    replay_roomier c.self.inside.table c.self.inside.last.items c.self.inside.opened.items c.self.inside.given.items c.make_one_room.new.items.items c.args.event.now c.by-by.result c.make_room.new.opened c.index_mut.result.now c.self.invariant
    (within_table c.self.inside.table c.args.self.now c.args.event.now c.self.view_is c.requires) c.by-by.ensures c.index_mut.ensures.value (record { items = c.make_room.ensures.items; count = c.make_room.ensures.count }) c.make_one_room.ensures.items

pub go_on-requires-clause-turn : goal.go_on-requires-clause-turn
go_on-requires-clause-turn c =
    (turn_of c.self.inside.table c.args.self.now c.args.event.now c.by-by.result c.self.inside.last.items c.as_slice.result.now c.is_in_turn.result c.self.view_is c.self.invariant.turns c.as_slice.ensures.value c.requires c.by-by.ensures c.is_in_turn.ensures).0 c.if-not-is_in_turn.false

pub invariant_of-self-in_err-go_on : goal.invariant_of-self-in_err-go_on
invariant_of-self-in_err-go_on c =
    replay_stays c.self.inside.table c.go_on.new.table c.self.inside.last.items (set c.self.inside.opened.items c.by-by.result.session c.make_room.new.opened) c.make_one_room.new.items.items c.in_err-go_on.ensures.err
    (replay_roomier c.self.inside.table c.self.inside.last.items c.self.inside.opened.items c.self.inside.given.items c.make_one_room.new.items.items c.args.event.now c.by-by.result c.make_room.new.opened c.index_mut.result.now c.self.invariant
    (within_table c.self.inside.table c.args.self.now c.args.event.now c.self.view_is c.requires) c.by-by.ensures c.index_mut.ensures.value (record { items = c.make_room.ensures.items; count = c.make_room.ensures.count }) c.make_one_room.ensures.items)

pub note_given-requires-clause-order : goal.note_given-requires-clause-order
note_given-requires-clause-order c =
    kept_ascend c.self.inside.table.base c.self.inside.table.events c.make_one_room.new.items.items c.events.ensures.legal (subst (AreKept c.self.inside.table.events) (sym c.make_one_room.ensures.items) c.self.invariant.given)

pub note_opened-requires-clause-kept : goal.note_opened-requires-clause-kept
note_opened-requires-clause-kept c =
    let within = within_table c.self.inside.table c.args.self.now c.args.event.now c.self.view_is c.requires in
    let r = replay_roomier c.self.inside.table c.self.inside.last.items c.self.inside.opened.items c.self.inside.given.items c.make_one_room.new.items.items c.args.event.now c.by-by.result c.make_room.new.opened c.index_mut.result.now c.self.invariant
    (within_table c.self.inside.table c.args.self.now c.args.event.now c.self.view_is c.requires) c.by-by.ensures c.index_mut.ensures.value (record { items = c.make_room.ensures.items; count = c.make_room.ensures.count }) c.make_one_room.ensures.items in
    let its = r.opened.each c.by-by.result.session (subst (λ (b : By). b.session < c.self.inside.table.sessions) (sym c.by-by.ensures) within) c.index_mut-2.result.now in
    subst IsKept (sym c.index_mut-2.ensures.value) its.kept

pub note_opened-requires-clause-add : goal.note_opened-requires-clause-add
note_opened-requires-clause-add c =
    let within = within_table c.self.inside.table c.args.self.now c.args.event.now c.self.view_is c.requires in
    let r = replay_roomier c.self.inside.table c.self.inside.last.items c.self.inside.opened.items c.self.inside.given.items c.make_one_room.new.items.items c.args.event.now c.by-by.result c.make_room.new.opened c.index_mut.result.now c.self.invariant
    (within_table c.self.inside.table c.args.self.now c.args.event.now c.self.view_is c.requires) c.by-by.ensures c.index_mut.ensures.value (record { items = c.make_room.ensures.items; count = c.make_room.ensures.count }) c.make_one_room.ensures.items in
    let its = r.opened.each c.by-by.result.session (subst (λ (b : By). b.session < c.self.inside.table.sessions) (sym c.by-by.ensures) within) c.index_mut-2.result.now in
    may_add c.self.inside.table.base c.self.inside.table.events c.args.event.now c.index_mut-2.result.now c.events.ensures.legal (c.may_come.ensures.0 c.if-not-may_come.false)
    (subst (λ (b : By). IsOpened c.self.inside.table.events b.session c.index_mut-2.result.now) c.by-by.ensures (subst (IsOpened c.self.inside.table.events c.by-by.result.session) (sym c.index_mut-2.ensures.value) its))

pub invariant_of-self-2 : goal.invariant_of-self-2
invariant_of-self-2 c =
    let within = within_table c.self.inside.table c.args.self.now c.args.event.now c.self.view_is c.requires in
    let r = replay_roomier c.self.inside.table c.self.inside.last.items c.self.inside.opened.items c.self.inside.given.items c.make_one_room.new.items.items c.args.event.now c.by-by.result c.make_room.new.opened c.index_mut.result.now c.self.invariant
    (within_table c.self.inside.table c.args.self.now c.args.event.now c.self.view_is c.requires) c.by-by.ensures c.index_mut.ensures.value (record { items = c.make_room.ensures.items; count = c.make_room.ensures.count }) c.make_one_room.ensures.items in
    replay_after c.self.inside.table c.go_on.new.table c.args.event.now c.self.inside.last.items _ (set c.self.inside.opened.items c.by-by.result.session c.make_room.new.opened) _ c.make_one_room.new.items.items c.note_given.new.items.items c.in_ok-closed.closed.items c.note_opened.new.opened c.by-by.result (opened_ids (opens c.index-3.result.now.slots.items))
    c.events.ensures.legal r (c.may_come.ensures.0 c.if-not-may_come.false) within c.by-by.ensures
    (subst (λ l. slice_index l c.by-by.result.session ≤ c.by-by.result.command) c.as_slice.ensures.value (c.is_in_turn.ensures.0 c.if-not-is_in_turn.false))
    c.in_ok-go_on.ensures.ok c.in_ok-closed.ensures.closed
    (written_back c.self.inside.last.len c.note.new.last c.self.inside.last.items (ap length c.note.ensures ∙ length-set c.deref_mut.result.now c.by-by.result.session c.by-by.result.command ∙ ap length c.deref_mut.ensures.value) (omega arith) ∙ c.note.ensures ∙ ap (λ l. set l c.by-by.result.session c.by-by.result.command) c.deref_mut.ensures.value)
    refl c.index_mut-2.result.now c.index_mut-2.ensures.value
    (subst (λ (l : List ℕ). IsNoted c.args.event.now l c.index_mut-2.result.now c.note_opened.new.opened) c.as_slice-3.ensures.value c.note_opened.ensures)
    (ap (λ (o : Opened). opened_ids (opens o.slots.items)) (c.index-3.ensures ∙ same_default (set c.self.inside.opened.items c.by-by.result.session c.make_room.new.opened) c.by-by.result.session c.index-3.result.now c.index_mut-2.result.now (subst (λ n. c.by-by.result.session < n) (sym r.opened.size) (subst (λ (b : By). b.session < c.self.inside.table.sessions) (sym c.by-by.ensures) within)) ∙ sym c.index_mut-2.ensures.value))
    (c.note_given.ensures ∙ ap (λ n. given_after (opened_ids (opens c.index-3.result.now.slots.items)) n c.args.event.now c.make_one_room.new.items.items) (ap length c.events.ensures.value))

pub returns-clause-added : goal.returns-clause-added
returns-clause-added c = λ f. (
  subst (λ (r : Replayed). IsLawfulNext r c.args.event.now) c.self.view_is (
    c.may_come.ensures.0 c.if-not-may_come.false,
    (turn_of c.self.inside.table c.args.self.now c.args.event.now c.by-by.result c.self.inside.last.items c.as_slice.result.now c.is_in_turn.result c.self.view_is c.self.invariant.turns c.as_slice.ensures.value c.requires c.by-by.ensures c.is_in_turn.ensures).0 c.if-not-is_in_turn.false,
  ),
  view_after c.self.inside.table c.go_on.new.table c.args.self.now c.args.event.now c.self.view_is c.in_ok-go_on.ensures.ok,
)
