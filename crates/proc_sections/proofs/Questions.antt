-- The status of an id is asked for.
use Rattle.std.proofs.Common.{◌≡◌, ℕ, List, [], ◌∷◌, ◌++◌, sym, ap, subst, ◌∙◌, arith, refl}
use Rattle.notes.specs.Lists.{at}
use Rattle.tx_events.specs.Ids.{IsFullId}
use Rattle.tx_events.specs.declared.event.By.{By}
use Rattle.tx_events.specs.declared.event.Event.{Event}
use Rattle.tx_events.specs.declared.event.Event.TheVariants as events
use Rattle.tx_events.specs.History.{next_given}
use Rattle.tx_events.specs.Horizon.{oldest_id}
use Rattle.tx_events.specs.IdLists.{has}
use Rattle.tx_events.specs.Running.{open_ids, running}
use Rattle.proc_table.specs.declared.answers.Asked.{Asked}
use Rattle.proc_table.specs.Table.{IsAsked, Table}
use Rattle.tx_core.specs.declared.entry.Entry.{Entry}
use Rattle.tx_core.specs.declared.entry.Kind.TheVariants as kinds
use Rattle.tx_core.specs.declared.entry.Start.{Start}
use Rattle.tx_core.specs.Entries.{appended, event_of, history}
use Rattle.tx_core.specs.Locks.{proc_lock}
use Rattle.tx_core.specs.PostsFollow.{IsShown}
use Rattle.tx_core.specs.ProgramOrder.{IsInTurn}
use Rattle.tx_core.proofs.EventLaws.{ask_law}
use Rattle.session_levels.specs.Stands.{Stands}
use Rattle.session_levels.proofs.RegisteredLemmas.{stood_asked}
use Rattle.session_levels.proofs.StandsLemmas.{stands, stood}
use Rattle.engine_parts.specs.declared.session.Session.{Session}
use Rattle.engine_parts.specs.Holds.{Knowledge, Leaves}
use Rattle.engine_parts.specs.Law.{MayKeep}
use Rattle.engine_parts.specs.Sessions.{IsAt, IsReady, by_at}
use Rattle.engine_parts.specs.Stand.{ProcStands}
use Rattle.engine_parts.proofs.Leaving.{at_left, clear_same, filed_left, history_event, no_abort, no_multi, unaborted_same}
use Rattle.engine_parts.proofs.Made.{makes_left}
use Rattle.tx_core.specs.MultiEntries.{multi_of}
use Rattle.proc_sections.specs.Askings.{IsAnswered}

abbrev pub ask_entry : By → ℕ → Entry
ask_entry by x = record { by = by; kind = kinds.Event (events.Ask by x) }

pub may_ask : (start : Start) (seen : List (List Entry)) (by : By) (x : ℕ) (e : Entry) → e ≡ ask_entry by x → IsShown start seen → IsFullId x → IsInTurn start (at seen proc_lock) by → MayKeep start seen proc_lock e
may_ask start seen by x e is shown full turn = subst (MayKeep start seen proc_lock) (sym is) (λ lists k knows inside whole. ask_law start seen by x shown full lists k knows inside whole turn)

-- the session stands as before
pub ready_asked : (start : Start) (v w : Knowledge) (n n' : ℕ) (s s' : Session) (x : ℕ) (e : Entry) → IsAt start v n s → e ≡ ask_entry (by_at n s.levels.commands) x → s' ≡ s → n' ≡ n → Leaves start proc_lock e v w → IsReady start w n' s'
ready_asked start v w n n' s s' x e a is same number l =
    let wide = a.wide in
    let h : List Event = history v.seen in
    let by : By = by_at n s.levels.commands in
    let event : Event = events.Ask by x in
    let grown : history w.seen ≡ h ++ event ∷ [] = history_event start v w e event (ap event_of is) (omega arith) l in
    let st = stood_asked start.base h by x s.levels.open_ids.items s.levels.level_ids.items s.levels.unnamed s.levels.registered.items (stood start.base h n s.levels.commands s.levels a.stands) in
    subst (λ (z : ℕ × Session). IsReady start w z.0 z.1) (λ j. (sym number j, sym same j))
    (at_left start v w n proc_lock s s e a (omega arith) (ap (λ (z : Entry). z.by) is) refl l
    (subst (λ (t : List Event). Stands start.base t n s.levels.commands s.levels) (sym grown) (stands start.base (h ++ event ∷ []) n s.levels.commands s.levels st))
    (clear_same start v w n proc_lock s e a (omega arith) (ap appended is) (ap (open_ids n) grown ∙ (st.opened_are ∙ sym a.stands.opened)) l)
    (unaborted_same start v w n proc_lock s e a (omega arith) (no_abort e (ap appended is)) l)
    (filed_left start v w n proc_lock s e a (omega arith) l)
    (makes_left start v w n proc_lock s.making e l.kept (omega arith) (ap multi_of is) (no_multi e (ap appended is)) l a.makes))

-- what was answered, by what the table answered
pub answered_by : (start : Start) (u w : Knowledge) (by : By) (x : ℕ) (old : Table) (asked : Asked) (e : Entry) → ProcStands start old (at u.seen proc_lock) → IsAsked old x asked → e ≡ ask_entry by x → history w.seen ≡ history u.seen ++ events.Ask by x ∷ [] → IsAnswered start (events.Ask by x) x asked w.seen
answered_by start u w by x old asked e table a is grown = record {
  front = history u.seen;
  split = grown;
  running = a.running ∙ ap (λ (t : List Event). has (running t) x) table.events;
  next = a.next ∙ (λ j. next_given (table.base j).next (table.events j));
  oldest = a.oldest ∙ (λ j. oldest_id (table.base j).oldest (table.events j));
}
