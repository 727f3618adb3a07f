-- The oldest id is announced.
use Rattle.std.proofs.Common.{◌≡◌, ℕ, ◌<◌, ◌≤◌, List, [], ◌∷◌, ◌++◌, sym, ap, subst, ◌∙◌, arith, refl, ⊎_elim}
use Rattle.notes.specs.Lists.{at}
use Rattle.tx_events.specs.declared.event.By.{By}
use Rattle.tx_events.specs.declared.event.Event.{Event}
use Rattle.tx_events.specs.declared.event.Event.TheVariants as events
use Rattle.tx_events.specs.declared.refusal.Refusal.{Refusal}
use Rattle.tx_events.specs.declared.refusal.Refusal.TheVariants as refusals
use Rattle.tx_events.specs.Horizon.{oldest_id, oldest_xmin}
use Rattle.tx_events.specs.Running.{open_ids}
use Rattle.proc_table.specs.Table.{IsNotRaised, Table, oldest_of, xmin_of}
use Rattle.tx_core.specs.declared.entry.Entry.{Entry}
use Rattle.tx_core.specs.declared.entry.Kind.TheVariants as kinds
use Rattle.tx_core.specs.declared.entry.Start.{Start}
use Rattle.tx_core.specs.Entries.{appended, event_of, history}
use Rattle.tx_core.specs.Locks.{proc_lock}
use Rattle.tx_core.specs.PostsFollow.{IsShown}
use Rattle.tx_core.specs.ProgramOrder.{IsInTurn}
use Rattle.tx_core.proofs.EventLaws.{oldest_law}
use Rattle.session_levels.specs.Stands.{Stands}
use Rattle.session_levels.proofs.RegisteredLemmas.{stood_announced}
use Rattle.session_levels.proofs.StandsLemmas.{stands, stood}
use Rattle.engine_parts.specs.declared.session.Session.{Session}
use Rattle.engine_parts.specs.Holds.{Knowledge, Leaves}
use Rattle.engine_parts.specs.Law.{MayKeep}
use Rattle.engine_parts.specs.Sessions.{IsAt, IsReady, by_at}
use Rattle.engine_parts.specs.Stand.{ProcStands}
use Rattle.engine_parts.proofs.Leaving.{at_left, clear_same, filed_left, history_event, no_abort, no_multi, unaborted_same}
use Rattle.engine_parts.proofs.Made.{makes_left}
use Rattle.tx_core.specs.MultiEntries.{multi_of}
use Rattle.proc_sections.specs.Announcements.{IsNotAnnounced}

abbrev pub oldest_entry : By → ℕ → Entry
oldest_entry by oldest = record { by = by; kind = kinds.Event (events.Oldest by oldest) }

-- what the table found, said of the history
pub raised_here : (start : Start) (u : Knowledge) (old : Table) (oldest : ℕ) → ProcStands start old (at u.seen proc_lock) → oldest_of old ≤ oldest → oldest ≤ xmin_of old → (oldest_id start.base.oldest (history u.seen) ≤ oldest) × (oldest ≤ oldest_xmin start.base.next (history u.seen))
raised_here start u old oldest s from to = (
  subst (λ z. z ≤ oldest) (λ j. oldest_id (s.base j).oldest (s.events j)) from,
  subst (λ z. oldest ≤ z) (λ j. oldest_xmin (s.base j).next (s.events j)) to,
)

pub may_announce : (start : Start) (seen : List (List Entry)) (by : By) (oldest : ℕ) (e : Entry) → e ≡ oldest_entry by oldest → IsShown start seen → (oldest_id start.base.oldest (history seen) ≤ oldest) × (oldest ≤ oldest_xmin start.base.next (history seen)) → IsInTurn start (at seen proc_lock) by → MayKeep start seen proc_lock e
may_announce start seen by oldest e is shown rule turn = subst (MayKeep start seen proc_lock) (sym is) (λ lists k knows inside whole. oldest_law start seen by oldest shown rule lists k knows inside whole turn)

-- the session stands as before
pub ready_announced : (start : Start) (v w : Knowledge) (n n' : ℕ) (s s' : Session) (oldest : ℕ) (e : Entry) → IsAt start v n s → e ≡ oldest_entry (by_at n s.levels.commands) oldest → s' ≡ s → n' ≡ n → Leaves start proc_lock e v w → IsReady start w n' s'
ready_announced start v w n n' s s' oldest e a is same number l =
    let wide = a.wide in
    let h : List Event = history v.seen in
    let by : By = by_at n s.levels.commands in
    let event : Event = events.Oldest by oldest in
    let grown : history w.seen ≡ h ++ event ∷ [] = history_event start v w e event (ap event_of is) (omega arith) l in
    let st = stood_announced start.base h by oldest s.levels.open_ids.items s.levels.level_ids.items s.levels.unnamed s.levels.registered.items (stood start.base h n s.levels.commands s.levels a.stands) in
    subst (λ (z : ℕ × Session). IsReady start w z.0 z.1) (λ j. (sym number j, sym same j))
    (at_left start v w n proc_lock s s e a (omega arith) (ap (λ (z : Entry). z.by) is) refl l
    (subst (λ (t : List Event). Stands start.base t n s.levels.commands s.levels) (sym grown) (stands start.base (h ++ event ∷ []) n s.levels.commands s.levels st))
    (clear_same start v w n proc_lock s e a (omega arith) (ap appended is) (ap (open_ids n) grown ∙ (st.opened_are ∙ sym a.stands.opened)) l)
    (unaborted_same start v w n proc_lock s e a (omega arith) (no_abort e (ap appended is)) l)
    (filed_left start v w n proc_lock s e a (omega arith) l)
    (makes_left start v w n proc_lock s.making e l.kept (omega arith) (ap multi_of is) (no_multi e (ap appended is)) l a.makes))

-- why nothing was announced, by what the table refused
pub not_announced : (start : Start) (u w : Knowledge) (old : Table) (oldest : ℕ) (r : Refusal) → ProcStands start old (at u.seen proc_lock) → history w.seen ≡ history u.seen → IsNotRaised old oldest r → IsNotAnnounced start.base (history w.seen) oldest r
not_announced start u w old oldest r s still n =
    let now : oldest_of old ≡ oldest_id start.base.oldest (history w.seen) = λ j. oldest_id (s.base j).oldest ((s.events ∙ sym still) j) in
    let limit : xmin_of old ≡ oldest_xmin start.base.next (history w.seen) = λ j. oldest_xmin (s.base j).next ((s.events ∙ sym still) j) in
    ⊎_elim
    (λ (z : (oldest < oldest_of old) × (r ≡ refusals.Backward (oldest_of old))). subst (IsNotAnnounced start.base (history w.seen) oldest) (sym z.1) (now, z.0))
    (λ rest. ⊎_elim
    (λ (z : (oldest_of old ≤ oldest) × (xmin_of old < oldest) × (r ≡ refusals.TooNew (xmin_of old))). subst (IsNotAnnounced start.base (history w.seen) oldest) (sym z.2) (limit, z.1))
    (λ (z : (oldest_of old ≤ oldest) × (oldest ≤ xmin_of old) × (r ≡ refusals.Memory)). subst (IsNotAnnounced start.base (history w.seen) oldest) (sym z.2)
    (subst (λ k. k ≤ oldest) now z.0, subst (λ k. oldest ≤ k) limit z.1))
    rest)
    n
