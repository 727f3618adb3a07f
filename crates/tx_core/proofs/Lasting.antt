-- What the parts ask for stays while lists grow.
use Rattle.tx_events.proofs.ListSteps.{all_weaker}
use Rattle.std.proofs.Common.{List, ap, arith, inl, inr, subst, sym, ℕ, ⊎_elim, ◌∙◌, ◌≤◌}
use Rattle.std.proofs.lemmas.List.Elements.{filter-append}
use Rattle.std.specs.List.{filter, flat_map}
use Rattle.tx_events.specs.declared.event.Event.{Event}
use Rattle.tx_events.specs.declared.event.By.{By}
use Rattle.tx_events.specs.declared.multi.MultiEvent.{MultiEvent}
use Rattle.tx_events.specs.declared.multi.MultiEvent.TheVariants as multis
use Rattle.tx_events.specs.declared.record.Rec.{Rec}
use Rattle.tx_events.specs.Events.{given_by, given_to, is_of}
use Rattle.tx_events.specs.Families.{top}
use Rattle.tx_core.specs.declared.entry.Entry.{Entry}
use Rattle.tx_core.specs.declared.entry.Kind.{Kind}
use Rattle.tx_core.specs.declared.entry.Start.{Start}
use Rattle.tx_core.specs.declared.entry.State.{State}
use Rattle.tx_core.proofs.Asking.{if_weaker}
use Rattle.tx_core.proofs.Rising.{given_more, made_more, multis_grow, taken_begins}
use Rattle.tx_core.proofs.Growing.{begins_filter_map, begins_flat_map, contains_begins, slice_get_begins}
use Rattle.tx_core.specs.AbortRule.{AbortsOf, AskedOf, Asks, GivenOf, NeedsAborts, NeedsAsked, NeedsGiven, NeedsSame}
use Rattle.tx_core.specs.CommitRecordsExact.{LinksOf, NeedsLinks}
use Rattle.tx_core.specs.Entries.{IsAppended, IsFlushed, IsLinked, IsMarked, Stands, appended, asks_in, event_of, events_in, history, links_in, marks, marks_in, records_of}
use Rattle.tx_core.specs.EventsLegal.{NeedsOwn}
use Rattle.notes.specs.Lists.{Begins, Grows, at}
use Rattle.tx_core.specs.Lists.{IsLasting}
use Rattle.tx_core.specs.Locks.{log_lock, proc_lock, subtrans_lock_of, xact_lock_of}
use Rattle.tx_core.specs.LogBeforeStatus.{IsDurable, NeedsRecords, NeedsTree, RecordOf, TreeOf}
use Rattle.tx_core.specs.PagesBeforeIds.{IsMade, IsOffsetOf, IsTold, IsWanted, NeedsPages, NeedsPlace, NeedsZero, PagesOf, ZeroOf}
use Rattle.tx_core.specs.ParentsFollow.{IsGivenBelow, NeedsSubs}
use Rattle.tx_core.specs.MultiEntries.{multi_history}
use Rattle.tx_core.specs.ProgramOrder.{NeedsStand, NeedsTurn}
use Rattle.tx_core.specs.RecordsFollow.{IdsOf, NamedOf, NeedsFlush, NeedsNamed}
use Rattle.tx_events.specs.History.{next_given}
use Rattle.tx_events.specs.Multis.{free_offset, next_made}
use Rattle.tx_core.specs.StatusBeforeCommit.{NeedsStates, StatesOf}
use Rattle.tx_events.specs.declared.event.Event.TheVariants as events
use Rattle.tx_core.specs.declared.entry.Kind.TheVariants as kinds
use Rattle.tx_events.specs.declared.record.Rec.TheVariants as records
use Rattle.tx_core.specs.declared.entry.State.TheVariants as states

pub history_grows : (lists more : List (List Entry)) → Grows lists more → Begins (history lists) (history more)
history_grows lists more g = begins_filter_map event_of (at lists proc_lock) (at more proc_lock) (g.begins proc_lock)

pub stands_grows : (lists more : List (List Entry)) (lock : ℕ) (kind : Kind) → Grows lists more → Stands lists lock kind → Stands more lock kind
stands_grows lists more lock kind g s = (s.0, contains_begins (at lists lock) (at more lock) _ (g.begins lock) s.1)

pub marked_grows : (start : Start) (lists more : List (List Entry)) (id : ℕ) (state : State) → Grows lists more → IsMarked start lists id state → IsMarked start more id state
marked_grows start lists more id state g m =
    let lock = xact_lock_of start id in (m.0, contains_begins (marks (at lists lock)) (marks (at more lock)) _ (begins_flat_map marks_in (at lists lock) (at more lock) (g.begins lock)) m.1)

pub linked_grows : (start : Start) (lists more : List (List Entry)) (id parent : ℕ) → Grows lists more → IsLinked start lists id parent → IsLinked start more id parent
linked_grows start lists more id parent g m =
    let lock = subtrans_lock_of start id in (m.0, contains_begins (flat_map links_in (at lists lock)) (flat_map links_in (at more lock)) _ (begins_flat_map links_in (at lists lock) (at more lock) (g.begins lock)) m.1)

pub appended_grows : (lists more : List (List Entry)) (session : ℕ) (rec : Rec) → Grows lists more → IsAppended lists session rec → IsAppended more session rec
appended_grows lists more session rec g a = (a.0, a.1, contains_begins (at lists log_lock) (at more log_lock) _ (g.begins log_lock) a.2)

pub flushed_grows : (start : Start) (lists more : List (List Entry)) (session : ℕ) (rec : Rec) → Grows lists more → IsFlushed start lists session rec → IsFlushed start more session rec
flushed_grows start lists more session rec g f =
    (f.0, f.1, f.2, f.3, slice_get_begins (records_of lists) (records_of more) f.0 (f.2, rec) (begins_filter_map appended (at lists log_lock) (at more log_lock) (g.begins log_lock)) f.4, f.5, stands_grows lists more log_lock (kinds.Flush f.1) g f.6)

pub durable_grows : (start : Start) (lists more : List (List Entry)) (session id : ℕ) → Grows lists more → IsDurable start lists session id → IsDurable start more session id
durable_grows start lists more session id g d = (d.0, d.1, flushed_grows start lists more session (records.Commit d.0 d.1) g d.2, d.3)

pub made_grows : (start : Start) (lists more : List (List Entry)) (id : ℕ) → Grows lists more → IsMade start lists id → IsMade start more id
made_grows start lists more id g m = (⊎_elim inl (λ s. inr (stands_grows lists more _ _ g s)) m.0, ⊎_elim inl (λ s. inr (stands_grows lists more _ _ g s)) m.1)

pub own_lasting : IsLasting NeedsOwn
own_lasting = record { stays = λ lists more lock before e g n. n }

pages_stay : (start : Start) (lists more : List (List Entry)) (before : List Entry) (kind : Kind) → Grows lists more → PagesOf start lists before kind → PagesOf start more before kind
pages_stay start lists more before (kinds.Event event) g n = if_weaker (given_by event) (λ id. IsMade start lists id × IsTold start before id) (λ id. IsMade start more id × IsTold start before id) (λ id h. (made_grows start lists more id g h.0, h.1)) n
pages_stay start lists more before (kinds.Made id) g n = (made_grows start lists more id g n.0, n.1)
pages_stay start lists more before _ g n = tt

pub pages_lasting : (start : Start) → IsLasting (NeedsPages start)
pages_lasting start = record { stays = λ lists more lock before e g n. pages_stay start lists more before e.kind g n }

pub places_lasting : (start : Start) → IsLasting (NeedsPlace start)
places_lasting start = record { stays = λ lists more lock before e g n. record { marks = n.marks; links = n.links; offsets = n.offsets; slots = n.slots } }

pub subs_lasting : IsLasting NeedsSubs
subs_lasting = record {
  stays = λ lists more lock before e g n.
      all_weaker (λ link. IsGivenBelow lists link.caller.session link.parent link.id) (λ link. IsGivenBelow more link.caller.session link.parent link.id) (λ link h. (h.0, h.1, contains_begins (history lists) (history more) _ (history_grows lists more g) h.2)) (links_in e) n;
}

links_stay : (start : Start) (lists more : List (List Entry)) (kind : Kind) → Grows lists more → LinksOf start lists kind → LinksOf start more kind
links_stay start lists more (kinds.Append (records.Commit top subs)) g n = λ id k. ((n id k).0, linked_grows start lists more id (n id k).0 g (n id k).1)
links_stay start lists more _ g n = tt

pub links_lasting : (start : Start) → IsLasting (NeedsLinks start)
links_lasting start = record { stays = λ lists more lock before e g n. links_stay start lists more e.kind g n }

record_stays : (start : Start) (lists more : List (List Entry)) (session id : ℕ) (state : State) → Grows lists more → RecordOf start lists session id state → RecordOf start more session id state
record_stays start lists more session id states.Committed g n = durable_grows start lists more session id g n
record_stays start lists more session id states.SubCommitted g n = durable_grows start lists more session id g n
record_stays start lists more session id states.Aborted g n = tt

pub logged_lasting : (start : Start) → IsLasting (NeedsRecords start)
logged_lasting start = record { stays = λ lists more lock before e g n. all_weaker (λ mark. RecordOf start lists mark.caller.session mark.id mark.state) (λ mark. RecordOf start more mark.caller.session mark.id mark.state) (λ mark h. record_stays start lists more mark.caller.session mark.id mark.state g h) (marks_in e) n }

tree_stays : (start : Start) (lists more : List (List Entry)) (session id : ℕ) (state : State) → Grows lists more → TreeOf start lists session id state → TreeOf start more session id state
tree_stays start lists more session id states.Committed g n = record {
  top = n.top;
  subs = n.subs;
  among = n.among;
  appended = appended_grows lists more session (records.Commit n.top n.subs) g n.appended;
  before_top = λ q sub k other. marked_grows start lists more sub states.SubCommitted g (n.before_top q sub k other);
  after_top = λ other. marked_grows start lists more n.top states.Committed g (n.after_top other);
}
tree_stays start lists more session id _ g n = tt

pub tree_lasting : (start : Start) → IsLasting (NeedsTree start)
tree_lasting start = record { stays = λ lists more lock before e g n. all_weaker (λ mark. TreeOf start lists mark.caller.session mark.id mark.state) (λ mark. TreeOf start more mark.caller.session mark.id mark.state) (λ mark h. tree_stays start lists more mark.caller.session mark.id mark.state g h) (marks_in e) n }

states_stay : (start : Start) (lists more : List (List Entry)) (kind : Kind) → Grows lists more → StatesOf start lists kind → StatesOf start more kind
states_stay start lists more (kinds.Event (events.Commit by top)) g n = (n.0, appended_grows lists more by.session (records.Commit top n.0) g n.1, λ id c. marked_grows start lists more id states.Committed g (n.2 id c))
states_stay start lists more _ g n = tt

pub states_lasting : (start : Start) → IsLasting (NeedsStates start)
states_lasting start = record { stays = λ lists more lock before e g n. states_stay start lists more e.kind g n }

aborts_stay : (start : Start) (lists more : List (List Entry)) (before : List Event) (kind : Kind) → Grows lists more → AbortsOf start lists before kind → AbortsOf start more before kind
aborts_stay start lists more before (kinds.Event (events.Undo by id)) g n = λ x k j. marked_grows start lists more x states.Aborted g (n x k j)
aborts_stay start lists more before (kinds.Event (events.Abort by top)) g n = λ x k. marked_grows start lists more x states.Aborted g (n x k)
aborts_stay start lists more before _ g n = tt

pub aborts_lasting : (start : Start) → IsLasting (NeedsAborts start)
aborts_lasting start = record { stays = λ lists more lock before e g n. aborts_stay start lists more (events_in before) e.kind g n }

-- what a session was given stays given
pub given_to_begins : (session : ℕ) (h more : List Event) → Begins h more → Begins (given_to session h) (given_to session more)
given_to_begins session h more b =
    let c : Begins (filter (is_of session) h) (filter (is_of session) more) = (filter (is_of session) b.0, sym (filter-append (is_of session) h b.0) ∙ ap (λ (t : List Event). filter (is_of session) t) b.1) in
    begins_filter_map given_by (filter (is_of session) h) (filter (is_of session) more) c

pub asks_grows : (lists more : List (List Entry)) (session id : ℕ) (state : State) → Grows lists more → Asks lists session id state → Asks more session id state
asks_grows lists more session id state g a = record {
  lock = a.lock;
  entry = a.entry;
  stands = contains_begins (at lists a.lock) (at more a.lock) a.entry (g.begins a.lock) a.stands;
  own = a.own;
  caller = a.caller;
  same = a.same;
  asks = a.asks;
}

pub given_lasting : IsLasting NeedsGiven
given_lasting = record {
  stays = λ lists more lock before e g n.
      all_weaker (λ mark. GivenOf lists mark) (λ mark. GivenOf more mark)
      (λ mark h. contains_begins (given_to mark.caller.session (history lists)) (given_to mark.caller.session (history more)) mark.id (given_to_begins mark.caller.session (history lists) (history more) (history_grows lists more g)) h)
      (asks_in e) n;
}

pub asked_lasting : IsLasting NeedsAsked
asked_lasting = record {
  stays = λ lists more lock before e g n.
      all_weaker (λ mark. AskedOf lists e.by.session mark) (λ mark. AskedOf more e.by.session mark)
      (λ mark h. ⊎_elim inl (λ a. inr (asks_grows lists more mark.caller.session mark.id mark.state g a)) h)
      (marks_in e) n;
}

pub same_lasting : IsLasting NeedsSame
same_lasting = record { stays = λ lists more lock before e g n. record { later = n.later; alike = n.alike } }

pub turns_lasting : (start : Start) → IsLasting (NeedsTurn start)
turns_lasting start = record { stays = λ lists more lock before e g n. n }

pub stand_lasting : (start : Start) → IsLasting (NeedsStand start)
stand_lasting start = record { stays = λ lists more lock before e g n. n }

offset_grows : (start : Start) (lists more : List (List Entry)) (offset : ℕ) → Grows lists more → IsOffsetOf start lists offset → IsOffsetOf start more offset
offset_grows start lists more offset g f =
    let r = taken_begins (multi_history lists) (multi_history more) f.1 (multis_grow lists more g) f.2 in
    (f.0, f.1, r.0, subst (λ (h : List MultiEvent). offset ≤ free_offset start.base.offset h) (sym r.1) f.3)

pub wanted_grows : (start : Start) (lists more : List (List Entry)) (lock page : ℕ) → Grows lists more → IsWanted start lists lock page → IsWanted start more lock page
wanted_grows start lists more lock page g w =
    let ids : next_given start.base.next (history lists) ≤ next_given start.base.next (history more) = given_more start.base (history lists) (history more) (history_grows lists more g) in
    let multis : next_made start.base.multi (multi_history lists) ≤ next_made start.base.multi (multi_history more) = made_more start.base.multi (multi_history lists) (multi_history more) (multis_grow lists more g) in
    record {
      xact = λ bank q. let r = w.xact bank q in let le = r.2.1 in (r.0, r.1, (r.2.0, omega arith));
      subtrans = λ bank q. let r = w.subtrans bank q in let le = r.2.1 in (r.0, r.1, (r.2.0, omega arith));
      offsets = λ bank q. let r = w.offsets bank q in let le = r.2.1 in (r.0, r.1, (r.2.0, omega arith));
      members = λ bank q. let r = w.members bank q in (r.0, r.1, offset_grows start lists more r.0 g r.2);
    }

zero_stays : (start : Start) (lists more : List (List Entry)) (lock : ℕ) (kind : Kind) → Grows lists more → ZeroOf start lists lock kind → ZeroOf start more lock kind
zero_stays start lists more lock (kinds.Zero page) g n = wanted_grows start lists more lock page g n
zero_stays start lists more lock _ g n = tt

pub zero_lasting : (start : Start) → IsLasting (NeedsZero start)
zero_lasting start = record { stays = λ lists more lock before e g n. zero_stays start lists more lock e.kind g n }

ids_stay : (start : Start) (lists more : List (List Entry)) (by : By) (rec : Rec) → Grows lists more → IdsOf start lists by rec → IdsOf start more by rec
ids_stay start lists more by (records.Abort top subs) g n = λ id c. contains_begins (given_to by.session (history lists)) (given_to by.session (history more)) id (given_to_begins by.session (history lists) (history more) (history_grows lists more g)) (n id c)
ids_stay start lists more by (records.Multi multi offset members) g n = (
  (n.0.0, n.0.1, contains_begins (multi_history lists) (multi_history more) (multis.Gen n.0.0 multi offset members) (multis_grow lists more g) n.0.2),
  λ id c. let le = given_more start.base (history lists) (history more) (history_grows lists more g) in let lt = n.1 id c in omega arith,
  n.2,
)
ids_stay start lists more by _ g n = tt

named_stays : (start : Start) (lists more : List (List Entry)) (by : By) (kind : Kind) → Grows lists more → NamedOf start lists by kind → NamedOf start more by kind
named_stays start lists more by (kinds.Append rec) g n = ids_stay start lists more by rec g n
named_stays start lists more by _ g n = tt

pub named_lasting : (start : Start) → IsLasting (NeedsNamed start)
named_lasting start = record { stays = λ lists more lock before e g n. named_stays start lists more e.by e.kind g n }

pub flush_lasting : (start : Start) → IsLasting (NeedsFlush start)
flush_lasting start = record { stays = λ lists more lock before e g n. n }
