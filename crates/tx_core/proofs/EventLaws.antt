-- The entries of the ProcArray keep the invariant, and so does a commit record.
use Rattle.std.proofs.Common.{inl, List, refl, ◌≡◌}
use Rattle.tx_events.specs.declared.event.By.{By}
use Rattle.tx_events.specs.declared.event.Event.{Event}
use Rattle.tx_events.specs.Events.{by_of}
use Rattle.tx_events.specs.Families.{top}
use Rattle.tx_events.specs.History.{MayCome}
use Rattle.tx_events.specs.Running.{closed}
use Rattle.tx_core.specs.declared.entry.Entry.{Entry}
use Rattle.tx_core.specs.declared.entry.Start.{Start}
use Rattle.tx_core.proofs.Keeping.{keeps}
use Rattle.tx_core.proofs.Once.{end_once}
use Rattle.tx_core.specs.AbortRule.{AbortsOf}
use Rattle.tx_core.specs.AbortRecordsExact.{LeavesAborts}
use Rattle.tx_core.specs.CommitRecordsExact.{LeavesRecords}
use Rattle.tx_core.specs.Entries.{appended, history}
use Rattle.tx_core.specs.Laws.{AbortEventKeeps, AskKeeps, CommitEventKeeps, CommitRecordKeeps, IdEventKeeps, KindKeeps, MadeKeeps, OldestKeeps, SnapDropKeeps, SnapEventKeeps, SubEventKeeps, UndoEventKeeps}
use Rattle.notes.specs.Lists.{at, own}
use Rattle.tx_core.specs.Locks.{log_lock, proc_lock}
use Rattle.tx_core.specs.PagesBeforeIds.{PagesOf}
use Rattle.tx_core.specs.PostsFollow.{IsShown}
use Rattle.tx_core.specs.StatusBeforeCommit.{StatesOf}
use Rattle.tx_events.specs.declared.event.Event.TheVariants as events
use Rattle.tx_core.specs.declared.entry.Kind.TheVariants as kinds
use Rattle.tx_events.specs.declared.record.Rec.TheVariants as records

-- an event, from what each part asks of it
event_keeps : (start : Start) (seen : List (List Entry)) (by : By) (event : Event) → by_of event ≡ by → IsShown start seen → MayCome start.base (history seen) event → PagesOf start seen (at seen proc_lock) (kinds.Event event) → LeavesRecords seen event → LeavesAborts seen event → StatesOf start seen (kinds.Event event) → AbortsOf start seen (history seen) (kinds.Event event)
    → KindKeeps start seen proc_lock by (kinds.Event event)
event_keeps start seen by event own shown rule pages leaves aborts states closed lists k knows inside whole turn =
    keeps start lists seen proc_lock (record { by = by; kind = kinds.Event event }) k knows inside whole (record {
      events = record { own = own; rule = λ here. rule };
      pages = record { ids = pages; changes = record { marks = tt; links = tt; offsets = tt; slots = tt }; made = tt };
      parents = tt;
      records = record { parents = tt; event = λ here. leaves; ids = λ here. tt };
      status = record { logged = tt; tree = tt };
      commits = states;
      aborts = record { closed = closed; given = tt; asked = tt; unasked = λ here. tt; unrecorded = tt; final = record { later = tt; alike = tt } };
      order = record { turn = inl turn; stands = refl };
      log = record { counters = tt; named = tt; flushed = tt };
      cuts = tt;
      multis = tt;
      members = record { slots = tt; offsets = tt };
      syncs = tt;
      posts = shown;
      faults = tt;
      down = tt;
      once = tt;
      ends = record { event = λ here. aborts; ids = λ here. tt };
    })

pub id_event_law : IdEventKeeps
id_event_law start seen by id shown rule made told = event_keeps start seen by (events.Id by id) refl shown rule (made, told) tt tt tt tt

pub sub_event_law : SubEventKeeps
sub_event_law start seen by parent id shown rule made told none aborts = event_keeps start seen by (events.Sub by parent id) refl shown rule (made, told) none aborts tt tt

pub undo_event_law : UndoEventKeeps
undo_event_law start seen by id shown rule none aborts aborted = event_keeps start seen by (events.Undo by id) refl shown rule tt none aborts tt aborted

pub commit_event_law : CommitEventKeeps
commit_event_law start seen by top subs shown rule appended marked = event_keeps start seen by (events.Commit by top) refl shown rule tt tt tt (subs, appended, marked) tt

pub abort_event_law : AbortEventKeeps
abort_event_law start seen by top shown rule none aborted = event_keeps start seen by (events.Abort by top) refl shown rule tt none tt tt aborted

pub snap_event_law : SnapEventKeeps
snap_event_law start seen by name shown rule = event_keeps start seen by (events.Snap name by) refl shown rule tt tt tt tt tt

pub snap_drop_law : SnapDropKeeps
snap_drop_law start seen by name shown rule = event_keeps start seen by (events.SnapDrop name by) refl shown rule tt tt tt tt tt

pub oldest_law : OldestKeeps
oldest_law start seen by oldest shown rule = event_keeps start seen by (events.Oldest by oldest) refl shown rule tt tt tt tt tt

pub ask_law : AskKeeps
ask_law start seen by id shown rule = event_keeps start seen by (events.Ask by id) refl shown rule tt tt tt tt tt

pub made_law : MadeKeeps
made_law start seen by id made next lists k knows inside whole turn =
    keeps start lists seen proc_lock (record { by = by; kind = kinds.Made id }) k knows inside whole (record {
      events = record { own = tt; rule = λ here. tt };
      pages = record { ids = (made, next); changes = record { marks = tt; links = tt; offsets = tt; slots = tt }; made = tt };
      parents = tt;
      records = record { parents = tt; event = λ here. tt; ids = λ here. tt };
      status = record { logged = tt; tree = tt };
      commits = tt;
      aborts = record { closed = tt; given = tt; asked = tt; unasked = λ here. tt; unrecorded = tt; final = record { later = tt; alike = tt } };
      order = record { turn = inl turn; stands = refl };
      log = record { counters = tt; named = tt; flushed = tt };
      cuts = tt;
      multis = tt;
      members = record { slots = tt; offsets = tt };
      syncs = tt;
      posts = tt;
      faults = tt;
      down = tt;
      once = tt;
      ends = record { event = λ here. tt; ids = λ here. tt };
    })

pub commit_record_law : CommitRecordKeeps
commit_record_law start seen by top subs opened root parents unasked none unaborted base up lists k knows inside whole turn =
    keeps start lists seen log_lock (record { by = by; kind = kinds.Append (records.Commit top subs) }) k knows inside whole (record {
      events = record { own = tt; rule = λ here. tt };
      pages = record { ids = tt; changes = record { marks = tt; links = tt; offsets = tt; slots = tt }; made = tt };
      parents = tt;
      records = record { parents = parents; event = λ here. tt; ids = λ here. (opened, root) };
      status = record { logged = tt; tree = tt };
      commits = tt;
      aborts = record { closed = tt; given = tt; asked = tt; unasked = λ here. unasked; unrecorded = tt; final = record { later = tt; alike = tt } };
      order = record { turn = inl turn; stands = refl };
      log = record { counters = (base, tt); named = tt; flushed = tt };
      cuts = tt;
      multis = tt;
      members = record { slots = tt; offsets = tt };
      syncs = tt;
      posts = tt;
      faults = tt;
      down = up;
      once = end_once start seen lists by k knows whole top subs opened none unaborted;
      ends = record { event = λ here. tt; ids = λ here. tt };
    })
