-- Entries that say nothing of ids ask for nothing.
use Rattle.std.proofs.Common.{Bool, IfSome, List, false, inl, inr, length, refl, true, ℕ, ◌<◌, ◌≡◌, ◌⊎◌, Contains, subst, sym, ◌∷◌}
use Rattle.std.specs.List.{AllByRecursion, filter_map}
use Rattle.tx_events.specs.declared.event.By.{By}
use Rattle.tx_events.specs.declared.event.Event.{Event}
use Rattle.tx_events.specs.Events.{by_of}
use Rattle.tx_events.specs.Families.{top}
use Rattle.tx_events.specs.History.{MayCome}
use Rattle.tx_events.proofs.Membership.{Has, contains_has, has_contains, has_filter}
use Rattle.tx_events.specs.Running.{is_open}
use Rattle.tx_events.specs.Events.{given_to}
use Rattle.tx_core.specs.declared.entry.Entry.{Entry}
use Rattle.tx_core.specs.declared.entry.Kind.{Kind}
use Rattle.tx_core.specs.declared.entry.Start.{Start}
use Rattle.tx_core.proofs.ChangeLaws.{host_fault_law}
use Rattle.tx_core.proofs.Keeping.{keeps}
use Rattle.tx_core.specs.AbortRule.{AbortsOf, AskUnrecorded, AskedOf, GivenOf, IsSameAfter, RecordUnasked}
use Rattle.tx_core.specs.CommitRecordsExact.{LeavesRecords, LinksOf, RecordMay}
use Rattle.tx_core.specs.Entries.{EachMark, Link, Mark, asked_in, changes_in, cut_in, event_in, events_in, history, link_of, mark_of, session_of}
use Rattle.tx_core.specs.EngineInvariant.{EngineInvariant}
use Rattle.tx_core.specs.Laws.{AbortRecordKeeps, CheckpointRecordKeeps, CutKeeps, FlushKeeps, ForgetKeeps, HostKindKeeps, HostsKeep, KindKeeps, LogFaultKeeps, LookKeeps, MultiEventKeeps, MultiRecordKeeps, SyncKeeps, TruncateRecordKeeps, ZeroKeeps}
use Rattle.notes.specs.Lists.{Knows, add, at}
use Rattle.tx_core.specs.Locks.{log_lock, member_page_in_full, multi_lock, offset_page, subtrans_page, xact_page}
use Rattle.tx_core.specs.LogBeforeStatus.{RecordOf, TreeOf}
use Rattle.tx_core.specs.MultisLegal.{ToldOf}
use Rattle.tx_core.specs.PagesBeforeIds.{PagesOf, WasMade, ZeroOf}
use Rattle.tx_core.specs.MultiEntries.{SetOffset, SetSlot, multi_in, multis_in, offset_of, slot_of}
use Rattle.tx_core.specs.RecordsFollow.{AppendOf, FlushOf, NamedOf}
use Rattle.tx_core.specs.CutsFollow.{CutBy}
use Rattle.tx_core.specs.MembersBeforeOffset.{OffsetOf, SlotOf}
use Rattle.tx_core.specs.SyncsBeforeForgets.{ForgetOf}
use Rattle.tx_core.specs.PostsFollow.{PostIn, PostOf}
use Rattle.tx_core.specs.FaultsRise.{count_in, faults_told}
use Rattle.tx_core.specs.StaysDown.{UpOf}
use Rattle.tx_core.specs.RecordsOnce.{OnceIn}
use Rattle.tx_core.proofs.Once.{end_once, multi_once}
use Rattle.tx_core.specs.AbortRecordsExact.{AbortMay, LeavesAborts}
use Rattle.disk_core.specs.Faults.{HasRisen}
use Rattle.tx_core.specs.Locks.{oldest_word, xmin_word}
use Rattle.tx_events.specs.Multis.{InBase, MultiMayCome, multi_by}
use Rattle.tx_core.specs.ParentsFollow.{IsGivenBelow}
use Rattle.tx_core.specs.ProgramOrder.{IsOfHost, MayStand, NeedsTurn}
use Rattle.tx_core.specs.StatusBeforeCommit.{StatesOf}
use Rattle.tx_core.specs.declared.entry.Kind.TheVariants as kinds
use Rattle.tx_events.specs.declared.record.Rec.TheVariants as records

-- no event, no made page, no commit record, no change
abbrev pub is_quiet : Kind → Bool
is_quiet (kinds.Append (records.Commit top subs)) = false
is_quiet (kinds.Event event) = false
is_quiet (kinds.Made id) = false
is_quiet (kinds.Set changes) = false
is_quiet (kinds.Fault callers changes cut count) = false
is_quiet (kinds.Request changes) = false
is_quiet _ = true

quiet_event : (P : Event → Type 0) (kind : Kind) → is_quiet kind ≡ true → IfSome (event_in kind) P
quiet_event P (kinds.Event event) q = absurd cc
quiet_event P _ q = tt

quiet_marks : (P : Mark → Type 0) (kind : Kind) → is_quiet kind ≡ true → AllByRecursion P (filter_map mark_of (changes_in kind))
quiet_marks P (kinds.Set changes) q = absurd cc
quiet_marks P (kinds.Fault callers changes cut count) q = absurd cc
quiet_marks P _ q = tt

quiet_asks : (P : Mark → Type 0) (kind : Kind) → is_quiet kind ≡ true → AllByRecursion P (filter_map mark_of (asked_in kind))
quiet_asks P (kinds.Set changes) q = absurd cc
quiet_asks P (kinds.Fault callers changes cut count) q = absurd cc
quiet_asks P (kinds.Request changes) q = absurd cc
quiet_asks P _ q = tt

quiet_links : (P : Link → Type 0) (kind : Kind) → is_quiet kind ≡ true → AllByRecursion P (filter_map link_of (changes_in kind))
quiet_links P (kinds.Set changes) q = absurd cc
quiet_links P (kinds.Fault callers changes cut count) q = absurd cc
quiet_links P _ q = tt

quiet_offsets : (P : SetOffset → Type 0) (kind : Kind) → is_quiet kind ≡ true → AllByRecursion P (filter_map offset_of (changes_in kind))
quiet_offsets P (kinds.Set changes) q = absurd cc
quiet_offsets P (kinds.Fault callers changes cut count) q = absurd cc
quiet_offsets P _ q = tt

quiet_slots : (P : SetSlot → Type 0) (kind : Kind) → is_quiet kind ≡ true → AllByRecursion P (filter_map slot_of (changes_in kind))
quiet_slots P (kinds.Set changes) q = absurd cc
quiet_slots P (kinds.Fault callers changes cut count) q = absurd cc
quiet_slots P _ q = tt

quiet_pages : (start : Start) (lists : List (List Entry)) (before : List Entry) (kind : Kind) → is_quiet kind ≡ true → PagesOf start lists before kind
quiet_pages start lists before (kinds.Event event) q = absurd cc
quiet_pages start lists before (kinds.Made id) q = absurd cc
quiet_pages start lists before _ q = tt

quiet_parents : (start : Start) (lists : List (List Entry)) (kind : Kind) → is_quiet kind ≡ true → LinksOf start lists kind
quiet_parents start lists (kinds.Append (records.Commit top subs)) q = absurd cc
quiet_parents start lists _ q = tt

quiet_record : (lists : List (List Entry)) (session : ℕ) (kind : Kind) → is_quiet kind ≡ true → RecordMay lists session kind
quiet_record lists session (kinds.Append (records.Commit top subs)) q = absurd cc
quiet_record lists session _ q = tt

quiet_unasked : (lists : List (List Entry)) (session : ℕ) (kind : Kind) → is_quiet kind ≡ true → RecordUnasked lists session kind
quiet_unasked lists session (kinds.Append (records.Commit top subs)) q = absurd cc
quiet_unasked lists session _ q = tt

quiet_states : (start : Start) (lists : List (List Entry)) (kind : Kind) → is_quiet kind ≡ true → StatesOf start lists kind
quiet_states start lists (kinds.Event event) q = absurd cc
quiet_states start lists _ q = tt

quiet_closed : (start : Start) (lists : List (List Entry)) (before : List Event) (kind : Kind) → is_quiet kind ≡ true → AbortsOf start lists before kind
quiet_closed start lists before (kinds.Event event) q = absurd cc
quiet_closed start lists before _ q = tt

-- what the parts ask that speak of the log and of the pages themselves
pub record HasNeeds (start : Start) (seen : List (List Entry)) (lock : ℕ) (by : By) (kind : Kind) : Type 0 where
  pub made : ZeroOf start seen lock kind
  pub counters : AppendOf start seen (at seen lock) kind
  pub named : NamedOf start seen by kind
  pub flushed : FlushOf start (at seen lock) kind
  pub cuts : IfSome (cut_in kind) (CutBy start seen lock)
  pub multis : IfSome (multi_in kind) (λ event. (multi_by event ≡ by) × MultiMayCome start.base (InBase start.base) (multis_in (at seen lock)) event × ToldOf start event)
  pub syncs : ForgetOf start seen (at seen lock) kind
  pub posts : PostIn start seen lock (at seen lock) kind
  pub faults : IfSome (count_in kind) (HasRisen (faults_told start lock (at seen lock)))
  pub down : UpOf (at seen lock) kind
  pub once : OnceIn (at seen lock) kind
  pub ends : AbortMay seen by.session kind

-- so its turn, that it may stand there, and these needs are all that it needs
quiet_in_turn : (start : Start) (seen : List (List Entry)) (lock : ℕ) (by : By) (kind : Kind) → is_quiet kind ≡ true → MayStand start lock by kind → HasNeeds start seen lock by kind → (lists : List (List Entry)) → EngineInvariant start lists → Knows session_of by.session seen lists → lock < length lists → at seen lock ≡ at lists lock
    → NeedsTurn start seen lock (at seen lock) (record { by = by; kind = kind }) → EngineInvariant start (add lists lock (record { by = by; kind = kind }))
quiet_in_turn start seen lock by kind q stands needs lists k knows inside whole turn =
    let e : Entry = record { by = by; kind = kind } in
    let before : List Entry = at seen lock in
    keeps start lists seen lock e k knows inside whole (record {
      events = record { own = quiet_event (λ event. by_of event ≡ by) kind q; rule = λ here. quiet_event (λ event. MayCome start.base (history seen) event) kind q };
      pages = record {
        ids = quiet_pages start seen before kind q;
        changes = record {
          marks = quiet_marks (λ mark. WasMade before (xact_page start.base.next) (xact_page mark.id)) kind q;
          links = quiet_links (λ link. WasMade before (subtrans_page start.base.next) (subtrans_page link.id)) kind q;
          offsets = quiet_offsets (λ set. WasMade before (offset_page start.base.multi) (offset_page set.multi)) kind q;
          slots = quiet_slots (λ slot. WasMade before (member_page_in_full start.base.offset) (member_page_in_full slot.offset)) kind q;
        };
        made = needs.made;
      };
      parents = quiet_links (λ link. IsGivenBelow seen link.caller.session link.parent link.id) kind q;
      records = record {
        parents = quiet_parents start seen kind q;
        event = λ here. quiet_event (λ event. LeavesRecords seen event) kind q;
        ids = λ here. quiet_record seen by.session kind q;
      };
      status = record {
        logged = quiet_marks (λ mark. RecordOf start seen mark.caller.session mark.id mark.state) kind q;
        tree = quiet_marks (λ mark. TreeOf start seen mark.caller.session mark.id mark.state) kind q;
      };
      commits = quiet_states start seen kind q;
      aborts = record {
        closed = quiet_closed start seen (events_in before) kind q;
        given = quiet_asks (λ mark. GivenOf seen mark) kind q;
        asked = quiet_marks (λ mark. AskedOf seen by.session mark) kind q;
        unasked = λ here. quiet_unasked seen by.session kind q;
        unrecorded = quiet_asks (λ mark. AskUnrecorded seen by.session mark.caller.session mark.id mark.state) kind q;
        final = record {
          later = quiet_marks (λ mark. IsSameAfter before mark) kind q;
          alike = quiet_marks (λ mark. EachMark (λ other. other.id ≡ mark.id → other.state ≡ mark.state) e) kind q;
        };
      };
      order = record { turn = turn; stands = stands };
      log = record { counters = needs.counters; named = needs.named; flushed = needs.flushed };
      cuts = needs.cuts;
      multis = needs.multis;
      members = record { slots = quiet_slots (λ slot. SlotOf seen slot) kind q; offsets = quiet_offsets (λ set. OffsetOf start seen set) kind q };
      syncs = needs.syncs;
      posts = needs.posts;
      faults = needs.faults;
      down = needs.down;
      once = needs.once;
      ends = record { event = λ here. quiet_event (λ event. LeavesAborts seen event) kind q; ids = λ here. needs.ends };
    })

-- of a session
pub quiet_keeps : (start : Start) (seen : List (List Entry)) (lock : ℕ) (by : By) (kind : Kind) → is_quiet kind ≡ true → MayStand start lock by kind → HasNeeds start seen lock by kind → KindKeeps start seen lock by kind
quiet_keeps start seen lock by kind q stands needs lists k knows inside whole turn = quiet_in_turn start seen lock by kind q stands needs lists k knows inside whole (inl turn)

-- and of the host
host_keeps : (start : Start) (seen : List (List Entry)) (lock : ℕ) (by : By) (kind : Kind) → is_quiet kind ≡ true → IsOfHost kind → MayStand start lock by kind → HasNeeds start seen lock by kind → HostKindKeeps start seen lock by kind
host_keeps start seen lock by kind q his stands needs lists k knows inside whole turn = quiet_in_turn start seen lock by kind q stands needs lists k knows inside whole (inr (turn, his))

pub abort_record_law : AbortRecordKeeps
abort_record_law start seen by top subs opened root none unaborted base up lists k knows inside whole turn =
    let h = history seen in
    let given : (id : ℕ) → Contains (top ∷ subs) id → Contains (given_to by.session h) id
    = λ id c. has_contains (given_to by.session h) id (has_filter (is_open h) (given_to by.session h) id (subst (λ (l : List ℕ). Has l id) (sym opened) (contains_has (top ∷ subs) id c))).0 in
    quiet_keeps start seen log_lock by (kinds.Append (records.Abort top subs)) refl refl (record { made = tt; counters = (base, tt); named = given; flushed = tt; cuts = tt; multis = tt; syncs = tt; posts = tt; faults = tt; down = up; once = end_once start seen lists by k knows whole top subs opened none unaborted; ends = (opened, root) })
    lists k knows inside whole turn

pub multi_record_law : MultiRecordKeeps
multi_record_law start seen by multi offset members base gen given full none up lists k knows inside whole turn =
    quiet_keeps start seen log_lock by (kinds.Append (records.Multi multi offset members)) refl refl (record { made = tt; counters = (base, tt); named = (gen, given, full); flushed = tt; cuts = tt; multis = tt; syncs = tt; posts = tt; faults = tt; down = up; once = multi_once start seen lists by k knows whole multi offset members gen none; ends = tt })
    lists k knows inside whole turn

pub checkpoint_record_law : CheckpointRecordKeeps
checkpoint_record_law start seen by number counters base follows up =
    quiet_keeps start seen log_lock by (kinds.Append (records.Checkpoint number counters)) refl refl (record { made = tt; counters = (base, follows); named = tt; flushed = tt; cuts = tt; multis = tt; syncs = tt; posts = tt; faults = tt; down = up; once = tt; ends = tt })

pub truncate_record_law : TruncateRecordKeeps
truncate_record_law start seen by oldest multi offset base id announced up =
    quiet_keeps start seen log_lock by (kinds.Append (records.Truncate oldest multi offset)) refl refl (record { made = tt; counters = (base, (id, announced)); named = tt; flushed = tt; cuts = tt; multis = tt; syncs = tt; posts = tt; faults = tt; down = up; once = tt; ends = tt })

pub flush_law : FlushKeeps
flush_law start seen by to rises within up = quiet_keeps start seen log_lock by (kinds.Flush to) refl refl (record { made = tt; counters = tt; named = tt; flushed = (rises, within); cuts = tt; multis = tt; syncs = tt; posts = tt; faults = tt; down = up; once = tt; ends = tt })

pub forget_law : ForgetKeeps
forget_law start seen by number may up = quiet_keeps start seen log_lock by (kinds.Forget number) refl refl (record { made = tt; counters = tt; named = tt; flushed = tt; cuts = tt; multis = tt; syncs = may; posts = tt; faults = tt; down = up; once = tt; ends = tt })

pub log_fault_law : LogFaultKeeps
log_fault_law start seen by asked count may up risen = quiet_keeps start seen log_lock by (kinds.LogFault asked count) refl refl (record { made = tt; counters = tt; named = tt; flushed = tt; cuts = tt; multis = tt; syncs = may; posts = tt; faults = risen; down = up; once = tt; ends = tt })

pub multi_event_law : MultiEventKeeps
multi_event_law start seen by event own rule told = quiet_keeps start seen multi_lock by (kinds.Multi event) refl refl (record { made = tt; counters = tt; named = tt; flushed = tt; cuts = tt; multis = (own, rule, told); syncs = tt; posts = tt; faults = tt; down = tt; once = tt; ends = tt })

pub zero_law : ZeroKeeps
zero_law start seen lock by page on wanted = quiet_keeps start seen lock by (kinds.Zero page) refl on (record { made = wanted; counters = tt; named = tt; flushed = tt; cuts = tt; multis = tt; syncs = tt; posts = tt; faults = tt; down = tt; once = tt; ends = tt })

pub cut_law : CutKeeps
cut_law start seen lock by page on says = quiet_keeps start seen lock by (kinds.Cut page) refl on (record { made = tt; counters = tt; named = tt; flushed = tt; cuts = says; multis = tt; syncs = tt; posts = tt; faults = tt; down = tt; once = tt; ends = tt })

pub sync_law : SyncKeeps
sync_law start seen lock by on = quiet_keeps start seen lock by kinds.Sync refl on (record { made = tt; counters = tt; named = tt; flushed = tt; cuts = tt; multis = tt; syncs = tt; posts = tt; faults = tt; down = tt; once = tt; ends = tt })

pub look_law : LookKeeps
look_law start seen lock by = quiet_keeps start seen lock by kinds.Look refl tt (record { made = tt; counters = tt; named = tt; flushed = tt; cuts = tt; multis = tt; syncs = tt; posts = tt; faults = tt; down = tt; once = tt; ends = tt })

pub post_keeps : (start : Start) (seen : List (List Entry)) (lock : ℕ) (by : By) (number : ℕ) → (lock ≡ oldest_word start) ⊎ (lock ≡ xmin_word start) → PostOf start seen lock (at seen lock) number → KindKeeps start seen lock by (kinds.Post number)
post_keeps start seen lock by number on posted = quiet_keeps start seen lock by (kinds.Post number) refl on (record { made = tt; counters = tt; named = tt; flushed = tt; cuts = tt; multis = tt; syncs = tt; posts = posted; faults = tt; down = tt; once = tt; ends = tt })

-- ---- the host

pub hosts_keep : HostsKeep
hosts_keep start seen by = record {
  checkpoint = λ number counters base follows up.
      host_keeps start seen log_lock by (kinds.Append (records.Checkpoint number counters)) refl tt refl (record { made = tt; counters = (base, follows); named = tt; flushed = tt; cuts = tt; multis = tt; syncs = tt; posts = tt; faults = tt; down = up; once = tt; ends = tt });
  flush = λ to rises within up.
      host_keeps start seen log_lock by (kinds.Flush to) refl tt refl (record { made = tt; counters = tt; named = tt; flushed = (rises, within); cuts = tt; multis = tt; syncs = tt; posts = tt; faults = tt; down = up; once = tt; ends = tt });
  forget = λ number may up.
      host_keeps start seen log_lock by (kinds.Forget number) refl tt refl (record { made = tt; counters = tt; named = tt; flushed = tt; cuts = tt; multis = tt; syncs = may; posts = tt; faults = tt; down = up; once = tt; ends = tt });
  log_fault = λ asked count may up risen.
      host_keeps start seen log_lock by (kinds.LogFault asked count) refl tt refl (record { made = tt; counters = tt; named = tt; flushed = tt; cuts = tt; multis = tt; syncs = may; posts = tt; faults = risen; down = up; once = tt; ends = tt });
  sync = λ lock on.
      host_keeps start seen lock by kinds.Sync refl tt on (record { made = tt; counters = tt; named = tt; flushed = tt; cuts = tt; multis = tt; syncs = tt; posts = tt; faults = tt; down = tt; once = tt; ends = tt });
  fault = λ lock callers count on named risen. host_fault_law start seen lock by callers count on named risen;
  look = λ lock.
      host_keeps start seen lock by kinds.Look refl tt tt (record { made = tt; counters = tt; named = tt; flushed = tt; cuts = tt; multis = tt; syncs = tt; posts = tt; faults = tt; down = tt; once = tt; ends = tt });
}
