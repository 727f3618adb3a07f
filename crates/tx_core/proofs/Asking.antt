-- What a part says of one event, one state or one parent of an entry.
use Rattle.std.proofs.lemmas.Option.{same_Some}
use Rattle.std.proofs.Common.{IfSome, List, None, Option, Some, ap, subst, take, ℕ, ◌≡◌}
use Rattle.std.proofs.lemmas.List.Elements.{All-contains, All-from_recursion}
use Rattle.std.specs.List.{All, AllByRecursion, filter_map}
use Rattle.tx_events.specs.declared.event.By.{By}
use Rattle.tx_events.specs.declared.event.Event.{Event}
use Rattle.tx_events.specs.declared.record.Rec.{Rec}
use Rattle.tx_events.proofs.Membership.{Has, has_contains, has_place, all_at, all_from}
use Rattle.tx_events.specs.Events.{by_of}
use Rattle.tx_events.specs.Families.{top}
use Rattle.tx_events.specs.History.{MayCome}
use Rattle.tx_core.specs.declared.entry.Entry.{Entry}
use Rattle.tx_core.specs.declared.entry.Kind.{Kind}
use Rattle.tx_core.specs.declared.entry.Start.{Start}
use Rattle.tx_core.specs.AbortRule.{AskUnrecorded, AskedOf, GivenOf, IsSameAfter, MayAbort, NeedsAsked, NeedsGiven, NeedsSame, RecordUnasked}
use Rattle.tx_core.specs.AbortRecordsExact.{AbortMay, LeavesAborts, MayEndExactly}
use Rattle.tx_core.specs.CommitRecordsExact.{LeavesRecords, MayBeExact, RecordMay}
use Rattle.tx_core.specs.Entries.{Link, Mark, asked_in, asks_in, changes_in, event_in, event_of, history, links_in, mark_of, marks_in}
use Rattle.tx_core.specs.EventsLegal.{MayBeLegal, NeedsOwn}
use Rattle.notes.specs.Lists.{at}
use Rattle.tx_core.specs.Lists.{Upheld}
use Rattle.tx_core.specs.Locks.{log_lock, proc_lock}
use Rattle.tx_core.specs.LogBeforeStatus.{NeedsRecords, NeedsTree, RecordOf, TreeOf}
use Rattle.tx_core.specs.ParentsFollow.{IsGivenBelow, NeedsSubs}
use Rattle.tx_core.specs.StatusBeforeCommit.{NeedsStates, StatesOf}
use Rattle.tx_events.specs.declared.event.Event.TheVariants as events
use Rattle.tx_core.specs.declared.entry.Kind.TheVariants as kinds
use Rattle.tx_events.specs.declared.record.Rec.TheVariants as records
use Rattle.tx_core.specs.declared.entry.State.TheVariants as states

module _ {A : Type 0} where
  pub all_has : (P : A → Type 0) (xs : List A) → ((x : A) → Has xs x → P x) → All P xs
  all_has P xs h = All-from_recursion P xs (all_from P xs h)

  pub has_all : (P : A → Type 0) (xs : List A) → All P xs → (x : A) → Has xs x → P x
  has_all P xs a x k = All-contains P xs x a (has_contains xs x k)

  pub if_weaker : (o : Option A) (P Q : A → Type 0) → ((x : A) → P x → Q x) → IfSome o P → IfSome o Q
  if_weaker None P Q f h = h
  if_weaker (Some x) P Q f h = f x h

  pub if_some : (o : Option A) (P : A → Type 0) (x : A) → IfSome o P → o ≡ Some x → P x
  if_some o P x h e = let Q : Option A → Type 0 = λ z. IfSome z P in let r : IfSome (Some x) P = subst Q e h in r

-- what an upheld part says of an entry of a list
pub upheld_has : (Need : List (List Entry) → ℕ → List Entry → Entry → Type 0) (lists : List (List Entry)) (lock : ℕ) (e : Entry) → Upheld Need lists → Has (at lists lock) e → (before : List Entry) × Need lists lock before e
upheld_has Need lists lock e u k = let p = has_place (at lists lock) e k in (take p.0 (at lists lock), u.each lock p.0 e p.1)

pub own_event : (lists : List (List Entry)) (lock : ℕ) (before : List Entry) (e : Entry) (event : Event) → NeedsOwn lists lock before e → event_of e ≡ Some event → by_of event ≡ e.by
own_event lists lock before e event n g = if_some (event_of e) (λ event. by_of event ≡ e.by) event n g

pub sub_of : (lists : List (List Entry)) (lock : ℕ) (before : List Entry) (e : Entry) (link : Link) → NeedsSubs lists lock before e → Has (links_in e) link → IsGivenBelow lists link.caller.session link.parent link.id
sub_of lists lock before e link n k = all_at (λ link. IsGivenBelow lists link.caller.session link.parent link.id) (links_in e) link n k

pub logged_of : (start : Start) (lists : List (List Entry)) (lock : ℕ) (before : List Entry) (e : Entry) (mark : Mark) → NeedsRecords start lists lock before e → Has (marks_in e) mark → RecordOf start lists mark.caller.session mark.id mark.state
logged_of start lists lock before e mark n k = all_at (λ mark. RecordOf start lists mark.caller.session mark.id mark.state) (marks_in e) mark n k

pub tree_of : (start : Start) (lists : List (List Entry)) (lock : ℕ) (before : List Entry) (e : Entry) (mark : Mark) → NeedsTree start lists lock before e → Has (marks_in e) mark → TreeOf start lists mark.caller.session mark.id mark.state
tree_of start lists lock before e mark n k = all_at (λ mark. TreeOf start lists mark.caller.session mark.id mark.state) (marks_in e) mark n k

pub asked_of : (lists : List (List Entry)) (lock : ℕ) (before : List Entry) (e : Entry) (mark : Mark) → NeedsAsked lists lock before e → Has (marks_in e) mark → AskedOf lists e.by.session mark
asked_of lists lock before e mark n k = all_at (λ mark. AskedOf lists e.by.session mark) (marks_in e) mark n k

pub given_of : (lists : List (List Entry)) (lock : ℕ) (before : List Entry) (e : Entry) (mark : Mark) → NeedsGiven lists lock before e → Has (asks_in e) mark → GivenOf lists mark
given_of lists lock before e mark n k = all_at (λ mark. GivenOf lists mark) (asks_in e) mark n k

pub event_kind : (kind : Kind) (event : Event) → event_in kind ≡ Some event → kind ≡ kinds.Event event
event_kind (kinds.Event other) event g = ap kinds.Event (same_Some other event g)
event_kind _ event g = absurd cc

pub states_of : (start : Start) (lists : List (List Entry)) (lock : ℕ) (before : List Entry) (e : Entry) (by : By) (top : ℕ) → NeedsStates start lists lock before e → event_of e ≡ Some (events.Commit by top) → StatesOf start lists (kinds.Event (events.Commit by top))
states_of start lists lock before e by top n g = subst (StatesOf start lists) (event_kind e.kind (events.Commit by top) g) n

pub later_of : (lists : List (List Entry)) (lock : ℕ) (before : List Entry) (e : Entry) (mark : Mark) → NeedsSame lists lock before e → Has (marks_in e) mark → IsSameAfter before mark
later_of lists lock before e mark n k = all_at (λ mark. IsSameAfter before mark) (marks_in e) mark n.later k

pub alike_of : (lists : List (List Entry)) (lock : ℕ) (before : List Entry) (e : Entry) (mark other : Mark) → NeedsSame lists lock before e → Has (marks_in e) mark → Has (marks_in e) other → other.id ≡ mark.id → other.state ≡ mark.state
alike_of lists lock before e mark other n k j = all_at (λ other. other.id ≡ mark.id → other.state ≡ mark.state) (marks_in e) other (all_at (λ mark. AllByRecursion (λ other. other.id ≡ mark.id → other.state ≡ mark.state) (marks_in e)) (marks_in e) mark n.alike k) j

pub rule_of : (start : Start) (seen : List (List Entry)) (lock : ℕ) (before : List Entry) (e : Entry) (event : Event) → MayBeLegal start seen lock before e → lock ≡ proc_lock → event_of e ≡ Some event → MayCome start.base (history seen) event
rule_of start seen lock before e event may q g = if_some (event_of e) (λ event. MayCome start.base (history seen) event) event (may.rule q) g

pub leaves_of : (start : Start) (seen : List (List Entry)) (lock : ℕ) (before : List Entry) (e : Entry) (event : Event) → MayBeExact start seen lock before e → lock ≡ proc_lock → event_of e ≡ Some event → LeavesRecords seen event
leaves_of start seen lock before e event may q g = if_some (event_of e) (λ event. LeavesRecords seen event) event (may.event q) g

pub ids_of_record : (start : Start) (seen : List (List Entry)) (lock : ℕ) (before : List Entry) (e : Entry) (top : ℕ) (subs : List ℕ) → MayBeExact start seen lock before e → lock ≡ log_lock → e.kind ≡ kinds.Append (records.Commit top subs) → RecordMay seen e.by.session (kinds.Append (records.Commit top subs))
ids_of_record start seen lock before e top subs may q g = subst (RecordMay seen e.by.session) g (may.ids q)

pub aborts_of : (seen : List (List Entry)) (lock : ℕ) (e : Entry) (event : Event) → MayEndExactly seen lock e → lock ≡ proc_lock → event_of e ≡ Some event → LeavesAborts seen event
aborts_of seen lock e event may q g = if_some (event_of e) (λ event. LeavesAborts seen event) event (may.event q) g

pub ids_of_abort : (seen : List (List Entry)) (lock : ℕ) (e : Entry) (top : ℕ) (subs : List ℕ) → MayEndExactly seen lock e → lock ≡ log_lock → e.kind ≡ kinds.Append (records.Abort top subs) → AbortMay seen e.by.session (kinds.Append (records.Abort top subs))
ids_of_abort seen lock e top subs may q g = subst (AbortMay seen e.by.session) g (may.ids q)

pub unasked_of : (start : Start) (seen : List (List Entry)) (lock : ℕ) (before : List Entry) (e : Entry) (top : ℕ) (subs : List ℕ) → MayAbort start seen lock before e → lock ≡ log_lock → e.kind ≡ kinds.Append (records.Commit top subs) → RecordUnasked seen e.by.session (kinds.Append (records.Commit top subs))
unasked_of start seen lock before e top subs may q g = subst (RecordUnasked seen e.by.session) g (may.unasked q)

pub unrecorded_of : (start : Start) (seen : List (List Entry)) (lock : ℕ) (before : List Entry) (e : Entry) (mark : Mark) → MayAbort start seen lock before e → Has (asks_in e) mark → mark.state ≡ states.Aborted → AskUnrecorded seen e.by.session mark.caller.session mark.id states.Aborted
unrecorded_of start seen lock before e mark may k a =
    subst (λ s. AskUnrecorded seen e.by.session mark.caller.session mark.id s) a (all_at (λ mark. AskUnrecorded seen e.by.session mark.caller.session mark.id mark.state) (asks_in e) mark may.unrecorded k)

-- what an entry sets it also asks for
asked_kind : (kind : Kind) (mark : Mark) → Has (filter_map mark_of (changes_in kind)) mark → Has (filter_map mark_of (asked_in kind)) mark
asked_kind (kinds.Set changes) mark k = k
asked_kind (kinds.Fault callers changes cut count) mark k = k
asked_kind _ mark k = absurd k

pub asks_marks : (e : Entry) (mark : Mark) → Has (marks_in e) mark → Has (asks_in e) mark
asks_marks e mark k = asked_kind e.kind mark k

-- an entry that appends a record asks for nothing
pub append_asks : (e : Entry) (rec : Rec) (mark : Mark) → e.kind ≡ kinds.Append rec → Has (asks_in e) mark → ⊥
append_asks e rec mark g k = subst (λ (kind : Kind). Has (filter_map mark_of (asked_in kind)) mark) g k
