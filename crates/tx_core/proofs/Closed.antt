-- What an undo or an abort closes was set aborted, and a top on another page is committed before its subtransactions.
use Rattle.std.proofs.Common.{Contains, List, None, Option, Some, ap, arith, refl, suc, subst, sym, take, zero, ℕ, ◌∙◌, ◌∷◌, ◌≡◌, ◌≢◌, []}
use Rattle.std.proofs.lemmas.Option.{same_Some}
use Rattle.std.specs.List.{cons_option, filter_map, slice_get}
use Rattle.tx_events.specs.declared.event.By.{By}
use Rattle.tx_events.specs.declared.event.Event.{Event}
use Rattle.tx_events.specs.declared.event.Event.TheVariants as events
use Rattle.tx_events.specs.declared.record.Rec.TheVariants as records
use Rattle.tx_events.proofs.Membership.{contains_has, has_contains, has_flat_map}
use Rattle.tx_core.specs.declared.entry.Entry.{Entry}
use Rattle.tx_core.specs.declared.entry.Kind.{Kind}
use Rattle.tx_core.specs.declared.entry.Kind.TheVariants as kinds
use Rattle.tx_core.specs.declared.entry.Start.{Start}
use Rattle.tx_core.specs.declared.entry.State.TheVariants as states
use Rattle.tx_core.specs.AbortRule.{AbortsOf}
use Rattle.tx_core.specs.Consequences.{ClosedAborted, SubsBefore, TopsFirst}
use Rattle.tx_core.specs.EngineInvariant.{EngineInvariant}
use Rattle.tx_core.specs.Entries.{IsAppended, IsMarked, Mark, event_of, history, marks, marks_in}
use Rattle.tx_core.specs.Locks.{log_lock, proc_lock, xact_lock_of, xact_page}
use Rattle.tx_core.specs.LogBeforeStatus.{InTree, NeedsTree}
use Rattle.tx_core.proofs.Asking.{event_kind, tree_of, upheld_has}
use Rattle.tx_core.proofs.Flushed.{commit_by, one_commit}
use Rattle.notes.specs.Lists.{at}

module _ {A B : Type 0} (f : A → Option B) (y : B) where
  -- the item whose value stands there, with the values of those before it
  abbrev pub From : List A → ℕ → Type 0
  From xs p = (q : ℕ) × (x : A) × (slice_get xs q ≡ Some x) × (f x ≡ Some y) × (filter_map f (take q xs) ≡ take p (filter_map f xs))

  from_next : (x : A) (xs : List A) (o : Option B) (p : ℕ) → f x ≡ o → slice_get (cons_option o (filter_map f xs)) p ≡ Some y
      → ((n : ℕ) → slice_get (filter_map f xs) n ≡ Some y → From xs n) → From (x ∷ xs) p
  from_next x xs None p e k more =
      let r = more p k in
      (suc r.0, r.1, r.2, r.3, ap (λ o. cons_option o (filter_map f (take r.0 xs))) e ∙ (r.4 ∙ ap (λ o. take p (cons_option o (filter_map f xs))) (sym e)))
  from_next x xs (Some z) zero e k more = (0, x, refl, e ∙ k, refl)
  from_next x xs (Some z) (suc n) e k more =
      let r = more n k in
      (suc r.0, r.1, r.2, r.3, ap (λ o. cons_option o (filter_map f (take r.0 xs))) e ∙ (ap (λ t. z ∷ t) r.4 ∙ ap (λ o. take (suc n) (cons_option o (filter_map f xs))) (sym e)))

  pub come_from : (xs : List A) (p : ℕ) → slice_get (filter_map f xs) p ≡ Some y → From xs p
  come_from [] p k = absurd cc
  come_from (x ∷ xs) p k = from_next x xs (f x) p refl k (come_from xs)

aborts_of : (start : Start) (lists : List (List Entry)) (event : Event) (p : ℕ) → EngineInvariant start lists → slice_get (history lists) p ≡ Some event → AbortsOf start lists (take p (history lists)) (kinds.Event event)
aborts_of start lists event p k stands =
    let r = come_from event_of event (at lists proc_lock) p stands in
    let need : AbortsOf start lists (filter_map event_of (take r.0 (at lists proc_lock))) r.1.kind = k.aborts.closed.each proc_lock r.0 r.1 r.2 in
    subst (λ before. AbortsOf start lists before (kinds.Event event)) r.4 (subst (AbortsOf start lists (filter_map event_of (take r.0 (at lists proc_lock)))) (event_kind r.1.kind event r.3) need)

pub closed_aborted : ClosedAborted
closed_aborted start lists by id x p k has = (
  λ stands inside. aborts_of start lists (events.Undo by id) p k stands x has inside,
  λ stands. aborts_of start lists (events.Abort by id) p k stands x has,
)

-- the top and the subtransactions that a commit record names
abbrev top_of : Kind → ℕ → ℕ
top_of (kinds.Append (records.Commit top subs)) other = top
top_of kind other = other

abbrev subs_of : Kind → List ℕ
subs_of (kinds.Append (records.Commit top subs)) = subs
subs_of kind = []

-- Two ids of one commit record: the rule of the one's state speaks of this very record.
module _ (start : Start) (lists : List (List Entry)) (session top : ℕ) (subs : List ℕ) (id : ℕ) (k : EngineInvariant start lists)
    (logged : IsAppended lists session (records.Commit top subs)) (named : Contains (top ∷ subs) id) (marked : IsMarked start lists id states.Committed) where
  abbrev mark : Mark
  mark = record { caller = marked.0; id = id; state = states.Committed }

  rule : InTree start lists marked.0.session id
  rule =
      let es : List Entry = at lists (xact_lock_of start id) in
      let found = has_flat_map marks_in es mark (contains_has (marks es) mark marked.1) in
      tree_of start lists (xact_lock_of start id) [] found.0 mark (upheld_has (NeedsTree start) lists (xact_lock_of start id) found.0 k.status.tree found.1).1 found.2

  same : commit_by rule.appended.0 rule.top rule.subs ≡ commit_by logged.0 top subs
  same = one_commit lists id rule.appended.0 logged.0 rule.top top rule.subs subs k.once (contains_has (at lists log_lock) (commit_by rule.appended.0 rule.top rule.subs) rule.appended.2) (contains_has (at lists log_lock) (commit_by logged.0 top subs) logged.2) rule.among named

  is_top : rule.top ≡ top
  is_top = ap (λ (e : Entry). top_of e.kind 0) same

  are_subs : rule.subs ≡ subs
  are_subs = ap (λ (e : Entry). subs_of e.kind) same

pub subs_before : SubsBefore
subs_before start lists session top subs id k logged named marked apart =
    let first : Contains (top ∷ subs) top = (0, omega arith, refl) in
    let r = rule start lists session top subs top k logged first marked in
    let t : r.top ≡ top = is_top start lists session top subs top k logged first marked in
    let s : r.subs ≡ subs = are_subs start lists session top subs top k logged first marked in
    r.before_top (sym t) id (subst (λ xs. Contains xs id) (sym s) named) (λ same_page. apart (same_page ∙ ap xact_page t))

pub tops_first : TopsFirst
tops_first start lists session top subs id k logged named marked apart =
    let among : Contains (top ∷ subs) id = (suc named.0, omega arith, named.2) in
    let r = rule start lists session top subs id k logged among marked in
    let t : r.top ≡ top = is_top start lists session top subs id k logged among marked in
    subst (λ t. IsMarked start lists t states.Committed) t (r.after_top (λ same_page. apart (same_page ∙ ap xact_page t)))
