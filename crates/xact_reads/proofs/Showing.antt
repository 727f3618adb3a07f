-- What is shown of an id is whether it is visible at the snapshot.
use Rattle.std.proofs.Common.{Bool, Contains, ◌≡◌, ⊎_elim, ℕ, ◌<◌, ◌≤◌, ◌&&◌, List, Option, None, Some, cond, true, false, length, take, drop, refl, sym, ap, subst, ◌∙◌, arith}
use Rattle.std.proofs.lemmas.Bool.{false_from_ne_true}
use Rattle.std.proofs.lemmas.List.{take-append-drop}
use Rattle.notes.specs.Lists.{Grows, at}
use Rattle.notes.proofs.Growing.{begins_same}
use Rattle.tx_events.specs.Ids.{IsFullId}
use Rattle.tx_events.specs.declared.event.Event.{Event}
use Rattle.tx_events.specs.declared.snapshot.SnapData.{SnapData}
use Rattle.tx_events.specs.Base.{IsBase}
use Rattle.tx_events.specs.Events.{given}
use Rattle.tx_events.specs.History.{IsLegal, next_given}
use Rattle.tx_events.specs.IdLists.{Ascending}
use Rattle.tx_events.specs.Snapshots.{snapshot_xmax, snapshot_xmin}
use Rattle.tx_events.specs.Visible.{is_visible}
use Rattle.tx_events.proofs.GivenIds.{legal_take}
use Rattle.tx_events.proofs.Membership.{contains_has, has_contains}
use Rattle.tx_events.proofs.Visibility.{among_has, has_among}
use Rattle.tx_events.proofs.SaysLemmas.{subs_ascend, xips_ascend}
use Rattle.tx_events.specs.Sights.{sight_by, top_sight_by}
use Rattle.tx_events.specs.declared.sight.Sight.TheVariants as sights
use Rattle.tx_core.specs.declared.entry.Entry.{Entry}
use Rattle.tx_core.specs.declared.entry.Start.{Start}
use Rattle.tx_core.specs.declared.entry.State.{State}
use Rattle.tx_core.specs.declared.entry.State.TheVariants as states
use Rattle.tx_core.specs.CleanStart.{CleanStart}
use Rattle.tx_core.specs.EngineInvariant.{EngineInvariant}
use Rattle.tx_core.specs.Entries.{history, marks, AreFewIds}
use Rattle.tx_core.specs.Locks.{xact_lock_of}
use Rattle.tx_core.specs.Verdict.{IsClimb, is_among, is_committed, state_read, verdict}
use Rattle.tx_core.proofs.Climbing.{decides}
use Rattle.tx_core.proofs.Rising.{given_more}
use Rattle.session_levels.specs.declared.session.RegisteredSnapshot.{RegisteredSnapshot}
use Rattle.session_levels.specs.Stands.{IsRegistered}
use Rattle.engine_parts.specs.Sessions.{AreGivenBefore}
use Rattle.engine_parts.specs.Stand.{IsInUse}
use Rattle.xact_reads.proofs.Climbing.{climb_there}
use Rattle.xact_reads.proofs.Limits.{xmax_to_next}
use Rattle.xact_reads.proofs.Sighting.{asked_verdict, hidden_verdict, seen_verdict}
use Rattle.bank_sections.proofs.Nearing.{nth_near}

-- ---- pages that show the committed ids alone

abbrev from_committed : Start → ℕ → Option State
from_committed start x = cond (is_among x start.committed) (Some states.Committed) None

shows_among : (start : Start) (x : ℕ) (s : State) → from_committed start x ≡ Some s → Contains start.committed x
shows_among start x s e = step (is_among x start.committed) refl e
  where
    step : (b : Bool) → is_among x start.committed ≡ b → cond b (Some states.Committed) None ≡ Some s → Contains start.committed x
    step true q f = has_contains start.committed x (among_has x start.committed q)
    step false q f = absurd cc

clean_from : (start : Start) → IsBase start.base → AreGivenBefore start → CleanStart start (from_committed start)
clean_from start base before = record {
  base = base;
  before = λ x c. (before x c).1;
  committed = λ x old c. ap (λ b. cond b (Some states.Committed) None) (has_among x start.committed (contains_has start.committed x c));
  only = λ x old new e. ⊎_elim (λ q. shows_among start x states.Committed q) (λ q. shows_among start x states.SubCommitted q) e;
  place = λ x near e. (x, ⊎_elim (λ q. shows_among start x states.Committed q) (λ q. shows_among start x states.SubCommitted q) e, refl);
  clean = λ x from to. ap (λ b. cond b (Some states.Committed) None)
      (false_from_ne_true (is_among x start.committed) (λ e. let below = (before x (has_contains start.committed x (among_has x start.committed e))).1 in absurd (omega arith)));
}

-- ---- ids in use

module _ (start : Start) (lists : List (List Entry)) (n : ℕ) (k : RegisteredSnapshot) (base : IsBase start.base) (i : EngineInvariant start lists) (r : IsRegistered start.base (history lists) n k) where
  abbrev g : List Event
  g = take k.place (history lists)

  legal_g : IsLegal start.base g
  legal_g = legal_take start.base (history lists) k.place i.events.legal

  pub ascends : Ascending k.snapshot.xip × Ascending k.snapshot.subxip
  ascends = (
    subst (λ (d : SnapData). Ascending d.xip) (sym r.holds) (xips_ascend start.base g legal_g),
    subst (λ (d : SnapData). Ascending d.subxip) (sym r.holds) (subs_ascend start.base g legal_g),
  )

  -- an id before the xmax, in a life of few ids
  pub in_use : (id : ℕ) → IsFullId id → start.base.oldest ≤ id → AreFewIds lists → id < k.snapshot.xmax → IsInUse start id
  in_use id full old few below =
      let xmax : k.snapshot.xmax ≡ snapshot_xmax start.base.next g = ap (λ (d : SnapData). d.xmax) r.holds in
      let to = xmax_to_next start.base g base legal_g in
      let more : next_given start.base.next g ≤ next_given start.base.next (history lists) = given_more start.base g (history lists) (drop k.place (history lists), take-append-drop k.place (history lists)) in
      let many : length (given (history lists)) < 2900000 = few in
      let upto = nth_near start.base.next (length (given (history lists))) base.full many in
      (full, old, omega arith)

  -- ---- the verdict

  module _ (id : ℕ) (shown : ℕ → Option State) (clean : CleanStart start shown) (full : IsFullId id) (old : start.base.oldest ≤ id) (few : AreFewIds lists) where
    abbrev read : Option State
    read = state_read shown (marks (at lists (xact_lock_of start id))) id

    -- whatever the topmost parent is
    shown_anyway : (answer : Bool) → ((topmost : ℕ) → verdict k.snapshot read topmost id ≡ answer) → answer ≡ is_visible start.committed g id
    shown_anyway answer each =
        let c = climb_there start lists (snapshot_xmin start.base.next g) id base i in
        sym (each c.topmost)
        ∙ ap (λ (d : SnapData). verdict d read c.topmost id) r.holds
        ∙ decides start lists lists shown k.place (record { session = n; command = k.command }) k.name id c.topmost c.parents i i (record { begins = λ q. begins_same (at lists q) }) clean r.taken full old few (λ over. c.climb)

    pub shown_read : sight_by k.snapshot id true ≡ sights.Seen → is_committed read ≡ is_visible start.committed g id
    shown_read is = shown_anyway (is_committed read) (λ topmost. seen_verdict k.snapshot id topmost read is)

    pub shown_unread : sight_by k.snapshot id true ≡ sights.Hidden → false ≡ is_visible start.committed g id
    shown_unread is = shown_anyway false (λ topmost. hidden_verdict k.snapshot id topmost read is)

    -- an overflowed snapshot asks for the parents of a committed id alone
    pub shown_not : sight_by k.snapshot id true ≡ sights.AskParents → is_committed read ≡ false → false ≡ is_visible start.committed g id
    shown_not is not = shown_anyway false (λ topmost. asked_verdict k.snapshot id topmost read is ∙ ap (λ b. b && top_sight_by k.snapshot topmost) not)

    pub shown_asked : (more : List (List Entry)) (parents : List ℕ) (topmost : ℕ) → EngineInvariant start more → Grows lists more → sight_by k.snapshot id true ≡ sights.AskParents → is_committed read ≡ true → IsClimb start lists more k.snapshot.xmin id parents topmost
        → top_sight_by k.snapshot topmost ≡ is_visible start.committed g id
    shown_asked more parents topmost m grows is committed climb =
        sym (asked_verdict k.snapshot id topmost read is ∙ ap (λ b. b && top_sight_by k.snapshot topmost) committed)
        ∙ ap (λ (d : SnapData). verdict d read topmost id) r.holds
        ∙ decides start lists more shown k.place (record { session = n; command = k.command }) k.name id topmost parents i m grows clean r.taken full old few
        (λ over. subst (λ (d : SnapData). IsClimb start lists more d.xmin id parents topmost) r.holds climb)

  pub shown_hidden : (id : ℕ) → IsFullId id → start.base.oldest ≤ id → AreFewIds lists → AreGivenBefore start → sight_by k.snapshot id true ≡ sights.Hidden → false ≡ is_visible start.committed g id
  shown_hidden id full old few before is = shown_unread id (from_committed start) (clean_from start base before) full old few is
