-- Behind a truncation's record the log takes that of an end.
use Rattle.std.proofs.Common.{List, Ok, Err, OnOk, Result, ap, arith, length, max, subst, sym, ℕ, ◌∙◌, ◌∷◌, ◌<◌, ◌≡◌, ◌≤◌}
use Rattle.notes.specs.Lists.{Grows, at}
use Rattle.tx_events.specs.declared.event.By.{By}
use Rattle.tx_events.specs.declared.record.Counters.{Counters}
use Rattle.tx_events.specs.declared.record.Rec.{Rec}
use Rattle.tx_events.specs.declared.record.Rec.TheVariants as records
use Rattle.tx_events.specs.declared.refusal.Refusal.{Refusal}
use Rattle.tx_events.specs.After.{after_record}
use Rattle.tx_events.specs.Horizon.{oldest_id}
use Rattle.tx_events.specs.IdLists.{Ascending}
use Rattle.tx_core.specs.declared.entry.Entry.{Entry}
use Rattle.tx_core.specs.declared.entry.Start.{Start}
use Rattle.tx_core.specs.EngineInvariant.{EngineInvariant}
use Rattle.tx_core.specs.Entries.{history}
use Rattle.tx_core.specs.Locks.{log_lock}
use Rattle.tx_core.specs.RecordsFollow.{counters_after}
use Rattle.tx_core.proofs.Posting.{oldest_rises}
use Rattle.log_takes.specs.Takes.{IsOldestTold, IsTaken}
use Rattle.log_takes.proofs.Counting.{counters_push, counters_rise}
use Rattle.log_takes.proofs.Ending.{ends_taken}
use Rattle.engine_parts.specs.declared.session.Session.{Session}
use Rattle.engine_parts.specs.Adding.{IsAbortOf, IsCommitOf}
use Rattle.engine_parts.specs.Holds.{Knowledge}
use Rattle.engine_parts.specs.Sessions.{IsAt}
use Rattle.engine_parts.proofs.Sectioning.{section_list}
use Rattle.log_sections.specs.declared.appending.Appended.{Appended}
use Rattle.log_sections.specs.declared.appending.Appended.TheVariants as came
use Rattle.log_sections.specs.LogSections.{Appends, TakesAbort, TruncationSection}
use Rattle.proc_sections.specs.Horizons.{truncation_behind}
use Rattle.xact_ends.specs.Logged.{IsNumbered}

-- what a truncation tells was announced by then
pub truncation_tells : (start : Start) (old : List (List Entry)) (v w : Knowledge) (by : By) (rec : Rec) (result : Result ℕ Refusal) → EngineInvariant start v.seen → Grows old v.seen → log_lock < length v.seen → rec ≡ truncation_behind start.base (history v.seen) → TruncationSection start by rec v w result → OnOk result (IsOldestTold start old w.seen)
truncation_tells start old v w by rec (Err r) k grows inside is section = tt
truncation_tells start old v w by rec (Ok number) k grows inside is section =
    let es : List Entry = at section.within.seen log_lock in
    let oldest : ℕ = oldest_id start.base.oldest (history v.seen) in
    let now : counters_after start (at w.seen log_lock) ≡ after_record (counters_after start es) (truncation_behind start.base (history v.seen)) =
    ap (λ (t : List Entry). counters_after start t) (section_list start v w log_lock _ section inside) ∙ (counters_push start es by rec ∙ ap (after_record (counters_after start es)) is) in
    let up : oldest_id start.base.oldest (history old) ≤ oldest = oldest_rises start old v.seen k grows in
    let top : oldest ≤ max (counters_after start es).oldest oldest = omega arith in
    subst (λ (z : Counters). oldest_id start.base.oldest (history old) ≤ z.oldest) (sym now) (omega arith)

module _ (start : Start) (v : Knowledge) (mid lists : List (List Entry)) (n top : ℕ) (subs : List ℕ) (s : Session) (a : IsAt start v n s) (opened : s.levels.open_ids.items ≡ top ∷ subs)
    (k : EngineInvariant start lists) (told : IsOldestTold start v.seen mid) (grows : Grows mid lists) where
  -- behind it the log can take the record of what is open
  end_taken : IsTaken start lists (records.Commit top subs) × IsTaken start lists (records.Abort top subs)
  end_taken =
      let rises = (counters_rise start mid lists grows).oldest in
      ends_taken start v.seen lists n top subs a.kept k a.base (a.stands.opened ∙ opened) (subst Ascending opened a.stands.ascend) (omega arith)

-- so a commit record lands
pub commit_lands : (start : Start) (v : Knowledge) (mid lists : List (List Entry)) (n : ℕ) (s t t' : Session) (rec : Rec) (result : Result Appended Refusal) → IsAt start v n s → IsCommitOf s.levels.open_ids.items rec → EngineInvariant start lists → IsOldestTold start v.seen mid → Grows mid lists
    → Appends start lists rec t t' result → IsNumbered result
commit_lands start v mid lists n s t t' rec (Ok (came.At number)) a of k told grows appends = tt
commit_lands start v mid lists n s t t' rec (Ok came.NoBase) a of k told grows appends =
    let taken : IsTaken start lists rec = subst (IsTaken start lists) (sym of.is) (end_taken start v mid lists n of.top of.subs s a of.ids k told grows).0 in
    appends.1 taken.lawful taken.base
commit_lands start v mid lists n s t t' rec (Err r) a of k told grows appends = tt

-- and an abort record
pub abort_lands : (start : Start) (v : Knowledge) (mid lists : List (List Entry)) (n : ℕ) (s t t' : Session) (rec : Rec) (result : Result Appended Refusal) → IsAt start v n s → IsAbortOf s.levels.open_ids.items rec → EngineInvariant start lists → IsOldestTold start v.seen mid → Grows mid lists
    → TakesAbort start lists rec t t' result → IsNumbered result
abort_lands start v mid lists n s t t' rec (Ok (came.At number)) a of k told grows takes = tt
abort_lands start v mid lists n s t t' rec (Ok came.NoBase) a of k told grows takes =
    let taken : IsTaken start lists rec = subst (IsTaken start lists) (sym of.is) (end_taken start v mid lists n of.top of.subs s a of.ids k told grows).1 in
    takes.1 taken.lawful taken.base
abort_lands start v mid lists n s t t' rec (Err r) a of k told grows takes = tt
