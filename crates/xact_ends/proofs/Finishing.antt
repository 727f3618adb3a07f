-- The tails of a commit: what each leaves, and what comes before it.
use Rattle.std.proofs.Common.{◌≡◌, ◌⊎◌, ℕ, ◌+◌, ◌≤◌, ◌<◌, List, [], ◌∷◌, refl, sym, ap, subst, ◌∙◌, inl, inr, ⊎_elim, length, arith, true, Contains, Result, Ok, Err, Some, slice_get}
use Rattle.std.proofs.lemmas.Option.{slice_get_within}
use Rattle.tx_events.specs.declared.event.By.{By}
use Rattle.tx_events.specs.declared.record.Rec.TheVariants as records
use Rattle.tx_events.specs.declared.refusal.Lock.TheVariants as locks
use Rattle.tx_events.specs.declared.refusal.Refusal.{Refusal}
use Rattle.tx_events.specs.declared.refusal.Refusal.TheVariants as refusals
use Rattle.tx_events.specs.declared.xact_end.XactEnd.{XactEnd}
use Rattle.tx_events.specs.declared.xact_end.XactEnd.TheVariants as ends
use Rattle.tx_events.specs.XactEnds.{end_event}
use Rattle.tx_core.specs.declared.entry.Entry.{Entry}
use Rattle.tx_core.specs.declared.entry.Start.{Start}
use Rattle.tx_core.specs.declared.entry.State.TheVariants as states
use Rattle.tx_core.specs.Entries.{IsMarked, records_of}
use Rattle.session_levels.specs.declared.session.Session as plain
use Rattle.engine_parts.specs.declared.session.Session.{Session}
use Rattle.engine_parts.specs.declared.session.Stage.{Stage}
use Rattle.engine_parts.specs.declared.session.Stage.TheVariants as stages
use Rattle.engine_parts.specs.Holds.{Knowledge}
use Rattle.engine_parts.specs.Sessions.{MayCall, by_at, inner_id}
use Rattle.engine_parts.specs.Stages.{IsInStage, IsLogged, IsSettling, may_be_recorded}
use Rattle.engine_parts.specs.Steps.{GoesOn}
use Rattle.engine_parts.proofs.Stepping.{goes_then}
use Rattle.bank_sections.specs.Faults.{IsSubtransFault, IsXactFault}
use Rattle.log_sections.specs.LogSections.{IsAppendRefused, IsFlushRefused, IsFlushedPast}
use Rattle.proc_sections.specs.Endings.{HasEnded, MayEnd}
use Rattle.xact_ends.specs.Ends.{Commits, HasFinished}
use Rattle.xact_ends.specs.Stops.{Stops}
use Rattle.xact_ends.specs.Trees.{IsSettledTo}

-- ---- the lists by the stage

pub logged_at : (start : Start) (v : Knowledge) (n number : ℕ) (s : Session) → MayCall start v n s → s.stage ≡ stages.Logged number → IsLogged start v.seen n s.levels.open_ids.items number
logged_at start v n number s m is = subst (IsInStage start v.seen n (inner_id s) s.levels.open_ids.items) is m.stage

pub settling_at : (start : Start) (v : Knowledge) (n steps : ℕ) (s : Session) → MayCall start v n s → s.stage ≡ stages.Settling steps → IsSettling start v.seen n s.levels.open_ids.items steps
settling_at start v n steps s m is = subst (IsInStage start v.seen n (inner_id s) s.levels.open_ids.items) is m.stage

pub some_logged : (start : Start) (lists : List (List Entry)) (n number : ℕ) (opened : List ℕ) → IsLogged start lists n opened number → 1 ≤ length opened
some_logged start lists n number opened l = let e = ap length l.ids in omega arith

pub some_settling : (start : Start) (lists : List (List Entry)) (n steps : ℕ) (opened : List ℕ) → IsSettling start lists n opened steps → 1 ≤ length opened
some_settling start lists n steps opened g = let e = ap length g.ids in omega arith

-- the number of a record that stands
pub number_stands : (start : Start) (lists : List (List Entry)) (n number : ℕ) (opened : List ℕ) → IsLogged start lists n opened number → (start.from ≤ number) × (number < start.from + length (records_of lists))
number_stands start lists n number opened l =
    let a = l.appended in
    let e = a.numbered in
    let within = slice_get_within (records_of lists) a.place (a.by, records.Commit l.top l.subs) a.stands in
    (omega arith, omega arith)

-- a record that a flush reached
pub flushed_settling : (start : Start) (lists : List (List Entry)) (n number : ℕ) (opened : List ℕ) → IsLogged start lists n opened number → IsFlushedPast lists number → IsSettling start lists n opened 0
flushed_settling start lists n number opened l f = let a = l.appended in record {
  top = l.top;
  subs = l.subs;
  ids = l.ids;
  flushed = (a.place, f.0, a.by, a.own, a.stands, (let e = a.numbered in let past = f.1 in omega arith), f.2);
  upto = omega arith;
  done = λ j p before at_j id c. absurd (omega arith);
  fresh = λ p at_p sub id c asked. l.unasked id states.Committed c asked;
}

-- ---- the end

-- all states stand
pub may_end_settled : (start : Start) (lists : List (List Entry)) (s s' : Session) (steps : ℕ) → IsSettledTo s s' steps → ((id : ℕ) → Contains s.levels.open_ids.items id → IsMarked start lists id states.Committed) → MayEnd start lists s' ends.Commit
may_end_settled start lists s s' steps is marked = subst (λ (z : Session). MayEnd start lists z ends.Commit) (sym is) (record { recorded = refl; marked = marked })

-- the transaction ended, behind what came before
pub finished_then : (n n' : ℕ) (how : XactEnd) (s t s' : Session) (lists mid more : List (List Entry)) → n' ≡ n → t.levels ≡ s.levels → t.making ≡ s.making → GoesOn n [] lists mid → HasEnded n' how t s' mid more → HasFinished n how s s' lists more
finished_then n n' how s t s' lists mid more number same making goes h = record {
  goes = λ top subs is.
      goes_then n [] (end_event how (by_at n s.levels.commands) top ∷ []) lists mid more goes
      (subst (λ (z : ℕ × ℕ). GoesOn z.0 (end_event how (by_at z.0 z.1) top ∷ []) mid more) (λ j. (number j, (same j).commands)) (h.went top subs (ap (λ (z : plain.Session). z.open_ids.items) same ∙ is)).on);
  named = h.named;
  unnamed = h.unnamed;
  opened = h.opened;
  registered = h.registered ∙ ap (λ (z : plain.Session). z.registered) same;
  count = h.count ∙ ap (λ (z : plain.Session). z.commands) same;
  stage = h.stage;
  making = h.making ∙ making;
}

-- ---- why a tail stops

pub flush_stops : (start : Start) (lists : List (List Entry)) (by : By) (number : ℕ) (r : Refusal) → IsFlushRefused start lists by number r → Stops start lists by (stages.Logged number) (stages.Logged number) r
flush_stops start lists by number refusals.LogFault c = (c.0, refl, c.1)
flush_stops start lists by number (refusals.LogDown down) c = (c.0, c.1, tt, inl refl, c.1)
flush_stops start lists by number _ c = absurd c

pub append_stops : (start : Start) (lists : List (List Entry)) (by : By) (r : Refusal) → IsAppendRefused start lists r → Stops start lists by stages.Clear stages.Clear r
append_stops start lists by (refusals.LogDown down) c = (c, tt, tt, inl refl, tt)
append_stops start lists by refusals.Full c = (refl, refl)
append_stops start lists by refusals.Memory c = (refl, refl)
append_stops start lists by _ c = absurd c

pub link_stops : (start : Start) (lists : List (List Entry)) (by : By) (r : Refusal) → IsSubtransFault lists by r → Stops start lists by stages.Clear stages.Clear r
link_stops start lists by (refusals.DiskFault (locks.Subtrans bank)) c = (c, refl, refl)
link_stops start lists by _ c = absurd c

pub tree_stops : (start : Start) (lists : List (List Entry)) (by : By) (from steps : ℕ) (r : Refusal) → from ≤ steps → IsXactFault lists by r → Stops start lists by (stages.Settling from) (stages.Settling steps) r
tree_stops start lists by from steps (refusals.DiskFault (locks.Xact bank)) upto c = (c, steps, upto, refl)
tree_stops start lists by from steps _ upto c = absurd c

-- ---- what came before

logged_not_clear : (number : ℕ) → stages.Logged number ≡ stages.Clear → ⊥
logged_not_clear number e = cc

settling_not_clear : (steps : ℕ) → stages.Settling steps ≡ stages.Clear → ⊥
settling_not_clear steps e = cc

-- a tail behind the record stops a commit behind the flush
pub stops_flushed : (start : Start) (lists : List (List Entry)) (by : By) (number : ℕ) (new : Stage) (r : Refusal) → Stops start lists by (stages.Settling 0) new r → Stops start lists by (stages.Logged number) new r
stops_flushed start lists by number new (refusals.DiskFault (locks.Xact bank)) c = (c.0, c.1, omega arith, c.3)
stops_flushed start lists by number new (refusals.DiskFault (locks.Subtrans bank)) c = absurd (settling_not_clear 0 c.1)
stops_flushed start lists by number new refusals.LogFault c = absurd (settling_not_clear 0 c.1.0)
stops_flushed start lists by number new (refusals.LogDown down) c = absurd c.2
stops_flushed start lists by number new refusals.Full c = absurd (settling_not_clear 0 c.0)
stops_flushed start lists by number new refusals.Memory c = absurd (settling_not_clear 0 c.0)
stops_flushed start lists by number new _ c = absurd c

-- and one before it
pub stops_appended : (start : Start) (lists : List (List Entry)) (by : By) (number : ℕ) (new : Stage) (r : Refusal) → Stops start lists by (stages.Logged number) new r → Stops start lists by stages.Clear new r
stops_appended start lists by number new (refusals.DiskFault (locks.Xact bank)) c = c
stops_appended start lists by number new (refusals.DiskFault (locks.Subtrans bank)) c = absurd (logged_not_clear number c.1)
stops_appended start lists by number new refusals.LogFault c = (c.0, (refl, number, c.1), c.2)
stops_appended start lists by number new (refusals.LogDown down) c = (c.0, tt, tt, inr (refl, number, ⊎_elim (λ q. q) (λ q. q) c.3), c.4)
stops_appended start lists by number new refusals.Full c = absurd (logged_not_clear number c.0)
stops_appended start lists by number new refusals.Memory c = absurd (logged_not_clear number c.0)
stops_appended start lists by number new _ c = absurd c

-- a commit whose later part came so far
pub commits_then : (start : Start) (n n' : ℕ) (s t s' : Session) (lists mid more : List (List Entry)) (r : Result (Unit {0}) Refusal) → n' ≡ n → t.levels ≡ s.levels → t.making ≡ s.making → GoesOn n [] lists mid
    → ((e : Refusal) → Stops start more (by_at n s.levels.commands) t.stage s'.stage e → Stops start more (by_at n s.levels.commands) s.stage s'.stage e)
    → Commits start n' t s' mid more r → Commits start n s s' lists more r
commits_then start n n' s t s' lists mid more (Ok u) number same making goes stops c = record {
  goes = λ top subs is.
      goes_then n [] (end_event ends.Commit (by_at n s.levels.commands) top ∷ []) lists mid more goes
      (subst (λ (z : ℕ × ℕ). GoesOn z.0 (end_event ends.Commit (by_at z.0 z.1) top ∷ []) mid more) (λ j. (number j, (same j).commands)) (c.goes top subs (ap (λ (z : plain.Session). z.open_ids.items) same ∙ is)));
  named = c.named;
  unnamed = c.unnamed;
  opened = c.opened;
  registered = c.registered ∙ ap (λ (z : plain.Session). z.registered) same;
  count = c.count ∙ ap (λ (z : plain.Session). z.commands) same;
  stage = c.stage;
  making = c.making ∙ making;
}
commits_then start n n' s t s' lists mid more (Err e) number same making goes stops c = (
  goes_then n [] [] lists mid more goes (subst (λ z. GoesOn z [] mid more) number c.0),
  c.1 ∙ same,
  stops e (subst (λ (z : ℕ × ℕ). Stops start more (by_at z.0 z.1) t.stage s'.stage e) (λ j. (number j, (same j).commands)) c.2),
  c.3 ∙ making,
)
