-- What a session may add to a list, from what it has seen, and that it stands there then.
use Rattle.std.proofs.Common.{None, inl, ◌≡◌, ℕ, ◌+◌, ◌≤◌, ◌<◌, List, [], ◌∷◌, refl, sym, subst, length}
use Rattle.notes.specs.Lists.{at}
use Rattle.tx_events.specs.declared.event.By.{By}
use Rattle.tx_events.proofs.Membership.{contains_has, has_contains}
use Rattle.tx_core.specs.declared.entry.Entry.{Entry}
use Rattle.tx_core.specs.declared.entry.Kind.TheVariants as kinds
use Rattle.tx_core.specs.declared.entry.LogCall.TheVariants as calls
use Rattle.tx_core.specs.declared.entry.Start.{Start}
use Rattle.tx_core.specs.Entries.{records_of, flushed_to}
use Rattle.tx_core.specs.Locks.{IsPageLock, log_lock}
use Rattle.tx_core.specs.PagesBeforeIds.{IsWanted}
use Rattle.tx_core.specs.ProgramOrder.{IsInTurn}
use Rattle.tx_core.proofs.ChangeLaws.{fault_law}
use Rattle.tx_core.proofs.Quiet.{flush_law, log_fault_law, look_law, zero_law}
use Rattle.engine_parts.specs.Answers.{MetFault, MetLogFault}
use Rattle.engine_parts.specs.Faults.{fault_by, flush_fault_by}
use Rattle.engine_parts.specs.Holds.{Knowledge, Leaves}
use Rattle.engine_parts.specs.Law.{MayKeep}
use Rattle.disk_core.specs.Faults.{HasRisen}
use Rattle.tx_core.specs.FaultsRise.{faults_told}
use Rattle.tx_core.specs.StaysDown.{IsUp}
use Rattle.engine_parts.proofs.Leaving.{stands_left}

pub may_look : (start : Start) (seen : List (List Entry)) (lock : ℕ) (by : By) (e : Entry) → e ≡ record { by = by; kind = kinds.Look } → IsInTurn start (at seen lock) by → MayKeep start seen lock e
may_look start seen lock by e is turn = subst (MayKeep start seen lock) (sym is) (λ lists k knows inside whole. look_law start seen lock by lists k knows inside whole turn)

-- A fault of a bank that hit its own session, before anything was changed. Its count has risen.
pub may_fault : (start : Start) (seen : List (List Entry)) (lock : ℕ) (by : By) (count : ℕ) (e : Entry) → IsPageLock start lock → HasRisen (faults_told start lock (at seen lock)) count → e ≡ fault_by by count → IsInTurn start (at seen lock) by → MayKeep start seen lock e
may_fault start seen lock by count e pages risen is turn =
    subst (MayKeep start seen lock) (sym is) (λ lists k knows there whole.
    fault_law start seen lock by (by ∷ []) [] None count
    (record {
      on = record { bank = pages; pages = tt };
      marks = λ mark c. absurd (contains_has [] mark c);
      alike = λ mark other c. absurd (contains_has [] mark c);
      links = λ link c. absurd (contains_has [] link c);
      offsets = λ set c. absurd (contains_has [] set c);
      slots = λ slot c. absurd (contains_has [] slot c);
    })
    (record { own = has_contains (by ∷ []) by (inl refl); once = refl; each = tt })
    tt risen lists k knows there whole turn)

pub met_fault : (start : Start) (v w : Knowledge) (lock : ℕ) (by : By) (count : ℕ) → lock < length v.seen → Leaves start lock (fault_by by count) v w → MetFault w.seen lock by
met_fault start v w lock by count inside l = record {
  adder = by;
  callers = by ∷ [];
  changes = [];
  cut = None;
  count = count;
  hit = has_contains (by ∷ []) by (inl refl);
  stands = stands_left start v w lock (fault_by by count) inside l;
}

-- a page is made of a number that was given or comes next
pub may_make : (start : Start) (seen : List (List Entry)) (lock page : ℕ) (by : By) (e : Entry) → IsPageLock start lock → IsWanted start seen lock page → e ≡ record { by = by; kind = kinds.Zero page } → IsInTurn start (at seen lock) by → MayKeep start seen lock e
may_make start seen lock page by e pages wanted is turn = subst (MayKeep start seen lock) (sym is) (λ lists k knows there whole. zero_law start seen lock by page pages wanted lists k knows there whole turn)

-- ---- the log

pub may_flush : (start : Start) (seen : List (List Entry)) (to : ℕ) (by : By) (e : Entry) → flushed_to start (at seen log_lock) ≤ to → to ≤ start.from + length (records_of seen) → IsUp (at seen log_lock) → e ≡ record { by = by; kind = kinds.Flush to } → IsInTurn start (at seen log_lock) by → MayKeep start seen log_lock e
may_flush start seen to by e rises within up is turn = subst (MayKeep start seen log_lock) (sym is) (λ lists k knows there whole. flush_law start seen by to rises within up lists k knows there whole turn)

pub may_fail_flush : (start : Start) (seen : List (List Entry)) (by : By) (count : ℕ) (e : Entry) → IsUp (at seen log_lock) → HasRisen (faults_told start log_lock (at seen log_lock)) count → e ≡ flush_fault_by by count → IsInTurn start (at seen log_lock) by → MayKeep start seen log_lock e
may_fail_flush start seen by count e up risen is turn = subst (MayKeep start seen log_lock) (sym is) (λ lists k knows there whole. log_fault_law start seen by calls.Flush count tt (λ puts. up) risen lists k knows there whole turn)

pub met_log_fault : (start : Start) (v w : Knowledge) (by : By) (count : ℕ) → log_lock < length v.seen → Leaves start log_lock (flush_fault_by by count) v w → MetLogFault w.seen by
met_log_fault start v w by count inside l = record { count = count; stands = stands_left start v w log_lock (flush_fault_by by count) inside l }
