-- No page is cut that is still asked for.
use Rattle.std.proofs.Common.{Contains, List, Some, [], arith, cond, false, refl, subst, sym, take, true, ℕ, ⊎_elim, ◌-◌, ◌∷◌, ◌≡◌, ◌≤◌}
use Rattle.std.specs.Prelude.{nat_lt}
use Rattle.tx_events.specs.Ids.{id_before, low_half}
use Rattle.tx_events.specs.declared.event.By.{By}
use Rattle.tx_events.specs.declared.event.Event.{Event}
use Rattle.tx_events.specs.declared.event.Event.TheVariants as events
use Rattle.tx_events.specs.declared.record.Counters.{Counters}
use Rattle.tx_events.specs.declared.record.Rec.TheVariants as records
use Rattle.tx_events.proofs.GivenIds.{legal_front, legal_last}
use Rattle.tx_events.proofs.HorizonSteps.{oldest_push}
use Rattle.tx_events.proofs.Horizons.{cut_not_past}
use Rattle.tx_events.proofs.Membership.{Has, by_end, contains_has, has_cases}
use Rattle.tx_events.specs.History.{IsLegal}
use Rattle.tx_events.specs.Horizon.{announced_after, live_snaps, oldest_id, oldest_xmin}
use Rattle.tx_core.specs.declared.entry.Entry.{Entry}
use Rattle.tx_core.specs.declared.entry.Kind.TheVariants as kinds
use Rattle.tx_core.specs.declared.entry.Start.{Start}
use Rattle.tx_core.proofs.Asking.{if_some, upheld_has}
use Rattle.tx_core.proofs.HorizonLaws.{positive}
use Rattle.tx_core.proofs.Posting.{announced_rises, oldest_by_places}
use Rattle.tx_core.proofs.Reading.{flushed_appended}
use Rattle.tx_core.specs.CutsFollow.{CutBy, NeedsCut}
use Rattle.tx_core.specs.EngineInvariant.{EngineInvariant}
use Rattle.tx_core.specs.Entries.{cut_in, history}
use Rattle.tx_core.specs.Consequences.{ParentsKept, StatesKept}
use Rattle.notes.specs.Lists.{at}
use Rattle.tx_core.specs.Locks.{log_lock, subtrans_lock, xact_lock}
use Rattle.tx_core.specs.RecordsFollow.{IsOldestAnnounced, NeedsCounters}

-- what says that a page is cut
pub cut_says : (start : Start) (lists : List (List Entry)) (lock page : ℕ) (e : Entry) → EngineInvariant start lists → Contains (at lists lock) e → cut_in e.kind ≡ Some page → CutBy start lists lock page
cut_says start lists lock page e k c g =
    if_some (cut_in e.kind) (CutBy start lists lock) page (upheld_has (NeedsCut start) lists lock e k.cuts.each (contains_has (at lists lock) e c)).1 g

pub before_upto : (n : ℕ) → id_before n ≤ n
before_upto n =
    elim (nat_lt (n - 1) 3) as (λ b. cond b (n - 1) (cond (nat_lt (low_half (n - 1)) 3) (n - 1 - low_half (n - 1) - 1) (n - 1)) ≤ n) [
      | true ↦ omega arith
      | false ↦ elim (nat_lt (low_half (n - 1)) 3) as (λ b. cond b (n - 1 - low_half (n - 1) - 1) (n - 1) ≤ n) [ true ↦ omega arith | false ↦ omega arith ]
    ]

pub parents_kept : ParentsKept
parents_kept start lists bank page x e s k base c g live from =
    let cut = (cut_says start lists (subtrans_lock bank) page e k c g).subtrans bank refl in
    let xmin : ℕ = oldest_xmin start.base.next (take cut.0 (history lists)) in
    let le : xmin ≤ x = cut_not_past start.base (history lists) cut.0 x s k.events.legal base.full (positive start.base.next base.full) (contains_has (live_snaps start.base.next (history lists)) s live) from in
    let below : id_before xmin ≤ xmin = before_upto xmin in
    let on = cut.2 in omega arith

-- an oldest id that was announced is not past the one announced last
announced_upto : (base : Counters) (by : By) (x : ℕ) (h : List Event) → IsLegal base h → Has h (events.Oldest by x) → x ≤ oldest_id base.oldest h
announced_upto base by x = by_end (λ h. IsLegal base h → Has h (events.Oldest by x) → x ≤ oldest_id base.oldest h)
    (λ legal k. absurd k)
    (λ h e before legal k.
    let up = announced_rises base h e (legal_last base h e legal) in
    let now = oldest_push base.oldest h e in
    ⊎_elim
    (λ old. let a = before (legal_front base h e legal) old in omega arith)
    (λ new. ⊎_elim
    (λ (q : e ≡ events.Oldest by x). subst (λ z. x ≤ z) (sym now) (subst (λ (f : Event). x ≤ announced_after (oldest_id base.oldest h) f) (sym q) (omega arith)))
    (λ z. absurd z) new)
    (has_cases h (e ∷ []) (events.Oldest by x) k))

pub oldest_upto : (start : Start) (lists : List (List Entry)) (oldest : ℕ) → EngineInvariant start lists → IsOldestAnnounced start lists oldest → oldest ≤ oldest_id start.base.oldest (history lists)
oldest_upto start lists oldest k a =
    let h : List Event = history lists in
    ⊎_elim
    (λ (q : oldest ≡ start.base.oldest). let r : start.base.oldest ≤ oldest_id start.base.oldest h = oldest_by_places start.base h k.events.legal 0 in omega arith)
    (λ (z : (by : By) × Contains h (events.Oldest by oldest)). announced_upto start.base z.0 oldest h k.events.legal (contains_has h (events.Oldest z.0 oldest) z.1))
    a

-- what a truncation names was announced
pub truncated_announced : (start : Start) (lists : List (List Entry)) (oldest multi offset session : ℕ) → EngineInvariant start lists → (by : By) × (by.session ≡ session) × Contains (at lists log_lock) (record { by = by; kind = kinds.Append (records.Truncate oldest multi offset) })
    → IsOldestAnnounced start lists oldest
truncated_announced start lists oldest multi offset session k a =
    let e : Entry = record { by = a.0; kind = kinds.Append (records.Truncate oldest multi offset) } in
    (upheld_has (NeedsCounters start) lists log_lock e k.log.counters (contains_has (at lists log_lock) e a.2)).1.1.0

pub states_kept : StatesKept
states_kept start lists bank page e k c g =
    let cut = (cut_says start lists (xact_lock bank) page e k c g).xact bank refl in
    let appended = flushed_appended start lists cut.3.session (records.Truncate cut.0 cut.1 cut.2) cut.3.flushed in
    let le = oldest_upto start lists cut.0 k (truncated_announced start lists cut.0 cut.1 cut.2 cut.3.session k appended) in
    let on = cut.4 in omega arith
