-- An open id of a session without a commit record of what is open is in none of its commit records.
use Rattle.std.proofs.Common.{Contains, ⊎_elim, ◌≡◌, ℕ, List, ◌∷◌, take, refl, sym, subst, ◌∙◌, ap, inl, eqb-true, Some}
use Rattle.std.specs.List.{slice_get}
use Rattle.tx_events.specs.declared.event.By.{By}
use Rattle.tx_events.specs.declared.event.Event.{Event}
use Rattle.tx_events.specs.declared.event.Event.TheVariants as events
use Rattle.tx_events.specs.declared.record.Rec.TheVariants as records
use Rattle.tx_events.specs.Events.{given_to}
use Rattle.tx_events.specs.Families.{top}
use Rattle.tx_events.specs.Running.{is_open, open_ids}
use Rattle.tx_events.proofs.Closing.{commit_ends, later_take, one_top, open_is}
use Rattle.tx_events.proofs.GivenIds.{legal_take, open_given}
use Rattle.tx_events.proofs.Lineages.{top_line}
use Rattle.tx_events.proofs.ListSteps.{not_both}
use Rattle.tx_events.proofs.Membership.{Has, contains_has, has_contains, has_filter, place_has}
use Rattle.tx_core.specs.declared.entry.Entry.{Entry}
use Rattle.tx_core.specs.declared.entry.Start.{Start}
use Rattle.tx_core.specs.CommitRecordsExact.{HasNoRecord}
use Rattle.tx_core.specs.EngineInvariant.{EngineInvariant}
use Rattle.tx_core.specs.AbortRecordsExact.{HasNoAbortRecord}
use Rattle.engine_parts.specs.Stages.{AreUnaborted}
use Rattle.tx_core.specs.Entries.{IsAppended, history}

-- no commit record of the session names an id that it has open, where it has none of what is open
pub open_unrecorded : (start : Start) (lists : List (List Entry)) (n id t : ℕ) (subs : List ℕ) → EngineInvariant start lists → HasNoRecord lists n → Contains (open_ids n (history lists)) id → IsAppended lists n (records.Commit t subs) → Contains (t ∷ subs) id → ⊥
open_unrecorded start lists n id t subs k none opened appended among =
    let h : List Event = history lists in
    let exact = k.records.exact n t subs appended in
    ⊎_elim
    (λ (now : open_ids n h ≡ t ∷ subs). none t subs appended now)
    (λ (q : (p : ℕ) × (by : By) × (by.session ≡ n) × (slice_get h p ≡ Some (events.Commit by t)) × (open_ids n (take p h) ≡ t ∷ subs)).
    let front : List Event = take q.0 h in
    let was : (x : ℕ) → Contains (t ∷ subs) x → Has (open_ids n front) x = λ x c. subst (λ (l : List ℕ). Has l x) (sym q.4) (contains_has (t ∷ subs) x c) in
    let mine = was id among in
    let root = was t (has_contains (t ∷ subs) t (inl refl)) in
    let line : (x : ℕ) → Has (open_ids n front) x → top h x ≡ top front x = λ x c. ap (λ (l : List ℕ). top_line l x) (later_take start.base h q.0 x k.events.legal (open_given n front x c)).line in
    let same : top h id ≡ t = line id mine ∙ (one_top start.base front (legal_take start.base h q.0 k.events.legal) n id t mine root ∙ (sym (line t root) ∙ eqb-true (top h t) t exact.root)) in
    let open_now = (has_filter (is_open h) (given_to n h) id (contains_has (open_ids n h) id opened)).1 in
    not_both _ (commit_ends h q.1 t id (place_has h q.0 (events.Commit q.1 t) q.3) same) (open_is h id open_now).0)
    exact.ids

-- a session of whose open ids none has an abort record has none of what is open
pub open_unaborted : (lists : List (List Entry)) (n : ℕ) (opened : List ℕ) → open_ids n (history lists) ≡ opened → AreUnaborted lists n opened → HasNoAbortRecord lists n
open_unaborted lists n opened is unaborted top subs appended now =
    let among : Contains (top ∷ subs) top = has_contains (top ∷ subs) top (inl refl) in
    unaborted top (subst (λ (l : List ℕ). Contains l top) (sym now ∙ is) among) top subs appended among
