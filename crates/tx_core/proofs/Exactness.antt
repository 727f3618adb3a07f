-- A record of an end stays exact while the history grows.
use Rattle.std.proofs.Common.{Contains, List, Some, [], ap, arith, drop, inl, inr, length, refl, subst, sym, take, true, ℕ, ⊎_elim, ◌++◌, ◌==◌, ◌∙◌, ◌∷◌, ◌≡◌, eqb-true}
use Rattle.std.proofs.Math.Seq.{take-append_seam}
use Rattle.std.proofs.lemmas.List.{take-append-drop}
use Rattle.std.specs.List.{last_or, slice_get}
use Rattle.std.specs.Option.{unwrap_or}
use mathlib.Core.Logic.{dite}
use native.Mathlib.Decide.{ℕ_discrete}
use Rattle.tx_events.specs.declared.event.By.{By}
use Rattle.tx_events.specs.declared.event.Event.{Event}
use Rattle.tx_events.specs.declared.record.Counters.{Counters}
use Rattle.tx_events.proofs.GivenIds.{fresh, given_to_given}
use Rattle.tx_events.proofs.PlaceLemmas.{last_at, slice_get-grows, take-grows}
use Rattle.tx_events.proofs.Lineages.{lineage_push}
use Rattle.tx_events.proofs.Membership.{Has, contains_has, has_filter, has_left}
use Rattle.tx_events.proofs.Closing.{one_top}
use Rattle.tx_events.specs.Running.{is_open, open_ids}
use Rattle.tx_events.specs.Families.{is_top, top}
use Rattle.tx_events.specs.XactEnds.{end_event}
use Rattle.tx_events.specs.declared.xact_end.XactEnd.{XactEnd}
use Rattle.tx_events.specs.declared.xact_end.XactEnd.TheVariants as ends
use Rattle.tx_events.proofs.OpenIds.{open_ids_other}
use Rattle.tx_events.proofs.QuietGrowth.{quiet_open_ids}
use Rattle.tx_events.specs.Events.{by_of, given_to}
use Rattle.tx_events.specs.History.{IsLegal, MayCome}
use Rattle.tx_core.proofs.Lasting.{given_to_begins}
use Rattle.tx_core.specs.CommitRecordsExact.{IsExactIn}
use Rattle.tx_core.specs.Wholeness.{IsWholeIn}
use Rattle.tx_events.specs.declared.event.Event.TheVariants as events

-- the ids of a whole record are its session's
pub whole_given : (how : XactEnd) (h : List Event) (session top : ℕ) (subs : List ℕ) (id : ℕ) → IsWholeIn how h session top subs → Contains (top ∷ subs) id → Has (given_to session h) id
whole_given how h session top subs id exact c =
    ⊎_elim
    (λ (q : open_ids session h ≡ top ∷ subs). (has_filter (is_open h) (given_to session h) id (subst (λ t. Has t id) (sym q) (contains_has (top ∷ subs) id c))).0)
    (λ (q : (p : ℕ) × (by : By) × (by.session ≡ session) × (slice_get h p ≡ Some (end_event how by top)) × (open_ids session (take p h) ≡ top ∷ subs)).
    let front = take q.0 h in
    let k : Has (given_to session front) id = (has_filter (is_open front) (given_to session front) id (subst (λ t. Has t id) (sym q.4) (contains_has (top ∷ subs) id c))).0 in
    let b = given_to_begins session front h (drop q.0 h, take-append-drop q.0 h) in
    subst (λ t. Has t id) b.1 (has_left (given_to session front) b.0 id k))
    exact.ids

pub exact_given : (h : List Event) (session top : ℕ) (subs : List ℕ) (id : ℕ) → IsExactIn h session top subs → Contains (top ∷ subs) id → Has (given_to session h) id
exact_given = whole_given ends.Commit

-- one more event, which leaves what the session has open
whole_still : (how : XactEnd) (h : List Event) (e : Event) (session top : ℕ) (subs : List ℕ) → is_top (h ++ e ∷ []) top ≡ true → IsWholeIn how h session top subs → (open_ids session h ≡ top ∷ subs → IsWholeIn how (h ++ e ∷ []) session top subs) → IsWholeIn how (h ++ e ∷ []) session top subs
whole_still how h e session top subs root exact now =
    ⊎_elim now
    (λ (q : (p : ℕ) × (by : By) × (by.session ≡ session) × (slice_get h p ≡ Some (end_event how by top)) × (open_ids session (take p h) ≡ top ∷ subs)).
    record { root = root; ids = inr (q.0, q.1, q.2, slice_get-grows h (e ∷ []) (end_event how q.1 top) q.0 q.3, ap (open_ids session) (take-grows h (e ∷ []) (end_event how q.1 top) q.0 q.3) ∙ q.4) })
    exact.ids

-- a session ends the top that it has open
pub ends_own : (base : Counters) (h : List Event) (session t top : ℕ) (subs : List ℕ) → IsLegal base h → Contains (open_ids session h) t → is_top h t ≡ true → open_ids session h ≡ top ∷ subs → is_top h top ≡ true → t ≡ top
ends_own base h session t top subs legal opened root q own =
    let mine : Has (open_ids session h) t = contains_has (open_ids session h) t opened in
    let his : Has (open_ids session h) top = subst (λ (l : List ℕ). Has l top) (sym q) (inl refl) in
    sym (eqb-true _ t root) ∙ (one_top base h legal session t top mine his ∙ eqb-true _ top own)

-- what the event of a session does to its record of what is open: an end is that of this record
abbrev pub Leaves : XactEnd → List Event → Event → ℕ → Type 0
Leaves how h (events.Commit by t) top = events.Commit by t ≡ end_event how by top
Leaves how h (events.Id by id) top = Unit {0}
Leaves how h (events.Sub by parent id) top = ⊥
Leaves how h (events.Undo by id) top = ⊥
Leaves how h (events.Abort by t) top = events.Abort by t ≡ end_event how by top
Leaves how h (events.Snap name by) top = Unit {0}
Leaves how h (events.SnapDrop name by) top = Unit {0}
Leaves how h (events.Oldest by oldest) top = Unit {0}
Leaves how h (events.Ask by id) top = Unit {0}

ended_so : (how : XactEnd) (h : List Event) (e : Event) (by : By) (session top : ℕ) (subs : List ℕ) → is_top (h ++ e ∷ []) top ≡ true → by.session ≡ session → open_ids session h ≡ top ∷ subs → e ≡ end_event how by top → IsWholeIn how (h ++ e ∷ []) session top subs
ended_so how h e by session top subs root s q is = record { root = root; ids = inr (length h, by, s, last_at h e ∙ ap Some is, ap (open_ids session) (take-append_seam h (e ∷ [])) ∙ q) }

-- one more event of the session itself
whole_own : (how : XactEnd) (base : Counters) (h : List Event) (e : Event) (session top : ℕ) (subs : List ℕ) → MayCome base h e → is_top (h ++ e ∷ []) top ≡ true → (by_of e).session ≡ session → open_ids session h ≡ top ∷ subs
    → Leaves how h e top → IsWholeIn how (h ++ e ∷ []) session top subs
whole_own how base h (events.Commit by t) session top subs may root s q l = ended_so how h (events.Commit by t) by session top subs root s q l
whole_own how base h (events.Id by id) session top subs may root s q l = absurd (let z : [] ≡ top ∷ subs = sym may.1 ∙ ap (λ z. open_ids z h) s ∙ q in cc)
whole_own how base h (events.Sub by parent id) session top subs may root s q l = absurd l
whole_own how base h (events.Undo by id) session top subs may root s q l = absurd l
whole_own how base h (events.Abort by t) session top subs may root s q l = ended_so how h (events.Abort by t) by session top subs root s q l
whole_own how base h (events.Snap name by) session top subs may root s q l = record { root = root; ids = inl (quiet_open_ids session h (events.Snap name by) tt ∙ q) }
whole_own how base h (events.SnapDrop name by) session top subs may root s q l = record { root = root; ids = inl (quiet_open_ids session h (events.SnapDrop name by) tt ∙ q) }
whole_own how base h (events.Oldest by oldest) session top subs may root s q l = record { root = root; ids = inl (quiet_open_ids session h (events.Oldest by oldest) tt ∙ q) }
whole_own how base h (events.Ask by id) session top subs may root s q l = record { root = root; ids = inl (quiet_open_ids session h (events.Ask by id) tt ∙ q) }

-- one more event that is legal, and that leaves the session's record where it is its own
pub whole_push : (how : XactEnd) (base : Counters) (h : List Event) (e : Event) (session top : ℕ) (subs : List ℕ) → IsLegal base h → MayCome base h e → IsWholeIn how h session top subs
    → ((by_of e).session ≡ session → open_ids session h ≡ top ∷ subs → Leaves how h e top) → IsWholeIn how (h ++ e ∷ []) session top subs
whole_push how base h e session top subs legal may exact leaves =
    let given = whole_given how h session top subs top exact (0, omega arith, refl) in
    let root : is_top (h ++ e ∷ []) top ≡ true = ap (λ (l : List ℕ). unwrap_or (last_or (Some top) l) top == top) (lineage_push h e top (λ g. fresh base h e top legal may g (given_to_given session h top given))) ∙ exact.root in
    whole_still how h e session top subs root exact (λ q.
    dite (ℕ_discrete (by_of e).session session)
    (λ (s : (by_of e).session ≡ session). whole_own how base h e session top subs may root s q (leaves s q))
    (λ n. record { root = root; ids = inl (open_ids_other base h e session legal may n ∙ q) }))
