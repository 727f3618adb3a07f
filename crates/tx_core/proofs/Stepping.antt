-- The lists with one entry more, and what a session knows of them from its own entries.
use Rattle.std.proofs.Common.{Contains, List, Some, [], ap, eq-eqb, inl, inr, length, refl, subst, sym, true, ℕ, ⊎_elim, ◌++◌, ◌<◌, ◌==◌, ◌∙◌, ◌∷◌, ◌≡◌, ◌≢◌, ◌⊎◌}
use Rattle.std.proofs.lemmas.List.Elements.{filter_map-append}
use Rattle.std.specs.List.{cons_option, last_or}
use Rattle.std.specs.Option.{unwrap_or}
use mathlib.Core.Logic.{dite}
use native.Mathlib.Decide.{ℕ_discrete}
use Rattle.tx_events.specs.declared.event.By.{By}
use Rattle.tx_events.specs.declared.event.Event.{Event}
use Rattle.tx_events.specs.declared.record.Rec.{Rec}
use Rattle.tx_events.proofs.Closing.{later}
use Rattle.tx_events.proofs.GivenIds.{given_to_given}
use Rattle.tx_events.proofs.Membership.{Has, contains_has, has_cases, has_contains, has_filter, has_filter_map, has_right, none_passes}
use Rattle.tx_events.proofs.OpenIds.{open_rest}
use Rattle.tx_events.specs.Events.{by_of, given_to}
use Rattle.tx_events.specs.Families.{is_top, lineage, top}
use Rattle.tx_events.specs.History.{IsLegal}
use Rattle.tx_events.specs.Running.{is_open, open_ids}
use Rattle.tx_core.specs.declared.entry.Entry.{Entry}
use Rattle.tx_core.specs.declared.entry.Start.{Start}
use Rattle.tx_core.proofs.Asking.{own_event, upheld_has}
use Rattle.notes.proofs.Growing.{at_else, at_here}
use Rattle.tx_core.proofs.Lasting.{history_grows}
use Rattle.tx_core.specs.AbortRule.{Asks}
use Rattle.tx_core.specs.EngineInvariant.{EngineInvariant}
use Rattle.tx_core.specs.Entries.{IsAppended, Mark, asks_in, event_of, events_in, history, session_of}
use Rattle.tx_core.specs.EventsLegal.{NeedsOwn}
use Rattle.notes.specs.Lists.{Knows, add, at, own}
use Rattle.tx_core.specs.Locks.{log_lock, proc_lock}
use Rattle.tx_core.specs.declared.entry.Kind.TheVariants as kinds
use Rattle.tx_core.specs.declared.entry.State.{State}

-- the history with one entry more
pub history_at : (lists : List (List Entry)) (e : Entry) → proc_lock < length lists → history (add lists proc_lock e) ≡ history lists ++ cons_option (event_of e) []
history_at lists e inside = ap events_in (at_here lists proc_lock e inside) ∙ filter_map-append event_of (at lists proc_lock) (e ∷ [])

pub history_off : (lists : List (List Entry)) (lock : ℕ) (e : Entry) → proc_lock ≢ lock → history (add lists lock e) ≡ history lists
history_off lists lock e n = ap events_in (at_else lists lock proc_lock e n)

-- an own entry was seen
pub own_seen : (n : ℕ) (seen lists : List (List Entry)) (lock : ℕ) (e : Entry) → Knows session_of n seen lists → Has (at lists lock) e → e.by.session ≡ n → Has (at seen lock) e
own_seen n seen lists lock e knows k q =
    let b = knows.grows.begins lock in
    ⊎_elim (λ h. h)
    (λ h. absurd (none_passes (λ f. session_of f == n) (at seen lock) b.0 (ap (λ (t : List Entry). own session_of n t) b.1 ∙ knows.own lock) e h (eq-eqb e.by.session n q)))
    (has_cases (at seen lock) b.0 e (subst (λ (t : List Entry). Has t e) (sym b.1) k))

pub own_appended : (n : ℕ) (seen lists : List (List Entry)) (rec : Rec) → Knows session_of n seen lists → IsAppended lists n rec → IsAppended seen n rec
own_appended n seen lists rec knows a = (a.0, a.1, has_contains _ _ (own_seen n seen lists log_lock (record { by = a.0; kind = kinds.Append rec }) knows (contains_has _ _ a.2) a.1))

-- what came since a session looked is others' events
pub record Others (n : ℕ) (h more : List Event) : Type 0 where
  pub rest : List Event
  pub split : h ++ rest ≡ more
  pub others : (e : Event) → Has rest e → (by_of e).session ≢ n

pub others_since : (start : Start) (n : ℕ) (seen lists : List (List Entry)) → EngineInvariant start lists → Knows session_of n seen lists → Others n (history seen) (history lists)
others_since start n seen lists k knows =
    let b = knows.grows.begins proc_lock in record {
      rest = events_in b.0;
      split = sym (filter_map-append event_of (at seen proc_lock) b.0) ∙ ap events_in b.1;
      others = λ e h q.
          let from = has_filter_map event_of b.0 e h in
          let there : Has (at lists proc_lock) from.0 = subst (λ (t : List Entry). Has t from.0) b.1 (has_right (at seen proc_lock) b.0 from.0 from.1) in
          let mine = own_event lists proc_lock [] from.0 e (upheld_has NeedsOwn lists proc_lock from.0 k.events.own there).1 from.2 in
          none_passes (λ f. session_of f == n) (at seen proc_lock) b.0 (ap (λ (t : List Entry). own session_of n t) b.1 ∙ knows.own proc_lock) from.0 from.1 (eq-eqb from.0.by.session n (ap (λ (z : By). z.session) (sym mine) ∙ q));
    }

-- so what the session has open is what it has seen open
pub open_seen : (start : Start) (n : ℕ) (seen lists : List (List Entry)) → EngineInvariant start lists → Knows session_of n seen lists → open_ids n (history lists) ≡ open_ids n (history seen)
open_seen start n seen lists k knows =
    let o = others_since start n seen lists k knows in
    ap (open_ids n) (sym o.split) ∙ open_rest start.base n (history seen) o.rest (subst (IsLegal start.base) (sym o.split) k.events.legal) o.others

-- a top that was seen open is a top
pub root_seen : (start : Start) (n top : ℕ) (subs : List ℕ) (seen lists : List (List Entry)) → EngineInvariant start lists → Knows session_of n seen lists → open_ids n (history seen) ≡ top ∷ subs → is_top (history seen) top ≡ true → is_top (history lists) top ≡ true
root_seen start n top subs seen lists k knows opened root =
    let b = history_grows seen lists knows.grows in
    let mine = (has_filter (is_open (history seen)) (given_to n (history seen)) top (subst (λ l. Has l top) (sym opened) (inl refl))).0 in
    let l = later start.base (history seen) b.0 (subst (IsLegal start.base) (sym b.1) k.events.legal) top (given_to_given n (history seen) top mine) in
    ap (λ (l : List ℕ). unwrap_or (last_or (Some top) l) top == top) (ap (λ t. lineage t top) (sym b.1) ∙ l.line) ∙ root

-- an appended record was there, or is the entry
pub appended_cases : (lists : List (List Entry)) (lock : ℕ) (e : Entry) (session : ℕ) (rec : Rec) → lock < length lists → IsAppended (add lists lock e) session rec → IsAppended lists session rec ⊎ ((lock ≡ log_lock) × (e.by.session ≡ session) × (e.kind ≡ kinds.Append rec))
appended_cases lists lock e session rec inside a =
    dite (ℕ_discrete log_lock lock)
    (λ (q : log_lock ≡ lock).
    let here : at (add lists lock e) log_lock ≡ at lists log_lock ++ e ∷ [] = ap (λ z. at (add lists lock e) z) q ∙ at_here lists lock e inside ∙ ap (λ z. at lists z ++ e ∷ []) (sym q) in
    ⊎_elim
    (λ h. inl (a.0, a.1, has_contains _ _ h))
    (λ h. ⊎_elim (λ (same : e ≡ record { by = a.0; kind = kinds.Append rec }). inr (sym q, ap (λ (z : Entry). z.by.session) same ∙ a.1, ap (λ (z : Entry). z.kind) same)) (λ z. absurd z) h)
    (has_cases (at lists log_lock) (e ∷ []) _ (subst (λ (t : List Entry). Has t (record { by = a.0; kind = kinds.Append rec })) here (contains_has _ _ a.2))))
    (λ n. inl (a.0, a.1, subst (λ (t : List Entry). Contains t (record { by = a.0; kind = kinds.Append rec })) (at_else lists lock log_lock e n) a.2))

-- a state that was asked for was asked for before, or by the entry
pub asks_cases : (lists : List (List Entry)) (lock : ℕ) (e : Entry) (session id : ℕ) (state : State) → lock < length lists → Asks (add lists lock e) session id state
    → Asks lists session id state ⊎ ((e.by.session ≡ session) × (caller : By) × (caller.session ≡ session) × Has (asks_in e) (record { caller = caller; id = id; state = state }))
asks_cases lists lock e session id state inside a =
    let old : Has (at lists a.lock) a.entry → Asks lists session id state = λ h. record { lock = a.lock; entry = a.entry; stands = has_contains (at lists a.lock) a.entry h; own = a.own; caller = a.caller; same = a.same; asks = a.asks } in
    let mark : Mark = record { caller = a.caller; id = id; state = state } in
    dite (ℕ_discrete a.lock lock)
    (λ (q : a.lock ≡ lock).
    let here : at (add lists lock e) a.lock ≡ at lists a.lock ++ e ∷ [] = ap (λ z. at (add lists lock e) z) q ∙ at_here lists lock e inside ∙ ap (λ z. at lists z ++ e ∷ []) (sym q) in
    ⊎_elim
    (λ h. inl (old h))
    (λ h. ⊎_elim
    (λ (same : e ≡ a.entry). inr (ap (λ (z : Entry). z.by.session) same ∙ a.own, a.caller, a.same, subst (λ (z : Entry). Has (asks_in z) mark) (sym same) (contains_has (asks_in a.entry) mark a.asks)))
    (λ z. absurd z) h)
    (has_cases (at lists a.lock) (e ∷ []) a.entry (subst (λ (t : List Entry). Has t a.entry) here (contains_has (at (add lists lock e) a.lock) a.entry a.stands))))
    (λ n. inl (old (subst (λ (t : List Entry). Has t a.entry) (at_else lists lock a.lock e n) (contains_has (at (add lists lock e) a.lock) a.entry a.stands))))

-- what a session asked for it has seen itself ask for
pub own_asks : (n id : ℕ) (state : State) (seen lists : List (List Entry)) → Knows session_of n seen lists → Asks lists n id state → Asks seen n id state
own_asks n id state seen lists knows a = record {
  lock = a.lock;
  entry = a.entry;
  stands = has_contains (at seen a.lock) a.entry (own_seen n seen lists a.lock a.entry knows (contains_has (at lists a.lock) a.entry a.stands) a.own);
  own = a.own;
  caller = a.caller;
  same = a.same;
  asks = a.asks;
}
