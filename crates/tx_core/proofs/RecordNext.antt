-- No record of the log raises its next id past the ids that were given.
use Rattle.std.proofs.Common.{Contains, List, None, Option, Some, [], arith, drop, inl, inr, length, map, max, refl, subst, take, take-append-drop, ℕ, ⊎_elim, ◌∷◌, ◌≡◌, ◌≤◌}
use Rattle.std.specs.List.{cons_option}
use Rattle.tx_events.specs.Ids.{IsFullId, next_id}
use Rattle.tx_events.specs.declared.event.By.{By}
use Rattle.tx_events.specs.declared.event.Event.{Event}
use Rattle.tx_events.specs.declared.event.Event.TheVariants as events
use Rattle.tx_events.specs.declared.record.Counters.{Counters}
use Rattle.tx_events.specs.declared.record.Rec.{Rec}
use Rattle.tx_events.specs.declared.record.Rec.TheVariants as records
use Rattle.tx_events.proofs.Extremes.{fold_min_start}
use Rattle.tx_events.proofs.GivenIds.{given_below, given_to_given, legal_take}
use Rattle.tx_events.proofs.Horizons.{new_past}
use Rattle.tx_events.proofs.IdOrder.{next_least, nth_from, nth_full}
use Rattle.tx_events.proofs.Membership.{Has, contains_has, has_contains, has_place}
use Rattle.tx_events.specs.After.{after_record, after_records, ids_of, past_ids}
use Rattle.tx_events.specs.Base.{IsBase}
use Rattle.tx_events.specs.Events.{given}
use Rattle.tx_events.specs.History.{IsLegal, MayCome, next_given}
use Rattle.tx_events.specs.Horizon.{live_snaps, oldest_xmin}
use Rattle.tx_events.specs.Running.{running_tops}
use Rattle.tx_events.specs.Snapshots.{snapshot_xmax, snapshot_xmin}
use Rattle.tx_core.specs.declared.entry.Entry.{Entry}
use Rattle.tx_core.specs.declared.entry.Kind.TheVariants as kinds
use Rattle.tx_core.specs.declared.entry.Start.{Start}
use Rattle.tx_core.proofs.Asking.{upheld_has}
use Rattle.tx_core.proofs.Exactness.{exact_given}
use Rattle.tx_core.proofs.HorizonLaws.{positive}
use Rattle.tx_core.proofs.Reading.{appended_by, appended_is}
use Rattle.tx_core.proofs.Rising.{given_more}
use Rattle.tx_core.specs.EngineInvariant.{EngineInvariant}
use Rattle.tx_core.specs.Entries.{IsAppended, appended, history, records_in, recs_in}
use Rattle.tx_core.specs.Consequences.{NextGiven}
use Rattle.notes.specs.Lists.{at}
use Rattle.tx_core.specs.Locks.{log_lock}
use Rattle.tx_core.specs.RecordsFollow.{IsOldestAnnounced, NeedsCounters, NeedsNamed}

past_upto : (next bound : ℕ) (ids : List ℕ) → next ≤ bound → ((id : ℕ) → Has ids id → next_id id ≤ bound) → past_ids next ids ≤ bound
past_upto next bound [] le each = le
past_upto next bound (id ∷ ids) le each = let a = each id (inl refl) in past_upto (max next (next_id id)) bound ids (let m : max next (next_id id) ≤ bound = grind arith in m) (λ x k. each x (inr k))

-- the oldest xmin is not past the next id
xmin_upto : (base : Counters) (h : List Event) → IsBase base → IsLegal base h → oldest_xmin base.next h ≤ next_given base.next h
xmin_upto base h is legal =
    let a : oldest_xmin base.next h ≤ snapshot_xmin base.next h = fold_min_start (snapshot_xmin base.next h) (map (λ s. s.xmin) (live_snaps base.next h)) in
    let b : snapshot_xmin base.next h ≤ snapshot_xmax base.next h = fold_min_start (snapshot_xmax base.next h) (running_tops h) in
    let c : snapshot_xmax base.next h ≤ next_given base.next h = new_past base h legal is.full (positive base.next is.full) in
    omega arith

pub announced_given : (start : Start) (lists : List (List Entry)) (oldest : ℕ) → EngineInvariant start lists → IsBase start.base → IsOldestAnnounced start lists oldest → oldest ≤ next_given start.base.next (history lists)
announced_given start lists oldest k is a =
    let h : List Event = history lists in
    ⊎_elim
    (λ (q : oldest ≡ start.base.oldest). let low = is.oldest in let up = nth_from start.base.next (length (given h)) in omega arith)
    (λ (z : (by : By) × Contains h (events.Oldest by oldest)).
    let p = has_place h (events.Oldest z.0 oldest) (contains_has h (events.Oldest z.0 oldest) z.1) in
    let rule : MayCome start.base (take p.0 h) (events.Oldest z.0 oldest) = k.events.legal.rules p.0 (events.Oldest z.0 oldest) p.1 in
    let le : oldest ≤ oldest_xmin start.base.next (take p.0 h) = rule.1 in
    let up = xmin_upto start.base (take p.0 h) is (legal_take start.base h p.0 k.events.legal) in
    let more = given_more start.base (take p.0 h) h (drop p.0 h, take-append-drop p.0 h) in omega arith)
    a

-- a record of the log
record_next : (start : Start) (lists : List (List Entry)) (by : By) (rec : Rec) (c : Counters) → EngineInvariant start lists → IsBase start.base → Has (at lists log_lock) (record { by = by; kind = kinds.Append rec })
    → c.next ≤ next_given start.base.next (history lists) → (after_record c rec).next ≤ next_given start.base.next (history lists)
record_next start lists by rec c k is here le =
    let h : List Event = history lists in
    let full : IsFullId (next_given start.base.next h) = nth_full start.base.next (length (given h)) is.full in
    let of_given : (id : ℕ) → Has (given h) id → next_id id ≤ next_given start.base.next h = λ id g. next_least id (next_given start.base.next h) full (given_below start.base h k.events.legal id g) in
    let named = upheld_has (NeedsNamed start) lists log_lock (record { by = by; kind = kinds.Append rec }) k.log.named here in
    let counters = upheld_has (NeedsCounters start) lists log_lock (record { by = by; kind = kinds.Append rec }) k.log.counters here in
    let step : (r : Rec) → rec ≡ r → (after_record c r).next ≤ next_given start.base.next h = elim [
      | records.Commit top subs ↦ λ q.
          let a : IsAppended lists by.session (records.Commit top subs) = (by, refl, has_contains (at lists log_lock) (record { by = by; kind = kinds.Append (records.Commit top subs) }) (subst (λ (z : Rec). Has (at lists log_lock) (record { by = by; kind = kinds.Append z })) q here)) in
          past_upto c.next (next_given start.base.next h) (top ∷ subs) le (λ id g. of_given id (given_to_given by.session h id (exact_given h by.session top subs id (k.records.exact by.session top subs a) (has_contains (top ∷ subs) id g))))
      | records.Abort top subs ↦ λ q.
          let n : NeedsNamed start lists log_lock named.0 (record { by = by; kind = kinds.Append (records.Abort top subs) }) = subst (λ (z : Rec). NeedsNamed start lists log_lock named.0 (record { by = by; kind = kinds.Append z })) q named.1 in
          past_upto c.next (next_given start.base.next h) (top ∷ subs) le (λ id g. of_given id (given_to_given by.session h id (contains_has _ _ (n id (has_contains (top ∷ subs) id g)))))
      | records.Multi multi offset members ↦ λ q.
          let n : NeedsNamed start lists log_lock named.0 (record { by = by; kind = kinds.Append (records.Multi multi offset members) }) = subst (λ (z : Rec). NeedsNamed start lists log_lock named.0 (record { by = by; kind = kinds.Append z })) q named.1 in
          past_upto c.next (next_given start.base.next h) (ids_of members) le (λ id g. next_least id (next_given start.base.next h) full (n.1 id (has_contains (ids_of members) id g)))
      | records.Checkpoint number other ↦ λ q.
          let n : NeedsCounters start lists log_lock counters.0 (record { by = by; kind = kinds.Append (records.Checkpoint number other) }) = subst (λ (z : Rec). NeedsCounters start lists log_lock counters.0 (record { by = by; kind = kinds.Append z })) q counters.1 in
          let a = n.1.next in let m : max c.next other.next ≤ next_given start.base.next h = grind arith in m
      | records.Truncate oldest multi offset ↦ λ q.
          let n : NeedsCounters start lists log_lock counters.0 (record { by = by; kind = kinds.Append (records.Truncate oldest multi offset) }) = subst (λ (z : Rec). NeedsCounters start lists log_lock counters.0 (record { by = by; kind = kinds.Append z })) q counters.1 in
          let a = announced_given start lists oldest k is n.1.0 in let m : max c.next oldest ≤ next_given start.base.next h = grind arith in m
    ] in
    step rec refl

pub next_given_all : NextGiven
next_given_all start lists k is = go (at lists log_lock) start.base (λ e here. here) (let up = nth_from start.base.next (length (given (history lists))) in omega arith)
  where
    go : (es : List Entry) (c : Counters) → ((e : Entry) → Has es e → Has (at lists log_lock) e) → c.next ≤ next_given start.base.next (history lists) → (after_records c (recs_in es)).next ≤ next_given start.base.next (history lists)
    go [] c among le = le
    go (e ∷ es) c among le =
        let rest : (e : Entry) → Has es e → Has (at lists log_lock) e = λ f here. among f (inr here) in
        let step : (o : Option (By × Rec)) → appended e ≡ o → (after_records c (map (λ r. r.1) (cons_option o (records_in es)))).next ≤ next_given start.base.next (history lists) = elim [
          | None ↦ λ q. go es c rest le
          | Some r ↦ λ q.
              let same : e ≡ record { by = r.0; kind = kinds.Append r.1 } = λ i. record { by = appended_by e.by e.kind r q i; kind = appended_is e.by e.kind r q i } in
              go es (after_record c r.1) rest (record_next start lists r.0 r.1 c k is (subst (λ (z : Entry). Has (at lists log_lock) z) same (among e (inl refl))) le)
        ] in
        step (appended e) refl
