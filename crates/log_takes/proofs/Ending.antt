-- What a session has open, in a record of its end.
use Rattle.std.proofs.Common.{Contains, List, [], arith, inl, inr, length, refl, subst, suc, sym, ℕ, ⊎_elim, ◌-◌, ◌^◌, ◌∷◌, ◌<◌, ◌≡◌, ◌≤◌}
use Rattle.std.specs.List.{AllByRecursion}
use Rattle.notes.specs.Lists.{at}
use Rattle.tx_events.specs.Ids.{IsFullId, next_id}
use Rattle.tx_events.specs.declared.event.Event.{Event}
use Rattle.tx_events.specs.declared.record.Counters.{Counters}
use Rattle.tx_events.specs.After.{past_ids}
use Rattle.tx_events.specs.Base.{IsBase}
use Rattle.tx_events.specs.Events.{given}
use Rattle.tx_events.specs.History.{IsLegal, next_given}
use Rattle.tx_events.specs.Horizon.{oldest_id}
use Rattle.tx_events.specs.IdLists.{Ascending}
use Rattle.tx_events.specs.Limits.{stop_limit}
use Rattle.tx_events.specs.Running.{open_ids}
use Rattle.tx_events.proofs.GivenIds.{given_push_cases, legal_front, legal_last, may_give, open_below, open_given}
use Rattle.tx_events.proofs.IdOrder.{next_least, nth_full}
use Rattle.tx_events.proofs.Membership.{Has, all_from, by_end, has_contains}
use Rattle.tx_core.specs.declared.entry.Entry.{Entry}
use Rattle.tx_core.specs.declared.entry.Start.{Start}
use Rattle.tx_core.specs.EngineInvariant.{EngineInvariant}
use Rattle.tx_core.specs.Entries.{history}
use Rattle.tx_core.specs.Locks.{log_lock}
use Rattle.tx_core.specs.RecordsFollow.{counters_after}
use Rattle.tx_core.proofs.OpenKept.{open_kept}
use Rattle.tx_core.proofs.StopLimits.{next_within, stop_below, stop_rises, stop_upto}
use Rattle.wal_records.specs.Spelling.{AscendsFrom, IsId, IsTree}
use Rattle.log_takes.specs.Takes.{EndsTaken}
use Rattle.log_takes.proofs.Counting.{log_base, past_above, past_full, past_upto}

-- each id that was given is a full one
given_full : (base : Counters) → IsFullId base.next → (h : List Event) → IsLegal base h → (x : ℕ) → Has (given h) x → IsFullId x
given_full base full = by_end (λ h. IsLegal base h → (x : ℕ) → Has (given h) x → IsFullId x)
    (λ legal x k. absurd k)
    (λ h e before legal x k.
    ⊎_elim
    (λ a. before (legal_front base h e legal) x a)
    (λ a. subst IsFullId (sym (may_give base h e x (legal_last base h e legal) a)) (nth_full base.next (length (given h)) full))
    (given_push_cases h e x k))

-- behind the record of ids of before their stop limit they are a base
ended_base : (c : Counters) (ids : List ℕ) → IsBase c → ((id : ℕ) → Has ids id → next_id id ≤ stop_limit c.oldest) → IsBase (record c { next = past_ids c.next ids })
ended_base c ids b within =
    let up = past_above c.next ids in
    let low = b.oldest in record {
      full = past_full c.next ids b.full;
      full_oldest = b.full_oldest;
      oldest = omega arith;
      next = past_upto c.next (stop_limit c.oldest) ids b.next within;
      oldest_multi = b.oldest_multi;
      multi = b.multi;
      oldest_offset = b.oldest_offset;
      offset = b.offset;
      none = b.none;
    }

-- ids that ascend between two numbers are no more than lie there
ascending_few : (xs : List ℕ) (low high : ℕ) → Ascending xs → AllByRecursion (λ x. low ≤ x) xs → AllByRecursion (λ x. x < high) xs → length xs ≤ high - low
ascending_few [] low high up from to = omega arith
ascending_few (x ∷ xs) low high up from to =
    let rest = ascending_few xs (suc x) high up.1 up.0 to.1 in
    let here = from.0 in let below = to.0 in omega arith

ascends : (last : ℕ) (xs : List ℕ) → AllByRecursion (λ y. last < y) xs → Ascending xs → AllByRecursion IsId xs → AscendsFrom last xs
ascends last [] above up ids = tt
ascends last (x ∷ xs) above up ids = (above.0, (ids.0, ascends x xs up.0 up.1 ids.1))

module _ (start : Start) (lists : List (List Entry)) (session top : ℕ) (subs : List ℕ) (k : EngineInvariant start lists) (is : IsBase start.base)
    (opened : open_ids session (history lists) ≡ top ∷ subs) (up : Ascending (top ∷ subs)) where
  abbrev limit : ℕ
  limit = stop_limit (oldest_id start.base.oldest (history lists))

  below : (id : ℕ) → Has (top ∷ subs) id → id < next_given start.base.next (history lists)
  below id here = open_below start.base (history lists) session id k.events.legal (subst (λ (l : List ℕ). Contains l id) (sym opened) (has_contains (top ∷ subs) id here))

  -- each id that a session has open, and the next one, is within the stop limit
  open_within : (id : ℕ) → Has (top ∷ subs) id → next_id id ≤ limit
  open_within id here =
      let full = nth_full start.base.next (length (given (history lists))) is.full in
      let least = next_least id (next_given start.base.next (history lists)) full (below id here) in
      let within = next_within start.base is (history lists) k.events.legal in omega arith

  is_id : (id : ℕ) → Has (top ∷ subs) id → IsId id
  is_id id here =
      let within = next_within start.base is (history lists) k.events.legal in
      let under = below id here in
      let stop : limit ≤ 2 ^ 63 - 1 = stop_upto (oldest_id start.base.oldest (history lists)) in
      (given_full start.base is.full (history lists) k.events.legal id (open_given session (history lists) id (subst (λ (l : List ℕ). Has l id) (sym opened) here)), omega arith)

  from : (id : ℕ) → Has (top ∷ subs) id → oldest_id start.base.oldest (history lists) ≤ id
  from id here = open_kept start lists session id k is (subst (λ (l : List ℕ). Contains l id) (sym opened) (has_contains (top ∷ subs) id here))

  -- so the record of what it has open is lawful
  open_tree : IsTree top subs
  open_tree =
      let within = next_within start.base is (history lists) k.events.legal in
      let tight = stop_below (oldest_id start.base.oldest (history lists)) in
      let few = ascending_few (top ∷ subs) (oldest_id start.base.oldest (history lists)) (next_given start.base.next (history lists)) up (all_from (λ x. oldest_id start.base.oldest (history lists) ≤ x) (top ∷ subs) from) (all_from (λ x. x < next_given start.base.next (history lists)) (top ∷ subs) below) in
      record {
        top = is_id top (inl refl);
        few = omega arith;
        subs = ascends top subs up.0 up.1 (all_from IsId subs (λ x here. is_id x (inr here)));
      }

-- so behind a truncation that told the announced oldest id the log can take it
pub ends_taken : EndsTaken
ends_taken start lists more session top subs k later is opened up told =
    let c : Counters = counters_after start (at more log_lock) in
    let tree : IsTree top subs = open_tree start lists session top subs k is opened up in
    let limit = stop_rises (oldest_id start.base.oldest (history lists)) c.oldest told in
    let base : IsBase (record c { next = past_ids c.next (top ∷ subs) }) =
    ended_base c (top ∷ subs) (log_base start more later is) (λ id here. let within = open_within start lists session top subs k is opened up id here in omega arith) in
    (record { lawful = tree; base = base }, record { lawful = tree; base = base })
