-- What the log's counters tell of multixacts, against one that was announced.
use Rattle.std.proofs.Common.{List, arith, inl, inr, length, max, subst, ℕ, ⊎_elim, ◌+◌, ◌<◌, ◌≡◌, ◌≤◌, ◌⊎◌}
use Rattle.notes.specs.Lists.{at}
use Rattle.tx_events.specs.Ids.{next_multi}
use Rattle.tx_events.specs.declared.event.By.{By}
use Rattle.tx_events.specs.declared.multi.MultiEvent.TheVariants as multis
use Rattle.tx_events.specs.declared.record.Counters.{Counters}
use Rattle.tx_events.specs.declared.record.Rec.{Rec}
use Rattle.tx_events.specs.declared.record.Rec.TheVariants as records
use Rattle.tx_events.specs.After.{after_record}
use Rattle.tx_events.specs.Base.{IsBase}
use Rattle.tx_events.proofs.ListSteps.{le_or_over}
use Rattle.tx_events.proofs.Membership.{contains_has}
use Rattle.tx_core.specs.declared.entry.Entry.{Entry}
use Rattle.tx_core.specs.declared.entry.Kind.TheVariants as kinds
use Rattle.tx_core.specs.declared.entry.Start.{Start}
use Rattle.tx_core.specs.EngineInvariant.{EngineInvariant}
use Rattle.tx_core.specs.Locks.{log_lock}
use Rattle.tx_core.specs.MultiEntries.{multi_history}
use Rattle.tx_core.specs.RecordsFollow.{AppendOf, IsMultiAnnounced, IsMultiAt, NamedOf, counters_after}
use Rattle.tx_core.proofs.Rising.{multi_above}
use Rattle.log_takes.proofs.Announced.{Divides, free_under}
use Rattle.log_takes.proofs.Counting.{at_least, by_records, max_one}

most : (a b n : ℕ) → a ≤ n → b ≤ n → max a b ≤ n
most a b n low up = max_one (λ z. z ≤ n) a b low up

module _ (start : Start) (lists : List (List Entry)) (k : EngineInvariant start lists) (is : IsBase start.base) where
  -- the oldest multixact that they tell was announced, with an offset that isn't past the one that they tell
  abbrev TellsOldest : Counters → Type 0
  TellsOldest c = (offset : ℕ) × IsMultiAnnounced start lists c.oldest_multi offset × (offset ≤ c.oldest_offset)

  further : (c : Counters) (multi offset : ℕ) → TellsOldest c → IsMultiAnnounced start lists multi offset → (x : ℕ) × IsMultiAnnounced start lists (max c.oldest_multi multi) x × (x ≤ max c.oldest_offset offset)
  further c multi offset old a =
      let both = at_least c.oldest_offset offset in
      let low = both.0 in
      let under = old.2 in
      ⊎_elim
      (λ (up : c.oldest_multi ≤ multi). let e : multi ≡ max c.oldest_multi multi = omega arith in (offset, subst (λ z. IsMultiAnnounced start lists z offset) e a, both.1))
      (λ (down : multi < c.oldest_multi). let e : c.oldest_multi ≡ max c.oldest_multi multi = omega arith in (old.0, subst (λ z. IsMultiAnnounced start lists z old.0) e old.1, omega arith))
      (le_or_over c.oldest_multi multi)

  pub tells_oldest : TellsOldest (counters_after start (at lists log_lock))
  tells_oldest = by_records start lists k TellsOldest (start.base.oldest_offset, inl (λ j. start.base.oldest_multi, λ j. start.base.oldest_offset), omega arith) step
    where
      step : (before : List Entry) (by : By) (rec : Rec) → TellsOldest (counters_after start before) → AppendOf start lists before (kinds.Append rec) → NamedOf start lists by (kinds.Append rec) → TellsOldest (after_record (counters_after start before) rec)
      step before by (records.Commit top subs) old need named = old
      step before by (records.Abort top subs) old need named = old
      step before by (records.Multi multi offset members) old need named = old
      step before by (records.Checkpoint number other) old need named = further (counters_after start before) other.oldest_multi other.oldest_offset old need.1.oldest_multi
      step before by (records.Truncate oldest multi offset) old need named = further (counters_after start before) multi offset old need.1.1

  -- Where the next multixact that they tell isn't past an announced one, neither is their free offset past its offset; or
  -- they tell that one as the oldest.
  module _ (multi offset : ℕ) (d : Divides start lists k is multi offset) where
    abbrev Precedes : Counters → Type 0
    Precedes c = c.multi ≤ multi → (c.offset ≤ offset) ⊎ (c.oldest_multi ≡ multi)

    -- the counters that a record names: a next multixact and offset, an oldest one
    joins : (c : Counters) (next free oldest : ℕ) → Precedes c → (max c.multi next ≤ multi → max c.oldest_multi oldest ≤ multi)
        → (next ≤ multi → (free ≤ offset) ⊎ ((free ≡ c.offset) ⊎ (oldest ≡ multi)))
        → max c.multi next ≤ multi → (max c.offset free ≤ offset) ⊎ (max c.oldest_multi oldest ≡ multi)
    joins c next free oldest old low named under =
        let both = at_least c.multi next in
        let a = both.0 in
        let b = both.1 in
        let tops = at_least c.oldest_multi oldest in
        let s = tops.0 in
        let t = tops.1 in
        let top = low under in
        ⊎_elim
        (λ (free_c : c.offset ≤ offset).
        ⊎_elim
        (λ (f : free ≤ offset). inl (most c.offset free offset free_c f))
        (λ r. ⊎_elim
        (λ (same : free ≡ c.offset). inl (most c.offset free offset free_c (omega arith)))
        (λ (same : oldest ≡ multi). inr (omega arith))
        r)
        (named (omega arith)))
        (λ (same : c.oldest_multi ≡ multi). inr (omega arith))
        (old (omega arith))

    pub precedes : Precedes (counters_after start (at lists log_lock))
    precedes = by_records start lists k Precedes (λ from. inl (d.first from)) step
      where
        step : (before : List Entry) (by : By) (rec : Rec) → Precedes (counters_after start before) → AppendOf start lists before (kinds.Append rec) → NamedOf start lists by (kinds.Append rec) → Precedes (after_record (counters_after start before) rec)
        step before by (records.Commit top subs) old need named = old
        step before by (records.Abort top subs) old need named = old
        step before by (records.Multi n y ns) old need named =
            λ (under : max (counters_after start before).multi (next_multi n) ≤ multi).
            let c : Counters = counters_after start before in
            let both = at_least c.multi (next_multi n) in
            let a = both.0 in
            let b = both.1 in
            let above = multi_above n in
            let gen = named.0 in
            let end = d.ends gen.0 n y ns (contains_has (multi_history lists) (multis.Gen gen.0 n y ns) gen.2) (omega arith) in
            ⊎_elim
            (λ (free : c.offset ≤ offset). inl (most c.offset (y + length ns) offset free end))
            (λ (same : c.oldest_multi ≡ multi). inr same)
            (old (omega arith))
        step before by (records.Checkpoint number other) old need named =
            let c : Counters = counters_after start before in
            let oldest : max c.oldest_multi other.oldest_multi ≤ max c.multi other.multi = need.0.oldest_multi in
            joins c other.multi other.offset other.oldest_multi old (λ under. omega arith)
            (λ under. ⊎_elim
            (λ (q : (other.multi ≡ c.multi) × (other.offset ≡ c.offset)). inr (inl q.1))
            (λ (q : IsMultiAt start lists other.multi other.offset).
            let next = q.2 in
            let free = q.3 in
            let f = free_under start lists k is multi offset d q.0 (omega arith) in inl (omega arith))
            need.1.multi)
        step before by (records.Truncate oldest n y) old need named =
            let c : Counters = counters_after start before in
            let top : max c.oldest_multi n ≤ max c.multi n = need.0.oldest_multi in
            joins c n y n old (λ under. omega arith)
            (λ under. ⊎_elim
            (λ (same : multi ≤ n). inr (inr (omega arith)))
            (λ (less : n < multi). inl (d.raised n y need.1.1 less))
            (le_or_over multi n))
