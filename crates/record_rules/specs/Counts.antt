-- How often counters of each value are there.
use Rattle.std.specs.Prelude.{◌≡◌, ℕ, ◌+◌, cond, unwrap_or}
use Rattle.std.specs.BTreeMap.{BTreeMap, get}
use Rattle.std.specs.Ordering.{nat_cmp, ordering_then}
use Rattle.std.specs.declared.cmp.Ordering.{Ordering}
use Rattle.tx_events.specs.declared.record.Counters.{Counters}
use Rattle.report_law.specs.Checkpoints.{same_counters}
use Rattle.record_rules.specs.declared.counts.CountersKey.{CountersKey}

abbrev pub key_of : Counters → CountersKey
key_of c = record { next = c.next; oldest = c.oldest; multi = c.multi; offset = c.offset; oldest_multi = c.oldest_multi; oldest_offset = c.oldest_offset }

abbrev pub counters_of : CountersKey → Counters
counters_of k = record { next = k.next; oldest = k.oldest; multi = k.multi; offset = k.offset; oldest_multi = k.oldest_multi; oldest_offset = k.oldest_offset }

abbrev pub key_cmp : CountersKey → CountersKey → Ordering
key_cmp a b =
    ordering_then (nat_cmp a.next b.next) (ordering_then (nat_cmp a.oldest b.oldest) (ordering_then (nat_cmp a.multi b.multi)
    (ordering_then (nat_cmp a.offset b.offset) (ordering_then (nat_cmp a.oldest_multi b.oldest_multi) (nat_cmp a.oldest_offset b.oldest_offset)))))

-- each value is counted as often as f says
abbrev pub AreCounted : (Counters → ℕ) → BTreeMap CountersKey ℕ → Type 0
AreCounted f counts = (k : CountersKey) → unwrap_or (get key_cmp counts k) 0 ≡ f (counters_of k)

-- one more of these
abbrev pub with_one : Counters → (Counters → ℕ) → Counters → ℕ
with_one x f c = f c + cond (same_counters x c) 1 0
