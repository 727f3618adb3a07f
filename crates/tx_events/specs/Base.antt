-- Which counters a life may start from.
use Rattle.std.specs.Prelude.{◌≡◌, ◌≤◌}
use Rattle.tx_events.specs.Ids.{IsFullId}
use Rattle.tx_events.specs.declared.record.Counters.{Counters}
use Rattle.tx_events.specs.Limits.{stop_limit, multi_stop_limit, member_stop}

-- each oldest number is at most the next one, which is at most its stop limit; without a multixact there is no member
pub record IsBase (c : Counters) : Type 0 where
  pub full : IsFullId c.next
  pub full_oldest : IsFullId c.oldest
  pub oldest : c.oldest ≤ c.next
  pub next : c.next ≤ stop_limit c.oldest
  pub oldest_multi : c.oldest_multi ≤ c.multi
  pub multi : c.multi ≤ multi_stop_limit c.oldest_multi
  pub oldest_offset : c.oldest_offset ≤ c.offset
  pub offset : c.offset ≤ member_stop c.oldest_offset
  pub none : c.oldest_multi ≡ c.multi → c.oldest_offset ≡ c.offset

-- the counters of a new log
unfoldable pub first_base : Counters
first_base = record { next = 3; oldest = 3; multi = 1; offset = 1; oldest_multi = 1; oldest_offset = 1 }
