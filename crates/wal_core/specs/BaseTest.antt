-- The test for a base, as a value.
use Rattle.std.specs.Prelude.{◌&&◌, ◌||◌, ◌==◌, not, Bool, nat_le}
use Rattle.tx_events.specs.Ids.{low_half}
use Rattle.tx_events.specs.declared.record.Counters.{Counters}
use Rattle.tx_events.specs.Limits.{stop_limit, multi_stop_limit, member_stop}

unfoldable pub is_base_of : Counters → Bool
is_base_of c =
    nat_le 3 (low_half c.next) && (nat_le 3 (low_half c.oldest) && (nat_le c.oldest c.next && (nat_le c.next (stop_limit c.oldest)
    && (nat_le c.oldest_multi c.multi && (nat_le c.multi (multi_stop_limit c.oldest_multi)
    && (nat_le c.oldest_offset c.offset && (nat_le c.offset (member_stop c.oldest_offset)
    && (not (c.oldest_multi == c.multi) || (c.oldest_offset == c.offset)))))))))
