-- The counters that records give, taken in order: each is only raised.
use Rattle.std.specs.Prelude.{ℕ, ◌+◌, max, List, [], ◌∷◌, length, map}
use Rattle.std.specs.List.{fold}
use Rattle.tx_events.specs.Ids.{next_id, next_multi}
use Rattle.tx_events.specs.declared.record.Counters.{Counters}
use Rattle.tx_events.specs.declared.multi.Member.{Member}
use Rattle.tx_events.specs.declared.record.Rec.{Rec}
use Rattle.tx_events.specs.declared.record.Rec.TheVariants as records

-- past every one of these ids
abbrev pub past_ids : ℕ → List ℕ → ℕ
past_ids next [] = next
past_ids next (id ∷ ids) = past_ids (max next (next_id id)) ids

abbrev pub ids_of : List Member → List ℕ
ids_of members = map (λ m. m.id) members

-- the counters after one record more
abbrev pub after_record : Counters → Rec → Counters
after_record c (records.Commit top subs) = record c { next = past_ids c.next (top ∷ subs) }
after_record c (records.Abort top subs) = record c { next = past_ids c.next (top ∷ subs) }
after_record c (records.Multi multi offset members) = record c {
  next = past_ids c.next (ids_of members);
  multi = max c.multi (next_multi multi);
  offset = max c.offset (offset + length members);
}
after_record c (records.Checkpoint number n) = record {
  next = max c.next n.next;
  oldest = max c.oldest n.oldest;
  multi = max c.multi n.multi;
  offset = max c.offset n.offset;
  oldest_multi = max c.oldest_multi n.oldest_multi;
  oldest_offset = max c.oldest_offset n.oldest_offset;
}
after_record c (records.Truncate oldest multi offset) = record {
  next = max c.next oldest;
  oldest = max c.oldest oldest;
  multi = max c.multi multi;
  offset = max c.offset offset;
  oldest_multi = max c.oldest_multi multi;
  oldest_offset = max c.oldest_offset offset;
}

abbrev pub after_records : Counters → List Rec → Counters
after_records c recs = fold after_record c recs
