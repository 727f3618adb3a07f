-- Lawful records, as a test.
use Rattle.std.specs.Prelude.{ℕ, ◌^◌, ◌&&◌, Bool, true, List, [], ◌∷◌, length, nat_le, nat_lt}
use Rattle.tx_events.specs.Ids.{low_half}
use Rattle.tx_events.specs.declared.record.Rec.{Rec}
use Rattle.tx_events.specs.declared.record.Rec.TheVariants as records
use Rattle.tx_events.specs.declared.multi.Member.{Member}

abbrev pub is_id : ℕ → Bool
is_id n = nat_le 3 (low_half n) && nat_lt n (2 ^ 64)

abbrev pub is_multi : ℕ → Bool
is_multi n = nat_le 1 (low_half n) && nat_lt n (2 ^ 64)

abbrev pub ascend_from : ℕ → List ℕ → Bool
ascend_from last [] = true
ascend_from last (x ∷ xs) = nat_lt last x && (is_id x && ascend_from x xs)

abbrev pub all_ids : List Member → Bool
all_ids [] = true
all_ids (m ∷ ms) = is_id m.id && all_ids ms

abbrev pub is_lawful : Rec → Bool
is_lawful (records.Commit top subs) = is_id top && (nat_lt (length subs) (2 ^ 32) && ascend_from top subs)
is_lawful (records.Abort top subs) = is_id top && (nat_lt (length subs) (2 ^ 32) && ascend_from top subs)
is_lawful (records.Multi multi offset members) = is_multi multi && (nat_lt offset (2 ^ 64) && (nat_le 1 (length members) && (nat_le (length members) 64 && all_ids members)))
is_lawful (records.Checkpoint number c) =
    nat_lt number (2 ^ 64) && (is_id c.next && (is_id c.oldest && (is_multi c.multi && (nat_lt c.offset (2 ^ 64) && (is_multi c.oldest_multi && nat_lt c.oldest_offset (2 ^ 64))))))
is_lawful (records.Truncate oldest multi offset) = is_id oldest && (is_multi multi && nat_lt offset (2 ^ 64))

abbrev pub are_lawful : List Rec → Bool
are_lawful [] = true
are_lawful (r ∷ recs) = is_lawful r && are_lawful recs
