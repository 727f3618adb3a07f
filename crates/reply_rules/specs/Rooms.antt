-- What a log holds at a life's end.
use Rattle.std.specs.Prelude.{◌≡◌, ℕ, ◌+◌, ◌-◌, ◌*◌, ◌^◌, min, drop}
use Rattle.tx_events.specs.RecordSize.{records_size}
use Rattle.tx_model.specs.declared.report.Life.{Life}
use Rattle.reply_rules.specs.declared.room.Room.{Room}

-- the size of a record with a list, of more than 2^64 - 1 bytes this number
abbrev pub listed_size : ℕ → ℕ → ℕ → ℕ
listed_size head each count = min (head + each * count) (2 ^ 64 - 1)

-- where its gate stands, and the bytes of the records that aren't flushed
pub record IsRoomOf (life : Life) (r : Room) : Type 0 where
  pub end : r.end ≡ life.end
  pub waiting : r.waiting ≡ min (records_size (drop (life.flushed - life.from) life.recs)) (2 ^ 64 - 1)
