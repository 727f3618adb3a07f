-- What a read of a record gives.
use Rattle.std.specs.Prelude.{◌≡◌, ℕ, ◌≤◌, List, length, take}
use Rattle.wal_records.specs.Spelling.{rec_bytes, IsLawful}
use Rattle.wal_records.specs.declared.reading.ReadRec.{ReadRec}

-- the bytes begin with this lawful record
pub record IsRecordAt (bytes : List ℕ) (r : ReadRec) : Type 0 where
  pub lawful : IsLawful r.rec
  pub within : r.length ≤ length bytes
  pub spelled : take r.length bytes ≡ rec_bytes r.rec
