-- A log of which more records are known, that stood before.
use Rattle.std.proofs.Common.{Err, List, None, Ok, Option, Result, Some, ap, arith, length, length-append, sym, append_assoc, ℕ, ◌+◌, ◌++◌, ◌<◌, ◌∙◌, ◌≡◌}
use Rattle.disk_core.specs.Volume.{Volume}
use Rattle.tx_events.specs.declared.record.Rec.{Rec}
use Rattle.wal_core.specs.Kept.{HasRecords, IsStretch, KeepsRecords, OpensToRecords}
use Rattle.wal_core.specs.Opening.{History, Opened, opened}

module _ (front all : List Rec) (low first : ℕ) (place : low + length front ≡ first) where
  stretch_before : (number : ℕ) (recs : List Rec) → IsStretch first all number recs → IsStretch low (front ++ all) number recs
  stretch_before number recs s = record {
    before = front ++ s.before;
    after = s.after;
    split = ap (λ (t : List Rec). front ++ t) s.split ∙ sym (append_assoc front s.before (recs ++ s.after));
    place = let long = length-append front s.before in let at = s.place in omega (arith, long, at, place);
  }

  module _ (kept flushed : ℕ) (past : first < flushed) where
    history_before : (o : Option History) → HasRecords first all kept flushed o → HasRecords low (front ++ all) kept flushed o
    history_before None k = absurd (let a = k.0 in omega (arith, a, past))
    history_before (Some h) k = (stretch_before h.first h.recs k.0, k.1)

    opens_before : (r : Result Opened ℕ) → OpensToRecords first all kept flushed r → OpensToRecords low (front ++ all) kept flushed r
    opens_before (Ok o) k = history_before o.history k
    opens_before (Err at) k = absurd k

    -- what the log keeps it keeps behind these, too
    pub keeps_before : (recs : List Rec) (next : ℕ) (images : Volume → Type 0) → KeepsRecords first all recs next kept flushed images → KeepsRecords low (front ++ all) recs next kept flushed images
    keeps_before recs next images k = record {
      earlier = front ++ k.earlier;
      whole = ap (λ (t : List Rec). front ++ t) k.whole ∙ sym (append_assoc front k.earlier recs);
      count = let long = length-append front all in let at = k.count in omega (arith, long, at, place);
      each = λ c image. let has = k.each c image in record { opens = opens_before (opened c) has.opens; ends = has.ends };
      other = k.other;
      begins = k.begins;
      settled = k.settled;
    }
