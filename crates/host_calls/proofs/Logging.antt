-- A log of which only bytes were read.
use Rattle.std.proofs.Common.{Box, Global, ◌≡◌, ℕ, ◌-◌, ◌≤◌, List, ◌++◌, IsTrue, drop, length, length-drop, min, refl, sym, take, ap, subst, ◌∙◌, arith}
use Rattle.std.proofs.lemmas.List.{length-take-le, take_at, take_min}
use Rattle.std.specs.Box.{with_value}
use Rattle.disk_core.specs.declared.log_disk.LogDisk as logs
use Rattle.disk_core.specs.declared.page_disk.PageDisk as disks
use Rattle.disk_core.specs.Faults.{HasRisen}
use Rattle.disk_core.specs.Volume.{IsRead}
use Rattle.notes.specs.Lists.{at}
use Rattle.wal_core.specs.Kept.{HasFlushed}
use Rattle.wal_core.specs.LogViews.{log_disk, log_first}
use Rattle.wal_core.specs.declared.wal_log.WalLog.{WalLog}
use Rattle.tx_core.specs.declared.entry.Entry.{Entry}
use Rattle.tx_core.specs.declared.entry.Start.{Start}
use Rattle.tx_core.specs.Entries.{recs_in}
use Rattle.tx_core.specs.Locks.{log_lock}
use Rattle.engine_parts.specs.declared.part.Part.TheVariants as parts
use Rattle.engine_parts.specs.Parts.{IsLogOf}
use Rattle.host_sections.proofs.LogSteps.{IsSameLog, log_same}
use Rattle.host_calls.specs.Shown.{AreLogBytes, HasFailed, ShowsLog}

module _ {D : Type 0} {g : logs.Ghosts D} where
  -- what was read is of the volume as it reads, which is what a crash may leave
  pub shows_log : (start : Start) (log : WalLog D g) (es : List Entry) (from count : ℕ) (old new : List ℕ) → IsLogOf start log es → IsTrue g.tells → g.images (log_disk log) (g.reads (log_disk log)) → IsRead (g.reads (log_disk log)).bytes from old count new → ShowsLog start es from old count new
  shows_log start log es from count old new s told image read =
      let k = s.kept told in record {
        volume = g.reads (log_disk log);
        holds = record {
          number = k.0;
          past = k.1;
          first = log_first log;
          opens = subst (λ z. HasFlushed k.0 (k.1 ++ recs_in es) (log_first log) z (g.reads (log_disk log))) s.flushed_is (k.2.each (g.reads (log_disk log)) image);
        };
        read = read;
      }

  -- its volume failed
  pub log_failed : {P : Type 0} (p : disks.Ghosts P) (start : Start) (lists : List (List Entry)) (held : Box (WalLog D g) Global) (old new : WalLog D g) → old ≡ held.value → IsSameLog old new → IsLogOf start held.value (at lists log_lock)
      → HasRisen (g.faults (log_disk old)) (g.faults (log_disk new)) → HasFailed g p start lists log_lock
  log_failed p start lists held old new is same s risen = record {
    before = parts.Log held;
    now = parts.Log (with_value held new);
    stood = (refl, s);
    stands = (refl, log_same start held.value new (at lists log_lock) (subst (λ (log : WalLog D g). IsSameLog log new) is same) s);
    risen = subst (λ (log : WalLog D g). HasRisen (g.faults (log_disk log)) (g.faults (log_disk new))) is risen;
  }

-- what stands in front of what was read into
read_piece : (bytes : List ℕ) (from size n : ℕ) (old new : List ℕ) → IsRead bytes from old n new → length old ≡ size → take n new ≡ take size (drop from bytes)
read_piece bytes from size n old new r sized =
    let left : List ℕ = drop from bytes in
    let rest : length left ≡ length bytes - from = length-drop from bytes in
    let count : n ≡ min size (length left) = r.count ∙ (λ i. min (sized i) (sym rest i)) in
    let low : n ≤ length left = omega (arith, count) in
    ap (λ (t : List ℕ). take n t) r.bytes_read
    ∙ take_at (take n left) (drop n old) n (length-take-le n left low)
    ∙ ap (λ (m : ℕ). take m left) count
    ∙ take_min size left

-- so the bytes that are kept of it
pub log_bytes : (start : Start) (es : List Entry) (from size n : ℕ) (old new bytes : List ℕ) → length old ≡ size → bytes ≡ take n new → ShowsLog start es from old n new → AreLogBytes start es from size bytes
log_bytes start es from size n old new bytes sized is s = record {
  volume = s.volume;
  holds = s.holds;
  piece = is ∙ read_piece s.volume.bytes from size n old new s.read sized;
}
