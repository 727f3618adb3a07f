-- While a bank puts its pages on disk, at each moment and behind it, a crash leaves of its volume what follows the list of
-- before: also where that fails. So in a life of few numbers, by the bank's course.
use Rattle.std.specs.Prelude.{ℕ, IsTrue, List}
use Rattle.disk_core.specs.declared.page_disk.PageDisk as disks
use Rattle.notes.specs.Lists.{at}
use Rattle.store_pages.specs.declared.page_rule.PageRule as rules
use Rattle.slru_bank.specs.declared.bank.SlruBank.{SlruBank}
use Rattle.slru_bank.specs.Calls.{CrashKeeps, volume_of}
use Rattle.tx_events.specs.Base.{IsBase}
use Rattle.tx_core.specs.declared.entry.Entry.{Entry}
use Rattle.tx_core.specs.declared.entry.Start.{Start}
use Rattle.tx_core.specs.EngineInvariant.{EngineInvariant}
use Rattle.tx_core.specs.Entries.{AreFewIds}
use Rattle.tx_core.specs.Locks.{members_lock, offsets_lock, xact_lock}
use Rattle.tx_core.specs.MultiEntries.{AreFewMultis}
use Rattle.recoverable.specs.Whole.{MembersLeft, OffsetsLeft, StatesLeft}
use Rattle.engine_parts.specs.BankCourse.{MembersCame, OffsetsCame}
use Rattle.engine_parts.specs.Course.{HasCourse}
use Rattle.bank_follows.specs.Moments.{Throughout}

module _ {P O : Type 0} (g : disks.Ghosts P) (r : rules.Ghosts O) where
  -- a bank of pg_xact, in a life of fewer than 2,900,000 ids
  abbrev pub StatesFlushed : Type 0
  StatesFlushed = (start : Start) (bank : ℕ) (lists : List (List Entry)) (found left : SlruBank P O g r) → IsTrue g.tells
      → EngineInvariant start lists → AreFewIds lists → HasCourse start bank found (at lists (xact_lock bank)) → CrashKeeps found left
      → Throughout g.images g.moment g.left_at (StatesLeft start bank (at lists (xact_lock bank))) (volume_of found) (volume_of left)

  -- one of offsets, and one of members, in one of fewer than 2,900,000 multixacts that began with counters from which one may
  -- start
  abbrev pub OffsetsFlushed : Type 0
  OffsetsFlushed = (start : Start) (bank : ℕ) (lists : List (List Entry)) (found left : SlruBank P O g r) → IsTrue g.tells
      → EngineInvariant start lists → IsBase start.base → AreFewMultis lists → OffsetsCame start bank found (at lists (offsets_lock bank)) → CrashKeeps found left
      → Throughout g.images g.moment g.left_at (OffsetsLeft start bank (at lists (offsets_lock bank))) (volume_of found) (volume_of left)

  abbrev pub MembersFlushed : Type 0
  MembersFlushed = (start : Start) (bank : ℕ) (lists : List (List Entry)) (found left : SlruBank P O g r) → IsTrue g.tells
      → EngineInvariant start lists → IsBase start.base → AreFewMultis lists → MembersCame start bank found (at lists (members_lock bank)) → CrashKeeps found left
      → Throughout g.images g.moment g.left_at (MembersLeft start bank (at lists (members_lock bank))) (volume_of found) (volume_of left)
