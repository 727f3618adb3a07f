-- What recovery needs of the pages of offsets and members.
use Rattle.std.specs.Prelude.{◌≡◌, ℕ, ◌+◌, ◌%◌, ◌<◌, ◌≤◌, List, length, Some, Contains}
use Rattle.std.specs.List.{slice_get}
use Rattle.tx_events.specs.Ids.{IsFullMulti, low_half}
use Rattle.store_pages.specs.Layouts.{number_in, word_page_of, word_place_of, member_page_of, member_place_of}
use Rattle.disk_core.specs.Pages.{Pages, page_bytes}
use Rattle.tx_events.specs.declared.multi.Member.{Member}
use Rattle.tx_events.specs.declared.record.Rec.{Rec}
use Rattle.tx_events.specs.declared.record.Rec.TheVariants as records
use Rattle.recoverable.specs.Bytes.{ImageHasZeroTails, byte_of, offset_byte, slot_byte, slot_bytes}
use Rattle.recoverable.specs.Fit.{KeptLog, base_at, log_end}

-- the stored offset of a multixact, 0 for none
abbrev pub offset_at : Pages → ℕ → ℕ
offset_at c multi = number_in (page_bytes (c (word_page_of multi))) (word_place_of multi)

-- the stored id at an offset, 0 for none
abbrev pub member_at : Pages → ℕ → ℕ
member_at c offset = number_in (page_bytes (c (member_page_of offset))) (member_place_of offset)

-- Each recorded multixact from an oldest one on has its offset, and its members: each byte of a number by itself, since
-- nothing else says that a place holds bytes.
abbrev pub ShowsOffsets : ℕ → ℕ → List Rec → ℕ → Pages → Type 0
ShowsOffsets banks bank recorded oldest c = (multi offset : ℕ) (members : List Member) → Contains recorded (records.Multi multi offset members) → oldest ≤ multi → word_page_of multi % banks ≡ bank
    → (i : ℕ) → i < 4 → offset_byte c multi i ≡ byte_of offset i

abbrev pub ShowsMembers : ℕ → ℕ → List Rec → ℕ → Pages → Type 0
ShowsMembers banks bank recorded oldest c = (multi offset k : ℕ) (members : List Member) (member : Member) → Contains recorded (records.Multi multi offset members) → oldest ≤ multi
    → slice_get members k ≡ Some member → member_page_of (offset + k) % banks ≡ bank → (i : ℕ) → i < 5 → slot_byte c (offset + k) i ≡ slot_bytes member i

-- a multixact of a base that isn't recorded has no offset
abbrev pub ShowsNoOffset : ℕ → ℕ → List Rec → ℕ → ℕ → Pages → Type 0
ShowsNoOffset banks bank recorded oldest next c = (multi : ℕ) → IsFullMulti multi → oldest ≤ multi → multi < next → ((offset : ℕ) (members : List Member) → Contains recorded (records.Multi multi offset members) → ⊥) → word_page_of multi % banks ≡ bank → offset_at c multi ≡ 0

-- no member shows at an offset of low half 0 right behind the members of a recorded one
abbrev pub ShowsNoGap : ℕ → ℕ → List Rec → ℕ → Pages → Type 0
ShowsNoGap banks bank recorded oldest c = (multi offset : ℕ) (members : List Member) → Contains recorded (records.Multi multi offset members) → oldest ≤ multi
    → low_half (offset + length members) ≡ 0 → member_page_of (offset + length members) % banks ≡ bank → member_at c (offset + length members) ≡ 0

-- What a crash left of a bank of offsets, and of members, fits a log that begins at record n, a checkpoint: its counters are
-- those after it.
pub record OffsetsFit (banks bank : ℕ) (log : KeptLog) (n : ℕ) (c : Pages) : Type 0 where
  pub recorded : ShowsOffsets banks bank (base_at log n).recorded (base_at log log.flushed).counters.oldest_multi c
  pub no_other : ShowsNoOffset banks bank (base_at log log.flushed).recorded (base_at log log.flushed).counters.oldest_multi (base_at log (n + 1)).counters.multi c

pub record MembersFit (banks bank : ℕ) (log : KeptLog) (n : ℕ) (c : Pages) : Type 0 where
  pub recorded : ShowsMembers banks bank (base_at log n).recorded (base_at log log.flushed).counters.oldest_multi c
  pub no_gap : ShowsNoGap banks bank (base_at log (log_end log)).recorded (base_at log log.flushed).counters.oldest_multi c
  pub tails : ImageHasZeroTails c
