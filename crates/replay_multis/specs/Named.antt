-- Which bytes of offsets and members the records of a log name.
use Rattle.std.specs.Prelude.{◌≡◌, ℕ, ◌+◌, ◌%◌, ◌^◌, ◌<◌, ◌≤◌, List, length, Contains, Some}
use Rattle.std.specs.List.{slice_get}
use Rattle.store_pages.specs.Layouts.{member_page_of, word_page_of, word_place_of}
use Rattle.tx_events.specs.declared.multi.Member.{Member}
use Rattle.tx_events.specs.declared.record.Rec.{Rec}
use Rattle.tx_events.specs.declared.record.Rec.TheVariants as records
use Rattle.tx_core.specs.StoredBytes.{byte_of, slot_bytes, slot_place_of}
use Rattle.replay_multis.specs.declared.share.Share.{Share}

-- the bytes of a multixact's offset
pub record IsWordByte (multi offset q i b : ℕ) : Type 0 where
  pub k : ℕ
  pub small : k < 4
  pub page : q ≡ word_page_of multi
  pub place : i ≡ word_place_of multi + k
  pub byte : b ≡ byte_of offset k

-- those of the offset of a multixact that one of these records names, from an oldest one on, on a page of the bank
pub record IsOffsetByte (share : Share) (oldest : ℕ) (recs : List Rec) (q i b : ℕ) : Type 0 where
  pub multi : ℕ
  pub offset : ℕ
  pub members : List Member
  pub among : Contains recs (records.Multi multi offset members)
  pub from : oldest ≤ multi
  pub on : word_page_of multi % share.banks ≡ share.bank
  pub word : IsWordByte multi offset q i b

-- the bytes of the slot of an offset
pub record IsSlotByte (offset : ℕ) (member : Member) (q i b : ℕ) : Type 0 where
  pub k : ℕ
  pub small : k < 5
  pub page : q ≡ member_page_of offset
  pub place : i ≡ slot_place_of offset k
  pub byte : b ≡ slot_bytes member k

-- those of the slots of members one behind the other, from an oldest offset on, on pages of the bank
pub record IsRunByte (share : Share) (low offset : ℕ) (members : List Member) (q i b : ℕ) : Type 0 where
  pub n : ℕ
  pub member : Member
  pub at : slice_get members n ≡ Some member
  pub from : low ≤ offset + n
  pub on : member_page_of (offset + n) % share.banks ≡ share.bank
  pub slot : IsSlotByte (offset + n) member q i b

-- those of the members of a multixact that one of these records names, from an oldest one on
pub record IsMemberByte (share : Share) (oldest low : ℕ) (recs : List Rec) (q i b : ℕ) : Type 0 where
  pub multi : ℕ
  pub offset : ℕ
  pub members : List Member
  pub among : Contains recs (records.Multi multi offset members)
  pub from : oldest ≤ multi
  pub run : IsRunByte share low offset members q i b

-- no multixact of the records is so far ahead that its place could be that of an older one
abbrev pub AreMultisNear : ℕ → List Rec → Type 0
AreMultisNear oldest recs = (multi offset : ℕ) (members : List Member) → Contains recs (records.Multi multi offset members) → multi + 2 ^ 15 < oldest + 2 ^ 31

-- no member's offset is at or past this one
abbrev pub AreMembersBelow : ℕ → List Rec → Type 0
AreMembersBelow next recs = (multi offset : ℕ) (members : List Member) → Contains recs (records.Multi multi offset members) → offset + length members ≤ next
