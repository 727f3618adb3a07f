-- What a recovery does to the pages of offsets and members: it clears what comes behind the log's first checkpoint, redoes
-- what the records name, and clears what comes next.
use Rattle.std.specs.Prelude.{◌≡◌, ◌⊎◌, ℕ, ◌^◌, ◌<◌, ◌≤◌, List, true, IsTrue, OnOk, Result, slice_index}
use Rattle.disk_core.specs.Pages.{Pages, page_bytes}
use Rattle.disk_core.specs.declared.page_disk.PageDisk as disks
use Rattle.tx_events.specs.PageOrder.{Multis, Offsets, Shape, page_precedes}
use Rattle.store_pages.specs.Layouts.{member_page_of, member_place_of, word_page_of, word_place_of}
use Rattle.store_pages.specs.declared.page_rule.PageRule as rules
use Rattle.slru_bank.specs.declared.bank.SlruBank.{SlruBank}
use Rattle.slru_bank.specs.declared.refusal.BankRefusal.{BankRefusal}
use Rattle.slru_bank.specs.Calls.{IsDurable, pages_of}
use Rattle.replay_multis.specs.Steps.{Changes, MayStand, StepsBank}

-- a byte of a page comes at or behind a place, on its page or on a page that comes after
abbrev pub IsBehind : Shape → ℕ → ℕ → ℕ → ℕ → ℕ → Type 0
IsBehind shape n page at q i = ((q ≡ page) × (at ≤ i)) ⊎ (page_precedes shape n page q ≡ true)

-- of the place of a multixact's offset, and of that of the id of an offset's member
abbrev pub IsPastMulti : ℕ → ℕ → ℕ → Type 0
IsPastMulti multi = IsBehind Multis 2048 (word_page_of multi) (word_place_of multi)

abbrev pub IsPastOffset : ℕ → ℕ → ℕ → Type 0
IsPastOffset offset = IsBehind Offsets 1636 (member_page_of offset) (member_place_of offset)

-- a byte is cleared behind such a place
abbrev pub IsCleared : (ℕ → ℕ → Type 0) → MayStand
IsCleared From q i b = (b ≡ 0) × From q i

-- a byte may come to be a named one, or 0 where it is cleared first or last
abbrev pub MayBecome : MayStand → (ℕ → ℕ → Type 0) → (ℕ → ℕ → Type 0) → MayStand
MayBecome Named From Past q i b = Named q i b ⊎ (IsCleared From q i b ⊎ IsCleared Past q i b)

-- All that is named and not past is there; from `From` on there is nothing else; all that is past is 0, and all else is as
-- it was.
pub record RestoresAll (Named : MayStand) (From Past : ℕ → ℕ → Type 0) (old new : ℕ → List ℕ) : Type 0 where
  pub each : Changes (MayBecome Named From Past) old new
  pub done : (q i b : ℕ) → q < 2 ^ 32 → Named q i b → (Past q i → ⊥) → Named q i (slice_index (new q) i)
  pub fresh : (q i : ℕ) → q < 2 ^ 32 → From q i → (slice_index (new q) i ≡ 0) ⊎ Named q i (slice_index (new q) i)
  pub cleared : (q i : ℕ) → q < 2 ^ 32 → Past q i → slice_index (new q) i ≡ 0

-- the bytes of a volume's pages, and that each image has them
abbrev pub bytes_on : {P : Type 0} → disks.Ghosts P → P → ℕ → List ℕ
bytes_on g disk q = page_bytes (g.pages disk q)

abbrev pub HasBytesOnDisk : {P : Type 0} → disks.Ghosts P → P → Type 0
HasBytesOnDisk g disk = (c : Pages) → g.images disk c → (q : ℕ) → page_bytes (c q) ≡ bytes_on g disk q

module _ {P O : Type 0} {g : disks.Ghosts P} {r : rules.Ghosts O} where
  -- The pages show that, and all of it is on the disk; or the volume failed on the way.
  pub record RestoresBank (Named : MayStand) (From Past : ℕ → ℕ → Type 0) (old new : SlruBank P O g r) (result : Result (Unit {0}) BankRefusal) : Type 0 where
    pub steps : StepsBank (MayBecome Named From Past) old new result
    pub shows : IsTrue g.tells → OnOk result (RestoresAll Named From Past (pages_of old) (pages_of new))
    pub durable : IsTrue g.tells → OnOk result (IsDurable new)
