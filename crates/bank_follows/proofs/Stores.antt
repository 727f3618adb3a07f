-- The four stores.
use Rattle.std.proofs.Common.{Option, arith, refl, suc, zero, ℕ, ◌%◌, ◌≡◌}
use Rattle.tx_core.specs.declared.entry.Start.{Start}
use Rattle.tx_core.specs.declared.entry.State.{State}
use Rattle.store_pages.specs.Layouts.{bits_at, xact_place_of}
use Rattle.recoverable.specs.Bytes.{StoredBytes, byte_of}
use Rattle.bank_follows.specs.Laws.{ImagesFollow, MembersKeep, OffsetsKeep, ParentsKeep, XactKeeps}
use Rattle.bank_follows.specs.Stores.{IsMemberAt, IsOffsetAt, IsParentAt, IsXactAt, member_cells, offset_cells, parent_cells, xact_cells}
use Rattle.bank_follows.proofs.Calls.{IsStore, keeps_calls}

no_bits : (k : ℕ) → bits_at 0 k ≡ 0
no_bits zero = refl
no_bits (suc k) = no_bits k

no_byte : (i : ℕ) → 0 ≡ byte_of 0 i
no_byte i = grind arith

pub xact_is : (start : Start) (shown : ℕ → Option State) → IsStore (xact_cells start shown)
xact_is start shown = record { zero = λ x. no_bits (xact_place_of x % 4); none = λ i lt. refl }

pub parents_are : (start : Start) → IsStore (parent_cells start)
parents_are start = record { zero = λ x. refl; none = λ i lt. no_byte i }

pub offsets_are : (start : Start) (shown : ℕ → Option StoredBytes) → IsStore (offset_cells start shown)
offsets_are start shown = record { zero = λ x. refl; none = λ i lt. refl }

pub members_are : (start : Start) (shown : ℕ → Option StoredBytes) → IsStore (member_cells start shown)
members_are start shown = record { zero = λ x. refl; none = λ i lt. refl }

pub xact_keeps : XactKeeps
xact_keeps start shown bank = keeps_calls (xact_cells start shown) (IsXactAt start bank) (xact_is start shown)

pub parents_keep : ParentsKeep
parents_keep start bank = keeps_calls (parent_cells start) (IsParentAt start bank) (parents_are start)

pub offsets_keep : OffsetsKeep
offsets_keep start shown bank = keeps_calls (offset_cells start shown) (IsOffsetAt start bank) (offsets_are start shown)

pub members_keep : MembersKeep
members_keep start shown bank = keeps_calls (member_cells start shown) (IsMemberAt start bank) (members_are start shown)

pub images_follow : ImagesFollow
images_follow start bank es c = (
  λ shown shows x near on. shows x 0 (record { near = near; on = on }) (omega arith),
  λ shown shows x i near on lt. shows x i (record { near = near; on = on }) lt,
  λ shown shows x near on i lt. shows x i (record { near = near; on = on }) lt,
)
