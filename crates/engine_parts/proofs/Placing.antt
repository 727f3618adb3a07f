-- What lies behind the lock of a bank.
use Rattle.std.proofs.Common.{◌≡◌, ℕ, ◌+◌, ◌*◌, List, refl, arith}
use Rattle.disk_core.specs.declared.log_disk.LogDisk as logs
use Rattle.disk_core.specs.declared.page_disk.PageDisk as disks
use Rattle.tx_core.specs.declared.entry.Entry.{Entry}
use Rattle.tx_core.specs.declared.entry.Start.{Start}
use Rattle.tx_core.specs.Locks.{members_lock, offsets_lock, subtrans_lock, xact_lock}
use Rattle.engine_parts.specs.declared.part.Part.{Part}
use Rattle.engine_parts.specs.declared.part.Part.TheVariants as parts
use Rattle.engine_parts.specs.Parts.{PartStands}

module _ {L P : Type 0} {l : logs.Ghosts L} {p : disks.Ghosts P} where
  -- a bank of pg_xact
  pub is_xact : (start : Start) (bank : ℕ) (part : Part L P l p) (es : List Entry) → PartStands start (xact_lock bank) part es → ((x : _) → part ≡ parts.Xact x → ⊥) → ⊥
  is_xact start bank (parts.Log log) es s other = let e : 3 + 4 * bank ≡ 0 = s.0 in omega arith
  is_xact start bank (parts.Proc table) es s other = let e : 3 + 4 * bank ≡ 1 = s.0 in omega arith
  is_xact start bank (parts.Multi gen) es s other = let e : 3 + 4 * bank ≡ 2 = s.0 in omega arith
  is_xact start bank (parts.Xact store) es s other = other store refl
  is_xact start bank (parts.Subtrans store) es s other = let e : 3 + 4 * bank ≡ 4 + 4 * s.0 = s.1 in omega arith
  is_xact start bank (parts.Offsets store) es s other = let e : 3 + 4 * bank ≡ 5 + 4 * s.0 = s.1 in omega arith
  is_xact start bank (parts.Members store) es s other = let e : 3 + 4 * bank ≡ 6 + 4 * s.0 = s.1 in omega arith

  -- a bank of pg_subtrans
  pub is_subtrans : (start : Start) (bank : ℕ) (part : Part L P l p) (es : List Entry) → PartStands start (subtrans_lock bank) part es → ((x : _) → part ≡ parts.Subtrans x → ⊥) → ⊥
  is_subtrans start bank (parts.Log log) es s other = let e : 4 + 4 * bank ≡ 0 = s.0 in omega arith
  is_subtrans start bank (parts.Proc table) es s other = let e : 4 + 4 * bank ≡ 1 = s.0 in omega arith
  is_subtrans start bank (parts.Multi gen) es s other = let e : 4 + 4 * bank ≡ 2 = s.0 in omega arith
  is_subtrans start bank (parts.Xact store) es s other = let e : 4 + 4 * bank ≡ 3 + 4 * s.0 = s.1 in omega arith
  is_subtrans start bank (parts.Subtrans store) es s other = other store refl
  is_subtrans start bank (parts.Offsets store) es s other = let e : 4 + 4 * bank ≡ 5 + 4 * s.0 = s.1 in omega arith
  is_subtrans start bank (parts.Members store) es s other = let e : 4 + 4 * bank ≡ 6 + 4 * s.0 = s.1 in omega arith

  -- a bank of offsets
  pub is_offsets : (start : Start) (bank : ℕ) (part : Part L P l p) (es : List Entry) → PartStands start (offsets_lock bank) part es → ((x : _) → part ≡ parts.Offsets x → ⊥) → ⊥
  is_offsets start bank (parts.Log log) es s other = let e : 5 + 4 * bank ≡ 0 = s.0 in omega arith
  is_offsets start bank (parts.Proc table) es s other = let e : 5 + 4 * bank ≡ 1 = s.0 in omega arith
  is_offsets start bank (parts.Multi gen) es s other = let e : 5 + 4 * bank ≡ 2 = s.0 in omega arith
  is_offsets start bank (parts.Xact store) es s other = let e : 5 + 4 * bank ≡ 3 + 4 * s.0 = s.1 in omega arith
  is_offsets start bank (parts.Subtrans store) es s other = let e : 5 + 4 * bank ≡ 4 + 4 * s.0 = s.1 in omega arith
  is_offsets start bank (parts.Offsets store) es s other = other store refl
  is_offsets start bank (parts.Members store) es s other = let e : 5 + 4 * bank ≡ 6 + 4 * s.0 = s.1 in omega arith

  -- a bank of members
  pub is_members : (start : Start) (bank : ℕ) (part : Part L P l p) (es : List Entry) → PartStands start (members_lock bank) part es → ((x : _) → part ≡ parts.Members x → ⊥) → ⊥
  is_members start bank (parts.Log log) es s other = let e : 6 + 4 * bank ≡ 0 = s.0 in omega arith
  is_members start bank (parts.Proc table) es s other = let e : 6 + 4 * bank ≡ 1 = s.0 in omega arith
  is_members start bank (parts.Multi gen) es s other = let e : 6 + 4 * bank ≡ 2 = s.0 in omega arith
  is_members start bank (parts.Xact store) es s other = let e : 6 + 4 * bank ≡ 3 + 4 * s.0 = s.1 in omega arith
  is_members start bank (parts.Subtrans store) es s other = let e : 6 + 4 * bank ≡ 4 + 4 * s.0 = s.1 in omega arith
  is_members start bank (parts.Offsets store) es s other = let e : 6 + 4 * bank ≡ 5 + 4 * s.0 = s.1 in omega arith
  is_members start bank (parts.Members store) es s other = other store refl
