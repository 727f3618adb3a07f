-- Volumes without pages, and records that make no multixact.
use Rattle.std.specs.Prelude.{◌≡◌, ℕ, ◌^◌, ◌<◌, Bool, true, false, None}
use Rattle.disk_core.specs.Pages.{Pages}
use Rattle.tx_events.specs.declared.record.Rec.{Rec}
use Rattle.tx_events.specs.declared.record.Rec.TheVariants as records

-- a record that makes no multixact
abbrev pub makes_none : Rec → Bool
makes_none (records.Multi multi offset members) = false
makes_none _ = true

abbrev pub HasNoPages : Pages → Type 0
HasNoPages pages = (q : ℕ) → q < 2 ^ 32 → pages q ≡ None

-- an image stays
pub record IsSameImage (c d : Pages) : Type 0 where
  pub same : d ≡ c
