-- A life that goes on from what a recovery leaves begins clean: the pages show its base.
use Rattle.std.specs.Prelude.{◌≡◌, ℕ, ◌+◌, ◌<◌, ◌≤◌, List, [], IsTrue}
use Rattle.notes.specs.Lists.{at}
use Rattle.tx_core.specs.declared.entry.Entry.{Entry}
use Rattle.tx_events.specs.Ids.{IsFullMulti}
use Rattle.disk_core.specs.Pages.{Pages, page_bytes}
use Rattle.tx_core.specs.declared.entry.Start.{Start}
use Rattle.recoverable.specs.Fit.{KeptLog}
use Rattle.recoverable.specs.Laws.{LogFollows, life_base}
use Rattle.recoverable.specs.Volumes.{EndsSettled, ImageFits, Left, ListFits, Restored}
use Rattle.recoverable.specs.Whole.{BeganClean, LeftFollows, Shown}
use Rattle.bank_follows.specs.Begins.{members_on, offsets_on, states_on}

-- the bytes of each bank's pages
abbrev pub pages_of : (ℕ → Pages) → ℕ → ℕ → List ℕ
pages_of banks bank q = page_bytes (banks bank q)

-- what the pages of these images show
abbrev pub shown_on : ℕ → Left → Shown
shown_on banks left = record {
  xact = states_on banks (pages_of left.xact);
  offsets = offsets_on banks (pages_of left.offsets);
  members = members_on banks (pages_of left.members);
}

-- a life goes on from this record of a log that a recovery left
pub record GoesOn (start : Start) (log : KeptLog) (from : ℕ) : Type 0 where
  pub some : 1 ≤ start.banks
  pub told : IsTrue start.told
  pub full : IsFullMulti start.base.multi
  pub next : start.from ≡ from + 1
  pub list : ListFits log
  pub settled : EndsSettled log from (life_base start)

abbrev pub RestoredBegins : Type 0
RestoredBegins = (start : Start) (log : KeptLog) (from : ℕ) (left : Left) → GoesOn start log from
    → Restored start.banks log from start.base left → BeganClean start (shown_on start.banks left)

-- the page volumes of both have the same bytes, as all images have behind `flush_all`
pub record HaveSameBytes (banks : ℕ) (left other : Left) : Type 0 where
  pub xact : (bank q : ℕ) → bank < banks → page_bytes (other.xact bank q) ≡ page_bytes (left.xact bank q)
  pub offsets : (bank q : ℕ) → bank < banks → page_bytes (other.offsets bank q) ≡ page_bytes (left.offsets bank q)
  pub members : (bank q : ℕ) → bank < banks → page_bytes (other.members bank q) ≡ page_bytes (left.members bank q)

-- And each image that it leaves follows the lists before their first entries.
abbrev pub LifeBegins : Type 0
LifeBegins = (start : Start) (lists : List (List Entry)) (log : KeptLog) (from : ℕ) (left other : Left)
    → ((lock : ℕ) → at lists lock ≡ []) → GoesOn start log from → Restored start.banks log from start.base left
    → ImageFits start.banks log other → HaveSameBytes start.banks left other
    → LogFollows start lists log × LeftFollows start lists log other
