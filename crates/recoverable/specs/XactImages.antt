-- What a crash leaves of a bank of pg_xact, by the list of its lock.
use Rattle.std.specs.Prelude.{◌≡◌, ℕ, List, take, Option, Some, None}
use Rattle.tx_events.specs.PageOrder.{Ids}
use Rattle.store_pages.specs.Layouts.{state_in, xact_page_of, xact_place_of}
use Rattle.disk_core.specs.Pages.{Pages, page_bytes}
use Rattle.tx_core.specs.declared.entry.Entry.{Entry}
use Rattle.tx_core.specs.declared.entry.Start.{Start}
use Rattle.tx_core.specs.declared.entry.State.{State}
use Rattle.tx_core.specs.declared.entry.State.TheVariants as states
use Rattle.tx_core.specs.Locks.{xact_page, xact_lock, xact_lock_of}
use Rattle.tx_core.specs.CleanStart.{IsNear}
use Rattle.tx_core.specs.Entries.{Mark}
use Rattle.tx_core.specs.Pages.{xact_store}
use Rattle.recoverable.specs.Images.{PageRing, Reading, Since, shows_of}

-- the two bits of a state, 0 where none was set
abbrev pub code_of : Option State → ℕ
code_of None = 0
code_of (Some states.Committed) = 1
code_of (Some states.Aborted) = 2
code_of (Some states.SubCommitted) = 3

abbrev pub wanted_code : Option State → Option ℕ
wanted_code o = Some (code_of o)

-- the bits at the place of an id, on the volume of its bank
abbrev pub code_at : Pages → ℕ → ℕ
code_at c x = state_in (page_bytes (c (xact_page_of x))) (xact_place_of x)

abbrev pub xact_ring : Start → PageRing
xact_ring start = record { shape = Ids; per_page = 32768; pages = 131072; kept = xact_page start.base.oldest }

abbrev pub xact_reading : Start → (ℕ → Option State) → Reading Mark State
xact_reading start shown = record { store = xact_store; first = start.base.next; shown = shown; ring = xact_ring start }

-- what the place of an id shows after the first n entries
abbrev pub code_after : Start → (ℕ → Option State) → List Entry → ℕ → ℕ → ℕ
code_after start shown es n x = code_of (shows_of (xact_reading start shown) (take n es) x)

-- The place of an id has what it showed behind some entry, and since the last sync, or nothing, where its page was cut.
abbrev pub ShowsSince : Start → (ℕ → Option State) → List Entry → Pages → ℕ → Type 0
ShowsSince start shown es c x = Since (xact_reading start shown) wanted_code es x (xact_page_of x) (code_at c x)

-- A crash left a bank so. Each of its images is so: this is what a bank's value stands for, beside what it reads.
abbrev pub Follows : Start → ℕ → (ℕ → Option State) → List Entry → Pages → Type 0
Follows start bank shown es c = (x : ℕ) → IsNear start x → xact_lock_of start x ≡ xact_lock bank → ShowsSince start shown es c x
