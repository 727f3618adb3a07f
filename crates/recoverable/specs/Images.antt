-- What a crash leaves of a bank's pages, by the list of its lock: of one number's place, its bits, or one of its bytes.
use Rattle.std.specs.Prelude.{◌≡◌, ℕ, ◌%◌, ◌<◌, ◌⊎◌, true, List, take, slice_get, Option, Some, None, Contains}
use Rattle.tx_events.specs.PageOrder.{Shape, is_cut}
use Rattle.tx_events.specs.declared.event.By.{By}
use Rattle.tx_core.specs.declared.entry.Entry.{Entry}
use Rattle.tx_core.specs.declared.entry.Kind.TheVariants as kinds
use Rattle.tx_core.specs.Entries.{cut_in}
use Rattle.tx_core.specs.Pages.{Store, pages_after}

-- the pages of a store: their order, how many numbers are on one, how many are stored, and the page from which on they
-- are kept when a life begins
pub record PageRing : Type 0 where
  pub shape : Shape
  pub per_page : ℕ
  pub pages : ℕ
  pub kept : ℕ

-- the bank is kept from this page on, since the start or since an entry
abbrev pub IsKeptAt : ℕ → List Entry → ℕ → Type 0
IsKeptAt first es page = (page ≡ first) ⊎ ((e : Entry) × Contains es e × (cut_in e.kind ≡ Some page))

-- a stored page may be gone: it is cut by one of these
abbrev pub MayBeGone : PageRing → List Entry → ℕ → Type 0
MayBeGone ring es q = (page : ℕ) × IsKeptAt ring.kept es page × (is_cut ring.shape ring.per_page (page % ring.pages) q ≡ true)

-- the number that is wanted, where one is
abbrev pub IsAsWanted : Option ℕ → ℕ → Type 0
IsAsWanted None value = Unit {0}
IsAsWanted (Some wanted) value = value ≡ wanted

-- how the pages of a store are read in a life: from which number on they are new, and what they showed when it began
pub record Reading (I V : Type 0) : Type 0 where
  pub store : Store I V
  pub first : ℕ
  pub shown : ℕ → Option V
  pub ring : PageRing

module _ {I V : Type 0} where
  -- what a number shows after these entries
  abbrev pub shows_of : Reading I V → List Entry → ℕ → Option V
  shows_of r es x = (pages_after r.store r.first r.shown es).shows x

  -- The value at the place of a number on this page is what is wanted for what the number shows, or it is 0, where the
  -- page may be gone.
  abbrev pub Now : Reading I V → (Option V → Option ℕ) → List Entry → List Entry → ℕ → ℕ → ℕ → Type 0
  Now r wanted es all x q value = IsAsWanted (wanted (shows_of r es x)) value ⊎ ((value ≡ 0) × MayBeGone r.ring all q)

  -- It is so by what the number showed behind some entry, and since the last sync.
  pub record Since (r : Reading I V) (wanted : Option V → Option ℕ) (es : List Entry) (x q value : ℕ) : Type 0 where
    pub count : ℕ
    pub synced : (p : ℕ) (by : By) → slice_get es p ≡ Some (record { by = by; kind = kinds.Sync }) → p < count
    pub shows : Now r wanted (take count es) es x q value
