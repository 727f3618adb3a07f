-- How the numbers of a store lie on the pages of its banks, and what a bank stands for by the list of its lock.
use Rattle.std.specs.Prelude.{◌≡◌, ℕ, ◌+◌, ◌%◌, ◌^◌, ◌<◌, ◌≤◌, ◌⊎◌, Bool, true, nat_lt, IsTrue, List, Option, None, Some, Contains}
use Rattle.disk_core.specs.Pages.{zero_page}
use Rattle.tx_events.specs.PageOrder.{Shape, is_cut, page_precedes}
use Rattle.tx_core.specs.declared.entry.Entry.{Entry}
use Rattle.tx_core.specs.declared.entry.Start.{Start}
use Rattle.tx_core.specs.Entries.{cut_in}
use Rattle.tx_core.specs.FaultsRise.{faults_told}
use Rattle.tx_core.specs.Pages.{Store, pages_after}

-- The store of the list's entries; the order of its pages, how many numbers are on one, how many pages are stored, and the
-- page in full from which on they are kept when a life begins; the number from which on they are new, and the oldest one
-- in use; the stored page of a number, what is read of it there, and what is wanted for what it shows.
pub record Shelf (I V R : Type 0) : Type 0 where
  pub store : Store I V
  pub shape : Shape
  pub per_page : ℕ
  pub pages : ℕ
  pub kept : ℕ
  pub first : ℕ
  pub oldest : ℕ
  pub page : ℕ → ℕ
  pub read : List ℕ → ℕ → R
  pub wants : Option V → R

-- the store is kept from this page in full on, since the start or since an entry
abbrev pub IsKeptAt : ℕ → List Entry → ℕ → Type 0
IsKeptAt first es page = (page ≡ first) ⊎ ((e : Entry) × Contains es e × (cut_in e.kind ≡ Some page))

module _ {I V R : Type 0} where
  -- a stored page may be gone: it is cut by such a page
  abbrev pub IsGone : Shelf I V R → List Entry → ℕ → Type 0
  IsGone h es q = (page : ℕ) × IsKeptAt h.kept es page × (is_cut h.shape h.per_page (page % h.pages) q ≡ true)

  -- the bank's cutoff is such a page
  abbrev pub IsCutoffOf : Shelf I V R → List Entry → ℕ → Type 0
  IsCutoffOf h es cutoff = (page : ℕ) × IsKeptAt h.kept es page × (cutoff ≡ page % h.pages)

  -- the last page that the list made, and what the numbers show, where they showed this when the life began
  abbrev pub last_on : Shelf I V R → List Entry → ℕ
  last_on h es = (pages_after h.store h.first (λ x. None) es).last

  abbrev pub shows_on : Shelf I V R → (ℕ → Option V) → List Entry → ℕ → Option V
  shows_on h before es = (pages_after h.store h.first before es).shows

  -- the page is near those with which the life began
  pub record IsNearBy (h : Shelf I V R) (page : ℕ) : Type 0 where
    pub from : h.store.page_of h.first ≤ page
    pub to : page ≤ h.store.page_of (h.first + 2 ^ 29)

  -- Two full pages of one stored number are told apart as long as no page was made past those.
  abbrev pub ArePagesNear : Shelf I V R → List Entry → Type 0
  ArePagesNear h es = last_on h es ≤ h.store.page_of (h.first + 2 ^ 29)

  -- the numbers for which the pages of a life have room
  pub record IsRoomFor (h : Shelf I V R) (x : ℕ) : Type 0 where
    pub from : h.oldest ≤ x
    pub to : x < h.first + 2 ^ 30

  -- what is read is what is wanted, or nothing, where the page may be gone
  abbrev pub IsReadNow : Shelf I V R → List Entry → (ℕ → List ℕ) → Option V → ℕ → Type 0
  IsReadNow h es bytes o x =
      (h.read (bytes (h.page x)) x ≡ h.wants o) ⊎ ((h.read (bytes (h.page x)) x ≡ h.wants None) × IsGone h es (h.page x))

  -- so is each number of this bank
  pub record ShowsNow (h : Shelf I V R) (banks bank : ℕ) (es : List Entry) (bytes : ℕ → List ℕ) (shows : ℕ → Option V)
      : Type 0 where
    pub each : (x : ℕ) → IsRoomFor h x → h.page x % banks ≡ bank → IsReadNow h es bytes (shows x) x

  -- The bank's last made page is the list's, its cutoff is one that the list has, its volume has counted the faults that
  -- the list tells, and its pages show what the list set, over some pages that a clean start shows.
  pub record StoreStands (h : Shelf I V R) (Clean : (ℕ → Option V) → Type 0) (start : Start) (lock bank : ℕ) (tells : Bool)
      (faults last cutoff : ℕ) (bytes : ℕ → List ℕ) (es : List Entry) : Type 0 where
    pub inside : bank < start.banks
    pub count : faults_told start lock es ≤ faults
    pub last_is : ArePagesNear h es → last ≡ last_on h es % h.pages
    pub cutoff_is : IsCutoffOf h es cutoff
    pub shown : IsTrue tells → ArePagesNear h es
        → (before : ℕ → Option V) × Clean before × ShowsNow h start.banks bank es bytes (shows_on h before es)

  -- What the store's numbers keep: stored pages near those of the life's begin compare as full ones do, and tell these apart;
  -- nothing is read of a page of zeros.
  pub record IsShelf (h : Shelf I V R) : Type 0 where
    pub order : (p q : ℕ) → IsNearBy h p → IsNearBy h q
        → page_precedes h.shape h.per_page (p % h.pages) (q % h.pages) ≡ nat_lt p q
    pub here : (x : ℕ) → h.page x ≡ h.store.page_of x % h.pages
    pub apart : (p x : ℕ) → IsNearBy h p → IsRoomFor h x → h.page x ≡ p % h.pages → h.store.page_of x ≡ p
    pub zeros : (x : ℕ) → h.read zero_page x ≡ h.wants None
