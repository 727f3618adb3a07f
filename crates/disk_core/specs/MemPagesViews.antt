-- What a page volume in memory holds, and its moments.
use Rattle.std.specs.Prelude.{◌≡◌, ℕ, length}
use Rattle.std.specs.Ordering.{nat_cmp}
use Rattle.std.specs.BTreeMap as tree
use Rattle.disk_core.specs.Images.{Elapses}
use Rattle.disk_core.specs.Past.{LeftAt}
use Rattle.disk_core.specs.Pages.{Pages}
use Rattle.disk_core.specs.MemPages.{synced_of, AreOutcomes, page_outcome_of}
use Rattle.disk_core.specs.Media.{PagesCrashed}
use Rattle.disk_core.specs.declared.media.Crash.{Crash}
use Rattle.disk_core.specs.declared.mem_pages.MemPages.{MemPages}
use Rattle.disk_core.specs.declared.mem_pages.PageMoment.{PageMoment}

abbrev pub pages_now : MemPages → Pages
pages_now m q = tree.get nat_cmp m.now q

abbrev pub pages_synced : MemPages → Pages
pages_synced m q = synced_of (tree.get nat_cmp m.before q) (tree.get nat_cmp m.now q)

-- what a crash may leave now
abbrev pub pages_images : MemPages → Pages → Type 0
pages_images m = AreOutcomes (pages_synced m) (pages_now m)

-- what a crash at a moment may have left
abbrev pub pages_left : PageMoment → Pages → Type 0
pages_left m = AreOutcomes (λ q. synced_of (tree.get nat_cmp m.before q) (tree.get nat_cmp m.now q)) (λ q. tree.get nat_cmp m.now q)

-- the same by the number of the moment
abbrev pub pages_left_at : MemPages → ℕ → Pages → Type 0
pages_left_at m t = LeftAt pages_left m.past.value (pages_images m) t

abbrev pub PagesElapse : MemPages → MemPages → Type 0
PagesElapse old new = Elapses (length old.past.value) (length new.past.value) (pages_left_at old) (pages_left_at new) (pages_images new)

-- this moment, for the account
abbrev pub page_moment : MemPages → PageMoment
page_moment m = record { now = m.now; before = m.before }

abbrev pub pages_crashed : MemPages → MemPages → Type 0
pages_crashed = PagesCrashed (λ m. pages_now m) (λ m. pages_images m) (λ m. m.faults)

-- after a crash of this kind each page is what the kind leaves of it, all of it synced
pub record PagesFell (how : Crash) (old new : MemPages) : Type 0 where
  pub left : (q : ℕ) → pages_now new q ≡ page_outcome_of how (pages_synced old q) (pages_now old q)
  pub settled : (q : ℕ) → pages_synced new q ≡ pages_now new q
