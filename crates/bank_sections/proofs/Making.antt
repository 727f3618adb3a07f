-- A bank stands for its list after a page was made.
use Rattle.std.proofs.Common.{◌≡◌, ℕ, suc, inl, inr, ◌+◌, ◌/◌, ◌%◌, ◌^◌, ◌≤◌, List, [], ◌∷◌, ◌++◌, IsTrue, MatchBool, cond, refl, sym, subst, arith}
use Rattle.disk_core.specs.Pages.{zero_page}
use Rattle.disk_core.specs.declared.page_disk.PageDisk as disks
use Rattle.store_pages.specs.declared.page_rule.PageRule as rules
use Rattle.slru_bank.specs.declared.bank.SlruBank.{SlruBank}
use Rattle.slru_bank.specs.Bank.{PutsPage}
use Rattle.slru_bank.specs.Calls.{CrashKeeps, SamePages, cutoff_of, faults_of, last_page, pages_of}
use Rattle.slru_bank.specs.Crash.{SameMap}
use Rattle.tx_events.specs.declared.event.By.{By}
use Rattle.tx_events.specs.Base.{IsBase}
use Rattle.tx_events.specs.Limits.{stop_limit}
use Rattle.tx_core.specs.declared.entry.Entry.{Entry}
use Rattle.tx_core.specs.declared.entry.Kind.TheVariants as kinds
use Rattle.tx_core.specs.declared.entry.Start.{Start}
use Rattle.tx_core.specs.Locks.{subtrans_page, xact_page, subtrans_lock, xact_lock}
use Rattle.tx_events.specs.Ids.{low_half}
use Rattle.tx_events.specs.PageOrder.{Ids, page_precedes}
use Rattle.engine_parts.specs.BankCourse.{IsParentOn, MadePage, ParentsCame, parent_rack}
use Rattle.engine_parts.specs.Course.{HasCourse, PageMade}
use Rattle.engine_parts.specs.Parts.{IsSubtransOf, IsXactOf}
use Rattle.engine_parts.specs.Stand.{SubtransStands, XactStands}
use Rattle.engine_parts.proofs.Banking.{xact_made}
use Rattle.tx_core.specs.FaultsRise.{count_in, faults_at, faults_told}
use Rattle.tx_core.proofs.LastNumbers.{number_same}
use Rattle.engine_parts.proofs.SubBanking.{sub_made}

abbrev pub made_entry : By → ℕ → Entry
made_entry by page = record { by = by; kind = kinds.Zero page }

-- a page that was made is no fault
pub made_told : (start : Start) (lock : ℕ) (by : By) (page count : ℕ) (es : List Entry) → faults_told start lock es ≤ count → faults_told start lock (es ++ made_entry by page ∷ []) ≤ count
made_told start lock by page count es le = let a = number_same count_in (faults_at start lock) es (made_entry by page) refl in omega arith

-- ---- the counters of a base

stop_upto : (oldest : ℕ) → stop_limit oldest ≤ oldest + 2 ^ 31
stop_upto oldest = grind arith

-- they span no more than half a ring
pub base_near : (start : Start) → IsBase start.base → start.base.next ≤ start.base.oldest + 2 ^ 31
base_near start b = let s = stop_upto start.base.oldest in let n = b.next in omega arith

-- ---- the bank

-- the stored page of a full one
xact_stored : (id page stored : ℕ) → page ≡ xact_page id → stored ≡ low_half id / 32768 → stored ≡ page % 2 ^ 17
xact_stored id page stored p s = omega arith

subtrans_stored : (id page stored : ℕ) → page ≡ subtrans_page id → stored ≡ low_half id / 2048 → stored ≡ page % 2 ^ 21
subtrans_stored id page stored p s = omega arith

module _ {P O : Type 0} {g : disks.Ghosts P} {r : rules.Ghosts O} where
  -- what a page that was made leaves of a bank
  pub record Makes (page per_page : ℕ) (old new : SlruBank P O g r) : Type 0 where
    pub last : last_page new ≡ cond (page_precedes Ids per_page (last_page old) page) page (last_page old)
    pub cutoff : cutoff_of new ≡ cutoff_of old
    pub count : faults_of old ≤ faults_of new
    pub pages : IsTrue g.tells → MatchBool (page_precedes Ids per_page (last_page old) page) (PutsPage page zero_page (pages_of old) (pages_of new)) (SamePages old new)

  pub xact_stands_made : (start : Start) (bank : ℕ) (old new : SlruBank P O g r) (es : List Entry) (by : By) (id page stored : ℕ) (e : Entry) → IsBase start.base → start.base.next ≤ id → e ≡ made_entry by page → page ≡ xact_page id → stored ≡ low_half id / 32768 → Makes stored 32768 old new → CrashKeeps old new → IsXactOf start bank old es
      → IsXactOf start bank new (es ++ e ∷ [])
  xact_stands_made start bank old new es by id page stored e base from is page_is stored_is m crash s =
      let at : stored ≡ page % 2 ^ 17 = xact_stored id page stored page_is stored_is in
      let last : last_page new ≡ cond (page_precedes Ids 32768 (last_page old) (page % 2 ^ 17)) (page % 2 ^ 17) (last_page old) = subst (λ z. last_page new ≡ cond (page_precedes Ids 32768 (last_page old) z) z (last_page old)) at m.last in
      let pages : IsTrue g.tells → MatchBool (page_precedes Ids 32768 (last_page old) (page % 2 ^ 17)) (PutsPage (page % 2 ^ 17) zero_page (pages_of old) (pages_of new)) (SameMap (pages_of old) (pages_of new)) = λ told.
      subst (λ z. MatchBool (page_precedes Ids 32768 (last_page old) z) (PutsPage z zero_page (pages_of old) (pages_of new)) (SameMap (pages_of old) (pages_of new))) at (m.pages told) in
      subst (λ (f : Entry). IsXactOf start bank new (es ++ f ∷ [])) (sym is)
      (subst (λ z. XactStands start bank g.tells (faults_of new) (last_page new) z (pages_of new) (HasCourse start bank new) (es ++ made_entry by page ∷ [])) (sym m.cutoff)
      (xact_made start bank (faults_of old) (last_page old) (cutoff_of old) g.tells (pages_of old) (HasCourse start bank old) es by page s (base_near start base) (omega arith)
      (faults_of new) (last_page new) (pages_of new) (HasCourse start bank new) last pages
      (made_told start (xact_lock bank) by page (faults_of new) es (let c = s.count in let f = m.count in omega arith))
      (λ told k.
      let made : PageMade old new es (es ++ made_entry by page ∷ []) = record { by = by; page = page; entries = refl; pages = pages told; last = last; cutoff = m.cutoff; crash = crash } in
      (suc k.0, (old, es, k.1, inr (inr (inl made)))))))

  pub subtrans_stands_made : (start : Start) (bank : ℕ) (old new : SlruBank P O g r) (es : List Entry) (by : By) (id page stored : ℕ) (e : Entry) → IsBase start.base → start.base.next ≤ id → e ≡ made_entry by page → page ≡ subtrans_page id → stored ≡ low_half id / 2048 → Makes stored 2048 old new → CrashKeeps old new → IsSubtransOf start bank old es
      → IsSubtransOf start bank new (es ++ e ∷ [])
  subtrans_stands_made start bank old new es by id page stored e base from is page_is stored_is m crash s =
      let at : stored ≡ page % 2 ^ 21 = subtrans_stored id page stored page_is stored_is in
      let last : last_page new ≡ cond (page_precedes Ids 2048 (last_page old) (page % 2 ^ 21)) (page % 2 ^ 21) (last_page old) = subst (λ z. last_page new ≡ cond (page_precedes Ids 2048 (last_page old) z) z (last_page old)) at m.last in
      let pages : IsTrue g.tells → MatchBool (page_precedes Ids 2048 (last_page old) (page % 2 ^ 21)) (PutsPage (page % 2 ^ 21) zero_page (pages_of old) (pages_of new)) (SameMap (pages_of old) (pages_of new)) = λ told.
      subst (λ z. MatchBool (page_precedes Ids 2048 (last_page old) z) (PutsPage z zero_page (pages_of old) (pages_of new)) (SameMap (pages_of old) (pages_of new))) at (m.pages told) in
      subst (λ (f : Entry). IsSubtransOf start bank new (es ++ f ∷ [])) (sym is)
      (subst (λ z. SubtransStands start bank g.tells (faults_of new) (last_page new) z (pages_of new) (ParentsCame start bank new) (es ++ made_entry by page ∷ [])) (sym m.cutoff)
      (sub_made start bank (faults_of old) (last_page old) (cutoff_of old) g.tells (pages_of old) (ParentsCame start bank old) es by page s (base_near start base) (omega arith)
      (faults_of new) (last_page new) (pages_of new) (ParentsCame start bank new) last pages
      (made_told start (subtrans_lock bank) by page (faults_of new) es (let c = s.count in let f = m.count in omega arith))
      (λ told k.
      let made : MadePage (parent_rack start) (IsParentOn start bank) old new es (es ++ made_entry by page ∷ []) = record { by = by; page = page; entries = refl; pages = pages told; last = last; cutoff = m.cutoff; crash = crash } in
      (suc k.0, (old, es, k.1, inr (inr (inl made)))))))
