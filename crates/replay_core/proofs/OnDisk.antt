-- From what a bank's map shows to what its volume reads.
use Rattle.std.proofs.Common.{◌≡◌, ℕ, Result, Ok, IsTrue, sym, subst, ◌∙◌}
use Rattle.disk_core.specs.Pages.{Pages, page_bytes}
use Rattle.disk_core.specs.declared.page_disk.PageDisk as disks
use Rattle.store_pages.specs.declared.page_rule.PageRule as rules
use Rattle.slru_bank.specs.Calls.{IsDurable, pages_of, volume_of}
use Rattle.slru_bank.specs.Crash.{CrashLeaves, SameMap, no_call, wider}
use Rattle.slru_bank.specs.declared.bank.SlruBank.{SlruBank}
use Rattle.slru_bank.specs.declared.refusal.BankRefusal.{BankRefusal}
use Rattle.replay_core.specs.Restore.{HasBytesOnDisk, MayRestore, RestoresAll, RestoresBank, bytes_on}
use Rattle.replay_core.proofs.Restoring.{all_from, may_from, may_same}

-- the volume wasn't asked
module _ (A : ℕ → Type 0) (next : ℕ) {P : Type 0} (g : disks.Ghosts P) where
  pub untouched : (disk new : P) → new ≡ disk → IsTrue g.tells → ((c : Pages) → g.left_at disk (g.moment disk) c → g.images disk c)
      → CrashLeaves (MayRestore A next (bytes_on g disk)) g.images g.moment g.left_at disk new
  untouched disk new same told only_now = subst (λ d. CrashLeaves (MayRestore A next (bytes_on g disk)) g.images g.moment g.left_at disk d) (sym same)
      (no_call g.images g.moment g.left_at (MayRestore A next (bytes_on g disk)) disk (may_same A next (bytes_on g disk)) only_now)

module _ (A : ℕ → Type 0) (next : ℕ) {P O : Type 0} {g : disks.Ghosts P} {r : rules.Ghosts O} where
  module _ (disk : P) (b0 b1 : SlruBank P O g r) (is : volume_of b0 ≡ disk) (map : SameMap (bytes_on g disk) (pages_of b0)) where
    pub moments_on : (result : Result (Unit {0}) BankRefusal) → RestoresBank A next b0 b1 result → IsTrue g.tells → CrashLeaves (MayRestore A next (bytes_on g disk)) g.images g.moment g.left_at disk (volume_of b1)
    moments_on result s told = subst (λ d. CrashLeaves (MayRestore A next (bytes_on g disk)) g.images g.moment g.left_at d (volume_of b1)) is
        (wider g.images g.moment g.left_at (MayRestore A next (pages_of b0)) (MayRestore A next (bytes_on g disk)) (volume_of b0) (volume_of b1) (λ p q t. may_from A next (bytes_on g disk) (pages_of b0) p q map t) (s.moments told))

    -- each image has what the map has, so what is read has too
    same_read : ((c : Pages) → g.images (volume_of b1) c → (q : ℕ) → page_bytes (c q) ≡ pages_of b1 q) → g.images (volume_of b1) (g.pages (volume_of b1)) → SameMap (pages_of b1) (bytes_on g (volume_of b1))
    same_read durable reads q = durable (g.pages (volume_of b1)) reads q

    pub shows_on : RestoresBank A next b0 b1 (Ok (tt {0})) → IsTrue g.tells → g.images (volume_of b1) (g.pages (volume_of b1)) → RestoresAll A next (bytes_on g disk) (bytes_on g (volume_of b1))
    shows_on s told reads = all_from A next (bytes_on g disk) (pages_of b0) (pages_of b1) (bytes_on g (volume_of b1)) map (same_read (s.durable told) reads) (s.shows told)

    pub durable_on : RestoresBank A next b0 b1 (Ok (tt {0})) → IsTrue g.tells → g.images (volume_of b1) (g.pages (volume_of b1)) → HasBytesOnDisk g (volume_of b1)
    durable_on s told reads c image q = s.durable told c image q ∙ sym (same_read (s.durable told) reads q)

-- a volume of which each image has what its bank's map has
pub read_durable : {P O : Type 0} {g : disks.Ghosts P} {r : rules.Ghosts O} (b : SlruBank P O g r) → IsDurable b → g.images (volume_of b) (g.pages (volume_of b)) → HasBytesOnDisk g (volume_of b)
read_durable {g = g} b durable reads c image q = durable c image q ∙ sym (durable (g.pages (volume_of b)) reads q)
