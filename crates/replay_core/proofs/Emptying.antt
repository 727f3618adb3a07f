-- A volume without pages, of which no record names one, is as a recovery wants it.
use Rattle.std.proofs.Common.{◌≡◌, inl, ⊎_elim, ℕ, ◌++◌, List, sym, ap, subst, arith, ◌∙◌}
use Rattle.disk_core.specs.Images.{Only}
use Rattle.disk_core.specs.Pages.{Pages, page_bytes}
use Rattle.disk_core.specs.declared.page_disk.PageDisk as disks
use Rattle.store_pages.specs.Layouts.{state_in, xact_page_of, xact_place_of}
use Rattle.slru_bank.specs.Crash.{CrashLeaves, runs_then}
use Rattle.replay_multis.specs.Empty.{HasNoPages, IsSameImage}
use Rattle.replay_multis.specs.declared.share.Share.{Share}
use Rattle.replay_core.specs.Begun.{IsEmpty}
use Rattle.replay_core.specs.Redo.{NamesNone, code_in}
use Rattle.replay_core.specs.Restore.{MayRestore, RestoresAll, bytes_on}
use Rattle.replay_core.proofs.Redoing.{named_cases}
use Rattle.replay_core.proofs.Restoring.{may_same, zero_state}

-- ---- what isn't named

pub none_both : (share : Share) (oldest : ℕ) (xs ys : List ℕ) → NamesNone share oldest xs → NamesNone share oldest ys → NamesNone share oldest (xs ++ ys)
none_both share oldest xs ys first second y h = ⊎_elim (first y) (second y) (named_cases share oldest xs ys y h)

-- ---- what is left, and what is restored

module _ (A : ℕ → Type 0) (next : ℕ) {P : Type 0} (g : disks.Ghosts P) (d d1 : P) where
  stays_may : (m : ℕ → List ℕ) (c e : Pages) → IsSameImage c e → MayRestore A next m c e
  stays_may m c e s = subst (MayRestore A next m c) (sym s.same) (may_same A next m c)

  pub left_then : CrashLeaves IsSameImage g.images g.moment g.left_at d d1 → g.pages d1 ≡ g.pages d → (d2 : P) → CrashLeaves (MayRestore A next (bytes_on g d1)) g.images g.moment g.left_at d1 d2
      → CrashLeaves (MayRestore A next (bytes_on g d)) g.images g.moment g.left_at d d2
  left_then first same d2 second = runs_then g.images g.moment g.left_at IsSameImage (MayRestore A next (bytes_on g d)) (MayRestore A next (bytes_on g d)) d d1 d2
      (stays_may (bytes_on g d))
      (λ c e f s t. subst (λ z. MayRestore A next (bytes_on g d) z f) s.same t)
      first
      (subst (λ (p : Pages). CrashLeaves (MayRestore A next (λ q. page_bytes (p q))) g.images g.moment g.left_at d1 d2) same second)

  pub restored_empty : g.pages d1 ≡ g.pages d → ((y : ℕ) → A y → ⊥) → HasNoPages (g.pages d1) → RestoresAll A next (bytes_on g d) (bytes_on g d1)
  restored_empty same none empty = record {
    each = λ x. inl (ap (λ (p : Pages). code_in (λ q. page_bytes (p q)) x) same);
    done = λ y named still. absurd (none y named);
    cleared = λ x past. ap (λ o. state_in (page_bytes o) (xact_place_of x)) (empty (xact_page_of x) (omega arith)) ∙ zero_state (xact_place_of x);
  }

-- ---- pg_subtrans

module _ {P : Type 0} (g : disks.Ghosts P) where
  pub is_empty : (d : P) → HasNoPages (g.pages d) → Only (g.pages d) (g.images d) → IsEmpty g d
  is_empty d empty only = record {
    zeros = λ c image q small. ap (λ (p : Pages). page_bytes (p q)) (only c image) ∙ ap page_bytes (empty q small);
    on_disk = λ c image q. ap (λ (p : Pages). page_bytes (p q)) (only c image);
  }
