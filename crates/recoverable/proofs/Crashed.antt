-- Volumes that fit do so behind a crash.
use Rattle.std.proofs.Common.{List, Some, [], ap, length, refl, subst, suc, sym, zero, ℕ, ◌∷◌, ◌≡◌}
use Rattle.std.proofs.lemmas.Option.{same_Some}
use Rattle.std.specs.List.{slice_get}
use Rattle.disk_core.specs.declared.log_disk.LogDisk as logs
use Rattle.disk_core.specs.declared.page_disk.PageDisk as disks
use Rattle.disk_core.specs.Media.{EachCrashed, LogCrashed, PagesCrashed}
use Rattle.disk_core.specs.Pages.{Pages}
use Rattle.disk_core.specs.Volume.{Volume}
use Rattle.recoverable.specs.Volumes.{ImageFits}
use Rattle.recoverable.specs.Clusters.{AreLeft, CrashKeepsFit}

module _ {P : Type 0} (R : P → P → Type 0) where
  as_long : (xs ys : List P) → EachCrashed R xs ys → length ys ≡ length xs
  as_long [] [] e = refl
  as_long (x ∷ xs) (y ∷ ys) e = ap suc (as_long xs ys e.1)
  as_long [] (y ∷ ys) e = absurd e
  as_long (x ∷ xs) [] e = absurd e

  -- what each became
  became : (xs ys : List P) → EachCrashed R xs ys → (n : ℕ) (x : P) → slice_get xs n ≡ Some x → (y : P) × (slice_get ys n ≡ Some y) × R x y
  became [] [] e n x at = absurd cc
  became (z ∷ xs) (y ∷ ys) e zero x at = (y, refl, subst (λ (w : P). R w y) (same_Some z x at) e.0)
  became (z ∷ xs) (y ∷ ys) e (suc n) x at = became xs ys e.1 n x at
  became [] (y ∷ ys) e n x at = absurd e
  became (z ∷ xs) [] e n x at = absurd e

module _ {L P : Type 0} (l : logs.Ghosts L) (p : disks.Ghosts P) where
  abbrev page_crashed : P → P → Type 0
  page_crashed = PagesCrashed p.pages p.images p.faults

  -- what a further crash leaves of the volumes of a store, this one might have left
  stores_before : (xs ys : List P) (left : ℕ → Pages) → EachCrashed page_crashed xs ys → AreLeft l p ys left → AreLeft l p xs left
  stores_before xs ys left pages is bank disk at =
      let now = became page_crashed xs ys pages bank disk at in
      subst (λ (c : Pages). p.images disk c) (sym (now.2.only (left bank) (is bank now.0 now.1))) now.2.image

  pub crash_keeps_fit : CrashKeepsFit l p
  crash_keeps_fit kept old new xact xact' offsets offsets' members members' log states firsts slots fit = record {
    list = fit.list;
    each = λ left is. subst (λ (n : ℕ). ImageFits n kept left) (sym (as_long page_crashed xact xact' states)) (fit.each left (record {
      log_image = subst (λ (v : Volume). l.images old v) (sym (log.only left.log is.log_image)) log.image;
      states = stores_before xact xact' left.xact states is.states;
      offsets_are = stores_before offsets offsets' left.offsets firsts is.offsets_are;
      members_are = stores_before members members' left.members slots is.members_are;
    }));
  }
