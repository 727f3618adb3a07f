-- Clearing, redo, clearing and writing, one after another.
use Rattle.std.proofs.Common.{◌≡◌, ◌⊎◌, true, inl, inr, ⊎_elim, ℕ, ◌<◌, ◌≤◌, ◌^◌, List, slice_index, Result, Ok, Err, OnOk, IsTrue, sym, ap, subst, ◌∙◌}
use Rattle.disk_core.specs.Pages.{Pages}
use Rattle.disk_core.specs.declared.page_disk.PageDisk as disks
use Rattle.store_pages.specs.declared.page_rule.PageRule as rules
use Rattle.tx_events.specs.PageOrder.{Shape, page_precedes}
use Rattle.slru_bank.proofs.ZeroBytes.{zero_byte}
use Rattle.slru_bank.specs.ByteRange.{cleared_past}
use Rattle.slru_bank.specs.Calls.{IsDurable, SamePages, pages_of, volume_of}
use Rattle.slru_bank.specs.Crash.{CrashLeaves, SameMap, no_call, wider}
use Rattle.slru_bank.specs.Removal.{ClearsAfter}
use Rattle.slru_bank.specs.declared.bank.SlruBank.{SlruBank}
use Rattle.slru_bank.specs.declared.refusal.BankRefusal.{BankRefusal}
use Rattle.replay_multis.specs.Restore.{HasBytesOnDisk, IsBehind, IsCleared, MayBecome, RestoresAll, RestoresBank, bytes_on}
use Rattle.replay_multis.specs.Steps.{Changes, HoldsNamed, MayLeave, MayStand, RedoesBank, StepsBank}
use Rattle.replay_multis.proofs.Stepping.{IsAmong, changes_none, changes_then, changes_wider, may_same, steps_then, steps_wider}

-- what was cleared is 0
pub zero_behind : (shape : Shape) (n page at : ℕ) (m m1 : ℕ → List ℕ) → ClearsAfter shape n page at m m1 → (q i : ℕ) → q < 2 ^ 32 → IsBehind shape n page at q i → slice_index (m1 q) i ≡ 0
zero_behind shape n page at m m1 c q i lt behind = ⊎_elim
    (λ (h : (q ≡ page) × (at ≤ i)). ap (λ z. slice_index (m1 z) i) h.0 ∙ ap (λ (l : List ℕ). slice_index l i) c.here ∙ cleared_past (m page) at i h.1)
    (λ (h : page_precedes shape n page q ≡ true). ap (λ (l : List ℕ). slice_index l i) (c.zeros q lt h) ∙ zero_byte i)
    behind

-- each map has what another one has
module _ (M : MayStand) where
  pub may_from : (m m1 : ℕ → List ℕ) (c d : Pages) → SameMap m m1 → MayLeave M m1 c d → MayLeave M m c d
  may_from m m1 c d same may = record { each = λ q i lt. ⊎_elim inl (λ h. inr (⊎_elim (λ e. inl (e ∙ ap (λ (l : List ℕ). slice_index l i) (same q))) inr h)) (may.each q i lt) }

module _ (Named : MayStand) (From Past : ℕ → ℕ → Type 0) where
  pub named_may : IsAmong Named (MayBecome Named From Past)
  named_may q i b h = inl h

  pub first_may : IsAmong (IsCleared From) (MayBecome Named From Past)
  first_may q i b h = inr (inl h)

  pub last_may : IsAmong (IsCleared Past) (MayBecome Named From Past)
  last_may q i b h = inr (inr h)

  module _ (m0 m1 m2 m3 : ℕ → List ℕ) (clear : Changes (IsCleared From) m0 m1) (cleared : (q i : ℕ) → q < 2 ^ 32 → From q i → slice_index (m1 q) i ≡ 0)
      (redo : Changes Named m1 m2) (held : HoldsNamed Named m2) (trim : Changes (IsCleared Past) m2 m3) (trimmed : (q i : ℕ) → q < 2 ^ 32 → Past q i → slice_index (m3 q) i ≡ 0) where
    pub all_restored : (m4 : ℕ → List ℕ) → SameMap m3 m4 → RestoresAll Named From Past m0 m4
    all_restored m4 same =
        let last : (q i : ℕ) → slice_index (m4 q) i ≡ slice_index (m3 q) i = λ q i. ap (λ (l : List ℕ). slice_index l i) (same q) in
        record {
          each = changes_then (MayBecome Named From Past) m0 m3 m4
              (changes_then (MayBecome Named From Past) m0 m2 m3
              (changes_then (MayBecome Named From Past) m0 m1 m2 (changes_wider (IsCleared From) (MayBecome Named From Past) first_may m0 m1 clear) (changes_wider Named (MayBecome Named From Past) named_may m1 m2 redo))
              (changes_wider (IsCleared Past) (MayBecome Named From Past) last_may m2 m3 trim))
              (changes_none (MayBecome Named From Past) m3 m4 same);
          done = λ q i b lt named still. subst (Named q i) (sym (last q i)) (⊎_elim
              (λ (e : slice_index (m3 q) i ≡ slice_index (m2 q) i). subst (Named q i) (sym e) (held q i b lt named))
              (λ (h : IsCleared Past q i (slice_index (m3 q) i)). absurd (still h.1))
              (trim q i lt));
          fresh = λ q i lt from. ⊎_elim
              (λ (e : slice_index (m3 q) i ≡ slice_index (m2 q) i). ⊎_elim
              (λ (f : slice_index (m2 q) i ≡ slice_index (m1 q) i). inl (last q i ∙ e ∙ f ∙ cleared q i lt from))
              (λ (h : Named q i (slice_index (m2 q) i)). inr (subst (Named q i) (sym (last q i ∙ e)) h))
              (redo q i lt))
              (λ (h : IsCleared Past q i (slice_index (m3 q) i)). inl (last q i ∙ h.0))
              (trim q i lt);
          cleared = λ q i lt past. last q i ∙ trimmed q i lt past;
        }

  -- ---- the bank

  module _ {P O : Type 0} {g : disks.Ghosts P} {r : rules.Ghosts O} where
    pub restore_failed : (b0 b1 : SlruBank P O g r) (e : BankRefusal) → StepsBank (MayBecome Named From Past) b0 b1 (Err e) → RestoresBank Named From Past b0 b1 (Err e)
    restore_failed b0 b1 e s = record { steps = s; shows = λ told. tt; durable = λ told. tt }

    module _ (b0 b1 b2 b3 : SlruBank P O g r) (first : StepsBank (IsCleared From) b0 b1 (Ok (tt {0}))) (redo : RedoesBank Named b1 b2 (Ok (tt {0}))) where
      pub two_steps : StepsBank (MayBecome Named From Past) b0 b2 (Ok (tt {0}))
      two_steps = steps_then (MayBecome Named From Past) b0 b1 b2 (Ok (tt {0})) (Ok (tt {0})) (steps_wider (IsCleared From) (MayBecome Named From Past) b0 b1 (Ok (tt {0})) first_may first) (steps_wider Named (MayBecome Named From Past) b1 b2 (Ok (tt {0})) named_may redo.steps)

      pub last_failed : (e : BankRefusal) → StepsBank (IsCleared Past) b2 b3 (Err e) → RestoresBank Named From Past b0 b3 (Err e)
      last_failed e s = restore_failed b0 b3 e (steps_then (MayBecome Named From Past) b0 b2 b3 (Ok (tt {0})) (Err e) two_steps (steps_wider (IsCleared Past) (MayBecome Named From Past) b2 b3 (Err e) last_may s))

      pub flushed : (b4 : SlruBank P O g r) (result : Result (Unit {0}) BankRefusal) → StepsBank (IsCleared Past) b2 b3 (Ok (tt {0})) → StepsBank (MayBecome Named From Past) b3 b4 result
          → (IsTrue g.tells → (q i : ℕ) → q < 2 ^ 32 → From q i → slice_index (pages_of b1 q) i ≡ 0) → (IsTrue g.tells → (q i : ℕ) → q < 2 ^ 32 → Past q i → slice_index (pages_of b3 q) i ≡ 0)
          → (IsTrue g.tells → SamePages b3 b4) → (IsTrue g.tells → OnOk result (IsDurable b4)) → RestoresBank Named From Past b0 b4 result
      flushed b4 result trim flush cleared trimmed same durable = record {
        steps = steps_then (MayBecome Named From Past) b0 b3 b4 (Ok (tt {0})) result (steps_then (MayBecome Named From Past) b0 b2 b3 (Ok (tt {0})) (Ok (tt {0})) two_steps (steps_wider (IsCleared Past) (MayBecome Named From Past) b2 b3 (Ok (tt {0})) last_may trim)) flush;
        shows = λ told. on result (all_restored (pages_of b0) (pages_of b1) (pages_of b2) (pages_of b3) (first.each told) (cleared told) (redo.steps.each told) (redo.done told) (trim.each told) (trimmed told) (pages_of b4) (same told));
        durable = durable;
      }
        where
          on : {X : Type 0} (result : Result (Unit {0}) BankRefusal) → X → OnOk result X
          on (Ok u) x = x
          on (Err e) x = tt

    pub redo_failed : (b0 b1 b2 : SlruBank P O g r) (e : BankRefusal) → StepsBank (IsCleared From) b0 b1 (Ok (tt {0})) → RedoesBank Named b1 b2 (Err e) → RestoresBank Named From Past b0 b2 (Err e)
    redo_failed b0 b1 b2 e first s = restore_failed b0 b2 e (steps_then (MayBecome Named From Past) b0 b1 b2 (Ok (tt {0})) (Err e) (steps_wider (IsCleared From) (MayBecome Named From Past) b0 b1 (Ok (tt {0})) first_may first) (steps_wider Named (MayBecome Named From Past) b1 b2 (Err e) named_may s.steps))

    -- ---- its volume

    module _ (disk : P) (b0 b1 : SlruBank P O g r) (is : volume_of b0 ≡ disk) (map : SameMap (bytes_on g disk) (pages_of b0)) where
      pub moments_on : (result : Result (Unit {0}) BankRefusal) → RestoresBank Named From Past b0 b1 result → IsTrue g.tells → CrashLeaves (MayLeave (MayBecome Named From Past) (bytes_on g disk)) g.images g.moment g.left_at disk (volume_of b1)
      moments_on result s told = subst (λ d. CrashLeaves (MayLeave (MayBecome Named From Past) (bytes_on g disk)) g.images g.moment g.left_at d (volume_of b1)) is
          (wider g.images g.moment g.left_at (MayLeave (MayBecome Named From Past) (pages_of b0)) (MayLeave (MayBecome Named From Past) (bytes_on g disk)) (volume_of b0) (volume_of b1) (λ p q t. may_from (MayBecome Named From Past) (bytes_on g disk) (pages_of b0) p q map t) (s.steps.moments told))

      pub shows_on : RestoresBank Named From Past b0 b1 (Ok (tt {0})) → IsTrue g.tells → g.images (volume_of b1) (g.pages (volume_of b1)) → RestoresAll Named From Past (bytes_on g disk) (bytes_on g (volume_of b1))
      shows_on s told reads =
          let all = s.shows told in
          let now : (q i : ℕ) → slice_index (bytes_on g (volume_of b1) q) i ≡ slice_index (pages_of b1 q) i = λ q i. ap (λ (l : List ℕ). slice_index l i) (s.durable told (g.pages (volume_of b1)) reads q) in
          let was : (q i : ℕ) → slice_index (pages_of b0 q) i ≡ slice_index (bytes_on g disk q) i = λ q i. ap (λ (l : List ℕ). slice_index l i) (map q) in
          record {
            each = λ q i lt. ⊎_elim (λ e. inl (now q i ∙ e ∙ was q i)) (λ h. inr (subst (MayBecome Named From Past q i) (sym (now q i)) h)) (all.each q i lt);
            done = λ q i b lt named still. subst (Named q i) (sym (now q i)) (all.done q i b lt named still);
            fresh = λ q i lt from. ⊎_elim (λ e. inl (now q i ∙ e)) (λ h. inr (subst (Named q i) (sym (now q i)) h)) (all.fresh q i lt from);
            cleared = λ q i lt past. now q i ∙ all.cleared q i lt past;
          }

      pub durable_on : RestoresBank Named From Past b0 b1 (Ok (tt {0})) → IsTrue g.tells → g.images (volume_of b1) (g.pages (volume_of b1)) → HasBytesOnDisk g (volume_of b1)
      durable_on s told reads c image q = s.durable told c image q ∙ sym (s.durable told (g.pages (volume_of b1)) reads q)

-- the volume wasn't asked
pub untouched : (M : MayStand) {P : Type 0} (g : disks.Ghosts P) (disk new : P) → new ≡ disk → IsTrue g.tells → ((c : Pages) → g.left_at disk (g.moment disk) c → g.images disk c)
    → CrashLeaves (MayLeave M (bytes_on g disk)) g.images g.moment g.left_at disk new
untouched M g disk new same told only_now = subst (λ d. CrashLeaves (MayLeave M (bytes_on g disk)) g.images g.moment g.left_at disk d) (sym same)
    (no_call g.images g.moment g.left_at (MayLeave M (bytes_on g disk)) disk (may_same M (bytes_on g disk)) only_now)
