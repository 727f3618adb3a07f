-- A volume without pages, of which no record names one, is as a recovery wants it.
use Rattle.std.proofs.Common.{◌≡◌, true, inl, ⊎_elim, ℕ, ◌<◌, ◌^◌, List, [], ◌∷◌, Contains, slice_index, refl, sym, ap, subst, ◌∙◌}
use Rattle.std.proofs.lemmas.Bool.{and_parts}
use Rattle.std.specs.List.{list_all}
use Rattle.disk_core.specs.Images.{Elapses, NoMore, Only}
use Rattle.disk_core.specs.Pages.{Pages, page_bytes}
use Rattle.disk_core.specs.declared.page_disk.PageDisk as disks
use Rattle.slru_bank.proofs.ZeroBytes.{zero_byte}
use Rattle.slru_bank.specs.Crash.{CrashLeaves, no_call, one_call, runs_then, wider}
use Rattle.tx_events.proofs.ListSteps.{not_both}
use Rattle.tx_events.proofs.Membership.{Has, contains_has}
use Rattle.tx_events.specs.declared.record.Rec.{Rec}
use Rattle.tx_events.specs.declared.record.Rec.TheVariants as records
use Rattle.replay_multis.specs.declared.share.Share.{Share}
use Rattle.replay_multis.specs.Empty.{HasNoPages, IsSameImage, makes_none}
use Rattle.replay_multis.specs.Named.{IsMemberByte, IsOffsetByte}
use Rattle.replay_multis.specs.Restore.{HasBytesOnDisk, RestoresAll, bytes_on}
use Rattle.replay_multis.specs.Steps.{MayLeave, MayStand}
use Rattle.replay_multis.proofs.Stepping.{may_same}

-- ---- calls that change nothing

module _ {P : Type 0} (g : disks.Ghosts P) where
  pub not_asked : (d : P) → ((c : Pages) → g.left_at d (g.moment d) c → g.images d c) → CrashLeaves IsSameImage g.images g.moment g.left_at d d
  not_asked d only_now = no_call g.images g.moment g.left_at IsSameImage d (λ c. record { same = refl }) only_now

  pub asked : (d d1 : P) → Elapses (g.moment d) (g.moment d1) (g.left_at d) (g.left_at d1) (g.images d1) → ((c : Pages) → g.left_at d (g.moment d) c → g.images d c) → NoMore (g.images d) (g.images d1)
      → CrashLeaves IsSameImage g.images g.moment g.left_at d d1
  asked d d1 time only_now no_more = one_call g.images g.moment g.left_at IsSameImage d d1 (λ c. record { same = refl }) time only_now (λ c left. (c, no_more c left, record { same = refl }))

  pub asked_twice : (d d1 d2 : P) → CrashLeaves IsSameImage g.images g.moment g.left_at d d1 → CrashLeaves IsSameImage g.images g.moment g.left_at d1 d2 → CrashLeaves IsSameImage g.images g.moment g.left_at d d2
  asked_twice d d1 d2 first second = runs_then g.images g.moment g.left_at IsSameImage IsSameImage IsSameImage d d1 d2 (λ c e s. s) (λ c e f s t. record { same = t.same ∙ s.same }) first second

  -- ---- what is left

  stays_may : (M : MayStand) (m : ℕ → List ℕ) (c e : Pages) → IsSameImage c e → MayLeave M m c e
  stays_may M m c e s = subst (MayLeave M m c) (sym s.same) (may_same M m c)

  module _ (M : MayStand) (d d1 : P) (first : CrashLeaves IsSameImage g.images g.moment g.left_at d d1) where
    pub left_by_asking : CrashLeaves (MayLeave M (bytes_on g d)) g.images g.moment g.left_at d d1
    left_by_asking = wider g.images g.moment g.left_at IsSameImage (MayLeave M (bytes_on g d)) d d1 (stays_may M (bytes_on g d)) first

    pub left_then : (d2 : P) → g.pages d1 ≡ g.pages d → CrashLeaves (MayLeave M (bytes_on g d1)) g.images g.moment g.left_at d1 d2 → CrashLeaves (MayLeave M (bytes_on g d)) g.images g.moment g.left_at d d2
    left_then d2 same second = runs_then g.images g.moment g.left_at IsSameImage (MayLeave M (bytes_on g d)) (MayLeave M (bytes_on g d)) d d1 d2
        (stays_may M (bytes_on g d))
        (λ c e f s t. subst (λ z. MayLeave M (bytes_on g d) z f) s.same t)
        first
        (subst (λ (p : Pages). CrashLeaves (MayLeave M (λ q. page_bytes (p q))) g.images g.moment g.left_at d1 d2) same second)

  pub empty_on_disk : (d : P) → Only (g.pages d) (g.images d) → HasBytesOnDisk g d
  empty_on_disk d only c image q = ap (λ (p : Pages). page_bytes (p q)) (only c image)

-- ---- what is restored

module _ (Named : MayStand) (From Past : ℕ → ℕ → Type 0) {P : Type 0} (g : disks.Ghosts P) (d d1 : P) (same : g.pages d1 ≡ g.pages d) where
  pub restored_empty : ((q i b : ℕ) → Named q i b → ⊥) → HasNoPages (g.pages d1) → RestoresAll Named From Past (bytes_on g d) (bytes_on g d1)
  restored_empty none empty =
      let zero_at : (q i : ℕ) → q < 2 ^ 32 → slice_index (bytes_on g d1 q) i ≡ 0 = λ q i lt. ap (λ o. slice_index (page_bytes o) i) (empty q lt) ∙ zero_byte i in
      record {
        each = λ q i lt. inl (ap (λ (p : Pages). slice_index (page_bytes (p q)) i) same);
        done = λ q i b lt named still. absurd (none q i b named);
        fresh = λ q i lt from. inl (zero_at q i lt);
        cleared = λ q i lt past. zero_at q i lt;
      }

  pub restored_then : (d2 : P) → RestoresAll Named From Past (bytes_on g d1) (bytes_on g d2) → RestoresAll Named From Past (bytes_on g d) (bytes_on g d2)
  restored_then d2 s = subst (λ (p : Pages). RestoresAll Named From Past (λ q. page_bytes (p q)) (bytes_on g d2)) same s

-- ---- what isn't named

none_makes : (recs : List Rec) (rec : Rec) → list_all makes_none recs ≡ true → Has recs rec → makes_none rec ≡ true
none_makes [] rec all h = absurd h
none_makes (x ∷ recs) rec all h =
    let parts = and_parts (makes_none x) (list_all makes_none recs) all in
    ⊎_elim (λ (e : x ≡ rec). ap makes_none (sym e) ∙ parts.0) (λ (k : Has recs rec). none_makes recs rec parts.1 k) h

module _ (share : Share) (oldest : ℕ) (recs : List Rec) (all : list_all makes_none recs ≡ true) (q i b : ℕ) where
  pub no_offset : IsOffsetByte share oldest recs q i b → ⊥
  no_offset h = not_both (makes_none (records.Multi h.multi h.offset h.members)) (none_makes recs (records.Multi h.multi h.offset h.members) all (contains_has recs (records.Multi h.multi h.offset h.members) h.among)) refl

  pub no_member : (low : ℕ) → IsMemberByte share oldest low recs q i b → ⊥
  no_member low h = not_both (makes_none (records.Multi h.multi h.offset h.members)) (none_makes recs (records.Multi h.multi h.offset h.members) all (contains_has recs (records.Multi h.multi h.offset h.members) h.among)) refl
