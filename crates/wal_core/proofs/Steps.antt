-- Device calls, one after the other.
use Rattle.std.proofs.Common.{ℕ}
use Rattle.disk_core.specs.Volume.{Volume}
use Rattle.disk_core.specs.Images.{NoMore, Follows, Elapses, LeavesOnly}
use Rattle.disk_core.specs.Moments.{started, goes_on}

module _ {D : Type 0} (moment : D → ℕ) (left_at : D → ℕ → Volume → Type 0) (images : D → Volume → Type 0) (P : Volume → Type 0) (first : D) where
  -- so far each moment left what has P, and so does this one
  pub record LeftSoFar (now : D) : Type 0 where
    pub leaves : LeavesOnly moment left_at first now P
    pub here : (c : Volume) → images now c → P c

  pub kept_first : ((c : Volume) → left_at first (moment first) c → images first c) → ((c : Volume) → images first c → P c) → LeftSoFar first
  kept_first only_now here = record {
    leaves = started moment left_at first P (λ c left. here c (only_now c left));
    here = here;
  }

  -- a call after which a crash leaves nothing new
  pub kept_quiet : (mid now : D) → LeftSoFar mid → NoMore (images mid) (images now) → Elapses (moment mid) (moment now) (left_at mid) (left_at now) (images now) → LeftSoFar now
  kept_quiet mid now so_far no_more time =
      let here : (c : Volume) → images now c → P c = λ c left. so_far.here c (no_more c left) in
      record { leaves = goes_on moment left_at first mid now P (images now) so_far.leaves time here; here = here }

  -- a call that does a step to what a crash might have left before
  pub kept_step : (mid now : D) (Step : Volume → Volume → Type 0) → LeftSoFar mid → Follows Step (images mid) (images now) → ((d c : Volume) → images mid d → Step d c → P c)
      → Elapses (moment mid) (moment now) (left_at mid) (left_at now) (images now) → LeftSoFar now
  kept_step mid now Step so_far follows keeps time =
      let here : (c : Volume) → images now c → P c = λ c left. let from = follows c left in keeps from.0 c from.1 from.2 in
      record { leaves = goes_on moment left_at first mid now P (images now) so_far.leaves time here; here = here }

  -- that call alone
  pub one_step : (now : D) (Step : Volume → Volume → Type 0) → ((c : Volume) → left_at first (moment first) c → images first c) → ((c : Volume) → images first c → P c) → Follows Step (images first) (images now)
      → ((d c : Volume) → images first d → Step d c → P c) → Elapses (moment first) (moment now) (left_at first) (left_at now) (images now) → LeavesOnly moment left_at first now P
  one_step now Step only_now here follows keeps time = (kept_step first now Step (kept_first only_now here) follows keeps time).leaves
