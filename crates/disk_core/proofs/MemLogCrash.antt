-- What each call makes of the outcomes of a crash of a log volume in memory.
use Rattle.std.proofs.Common.{◌≡◌, ◌≤◌, inl, inr, ℕ, Bool, false, List, ◌++◌, length, take, drop, Result, Ok, Err, refl, sym, ◌∙◌, ap, subst}
use Rattle.std.specs.Prelude.{OnOk, OnErr, ◌%◌, ◌==◌}
use Rattle.disk_core.specs.Images.{Follows}
use Rattle.disk_core.specs.Volume.{Volume, overlaid, Wrote, Forgot}
use Rattle.disk_core.specs.Volume as volume
use Rattle.disk_core.specs.MemLog.{IsOutcome, mixed, mixed_bytes, outcome_of}
use Rattle.disk_core.specs.declared.media.Crash.{Crash}
use Rattle.disk_core.specs.declared.media.Crash.TheVariants.{Lost, Kept, Torn}
use Rattle.disk_core.proofs.Overlay.{Torn-refl, Torn-overlaid}
use Rattle.disk_core.proofs.Mixed.{mixed_same, Torn-mixed, mixed-front, turned-even}

pub torn_either : {E : Type 0} (r : Result (Unit {0}) E) (old new : List ℕ) (at : ℕ) (from : List ℕ) → OnOk r (new ≡ overlaid old at from) → OnErr r (new ≡ old) → volume.Torn at (length from) old new
torn_either (Ok u) old new at from ok err = subst (λ (l : List ℕ). volume.Torn at (length from) old l) (sym ok) (Torn-overlaid old at from)
torn_either (Err e) old new at from ok err = subst (λ (l : List ℕ). volume.Torn at (length from) old l) (sym err) (Torn-refl at (length from) old)

pub wrote_follows : (at n : ℕ) (s w v : Volume) → Wrote at n w v → Follows (Wrote at n) (IsOutcome s w) (IsOutcome s v)
wrote_follows at n s w v step c (inl e) = (w, inl refl, subst (λ (x : Volume). Wrote at n w x) (sym e) step)
wrote_follows at n s w v step c (inr (inl e)) = (s, inr (inl refl), subst (λ (x : Volume). Wrote at n s x) (sym e) (record { start = refl; torn = Torn-refl at n s.bytes }))
wrote_follows at n s w v step c (inr (inr e)) =
    (mixed s w, inr (inr refl), subst (λ (x : Volume). Wrote at n (mixed s w) x) (sym e) (record { start = step.start; torn = Torn-mixed at n false s.bytes w.bytes v.bytes step.torn }))

pub forgot_follows : (upto : ℕ) (s w v : Volume) → Forgot upto w v → Follows (Forgot upto) (IsOutcome s w) (IsOutcome s v)
forgot_follows upto s w v step c (inl e) = (w, inl refl, subst (λ (x : Volume). Forgot upto w x) (sym e) step)
forgot_follows upto s w v step c (inr (inl e)) = (s, inr (inl refl), subst (λ (x : Volume). Forgot upto s x) (sym e) (record { start = inl refl; bytes = refl }))
forgot_follows upto s w v step c (inr (inr e)) =
    (mixed s w, inr (inr refl), subst (λ (x : Volume). Forgot upto (mixed s w) x) (sym e) (record { start = step.start; bytes = ap (λ (l : List ℕ). mixed_bytes false s.bytes l) step.bytes }))

mixed_is : (v : Volume) → mixed v v ≡ v
mixed_is v i = record { start = v.start; bytes = mixed_same false v.bytes i }

-- after a sync a crash leaves what is read
pub synced_only : (v c : Volume) → IsOutcome v v c → c ≡ v
synced_only v c (inl e) = e
synced_only v c (inr (inl e)) = e
synced_only v c (inr (inr e)) = λ i. chained i
  where
    chained : c ≡ v
    chained = subst (λ (x : Volume). c ≡ x) (mixed_is v) e

pub outcome_of_synced : (s w c : Volume) → IsOutcome w w c → IsOutcome s w c
outcome_of_synced s w c left = inl (synced_only w c left)

-- the same with what was synced spelled otherwise
pub wrote_follows_as : (at n : ℕ) (start : ℕ) (old new : List ℕ) (w v : Volume) → new ≡ old → Wrote at n w v
    → Follows (Wrote at n) (IsOutcome (record { start = start; bytes = old }) w) (IsOutcome (record { start = start; bytes = new }) v)
wrote_follows_as at n start old new w v same step =
    let s : Volume = record { start = start; bytes = old } in
    subst (λ (l : List ℕ). Follows (Wrote at n) (IsOutcome s w) (IsOutcome (record { start = start; bytes = l }) v)) (sym same) (wrote_follows at n s w v step)

-- all of it synced
pub all_synced : (w s v c : Volume) → s ≡ w → v ≡ w → IsOutcome s v c → c ≡ w
all_synced w s v c synced written left = synced_only w c (subst (λ (x : Volume). IsOutcome x w c) synced (subst (λ (x : Volume). IsOutcome s x c) written left))

pub torn_is : (low : ℕ) (w t v : List ℕ) → low ≤ length w → v ≡ take low w ++ mixed_bytes (low % 2 == 1) t (drop low w) → v ≡ mixed_bytes false (take low w ++ t) w
torn_is low w t v le is =
    is ∙ ap (λ (b : Bool). take low w ++ mixed_bytes b t (drop low w)) (sym (turned-even low)) ∙ sym (mixed-front low false t w le)

pub is_log_outcome : (how : Crash) (s w : Volume) → IsOutcome s w (outcome_of how s w)
is_log_outcome Lost s w = inr (inl refl)
is_log_outcome Kept s w = inl refl
is_log_outcome Torn s w = inr (inr refl)
