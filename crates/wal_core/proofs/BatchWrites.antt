-- The two synced writes of a batch, and what a crash in the middle of each leaves.
use Rattle.std.proofs.Common.{◌≡◌, inl, ℕ, ◌+◌, List, [], ◌∷◌, ◌++◌, length, slice_index, Result, Ok, Err, refl, sym, ◌∙◌, ap, subst, arith}
use Rattle.std.specs.Prelude.{OnOk}
use Rattle.std.proofs.lemmas.List.{take_min}
use Rattle.disk_core.specs.Images.{Only}
use Rattle.disk_core.specs.Volume.{Volume, Wrote, overlaid}
use Rattle.wal_core.specs.Opening.{walked, AtRest, body_in, IsBehindGate}
use Rattle.wal_core.specs.Crash.{IsFromImage, IsWritten}
use Rattle.wal_core.proofs.Gates.{Staged, torn_behind, torn_gate, written_behind, written_gate, written_zero, length-behind}

-- a write that did nothing
pub unwritten : (at n : ℕ) (v : Volume) → Wrote at n v v
unwritten at n v = record {
  start = refl;
  torn = record { before = take_min at v.bytes; after = refl; no_shorter = omega arith; no_longer = omega arith };
}

pub on_ok : {T E P Q : Type 0} (r : Result T E) → OnOk r P → (P → Q) → OnOk r Q
on_ok (Ok x) p f = f p
on_ok (Err e) p f = tt

module _ (images : Volume → Type 0) (gate : ℕ) (behind : List ℕ) (is : IsBehindGate behind) (rest : (c : Volume) → images c → AtRest c (walked c).bodies gate) where
  abbrev body : List ℕ
  body = body_in behind

  size : gate + (5 + length body) ≡ gate + length behind
  size = ap (λ (k : ℕ). gate + k) (sym (length-behind body) ∙ sym (ap length is.spelled))

  -- the batch is written in part: the gate stays closed
  pub torn_batch : (c : Volume) → IsWritten images (gate + 1) (length behind) c → IsFromImage images gate (body_in behind) c
  torn_batch c from = (from.0, from.1, inl (torn_behind from.0 (walked from.0).bodies gate (rest from.0 from.1) (length behind) c from.2))

  -- it is on the disk, which reads so
  module _ (v w : Volume) (now : images v) (start : w.start ≡ v.start) (done : w.bytes ≡ overlaid v.bytes (gate + 1) behind) where
    staged : Staged v (walked v).bodies gate (rest v now) body w
    staged = written_behind v (walked v).bodies gate (rest v now) body w start (done ∙ ap (λ (l : List ℕ). overlaid v.bytes (gate + 1) l) is.spelled)

    -- the gate is written in part: any value is open or closed
    pub torn_opening : (mid : Volume → Type 0) → Only w mid → (c : Volume) → IsWritten mid gate 1 c → IsFromImage images gate (body_in behind) c
    torn_opening mid only c from =
        (v, now, torn_gate v (walked v).bodies gate (rest v now) body w c is.few staged (subst (λ (z : Volume). Wrote gate 1 z c) (only from.0 from.1) from.2))

    -- the gate is open
    module _ (u : Volume) (start_2 : u.start ≡ w.start) (done_2 : u.bytes ≡ overlaid w.bytes gate (1 ∷ [])) where
      pub with_batch : AtRest u ((walked v).bodies ++ body_in behind ∷ []) (gate + length behind)
      with_batch = subst (λ (k : ℕ). AtRest u ((walked v).bodies ++ body ∷ []) k) size (written_gate v (walked v).bodies gate (rest v now) body w u is.few staged start_2 done_2)

      pub zero_at_end : slice_index u.bytes (gate + length behind) ≡ 0
      zero_at_end = ap (λ (k : ℕ). slice_index u.bytes k) (sym size) ∙ written_zero v (walked v).bodies gate (rest v now) body w u staged done_2
