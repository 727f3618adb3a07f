-- The moments of a disk that keeps account of them: `leaves m` is what a crash at the moment m may have left.
use Rattle.std.specs.Prelude.{ℕ, zero, suc, ◌≤◌, ◌<◌, List, [], ◌∷◌, ◌++◌, length}
use Rattle.std.proofs.Common.{inr, arith, length-append}
use Rattle.disk_core.specs.Images.{Elapses}

-- past moments in their order, and then this one
abbrev pub LeftAt : {M I : Type 0} → (M → I → Type 0) → List M → (I → Type 0) → ℕ → I → Type 0
LeftAt leaves [] images zero c = images c
LeftAt leaves [] images (suc t) c = ⊥
LeftAt leaves (m ∷ past) images zero c = leaves m c
LeftAt leaves (m ∷ past) images (suc t) c = LeftAt leaves past images t c

module _ {M I : Type 0} (leaves : M → I → Type 0) where
  pub is_now : (past : List M) (images : I → Type 0) (c : I) → images c → LeftAt leaves past images (length past) c
  is_now [] images c left = left
  is_now (m ∷ past) images c left = is_now past images c left

  pub only_now : (past : List M) (images : I → Type 0) (c : I) → LeftAt leaves past images (length past) c → images c
  only_now [] images c left = left
  only_now (m ∷ past) images c left = only_now past images c left

  kept : (past : List M) (m : M) (new : I → Type 0) (t : ℕ) (c : I) → t ≤ length past → LeftAt leaves past (leaves m) t c → LeftAt leaves (past ++ m ∷ []) new t c
  kept [] m new zero c le left = left
  kept [] m new (suc t) c le left = absurd left
  kept (p ∷ past) m new zero c le left = left
  kept (p ∷ past) m new (suc t) c le left = kept past m new t c (omega arith) left

  no_more : (past : List M) (m : M) (new : I → Type 0) (t : ℕ) (c : I) → t ≤ length past → LeftAt leaves (past ++ m ∷ []) new t c → LeftAt leaves past (leaves m) t c
  no_more [] m new zero c le left = left
  no_more [] m new (suc t) c le left = absurd (omega arith)
  no_more (p ∷ past) m new zero c le left = left
  no_more (p ∷ past) m new (suc t) c le left = no_more past m new t c (omega arith) left

  after_all : (past : List M) (m : M) (new : I → Type 0) (t : ℕ) (c : I) → length past < t → LeftAt leaves (past ++ m ∷ []) new t c → new c
  after_all [] m new zero c lt left = absurd (omega arith)
  after_all [] m new (suc zero) c lt left = left
  after_all [] m new (suc (suc t)) c lt left = absurd left
  after_all (p ∷ past) m new zero c lt left = absurd (omega arith)
  after_all (p ∷ past) m new (suc t) c lt left = after_all past m new t c (omega arith) left

  -- the moment before the call joins the past
  pub moment_passes : (past : List M) (m : M) (new : I → Type 0)
      → Elapses (length past) (length (past ++ m ∷ [])) (LeftAt leaves past (leaves m)) (LeftAt leaves (past ++ m ∷ []) new) new
  moment_passes past m new = record {
    later = omega (arith, length-append past (m ∷ []));
    kept = kept past m new;
    no_more = no_more past m new;
    between = λ t c lt le left. inr (after_all past m new t c lt left);
  }

  -- no moment passes
  pub moment_stays : (past : List M) (images : I → Type 0) → Elapses (length past) (length past) (LeftAt leaves past images) (LeftAt leaves past images) images
  moment_stays past images = record {
    later = omega arith;
    kept = λ t c le left. left;
    no_more = λ t c le left. left;
    between = λ t c lt le left. absurd (omega arith);
  }
