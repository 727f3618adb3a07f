-- How a run of device calls goes on: lemmas that the crates above use.
use Rattle.std.specs.Prelude.{◌≡◌, ℕ, ◌≤◌}
use Rattle.std.proofs.Common.{inl, inr, ⊎_elim, arith, subst}
use Rattle.std.proofs.lemmas.Bool.{cases_lt}
use Rattle.disk_core.specs.Images.{Elapses, LeavesOnly}

module _ {D I : Type 0} (moment : D → ℕ) (left_at : D → ℕ → I → Type 0) where
  -- before the first call
  pub started : (old : D) (P : I → Type 0) → ((c : I) → left_at old (moment old) c → P c) → LeavesOnly moment left_at old old P
  started old P here = record {
    later = omega arith;
    each = λ t c from to left. here c (subst (λ (k : ℕ). left_at old k c) (same t from to) left);
    kept = λ t c le left. left;
    no_more = λ t c le left. left;
  }
    where
      same : (t : ℕ) → moment old ≤ t → t ≤ moment old → t ≡ moment old
      same t from to = omega arith

  -- one call more, after which a crash leaves what has P
  pub goes_on : (old mid new : D) (P images : I → Type 0) → LeavesOnly moment left_at old mid P → Elapses (moment mid) (moment new) (left_at mid) (left_at new) images
      → ((c : I) → images c → P c) → LeavesOnly moment left_at old new P
  goes_on old mid new P images so_far time here = record {
    later = omega (arith, so_far.later, time.later);
    each = λ t c from to left. elim (cases_lt (moment mid) t) [
      | inl after ↦ ⊎_elim (λ (was : left_at mid (moment mid) c). so_far.each (moment mid) c so_far.later (omega arith) was) (here c) (time.between t c after to left)
      | inr before ↦ so_far.each t c from before (time.no_more t c before left)
    ];
    kept = λ t c le left. time.kept t c (omega (arith, le, so_far.later)) (so_far.kept t c le left);
    no_more = λ t c le left. so_far.no_more t c le (time.no_more t c (omega (arith, le, so_far.later)) left);
  }

  -- one run after another
  pub run_then : (old mid new : D) (P Q : I → Type 0) → LeavesOnly moment left_at old mid P → LeavesOnly moment left_at mid new Q → ((c : I) → Q c → P c) → LeavesOnly moment left_at old new P
  run_then old mid new P Q first second keeps = record {
    later = omega (arith, first.later, second.later);
    each = λ t c from to left. elim (cases_lt (moment mid) t) [
      | inl after ↦ keeps c (second.each t c (omega (arith, after)) to left)
      | inr before ↦ first.each t c from before (second.no_more t c before left)
    ];
    kept = λ t c le left. second.kept t c (omega (arith, le, first.later)) (first.kept t c le left);
    no_more = λ t c le left. first.no_more t c le (second.no_more t c (omega (arith, le, first.later)) left);
  }

  -- what has P has Q
  pub leaves_weaker : (old new : D) (P Q : I → Type 0) → LeavesOnly moment left_at old new P → ((c : I) → P c → Q c) → LeavesOnly moment left_at old new Q
  leaves_weaker old new P Q leaves keeps = record {
    later = leaves.later;
    each = λ t c from to left. keeps c (leaves.each t c from to left);
    kept = leaves.kept;
    no_more = leaves.no_more;
  }
