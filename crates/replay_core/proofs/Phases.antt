-- The log's part of a recovery keeps what fits.
use Rattle.std.proofs.Common.{◌≡◌, ◌⊎◌, ⊎_elim, ℕ, zero, suc, ◌+◌, ◌-◌, ◌<◌, ◌≤◌, ◌++◌, List, [], ◌∷◌, length, take, drop, Contains, refl, sym, ap, subst, arith, length-append, ◌∙◌}
use Rattle.std.proofs.Math.Seq.{take-add}
use Rattle.std.proofs.lemmas.List.{length-take-le}
use Rattle.tx_events.specs.declared.record.Rec.{Rec}
use Rattle.tx_events.proofs.Membership.{contains_has, has_contains, has_left}
use Rattle.tx_events.specs.LifeBase.{LifeBase, base_after, committed_in}
use Rattle.disk_core.specs.Pages.{Pages}
use Rattle.recoverable.specs.Fit.{KeptLog, XactFits, base_at, log_end}
use Rattle.recoverable.specs.Volumes.{checkpoint_of}
use Rattle.recoverable.proofs.LogBases.{next_grows, oldest_grows}
use Rattle.tx_events.proofs.BaseSteps.{base_then, checkpoint_settles}
use Rattle.replay_core.specs.Laws.{CheckpointFits, CutFits, end_base, up_to, with_checkpoint}

-- a later base goes on from an earlier one
pub later_base : (log : KeptLog) (f k : ℕ) → log.first ≤ f → f ≤ k → (rest : List Rec) × (base_at log k ≡ base_after (base_at log f) rest)
later_base log f k from le =
    let split : k - log.first ≡ (f - log.first) + (k - f) = omega arith in
    let rest : List Rec = take (k - f) (drop (f - log.first) log.recs) in
    (rest, ap (λ n. base_after log.base (take n log.recs)) split ∙ ap (base_after log.base) (take-add (f - log.first) (k - f) log.recs) ∙ base_then log.base (take (f - log.first) log.recs) (take (k - f) (drop (f - log.first) log.recs)))

module _ {A : Type 0} where
  pub take_take : (n m : ℕ) (xs : List A) → n ≤ m → take n (take m xs) ≡ take n xs
  take_take zero m xs le = refl
  take_take (suc n) zero xs le = absurd (omega arith)
  take_take (suc n) (suc m) [] le = refl
  take_take (suc n) (suc m) (x ∷ xs) le = ap (λ (t : List A). x ∷ t) (take_take n m xs (omega arith))

  pub take_front : (xs rest : List A) (p : ℕ) → p ≤ length xs → take p (xs ++ rest) ≡ take p xs
  take_front xs rest zero le = refl
  take_front [] rest (suc p) le = absurd (omega arith)
  take_front (x ∷ xs) rest (suc p) le = ap (λ (t : List A). x ∷ t) (take_front xs rest p (omega arith))

  pub take_all : (xs : List A) (n : ℕ) → length xs ≤ n → take n xs ≡ xs
  take_all [] zero le = refl
  take_all [] (suc n) le = refl
  take_all (x ∷ xs) zero le = absurd (omega arith)
  take_all (x ∷ xs) (suc n) le = ap (λ (t : List A). x ∷ t) (take_all xs n (omega arith))

-- ---- the log up to a record

pub cut_base : (log : KeptLog) (j k : ℕ) → j ≤ k → base_at (up_to log k) j ≡ base_at log j
cut_base log j k le = ap (base_after log.base) (take_take (j - log.first) (k - log.first) log.recs (omega arith))

pub cut_end : (log : KeptLog) (k : ℕ) → log.first ≤ k → k ≤ log_end log → log_end (up_to log k) ≡ k
cut_end log k from upto = let e = length-take-le (k - log.first) log.recs (omega arith) in omega arith

pub cut_end_base : (log : KeptLog) (k : ℕ) → log.first ≤ k → k ≤ log_end log → end_base (up_to log k) ≡ base_at log k
cut_end_base log k from upto = ap (base_at (up_to log k)) (cut_end log k from upto) ∙ cut_base log k k (omega arith)

pub cut_fits : CutFits
cut_fits banks bank log k n c from le upto begins fits =
    let flushed : base_at (up_to log k) (up_to log k).flushed ≡ base_at log k = cut_base log k k (omega arith) in
    let last : base_at (up_to log k) (log_end (up_to log k)) ≡ base_at log k = cut_end_base log k (omega arith) upto in
    let first : base_at (up_to log k) n ≡ base_at log n = cut_base log n k begins in
    let later = later_base log log.flushed k from le in
    let whole = later_base log k (log_end log) (omega arith) upto in
    let oldest : (base_at log log.flushed).counters.oldest ≤ (base_at log k).counters.oldest = subst (λ (b : LifeBase). (base_at log log.flushed).counters.oldest ≤ b.counters.oldest) (sym later.1) (oldest_grows (base_at log log.flushed).counters later.0) in
    let next : (base_at log k).counters.next ≤ (base_at log (log_end log)).counters.next = subst (λ (b : LifeBase). (base_at log k).counters.next ≤ b.counters.next) (sym whole.1) (next_grows (base_at log k).counters whole.0) in
    let more : (x : ℕ) → Contains (base_at log log.flushed).committed x → Contains (base_at log k).committed x = λ x h. subst (λ (b : LifeBase). Contains b.committed x) (sym later.1)
    (has_contains ((base_at log log.flushed).committed ++ committed_in later.0) x (has_left (base_at log log.flushed).committed (committed_in later.0) x (contains_has (base_at log log.flushed).committed x h))) in
    record {
      committed = λ x among old bank.
          let o : (base_at log k).counters.oldest ≤ x = subst (λ (b : LifeBase). b.counters.oldest ≤ x) flushed old in
          fits.committed x (subst (λ (b : LifeBase). Contains b.committed x) first among) (omega arith) bank;
      no_other = record {
        place = λ x bank code. let y = fits.no_other.place x bank code in (y.0, subst (λ (b : LifeBase). Contains b.committed y.0) (sym flushed) (more y.0 y.1), y.2);
        here = λ x bank old below code.
            let o : (base_at log k).counters.oldest ≤ x = subst (λ (b : LifeBase). b.counters.oldest ≤ x) flushed old in
            let l : x < (base_at log k).counters.next = subst (λ (b : LifeBase). x < b.counters.next) last below in
            subst (λ (b : LifeBase). Contains b.committed x) (sym flushed) (more x (fits.no_other.here x bank (omega arith) (omega arith) code));
      };
    }

-- ---- with a checkpoint

way : (k e : ℕ) → e ≤ k → (k ≡ e) ⊎ (e < k)
way k e le = grind arith

-- the base is the same before it and behind it
pub checkpoint_same : (log : KeptLog) (flushed k : ℕ) → log_end log ≤ k → base_at (with_checkpoint log flushed) k ≡ end_base log
checkpoint_same log flushed k le =
    let behind : List Rec = checkpoint_of (log_end log) (end_base log) in
    let end : base_after log.base log.recs ≡ end_base log = ap (base_after log.base) (sym (take_all log.recs (log_end log - log.first) (omega arith))) in
    ⊎_elim
    (λ (here : k ≡ log_end log). ap (base_after log.base) (ap (λ n. take (n - log.first) (log.recs ++ behind)) here ∙ take_front log.recs behind (log_end log - log.first) (omega arith)))
    (λ (past : log_end log < k).
    let long : length (log.recs ++ behind) ≤ k - log.first = let e = length-append log.recs behind in omega arith in
    ap (base_after log.base) (take_all (log.recs ++ behind) (k - log.first) long) ∙ base_then log.base log.recs behind ∙ ap (λ (b : LifeBase). base_after b behind) end ∙ checkpoint_settles (end_base log) (log_end log))
    (way k (log_end log) le)

-- and before it what it was
pub checkpoint_before : (log : KeptLog) (flushed n : ℕ) → n ≤ log_end log → base_at (with_checkpoint log flushed) n ≡ base_at log n
checkpoint_before log flushed n le = ap (base_after log.base) (take_front log.recs (checkpoint_of (log_end log) (end_base log)) (n - log.first) (omega arith))

pub checkpoint_end : (log : KeptLog) (flushed : ℕ) → log_end (with_checkpoint log flushed) ≡ log_end log + 1
checkpoint_end log flushed = let e = length-append log.recs (checkpoint_of (log_end log) (end_base log)) in omega arith

pub checkpoint_fits : CheckpointFits
checkpoint_fits share log flushed n c le begins clean =
    let at_flushed : base_at (with_checkpoint log flushed) flushed ≡ end_base log = checkpoint_same log flushed flushed le in
    let longer : log_end log ≤ log_end (with_checkpoint log flushed) = let e = checkpoint_end log flushed in omega arith in
    let last : base_at (with_checkpoint log flushed) (log_end (with_checkpoint log flushed)) ≡ end_base log = checkpoint_same log flushed (log_end (with_checkpoint log flushed)) longer in
    let first : base_at (with_checkpoint log flushed) n ≡ base_at log n = checkpoint_before log flushed n begins in
    record {
      committed = λ x among old on. clean.committed x on (grown x (subst (λ (b : LifeBase). Contains b.committed x) first among)) (subst (λ (b : LifeBase). b.counters.oldest ≤ x) at_flushed old);
      no_other = record {
        place = λ x on code. let y = clean.place x on code in (y.0, subst (λ (b : LifeBase). Contains b.committed y.0) (sym at_flushed) y.1, y.2);
        here = λ x on old below code. subst (λ (b : LifeBase). Contains b.committed x) (sym at_flushed)
            (clean.only x on (subst (λ (b : LifeBase). b.counters.oldest ≤ x) at_flushed old) (subst (λ (b : LifeBase). x < b.counters.next) last below) code);
      };
    }
  where
    grown : (x : ℕ) → Contains (base_at log n).committed x → Contains (end_base log).committed x
    grown x h =
        let split : log_end log - log.first ≡ (n - log.first) + (log_end log - log.first - (n - log.first)) = omega arith in
        let rest : List Rec = take (log_end log - log.first - (n - log.first)) (drop (n - log.first) log.recs) in
        let both : end_base log ≡ base_after (base_at log n) rest
        = ap (λ m. base_after log.base (take m log.recs)) split ∙ ap (base_after log.base) (take-add (n - log.first) (log_end log - log.first - (n - log.first)) log.recs) ∙ base_then log.base (take (n - log.first) log.recs) rest in
        subst (λ (b : LifeBase). Contains b.committed x) (sym both) (has_contains ((base_at log n).committed ++ committed_in rest) x (has_left (base_at log n).committed (committed_in rest) x (contains_has (base_at log n).committed x h)))

-- What fits the log fits it with the checkpoint, too, as long as it begins where it did.
pub behind_fits : (banks bank : ℕ) (log : KeptLog) (flushed n : ℕ) (c : Pages) → log.flushed ≡ log_end log → log_end log ≤ flushed → n ≤ log_end log → XactFits banks bank log n c → XactFits banks bank (with_checkpoint log flushed) n c
behind_fits banks bank log flushed n c whole le begins fits =
    let at_flushed : base_at (with_checkpoint log flushed) flushed ≡ base_at log log.flushed = checkpoint_same log flushed flushed le ∙ ap (base_at log) (sym whole) in
    let longer : log_end log ≤ log_end (with_checkpoint log flushed) = let e = checkpoint_end log flushed in omega arith in
    let last : base_at (with_checkpoint log flushed) (log_end (with_checkpoint log flushed)) ≡ end_base log = checkpoint_same log flushed (log_end (with_checkpoint log flushed)) longer in
    let first : base_at (with_checkpoint log flushed) n ≡ base_at log n = checkpoint_before log flushed n begins in
    record {
      committed = λ x among old bank. fits.committed x (subst (λ (b : LifeBase). Contains b.committed x) first among) (subst (λ (b : LifeBase). b.counters.oldest ≤ x) at_flushed old) bank;
      no_other = record {
        place = λ x bank code. let y = fits.no_other.place x bank code in (y.0, subst (λ (b : LifeBase). Contains b.committed y.0) (sym at_flushed) y.1, y.2);
        here = λ x bank old below code. subst (λ (b : LifeBase). Contains b.committed x) (sym at_flushed)
            (fits.no_other.here x bank (subst (λ (b : LifeBase). b.counters.oldest ≤ x) at_flushed old) (subst (λ (b : LifeBase). x < b.counters.next) last below) code);
      };
    }
