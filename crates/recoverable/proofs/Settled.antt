-- What a recovery makes of a log.
use Rattle.std.proofs.Common.{List, [], ap, arith, drop, length, length-append, refl, sym, take, ℕ, suc, zero, ⊎_elim, ◌+◌, ◌-◌, ◌<◌, ◌∙◌, ◌∷◌, ◌≡◌, ◌≤◌}
use Rattle.std.proofs.Math.Seq.{take-length}
use Rattle.std.proofs.lemmas.List.{drop-take, length-drop, length-take-le, take-append-drop, take-append-le}
use Rattle.tx_events.proofs.ListSteps.{le_or_over}
use Rattle.tx_events.specs.declared.record.Rec.{Rec}
use Rattle.recoverable.specs.Fit.{KeptLog, base_at, log_end, recs_below}
use Rattle.tx_events.specs.LifeBase.{LifeBase, base_after}
use Rattle.recoverable.specs.Volumes.{KeepsUpTo, RecoverySettles, RefusalKeeps, checkpoint_of}
use Rattle.tx_events.proofs.BaseSteps.{base_then, checkpoint_settles}

module _ {A : Type 0} where
  take_shorter : (s t : ℕ) (xs : List A) → s ≤ t → take s (take t xs) ≡ take s xs
  take_shorter zero t xs le = refl
  take_shorter (suc s) zero xs le = absurd (omega arith)
  take_shorter (suc s) (suc t) [] le = refl
  take_shorter (suc s) (suc t) (x ∷ xs) le = ap (λ (l : List A). x ∷ l) (take_shorter s t xs (omega arith))

module _ (log later : KeptLog) (k : ℕ) (behind : List Rec) (keeps : KeepsUpTo log later k behind) where
  -- the records of the log from the later one's first on give the log's bases
  bases_from : (j : ℕ) → later.first ≤ j → base_after later.base (drop (later.first - log.first) (recs_below log j)) ≡ base_at log j
  bases_from j le =
      let a : ℕ = later.first - log.first in
      let below : List Rec = recs_below log j in
      let front : take a below ≡ recs_below log later.first = take_shorter a (j - log.first) log.recs (omega arith) in
      ap (λ (b : LifeBase). base_after b (drop a below)) (keeps.base ∙ ap (base_after log.base) (sym front))
      ∙ sym (base_then log.base (take a below) (drop a below))
      ∙ ap (base_after log.base) (take-append-drop a below)

  kept_count : length (drop (later.first - log.first) (recs_below log k)) ≡ k - later.first
  kept_count =
      let upto = keeps.upto in let from = keeps.from in let within = keeps.within in
      let all : length (recs_below log k) ≡ k - log.first = length-take-le (k - log.first) log.recs (omega arith) in
      let rest = length-drop (later.first - log.first) (recs_below log k) in omega arith

  later_count : log_end later ≡ k + length behind
  later_count =
      let within = keeps.within in let count = kept_count in
      let all : length later.recs ≡ length (drop (later.first - log.first) (recs_below log k)) + length behind
      = ap (λ (t : List Rec). length t) keeps.recs ∙ length-append (drop (later.first - log.first) (recs_below log k)) behind in omega arith

  -- up to that number the later log gives the bases of the log
  bases_upto : (j : ℕ) → later.first ≤ j → j ≤ k → base_at later j ≡ base_at log j
  bases_upto j low high =
      let from = keeps.from in
      let a : ℕ = later.first - log.first in
      let m : ℕ = j - later.first in
      let below : List Rec = recs_below log k in
      let count = kept_count in
      let place : a + m ≡ j - log.first = omega arith in
      let front : take m later.recs ≡ drop a (recs_below log j)
      = ap (λ (t : List Rec). take m t) keeps.recs
      ∙ take-append-le m (drop a below) behind (omega arith)
      ∙ sym (drop-take a m below)
      ∙ ap (λ (t : List Rec). drop a t) (take_shorter (a + m) (k - log.first) log.recs (omega arith) ∙ ap (λ z. take z log.recs) place) in
      ap (base_after later.base) front ∙ bases_from j low

  -- and behind it what the records there make of the base
  base_behind : (j : ℕ) → j ≡ log_end later → base_at later j ≡ base_after (base_at log k) behind
  base_behind j end =
      let count : j - later.first ≡ length later.recs = omega arith in
      let kept : List Rec = drop (later.first - log.first) (recs_below log k) in
      ap (λ z. base_after later.base (take z later.recs)) count
      ∙ ap (base_after later.base) (take-length later.recs ∙ keeps.recs)
      ∙ base_then later.base kept behind
      ∙ ap (λ (b : LifeBase). base_after b behind) (bases_from k keeps.within)

pub recovery_settles : RecoverySettles
recovery_settles log later from base same keeps flushed =
    let behind : List Rec = checkpoint_of from base in
    let end : log_end later ≡ from + 1 = later_count log later from behind keeps in
    record {
      end = end;
      flushed = flushed;
      kept = λ k low high.
          base_behind log later from behind keeps k (omega arith)
          ∙ ap (λ (b : LifeBase). base_after b behind) same
          ∙ checkpoint_settles base from;
    }

pub refusal_keeps : RefusalKeeps
refusal_keeps log later k recovers list low high =
    let upto : ℕ = recovers.upto in
    let first = list.from in
    let found : (behind : List Rec) → KeepsUpTo log later upto behind → k ≤ upto → (j : ℕ) × (log.flushed ≤ j) × (j ≤ log_end log) × (base_at later k ≡ base_at log j)
    = λ behind keeps le. let end = keeps.upto in let on = keeps.flushed in (k, omega arith, omega arith, bases_upto log later upto behind keeps k (omega arith) le) in
    ⊎_elim
    (λ (keeps : KeepsUpTo log later upto []).
    let end : log_end later ≡ upto + 0 = later_count log later upto [] keeps in found [] keeps (omega arith))
    (λ (keeps : KeepsUpTo log later upto (checkpoint_of upto (base_at log upto))).
    let behind : List Rec = checkpoint_of upto (base_at log upto) in
    let end : log_end later ≡ upto + 1 = later_count log later upto behind keeps in
    ⊎_elim
    (λ (le : k ≤ upto). found behind keeps le)
    (λ (lt : upto < k). (upto, keeps.flushed_before, keeps.upto, base_behind log later upto behind keeps k (omega arith) ∙ checkpoint_settles (base_at log upto) upto))
    (le_or_over k upto))
    recovers.keeps
