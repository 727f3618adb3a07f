-- Which counters checkpoints were asked for with.
use Rattle.std.proofs.Common.{◌≡◌, ◌↔◌, ℕ, zero, suc, ◌+◌, ◌<◌, Bool, true, false, cond, ◌&&◌, List, [], ◌∷◌, ◌++◌, Some, append-nil, take, refl, ap, sym, subst, ◌∙◌, arith, nat_lt}
use Rattle.std.proofs.lemmas.Bool.{and_parts}
use Rattle.std.proofs.lemmas.Bool.Decides.{nat_tests}
use Rattle.std.proofs.lemmas.List.{append_assoc}
use Rattle.std.specs.List.{flat_map, slice_get}
use Rattle.tx_events.specs.declared.record.Counters.{Counters}
use Rattle.tx_model.specs.declared.reply.Reply.{Reply}
use Rattle.tx_model.specs.declared.report.Line.{Line}
use Rattle.tx_model.specs.declared.report.Step.{Step}
use Rattle.tx_model.specs.declared.report.Step.TheVariants as steps
use Rattle.tx_model.specs.Rounds.{lines_in}
use Rattle.report_law.specs.Checkpoints.{counters_behind, same_counters}
use Rattle.report_law.specs.Records.{AreOfCheckpoint}
use Rattle.report_law.specs.Steps.{Judged}
use Rattle.record_rules.specs.AskedFor.{asked_checkpoints, is_checkpoint}
use Rattle.record_rules.proofs.Counting.{equal_same, same_are}

-- somewhere behind these lines a checkpoint was asked for with the counters
record IsAskedIn (j : Judged) (c : Counters) (before : List Line) (xs : List Step) : Type 0 where
  pub place : ℕ
  pub reply : Reply
  pub asked : slice_get xs place ≡ Some (steps.Checkpoint reply)
  pub are : c ≡ counters_behind j (before ++ flat_map lines_in (take place xs))

checkpoint_is : (s : Step) → is_checkpoint s ≡ true → (reply : Reply) × (s ≡ steps.Checkpoint reply)
checkpoint_is (steps.Round number lines) e = absurd cc
checkpoint_is (steps.Checkpoint reply) e = (reply, refl)
checkpoint_is (steps.Dump what at size reply) e = absurd cc

found : (j : Judged) (c : Counters) (before : List Line) (xs : List Step) → 0 < asked_checkpoints j c before xs → IsAskedIn j c before xs
found j c before [] l = absurd (omega arith)
found j c before (s ∷ rest) l = one (is_checkpoint s && same_counters (counters_behind j before) c) refl l (λ m. found j c (before ++ lines_in s) rest m)
  where
    later : IsAskedIn j c (before ++ lines_in s) rest → IsAskedIn j c before (s ∷ rest)
    later i = record {
      place = suc i.place;
      reply = i.reply;
      asked = i.asked;
      are = i.are ∙ ap (counters_behind j) (append_assoc before (lines_in s) (flat_map lines_in (take i.place rest)));
    }

    one : (b : Bool) → (is_checkpoint s && same_counters (counters_behind j before) c) ≡ b → 0 < cond b 1 0 + asked_checkpoints j c (before ++ lines_in s) rest → (0 < asked_checkpoints j c (before ++ lines_in s) rest → IsAskedIn j c (before ++ lines_in s) rest) → IsAskedIn j c before (s ∷ rest)
    one true e m k =
        let parts = and_parts (is_checkpoint s) (same_counters (counters_behind j before) c) e in
        let is = checkpoint_is s parts.0 in
        record {
          place = 0;
          reply = is.0;
          asked = ap Some is.1;
          are = sym (same_are (counters_behind j before) c parts.1) ∙ ap (counters_behind j) (sym (append-nil before));
        }
    one false e m k = later (k (omega arith))

counted : (j : Judged) (c : Counters) (before : List Line) (xs : List Step) (place : ℕ) (reply : Reply) → slice_get xs place ≡ Some (steps.Checkpoint reply) → c ≡ counters_behind j (before ++ flat_map lines_in (take place xs)) → 0 < asked_checkpoints j c before xs
counted j c before [] place reply s is = absurd cc
counted j c before (x ∷ rest) zero reply s is =
    let there : x ≡ steps.Checkpoint reply = cc in
    let same : same_counters (counters_behind j before) c ≡ true = ap (same_counters (counters_behind j before)) (is ∙ ap (counters_behind j) (append-nil before)) ∙ equal_same (counters_behind j before) in
    let here : (is_checkpoint x && same_counters (counters_behind j before) c) ≡ true = ap (λ b. b && same_counters (counters_behind j before) c) (ap is_checkpoint there) ∙ same in
    let one : (k : ℕ) → 0 < 1 + k = λ k. omega arith in
    subst (λ b. 0 < cond b 1 0 + asked_checkpoints j c (before ++ lines_in x) rest) (sym here) (one (asked_checkpoints j c (before ++ lines_in x) rest))
counted j c before (x ∷ rest) (suc place) reply s is =
    let rest_counted : 0 < asked_checkpoints j c (before ++ lines_in x) rest = counted j c (before ++ lines_in x) rest place reply s (is ∙ ap (counters_behind j) (sym (append_assoc before (lines_in x) (flat_map lines_in (take place rest))))) in
    omega arith

pub above_zero : (n : ℕ) → (nat_lt 0 n ≡ true) ↔ (0 < n)
above_zero n = (λ e. grind (arith, nat_tests), λ l. grind (arith, nat_tests))

pub asked_iff : (j : Judged) (c : Counters) → (0 < asked_checkpoints j c [] j.steps) ↔ AreOfCheckpoint j c
asked_iff j c = (
  λ l. let i = found j c [] j.steps l in record { place = i.place; reply = i.reply; asked = i.asked; are = i.are },
  λ a. counted j c [] j.steps a.place a.reply a.asked a.are,
)
