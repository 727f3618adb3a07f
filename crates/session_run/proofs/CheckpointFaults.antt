-- Each fault that a checkpoint tells of was counted by its volume.
use Rattle.std.proofs.Common.{Bool, IfSome, List, None, Option, Some, [], ap, append-nil, append_assoc, arith, cond, eqb-true, false, min, refl, subst, sym, true, ℕ, ◌++◌, ◌+◌, ◌-◌, ◌==◌, ◌^◌, ◌∙◌, ◌∷◌, ◌≡◌, ◌≤◌}
use Rattle.disk_core.specs.Faults.{HasRisen}
use Rattle.host_calls.specs.Made.{IsBuilt}
use Rattle.engine_parts.proofs.Leaving.{grows_then}
use Rattle.notes.specs.Lists.{Grows, at}
use Rattle.run_law.proofs.PartSums.{count_push}
use Rattle.session_promise.specs.Causes.{HasRisenBy, failed_volume, is_behind}
use Rattle.session_run.specs.Causes.{AreCheckpointsCounted, AreOfBuilt, checkpoint_faults, failed_by}
use Rattle.tx_core.proofs.LastNumbers.{number_push, number_same}
use Rattle.tx_core.specs.EngineInvariant.{EngineInvariant}
use Rattle.tx_core.specs.FaultsRise.{NeedsCount, count_in, faults_at, faults_told}
use Rattle.tx_core.specs.Locks.{number_of}
use Rattle.tx_core.specs.declared.entry.Entry.{Entry}
use Rattle.tx_core.specs.declared.entry.Start.{Start}
use Rattle.tx_events.proofs.ListSteps.{all_push}
use Rattle.tx_events.proofs.PlaceLemmas.{each_place_last, each_place_start}
use Rattle.tx_events.specs.Places.{EachPlace}
use Rattle.tx_events.specs.declared.refusal.Lock.{Lock}
use Rattle.tx_model.specs.declared.reply.Reply.{Reply}
use Rattle.tx_model.specs.declared.report.Step.{Step}
use Rattle.tx_model.specs.declared.report.Step.TheVariants as steps

-- ---- counts

abbrev one_if : Bool → ℕ
one_if b = cond b 1 0

no_less : (told : ℕ) → min told (2 ^ 64 - 1) ≤ told
no_less told = grind arith

risen : (told count : ℕ) → HasRisen told count → min told (2 ^ 64 - 1) ≤ count
risen told count up = grind arith

through : (a b c : ℕ) → min a (2 ^ 64 - 1) ≤ b → min b (2 ^ 64 - 1) ≤ c → min a (2 ^ 64 - 1) ≤ c
through a b c low high = grind arith

none_yet : (first : ℕ) → min (first + 0) (2 ^ 64 - 1) ≤ first
none_yet first = grind arith

stays : (first n old new : ℕ) → min (first + n) (2 ^ 64 - 1) ≤ old → min old (2 ^ 64 - 1) ≤ new → min (first + n) (2 ^ 64 - 1) ≤ new
stays first n old new before up = grind arith

one_more : (first n old new : ℕ) → min (first + n) (2 ^ 64 - 1) ≤ old → HasRisen old new → min (first + (n + 1)) (2 ^ 64 - 1) ≤ new
one_more first n old new before up = grind arith

-- ---- what a list tells of its volume's count never falls

module _ (start : Start) (lists : List (List Entry)) (lock : ℕ) where
  one_step : (es : List Entry) (e : Entry) (o : Option ℕ) → count_in e.kind ≡ o → IfSome o (HasRisen (faults_told start lock es)) → min (faults_told start lock es) (2 ^ 64 - 1) ≤ faults_told start lock (es ++ e ∷ [])
  one_step es e None is rule = subst (λ z. min (faults_told start lock es) (2 ^ 64 - 1) ≤ z) (sym (number_same count_in (faults_at start lock) es e is)) (no_less (faults_told start lock es))
  one_step es e (Some count) is rule = subst (λ z. min (faults_told start lock es) (2 ^ 64 - 1) ≤ z) (sym (number_push count_in (faults_at start lock) es e count is)) (risen (faults_told start lock es) count rule)

  never_falls : (es more : List Entry) → EachPlace (es ++ more) (NeedsCount start lists lock) → min (faults_told start lock es) (2 ^ 64 - 1) ≤ faults_told start lock (es ++ more)
  never_falls es [] each = subst (λ t. min (faults_told start lock es) (2 ^ 64 - 1) ≤ faults_told start lock t) (sym (append-nil es)) (no_less (faults_told start lock es))
  never_falls es (e ∷ more) each =
      let same : (es ++ e ∷ []) ++ more ≡ es ++ e ∷ more = append_assoc es (e ∷ []) more in
      let all : EachPlace ((es ++ e ∷ []) ++ more) (NeedsCount start lists lock) = subst (λ t. EachPlace t (NeedsCount start lists lock)) (sym same) each in
      let one = one_step es e (count_in e.kind) refl (each_place_last (NeedsCount start lists lock) es e (each_place_start (NeedsCount start lists lock) (es ++ e ∷ []) more all)) in
      subst (λ t. min (faults_told start lock es) (2 ^ 64 - 1) ≤ faults_told start lock t) same
      (through (faults_told start lock es) (faults_told start lock (es ++ e ∷ [])) (faults_told start lock ((es ++ e ∷ []) ++ more)) one (never_falls (es ++ e ∷ []) more all))

told_grows : (start : Start) (before after last : List (List Entry)) (lock : ℕ) → Grows before after → Grows after last → EngineInvariant start last → min (faults_told start lock (at before lock)) (2 ^ 64 - 1) ≤ faults_told start lock (at after lock)
told_grows start before after last lock first then kept =
    let a = first.begins lock in
    let b = then.begins lock in
    let all : EachPlace ((at before lock ++ a.0) ++ b.0) (NeedsCount start last lock) = subst (λ t. EachPlace t (NeedsCount start last lock)) (sym (ap (λ t. t ++ b.0) a.1 ∙ b.1)) (kept.faults.each.each lock) in
    subst (λ t. min (faults_told start lock (at before lock)) (2 ^ 64 - 1) ≤ faults_told start lock t) a.1
    (never_falls start last lock (at before lock) a.0 (each_place_start (NeedsCount start last lock) (at before lock ++ a.0) b.0 all))

-- ---- so the counts of faults that checkpoints were told

pub counted_first : (start : Start) (lists : List (List Entry)) → ((place : ℕ) → at lists place ≡ []) → AreCheckpointsCounted start lists []
counted_first start lists none last grows kept lock =
    subst (λ es. HasRisenBy 0 (faults_at start lock) (faults_told start lock es)) (sym (none lock)) (none_yet (faults_at start lock))

pub built_on : (banks : ℕ) (told : List Step) (step : Step) → failed_by step ≡ None → AreOfBuilt banks told → AreOfBuilt banks (told ++ step ∷ [])
built_on banks told step none all = all_push (λ (s : Step). IfSome (failed_by s) (IsBuilt banks)) told step all (subst (λ f. IfSome f (IsBuilt banks)) (sym none) tt)

pub built_checkpoint : (banks : ℕ) (told : List Step) (reply : Reply) → ((failed : Lock) → failed_volume reply ≡ Some failed → IsBuilt banks failed) → AreOfBuilt banks told → AreOfBuilt banks (told ++ steps.Checkpoint reply ∷ [])
built_checkpoint banks told reply built all = all_push (λ (s : Step). IfSome (failed_by s) (IsBuilt banks)) told (steps.Checkpoint reply) all (by_volume (failed_volume reply) refl)
  where
    by_volume : (o : Option Lock) → failed_volume reply ≡ o → IfSome o (IsBuilt banks)
    by_volume None e = tt
    by_volume (Some failed) e = built failed e

-- steps that are no checkpoint tell of none
pub counted_on : (start : Start) (before after : List (List Entry)) (told : List Step) (step : Step) → Grows before after → failed_by step ≡ None → AreCheckpointsCounted start before told → AreCheckpointsCounted start after (told ++ step ∷ [])
counted_on start before after told step grows none counted last then kept lock =
    let same : checkpoint_faults (told ++ step ∷ []) lock ≡ checkpoint_faults told lock + one_if (is_behind lock (failed_by step)) = count_push (λ (s : Step). is_behind lock (failed_by s)) told step in
    let zero : one_if (is_behind lock (failed_by step)) ≡ 0 = ap (λ f. one_if (is_behind lock f)) none in
    let many : checkpoint_faults told lock ≡ checkpoint_faults (told ++ step ∷ []) lock = omega (arith, same, zero) in
    subst (λ n. HasRisenBy n (faults_at start lock) (faults_told start lock (at after lock))) many
    (stays (faults_at start lock) (checkpoint_faults told lock) (faults_told start lock (at before lock)) (faults_told start lock (at after lock))
    (counted last (grows_then before after last grows then) kept lock) (told_grows start before after last lock grows then kept))

-- and a checkpoint tells of one where that volume's count rose
pub counted_checkpoint : (start : Start) (before after : List (List Entry)) (told : List Step) (reply : Reply) → Grows before after
    → ((failed : Lock) → failed_volume reply ≡ Some failed → HasRisen (faults_told start (number_of failed) (at before (number_of failed))) (faults_told start (number_of failed) (at after (number_of failed))))
    → AreCheckpointsCounted start before told → AreCheckpointsCounted start after (told ++ steps.Checkpoint reply ∷ [])
counted_checkpoint start before after told reply grows cause counted last then kept lock =
    subst (λ n. HasRisenBy n first (faults_told start lock (at after lock))) (sym (count_push (λ (s : Step). is_behind lock (failed_by s)) told step))
    (by_volume (failed_volume reply) refl)
  where
    first : ℕ
    first = faults_at start lock

    step : Step
    step = steps.Checkpoint reply

    so_far : HasRisenBy (checkpoint_faults told lock) first (faults_told start lock (at before lock))
    so_far = counted last (grows_then before after last grows then) kept lock

    same : HasRisenBy (checkpoint_faults told lock + 0) first (faults_told start lock (at after lock))
    same =
        let none : checkpoint_faults told lock ≡ checkpoint_faults told lock + 0 = omega arith in
        subst (λ n. HasRisenBy n first (faults_told start lock (at after lock))) none
        (stays first (checkpoint_faults told lock) (faults_told start lock (at before lock)) (faults_told start lock (at after lock)) so_far (told_grows start before after last lock grows then kept))

    by_volume : (o : Option Lock) → failed_volume reply ≡ o → HasRisenBy (checkpoint_faults told lock + one_if (is_behind lock o)) first (faults_told start lock (at after lock))
    by_volume None e = same
    by_volume (Some failed) e = by_number (number_of failed == lock) refl
      where
        by_number : (b : Bool) → (number_of failed == lock) ≡ b → HasRisenBy (checkpoint_faults told lock + one_if b) first (faults_told start lock (at after lock))
        by_number false q = same
        by_number true q =
            let up : HasRisen (faults_told start lock (at before lock)) (faults_told start lock (at after lock)) = subst (λ k. HasRisen (faults_told start k (at before k)) (faults_told start k (at after k))) (eqb-true (number_of failed) lock q) (cause failed e) in
            one_more first (checkpoint_faults told lock) (faults_told start lock (at before lock)) (faults_told start lock (at after lock)) so_far up
