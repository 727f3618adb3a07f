-- Checkpoints counted, step by step.
use Rattle.std.proofs.Common.{◌≡◌, ℕ, ◌+◌, ◌<◌, ◌≤◌, ◌^◌, ◌&&◌, Bool, true, false, cond, List, [], ◌∷◌, ◌++◌, length, append-nil, refl, ap, sym, ◌∙◌, arith, unwrap_or}
use Rattle.std.proofs.lemmas.List.{append_assoc}
use Rattle.std.proofs.lemmas.List.Sums.{count_by-le-length, sum_by_push}
use Rattle.std.specs.BTreeMap.{BTreeMap, get}
use Rattle.std.specs.List.{count_by, flat_map}
use Rattle.tx_events.specs.declared.record.Counters.{Counters}
use Rattle.tx_events.specs.declared.record.Rec.{Rec}
use Rattle.tx_events.specs.declared.record.Rec.TheVariants as records
use Rattle.tx_model.specs.declared.reply.Reply.{Reply}
use Rattle.tx_model.specs.declared.reply.Reply.TheVariants as replies
use Rattle.tx_model.specs.declared.report.Line.{Line}
use Rattle.tx_model.specs.declared.report.Step.{Step}
use Rattle.tx_model.specs.declared.report.Step.TheVariants as steps
use Rattle.tx_model.specs.Rounds.{lines_in}
use Rattle.report_law.specs.Checkpoints.{counters_behind, is_checkpoint_of, is_ok_checkpoint, ok_checkpoints, same_counters}
use Rattle.report_law.specs.Steps.{Judged}
use Rattle.record_rules.specs.declared.counts.CountersKey.{CountersKey}
use Rattle.record_rules.specs.AskedFor.{asked_checkpoints, is_checkpoint}
use Rattle.record_rules.specs.Counts.{AreCounted, counters_of, key_cmp, key_of, with_one}

-- what is counted as often as f says is so as g says, where these are the same
pub recounted : (f g : Counters → ℕ) (m : BTreeMap CountersKey ℕ) → ((c : Counters) → f c ≡ g c) → AreCounted f m → AreCounted g m
recounted f g m same a k = a k ∙ same (counters_of k)

-- one more fits
pub one_fits : (f : Counters → ℕ) (m : BTreeMap CountersKey ℕ) (c : Counters) (most : ℕ) → AreCounted f m → f c ≤ most → most < 2 ^ 63 → unwrap_or (get key_cmp m (key_of c)) 0 + 1 < 2 ^ 64
one_fits f m c most a few small = let is : unwrap_or (get key_cmp m (key_of c)) 0 ≡ f c = a (key_of c) in omega arith

-- ---- records

pub records_push : (c : Counters) (recs : List Rec) (r : Rec) → count_by (is_checkpoint_of c) (recs ++ r ∷ []) ≡ count_by (is_checkpoint_of c) recs + cond (is_checkpoint_of c r) 1 0
records_push c recs r = sum_by_push (λ x. cond (is_checkpoint_of c x) 1 0) recs r

plus_none : (n : ℕ) → n + 0 ≡ n
plus_none n = omega arith

pub other_record : (recs : List Rec) (r : Rec) (m : BTreeMap CountersKey ℕ) → ((c : Counters) → is_checkpoint_of c r ≡ false) → AreCounted (λ k. count_by (is_checkpoint_of k) recs) m → AreCounted (λ k. count_by (is_checkpoint_of k) (recs ++ r ∷ [])) m
other_record recs r m none a =
    recounted (λ k. count_by (is_checkpoint_of k) recs) (λ k. count_by (is_checkpoint_of k) (recs ++ r ∷ [])) m
    (λ c. sym (records_push c recs r ∙ ap (λ b. count_by (is_checkpoint_of c) recs + cond b 1 0) (none c) ∙ plus_none (count_by (is_checkpoint_of c) recs))) a

pub checkpoint_record : (recs : List Rec) (number : ℕ) (x : Counters) (m : BTreeMap CountersKey ℕ) → AreCounted (with_one x (λ k. count_by (is_checkpoint_of k) recs)) m → AreCounted (λ k. count_by (is_checkpoint_of k) (recs ++ records.Checkpoint number x ∷ [])) m
checkpoint_record recs number x m a =
    recounted (with_one x (λ k. count_by (is_checkpoint_of k) recs)) (λ k. count_by (is_checkpoint_of k) (recs ++ records.Checkpoint number x ∷ [])) m
    (λ c. sym (records_push c recs (records.Checkpoint number x))) a

pub records_few : (c : Counters) (recs : List Rec) → count_by (is_checkpoint_of c) recs ≤ length recs
records_few c recs = count_by-le-length (is_checkpoint_of c) recs

-- ---- steps

module _ (j : Judged) (c : Counters) where
  asked_from : (s : Step) (xs : List Step) (before : List Line) → asked_checkpoints j c before (xs ++ s ∷ [])
      ≡ asked_checkpoints j c before xs + cond (is_checkpoint s && same_counters (counters_behind j (before ++ flat_map lines_in xs)) c) 1 0
  asked_from s [] before =
      let same : before ++ [] ≡ before = append-nil before in
      let turn : (n : ℕ) → n + 0 ≡ 0 + n = λ n. omega arith in
      turn (cond (is_checkpoint s && same_counters (counters_behind j before) c) 1 0)
      ∙ ap (λ (ls : List Line). 0 + cond (is_checkpoint s && same_counters (counters_behind j ls) c) 1 0) (sym same)
  asked_from s (x ∷ xs) before =
      let here = cond (is_checkpoint x && same_counters (counters_behind j before) c) 1 0 in
      let later = asked_from s xs (before ++ lines_in x) in
      let group : (a b d : ℕ) → a + (b + d) ≡ a + b + d = λ a b d. omega arith in
      ap (λ n. here + n) later
      ∙ ap (λ (ls : List Line). here + (asked_checkpoints j c (before ++ lines_in x) xs + cond (is_checkpoint s && same_counters (counters_behind j ls) c) 1 0)) (append_assoc before (lines_in x) (flat_map lines_in xs))
      ∙ group here (asked_checkpoints j c (before ++ lines_in x) xs) (cond (is_checkpoint s && same_counters (counters_behind j (before ++ flat_map lines_in (x ∷ xs))) c) 1 0)

  done_from : (s : Step) (xs : List Step) (before : List Line) → ok_checkpoints j c before (xs ++ s ∷ [])
      ≡ ok_checkpoints j c before xs + cond (is_ok_checkpoint s && same_counters (counters_behind j (before ++ flat_map lines_in xs)) c) 1 0
  done_from s [] before =
      let same : before ++ [] ≡ before = append-nil before in
      let turn : (n : ℕ) → n + 0 ≡ 0 + n = λ n. omega arith in
      turn (cond (is_ok_checkpoint s && same_counters (counters_behind j before) c) 1 0)
      ∙ ap (λ (ls : List Line). 0 + cond (is_ok_checkpoint s && same_counters (counters_behind j ls) c) 1 0) (sym same)
  done_from s (x ∷ xs) before =
      let here = cond (is_ok_checkpoint x && same_counters (counters_behind j before) c) 1 0 in
      let later = done_from s xs (before ++ lines_in x) in
      let group : (a b d : ℕ) → a + (b + d) ≡ a + b + d = λ a b d. omega arith in
      ap (λ n. here + n) later
      ∙ ap (λ (ls : List Line). here + (ok_checkpoints j c (before ++ lines_in x) xs + cond (is_ok_checkpoint s && same_counters (counters_behind j ls) c) 1 0)) (append_assoc before (lines_in x) (flat_map lines_in xs))
      ∙ group here (ok_checkpoints j c (before ++ lines_in x) xs) (cond (is_ok_checkpoint s && same_counters (counters_behind j (before ++ flat_map lines_in (x ∷ xs))) c) 1 0)

  one_more : (b : Bool) (n m : ℕ) → n ≤ m → cond b 1 0 + n ≤ m + 1
  one_more true n m l = omega arith
  one_more false n m l = omega arith

  pub asked_few : (before : List Line) (xs : List Step) → asked_checkpoints j c before xs ≤ length xs
  asked_few before [] = omega arith
  asked_few before (x ∷ xs) =
      let l = one_more (is_checkpoint x && same_counters (counters_behind j before) c) (asked_checkpoints j c (before ++ lines_in x) xs) (length xs) (asked_few (before ++ lines_in x) xs) in
      omega arith

  pub done_few : (before : List Line) (xs : List Step) → ok_checkpoints j c before xs ≤ length xs
  done_few before [] = omega arith
  done_few before (x ∷ xs) =
      let l = one_more (is_ok_checkpoint x && same_counters (counters_behind j before) c) (ok_checkpoints j c (before ++ lines_in x) xs) (length xs) (done_few (before ++ lines_in x) xs) in
      omega arith

-- a step that isn't asked for
pub asked_other : (j : Judged) (before : List Step) (s : Step) (m : BTreeMap CountersKey ℕ) → is_checkpoint s ≡ false → AreCounted (λ k. asked_checkpoints j k [] before) m → AreCounted (λ k. asked_checkpoints j k [] (before ++ s ∷ [])) m
asked_other j before s m none a =
    recounted (λ k. asked_checkpoints j k [] before) (λ k. asked_checkpoints j k [] (before ++ s ∷ [])) m
    (λ c. sym (asked_from j c s before [] ∙ ap (λ b. asked_checkpoints j c [] before + cond (b && same_counters (counters_behind j (flat_map lines_in before)) c) 1 0) none ∙ plus_none (asked_checkpoints j c [] before))) a

pub done_other : (j : Judged) (before : List Step) (s : Step) (m : BTreeMap CountersKey ℕ) → is_ok_checkpoint s ≡ false → AreCounted (λ k. ok_checkpoints j k [] before) m → AreCounted (λ k. ok_checkpoints j k [] (before ++ s ∷ [])) m
done_other j before s m none a =
    recounted (λ k. ok_checkpoints j k [] before) (λ k. ok_checkpoints j k [] (before ++ s ∷ [])) m
    (λ c. sym (done_from j c s before [] ∙ ap (λ b. ok_checkpoints j c [] before + cond (b && same_counters (counters_behind j (flat_map lines_in before)) c) 1 0) none ∙ plus_none (ok_checkpoints j c [] before))) a

pub asked_one : (j : Judged) (before : List Step) (reply : Reply) (x : Counters) (m : BTreeMap CountersKey ℕ) → x ≡ counters_behind j (flat_map lines_in before) → AreCounted (with_one x (λ k. asked_checkpoints j k [] before)) m → AreCounted (λ k. asked_checkpoints j k [] (before ++ steps.Checkpoint reply ∷ [])) m
asked_one j before reply x m is a =
    recounted (with_one x (λ k. asked_checkpoints j k [] before)) (λ k. asked_checkpoints j k [] (before ++ steps.Checkpoint reply ∷ [])) m
    (λ c. sym (asked_from j c (steps.Checkpoint reply) before [] ∙ ap (λ (y : Counters). asked_checkpoints j c [] before + cond (same_counters y c) 1 0) (sym is))) a

pub done_one : (j : Judged) (before : List Step) (x : Counters) (m : BTreeMap CountersKey ℕ) → x ≡ counters_behind j (flat_map lines_in before) → AreCounted (with_one x (λ k. ok_checkpoints j k [] before)) m → AreCounted (λ k. ok_checkpoints j k [] (before ++ steps.Checkpoint replies.Done ∷ [])) m
done_one j before x m is a =
    recounted (with_one x (λ k. ok_checkpoints j k [] before)) (λ k. ok_checkpoints j k [] (before ++ steps.Checkpoint replies.Done ∷ [])) m
    (λ c. sym (done_from j c (steps.Checkpoint replies.Done) before [] ∙ ap (λ (y : Counters). ok_checkpoints j c [] before + cond (same_counters y c) 1 0) (sym is))) a

pub not_done : (reply : Reply) → (reply ≡ replies.Done → ⊥) → is_ok_checkpoint (steps.Checkpoint reply) ≡ false
not_done replies.Done f = absurd (f refl)
not_done reply f = refl

pub no_ok : (s : Step) → is_checkpoint s ≡ false → is_ok_checkpoint s ≡ false
no_ok (steps.Round number lines) e = refl
no_ok (steps.Checkpoint reply) e = absurd cc
no_ok (steps.Dump what at size reply) e = refl
