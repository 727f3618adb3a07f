-- How many checkpoints stand among the first records of a list.
use Rattle.std.proofs.Common.{Bool, List, None, Option, Some, [], ap, arith, cond, false, length, refl, suc, take, true, zero, ℕ, ◌++◌, ◌+◌, ◌==◌, ◌∙◌, ◌∷◌, ◌≡◌, ◌≤◌}
use Rattle.std.specs.List.{cons_option}
use Rattle.std.proofs.lemmas.List.{length-append}
use Rattle.notes.specs.Lists.{own}
use Rattle.tx_events.specs.declared.record.Counters.{Counters}
use Rattle.tx_events.specs.declared.record.Rec.{Rec}
use Rattle.life_law.specs.Checkpoints.{checkpoint_in, checkpoints_in}
use Rattle.tx_core.specs.declared.entry.Entry.{Entry}
use Rattle.tx_core.specs.Entries.{recs_in, session_of}
use Rattle.session_promise.proofs.CheckpointRecords.{checkpoints_append}

abbrev count : List Rec → ℕ
count recs = length (checkpoints_in recs)

cons_up : (o : Option Counters) (a b : List Counters) → length a ≤ length b → length (cons_option o a) ≤ length (cons_option o b)
cons_up None a b le = le
cons_up (Some c) a b le = omega (arith, le)

-- more where the list goes on
pub checkpoints_up : (k : ℕ) (xs ys : List Rec) → count (take k xs) ≤ count (take k (xs ++ ys))
checkpoints_up zero xs ys = omega arith
checkpoints_up (suc k) [] ys = omega arith
checkpoints_up (suc k) (x ∷ xs) ys = cons_up (checkpoint_in x) (checkpoints_in (take k xs)) (checkpoints_in (take k (xs ++ ys))) (checkpoints_up k xs ys)

-- and among more of them
pub checkpoints_to : (k m : ℕ) (xs : List Rec) → k ≤ m → count (take k xs) ≤ count (take m xs)
checkpoints_to zero m xs le = omega arith
checkpoints_to (suc k) zero xs le = absurd (omega (arith, le))
checkpoints_to (suc k) (suc m) [] le = omega arith
checkpoints_to (suc k) (suc m) (x ∷ xs) le = cons_up (checkpoint_in x) (checkpoints_in (take k xs)) (checkpoints_in (take m xs)) (checkpoints_to k m xs (omega (arith, le)))

-- a session's own are no more than all
pub own_fewer : (n : ℕ) (es : List Entry) → count (recs_in (own session_of n es)) ≤ count (recs_in es)
own_fewer n [] = omega arith
own_fewer n (e ∷ es) = step (session_of e == n) (own_fewer n es)
  where
    more : (xs : List Entry) → count (recs_in (e ∷ xs)) ≡ count (recs_in (e ∷ [])) + count (recs_in xs)
    more xs = ap length (checkpoints_append (e ∷ []) xs) ∙ length-append (checkpoints_in (recs_in (e ∷ []))) (checkpoints_in (recs_in xs))

    step : (b : Bool) → count (recs_in (own session_of n es)) ≤ count (recs_in es) → count (recs_in (cond b (e ∷ own session_of n es) (own session_of n es))) ≤ count (recs_in (e ∷ es))
    step true c = let a = more (own session_of n es) in let b = more es in omega (arith, a, b, c)
    step false c = let b = more es in omega (arith, b, c)

pub take_whole : {X : Type 0} (xs : List X) → take (length xs) xs ≡ xs
take_whole [] = refl
take_whole (x ∷ xs) = ap (λ ys. x ∷ ys) (take_whole xs)
