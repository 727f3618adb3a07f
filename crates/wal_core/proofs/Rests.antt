-- A volume that opens is at rest: whole batches up to a closed gate.
use Rattle.std.proofs.Common.{◌≡◌, ◌≢◌, ℕ, zero, suc, ◌+◌, ◌<◌, ◌≤◌, ◌^◌, Bool, true, false, cond, eqb, ltb, List, [], ◌∷◌, ◌++◌, length, take, drop, slice_index, Option, Some, None, refl, sym, ◌∙◌, ap, subst, arith}
use Rattle.std.specs.List.{AllByRecursion}
use Rattle.std.proofs.lemmas.Bool.{eqb-true, ltb-false}
use Rattle.std.proofs.lemmas.List.{take-append-drop, length-take, length-append, drop-take, drop-drop, drop_more, drop_at}
use Rattle.std.proofs.Math.Seq.{take-append-add}
use Rattle.disk_core.specs.Volume.{Volume}
use Rattle.wal_records.specs.Numbers.{le_bytes}
use Rattle.wal_records.specs.Reading.{number_at}
use Rattle.wal_core.specs.Opening.{Walked, ended, behind, walk, batch_at, batch_bytes, batches_bytes, BeginsOpen, AtRest}
use Rattle.wal_records.proofs.Fields.{IsBytes, IsBytes-drop, IsBytes-rest, bind_some, guard_some, number_takes}
use Rattle.wal_core.proofs.Walks.{length-batch_bytes, batch_in_front}
use Rattle.wal_core.proofs.Scanning.{shorter}

pub record TakesBatch (xs body rest : List ℕ) : Type 0 where
  pub spelled : xs ≡ le_bytes 4 (length body) ++ (body ++ rest)
  pub few : length body < 2 ^ 32
  pub rest_fits : IsBytes rest

batch_takes : (xs body rest : List ℕ) → IsBytes xs → batch_at xs ≡ Some (body, rest) → TakesBatch xs body rest
unfolding batch_at
batch_takes xs body rest fit e =
    let b = bind_some (number_at 4 xs) (λ n. cond (ltb (length n.1) n.0) None (Some (take n.0 n.1, drop n.0 n.1))) (body, rest) e in
    let n : ℕ = b.0.0 in let l : List ℕ = b.0.1 in
    let g = guard_some (ltb (length l) n) (take n l, drop n l) (body, rest) b.2 in
    let t = number_takes 4 xs n l fit b.1 in
    let le : n ≤ length l = ltb-false (length l) n g.0 in
    let body_is : take n l ≡ body = ap (λ (p : List ℕ × List ℕ). p.0) g.1 in
    let rest_is : drop n l ≡ rest = ap (λ (p : List ℕ × List ℕ). p.1) g.1 in
    let long : length body ≡ n = sym (ap length body_is) ∙ omega (arith, length-take n l) in
    let whole : l ≡ body ++ rest = sym (take-append-drop n l) ∙ (λ i. body_is i ++ rest_is i) in
    record {
      spelled = t.0.parts ∙ (λ i. le_bytes 4 (sym long i) ++ whole i);
      few = omega (arith, long, t.1);
      rest_fits = subst IsBytes rest_is (IsBytes-drop n l t.0.rest_fits);
    }

-- what is met from a gate on
pub record RestsAs (w : Walked) (xs : List ℕ) : Type 0 where
  pub front : take w.reach xs ≡ batches_bytes w.bodies
  pub fits : AllByRecursion (λ b. length b < 2 ^ 32) w.bodies
  pub within : w.reach ≤ length xs
  pub closed : BeginsOpen (drop w.reach xs) → ⊥

rests_end : (xs : List ℕ) → (BeginsOpen xs → ⊥) → RestsAs (ended true) xs
rests_end xs shut = record { front = refl; fits = tt; within = omega arith; closed = shut }

abbrev one_more : List ℕ → Walked → Walked
one_more body w = record { bodies = body ∷ w.bodies; reach = 5 + length body + w.reach; whole = w.whole }

rests_more : (xs body rest : List ℕ) (w : Walked) → TakesBatch xs body rest → RestsAs w rest → RestsAs (one_more body w) (1 ∷ xs)
rests_more xs body rest w took rests =
    let b : List ℕ = batch_bytes body in
    let whole : 1 ∷ xs ≡ b ++ rest = ap (λ (l : List ℕ). 1 ∷ l) took.spelled ∙ sym (batch_in_front body rest) in
    let size : 5 + length body + w.reach ≡ length b + w.reach = omega (arith, length-batch_bytes body) in
    let back : drop (length b + w.reach) (b ++ rest) ≡ drop w.reach rest =
    sym (drop-drop w.reach (length b) (b ++ rest)) ∙ ap (drop w.reach) (drop_at b rest (length b) refl) in
    record {
      front = (λ i. take (size i) (whole i)) ∙ take-append-add b rest w.reach ∙ ap (λ (l : List ℕ). b ++ l) rests.front;
      fits = (took.few, rests.fits);
      within = omega (arith, ap length whole, length-append b rest, size, rests.within);
      closed = λ opens. rests.closed (subst BeginsOpen ((λ i. drop (size i) (whole i)) ∙ back) opens);
    }

rests_step : (n : ℕ) (xs : List ℕ) → IsBytes xs → length xs < n → ((ys : List ℕ) → IsBytes ys → length ys < n → (walk n ys).whole ≡ true → RestsAs (walk n ys) ys)
    → (b : Option (List ℕ × List ℕ)) → batch_at xs ≡ b → (behind b (walk n)).whole ≡ true → RestsAs (behind b (walk n)) (1 ∷ xs)
rests_step n xs fit lt so None e whole = absurd cc
rests_step n xs fit lt so (Some p) e whole =
    let took = batch_takes xs p.0 p.1 fit e in
    rests_more xs p.0 p.1 (walk n p.1) took (so p.1 took.rest_fits (omega (arith, shorter xs p.0 p.1 e, lt)) whole)

by_gate : (n g : ℕ) (xs : List ℕ) (t : Bool) → eqb g 1 ≡ t → ((behind (batch_at xs) (walk n)).whole ≡ true → RestsAs (behind (batch_at xs) (walk n)) (1 ∷ xs))
    → (cond t (behind (batch_at xs) (walk n)) (ended true)).whole ≡ true → RestsAs (cond t (behind (batch_at xs) (walk n)) (ended true)) (g ∷ xs)
by_gate n g xs true e so whole = subst (λ (k : ℕ). RestsAs (behind (batch_at xs) (walk n)) (k ∷ xs)) (sym (eqb-true g 1 e)) (so whole)
by_gate n g xs false e so whole = rests_end (g ∷ xs) (λ opens. apart (sym (ap (λ (k : ℕ). eqb k 1) opens) ∙ e))
  where
    apart : true ≡ false → ⊥
    apart e = cc

pub walk_rests : (n : ℕ) (xs : List ℕ) → IsBytes xs → length xs < n → (walk n xs).whole ≡ true → RestsAs (walk n xs) xs
unfolding walk
walk_rests zero xs fit lt whole = absurd (omega arith)
walk_rests (suc n) [] fit lt whole = rests_end [] (λ no. no)
walk_rests (suc n) (g ∷ xs) fit lt whole =
    let fit_2 : IsBytes xs = IsBytes-rest g xs fit in
    by_gate n g xs (eqb g 1) refl (λ w. rests_step n xs fit_2 (omega arith) (walk_rests n) (batch_at xs) refl w) whole

-- a volume with these batches up to a closed gate
pub rests_on : (v u : Volume) (w : Walked) → RestsAs w (drop v.start v.bytes) → u.start ≡ v.start → take (v.start + w.reach) u.bytes ≡ take (v.start + w.reach) v.bytes
    → v.start + w.reach < length u.bytes → slice_index u.bytes (v.start + w.reach) ≢ 1 → AtRest u w.bodies (v.start + w.reach)
rests_on v u w rests start front within closed = record {
  begins = omega (arith, start);
  front = (λ i. drop (start i) (front i)) ∙ drop-take v.start w.reach v.bytes ∙ rests.front;
  fits = rests.fits;
  within = within;
  closed = closed;
}

-- where a byte stands behind it, the gate is closed
pub gate_closed : (v : Volume) (w : Walked) → RestsAs w (drop v.start v.bytes) → v.start + w.reach < length v.bytes → slice_index v.bytes (v.start + w.reach) ≢ 1
gate_closed v w rests within opens =
    let gate : ℕ = v.start + w.reach in
    rests.closed (subst BeginsOpen (sym (drop-drop w.reach v.start v.bytes ∙ drop_more v.bytes gate 0 within)) opens)
