-- Each life begins from what the run's one log gives below its first record.
use Rattle.std.proofs.Common.{List, Some, [], ap, append-nil, arith, length, refl, suc, sym, take, zero, ℕ, ◌++◌, ◌+◌, ◌-◌, ◌∙◌, ◌∷◌, ◌≡◌, ◌≤◌, slice_get}
use Rattle.std.proofs.Math.Seq.{take-append-add}
use Rattle.std.proofs.lemmas.List.{length-take-le}
use Rattle.std.proofs.lemmas.Option.{same_Some}
use Rattle.tx_events.specs.LifeBase.{LifeBase, base_after}
use Rattle.tx_events.proofs.BaseSteps.{base_then}
use Rattle.tx_events.specs.declared.record.Rec.{Rec}
use Rattle.tx_model.specs.declared.report.LifeReport.{LifeReport}
use Rattle.life_law.specs.Laws.{IsLawful}
use Rattle.report_law.specs.Laws.{BasesAreOfOneLog}
use Rattle.report_law.specs.Lives.{GoOn, base_of, recs_below, run_recs}

abbrev AreLawful : List LifeReport → Type 0
AreLawful lives = (k : ℕ) (r : LifeReport) → slice_get lives k ≡ Some r → IsLawful r

behind_none : (base : LifeBase) → base_after base [] ≡ base
behind_none base = λ i. record { counters = base.counters; committed = append-nil base.committed i; recorded = append-nil base.recorded i }

-- a life begins behind the records of those before it
rises : (a : LifeReport) (lives : List LifeReport) (n : ℕ) (c : LifeReport) → AreLawful (a ∷ lives) → GoOn (a ∷ lives) → slice_get (a ∷ lives) n ≡ Some c → a.life.from ≤ c.life.from
rises a lives zero c lawful go at_c = let same = ap (λ (r : LifeReport). r.life.from) (same_Some a c at_c) in omega (arith, same)
rises a [] (suc n) c lawful go at_c = absurd cc
rises a (s ∷ lives) (suc n) c lawful go at_c =
    let begun = (lawful zero a refl).life.log.begun in
    let flushed = go.0.flushed in
    let rest = rises s lives n c (λ k r e. lawful (suc k) r e) go.1 at_c in
    omega (arith, begun, flushed, rest)

pub bases_are_of_one_log : BasesAreOfOneLog
bases_are_of_one_log first lives zero b lawful go at_b =
    let same : first ≡ b = same_Some first b at_b in
    let none : b.life.from - first.life.from ≡ 0 = (let f = ap (λ (r : LifeReport). r.life.from) same in omega (arith, f)) in
    ap (λ (r : LifeReport). base_of r.life) (sym same)
    ∙ (sym (behind_none (base_of first.life)) ∙ ap (λ k. base_after (base_of first.life) (take k (run_recs (first ∷ lives)))) (sym none))
bases_are_of_one_log first [] (suc n) b lawful go at_b = absurd cc
bases_are_of_one_log first (s ∷ lives) (suc n) b lawful go at_b =
    let rest = run_recs (s ∷ lives) in
    let own = recs_below first.life s.life.from in
    let later : AreLawful (s ∷ lives) = λ k r e. lawful (suc k) r e in
    let begun = (lawful zero first refl).life.log.begun in
    let flushed = go.0.flushed in
    let upto = go.0.upto in
    let up = rises s lives n b later go.1 at_b in
    let size : length own ≡ s.life.from - first.life.from = length-take-le (s.life.from - first.life.from) first.life.recs (omega (arith, upto, begun, flushed)) in
    let sum : b.life.from - first.life.from ≡ length own + (b.life.from - s.life.from) = omega (arith, size, up, begun, flushed) in
    bases_are_of_one_log s lives n b later go.1 at_b
    ∙ (ap (λ (base : LifeBase). base_after base (take (b.life.from - s.life.from) rest)) go.0.base
    ∙ (sym (base_then (base_of first.life) own (take (b.life.from - s.life.from) rest))
    ∙ (ap (λ (t : List Rec). base_after (base_of first.life) t) (sym (take-append-add own rest (b.life.from - s.life.from)))
    ∙ ap (λ k. base_after (base_of first.life) (take k (own ++ rest))) (sym sum))))
