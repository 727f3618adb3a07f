use Rattle.std.proofs.Common.{◌≡◌, ◌+◌, ◌≤◌, List, ℕ, ap, sym, subst, ◌∙◌, arith, length, map}
use Rattle.std.specs.List.{All}
use Rattle.place_columns.specs.Columns.{IsColumn}
use Rattle.place_columns.specs.declared.lines.LineAt.{LineAt}
use Rattle.place_columns.specs.Lined.{most_of, step_at}
use Rattle.place_columns.specs.Tables.{AreCounts, ArePlaced, AreRanks}
use Rattle.place_columns.proofs.Making.{below_next, numbers_upto, two_more}
use Rattle.place_columns.proofs.events.OwnEvents.new.Goals as goal

pub tally_of-requires-clause-within : goal.tally_of-requires-clause-within
tally_of-requires-clause-within c =
    let steps = c.in_ok-steps.steps in
    let numbers = c.in_ok-numbers.numbers.items in
    let is : steps.items ≡ map (λ (l : LineAt). l.step) c.args.table.now = c.in_ok-steps.ensures in
    let size : c.len-2.result ≡ length steps.items = omega (arith, c.len-2.ensures, steps.ok.0) in
    below_next steps.items c.as_slice.result.now c.len-2.result size
    (subst (λ (t : List ℕ). All (λ k. k ≤ length steps.items) t) (sym c.as_slice.ensures.value) (numbers_upto c.args.table.now c.args.bys.now steps.items numbers is c.in_ok-numbers.ensures))

pub placed-requires-clause-within : goal.placed-requires-clause-within
placed-requires-clause-within c =
    let steps = c.in_ok-steps.steps in
    let numbers = c.in_ok-numbers.numbers.items in
    let is : steps.items ≡ map (λ (l : LineAt). l.step) c.args.table.now = c.in_ok-steps.ensures in
    let lines : c.len-2.result ≡ length steps.items = omega (arith, c.len-2.ensures, steps.ok.0) in
    let totals : length c.as_slice-2.result.now ≡ c.len-2.result + 1 = ap (λ (t : List ℕ). length t) c.as_slice-2.ensures.value ∙ c.in_ok-totals.ensures.size in
    let counts : length c.as_slice-5.result.now ≡ length c.as_slice-2.result.now + 1 = ap (λ (t : List ℕ). length t) c.as_slice-5.ensures.value ∙ c.in_ok-counts.ensures.size in
    two_more steps.items c.as_slice-4.result.now (length c.as_slice-5.result.now) (omega arith)
    (subst (λ (t : List ℕ). All (λ k. k ≤ length steps.items) t) (sym c.as_slice-4.ensures.value) (numbers_upto c.args.table.now c.args.bys.now steps.items numbers is c.in_ok-numbers.ensures))

pub invariant_of-result : goal.invariant_of-result
invariant_of-result c =
    let steps = c.in_ok-steps.steps in
    let numbers = c.in_ok-numbers.numbers.items in
    let ranks = c.in_ok-totals.field-0.ranks.items in
    let counts = c.in_ok-counts.counts.items in
    let places = c.in_ok-places.places.items in
    let is : steps.items ≡ map (λ (l : LineAt). l.step) c.args.table.now = c.in_ok-steps.ensures in
    let lines : c.len-2.result ≡ length steps.items = omega (arith, c.len-2.ensures, steps.ok.0) in
    let totals : length c.as_slice-2.result.now ≡ c.len-2.result + 1 = ap (λ (t : List ℕ). length t) c.as_slice-2.ensures.value ∙ c.in_ok-totals.ensures.size in
    let whole : length c.as_slice-2.result.now + 1 ≡ length steps.items + 2 = omega arith in
    let at : c.in_ok-at.at.items ≡ map (step_at steps.items) numbers =
    c.in_ok-at.ensures ∙ ap (λ (t : List ℕ). map (step_at t) c.as_slice-9.result.now) c.as_slice-8.ensures.value ∙ ap (λ (t : List ℕ). map (step_at steps.items) t) c.as_slice-9.ensures.value in
    record {
      within = numbers_upto c.args.table.now c.args.bys.now steps.items numbers is c.in_ok-numbers.ensures;
      ranked = subst (λ (t : List ℕ). AreRanks t ranks) c.as_slice.ensures.value c.in_ok-totals.ensures.ranks;
      counted = subst (λ n. AreCounts numbers n counts) whole (subst (λ (t : List ℕ). AreCounts t (length c.as_slice-2.result.now + 1) counts) c.as_slice-3.ensures.value c.in_ok-counts.ensures);
      placed = subst (λ (t : List ℕ). ArePlaced t counts ranks places) c.as_slice-4.ensures.value
          (subst (λ (t : List ℕ). ArePlaced c.as_slice-4.result.now t ranks places) c.as_slice-5.ensures.value
          (subst (λ (t : List ℕ). ArePlaced c.as_slice-4.result.now c.as_slice-5.result.now t places) c.as_slice-6.ensures.value c.in_ok-places.ensures));
      reached = subst (λ (t : List ℕ). IsColumn most_of t c.in_ok-reach.reach.items) c.as_slice-7.ensures.value c.in_ok-reach.ensures;
      late = subst (λ (t : List ℕ). IsColumn most_of t c.in_ok-latest.latest.items) (c.as_slice-10.ensures.value ∙ at) c.in_ok-latest.ensures;
    }
