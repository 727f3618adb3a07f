use Rattle.std.proofs.Common.{List, ℕ, ◌≡◌, ◌+◌, sym, subst, length, arith}
use Rattle.place_columns.specs.Tables.{AreCounts}
use Rattle.place_columns.proofs.CountingLines.{count_none, counts_after, counts_start, few, next_below}
use Rattle.place_columns.proofs.columns.counts_of.Goals as goal

pub loop-total-init : goal.loop-total-init
loop-total-init c = record {
  sum = count_none c.args.numbers.now;
  counted = subst (λ (t : List ℕ). AreCounts c.args.numbers.now 0 t) (sym c.in_ok-counts.ensures.items) (counts_start c.args.numbers.now);
}

pub overflow_add-below : goal.overflow_add-below
overflow_add-below c =
    let n = c.loop-total.total-index in
    let next = next_below c.args.numbers.now n c.loop-total.below c.args.totals.now c.requires.totals c.loop-total-test.true c.loop-total.invariant.sum in
    let most = few c.args.numbers.now (n + 1) in
    let limit = c.requires.few in
    omega arith

pub loop-total-preserved : goal.loop-total-preserved
loop-total-preserved c =
    let n = c.loop-total.total-index in
    let i = c.loop-total.invariant in
    record {
      sum = next_below c.args.numbers.now n c.loop-total.below c.args.totals.now c.requires.totals c.loop-total-test.true i.sum;
      counted = subst (λ (t : List ℕ). AreCounts c.args.numbers.now (n + 1) t) (sym c.in_ok-push.ensures.items) (counts_after c.args.numbers.now c.loop-total.counts.items n c.loop-total.below i.counted i.sum);
    }

pub returns : goal.returns
returns c =
    let n = c.loop-total.total-index in
    let i = c.loop-total.invariant in
    let all : n ≡ length c.args.totals.now = omega arith in
    subst (λ (m : ℕ). AreCounts c.args.numbers.now (m + 1) c.push-2.new.self.items) all
    (subst (λ (t : List ℕ). AreCounts c.args.numbers.now (n + 1) t) (sym c.in_ok-push-2.ensures.items) (counts_after c.args.numbers.now c.loop-total.counts.items n c.loop-total.below i.counted i.sum))
