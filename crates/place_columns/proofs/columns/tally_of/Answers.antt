use Rattle.std.proofs.Common.{ℕ, List, [], ◌∷◌, ◌++◌, ◌+◌, ◌<◌, ◌≡◌, sym, subst, ◌∙◌, arith, length, take, get_or, set, ◌==◌}
use Rattle.std.specs.List.{count_by}
use Rattle.std.proofs.lemmas.Grind.{get_or_default_zero}
use Rattle.std.proofs.lemmas.List.{length-set, length-take-le, take_more}
use Rattle.std.proofs.lemmas.List.Sums.{count_by-le-length}
use Rattle.place_columns.specs.Tables.{AreRanks, AreTotals}
use Rattle.place_columns.proofs.Placing.{ranks_after, totals_after}
use Rattle.place_columns.proofs.columns.tally_of.Goals as goal

pub overflow_add-rank : goal.overflow_add-rank
overflow_add-rank c =
    let n = c.loop-number.number-index in
    let ks = c.args.numbers.now in
    let k : ℕ = get_or ks n 0 in
    let within : n < length ks = c.loop-number-test.true in
    let small : k < c.args.count = c.requires.within n 0 within in
    let size : length c.loop-number.totals.items ≡ c.args.count = c.loop-number.invariant.size in
    let rank : c.index-rank.result.now ≡ get_or c.loop-number.totals.items k 0 = c.index-rank.ensures ∙ get_or_default_zero c.loop-number.totals.items k c.index-rank.result.now (omega arith) in
    let often = c.loop-number.invariant.counted k (omega arith) in
    let most = count_by-le-length (λ j. j == k) (take n ks) in
    let long : length (take n ks) ≡ n = length-take-le n ks (omega arith) in
    let few = c.requires.few in
    omega arith

pub loop-number-preserved : goal.loop-number-preserved
loop-number-preserved c =
    let n = c.loop-number.number-index in
    let ks = c.args.numbers.now in
    let i = c.loop-number.invariant in
    let k : ℕ = get_or ks n 0 in
    let within : n < length ks = c.loop-number-test.true in
    let small : k < c.args.count = c.requires.within n 0 within in
    let size : length c.loop-number.totals.items ≡ c.args.count = i.size in
    let fits : k < length c.loop-number.totals.items = omega arith in
    let rank : c.index-rank.result.now ≡ get_or c.loop-number.totals.items k 0 = c.index-rank.ensures ∙ get_or_default_zero c.loop-number.totals.items k c.index-rank.result.now fits in
    let its : c.index-rank.result.now ≡ count_by (λ j. j == k) (take n ks) = rank ∙ i.counted k fits in
    let more : take (n + 1) ks ≡ take n ks ++ k ∷ [] = take_more ks n 0 within in
    let totals : List ℕ = set c.loop-number.totals.items k (c.index-rank.result.now + 1) in
    record {
      size = length-set c.loop-number.totals.items k (c.index-rank.result.now + 1) ∙ size;
      counted = subst (λ (t : List ℕ). AreTotals t totals) (sym more) (totals_after (take n ks) k c.loop-number.totals.items c.index-rank.result.now i.counted fits its);
      ranked = subst (λ (t : List ℕ). AreRanks t c.push.new.self.items) (sym more)
          (subst (λ (r : List ℕ). AreRanks (take n ks ++ k ∷ []) r) (sym c.in_ok-push.ensures.items)
          (ranks_after (take n ks) c.loop-number.ranks.items k c.index-rank.result.now i.ranked its));
    }
