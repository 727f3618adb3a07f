use Rattle.std.proofs.Common.{ℕ, List, [], ◌∷◌, ◌+◌, ◌≡◌, ◌++◌, ap, sym, subst, ◌∙◌, take, get_or, max}
use Rattle.std.proofs.lemmas.List.{take_more}
use Rattle.place_columns.specs.Columns.{IsColumn}
use Rattle.place_columns.proofs.ColumnSteps.{column_push}
use Rattle.place_columns.specs.Lined.{most_of}
use Rattle.place_columns.proofs.CountingLines.{most_push}
use Rattle.place_columns.proofs.columns.running_most.Goals as goal

pub loop-value-preserved : goal.loop-value-preserved
loop-value-preserved c =
    let n = c.loop-value.value-index in
    let ks = c.args.values.now in
    let i = c.loop-value.invariant in
    let k : ℕ = get_or ks n 0 in
    let more : take (n + 1) ks ≡ take n ks ++ k ∷ [] = take_more ks n 0 c.loop-value-test.true in
    let now : c.max-most.result ≡ most_of (take n ks ++ k ∷ []) = c.max-most.ensures ∙ ap (λ (m : ℕ). max k m) i.greatest ∙ most_push (take n ks) k in
    record {
      greatest = now ∙ ap (λ (t : List ℕ). most_of t) (sym more);
      columned = subst (λ (t : List ℕ). IsColumn most_of t c.push.new.self.items) (sym more)
          (subst (λ (r : List ℕ). IsColumn most_of (take n ks ++ k ∷ []) r) (sym c.in_ok-push.ensures.items)
          (column_push most_of (take n ks) k c.loop-value.column.items c.max-most.result now i.columned));
    }
