use Rattle.std.proofs.Common.{◌≡◌, ◌<◌, ◌≤◌, ℕ, min, ap, subst, ◌∙◌, refl, arith, ⊎_elim}
use Rattle.std.proofs.lemmas.Bool.{cases_lt}
use Rattle.place_columns.specs.declared.span.Span.{Span}
use Rattle.dump_rules.specs.Shown.{ShowsLow, numbers_in}
use Rattle.dump_rules.proofs.Everywhere.{everywhere}
use Rattle.dump_rules.proofs.shown.shows_all.Goals as goal

pub loop-low-preserved : goal.loop-low-preserved
loop-low-preserved g c = record {
  shown = λ low from to. ⊎_elim
      (λ (u : low < c.loop-low.low). c.loop-low.invariant.shown low from u)
      (λ (u : c.loop-low.low ≤ low).
      let same : c.loop-low.low ≡ low = omega arith in
      subst (λ (n : ℕ). ShowsLow g.b c.args.what c.args.at c.args.bytes.now c.epochs_of-epochs.result n) same (c.shows_low.ensures.0 c.if-not-shows_low.false))
      (cases_lt low c.loop-low.low);
}

pub returns : goal.returns
returns g c =
    let end = c.least-end.result in
    let last : c.least-last.result ≡ min (numbers_in c.args.what c.args.at end).end 4294967296 = c.least-last.ensures ∙ ap (λ (s : Span). min s.end 4294967296) c.numbers_in-numbers.ensures in (
      λ t n. everywhere g.b c.args.at c.args.bytes.now end c.epochs_of-epochs.result c.least-end.ensures c.args.what c.epochs_of-epochs.ensures (λ low from to. c.loop-low.invariant.shown low from (omega arith)) n,
      λ s. refl,
    )
