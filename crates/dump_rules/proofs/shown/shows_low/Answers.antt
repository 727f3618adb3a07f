use Rattle.std.proofs.Common.{◌≡◌, ◌+◌, ◌*◌, ◌<◌, ◌≤◌, ℕ, subst, arith, ⊎_elim}
use Rattle.std.proofs.lemmas.Bool.{cases_lt}
use Rattle.dump_rules.specs.Shown.{ShowsNumber}
use Rattle.dump_rules.proofs.shown.shows_low.Goals as goal

pub loop-epoch-preserved : goal.loop-epoch-preserved
loop-epoch-preserved g c = record {
  shown = λ e from to. ⊎_elim
      (λ (u : e < c.loop-epoch.epoch). c.loop-epoch.invariant.shown e from u)
      (λ (u : c.loop-epoch.epoch ≤ e).
      let same : c.loop-epoch.epoch ≡ e = omega arith in
      subst (λ (n : ℕ). ShowsNumber g.b c.args.what c.args.at c.args.bytes.now (n * 4294967296 + c.args.low)) same (c.shows_number.ensures.0 c.if-not-shows_number.false))
      (cases_lt e c.loop-epoch.epoch);
}
