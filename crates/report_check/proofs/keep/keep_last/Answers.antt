use Rattle.std.proofs.Common.{◌≡◌, ◌+◌, ◌-◌, ℕ, List, length, take, ap, sym, ◌∙◌, arith}
use Rattle.std.proofs.lemmas.Result.{on_ok_weaker}
use Rattle.tx_events.specs.declared.record.Rec.{Rec}
use Rattle.tx_model.specs.declared.report.LifeReport.{LifeReport}
use Rattle.report_check.proofs.Leaving.{left_on}
use Rattle.report_check.proofs.keep.keep_last.Goals as goal

pub returns : goal.returns
returns c =
    let number : ℕ = length c.args.before.now - 1 in
    let last : LifeReport = c.index-before-number.result in
    let size : number + 1 ≡ length c.args.before.now = omega arith in
    let count : c.saturating_sub-count.result ≡ c.args.life.now.from - last.life.from = c.saturating_sub-count.ensures ∙ ap (λ (r : LifeReport). c.args.life.now.from - r.life.from) (sym c.index-before-number.is) in
    let recs : c.items-recs.result.now ≡ last.life.recs = c.items-recs.ensures ∙ ap (λ (r : LifeReport). r.life.recs) (sym c.index-before-number.is) in
    let multis : c.items.result.now ≡ last.life.multis = c.items.ensures ∙ ap (λ (r : LifeReport). r.life.multis) (sym c.index-before-number.is) in
    let are : take c.saturating_sub-count.result c.items-recs.result.now ≡ take (c.args.life.now.from - last.life.from) last.life.recs =
    ap (λ k. take k c.items-recs.result.now) count ∙ ap (λ (t : List Rec). take (c.args.life.now.from - last.life.from) t) recs in
    on_ok_weaker c.grow.result
    (λ g. left_on c.args.before.now c.args.life.now c.args.kept.now c.grow.new.kept number last (take c.saturating_sub-count.result c.items-recs.result.now) c.items.result.now c.requires.lawful c.requires.kept c.requires.start size c.index-before-number.is are multis g)
    c.grow.ensures
