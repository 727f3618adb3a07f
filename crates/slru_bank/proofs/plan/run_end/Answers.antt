use Rattle.std.proofs.Common.{ℕ, ◌/◌, arith, ap, ◌∙◌}
use Rattle.std.proofs.lemmas.List.{get_or_default}
use Rattle.slru_bank.proofs.RunLemmas.{run_from}
use Rattle.slru_bank.proofs.plan.run_end.Goals as goal

pub returns-else-xact_page_in_full-page-clause-run : goal.returns-else-xact_page_in_full-page-clause-run
returns-else-xact_page_in_full-page-clause-run c =
    let was = c.loop-past.invariant in
    run_from c.args.subs.now c.args.first c.loop-past.past _ was.from was.within was.same (λ more e. c.if-xact_page_in_full-page.false (c.xact_page_in_full.ensures.page ∙ ap (λ (x : ℕ). x / 32768) (c.index-subs-past.is ∙ get_or_default c.args.subs.now c.loop-past.past c.index-subs-past.result 0 more) ∙ e))

pub returns-after-loop-past-clause-run : goal.returns-after-loop-past-clause-run
returns-after-loop-past-clause-run c =
    let was = c.loop-past.invariant in
    run_from c.args.subs.now c.args.first c.loop-past.past _ was.from was.within was.same (λ more. absurd (omega arith))
