use Rattle.std.proofs.Common.{IsTrue, ap, ◌/◌, ◌%◌, ◌^◌, ◌∙◌}
use Rattle.slru_bank.specs.Calls.{cutoff_of, faults_of, last_page, pages_of}
use Rattle.engine_parts.specs.BankCourse.{ParentsCame}
use Rattle.engine_host.specs.Opening.{at_gate, life_from}
use Rattle.engine_host.proofs.Multis.{parents_came, subtrans_begins}
use Rattle.engine_host.proofs.Starting.{of_bank}
use Rattle.engine_host.proofs.banks.open_subtrans.Goals as goal

-- With a ghost value the clauses of `requires` have no names: they stand in their order behind what is asked of
-- lifetimes.

pub returns-clause-new : goal.returns-clause-new
returns-clause-new g c =
    let p = g.P.PageDisk in
    let cluster = c.args.cluster.now in
    let opened = c.open_bank.ensures in
    of_bank c.open_bank.result (IsTrue p.tells) _ _ _ _ _ (λ store last cutoff pages durable gate counts reached.
    let last_is = last ∙ (c.subtrans_page-last.ensures.page ∙ ap (λ n. n / 2048) c.low.ensures) in
    let cutoff_is = cutoff ∙ (c.subtrans_page-cutoff.ensures.page ∙ (ap (λ n. n / 2048) c.low-2.ensures ∙ ap (λ n. n % 2 ^ 32 / 2048) c.retreat.ensures.value)) in
    subtrans_begins cluster g.begins c.args.bank (faults_of store.value) (last_page store.value) (cutoff_of store.value) p.tells (pages_of store.value) (ParentsCame (life_from cluster (at_gate g.begins gate) counts) c.args.bank store.value) gate counts c.requires.1.0 c.requires.1.1.0 reached last_is cutoff_is
    (λ told q small. pages told q small ∙ c.requires.1.1.1.0 told q small)
    (λ told. parents_came cluster g.begins c.args.bank store.value gate counts (λ q small. pages told q small ∙ c.requires.1.1.1.0 told q small) (durable told) last_is cutoff_is))
    opened.last opened.cutoff opened.pages (λ told. opened.durable told (λ none. c.requires.1.1.1.1 told none))
