use Rattle.std.proofs.Common.{IsTrue, ap, ◌/◌, ◌∙◌}
use Rattle.slru_bank.specs.Calls.{cutoff_of, faults_of, last_page, pages_of}
use Rattle.engine_parts.specs.Course.{HasCourse}
use Rattle.engine_host.specs.Opening.{at_gate, bytes_left, life_from}
use Rattle.engine_host.proofs.Starting.{course_begins, of_bank, xact_begins}
use Rattle.engine_host.proofs.banks.open_xact.Goals as goal

-- With a ghost value the clauses of `requires` have no names: they stand in their order behind what is asked of
-- lifetimes.

pub returns-clause-new : goal.returns-clause-new
returns-clause-new g c =
    let p = g.P.PageDisk in
    let cluster = c.args.cluster.now in
    let left = bytes_left p c.args.removes c.args.disk in
    let opened = c.open_bank.ensures in
    of_bank c.open_bank.result (IsTrue p.tells) _ _ _ _ _ (λ store last cutoff pages durable gate counts reached.
    let last_is = last ∙ (c.xact_page-last.ensures.page ∙ ap (λ n. n / 32768) c.low.ensures) in
    let cutoff_is = cutoff ∙ (c.xact_page-cutoff.ensures.page ∙ ap (λ n. n / 32768) c.low-2.ensures) in
    xact_begins cluster g.begins c.args.bank (faults_of store.value) (last_page store.value) (cutoff_of store.value) p.tells (pages_of store.value) left (HasCourse (life_from cluster (at_gate g.begins gate) counts) c.args.bank store.value) gate counts c.requires.1.1.0 reached last_is cutoff_is
    c.requires.1.1.1.0 pages (λ told. course_begins cluster g.begins c.args.bank store.value left gate counts last_is cutoff_is (c.requires.1.1.1.0 told) (pages told) (durable told)))
    opened.last opened.cutoff opened.pages (λ told. opened.durable told (λ none. c.requires.1.1.1.1 told none))
