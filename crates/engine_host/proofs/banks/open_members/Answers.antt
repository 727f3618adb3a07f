use Rattle.std.proofs.Common.{IsTrue, ap, ◌%◌, ◌∙◌}
use Rattle.slru_bank.specs.Calls.{cutoff_of, faults_of, last_page, pages_of}
use Rattle.engine_host.specs.Opening.{bytes_left}
use Rattle.engine_host.proofs.Multis.{members_begin, members_came}
use Rattle.engine_host.proofs.Starting.{of_bank}
use Rattle.engine_host.proofs.banks.open_members.Goals as goal

-- With a ghost value the clauses of `requires` have no names: they stand in their order behind what is asked of
-- lifetimes.

pub returns-clause-new : goal.returns-clause-new
returns-clause-new g c =
    let p = g.P.PageDisk in
    let cluster = c.args.cluster.now in
    let left = bytes_left p c.args.removes c.args.disk in
    let opened = c.open_bank.ensures in
    of_bank c.open_bank.result (IsTrue p.tells) _ _ _ _ _ (λ store last cutoff pages durable gate counts reached.
    let last_is = last ∙ ap (λ n. n % 2625286) c.member_page_in_full.ensures.page in
    let cutoff_is = cutoff ∙ ap (λ n. n % 2625286) c.member_page_in_full-2.ensures.page in
    record {
      stands = members_begin cluster g.begins c.args.bank (faults_of store.value) (last_page store.value) (cutoff_of store.value) p.tells (pages_of store.value) left gate counts c.requires.1.0 pages
          c.requires.1.1.0 reached last_is cutoff_is;
      course = λ told. members_came cluster g.begins c.args.bank gate counts left (c.requires.1.1.0 told) store.value (pages told) (durable told) last_is cutoff_is;
    })
    opened.last opened.cutoff opened.pages (λ told. opened.durable told (λ none. c.requires.1.1.1 told none))
