use Rattle.std.proofs.Common.{IsTrue, false, inr, rules, ◌≡◌}
use Rattle.tx_events.specs.declared.refusal.Lock.TheVariants as locks
use Rattle.engine_host.specs.Opening.{ShowStates}
use Rattle.engine_host.proofs.Refusing.{first_is, store_failed}
use Rattle.engine_host.proofs.Starting.{first_shows}
use Rattle.engine_host.proofs.pairs.open_states.Goals as goal

-- With a ghost value the clauses of `requires` have no names: they stand in their order behind what is asked of
-- lifetimes.

pub open_xact-requires : goal.open_xact-requires
open_xact-requires g c =
    let volumes = c.args.xact.now.items in
    let base = c.requires.1.0 in
    let inside = c.requires.1.1.0 in
    let here = first_is volumes c.remove.result c.requires.1.1.1.0.0 c.remove.ensures.value in
    let shows = λ (told : IsTrue g.P.PageDisk.tells). first_shows g.P.PageDisk (ShowStates c.args.cluster.now g.begins) c.args.removes c.args.bank volumes c.remove.result (c.requires.1.1.1.1.0 told) here in
    let durable = λ (told : IsTrue g.P.PageDisk.tells) (none : c.args.removes ≡ false). (c.requires.1.1.1.1.1.1 told none).0 0 c.remove.result here in
    search (rules, base, inside, shows, durable)

pub open_subtrans-requires : goal.open_subtrans-requires
open_subtrans-requires g c =
    let volumes = c.args.subtrans.now.items in
    let base = c.requires.1.0 in
    let inside = c.requires.1.1.0 in
    let here = first_is volumes c.remove-2.result c.requires.1.1.1.0.1 c.remove-2.ensures.value in
    let shows = λ (told : IsTrue g.P.PageDisk.tells). c.requires.1.1.1.1.1.0 told 0 c.remove-2.result here in
    let durable = λ (told : IsTrue g.P.PageDisk.tells) (none : c.args.removes ≡ false). (c.requires.1.1.1.1.1.1 told none).1 0 c.remove-2.result here in
    search (rules, base, inside, shows, durable)

pub returns-in-Err-open_subtrans-clause-refused : goal.returns-in-Err-open_subtrans-clause-refused
returns-in-Err-open_subtrans-clause-refused g c =
    inr (store_failed g.P.PageDisk (locks.Subtrans c.args.bank) c.args.subtrans.now.items c.put_back-in-Err-open_subtrans.new.volumes.items c.remove-2.new.self.items c.remove-2.result c.in-Err-open_subtrans.disk c.in-Err-open_subtrans.refusal
    c.requires.1.1.1.0.1 c.remove-2.ensures.value c.put_back-in-Err-open_subtrans.ensures.items c.in-Err-open_subtrans.ensures.refused)
