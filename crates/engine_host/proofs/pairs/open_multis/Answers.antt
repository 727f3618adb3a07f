use Rattle.std.proofs.Common.{IsTrue, false, inr, rules, ◌≡◌}
use Rattle.tx_events.specs.declared.refusal.Lock.TheVariants as locks
use Rattle.engine_host.specs.Opening.{ShowMembers, ShowOffsets}
use Rattle.engine_host.proofs.Refusing.{first_is, store_failed}
use Rattle.engine_host.proofs.Starting.{first_shows}
use Rattle.engine_host.proofs.pairs.open_multis.Goals as goal

-- With a ghost value the clauses of `requires` have no names: they stand in their order behind what is asked of
-- lifetimes.

pub open_offsets-requires : goal.open_offsets-requires
open_offsets-requires g c =
    let inside = c.requires.1.0 in
    let here = first_is c.args.offsets.now.items c.remove.result c.requires.1.1.0.0 c.remove.ensures.value in
    let shows = λ (told : IsTrue g.P.PageDisk.tells). first_shows g.P.PageDisk (ShowOffsets c.args.cluster.now g.begins) c.args.removes c.args.bank c.args.offsets.now.items c.remove.result (c.requires.1.1.1.0 told).0 here in
    let durable = λ (told : IsTrue g.P.PageDisk.tells) (kept : c.args.removes ≡ false). (c.requires.1.1.1.1 told kept).0 0 c.remove.result here in
    search (rules, inside, shows, durable)

pub open_members-requires : goal.open_members-requires
open_members-requires g c =
    let inside = c.requires.1.0 in
    let here = first_is c.args.members.now.items c.remove-2.result c.requires.1.1.0.1 c.remove-2.ensures.value in
    let shows = λ (told : IsTrue g.P.PageDisk.tells). first_shows g.P.PageDisk (ShowMembers c.args.cluster.now g.begins) c.args.removes c.args.bank c.args.members.now.items c.remove-2.result (c.requires.1.1.1.0 told).1 here in
    let durable = λ (told : IsTrue g.P.PageDisk.tells) (kept : c.args.removes ≡ false). (c.requires.1.1.1.1 told kept).1 0 c.remove-2.result here in
    search (rules, inside, shows, durable)

pub returns-in-Err-open_members-clause-refused : goal.returns-in-Err-open_members-clause-refused
returns-in-Err-open_members-clause-refused g c =
    inr (store_failed g.P.PageDisk (locks.Members c.args.bank) c.args.members.now.items c.put_back-in-Err-open_members.new.volumes.items c.remove-2.new.self.items c.remove-2.result c.in-Err-open_members.disk c.in-Err-open_members.refusal
    c.requires.1.1.0.1 c.remove-2.ensures.value c.put_back-in-Err-open_members.ensures.items c.in-Err-open_members.ensures.refused)
