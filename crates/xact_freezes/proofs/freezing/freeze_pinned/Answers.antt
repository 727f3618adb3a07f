use Rattle.std.proofs.Common.{[], refl, subst, sym}
use Rattle.hall.specs.Calls.{view, start_of}
use Rattle.tx_events.specs.declared.refusal.Refusal.TheVariants as refusals
use Rattle.engine_parts.specs.Adding.{IsPlain, MayMeet}
use Rattle.engine_parts.specs.Sessions.{by_at}
use Rattle.engine_parts.proofs.Adding.{plain_meets}
use Rattle.multi_sections.proofs.PinnedRaises.{few_before}
use Rattle.xact_freezes.specs.Freezes.{IsHeldSince, IsStartRead}
use Rattle.xact_freezes.specs.Visits.{Visited}
use Rattle.xact_freezes.proofs.Going.{visited_wider}
use Rattle.xact_freezes.proofs.Pinning.{held_on, keeps_none}
use Rattle.xact_freezes.proofs.Raising.{fault_told, frozen_by, go_behind, let_go, raised_pins, raised_step}
use Rattle.xact_freezes.proofs.freezing.freeze_pinned.Goals as goal

pub raise_read-raised-requires-clause-pinned : goal.raise_read-raised-requires-clause-pinned
raise_read-raised-requires-clause-pinned g c =
    let start = start_of c.args.hall.now in
    let old = c.args.caller.now in
    let mid = c.read_start.new.caller in
    let v = c.in-Ok-Some.ensures.visited in
    subst (λ n. IsHeldSince start n (view mid.pass).seen c.args.held.now) (sym v.number) (held_on start old.number c.args.held.now [] (view old.pass).seen (view mid.pass).seen v.went keeps_none c.requires.pinned)

pub unpin_multi-requires-clause-own : goal.unpin_multi-requires-clause-own
unpin_multi-requires-clause-own g c =
    (raised_step g.P.PageDisk.tells c.args.hall.now c.args.banks c.args.held.now c.read_start.new.caller c.raise_read-raised.new.caller c.raise_read-raised.result c.raise_read-raised.ensures.raises).own

pub unpin_multi-requires-clause-pinned : goal.unpin_multi-requires-clause-pinned
unpin_multi-requires-clause-pinned g c =
    let start = start_of c.args.hall.now in
    let old = c.args.caller.now in
    let mid = c.read_start.new.caller in
    let v = c.in-Ok-Some.ensures.visited in
    let held = subst (λ n. IsHeldSince start n (view mid.pass).seen c.args.held.now) (sym v.number) (held_on start old.number c.args.held.now [] (view old.pass).seen (view mid.pass).seen v.went keeps_none c.requires.pinned) in
    raised_pins g.P.PageDisk.tells c.args.hall.now c.args.banks c.args.held.now mid c.raise_read-raised.new.caller c.raise_read-raised.result held.pins c.raise_read-raised.ensures.raises

pub unpin_multi-requires-in-Ok-None-clause-pinned :
    goal.unpin_multi-requires-in-Ok-None-clause-pinned
unpin_multi-requires-in-Ok-None-clause-pinned g c =
    let start = start_of c.args.hall.now in
    let old = c.args.caller.now in
    let mid = c.read_start.new.caller in
    let v = c.in-Ok-None.ensures.visited in
    (subst (λ n. IsHeldSince start n (view mid.pass).seen c.args.held.now) (sym v.number) (held_on start old.number c.args.held.now [] (view old.pass).seen (view mid.pass).seen v.went keeps_none c.requires.pinned)).pins

pub unpin_multi-requires-in-Err-clause-pinned : goal.unpin_multi-requires-in-Err-clause-pinned
unpin_multi-requires-in-Err-clause-pinned g c =
    let start = start_of c.args.hall.now in
    let old = c.args.caller.now in
    let mid = c.read_start.new.caller in
    let v = c.in-Err.ensures.visited in
    (subst (λ n. IsHeldSince start n (view mid.pass).seen c.args.held.now) (sym v.number) (held_on start old.number c.args.held.now [] (view old.pass).seen (view mid.pass).seen v.went keeps_none c.requires.pinned)).pins

pub returns-in-Ok-Some : goal.returns-in-Ok-Some
returns-in-Ok-Some g c =
    let hall = c.args.hall.now in
    let old = c.args.caller.now in
    let mid = c.read_start.new.caller in
    let then = c.raise_read-raised.new.caller in
    let new = c.unpin_multi.new.caller in
    let e = c.unpin_multi.ensures in
    let r = c.raise_read-raised.ensures.raises in
    let step = raised_step g.P.PageDisk.tells hall c.args.banks c.args.held.now mid then c.raise_read-raised.result r in record {
      freezes = frozen_by g.P.PageDisk.tells hall c.args.banks c.args.held.now old mid then new c.raise_read-raised.result c.in-Ok-Some.ensures.visited r
          (let_go g.P.PageDisk.tells hall c.args.banks c.args.held.now then new step e.own e.ready e.went e.same e.section);
    }

pub returns-in-Ok-None : goal.returns-in-Ok-None
returns-in-Ok-None g c =
    let tells = g.P.PageDisk.tells in
    let hall = c.args.hall.now in
    let start = start_of hall in
    let old = c.args.caller.now in
    let mid = c.read_start.new.caller in
    let new = c.unpin_multi-in-Ok-None.new.caller in
    let e = c.unpin_multi-in-Ok-None.ensures in
    let h = c.args.held.now in
    let told = refusals.NotYet h.multi in
    let v : Visited hall c.args.banks IsPlain [] old mid = c.in-Ok-None.ensures.visited in
    let read = subst (λ o. IsStartRead tells start (view mid.pass).seen h.multi o) c.in-Ok-None.field-0-is c.in-Ok-None.ensures.read in record {
      freezes = (
        go_behind tells hall c.args.banks h (MayMeet told) old mid new (visited_wider hall c.args.banks IsPlain (MayMeet told) [] old mid (plain_meets told) v) (plain_meets told) (let_go tells hall c.args.banks h mid new v.step e.own e.ready e.went e.same e.section),
        (refl, λ t few. record { seen = (view mid.pass).seen; from = v.went.grows; upto = e.went.grows; none = read.stands t (few_before (view mid.pass).seen (view new.pass).seen e.went.grows few) }),
      );
    }

pub returns-in-Err : goal.returns-in-Err
returns-in-Err g c =
    let tells = g.P.PageDisk.tells in
    let hall = c.args.hall.now in
    let start = start_of hall in
    let old = c.args.caller.now in
    let mid = c.read_start.new.caller in
    let new = c.unpin_multi-in-Err.new.caller in
    let e = c.unpin_multi-in-Err.ensures in
    let h = c.args.held.now in
    let r = c.in-Err.refusal in
    let v : Visited hall c.args.banks (MayMeet r) [] old mid = c.in-Err.ensures.visited in record {
      freezes = (
        go_behind tells hall c.args.banks h (MayMeet r) old mid new v (plain_meets r) (let_go tells hall c.args.banks h mid new v.step e.own e.ready e.went e.same e.section),
        fault_told tells start (by_at old.number old.session.levels.commands) (view old.pass).seen (view mid.pass).seen (view new.pass).seen h.multi r e.went.grows c.in-Err.ensures.fault,
      );
    }
