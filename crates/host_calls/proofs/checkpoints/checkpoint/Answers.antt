use Rattle.std.proofs.Common.{◌∙◌, arith, refl, sym}
use Rattle.hall.specs.Calls.{start_of, view}
use Rattle.engine_host.proofs.Homing.{stays_parked}
use Rattle.host_calls.proofs.Parked.{all_are_made, none_waiting, went_making, went_pending}
use Rattle.host_calls.proofs.Stages.{all_fit, stays}
use Rattle.host_calls.proofs.checkpoints.checkpoint.Goals as goal

pub returns-in-Some-clause-went : goal.returns-in-Some-clause-went
returns-in-Some-clause-went g c = went_pending c.args.hall.now c.args.host.now c.args.sessions.now c.in-Some.session c.requires.parked c.in-Some.ensures

pub make_checkpoint-requires-clause-none : goal.make_checkpoint-requires-clause-none
make_checkpoint-requires-clause-none g c = none_waiting c.args.hall.now c.args.host.now c.args.sessions.now c.requires.parked (c.requires.count ∙ sym c.requires.home.is_host.sessions) c.in-None.ensures

pub make_checkpoint-requires-clause-made : goal.make_checkpoint-requires-clause-made
make_checkpoint-requires-clause-made g c = all_are_made c.args.hall.now c.args.host.now c.args.sessions.now c.requires.parked (c.requires.count ∙ sym c.requires.home.is_host.sessions) c.in-None-first_making.ensures

pub returns-in-Some-first_making-clause-went : goal.returns-in-Some-first_making-clause-went
returns-in-Some-first_making-clause-went g c = went_making c.args.hall.now c.args.host.now c.args.sessions.now c.in-Some-first_making.session c.requires.parked c.in-None.ensures c.in-Some-first_making.ensures

pub returns-in-None-first_making-clause-parked : goal.returns-in-None-first_making-clause-parked
returns-in-None-first_making-clause-parked g c n s q =
    let h = c.requires.home.is_host in
    let m = c.make_checkpoint.ensures in
    let long = m.alone.own.wide ∙ sym h.own.wide in
    stays_parked c.args.hall.now c.args.host.now _ c.requires.home m.alone.own m.alone.free (m.alone.name ∙ (h.sessions ∙ sym h.name)) m.holds refl refl m.kept long n s (m.went.idle n (omega (arith, q.below, h.sessions))) q

-- nothing is done, and all fits
pub returns-in-Some-clause-fit : goal.returns-in-Some-clause-fit
returns-in-Some-clause-fit g c right short =
    let start = start_of c.args.hall.now in
    let seen = (view c.args.host.now.pass).seen in
    let first = c.in-Some.ensures.0 in
    all_fit g.L.LogDisk g.P.PageDisk start (λ told d x now. g.met.P.PageDisk.only_now d x told now) right seen seen (c.requires.parked c.in-Some.session first.0 first.1).may.ready.at.kept (stays start seen seen refl) short

pub returns-in-Some-first_making-clause-fit : goal.returns-in-Some-first_making-clause-fit
returns-in-Some-first_making-clause-fit g c right short =
    let start = start_of c.args.hall.now in
    let seen = (view c.args.host.now.pass).seen in
    let first = c.in-Some-first_making.ensures.0 in
    all_fit g.L.LogDisk g.P.PageDisk start (λ told d x now. g.met.P.PageDisk.only_now d x told now) right seen seen (c.requires.parked c.in-Some-first_making.session first.0 first.1).may.ready.at.kept (stays start seen seen refl) short

pub returns-in-None-first_making-clause-fit : goal.returns-in-None-first_making-clause-fit
returns-in-None-first_making-clause-fit g c right short =
    let m = c.make_checkpoint.ensures in
    all_fit g.L.LogDisk g.P.PageDisk (start_of c.args.hall.now) (λ told d x now. g.met.P.PageDisk.only_now d x told now) right (view c.args.host.now.pass).seen (view c.make_checkpoint.new.pass).seen m.was_kept m.stages short
