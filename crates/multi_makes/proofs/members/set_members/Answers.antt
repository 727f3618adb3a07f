use Rattle.std.proofs.Common.{◌+◌, sym, subst, ◌∙◌, arith}
use Rattle.hall.specs.Calls.{view, start_of}
use Rattle.engine_parts.specs.Adding.{IsPlain, MayMeet}
use Rattle.engine_parts.proofs.Adding.{plain_meets}
use Rattle.multi_makes.specs.Slots.{AreRecordedAt}
use Rattle.multi_makes.proofs.Going.{same_making, visited_then}
use Rattle.multi_makes.proofs.Setting.{all_done, part_of, parts_later, upto_later, upto_more}
use Rattle.multi_makes.proofs.members.set_members.Goals as goal

pub make_run-requires-clause-recorded : goal.make_run-requires-clause-recorded
make_run-requires-clause-recorded g c =
    let i = c.loop-done.invariant in
    let old = c.args.caller.now in
    let t = c.loop-done.caller in
    let done = c.loop-done.done in
    let run = c.run_on_page-run.result in
    part_of (view t.pass).seen t.number c.args.offset c.args.members.now done (done + run)
    (subst (λ z. AreRecordedAt (view t.pass).seen z c.args.offset c.args.members.now) (sym i.visited.number) (parts_later (view old.pass).seen (view t.pass).seen old.number c.args.offset c.args.members.now i.visited.went.grows c.requires.recorded))

pub loop-done-preserved : goal.loop-done-preserved
loop-done-preserved g c =
    let i = c.loop-done.invariant in
    let hall = c.args.hall.now in
    let start = start_of hall in
    let old = c.args.caller.now in
    let t = c.loop-done.caller in
    let w = c.make_run.new.caller in
    let done = c.loop-done.done in
    let run = c.run_on_page-run.result in
    let within = c.run_on_page-run.ensures.within in
    let members = c.args.members.now in
    record {
      visited = visited_then hall c.args.banks IsPlain IsPlain IsPlain old t w (same_making old.session t.session i.session) (λ lock kind m. m) (λ lock kind m. m) i.visited c.in-Ok.ensures.visited;
      session = c.make_run.ensures.session ∙ i.session;
      within = omega arith;
      slots = upto_more start (view w.pass).seen c.args.offset members done (done + run) (upto_later start (view t.pass).seen (view w.pass).seen c.args.offset members done c.in-Ok.ensures.visited.went.grows i.slots) c.in-Ok.ensures.slots;
    }

pub returns-in-Err-clause-visited : goal.returns-in-Err-clause-visited
returns-in-Err-clause-visited g c =
    let i = c.loop-done.invariant in
    let hall = c.args.hall.now in
    let old = c.args.caller.now in
    let t = c.loop-done.caller in
    let r = c.in-Err.refusal in
    visited_then hall c.args.banks IsPlain (MayMeet r) (MayMeet r) old t c.make_run.new.caller (same_making old.session t.session i.session) (plain_meets r) (λ lock kind m. m) i.visited c.in-Err.ensures.visited

pub returns-clause-slots : goal.returns-clause-slots
returns-clause-slots g c =
    let i = c.loop-done.invariant in
    let past = c.loop-done-test.false in
    all_done (start_of c.args.hall.now) (view c.loop-done.caller.pass).seen c.args.offset c.args.members.now c.loop-done.done (omega arith) i.slots
