use Rattle.std.proofs.Common.{rules, ◌≡◌, ◌+◌, Some, List, take, sym, subst}
use Rattle.std.specs.List.{flat_map, slice_get}
use Rattle.tx_model.specs.Rounds.{lines_in}
use Rattle.tx_events.specs.declared.multi.MultiEvent.{MultiEvent}
use Rattle.record_rules.specs.AskedFor.{is_checkpoint}
use Rattle.checkpoint_rules.specs.Noting.{AreNoted}
use Rattle.report_check.specs.Passing.{IsPassed}
use Rattle.report_check.specs.Stepping.{IsSoFar, noting_of, steps_before}
use Rattle.report_check.specs.declared.steps.SoFar.{SoFar}
use Rattle.report_check.proofs.Judging.{same_line}
use Rattle.report_check.proofs.Rounding.{line_there}
use Rattle.report_check.proofs.StepByStep.{both_if, fronts_are, has_step, noted_next, point_is}
use Rattle.report_check.proofs.steps.walk_step.Goals as goal

pub pass_step-requires : goal.pass_step-requires
pass_step-requires g c =
    let r = c.requires in
    let known = r.1.1.0 in
    let multis = r.1.1.1.0 in
    let so_far = r.1.1.1.1.1.1.1.1.1 in
    let there : slice_get g.of.j.steps g.of.round ≡ Some c.index-steps-place.result = line_there g.of.j.steps c.args.steps.now c.args.place g.of.round c.index-steps-place.result r.1.1.1.1.1.0 r.1.1.1.1.1.1.0 r.1.1.1.1.1.1.1.1.0 c.index-steps-place.is in (
      λ t. fronts_are g.of.j (steps_before g.of) c.args.known.now g.of.multis c.as_slice.result.now c.args.tables.now.column.items known multis c.as_slice.ensures.value (r.1.1.1.1.0.column (has_step is_checkpoint g.of.j.steps g.of.round c.index-steps-place.result there t)),
      (
        subst (λ (ms : List MultiEvent). AreNoted (noting_of g.of.j (steps_before g.of) ms) c.args.known.now.places c.args.so_far.now.checkpoints) (sym multis) so_far.noted,
        (
          point_is g.of.j (steps_before g.of) c.args.known.now g.of.multis c.here_of-here.result c.here_of-here.ensures,
          search rules,
        ),
      ),
    )

pub returns-clause-so_far : goal.returns-clause-so_far
returns-clause-so_far g c =
    let r = c.requires in
    let told = r.1.1.1.1.1.1.1.0 in
    let there : slice_get g.of.j.steps g.of.round ≡ Some c.index-steps-place.result = line_there g.of.j.steps c.args.steps.now c.args.place g.of.round c.index-steps-place.result r.1.1.1.1.1.0 r.1.1.1.1.1.1.0 r.1.1.1.1.1.1.1.1.0 c.index-steps-place.is in
    let same : c.index-steps-place.result ≡ g.of.step = same_line g.of.j.steps g.of.round c.index-steps-place.result g.of.step there told in
    let new : SoFar = record { passed = c.walk_step_lines.new.passed; checkpoints = c.pass_step.new.checkpoints } in
    let noted : AreNoted (noting_of g.of.j (take (g.of.round + 1) g.of.j.steps) c.args.known.now.multi_places.events) c.args.known.now.places c.pass_step.new.checkpoints =
    noted_next g.of.j g.of.round g.of.step c.index-steps-place.result g.of.multis c.args.known.now.multi_places.events c.args.known.now.places c.pass_step.new.checkpoints told same r.1.1.1.0 c.in_ok-pass_step.ensures in
    both_if c.in_ok-walked.walked (IsPassed g.of.j (flat_map lines_in (take (g.of.round + 1) g.of.j.steps)) c.walk_step_lines.new.passed)
    (AreNoted (noting_of g.of.j (take (g.of.round + 1) g.of.j.steps) c.args.known.now.multi_places.events) c.args.known.now.places c.pass_step.new.checkpoints)
    (IsSoFar g.of.j (take (g.of.round + 1) g.of.j.steps) c.args.known.now new) (λ p q. record { passed = p; noted = q }) c.in_ok-walked.ensures.passed noted
