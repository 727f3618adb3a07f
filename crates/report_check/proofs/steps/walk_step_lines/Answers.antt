use Rattle.std.proofs.Common.{◌≡◌, ◌+◌, List, take, ap, subst, sym, ◌∙◌}
use Rattle.std.specs.List.{flat_map}
use Rattle.std.proofs.lemmas.Result.{IfOk-weaker}
use Rattle.tx_model.specs.declared.reply.Reply.{Reply}
use Rattle.tx_model.specs.declared.report.Line.{Line}
use Rattle.tx_model.specs.declared.report.Step.{Step}
use Rattle.tx_model.specs.declared.report.Step.TheVariants as steps
use Rattle.tx_model.specs.Rounds.{lines_in}
use Rattle.report_law.specs.ReportLines.{checkpoint, dump, step_lines}
use Rattle.report_check.specs.Passing.{IsPassed}
use Rattle.report_check.specs.Stepping.{steps_before}
use Rattle.report_check.specs.Walked.{IfLawful, IsWalked, is_lawful}
use Rattle.report_check.specs.declared.walked.Walked.{Walked}
use Rattle.report_check.specs.Dumped.{is_dump}
use Rattle.record_rules.specs.AskedFor.{is_checkpoint}
use Rattle.report_check.proofs.StepByStep.{always_if, has_step, if_same, lines_more, none_more}
use Rattle.report_check.proofs.steps.walk_step_lines.Goals as goal

pub returns-in_ok-walk_round-in-Round-clause-passed : goal.returns-in_ok-walk_round-in-Round-clause-passed
returns-in_ok-walk_round-in-Round-clause-passed g c =
    let told = c.requires.1.1.1.1.1.0 in
    let v : Walked = c.in_ok-walk_round-in-Round.field-0 in
    let passed : IfLawful v (IsPassed g.of.j (flat_map lines_in (take (g.of.round + 1) g.of.j.steps)) c.walk_round.new.passed) =
    subst (λ (t : List Line). IfLawful v (IsPassed g.of.j t c.walk_round.new.passed)) (lines_more g.of.j g.of.round g.of.step told) c.in_ok-walk_round-in-Round.ensures.passed in
    IfOk-weaker c.behind_plain.result (λ (w : Walked). is_lawful w ≡ is_lawful v) (λ (w : Walked). IfLawful w (IsPassed g.of.j (flat_map lines_in (take (g.of.round + 1) g.of.j.steps)) c.walk_round.new.passed))
    (λ w e. if_same v w (IsPassed g.of.j (flat_map lines_in (take (g.of.round + 1) g.of.j.steps)) c.walk_round.new.passed) e passed) c.behind_plain.ensures.same

pub is_lawful_there-requires : goal.is_lawful_there-requires
is_lawful_there-requires g c =
    let r = c.requires in
    let told = r.1.1.1.1.1.0 in
    let is : g.of.step ≡ steps.Checkpoint c.in-Checkpoint.reply = sym r.1.1.1.1.1.1.0 ∙ c.in-Checkpoint.is in
    let here = r.1.1.1.1.1.1.1.0 in
    let passed = r.1.1.1.1.1.1.1.1.0 in
    let noted = r.1.1.1.1.1.1.1.1.1 in
    (r.1.1.0, (r.1.1.1.0, (r.1.1.1.1.0, (told, (here, (passed, (noted, has_step is_checkpoint g.of.j.steps g.of.round g.of.step told (ap is_checkpoint is))))))))

pub is_lawful_dump-requires : goal.is_lawful_dump-requires
is_lawful_dump-requires g c =
    let r = c.requires in
    let told = r.1.1.1.1.1.0 in
    let is : g.of.step ≡ steps.Dump c.in-Dump.what c.in-Dump.at c.in-Dump.length c.in-Dump.reply = sym r.1.1.1.1.1.1.0 ∙ c.in-Dump.is in
    let here = r.1.1.1.1.1.1.1.0 in
    (r.1.1.0, (r.1.1.1.1.0.dumping, (here, has_step is_dump g.of.j.steps g.of.round g.of.step told (ap is_dump is))))

pub returns-in-Checkpoint-clause-walked : goal.returns-in-Checkpoint-clause-walked
returns-in-Checkpoint-clause-walked g c =
    let is : g.of.step ≡ steps.Checkpoint c.reply.result.now = sym c.requires.1.1.1.1.1.1.0 ∙ c.in-Checkpoint.is ∙ ap (λ (r : Reply). steps.Checkpoint r) (sym c.reply.ensures) in
    subst (λ (s : Step). IsWalked (step_lines g.of.j (steps_before g.of) s) c.one_line.result) (sym is) (c.one_line.ensures (checkpoint g.of.j (steps_before g.of) c.reply.result.now) c.is_lawful_there.ensures)

pub returns-in-Checkpoint-clause-passed : goal.returns-in-Checkpoint-clause-passed
returns-in-Checkpoint-clause-passed g c =
    let told = c.requires.1.1.1.1.1.0 in
    let is : g.of.step ≡ steps.Checkpoint c.in-Checkpoint.reply = sym c.requires.1.1.1.1.1.1.0 ∙ c.in-Checkpoint.is in
    always_if c.one_line.result (IsPassed g.of.j (flat_map lines_in (take (g.of.round + 1) g.of.j.steps)) c.args.passed.now)
    (subst (λ (t : List Line). IsPassed g.of.j t c.args.passed.now) (none_more g.of.j g.of.round g.of.step told (ap lines_in is)) c.requires.1.1.1.1.1.1.1.1.0)

pub returns-in-Dump-clause-walked : goal.returns-in-Dump-clause-walked
returns-in-Dump-clause-walked g c =
    let d = c.in-Dump in
    let is : g.of.step ≡ steps.Dump d.what d.at d.length c.reply-in-Dump.result.now = sym c.requires.1.1.1.1.1.1.0 ∙ d.is ∙ ap (λ (r : Reply). steps.Dump d.what d.at d.length r) (sym c.reply-in-Dump.ensures) in
    subst (λ (s : Step). IsWalked (step_lines g.of.j (steps_before g.of) s) c.one_line-in-Dump.result) (sym is)
    (c.one_line-in-Dump.ensures (dump g.of.j (steps_before g.of) d.what d.at d.length c.reply-in-Dump.result.now) c.is_lawful_dump.ensures)

pub returns-in-Dump-clause-passed : goal.returns-in-Dump-clause-passed
returns-in-Dump-clause-passed g c =
    let told = c.requires.1.1.1.1.1.0 in
    let is : g.of.step ≡ steps.Dump c.in-Dump.what c.in-Dump.at c.in-Dump.length c.in-Dump.reply = sym c.requires.1.1.1.1.1.1.0 ∙ c.in-Dump.is in
    always_if c.one_line-in-Dump.result (IsPassed g.of.j (flat_map lines_in (take (g.of.round + 1) g.of.j.steps)) c.args.passed.now)
    (subst (λ (t : List Line). IsPassed g.of.j t c.args.passed.now) (none_more g.of.j g.of.round g.of.step told (ap lines_in is)) c.requires.1.1.1.1.1.1.1.1.0)
