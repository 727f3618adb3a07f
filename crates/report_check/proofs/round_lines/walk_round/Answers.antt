use Rattle.std.proofs.Common.{◌≡◌, ◌≤◌, ◌+◌, ◌++◌, ◌∷◌, [], ℕ, List, length, take, ap, subst, sym, ◌∙◌, refl, arith, append_assoc}
use Rattle.std.specs.List.{AllByRecursion}
use Rattle.tx_model.specs.declared.report.Line.{Line}
use Rattle.tx_model.specs.Rounds.{lines_in}
use Rattle.event_rules.proofs.Fronting.{all_taken, one_more}
use Rattle.report_law.specs.ReportLines.{IsLawfulAt, command_lines}
use Rattle.report_law.specs.Steps.{IsLawfulCommand, lines_of}
use Rattle.report_check.proofs.Sections.{commands_broken, commands_next}
use Rattle.report_check.proofs.Walks.{commands_length}
use Rattle.report_check.specs.Passing.{IsPassed, lines_before}
use Rattle.report_check.proofs.Judging.{never_true, there}
use Rattle.report_check.proofs.Rounding.{round_is, round_within, rounds_are}
use Rattle.report_check.proofs.round_lines.walk_round.Goals as goal

pub round_at-round-requires : goal.round_at-round-requires
round_at-round-requires g c =
    let r = c.requires in
    let before : List Line = lines_before g.of in
    let lines : List Line = lines_in g.of.step in
    let told = r.1.1.1.0 in
    let p = r.1.1.1.1.1 in
    let start : c.args.passed.now.lines ≡ length before = p.size in
    let many : length c.args.lines.now ≡ length lines = ap length r.1.1.1.1.0 in
    let end : c.in_ok-plus.field-0 ≡ length before + length lines = let z : c.in_ok-plus.field-0 ≡ c.args.passed.now.lines + length c.args.lines.now = c.in_ok-plus.ensures in omega arith in
    let within = round_within g.of.j g.of.round g.of.step told in (
      r.1.1.0,
      (
        rounds_are g.of.j g.of.round g.of.step told ∙ ap (λ k. take k (lines_of g.of.j)) (sym start),
        (
          round_is g.of.j g.of.round g.of.step told ∙ ap (λ k. take k (lines_of g.of.j)) (sym end),
          (omega arith, omega arith),
        ),
      ),
    )

pub returns-then-not-branch-clause-walked : goal.returns-then-not-branch-clause-walked
returns-then-not-branch-clause-walked g c =
    let r = c.requires in
    let one = there (lines_in g.of.step) c.args.lines.now c.loop-place.place (length c.args.lines.now) r.1.1.1.1.0 refl c.loop-place-test.true in
    commands_broken g.of.j (lines_before g.of) (lines_in g.of.step) c.loop-place.place one.0 c.loop-place.invariant.lawful one.1
    (never_true c.in_ok-walk_line.field-0 (IsLawfulCommand g.of.j (lines_before g.of) (lines_in g.of.step) (take c.loop-place.place (lines_in g.of.step)) one.0) c.if-not-branch.true (c.in_ok-walk_line.ensures.lawful one.0 one.1))

pub loop-place-preserved : goal.loop-place-preserved
loop-place-preserved g c =
    let r = c.requires in
    let before : List Line = lines_before g.of in
    let lines : List Line = lines_in g.of.step in
    let p : ℕ = c.loop-place.place in
    let one = there lines c.args.lines.now p (length c.args.lines.now) r.1.1.1.1.0 refl c.loop-place-test.true in
    let passed = c.in_ok-walk_line.ensures.passed one.0 one.1 c.if-not-branch.false in
    let more : (before ++ take p lines) ++ one.0 ∷ [] ≡ before ++ take (p + 1) lines = append_assoc before (take p lines) (one.0 ∷ []) ∙ ap (λ (t : List Line). before ++ t) (sym (one_more p lines one.0 one.1)) in
    record {
      lawful = commands_next g.of.j before lines p one.0 c.loop-place.invariant.lawful one.1 ((c.in_ok-walk_line.ensures.lawful one.0 one.1).0 c.if-not-branch.false);
      passed = subst (λ (t : List Line). IsPassed g.of.j t c.walk_line.new.passed) more passed;
    }

pub returns-clause-walked : goal.returns-clause-walked
returns-clause-walked g c =
    let r = c.requires in
    let before : List Line = lines_before g.of in
    let lines : List Line = lines_in g.of.step in
    let many : length c.args.lines.now ≡ length lines = ap length r.1.1.1.1.0 in
    let whole : take c.loop-place.place lines ≡ lines = let l : length c.args.lines.now ≤ c.loop-place.place = c.loop-place-test.false in all_taken c.loop-place.place lines (omega arith) in (
      subst (λ (t : List Line). AllByRecursion IsLawfulAt (command_lines g.of.j before lines [] t)) whole c.loop-place.invariant.lawful,
      many ∙ sym (commands_length g.of.j before lines [] lines),
    )
