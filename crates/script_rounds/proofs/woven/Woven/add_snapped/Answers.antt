use Rattle.std.proofs.Common.{List, ap, ℕ, ◌++◌, ◌∙◌}
use Rattle.std.proofs.lemmas.Result.{on_ok_weaker}
use Rattle.report_text.specs.ReportText.{line_front, snapshot_end}
use Rattle.script_rounds.proofs.Weaving.{line_parts, none_stands, told_then}
use Rattle.script_rounds.specs.Woven.{pieces_in}
use Rattle.script_rounds.proofs.woven.Woven.add_snapped.Goals as goal

pub invariant_of-self-in-Err : goal.invariant_of-self-in-Err
invariant_of-self-in-Err c = none_stands c.take_off.new.before c.take_off.new.runs.items c.take_off.new.own c.take_off.ensures.before c.take_off.ensures.runs

pub returns-in-Ok : goal.returns-in-Ok
returns-in-Ok c =
    let s = c.self.inside in
    let names = c.args.names.now in
    let command = c.args.command.now in
    let end = snapshot_end c.args.lists.now in
    let front = told_then s.before (pieces_in s.runs.items) s.own (line_front names c.args.by command) c.put_line_front.new.out c.self.invariant c.in-Ok.ensures.ok
    ∙ ap (λ (t : List ℕ). t ++ line_front names c.args.by command) c.self.view_is in
    on_ok_weaker c.add_end.result
    (λ k. k ∙ ap (λ (t : List ℕ). t ++ end) front ∙ line_parts names c.args.by command c.args.lists.now c.args.self.now)
    c.add_end.ensures
