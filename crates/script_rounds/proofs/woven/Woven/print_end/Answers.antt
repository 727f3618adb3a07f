use Rattle.std.proofs.Common.{List, ap, ℕ, ◌++◌, ◌∙◌}
use Rattle.report_text.specs.ReportText.{snapshot_end}
use Rattle.script_rounds.proofs.Weaving.{none_stands, told_then}
use Rattle.script_rounds.specs.Woven.{pieces_in}
use Rattle.script_rounds.proofs.woven.Woven.print_end.Goals as goal

pub invariant_of-self-in-Err : goal.invariant_of-self-in-Err
invariant_of-self-in-Err c = none_stands c.take_off.new.before c.take_off.new.runs.items c.take_off.new.own c.take_off.ensures.before c.take_off.ensures.runs

pub returns-in-Ok : goal.returns-in-Ok
returns-in-Ok c =
    let more = snapshot_end c.args.lists.now in
    told_then c.self.inside.before (pieces_in c.self.inside.runs.items) c.self.inside.own more c.put_snapshot_end.new.out c.self.invariant c.in-Ok.ensures.ok
    ∙ ap (λ (t : List ℕ). t ++ more) c.self.view_is
