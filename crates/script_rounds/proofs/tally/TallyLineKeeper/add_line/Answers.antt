use Rattle.std.proofs.Common.{◌+◌, ◌-◌, ◌^◌, ◌∙◌, ap, length, min, sym}
use Rattle.tx_model.specs.declared.report.Line.{Line}
use Rattle.script_rounds.specs.Counted.{capped, verdicts_in}
use Rattle.script_rounds.proofs.Counting.{counted_push}
use Rattle.script_rounds.proofs.tally.TallyLineKeeper.add_line.Goals as goal

pub invariant_of-self : goal.invariant_of-self
invariant_of-self c =
    let was = c.self.inside in
    let line : Line = record { by = c.args.by; command = c.args.command.now; reply = c.args.reply.now } in
    let i = c.self.invariant in
    let both = counted_push was.lines line was.commands was.verdicts i.0 i.1 in (
      c.saturating_add-self-inside.ensures ∙ both.0 ∙ ap (λ t. capped (length t)) (sym c.add.ensures),
      c.saturating_add-self-inside-2.ensures ∙ ap (λ n. min (was.verdicts + n) (2 ^ 64 - 1)) c.verdict_count.ensures ∙ both.1 ∙ ap (λ t. capped (verdicts_in t)) (sym c.add.ensures),
    )
