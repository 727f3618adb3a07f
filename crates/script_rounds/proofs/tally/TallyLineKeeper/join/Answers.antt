use Rattle.std.proofs.Common.{◌∙◌, ap, length, sym}
use Rattle.script_rounds.specs.Counted.{capped, verdicts_in}
use Rattle.script_rounds.proofs.Counting.{counted_both}
use Rattle.script_rounds.proofs.tally.TallyLineKeeper.join.Goals as goal

pub invariant_of-self : goal.invariant_of-self
invariant_of-self c =
    let was = c.self.inside in
    let more = c.other.inside in
    let i = c.self.invariant in
    let j = c.other.invariant in
    let both = counted_both was.lines more.lines was.commands was.verdicts more.commands more.verdicts i.0 i.1 j.0 j.1 in (
      c.saturating_add-self-inside.ensures ∙ both.0 ∙ ap (λ t. capped (length t)) (sym c.add_all.ensures),
      c.saturating_add-self-inside-2.ensures ∙ both.1 ∙ ap (λ t. capped (verdicts_in t)) (sym c.add_all.ensures),
    )
