use Rattle.std.proofs.Common.{ap, ◌∙◌}
use Rattle.tx_model.specs.declared.report.Life.{Life}
use Rattle.reply_lines.proofs.commands.has_its_multis.Goals as goal

pub has_first_multis-requires : goal.has_first_multis-requires
has_first_multis-requires g c =
    (c.requires.1.1.0.reach, (c.requires.1.0.counts, (c.items-multis.ensures ∙ ap (λ (l : Life). l.multis) c.requires.0.life, (c.as_slice.ensures.value ∙ c.in_ok-own.ensures, c.multi_places_of.ensures))))
