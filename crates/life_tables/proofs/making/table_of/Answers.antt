use Rattle.std.proofs.Common.{◌<◌, List, map, sym, subst}
use Rattle.std.specs.List.{All, flat_map}
use Rattle.tx_events.specs.declared.event.By.{By}
use Rattle.tx_model.specs.declared.report.Step.{Step}
use Rattle.tx_model.specs.Rounds.{lines_in}
use Rattle.place_columns.specs.Lined.{AreInOrder, line_by}
use Rattle.life_tables.proofs.Lining.{few_from, few_map, lines_order}
use Rattle.life_tables.proofs.making.table_of.Goals as goal

pub new-requires-clause-sessions : goal.new-requires-clause-sessions
new-requires-clause-sessions c =
    let ls = flat_map lines_in c.args.report.now.steps in
    subst (λ (ss : List Step). All (λ (b : By). b.session < 64) (map line_by (flat_map lines_in ss))) (sym c.items.ensures) (few_map line_by ls (few_from line_by ls c.requires.lines))

pub new-requires-clause-order : goal.new-requires-clause-order
new-requires-clause-order c =
    subst (λ (ss : List Step). AreInOrder (map line_by (flat_map lines_in ss))) (sym c.items.ensures) (lines_order (flat_map lines_in c.args.report.now.steps) c.requires.order)
