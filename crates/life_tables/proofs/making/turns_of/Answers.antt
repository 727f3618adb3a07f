use Rattle.std.proofs.Common.{◌<◌, List, sym, subst, ◌∙◌}
use Rattle.std.specs.List.{All}
use Rattle.tx_events.specs.declared.event.By.{By}
use Rattle.life_tables.proofs.Lining.{few_map}
use Rattle.life_tables.proofs.making.turns_of.Goals as goal

pub own_places-requires : goal.own_places-requires
own_places-requires g c =
    subst (λ (bs : List By). All (λ (b : By). b.session < 64) bs) (sym (c.as_slice.ensures.value ∙ c.in_ok-bys.ensures)) (few_map _ c.args.events.now c.requires)
