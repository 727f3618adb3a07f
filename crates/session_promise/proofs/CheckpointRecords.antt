-- The checkpoints that entries append.
use Rattle.std.proofs.Common.{List, ap, map, ◌++◌, ◌∙◌, ◌≡◌}
use Rattle.std.proofs.lemmas.List.{map-append}
use Rattle.std.proofs.lemmas.List.Elements.{filter_map-append}
use Rattle.tx_events.specs.declared.event.By.{By}
use Rattle.tx_events.specs.declared.record.Rec.{Rec}
use Rattle.life_law.specs.Checkpoints.{checkpoint_in, checkpoints_in}
use Rattle.tx_core.specs.declared.entry.Entry.{Entry}
use Rattle.tx_core.specs.Entries.{appended, records_in, recs_in}

pub recs_append : (a b : List Entry) → recs_in (a ++ b) ≡ recs_in a ++ recs_in b
recs_append a b = ap (map (λ (r : By × Rec). r.1)) (filter_map-append appended a b) ∙ map-append (λ (r : By × Rec). r.1) (records_in a) (records_in b)

pub checkpoints_append : (a b : List Entry) → checkpoints_in (recs_in (a ++ b)) ≡ checkpoints_in (recs_in a) ++ checkpoints_in (recs_in b)
checkpoints_append a b = ap checkpoints_in (recs_append a b) ∙ filter_map-append checkpoint_in (recs_in a) (recs_in b)
