-- The ids that a write gave, by how they are held.
use Rattle.std.specs.Prelude.{List, ℕ, []}
use Rattle.tx_model.specs.declared.given_ids.Held.{Held}
use Rattle.tx_model.specs.declared.given_ids.Held.TheVariants as helds

abbrev pub ids_in : Held → List ℕ
ids_in helds.Nothing = []
ids_in (helds.One id) = id
ids_in (helds.Two ids) = ids
ids_in (helds.Listed ids) = ids
