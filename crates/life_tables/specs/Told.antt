-- What lines' replies tell of snapshots.
use Rattle.std.specs.Prelude.{◌≡◌, ℕ, ◌++◌, None, Option, List, map, replicate}
use Rattle.tx_events.specs.declared.snapshot.SnapData.{SnapData}
use Rattle.tx_model.specs.declared.report.Line.{Line}
use Rattle.event_rules.specs.Fronts.{list_at}
use Rattle.event_rules.specs.SnapsTold.{told_lists}
use Rattle.life_tables.specs.declared.telling.ToldSoFar.{ToldSoFar}

-- of each line, with the last ones that tell of none
unfoldable pub told_of : ToldSoFar → List (Option SnapData)
told_of s = s.lists.items ++ replicate s.blanks None

-- the list has of each line what its reply tells; past its end none tells of a snapshot
abbrev pub AreToldLists : List Line → List (Option SnapData) → Type 0
AreToldLists lines lists = (n : ℕ) → list_at lists n ≡ list_at (map (λ (l : Line). told_lists l.reply) lines) n
