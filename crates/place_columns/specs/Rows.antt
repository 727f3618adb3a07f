-- The lines as their table keeps them.
use Rattle.std.specs.Prelude.{◌≡◌, ℕ, ◌<◌, List, length, map}
use Rattle.std.specs.Global.{Vec}
use Rattle.std.specs.List.{HoldsAt}
use Rattle.tx_events.specs.declared.event.By.{By}
use Rattle.place_columns.specs.declared.own.Own.{Own}
use Rattle.place_columns.specs.declared.lines.LineAt.{LineAt}
use Rattle.place_columns.specs.declared.lines.OwnLine.{OwnLine}
use Rattle.place_columns.specs.declared.lines.Row.{Row}
use Rattle.place_columns.specs.Owned.{own_of}

abbrev pub line_of : Row → LineAt
line_of row = record { by = record { session = row.session; command = row.command }; step = row.step }

abbrev pub own_line : OwnLine → Own
own_line line = record { command = line.command; place = line.number }

-- each session's lines, where the lines are these
abbrev pub AreOwnLines : List By → List (Vec OwnLine) → Type 0
AreOwnLines bys lists = (s : ℕ) → s < length lists → HoldsAt (λ (l : Vec OwnLine). map own_line l.items ≡ own_of s bys) lists s
