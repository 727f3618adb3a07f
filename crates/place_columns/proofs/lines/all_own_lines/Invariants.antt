use Rattle.std.proofs.Common.{◌≡◌, take, map}
use Rattle.std.specs.Global.{Vec}
use Rattle.place_columns.specs.declared.own.Own.{Own}
use Rattle.place_columns.specs.declared.lines.OwnLine.{OwnLine}
use Rattle.place_columns.specs.Rows.{own_line}
use Rattle.place_columns.proofs.lines.all_own_lines.Given as goal

abbrev pub invariant-loop-own : goal.invariant-loop-own
invariant-loop-own l = map (λ (x : Vec OwnLine). map own_line x.items) l.all.items ≡ map (λ (x : Vec Own). x.items) (take l.own-index l.lists)
