-- The snapshots of a session, as a stance has them.
use Rattle.std.specs.Prelude.{ℕ, List}
use Rattle.line_stances.specs.declared.snaps.Taken.{Taken}

abbrev pub told_of : Taken → List ℕ × ℕ
told_of t = (t.name, t.command)
