-- A law that asks for nothing, and a pass that goes through many critical sections.
use Rattle.std.specs.Prelude.{◌≡◌, ℕ, ◌<◌, List, [], length, replicate}
use Rattle.hall.specs.declared.writer.Writer.{Writer}
use Rattle.hall.specs.declared.writer.Writer.TheVariants.{Lock, Session}
use Rattle.hall.specs.declared.view.Opening.{Opening}
use Rattle.hall.specs.declared.view.View.{View}
use Rattle.hall.specs.declared.view.Stage.TheVariants.{Free}
use Rattle.notes.specs.Lists.{Knows, add}
use Rattle.hall.specs.Lists.{Whole}
use Rattle.parts_bench.specs.declared.hall_turns.Turn.{Turn}

-- the session of an entry
abbrev pub by : Turn → ℕ
by e = e.by

-- there are no words
abbrev pub writes : ℕ → Writer
writes q = Lock q

-- nothing is asked of any history
abbrev pub Anything : List (List Turn) → Type 0
Anything ls = Unit {0}

-- so each entry keeps it
pub keeps : (start : Unit {0}) (ls seen : List (List Turn)) (q : ℕ) (e : Turn) → Anything ls → Knows by (by e) seen ls → Whole writes (Session (by e)) seen ls → q < length ls → Whole writes (writes q) seen ls → Unit {0} → Anything (add ls q e)
keeps start ls seen q e k n o lt w m = tt

-- empty histories, and so many names
abbrev pub opening : ℕ → ℕ → Opening (Unit {0}) Turn
opening locks passes = record { start = tt; lists = replicate locks []; passes = passes }

-- the pass went through critical sections, and is free again
pub record Took (v w : View (Unit {0}) Turn) : Type 0 where
  pub stage : w.stage ≡ Free
  pub holds : w.holds ≡ v.holds
