-- A log that met a fault stays down.
use Rattle.std.specs.Prelude.{◌≡◌, ℕ, Bool, true, false, List}
use Rattle.std.specs.List.{list_any}
use Rattle.tx_core.specs.declared.entry.Entry.{Entry}
use Rattle.tx_core.specs.declared.entry.Kind.{Kind}
use Rattle.tx_core.specs.declared.entry.Kind.TheVariants as kinds
use Rattle.tx_core.specs.declared.entry.LogCall.{LogCall}
use Rattle.tx_core.specs.declared.entry.LogCall.TheVariants as calls
use Rattle.tx_core.specs.Lists.{Upheld}

-- the calls that put the log down where they fail; a dump only reads
abbrev pub puts_down : LogCall → Bool
puts_down calls.Flush = true
puts_down (calls.Forget number) = true
puts_down calls.Dump = false

abbrev pub is_put_down : Kind → Bool
is_put_down (kinds.LogFault asked count) = puts_down asked
is_put_down _ = false

-- one of these entries put the log down
abbrev pub is_down : List Entry → Bool
is_down es = list_any (λ e. is_put_down e.kind) es

abbrev pub IsUp : List Entry → Type 0
IsUp es = is_down es ≡ false

-- a record, a flush and a forget need a log that isn't down, and so does a fault that puts it down
abbrev pub UpOf : List Entry → Kind → Type 0
UpOf before (kinds.Append rec) = IsUp before
UpOf before (kinds.Flush to) = IsUp before
UpOf before (kinds.Forget number) = IsUp before
UpOf before (kinds.LogFault asked count) = puts_down asked ≡ true → IsUp before
UpOf before _ = Unit {0}

abbrev pub NeedsUp : List (List Entry) → ℕ → List Entry → Entry → Type 0
NeedsUp lists lock before e = UpOf before e.kind

-- Behind a flush or a forget that failed the log takes no record, and nothing is flushed or forgotten. So what was
-- below the last flush stays all that is known to be on disk.
pub record StaysDown (lists : List (List Entry)) : Type 0 where
  pub each : Upheld NeedsUp lists
