-- A set of the transactions of a log's commit records.
use Rattle.std.specs.Prelude.{◌≡◌, ℕ, List}
use Rattle.std.specs.BTreeSet.{BTreeSet, contains}
use Rattle.std.specs.List.{list_any}
use Rattle.std.specs.Ordering.{nat_cmp}
use Rattle.tx_events.specs.declared.record.Rec.{Rec}
use Rattle.life_law.specs.Pending.{is_commit_of}

-- the transactions of the commit records among these
abbrev pub AreTops : List Rec → BTreeSet ℕ → Type 0
AreTops recs tops = (x : ℕ) → contains nat_cmp tops x ≡ list_any (is_commit_of x) recs
