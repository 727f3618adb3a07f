-- The history of multixacts is legal, and each event is its entry's.
use Rattle.std.specs.Prelude.{◌≡◌, ℕ, ◌<◌, List, Contains, IfSome, IsTrue}
use Rattle.tx_events.specs.declared.multi.Member.{Member}
use Rattle.tx_events.specs.declared.multi.MultiEvent.{MultiEvent}
use Rattle.tx_events.specs.declared.multi.MultiEvent.TheVariants as multis
use Rattle.tx_events.specs.declared.record.Rec.{Rec}
use Rattle.tx_events.specs.declared.record.Rec.TheVariants as records
use Rattle.tx_events.specs.Multis.{InBase, MultiMayCome, multi_by}
use Rattle.tx_core.specs.declared.entry.Entry.{Entry}
use Rattle.tx_core.specs.declared.entry.Start.{Start}
use Rattle.tx_core.specs.Lists.{Upheld}
use Rattle.tx_core.specs.MultiEntries.{multi_of, multis_in}

-- Where the pages told, and the life began with a recorded one, a multixact that it began with is announced with its
-- offset.
abbrev pub ToldOf : Start → MultiEvent → Type 0
ToldOf start (multis.Raise by multi offset) =
    IsTrue start.told → (rec : Rec) → Contains start.recorded rec → multi < start.base.multi
    → (members : List Member) × Contains start.recorded (records.Multi multi offset members)
ToldOf start _ = Unit {0}

-- The event names the command of its entry, and may come after those before it. Of the offset of a multixact that the
-- life began with no more is asked than what a store knows that tells nothing, and what the pages told.
abbrev pub NeedsMulti : Start → List (List Entry) → ℕ → List Entry → Entry → Type 0
NeedsMulti start lists lock before e =
    IfSome (multi_of e) (λ event. (multi_by event ≡ e.by) × MultiMayCome start.base (InBase start.base) (multis_in before) event × ToldOf start event)

-- The multixacts' list holds one legal history, and no session writes another's events.
pub record MultisLegal (start : Start) (lists : List (List Entry)) : Type 0 where
  pub each : Upheld (NeedsMulti start) lists
