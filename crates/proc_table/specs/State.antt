-- The state of the table is that of its events.
use Rattle.std.specs.Prelude.{◌≡◌, ℕ, ◌+◌, ◌^◌, ◌<◌, ◌≤◌, ◌==◌, false, List, [], length, Option, IfSome}
use Rattle.std.specs.List.{AllByRecursion, list_any}
use Rattle.tx_events.specs.declared.event.Event.{Event}
use Rattle.tx_events.specs.declared.record.Counters.{Counters}
use Rattle.tx_events.specs.Base.{IsBase}
use Rattle.tx_events.specs.History.{IsLegal, next_given}
use Rattle.tx_events.specs.Running.{running, running_tops, open_ids}
use Rattle.tx_events.specs.Snapshots.{latest, snapshot_data}
use Rattle.tx_events.specs.declared.snapshot.SnapData.{SnapData}
use Rattle.tx_events.specs.Horizon.{oldest_id, live_snaps}
use Rattle.proc_table.specs.declared.entry.Entry.{Entry}
use Rattle.proc_table.specs.declared.live.LiveSnapshots.{LiveSnapshots}
use Rattle.proc_table.specs.Entries.{IsEntryAt}
use Rattle.proc_table.specs.Lists.{tops_of}
use Rattle.proc_table.specs.Lives.{HoldsLive}

pub record IsState (base : Counters) (h : List Event) (next oldest late promised : ℕ) (entries : List Entry) (lives : LiveSnapshots) : Type 0 where
  pub base_is : IsBase base
  pub legal : IsLegal base h
  pub next_is : next ≡ next_given base.next h
  pub oldest_is : oldest ≡ oldest_id base.oldest h
  pub latest_is : late ≡ latest base.next h
  pub tops : tops_of entries ≡ running_tops h
  pub each : AllByRecursion (IsEntryAt base.next h) entries
  pub others : (s : ℕ) → list_any (λ (e : Entry). e.session == s) entries ≡ false → open_ids s h ≡ []
  pub live : HoldsLive (live_snaps base.next h) lives
  -- the events that may come without memory: an end for each running id, a drop for each live snapshot
  pub room : length (running h) + length (live_snaps base.next h) ≤ promised
  pub next_to : next < 2 ^ 63
  pub oldest_to : oldest < 2 ^ 63

-- what is kept of a snapshot's contents, if anything, is what a snapshot holds that is taken now
abbrev pub IsOfNow : ℕ → List Event → Option SnapData → Type 0
IsOfNow first h contents = IfSome contents (λ d. d ≡ snapshot_data first h)
