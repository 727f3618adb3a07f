-- How the transactions of a history ended, and with which ids.
use Rattle.std.specs.Prelude.{◌≡◌, ℕ, ◌<◌, ◌≤◌, ◌==◌, Bool, true, false, List, ◌∷◌, Option, None, Some, is_some, length, take, slice_get}
use Rattle.std.specs.List.{HoldsAt, between}
use Rattle.tx_events.specs.declared.event.By.{By}
use Rattle.tx_events.specs.declared.event.Event.{Event}
use Rattle.tx_events.specs.declared.event.Event.TheVariants as events
use Rattle.tx_events.specs.declared.xact_end.XactEnd.{XactEnd}
use Rattle.tx_events.specs.Families.{is_top}
use Rattle.tx_events.specs.Running.{open_ids}
use Rattle.tx_events.specs.XactEnds.{end_event}
use Rattle.tx_model.specs.declared.report.Line.{Line}
use Rattle.record_rules.specs.declared.ends.Ended.{Ended}
use Rattle.record_rules.specs.declared.ends.Ends.{Ends}
use Rattle.record_rules.specs.declared.transactions.OpenXact.{OpenXact}
use Rattle.record_rules.specs.declared.transactions.Transactions.{Transactions}
use Rattle.record_rules.specs.Answered.{IsAnswered}
use Rattle.near_map.specs.Near.{value_of}

abbrev pub is_end : Event → Bool
is_end (events.Commit by top) = true
is_end (events.Abort by top) = true
is_end e = false

-- somewhere the transaction of this top ended so, and what it had open then stands among these ids
pub record IsEndAt (h : List Event) (ids : List ℕ) (top : ℕ) (e : Ended) : Type 0 where
  pub place : ℕ
  pub by : By
  pub stands : slice_get h place ≡ Some (end_event e.how by top)
  pub order : e.from ≤ e.end
  pub within : e.end ≤ length ids
  pub opened : open_ids by.session (take place h) ≡ between e.from e.end ids

-- each end is kept by its top
pub record AreEnds (h : List Event) (ends : Ends) : Type 0 where
  pub each : (top : ℕ) (e : Ended) → value_of ends.by_top top ≡ Some e → IsEndAt h ends.ids.items top e
  pub all : (place top : ℕ) (how : XactEnd) (by : By) → slice_get h place ≡ Some (end_event how by top) → is_some (value_of ends.by_top top) ≡ true

abbrev pub is_same : Option ℕ → ℕ → Bool
is_same None x = false
is_same (Some t) x = t == x

-- what a session has open at the end, and what its last commit and abort were answered
pub record IsOpenXact (h : List Event) (lines : List Line) (session : ℕ) (x : OpenXact) : Type 0 where
  pub ids : x.ids.items ≡ open_ids session h
  pub root : (top : ℕ) (subs : List ℕ) → open_ids session h ≡ top ∷ subs → x.root ≡ is_top h top
  pub answered : IsAnswered lines session x.answers

-- of 64 sessions
pub record AreOpenXacts (h : List Event) (lines : List Line) (xacts : List OpenXact) : Type 0 where
  pub size : length xacts ≡ 64
  pub each : (s : ℕ) → s < 64 → HoldsAt (IsOpenXact h lines s) xacts s

pub record AreTransactions (h : List Event) (lines : List Line) (t : Transactions) : Type 0 where
  pub ends : AreEnds h t.ends
  pub opened : AreOpenXacts h lines t.opened.items
