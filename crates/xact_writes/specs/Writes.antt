-- What the steps of a write leave.
use Rattle.std.specs.Prelude.{◌≡◌, ℕ, ◌+◌, ◌<◌, ◌↔◌, ◌⊎◌, Bool, IsTrue, List, [], ◌++◌, None, length, Result, Ok, Err, Option}
use Rattle.std.specs.List.{AllByRecursion, filter}
use Rattle.tx_events.specs.declared.event.By.{By}
use Rattle.tx_events.specs.declared.refusal.Refusal.{Refusal}
use Rattle.tx_events.specs.declared.refusal.Refusal.TheVariants as refusals
use Rattle.tx_events.specs.Events.{by_of, is_of}
use Rattle.tx_model.specs.declared.reply.Reply.{Reply}
use Rattle.tx_model.specs.declared.reply.Reply.TheVariants as replies
use Rattle.tx_model.specs.CommandEvents.{level_events}
use Rattle.tx_model.specs.Replies.{IsWarned}
use Rattle.tx_core.specs.declared.entry.Entry.{Entry}
use Rattle.tx_core.specs.declared.entry.Start.{Start}
use Rattle.tx_core.specs.Entries.{history}
use Rattle.proc_table.specs.declared.answers.Given.TheVariants as answers
use Rattle.session_levels.specs.declared.session.Session as plain
use Rattle.session_levels.specs.Stands.{levels_of}
use Rattle.engine_parts.specs.declared.session.Session.{Session}
use Rattle.engine_parts.specs.Sessions.{by_at}
use Rattle.engine_parts.specs.Steps.{WentOn}
use Rattle.bank_sections.specs.Faults.{IsBankFault}
use Rattle.proc_sections.specs.Givings.{GivesId, IsStopIn}
use Rattle.tx_events.specs.declared.refusal.Lock.TheVariants as locks
use Rattle.engine_parts.specs.declared.session.Unlinked.{Unlinked}
use Rattle.xact_writes.specs.declared.writes.Wrote.{Wrote}

-- the reply of a write that is done
abbrev pub reply_to : Wrote → Reply
reply_to wrote = replies.Wrote wrote.warn wrote.ids

-- why a level was given no id: memory was wanting, the stop limit was reached, or a fault was met
abbrev pub IsWithout : Start → List (List Entry) → By → Refusal → Type 0
IsWithout start lists by r = ((r ≡ refusals.Memory) ⊎ IsStopIn start.base (history lists) r) ⊎ IsBankFault lists by r

-- the session's lists have the same items, in more room maybe
pub record HasReserved (s s' : plain.Session) : Type 0 where
  pub commands : s'.commands ≡ s.commands
  pub named : s'.level_ids.items ≡ s.level_ids.items
  pub unnamed : s'.unnamed ≡ s.unnamed
  pub opened : s'.open_ids.items ≡ s.open_ids.items
  pub registered : s'.registered ≡ s.registered

-- the session stands the same
pub record IsAlike (s s' : Session) : Type 0 where
  pub levels : HasReserved s.levels s'.levels
  pub stage : s'.stage ≡ s.stage
  pub unlinked : s'.unlinked ≡ s.unlinked
  pub making : s'.making ≡ s.making

-- the id of a level was given, after the lists went on without an event of the session's
pub record IsGivenLater (start : Start) (n : ℕ) (s s' : Session) (id : ℕ) (warn : Bool)
    (lists more : List (List Entry)) : Type 0 where
  pub middle : List (List Entry)
  pub went : WentOn n [] lists middle
  pub given : GivesId start n s s' middle more (Ok (answers.Id id warn))

abbrev pub GivesLevel : Start → ℕ → Session → Session → List (List Entry) → List (List Entry)
    → Result (ℕ × Bool) Refusal → Type 0
GivesLevel start n s s' lists more (Ok given) = IsGivenLater start n s s' given.0 given.1 lists more
GivesLevel start n s s' lists more (Err r) =
    WentOn n [] lists more × IsAlike s s' × IsWithout start more (by_at n s.levels.commands) r

-- a write on its way: these ids were given so far, to the outermost levels that lacked one
pub record Writing (start : Start) (n : ℕ) (s s' : Session) (ids : List ℕ) (warn : Bool)
    (lists more : List (List Entry)) : Type 0 where
  pub went : WentOn n
      (level_events (by_at n s.levels.commands) None (levels_of s.levels.level_ids.items s.levels.unnamed) ids)
      lists more
  pub named : s'.levels.level_ids.items ≡ s.levels.level_ids.items ++ ids
  pub left : s.levels.unnamed ≡ length ids + s'.levels.unnamed
  pub registered : s'.levels.registered ≡ s.levels.registered
  pub count : s'.levels.commands ≡ s.levels.commands
  pub stage : s'.stage ≡ s.stage
  pub making : s'.making ≡ s.making
  pub warned : IsTrue warn ↔ IsWarned start.base (history more) (by_at n s.levels.commands)

-- no event so far is of this command
abbrev pub IsFresh : List (List Entry) → ℕ → ℕ → Type 0
IsFresh lists n command = AllByRecursion (λ e. (by_of e).command < command) (filter (is_of n) (history lists))

-- Behind a write that was refused the same parent is still to be recorded, or none is. Only behind a fault of
-- pg_subtrans it may be that of an id that the write gave.
abbrev pub IsFiledBehind : Option Unlinked → Option Unlinked → Refusal → Type 0
IsFiledBehind old new (refusals.DiskFault (locks.Subtrans bank)) = Unit {0}
IsFiledBehind old new refusal = (new ≡ None) ⊎ (new ≡ old)
