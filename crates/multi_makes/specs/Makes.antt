-- What a `multi` makes, and why it doesn't.
use Rattle.std.specs.Prelude.{◌≡◌, ◌≢◌, ◌⊎◌, ℕ, ◌++◌, List, [], ◌∷◌, None, Result, Ok, Err, length}
use Rattle.notes.specs.Lists.{Grows}
use Rattle.tx_events.specs.declared.multi.Member.{Member}
use Rattle.tx_events.specs.declared.multi.MultiEvent.{MultiEvent}
use Rattle.tx_events.specs.declared.refusal.Refusal.{Refusal}
use Rattle.tx_events.specs.History.{next_given}
use Rattle.tx_events.specs.Horizon.{oldest_id}
use Rattle.tx_model.specs.declared.command.Pair.{Pair}
use Rattle.tx_model.specs.declared.reply.Reply.{Reply}
use Rattle.tx_model.specs.declared.reply.Reply.TheVariants as replies
use Rattle.multi_store.specs.declared.answers.MultiGiven.{MultiGiven}
use Rattle.tx_core.specs.declared.entry.Entry.{Entry}
use Rattle.tx_core.specs.declared.entry.Start.{Start}
use Rattle.tx_core.specs.Entries.{history}
use Rattle.tx_core.specs.MultiEntries.{multi_history}
use Rattle.tx_core.specs.OwnMultis.{IsMultiDone}
use Rattle.disk_core.specs.declared.log_disk.LogDisk as logs
use Rattle.disk_core.specs.declared.page_disk.PageDisk as disks
use Rattle.engine_parts.specs.declared.session.Caller.{Caller}
use Rattle.engine_parts.specs.declared.session.Session.{Session}
use Rattle.engine_parts.specs.Sessions.{by_at}
use Rattle.engine_parts.specs.Steps.{WentMulti}
use Rattle.multi_sections.specs.Takings.{IsNotTaken, IsTaken, taken_event}
use Rattle.multi_makes.specs.Full.{AreFullOf, AreNotFull}
use Rattle.multi_makes.specs.Pending.{StopsMaking}

-- the reply that tells the multixact
abbrev pub given_reply : MultiGiven → Reply
given_reply g = replies.Multi g.multi g.offset g.warn

-- the multixact is made whole: its record stands, its members, and its offset
pub record IsMade (start : Start) (lists : List (List Entry)) (n : ℕ) (g : MultiGiven) : Type 0 where
  pub members : List Member
  pub done : IsMultiDone start lists n g.multi g.offset members

-- the members were read between two moments from what a script wrote
pub record AreRead (start : Start) (lists more : List (List Entry)) (pairs : List Pair) (members : List Member) : Type 0 where
  pub seen : List (List Entry)
  pub from : Grows lists seen
  pub upto : Grows seen more
  pub full : AreFullOf (next_given start.base.next (history seen)) pairs members

-- it was given, as the next one behind these events
pub record IsGivenIn (start : Start) (n : ℕ) (s : Session) (members : List Member) (g : MultiGiven) (lists more : List (List Entry)) : Type 0 where
  pub went : WentMulti n (taken_event n s members g ∷ []) lists more
  pub before : List MultiEvent
  pub rest : List MultiEvent
  pub split : multi_history more ≡ before ++ (taken_event n s members g ∷ rest)
  pub taken : IsTaken start.base before members g

-- one was given that is made whole, or none was, or one that the session still makes
abbrev pub MakesOf : Start → ℕ → Session → Session → List Member → List (List Entry) → List (List Entry) → Result MultiGiven Refusal → Type 0
MakesOf start n s s' members lists more (Ok g) =
    (s'.making ≡ None) × IsGivenIn start n s members g lists more × IsMultiDone start more n g.multi g.offset members
MakesOf start n s s' members lists more (Err r) =
    ((s'.making ≡ None) × WentMulti n [] lists more × IsNotTaken start.base (multi_history more) (length members) r)
    ⊎ ((s'.making ≢ None) × (g : MultiGiven) × IsGivenIn start n s members g lists more × StopsMaking start more (by_at n s.levels.commands) r)

-- why none was given: the members, the limits, or memory
abbrev pub IsNoneGiven : Start → List (List Entry) → List Pair → Refusal → Type 0
IsNoneGiven start lists pairs r =
    AreNotFull (next_given start.base.next (history lists)) (oldest_id start.base.oldest (history lists)) pairs r
    ⊎ IsNotTaken start.base (multi_history lists) (length pairs) r

-- why one that was given isn't made whole
pub record IsStopped (start : Start) (n : ℕ) (s : Session) (pairs : List Pair) (lists more : List (List Entry)) (r : Refusal) : Type 0 where
  pub members : List Member
  pub read : AreRead start lists more pairs members
  pub given : MultiGiven
  pub event : IsGivenIn start n s members given lists more
  pub stops : StopsMaking start more (by_at n s.levels.commands) r

pub record IsMadeNew (start : Start) (n : ℕ) (s : Session) (pairs : List Pair) (lists more : List (List Entry)) (g : MultiGiven) : Type 0 where
  pub members : List Member
  pub read : AreRead start lists more pairs members
  pub event : IsGivenIn start n s members g lists more
  pub done : IsMultiDone start more n g.multi g.offset members

-- A new one is made whole. Or none was given. Or one was that the session still makes.
abbrev pub MakesNew : Start → ℕ → Session → Session → List Pair → List (List Entry) → List (List Entry) → Result MultiGiven Refusal → Type 0
MakesNew start n s s' pairs lists more (Ok g) = (s'.making ≡ None) × IsMadeNew start n s pairs lists more g
MakesNew start n s s' pairs lists more (Err r) =
    ((s'.making ≡ None) × WentMulti n [] lists more × IsNoneGiven start more pairs r)
    ⊎ ((s'.making ≢ None) × IsStopped start n s pairs lists more r)

-- the one that the session made before isn't made whole
pub record IsHeldUp (start : Start) (n : ℕ) (s s' : Session) (lists more : List (List Entry)) (r : Refusal) : Type 0 where
  pub went : WentMulti n [] lists more
  pub old : s.making ≢ None
  pub new : s'.making ≢ None
  pub stops : StopsMaking start more (by_at n s.levels.commands) r

-- that comes before
abbrev pub MakesNext : Start → ℕ → Session → Session → List Pair → List (List Entry) → List (List Entry) → Result MultiGiven Refusal → Type 0
MakesNext start n s s' pairs lists more (Ok g) = MakesNew start n s s' pairs lists more (Ok g)
MakesNext start n s s' pairs lists more (Err r) = IsHeldUp start n s s' lists more r ⊎ MakesNew start n s s' pairs lists more (Err r)

module _ {L P : Type 0} {l : logs.Ghosts L} {p : disks.Ghosts P} where
  -- the session stands as before, but for what it makes
  pub record LeavesMaking (old new : Caller L P l p) : Type 0 where
    pub session : new.session ≡ record old.session { making = new.session.making }
    pub number : new.number ≡ old.number
