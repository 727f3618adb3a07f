-- What a `multi` came to, from what its steps came to.
use Rattle.std.proofs.Common.{◌≡◌, ◌≢◌, ⊎_elim, inl, inr, ℕ, List, [], ◌∷◌, ◌++◌, None, IfSome, Option, Result, Ok, Err, append_assoc, length, sym, ap, subst, ◌∙◌}
use Rattle.notes.specs.Lists.{Grows}
use Rattle.tx_events.specs.declared.multi.Member.{Member}
use Rattle.tx_events.specs.declared.multi.MultiEvent.{MultiEvent}
use Rattle.tx_events.specs.declared.refusal.Refusal.{Refusal}
use Rattle.tx_events.specs.History.{next_given}
use Rattle.tx_model.specs.declared.command.Pair.{Pair}
use Rattle.multi_store.specs.declared.answers.MultiGiven.{MultiGiven}
use Rattle.tx_core.specs.declared.entry.Entry.{Entry}
use Rattle.tx_core.specs.declared.entry.Start.{Start}
use Rattle.tx_core.specs.Entries.{history}
use Rattle.tx_core.specs.MultiEntries.{multi_history}
use Rattle.tx_core.specs.OwnMultis.{IsMultiDone}
use Rattle.tx_core.proofs.Rising.{multis_grow}
use Rattle.engine_parts.specs.declared.session.Making.{Making}
use Rattle.engine_parts.specs.declared.session.Session.{Session}
use Rattle.engine_parts.specs.Sessions.{by_at}
use Rattle.engine_parts.specs.Steps.{WentMulti}
use Rattle.engine_parts.proofs.Leaving.{grows_then}
use Rattle.multi_sections.specs.Steps.{IsLast}
use Rattle.multi_sections.specs.Takings.{IsNotTaken, IsTaken, Takes, session_taken, taken_event}
use Rattle.multi_makes.specs.Full.{AreFullOf}
use Rattle.multi_makes.specs.Makes.{AreRead, IsGivenIn, IsNoneGiven, IsStopped, MakesNew, MakesNext, MakesOf}
use Rattle.multi_makes.specs.Pending.{StopsMaking}
use Rattle.multi_makes.proofs.Going.{multi_before, multi_then}
use Rattle.multi_makes.proofs.Reading.{full_length}

-- ---- one was taken

pub given_in : (start : Start) (n m : ℕ) (s : Session) (members : List Member) (g : MultiGiven) (lists mid more : List (List Entry)) → m ≡ n → Takes start n s members lists mid (Ok g) → WentMulti m [] mid more → IsGivenIn start n s members g lists more
given_in start n m s members g lists mid more same t went =
    let event : MultiEvent = taken_event n s members g in
    let before : List MultiEvent = t.1 in
    let last : IsLast before event mid = t.2 in
    let taken : IsTaken start.base before members g = t.3 in
    let b = multis_grow mid more went.grows in
    record {
      went = multi_before n m (event ∷ []) lists mid more same t.0 went;
      before = before;
      rest = b.0;
      split = sym b.1 ∙ (ap (λ (h : List MultiEvent). h ++ b.0) last.split ∙ append_assoc before (event ∷ []) b.0);
      taken = taken;
    }

-- the session makes what was taken
pub taken_done : (start : Start) (lists : List (List Entry)) (n m : ℕ) (s t : Session) (members : List Member) (g : MultiGiven) → m ≡ n → t ≡ session_taken s members (Ok g) → IfSome t.making (λ x. IsMultiDone start lists m x.multi x.offset x.members) → IsMultiDone start lists n g.multi g.offset members
taken_done start lists n m s t members g same is d =
    subst (λ z. IsMultiDone start lists z g.multi g.offset members) same
    (subst (λ (z : Session). IfSome z.making (λ x. IsMultiDone start lists m x.multi x.offset x.members)) is d)

-- ---- what was made of the script's members

-- a moment before counts too, whatever the session made then
pub given_earlier : (start : Start) (n : ℕ) (s : Session) (o : Option Making) (members : List Member) (g : MultiGiven) (lists mid more : List (List Entry)) → WentMulti n [] lists mid → IsGivenIn start n (record s { making = o }) members g mid more → IsGivenIn start n s members g lists more
given_earlier start n s o members g lists mid more went e = record {
  went = multi_then n [] (taken_event n s members g ∷ []) lists mid more went e.went;
  before = e.before;
  rest = e.rest;
  split = e.split;
  taken = e.taken;
}

read_of : (start : Start) (lists mid more : List (List Entry)) (pairs : List Pair) (members : List Member) → Grows lists mid → Grows mid more → AreFullOf (next_given start.base.next (history mid)) pairs members → AreRead start lists more pairs members
read_of start lists mid more pairs members from upto full = record { seen = mid; from = from; upto = upto; full = full }

pub new_of : (start : Start) (n : ℕ) (s s' : Session) (pairs : List Pair) (members : List Member) (lists mid more : List (List Entry)) → WentMulti n [] lists mid → AreFullOf (next_given start.base.next (history mid)) pairs members → (result : Result MultiGiven Refusal) → MakesOf start n s s' members mid more result → MakesNew start n s s' pairs lists more result
new_of start n s s' pairs members lists mid more went full (Ok g) m = (
  m.0,
  record {
    members = members;
    read = read_of start lists mid more pairs members went.grows m.1.went.grows full;
    event = given_earlier start n s s.making members g lists mid more went m.1;
    done = m.2;
  },
)
new_of start n s s' pairs members lists mid more went full (Err r) m =
    ⊎_elim
    (λ (x : (s'.making ≡ None) × WentMulti n [] mid more × IsNotTaken start.base (multi_history more) (length members) r).
    inl (x.0, multi_then n [] [] lists mid more went x.1, inr (subst (λ z. IsNotTaken start.base (multi_history more) z r) (full_length (next_given start.base.next (history mid)) pairs members full) x.2)))
    (λ (x : (s'.making ≢ None) × (g : MultiGiven) × IsGivenIn start n s members g mid more × StopsMaking start more (by_at n s.levels.commands) r).
    inr (
      x.0,
      record {
        members = members;
        read = read_of start lists mid more pairs members went.grows x.2.went.grows full;
        given = x.1;
        event = given_earlier start n s s.making members x.1 lists mid more went x.2;
        stops = x.3;
      },
    ))
    m

-- ---- behind the one before

read_earlier : (start : Start) (lists mid more : List (List Entry)) (pairs : List Pair) (members : List Member) → Grows lists mid → AreRead start mid more pairs members → AreRead start lists more pairs members
read_earlier start lists mid more pairs members g r = record { seen = r.seen; from = grows_then lists mid r.seen g r.from; upto = r.upto; full = r.full }

pub next_of : (start : Start) (n : ℕ) (s s' : Session) (pairs : List Pair) (lists mid more : List (List Entry)) → WentMulti n [] lists mid → (result : Result MultiGiven Refusal) → MakesNew start n (record s { making = None }) s' pairs mid more result → MakesNext start n s s' pairs lists more result
next_of start n s s' pairs lists mid more went (Ok g) m = (
  m.0,
  record {
    members = m.1.members;
    read = read_earlier start lists mid more pairs m.1.members went.grows m.1.read;
    event = given_earlier start n s None m.1.members g lists mid more went m.1.event;
    done = m.1.done;
  },
)
next_of start n s s' pairs lists mid more went (Err r) m =
    inr (⊎_elim
    (λ (x : (s'.making ≡ None) × WentMulti n [] mid more × IsNoneGiven start more pairs r). inl (x.0, multi_then n [] [] lists mid more went x.1, x.2))
    (λ (x : (s'.making ≢ None) × IsStopped start n (record s { making = None }) pairs mid more r).
    inr (
      x.0,
      record {
        members = x.1.members;
        read = read_earlier start lists mid more pairs x.1.members went.grows x.1.read;
        given = x.1.given;
        event = given_earlier start n s None x.1.members x.1.given lists mid more went x.1.event;
        stops = x.1.stops;
      },
    ))
    m)
