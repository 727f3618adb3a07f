-- The sessions of a life between two rounds, and what a round leaves.
use Rattle.std.specs.Prelude.{◌≡◌, ◌==◌, ℕ, ◌+◌, ◌^◌, ◌<◌, Bool, false, List, [], ◌∷◌, get_or, length, map}
use Rattle.std.specs.List.{All, flat_map, list_any}
use Rattle.disk_core.specs.declared.log_disk.LogDisk as logs
use Rattle.disk_core.specs.declared.page_disk.PageDisk as disks
use Rattle.hall.specs.declared.hall.Hall.{Hall}
use Rattle.hall.specs.Calls.{start_of, view}
use Rattle.notes.specs.Lists.{Grows, Knows}
use Rattle.tx_events.specs.Places.{first_seen}
use Rattle.tx_model.specs.declared.command.Command.{Command}
use Rattle.tx_model.specs.declared.report.Line.{Line}
use Rattle.tx_model.specs.Lines.{turn_of}
use Rattle.session_lang.specs.declared.script.Item.{Item}
use Rattle.session_lang.specs.Rounds.{turns_of}
use Rattle.script_rounds.specs.declared.keeper.LineKeeper as keepers
use Rattle.tx_core.specs.declared.entry.Entry.{Entry}
use Rattle.tx_core.specs.declared.entry.Start.{Start}
use Rattle.tx_core.specs.Entries.{session_of}
use Rattle.engine_parts.specs.declared.part.Part.{Part}
use Rattle.engine_parts.specs.declared.session.Caller.{Caller}
use Rattle.engine_parts.specs.declared.session.Session.{Session}
use Rattle.engine_parts.specs.Calls.{MayRun}
use Rattle.engine_parts.specs.Sessions.{MayCall}
use Rattle.engine_host.specs.declared.host.Host.{Host}
use Rattle.engine_host.specs.Hosts.{IsParked}
use Rattle.session_run.specs.declared.member.Member.{Member}
use Rattle.session_run.specs.Turns.{RanLines, RunsRound}

-- one of the numbers
abbrev pub is_among : List ℕ → ℕ → Bool
is_among numbers n = list_any (λ k. k == n) numbers

-- no number stands twice
abbrev pub AreApart : List ℕ → Type 0
AreApart [] = Unit {0}
AreApart (n ∷ numbers) = (is_among numbers n ≡ false) × AreApart numbers

module _ {K L P : Type 0} {l : logs.Ghosts L} {p : disks.Ghosts P} where
  abbrev pub numbers_of : List (Member K L P l p) → List ℕ
  numbers_of members = map (λ m. m.caller.number) members

  -- who they call as
  abbrev pub callers_of : List (Member K L P l p) → List (Caller L P l p)
  callers_of members = map (λ m. m.caller) members

  -- the session of the member was taken back, and the host has seen all of its entries
  pub record IsBack (host : Host L P l p) (here : Session) (m : Member K L P l p) : Type 0 where
    pub session : here ≡ m.caller.session
    pub known : Knows session_of m.caller.number (view m.caller.pass).seen (view host.pass).seen

  -- the sessions of these members were taken back, all others were left alone, and the host did nothing
  pub record AreBack (before after : Host L P l p) (members : List (Member K L P l p)) (old new : List Session)
      : Type 0 where
    pub count : length new ≡ length old
    pub back : (i : ℕ) (d : Session) (m : Member K L P l p) → i < length members
        → IsBack after (get_or new (get_or members i m).caller.number d) (get_or members i m)
    pub same : (n : ℕ) (d : Session) → is_among (numbers_of members) n ≡ false → get_or new n d ≡ get_or old n d
    pub idle : (n : ℕ) → n < length old → is_among (numbers_of members) n ≡ false
        → Knows session_of n (view before.pass).seen (view after.pass).seen
    pub hosts : Knows session_of before.cluster.sessions (view before.pass).seen (view after.pass).seen
    pub grows : Grows (view before.pass).seen (view after.pass).seen

module _ {H L P : Type 0} {l : logs.Ghosts L} {p : disks.Ghosts P} where
  -- each session may be let in
  abbrev pub AreParked : Hall H (Part L P l p) Entry Start → Host L P l p → List Session → Type 0
  AreParked hall host sessions =
      (n : ℕ) (d : Session) → n < length sessions → IsParked hall host n (get_or sessions n d)

  -- all sessions but those of these numbers are as they were, and may be let in
  pub record StayBehind (hall : Hall H (Part L P l p) Entry Start) (host : Host L P l p) (numbers : List ℕ)
      (old new : List Session) : Type 0 where
    pub count : length new ≡ length old
    pub same : (n : ℕ) (d : Session) → is_among numbers n ≡ false → get_or new n d ≡ get_or old n d
    pub parked : (n : ℕ) (d : Session) → n < length old → is_among numbers n ≡ false
        → IsParked hall host n (get_or old n d)

  -- The session, which knew what the host had seen, ran these commands, and the host has seen all of its entries.
  pub record TookPart (hall : Hall H (Part L P l p) Entry Start) (before after : Host L P l p) (n : ℕ)
      (old new : Session) (lines : List Line) : Type 0 where
    pub first : Caller L P l p
    pub last : Caller L P l p
    pub number : first.number ≡ n
    pub was : first.session ≡ old
    pub told : (view first.pass).seen ≡ (view before.pass).seen
    pub might : MayCall (start_of hall) (view first.pass) n old
    pub ran : RanLines hall first last lines
    pub is : last.session ≡ new
    pub known : Knows session_of n (view last.pass).seen (view after.pass).seen

  -- Each session ran its commands of the round, in the order of the report, and these are their lines. The other
  -- sessions are as they were, and the host did nothing.
  pub record WentRound (hall : Hall H (Part L P l p) Entry Start) (turns : List (ℕ × Command))
      (before after : Host L P l p) (old new : List Session) (lines : List Line) : Type 0 where
    pub told : List (ℕ × List Line)
    pub order : map (λ t. t.0) told ≡ first_seen (map (λ t. t.0) turns)
    pub part : (i : ℕ) (d : Session) (t : ℕ × List Line) → i < length told
        → TookPart hall before after (get_or told i t).0 (get_or old (get_or told i t).0 d) (get_or new (get_or told i t).0 d) (get_or told i t).1
    pub commands : (i : ℕ) (t : ℕ × List Line) → i < length told
        → map turn_of (get_or told i t).1 ≡ turns_of (get_or told i t).0 turns
    pub same : (n : ℕ) (d : Session) → is_among (map (λ t. t.0) told) n ≡ false → get_or new n d ≡ get_or old n d
    pub idle : (n : ℕ) → n < length old → is_among (map (λ t. t.0) told) n ≡ false
        → Knows session_of n (view before.pass).seen (view after.pass).seen
    pub hosts : Knows session_of before.cluster.sessions (view before.pass).seen (view after.pass).seen
    pub grows : Grows (view before.pass).seen (view after.pass).seen
    pub lines_are : lines ≡ flat_map (λ t. t.1) told

module _ {H K L P : Type 0} {l : logs.Ghosts L} {p : disks.Ghosts P} where
  -- the member may be taken back, and its session has a place
  pub record MayReturn (hall : Hall H (Part L P l p) Entry Start) (banks count : ℕ) (m : Member K L P l p) : Type 0 where
    pub may : MayRun hall banks m.caller
    pub known : m.caller.number < count

module _ {H K L P : Type 0} {l : logs.Ghosts L} {p : disks.Ghosts P} (k : keepers.Ghosts K) where
  -- the member is this session, which was let in, and knows all that the host has seen
  pub record IsSent (hall : Hall H (Part L P l p) Entry Start) (host : Host L P l p) (n : ℕ) (here : Session)
      (m : Member K L P l p) : Type 0 where
    pub number : m.caller.number ≡ n
    pub session : m.caller.session ≡ here
    pub told : (view m.caller.pass).seen ≡ (view host.pass).seen
    pub may : MayRun hall host.cluster.banks m.caller
    pub kept : m.kept ≡ k.nothing
    pub lines : m.lines ≡ []

  -- so each of the sessions of these numbers
  pub record AreSent (hall : Hall H (Part L P l p) Entry Start) (host : Host L P l p) (sessions : List Session)
      (numbers : List ℕ) (members : List (Member K L P l p)) : Type 0 where
    pub count : length members ≡ length numbers
    pub each : (i : ℕ) (d : Session) (m : Member K L P l p) → i < length members
        → IsSent hall host (get_or numbers i 0) (get_or sessions (get_or numbers i 0) d) (get_or members i m)

  -- each member ran its commands of the round
  pub record AllRan (hall : Hall H (Part L P l p) Entry Start) (banks : ℕ) (names : List (List ℕ)) (round : List Item)
      (old new : List (Member K L P l p)) : Type 0 where
    pub count : length new ≡ length old
    pub each : (i : ℕ) (m : Member K L P l p) → i < length old
        → RunsRound k hall banks names round ((get_or new i m).lost ≡ false) (get_or old i m) (get_or new i m)

module _ {K L P : Type 0} {l : logs.Ghosts L} {p : disks.Ghosts P} (k : keepers.Ghosts K) where
  -- what is kept with what the members keep more, one behind another
  abbrev pub with_members : K → List (Member K L P l p) → K
  with_members kept [] = kept
  with_members kept (m ∷ members) = with_members (k.joined kept m.kept) members

module _ {H K L P : Type 0} {l : logs.Ghosts L} {p : disks.Ghosts P} (k : keepers.Ghosts K) where
  -- The members ran the round, and call as these do. If memory sufficed for these, what they keep behind what is kept now is
  -- what the members kept behind what was kept first: on one thread it stands there at once, and these keep nothing.
  pub record HaveRun (hall : Hall H (Part L P l p) Entry Start) (banks : ℕ) (names : List (List ℕ)) (round : List Item)
      (kept kept' : K) (old new : List (Member K L P l p)) : Type 0 where
    pub ran : List (Member K L P l p)
    pub all : AllRan k hall banks names round old ran
    pub callers : callers_of new ≡ callers_of ran
    pub sufficed : All (λ m. m.lost ≡ false) new → All (λ m. m.lost ≡ false) ran
    pub kept_is : All (λ m. m.lost ≡ false) new → with_members k kept' new ≡ with_members k kept ran

-- each session may run so many commands more
abbrev pub MayAdd : ℕ → List Session → Type 0
MayAdd count sessions =
    (n : ℕ) (d : Session) → n < length sessions → (get_or sessions n d).levels.commands + count < 2 ^ 48
