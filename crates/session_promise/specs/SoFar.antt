-- A life so far, between two rounds.
use Rattle.std.specs.Prelude.{◌≡◌, ℕ, ◌+◌, ◌<◌, Bool, List, [], ◌∷◌, ◌++◌, Contains, None, Some, length, slice_get}
use Rattle.std.specs.List.{AllByRecursion}
use Rattle.notes.specs.Lists.{Grows, Knows, at}
use Rattle.tx_model.specs.declared.command.Command.{Command}
use Rattle.tx_model.specs.declared.report.Line.{Line}
use Rattle.tx_core.specs.declared.entry.Entry.{Entry}
use Rattle.tx_core.specs.declared.entry.Start.{Start}
use Rattle.tx_core.specs.EngineInvariant.{EngineInvariant}
use Rattle.tx_core.specs.Entries.{history, session_of}
use Rattle.tx_core.specs.MultiEntries.{multi_history}
use Rattle.engine_parts.specs.declared.session.Session.{Session}
use Rattle.engine_parts.specs.declared.session.Stage.TheVariants as stages
use Rattle.engine_parts.specs.Holds.{Knowledge}
use Rattle.engine_parts.specs.Sessions.{by_at}
use Rattle.session_levels.specs.Stands.{IsFresh}
use Rattle.session_promise.specs.Closing.{AreMadeBefore, IsOver, MayCallIn}
use Rattle.session_promise.specs.Promise.{Answered, Promise}
use Rattle.session_promise.specs.Rounds.{ArePartsOf, RoundPart, lines_of_parts, sessions_of}
use Rattle.session_promise.specs.Told.{Follow, Span, Told, ToldRound, all_lines, between, in_events, in_multis, place_of, told_by, told_in}

-- between these two points the session's next commands ran, one after another, and these are their lines
abbrev pub AnsweredLines : Bool → Start → Knowledge → Knowledge → ℕ → Session → Session → List Line → Type 0
AnsweredLines tells start v w n s s' [] = (w.seen ≡ v.seen) × (s' ≡ s)
AnsweredLines tells start v w n s s' (l ∷ lines) =
    (u : Knowledge) × (t : Session) × (l.by ≡ by_at n (s.levels.commands + 1))
    × Answered tells start v u n l.command l.reply s t × AnsweredLines tells start u w n t s' lines

-- A session ran these commands in a round, from the lists as they were before it, and all of its entries are in those
-- behind it.
pub record TookPart (tells : Bool) (start : Start) (before after : List (List Entry)) (n : ℕ) (old new : Session)
    (lines : List Line) : Type 0 where
  pub first : Knowledge
  pub last : Knowledge
  pub told : first.seen ≡ before
  pub ran : AnsweredLines tells start first last n old new lines
  pub known : Knows session_of n last.seen after

-- the round has run from some lists to others
abbrev pub span_between : List (List Entry) → List (List Entry) → Span
span_between before after = between (place_of before) (place_of after)

-- it promises of the round's lines too
abbrev pub PromiseThroughRound : Type 0
PromiseThroughRound =
    (tells : Bool) (start : Start) (before after : List (List Entry)) (n : ℕ) (past : List Told) (old new : Session)
    (lines : List Line)
    → TookPart tells start before after n old new lines → EngineInvariant start after
    → Promise tells start before n past old
    → Promise tells start after n (past ++ told_in (span_between before after) lines) new

-- Between two rounds each session of the life promises of its lines in all rounds, which stand one after another, and each
-- of which found done what those before it made.
pub record IsSoFar (tells : Bool) (start : Start) (lists : List (List Entry)) (sessions : List Session)
    (rounds : List ToldRound) : Type 0 where
  pub count : length sessions ≡ start.sessions
  pub each : (n : ℕ) (s : Session) → slice_get sessions n ≡ Some s
      → Promise tells start lists n (told_by n rounds) s
  pub places : Follow in_events 0 rounds (length (history lists))
  pub multi_places : Follow in_multis 0 rounds (length (multi_history lists))
  pub made : AreMadeBefore start rounds
  pub lines : AllByRecursion (λ l. l.by.session < start.sessions) (all_lines rounds)

-- so it is before the first round
abbrev pub SoFarBegins : Type 0
SoFarBegins =
    (tells : Bool) (start : Start) (lists : List (List Entry)) (sessions : List Session)
    → ((place : ℕ) → at lists place ≡ []) → length sessions ≡ start.sessions
    → ((n : ℕ) (s : Session) → slice_get sessions n ≡ Some s → IsFresh s.levels × (s.stage ≡ stages.Clear) × (s.making ≡ None))
    → IsSoFar tells start lists sessions []

-- Each session of the round ran its commands, and the others and the host did nothing.
pub record WentRound (tells : Bool) (start : Start) (before after : List (List Entry)) (old new : List Session)
    (turns : List (ℕ × Command)) (parts : List RoundPart) : Type 0 where
  pub parts_of : ArePartsOf turns parts
  pub known : AllByRecursion (λ p. p.session < start.sessions) parts
  pub took : (p : RoundPart) (s s' : Session) → Contains parts p → slice_get old p.session ≡ Some s
      → slice_get new p.session ≡ Some s' → TookPart tells start before after p.session s s' p.lines
  pub same : (n : ℕ) → (Contains (sessions_of parts) n → ⊥) → slice_get new n ≡ slice_get old n
  pub idle : (n : ℕ) → n < start.sessions → (Contains (sessions_of parts) n → ⊥) → Knows session_of n before after
  pub hosts : Knows session_of start.sessions before after
  pub grows : Grows before after
  pub count : length new ≡ length old
  pub kept : (n : ℕ) → n < start.sessions → EngineInvariant start after

abbrev pub round_of : List (List Entry) → List (List Entry) → List RoundPart → ToldRound
round_of before after parts = record { span = span_between before after; lines = lines_of_parts parts }

-- then it is so with this round more
abbrev pub SoFarGoesOn : Type 0
SoFarGoesOn =
    (tells : Bool) (start : Start) (before after : List (List Entry)) (old new : List Session)
    (turns : List (ℕ × Command)) (parts : List RoundPart) (rounds : List ToldRound)
    → IsSoFar tells start before old rounds → WentRound tells start before after old new turns parts
    → IsSoFar tells start after new (rounds ++ round_of before after parts ∷ [])

-- and then the life may be over
abbrev pub SoFarEnds : Type 0
SoFarEnds =
    (tells : Bool) (start : Start) (lists : List (List Entry)) (sessions : List Session) (rounds : List ToldRound)
    → IsSoFar tells start lists sessions rounds → EngineInvariant start lists
    → ((n : ℕ) (s : Session) → slice_get sessions n ≡ Some s → MayCallIn start lists n s)
    → IsOver tells start lists rounds
