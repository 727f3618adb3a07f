-- What a command tells of the members of the multixact that it pins.
use Rattle.std.specs.Prelude.{◌≡◌, ℕ, ◌^◌, ◌<◌, ◌⊎◌, nat_lt, cond, Bool, false, List, [], ◌∷◌, Some, Contains, slice_get, take}
use Rattle.std.specs.List.{AllZip}
use Rattle.tx_events.specs.declared.event.By.{By}
use Rattle.tx_events.specs.declared.event.Event.{Event}
use Rattle.tx_events.specs.declared.multi.Member.{Member}
use Rattle.tx_events.specs.declared.multi.MultiEvent.{MultiEvent}
use Rattle.tx_events.specs.declared.multi.MultiEvent.TheVariants as multis
use Rattle.tx_events.specs.declared.record.Counters.{Counters}
use Rattle.tx_events.specs.Visible.{is_visible}
use Rattle.tx_model.specs.declared.reply.MemberVerdict.{MemberVerdict}
use Rattle.tx_model.specs.Replies.{RoundSpan, taken_by}
use Rattle.place_columns.specs.declared.span.Span.{Span}
use Rattle.report_law.specs.Begun.{Recorded}
use Rattle.report_law.specs.Kinds.{IsSnapAt}
use Rattle.report_law.specs.MultiLines.{IsGenOf, IsTold, MayCarry}
use Rattle.multi_rules.specs.declared.taken.Taken.{Taken}

-- a command that tells verdicts by the snapshot that its session's command `number` took, in a life that began with these
-- ids as committed and these multixacts recorded
pub record Telling : Type 0 where
  pub ids : List ℕ
  pub recorded : List Recorded
  pub round : RoundSpan
  pub by : By
  pub number : ℕ

-- the verdict on the member is so by this snapshot
abbrev pub IsToldBy : Counters → List Event → Telling → Member → MemberVerdict → Taken → Type 0
IsToldBy base h of member v t = IsTold base of.ids h of.round t.place member v

-- and all of them are
abbrev pub AreToldBy : Counters → List Event → Telling → List Member → List MemberVerdict → Taken → Type 0
AreToldBy base h of members told t = AllZip (IsTold base of.ids h of.round t.place) members told

-- by one of the snapshots that the command took
abbrev pub AreToldSo : Counters → List Event → Telling → List MemberVerdict → List Member → Type 0
AreToldSo base h of told members = (place : ℕ) × IsSnapAt h (taken_by of.by of.number) place × AllZip (IsTold base of.ids h of.round place) members told

-- the members of the multixact by its event before the pin
abbrev pub AreGivenSo : Counters → List Event → Telling → List MemberVerdict → List MultiEvent → ℕ → ℕ → Type 0
AreGivenSo base h of told all pinned multi =
    (place : ℕ) × (members : List Member) × (place < pinned) × IsGenOf all multi members place × AreToldSo base h of told members

-- and by its record
abbrev pub AreRecordedSo : Counters → List Event → Telling → List MemberVerdict → ℕ → Type 0
AreRecordedSo base h of told multi = (offset : ℕ) × (members : List Member) × Contains of.recorded (multi, offset, members) × AreToldSo base h of told members

-- the command pins a multixact at this place, of whose members it is told so
pub record IsAnswered (base : Counters) (h : List Event) (of : Telling) (told : List MemberVerdict) (all : List MultiEvent) (place : ℕ) : Type 0 where
  pub multi : ℕ
  pub pin : slice_get all place ≡ Some (multis.Hold of.by multi)
  pub so : AreGivenSo base h of told all place multi ⊎ AreRecordedSo base h of told multi

-- at one of these places
abbrev pub AnyOf : (ℕ → Type 0) → List ℕ → Type 0
AnyOf P [] = ⊥
AnyOf P (p ∷ places) = P p ⊎ AnyOf P places

-- the snapshots by which the id wasn't visible yet
abbrev pub IsUnseen : List ℕ → List Event → ℕ → Taken → Type 0
IsUnseen ids h id t = is_visible ids (take t.place h) id ≡ false

-- an oldest id that a command of the round may carry is past this one
abbrev pub IsCarriedPast : Counters → List Event → RoundSpan → ℕ → Type 0
IsCarriedPast base h round id = (oldest : ℕ) × MayCarry base h round oldest × (id < oldest)

-- Which snapshots tell that the id is too old, where so many are far below it, and so many not far above. Those far below
-- one below 2^32 don't know it.
abbrev pub too_old_span : ℕ → ℕ → ℕ → Bool → Span
too_old_span below end id carried =
    record { from = cond (nat_lt id (2 ^ 32)) 0 below; end = cond carried end (cond (nat_lt id (2 ^ 32)) below 0) }
