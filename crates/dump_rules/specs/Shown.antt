-- What a dump's bytes show of one number: an id, a multixact or an offset.
use Rattle.std.specs.Prelude.{◌≡◌, ℕ, ◌+◌, ◌-◌, ◌*◌, ◌/◌, ◌<◌, ◌≤◌, Bool, true, List, Option, Some, None, Contains, slice_get, take}
use Rattle.tx_events.specs.Ids.{low_half}
use Rattle.tx_events.specs.Modes.{mode_number}
use Rattle.tx_events.specs.declared.event.By.{By}
use Rattle.tx_events.specs.declared.event.Event.{Event}
use Rattle.tx_events.specs.declared.multi.Member.{Member}
use Rattle.tx_events.specs.declared.multi.MultiEvent.{MultiEvent}
use Rattle.tx_events.specs.declared.multi.MultiEvent.TheVariants as multis
use Rattle.tx_events.specs.Events.{given}
use Rattle.tx_model.specs.declared.report.DumpOf.{DumpOf}
use Rattle.tx_model.specs.declared.report.DumpOf.TheVariants as dumps
use Rattle.tx_model.specs.declared.report.Line.{Line}
use Rattle.store_pages.specs.Layouts.{word_place_of}
use Rattle.tx_events.specs.Pages.{id_at, member_page, member_place, mode_at, offset_page, subtrans_page, xact_page}
use Rattle.place_columns.specs.declared.span.Span.{Span}
use Rattle.report_law.specs.Dumps.{HasBits, HasByte, HasWord, parent_or_none, state_number}
use Rattle.report_law.specs.Steps.{Judged}
use Rattle.dump_rules.specs.declared.gens.GenMark.{GenMark}

-- behind which events of both histories the dump is, and which commands were answered with a multixact
pub record Behind : Type 0 where
  pub events : List Event
  pub place : ℕ
  pub multis : List MultiEvent
  pub multi_place : ℕ
  pub ok : By → Bool

-- a dump behind these lines of a life
pub record Dumped : Type 0 where
  pub j : Judged
  pub before : List Line

abbrev pub ShowsState : List Event → ℕ → ℕ → List ℕ → ℕ → Type 0
ShowsState h page at bytes x = Contains (given h) x → xact_page (low_half x) ≡ page → HasBits at bytes (low_half x) (state_number h x)

abbrev pub ShowsParent : List Event → ℕ → ℕ → List ℕ → ℕ → Type 0
ShowsParent h page at bytes x = Contains (given h) x → subtrans_page (low_half x) ≡ page → HasWord at bytes (word_place_of x) (low_half (parent_or_none h x))

-- the event there gives the multixact to a command that was answered so
pub record GivesTo (b : Behind) (place multi offset : ℕ) (members : List Member) : Type 0 where
  pub by : By
  pub within : place < b.multi_place
  pub stands : slice_get b.multis place ≡ Some (multis.Gen by multi offset members)
  pub ok : b.ok by ≡ true

abbrev pub ShowsOffset : Behind → ℕ → ℕ → List ℕ → ℕ → Type 0
ShowsOffset b page at bytes multi =
    (place offset : ℕ) (members : List Member) → GivesTo b place multi offset members → offset_page (low_half multi) ≡ page
    → HasWord at bytes (word_place_of multi) (low_half offset)

-- of the member that stands at this offset
abbrev pub ShowsMember : Behind → ℕ → ℕ → List ℕ → ℕ → Type 0
ShowsMember b page at bytes o =
    (place multi offset i : ℕ) (members : List Member) (m : Member) → GivesTo b place multi offset members → slice_get members i ≡ Some m → offset + i ≡ o
    → member_page (low_half o) ≡ page
    → HasByte at bytes (mode_at (member_place (low_half o))) (mode_number m.mode) × HasWord at bytes (id_at (member_place (low_half o))) (low_half m.id)

-- the i-th member of the multixact that the event gives
abbrev pub member_in : MultiEvent → ℕ → Option Member
member_in (multis.Gen by multi offset members) i = slice_get members i
member_in e i = None

-- what is shown of the member at this offset, of this multixact
abbrev pub HasMember : List MultiEvent → ℕ → List ℕ → GenMark → ℕ → Type 0
HasMember h at bytes g o =
    (members : List Member) (m : Member) (by : By) → slice_get h g.place ≡ Some (multis.Gen by g.multi g.offset members) → slice_get members (o - g.offset) ≡ Some m
    → HasByte at bytes (mode_at (member_place (low_half o))) (mode_number m.mode) × HasWord at bytes (id_at (member_place (low_half o))) (low_half m.id)

abbrev pub ShowsNumber : Behind → DumpOf → ℕ → List ℕ → ℕ → Type 0
ShowsNumber b dumps.Log at bytes n = Unit {0}
ShowsNumber b (dumps.Xact page) at bytes n = ShowsState (take b.place b.events) page at bytes n
ShowsNumber b (dumps.Subtrans page) at bytes n = ShowsParent (take b.place b.events) page at bytes n
ShowsNumber b (dumps.Offsets page) at bytes n = ShowsOffset b page at bytes n
ShowsNumber b (dumps.Members page) at bytes n = ShowsMember b page at bytes n

-- all numbers with this low half and such a high half
abbrev pub ShowsLow : Behind → DumpOf → ℕ → List ℕ → Span → ℕ → Type 0
ShowsLow b what at bytes epochs low = (e : ℕ) → epochs.from ≤ e → e < epochs.end → ShowsNumber b what at bytes (e * 4294967296 + low)

-- the number is one that the life gave: an id, a multixact, or the offset of a member
abbrev pub IsThere : Behind → DumpOf → ℕ → Type 0
IsThere b dumps.Log n = ⊥
IsThere b (dumps.Xact page) n = Contains (given (take b.place b.events)) n
IsThere b (dumps.Subtrans page) n = Contains (given (take b.place b.events)) n
IsThere b (dumps.Offsets page) n = (place offset : ℕ) × (members : List Member) × GivesTo b place n offset members
IsThere b (dumps.Members page) n =
    (place multi offset i : ℕ) × (members : List Member) × (m : Member) × GivesTo b place multi offset members × (slice_get members i ≡ Some m) × (offset + i ≡ n)

-- the high halves that such numbers have
pub record AreEpochs (b : Behind) (what : DumpOf) (epochs : Span) : Type 0 where
  pub each : (n : ℕ) → IsThere b what n → (epochs.from ≤ n / 4294967296) × (n / 4294967296 < epochs.end)
  pub most : epochs.end ≤ 4294967296

-- the low halves of the numbers of which these bytes of the page show something
abbrev pub numbers_in : DumpOf → ℕ → ℕ → Span
numbers_in dumps.Log at end = record { from = 0; end = 0 }
numbers_in (dumps.Xact page) at end = record { from = page * 32768 + 4 * at; end = page * 32768 + 4 * end }
numbers_in (dumps.Subtrans page) at end = record { from = page * 2048 + at / 4; end = page * 2048 + (end + 3) / 4 }
numbers_in (dumps.Offsets page) at end = record { from = page * 2048 + at / 4; end = page * 2048 + (end + 3) / 4 }
numbers_in (dumps.Members page) at end = record { from = page * 1636 + 4 * (at / 20); end = page * 1636 + 4 * (end / 20 + 1) }
