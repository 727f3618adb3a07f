-- The rules of a dump's line.
use Rattle.std.specs.Prelude.{◌≡◌, ℕ, ◌+◌, ◌/◌, ◌%◌, ◌^◌, ◌<◌, ◌≤◌, Bool, true, false, cond, List, [], Some, IfSome, length, slice_get, unwrap_or, Contains}
use Rattle.std.specs.List.{count_by, list_any}
use Rattle.tx_events.specs.Ids.{low_half}
use Rattle.tx_events.specs.Modes.{mode_number}
use Rattle.tx_events.specs.PageOrder.{Ids, Multis, Offsets, is_cut}
use Rattle.tx_events.specs.declared.event.By.{By}
use Rattle.tx_events.specs.declared.event.Event.{Event}
use Rattle.tx_events.specs.declared.multi.Member.{Member}
use Rattle.tx_events.specs.declared.multi.MultiEvent.TheVariants as multis
use Rattle.tx_events.specs.declared.record.Counters.{Counters}
use Rattle.tx_events.specs.declared.record.Rec.{Rec}
use Rattle.tx_events.specs.declared.refusal.Lock.{Lock}
use Rattle.tx_events.specs.declared.refusal.Lock.TheVariants as locks
use Rattle.tx_events.specs.declared.refusal.Refusal.TheVariants as refusals
use Rattle.tx_events.specs.Events.{given}
use Rattle.tx_events.specs.Families.{lineage}
use Rattle.tx_events.specs.IdLists.{has}
use Rattle.tx_events.specs.Running.{running}
use Rattle.tx_events.specs.Visible.{is_visible}
use Rattle.tx_model.specs.declared.reply.Reply.{Reply}
use Rattle.tx_model.specs.declared.reply.Reply.TheVariants as replies
use Rattle.tx_model.specs.declared.report.DumpOf.{DumpOf}
use Rattle.tx_model.specs.declared.report.DumpOf.TheVariants as dumps
use Rattle.tx_model.specs.declared.report.Line.{Line}
use Rattle.tx_model.specs.declared.report.Step.{Step}
use Rattle.tx_model.specs.declared.report.Step.TheVariants as steps
use Rattle.store_pages.specs.Layouts.{member_cutoff, offset_cutoff, word_place_of, xact_cutoff}
use Rattle.tx_events.specs.Pages.{id_at, member_page, member_place, members_per_page, mode_at, offset_page, offsets_per_page, parents_per_page, subtrans_page, xact_page, xact_place, xacts_per_page}
use Rattle.life_law.specs.Dumps.{IsOldest, IsSubtransCutoff, events_behind}
pub use Rattle.life_law.specs.Dumps.{IsOldestMulti, IsOldestOffset}
use Rattle.report_law.specs.Places.{has_multi_line}
use Rattle.report_law.specs.Steps.{AreJudged, Judged, gave_multi, lines_of}

-- ---- cut pages

-- the page is cut by this cutoff, which the store may have behind these events
abbrev pub IsCutBy : Counters → List Rec → List Event → DumpOf → ℕ → Type 0
IsCutBy base recs h (dumps.Xact page) cutoff =
    ((oldest : ℕ) × IsOldest base recs oldest × (cutoff ≡ xact_cutoff base.oldest oldest)) × (is_cut Ids xacts_per_page cutoff page ≡ true)
IsCutBy base recs h (dumps.Subtrans page) cutoff = IsSubtransCutoff base h cutoff × (is_cut Ids parents_per_page cutoff page ≡ true)
IsCutBy base recs h (dumps.Offsets page) cutoff =
    ((oldest : ℕ) × IsOldestMulti base recs oldest × (cutoff ≡ offset_cutoff oldest)) × (is_cut Multis offsets_per_page cutoff page ≡ true)
IsCutBy base recs h (dumps.Members page) cutoff =
    ((oldest : ℕ) × IsOldestOffset base recs oldest × (cutoff ≡ member_cutoff oldest)) × (is_cut Offsets members_per_page cutoff page ≡ true)
IsCutBy base recs h dumps.Log cutoff = ⊥

-- ---- bytes

abbrev pub byte_of : ℕ → ℕ → ℕ
byte_of n k = n / 256 ^ k % 256

-- byte p of the page, where the dump of the bytes from `at` on has it
abbrev pub HasByte : ℕ → List ℕ → ℕ → ℕ → Type 0
HasByte at bytes p b = (k : ℕ) → at + k ≡ p → IfSome (slice_get bytes k) (λ c. c ≡ b)

-- the two bits of an id: 1 where it committed, 2 where it aborted or its savepoint was rolled back, 0 where it runs
abbrev pub state_number : List Event → ℕ → ℕ
state_number h x = cond (has (running h) x) 0 (cond (is_visible [] h x) 1 2)

abbrev pub HasBits : ℕ → List ℕ → ℕ → ℕ → Type 0
HasBits at bytes x state =
    (k : ℕ) → at + k ≡ xact_place x / 4 → IfSome (slice_get bytes k) (λ c. c / 4 ^ (xact_place x % 4) % 4 ≡ state)

-- four bytes of a number, at this place
abbrev pub HasWord : ℕ → List ℕ → ℕ → ℕ → Type 0
HasWord at bytes place n = (k : ℕ) → k < 4 → HasByte at bytes (place + k) (byte_of n k)

abbrev pub parent_or_none : List Event → ℕ → ℕ
parent_or_none h x = unwrap_or (slice_get (lineage h x) 1) 0

-- what the bytes show of the ids of this life that stand on the page, behind these events
abbrev pub ShowsIds : List Event → DumpOf → ℕ → List ℕ → Type 0
ShowsIds h (dumps.Xact page) at bytes =
    (x : ℕ) → Contains (given h) x → xact_page (low_half x) ≡ page → HasBits at bytes (low_half x) (state_number h x)
ShowsIds h (dumps.Subtrans page) at bytes =
    (x : ℕ) → Contains (given h) x → subtrans_page (low_half x) ≡ page → HasWord at bytes (word_place_of x) (low_half (parent_or_none h x))
ShowsIds h what at bytes = Unit {0}

-- what they show of a multixact of this life
abbrev pub ShowsMulti : ℕ → ℕ → List Member → DumpOf → ℕ → List ℕ → Type 0
ShowsMulti multi offset members (dumps.Offsets page) at bytes =
    offset_page (low_half multi) ≡ page → HasWord at bytes (word_place_of multi) (low_half offset)
ShowsMulti multi offset members (dumps.Members page) at bytes =
    (i : ℕ) (m : Member) → slice_get members i ≡ Some m → member_page (low_half (offset + i)) ≡ page
    → HasByte at bytes (mode_at (member_place (low_half (offset + i)))) (mode_number m.mode) × HasWord at bytes (id_at (member_place (low_half (offset + i)))) (low_half m.id)
ShowsMulti multi offset members what at bytes = Unit {0}

-- no volume is told to have failed in this life
abbrev pub is_fault : Reply → Bool
is_fault (replies.Refused (refusals.DiskFault lock)) = true
is_fault (replies.Refused refusals.LogFault) = true
is_fault reply = false

abbrev pub is_faulty_step : Step → Bool
is_faulty_step (steps.Round number lines) = list_any (λ (l : Line). is_fault l.reply) lines
is_faulty_step (steps.Checkpoint reply) = is_fault reply
is_faulty_step (steps.Dump what at size reply) = is_fault reply

abbrev pub Shows : Judged → List Line → DumpOf → ℕ → List ℕ → Type 0
Shows j before what at bytes =
    ShowsIds (events_behind j.life.events before) what at bytes
    × ((place multi offset : ℕ) (members : List Member) (by : By) → place < count_by (has_multi_line before) j.life.multis
    → slice_get j.life.multis place ≡ Some (multis.Gen by multi offset members) → gave_multi (lines_of j) by ≡ true → ShowsMulti multi offset members what at bytes)

-- ---- the reply

abbrev pub is_lock_of : DumpOf → Lock → Bool
is_lock_of (dumps.Xact page) (locks.Xact bank) = true
is_lock_of (dumps.Subtrans page) (locks.Subtrans bank) = true
is_lock_of (dumps.Offsets page) (locks.Offsets bank) = true
is_lock_of (dumps.Members page) (locks.Members bank) = true
is_lock_of what lock = false

-- What a dump of so many bytes may be answered behind these lines. No rule judges the bytes of the log.
abbrev pub MayDump : Judged → List Line → DumpOf → ℕ → ℕ → Reply → Type 0
MayDump j before dumps.Log at size (replies.Bytes bytes) = length bytes ≤ size
MayDump j before dumps.Log at size (replies.Refused refusals.LogFault) = Unit {0}
MayDump j before what at size (replies.Bytes bytes) =
    (length bytes ≡ size) × (list_any is_faulty_step j.steps ≡ false → AreJudged j before [] → Shows j before what at bytes)
MayDump j before (dumps.Subtrans page) at size (replies.Cut cutoff) =
    AreJudged j before [] → IsCutBy j.begun.counters j.life.recs (events_behind j.life.events before) (dumps.Subtrans page) cutoff
MayDump j before what at size (replies.Cut cutoff) =
    IsCutBy j.begun.counters j.life.recs (events_behind j.life.events before) what cutoff
MayDump j before what at size (replies.Refused (refusals.DiskFault lock)) = is_lock_of what lock ≡ true
MayDump j before what at size reply = ⊥
