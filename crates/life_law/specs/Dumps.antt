-- What a dump may be answered, by the life's history and log. No more is said of the bytes themselves than how many there
-- are.
use Rattle.std.specs.Prelude.{◌≡◌, ℕ, ◌%◌, ◌<◌, ◌≤◌, ◌⊎◌, Bool, false, true, List, Contains, length, take}
use Rattle.std.specs.List.{AllByRecursion, count_by, flat_map}
use Rattle.tx_events.specs.declared.event.Event.{Event}
use Rattle.tx_events.specs.declared.record.Counters.{Counters}
use Rattle.tx_events.specs.declared.record.Rec.{Rec}
use Rattle.tx_events.specs.declared.record.Rec.TheVariants as records
use Rattle.tx_events.specs.declared.refusal.Lock.TheVariants as locks
use Rattle.tx_events.specs.declared.refusal.Refusal.TheVariants as refusals
use Rattle.tx_events.specs.Horizon.{oldest_xmin}
use Rattle.tx_events.specs.PageOrder.{Ids, Multis, Offsets, is_cut}
use Rattle.tx_events.specs.Places.{EachPlace}
use Rattle.store_pages.specs.Layouts.{member_cutoff, offset_cutoff, subtrans_cutoff, xact_cutoff}
use Rattle.tx_events.specs.Pages.{members_per_page, offsets_per_page, parents_per_page, xacts_per_page}
use Rattle.tx_model.specs.declared.reply.Reply.{Reply}
use Rattle.tx_model.specs.declared.reply.Reply.TheVariants as replies
use Rattle.tx_model.specs.declared.report.DumpOf.{DumpOf}
use Rattle.tx_model.specs.declared.report.DumpOf.TheVariants as dumps
use Rattle.tx_model.specs.declared.report.Line.{Line}
use Rattle.tx_model.specs.declared.report.Step.{Step}
use Rattle.tx_model.specs.declared.report.Step.TheVariants as steps
use Rattle.tx_model.specs.Lines.{has_line}
use Rattle.tx_model.specs.Rounds.{lines_in}
use Rattle.life_law.specs.Facts.{Facts}

-- the oldest id with which the life begins, or one that a truncation tells
abbrev pub IsOldest : Counters → List Rec → ℕ → Type 0
IsOldest base recs oldest =
    (oldest ≡ base.oldest) ⊎ ((multi offset : ℕ) × Contains recs (records.Truncate oldest multi offset))

-- pg_xact is kept from the page of an oldest id on
abbrev pub IsXactCutoff : Counters → List Rec → ℕ → Type 0
IsXactCutoff base recs cutoff =
    (oldest : ℕ) × IsOldest base recs oldest × (cutoff ≡ xact_cutoff base.oldest oldest)

-- and pg_subtrans from that of the id before an oldest xmin on, one at some place of the history
abbrev pub IsSubtransCutoff : Counters → List Event → ℕ → Type 0
IsSubtransCutoff base h cutoff =
    (place : ℕ) × (place ≤ length h)
    × (cutoff ≡ subtrans_cutoff base.oldest (oldest_xmin base.next (take place h)))

-- the oldest multixact with which the life begins, or one that a truncation tells; and the same of offsets
abbrev pub IsOldestMulti : Counters → List Rec → ℕ → Type 0
IsOldestMulti base recs oldest =
    (oldest ≡ base.oldest_multi) ⊎ ((id offset : ℕ) × Contains recs (records.Truncate id oldest offset))

abbrev pub IsOldestOffset : Counters → List Rec → ℕ → Type 0
IsOldestOffset base recs oldest =
    (oldest ≡ base.oldest_offset) ⊎ ((id multi : ℕ) × Contains recs (records.Truncate id multi oldest))

-- the offsets are kept from the page of the multixact before an oldest one on
abbrev pub IsOffsetCutoff : Counters → List Rec → ℕ → Type 0
IsOffsetCutoff base recs cutoff = (oldest : ℕ) × IsOldestMulti base recs oldest × (cutoff ≡ offset_cutoff oldest)

-- and the members from that of an oldest offset on
abbrev pub IsMemberCutoff : Counters → List Rec → ℕ → Type 0
IsMemberCutoff base recs cutoff = (oldest : ℕ) × IsOldestOffset base recs oldest × (cutoff ≡ member_cutoff oldest)

abbrev pub is_xact_cut : ℕ → ℕ → Bool
is_xact_cut cutoff page = is_cut Ids xacts_per_page cutoff page

abbrev pub is_subtrans_cut : ℕ → ℕ → Bool
is_subtrans_cut cutoff page = is_cut Ids parents_per_page cutoff page

abbrev pub is_offset_cut : ℕ → ℕ → Bool
is_offset_cut cutoff page = is_cut Multis offsets_per_page cutoff page

abbrev pub is_member_cut : ℕ → ℕ → Bool
is_member_cut cutoff page = is_cut Offsets members_per_page cutoff page

abbrev pub AreBytes : List ℕ → Type 0
AreBytes bytes = AllByRecursion (λ b. b < 256) bytes

-- What a dump of so many bytes may be answered, in a life with so many banks of each store, this base and these records,
-- behind this history: all the bytes, but of the log as many as it has; the cutoff that cuts the page; that the volume
-- failed, behind the lock of the page's bank.
abbrev pub MayDump : ℕ → Counters → List Rec → List Event → DumpOf → ℕ → Reply → Type 0
MayDump banks base recs h dumps.Log size (replies.Bytes bytes) = AreBytes bytes × (length bytes ≤ size)
MayDump banks base recs h dumps.Log size (replies.Refused refusals.LogFault) = Unit {0}
MayDump banks base recs h (dumps.Xact page) size (replies.Bytes bytes) =
    AreBytes bytes × (length bytes ≡ size)
    × (cutoff : ℕ) × IsXactCutoff base recs cutoff × (is_xact_cut cutoff page ≡ false)
MayDump banks base recs h (dumps.Xact page) size (replies.Cut cutoff) =
    IsXactCutoff base recs cutoff × (is_xact_cut cutoff page ≡ true)
MayDump banks base recs h (dumps.Xact page) size (replies.Refused (refusals.DiskFault (locks.Xact bank))) =
    (bank < banks) × (bank ≡ page % banks)
MayDump banks base recs h (dumps.Subtrans page) size (replies.Bytes bytes) =
    AreBytes bytes × (length bytes ≡ size)
    × (cutoff : ℕ) × IsSubtransCutoff base h cutoff × (is_subtrans_cut cutoff page ≡ false)
MayDump banks base recs h (dumps.Subtrans page) size (replies.Cut cutoff) =
    IsSubtransCutoff base h cutoff × (is_subtrans_cut cutoff page ≡ true)
MayDump banks base recs h (dumps.Subtrans page) size (replies.Refused (refusals.DiskFault (locks.Subtrans bank))) =
    (bank < banks) × (bank ≡ page % banks)
MayDump banks base recs h (dumps.Offsets page) size (replies.Bytes bytes) =
    AreBytes bytes × (length bytes ≡ size)
    × (cutoff : ℕ) × IsOffsetCutoff base recs cutoff × (is_offset_cut cutoff page ≡ false)
MayDump banks base recs h (dumps.Offsets page) size (replies.Cut cutoff) =
    IsOffsetCutoff base recs cutoff × (is_offset_cut cutoff page ≡ true)
MayDump banks base recs h (dumps.Offsets page) size (replies.Refused (refusals.DiskFault (locks.Offsets bank))) =
    (bank < banks) × (bank ≡ page % banks)
MayDump banks base recs h (dumps.Members page) size (replies.Bytes bytes) =
    AreBytes bytes × (length bytes ≡ size)
    × (cutoff : ℕ) × IsMemberCutoff base recs cutoff × (is_member_cut cutoff page ≡ false)
MayDump banks base recs h (dumps.Members page) size (replies.Cut cutoff) =
    IsMemberCutoff base recs cutoff × (is_member_cut cutoff page ≡ true)
MayDump banks base recs h (dumps.Members page) size (replies.Refused (refusals.DiskFault (locks.Members bank))) =
    (bank < banks) × (bank ≡ page % banks)
MayDump banks base recs h what size reply = ⊥

-- the events of the rounds with these lines, which stand first
abbrev pub events_behind : List Event → List Line → List Event
events_behind h before = take (count_by (has_line before) h) h

-- a dump is lawful behind the rounds with these lines
abbrev pub IsLawfulBetween : Facts → List Line → Step → Type 0
IsLawfulBetween f before (steps.Dump what at size reply) =
    MayDump f.banks f.base f.recs (events_behind f.events before) what size reply
IsLawfulBetween f before step = Unit {0}

abbrev pub AreLawfulDumps : Facts → List Step → Type 0
AreLawfulDumps f steps = EachPlace steps (λ before step. IsLawfulBetween f (flat_map lines_in before) step)
