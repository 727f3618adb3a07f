-- What was read of a pinned multixact, and the verdicts on its members.
use Rattle.std.specs.Prelude.{◌≡◌, ℕ, ◌+◌, ◌-◌, ◌%◌, ◌^◌, ◌<◌, ◌≤◌, ◌++◌, ◌⊎◌, List, Option, None, Some, Contains, IsTrue, Result, Ok, Err, [], ◌∷◌, cond, length, map, min, nat_le, slice_get, take, true, false, unwrap_or}
use Rattle.std.specs.List.{AllZip, filter_map}
use Rattle.notes.specs.Lists.{Begins}
use Rattle.tx_events.specs.After.{ids_of}
use Rattle.tx_events.specs.Ids.{IsFullId, IsFullMulti, low_half, next_multi}
use Rattle.tx_events.specs.Nearest.{near_id}
use Rattle.tx_events.specs.declared.event.By.{By}
use Rattle.tx_events.specs.declared.event.Event.TheVariants as events
use Rattle.tx_events.specs.declared.multi.Member.{Member}
use Rattle.tx_events.specs.declared.multi.Mode.{Mode}
use Rattle.tx_events.specs.declared.multi.MultiEvent.{MultiEvent}
use Rattle.tx_events.specs.declared.multi.MultiEvent.TheVariants as multis
use Rattle.tx_events.specs.declared.order.Xid.{Xid}
use Rattle.tx_events.specs.declared.record.Rec.TheVariants as records
use Rattle.tx_events.specs.declared.refusal.Lock.TheVariants as locks
use Rattle.tx_events.specs.declared.refusal.Refusal.{Refusal}
use Rattle.tx_events.specs.declared.refusal.Refusal.TheVariants as refusals
use Rattle.tx_events.specs.Multis.{IsKnown, next_made}
use Rattle.tx_events.specs.Visible.{is_visible}
use Rattle.tx_model.specs.declared.command.Pair.{Pair}
use Rattle.tx_model.specs.declared.reply.MemberVerdict.{MemberVerdict}
use Rattle.tx_model.specs.declared.reply.Verdict.{Verdict}
use Rattle.tx_model.specs.declared.reply.Verdict.TheVariants as verdicts
use Rattle.life_law.specs.MultiReplies.{IsMultiNumber}
use Rattle.bank_stores.specs.declared.slot.Slot.{Slot}
use Rattle.bank_stores.specs.declared.slot.Slot.TheVariants as found
use Rattle.multi_store.specs.declared.answers.Held.{Held}
use Rattle.tx_core.specs.declared.entry.Entry.{Entry}
use Rattle.tx_core.specs.declared.entry.Start.{Start}
use Rattle.tx_core.specs.Entries.{history}
use Rattle.tx_core.specs.Locks.{members_lock, offsets_lock}
use Rattle.tx_core.specs.MultiEntries.{AreFewMultis, multi_history}
use Rattle.session_levels.specs.declared.session.RegisteredSnapshot.{RegisteredSnapshot}
use Rattle.engine_parts.specs.declared.session.Session.{Session}
use Rattle.engine_parts.specs.Answers.{MetFault}
use Rattle.engine_parts.specs.MultiAnswers.{WasNotYet}
use Rattle.engine_parts.specs.Sessions.{by_at}
use Rattle.engine_parts.specs.Steps.{WentMulti}
use Rattle.multi_banks.specs.Members.{AreSlotsRead}
use Rattle.multi_banks.specs.Offsets.{HasNoOffset, HasOffset, WasTold}
use Rattle.multi_sections.specs.Pinnings.{IsNotPinned, IsPinned}
use Rattle.xact_reads.specs.declared.spans.Ends.{Ends}

-- a volume of offsets or of members failed in this command
abbrev pub IsMultiFault : List (List Entry) → By → Refusal → Type 0
IsMultiFault lists by (refusals.DiskFault (locks.Offsets bank)) = MetFault lists (offsets_lock bank) by
IsMultiFault lists by (refusals.DiskFault (locks.Members bank)) = MetFault lists (members_lock bank) by
IsMultiFault lists by _ = ⊥

-- the multixact was pinned behind these events
pub record WasPinned (start : Start) (lists : List (List Entry)) (held : Held) : Type 0 where
  pub before : List MultiEvent
  pub begins : Begins before (multi_history lists)
  pub m : ℕ
  pub pinned : IsPinned start.base before m held
  pub full : IsFullMulti held.multi

-- ---- where its members lie

-- No offset stands of the pinned multixact, or of the one behind it, which was given when it was pinned.
pub record IsWanting (start : Start) (lists : List (List Entry)) (held : Held) (multi : ℕ) : Type 0 where
  pub from : held.multi ≤ multi
  pub below : (p : WasPinned start lists held) → multi < next_made start.base.multi p.before
  pub none : HasNoOffset start lists multi

-- why the members weren't read: an offset is wanting, or a volume failed
abbrev pub IsNotRead : Start → Type 0 → List (List Entry) → By → Held → Refusal → Type 0
IsNotRead start told lists by held (refusals.NotYet multi) =
    IsMultiNumber multi × (told → AreFewMultis lists → IsWanting start lists held multi)
IsNotRead start told lists by held r = IsMultiFault lists by r

-- The low halves that were read are of the offset of the multixact, and of that of the one behind it; of the last one
-- it is the free offset at the pin.
pub record AreEnds (start : Start) (lists : List (List Entry)) (held : Held) (ends : Ends) : Type 0 where
  pub begun : WasTold start
  pub offset : ℕ
  pub begin : ends.begin ≡ low_half offset
  pub stands : HasOffset start lists held.multi offset
  pub end : (IsTrue held.last × (ends.end ≡ low_half held.end))
      ⊎ ((next : ℕ) × (ends.end ≡ low_half next) × HasOffset start lists (next_multi held.multi) next)

-- the greatest number with this low half that isn't past the end; where there is none, the half itself
abbrev pub full_upto : ℕ → ℕ → ℕ
full_upto end low = cond (nat_le ((end + 2 ^ 32 - low) % 2 ^ 32) end) (end - (end + 2 ^ 32 - low) % 2 ^ 32) low

-- how many slots lie between, at most 65: a multixact has up to 64 members, and a slot may be skipped behind them
abbrev pub slots_between : Ends → ℕ
slots_between ends = min 65 ((ends.end + 2 ^ 32 - ends.begin) % 2 ^ 32)

-- so many slots were read from an offset on, behind others, by what stood in these lists
pub record AreReadFrom (start : Start) (lists : List (List Entry)) (offset count : ℕ) (old new : List Slot) : Type 0 where
  pub slots : List Slot
  pub behind : new ≡ old ++ slots
  pub long : length slots ≡ count
  pub read : AreSlotsRead start lists offset slots

-- ---- its members

-- one of these slots has this stored id
abbrev pub IsStoredIn : List Slot → ℕ → Type 0
IsStoredIn slots x = (id : Xid) × (mode : Mode) × (id.number ≡ x) × Contains slots (found.Is id mode)

-- a multixact has these members, by its event or by its record from before the life
abbrev pub HasMembersIn : Start → List (List Entry) → ℕ → List Member → Type 0
HasMembersIn start lists multi members =
    ((by : By) × (offset : ℕ) × Contains (multi_history lists) (multis.Gen by multi offset members))
    ⊎ ((offset : ℕ) × Contains start.recorded (records.Multi multi offset members))

-- a member as it is stored
abbrev pub stored_member : Member → Pair
stored_member member = record { x = record { number = low_half member.id }; mode = member.mode }

-- the member in a slot, if it has one
abbrev pub pair_in : Slot → Option Pair
pair_in (found.Is x mode) = Some (record { x = x; mode = mode })
pair_in _ = None

-- these slots hold the members of the multixact, in order
pub record AreItsSlots (start : Start) (lists : List (List Entry)) (multi : ℕ) (slots : List Slot) : Type 0 where
  pub members : List Member
  pub has : HasMembersIn start lists multi members
  pub full : (id : ℕ) → Contains (ids_of members) id → IsFullId id
  pub shown : filter_map pair_in slots ≡ map stored_member members
  pub most : length members ≤ 64

-- ---- the verdicts

-- an oldest id that was announced, or with which the life began
abbrev pub IsCarried : Start → List (List Entry) → ℕ → Type 0
IsCarried start lists oldest = (oldest ≡ start.base.oldest) ⊎ ((by : By) × Contains (history lists) (events.Oldest by oldest))

-- what is told of the id that a stored member means to the snapshot
abbrev pub IsVerdictOn : Start → List (List Entry) → ℕ → Option ℕ → Verdict → Type 0
IsVerdictOn start lists place None verdicts.TooOld = Unit {0}
IsVerdictOn start lists place (Some id) verdicts.TooOld = (oldest : ℕ) × IsCarried start lists oldest × (id < oldest)
IsVerdictOn start lists place (Some id) verdicts.Visible = is_visible start.committed (take place (history lists)) id ≡ true
IsVerdictOn start lists place (Some id) verdicts.Hidden = is_visible start.committed (take place (history lists)) id ≡ false
IsVerdictOn start lists place None verdict = ⊥

-- the verdict on a stored member by this snapshot
pub record IsJudged (start : Start) (lists : List (List Entry)) (k : RegisteredSnapshot) (pair : Pair) (v : MemberVerdict) : Type 0 where
  pub mode : v.mode ≡ pair.mode
  pub id : v.id ≡ unwrap_or (near_id k.snapshot.xmax pair.x.number) pair.x.number
  pub verdict : IsVerdictOn start lists k.place (near_id k.snapshot.xmax pair.x.number) v.verdict

-- that of a special id isn't told: no member has one
abbrev pub IsJudgedNormal : Start → List (List Entry) → RegisteredSnapshot → Pair → MemberVerdict → Type 0
IsJudgedNormal start lists k pair v = 3 ≤ pair.x.number → IsJudged start lists k pair v

-- a slot with a member gets one verdict more, another none
abbrev pub JudgesSlot : Start → List (List Entry) → RegisteredSnapshot → Option Pair → List MemberVerdict → List MemberVerdict → Type 0
JudgesSlot start lists k None old new = new ≡ old
JudgesSlot start lists k (Some pair) old new = (v : MemberVerdict) × (new ≡ old ++ v ∷ []) × IsJudgedNormal start lists k pair v

-- what is made of a refusal of one member
abbrev pub judged_refusal : Refusal → Result Verdict Refusal
judged_refusal (refusals.TooOld oldest) = Ok verdicts.TooOld
judged_refusal refusal = Err refusal

-- ---- the call

-- The command pinned what the stored number means, and let it go again. It had no other event of a multixact.
pub record PinsOnce (start : Start) (n : ℕ) (s : Session) (m : ℕ) (lists more : List (List Entry)) (multi : ℕ) : Type 0 where
  pub went : WentMulti n (multis.Hold (by_at n s.levels.commands) multi ∷ multis.Unhold (by_at n s.levels.commands) multi ∷ []) lists more
  pub place : ℕ
  pub stands : slice_get (multi_history more) place ≡ Some (multis.Hold (by_at n s.levels.commands) multi)
  pub near : near_id (next_made start.base.multi (take place (multi_history more))) m ≡ Some multi
  pub known : IsKnown start.base (take place (multi_history more)) multi

-- why no slot was read of what was pinned
abbrev pub IsUnseen : Start → Type 0 → List (List Entry) → List (List Entry) → By → Refusal → Type 0
IsUnseen start told lists more by (refusals.NotYet multi) =
    IsMultiNumber multi × (told → AreFewMultis more → WasNotYet start lists more by multi)
IsUnseen start told lists more by r = IsMultiFault more by r

-- The slots of the multixact's members were read; or it was pinned and an offset was wanting, or a volume failed; or
-- the number means none that may be pinned.
abbrev pub ReadsMulti : Start → Type 0 → ℕ → Session → ℕ → List (List Entry) → List (List Entry) → List Slot → Result (Unit {0}) Refusal → Type 0
ReadsMulti start told n s m lists more slots (Ok x) =
    (multi : ℕ) × PinsOnce start n s m lists more multi × (told → AreFewMultis more → AreItsSlots start more multi slots)
ReadsMulti start told n s m lists more slots (Err r) =
    (WentMulti n [] lists more × IsNotPinned start.base (multi_history more) m r)
    ⊎ ((multi : ℕ) × PinsOnce start n s m lists more multi × IsUnseen start told lists more (by_at n s.levels.commands) r)

-- The stored id is that of a member of the multixact which the number meant when the command pinned it.
pub record IsOfMember (start : Start) (by : By) (m : ℕ) (lists : List (List Entry)) (x : ℕ) : Type 0 where
  pub multi : ℕ
  pub place : ℕ
  pub pin : slice_get (multi_history lists) place ≡ Some (multis.Hold by multi)
  pub near : near_id (next_made start.base.multi (take place (multi_history lists))) m ≡ Some multi
  pub members : List Member
  pub has : HasMembersIn start lists multi members
  pub member : Member
  pub one : Contains members member
  pub stored : low_half member.id ≡ x

-- so it is in a life of few multixacts, where the volumes tell
abbrev pub IsAskedMember : Start → Type 0 → By → ℕ → List (List Entry) → ℕ → Type 0
IsAskedMember start told by m lists x = told → AreFewMultis lists → IsOfMember start by m lists x

-- the verdicts on these stored members
abbrev pub AreJudged : Start → List (List Entry) → RegisteredSnapshot → List Pair → List MemberVerdict → Type 0
AreJudged start lists k pairs vs = AllZip (IsJudgedNormal start lists k) pairs vs
