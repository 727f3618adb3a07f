-- The events and the replies of the commands on multixacts.
use Rattle.std.specs.Prelude.{◌≡◌, ◌≢◌, ℕ, ◌+◌, ◌-◌, ◌<◌, ◌≤◌, ◌⊎◌, IsTrue, Bool, true, false, List, [], ◌∷◌, Option, Some, None, IfSome, take, slice_get, unwrap_or, Contains}
use Rattle.std.specs.List.{AllByRecursion, AllZip}
use Rattle.tx_events.specs.Ids.{low_half}
use Rattle.tx_events.specs.Nearest.{near_id}
use Rattle.tx_events.specs.declared.event.By.{By}
use Rattle.tx_events.specs.declared.event.Event.{Event}
use Rattle.tx_events.specs.declared.event.Event.TheVariants as events
use Rattle.tx_events.specs.declared.multi.Member.{Member}
use Rattle.tx_events.specs.declared.multi.MultiEvent.{MultiEvent}
use Rattle.tx_events.specs.declared.multi.MultiEvent.TheVariants as multis
use Rattle.tx_events.specs.declared.record.Counters.{Counters}
use Rattle.tx_events.specs.declared.refusal.Refusal.{Refusal}
use Rattle.tx_events.specs.declared.refusal.Refusal.TheVariants as refusals
use Rattle.tx_events.specs.History.{next_given}
use Rattle.tx_events.specs.Limits.{member_stop, multi_stop_limit, multi_warn_limit}
use Rattle.tx_events.specs.Multis.{BaseOffset, first_member, free_offset, next_made, oldest_multi, oldest_offset, pin_limit}
use Rattle.tx_events.specs.Snapshots.{snapshot_xmax}
use Rattle.tx_events.specs.Visible.{is_visible}
use Rattle.tx_model.specs.declared.command.Command.{Command}
use Rattle.tx_model.specs.declared.command.Command.TheVariants as commands
use Rattle.tx_model.specs.declared.command.Pair.{Pair}
use Rattle.tx_model.specs.declared.reply.MemberVerdict.{MemberVerdict}
use Rattle.tx_model.specs.declared.reply.Reply.{Reply}
use Rattle.tx_model.specs.declared.reply.Reply.TheVariants as replies
use Rattle.tx_model.specs.declared.reply.Verdict.{Verdict}
use Rattle.tx_model.specs.declared.reply.Verdict.TheVariants as verdicts
use Rattle.tx_model.specs.Replies.{RoundSpan, taken_by}
use Rattle.life_law.specs.MultiPlaces.{IsPinAt, IsSnapAt, MayReadIn, MayReadMultis, Recorded}

-- where a multixact of the base begins, as its record tells; one without a record has no offset
abbrev pub of_records : Counters → List Recorded → BaseOffset
of_records base recorded before multi offset = (members : List Member) × Contains recorded (multi, offset, members)

-- ---- events

-- the member is what the script wrote: the same stored half and mode, and the id that this means near the next one at
-- some place of the round, which was given there
pub record IsMemberOf (base : Counters) (h : List Event) (round : RoundSpan) (by : By) (pair : Pair) (member : Member) : Type 0 where
  pub mode : member.mode ≡ pair.mode
  pub place : ℕ
  pub read : (round.from ≤ place) × (place ≤ round.to)
  pub near : near_id (next_given base.next (take place h)) pair.x.number ≡ Some member.id
  pub normal : 3 ≤ pair.x.number
  pub given : member.id < next_given base.next (take place h)

-- one multixact of these members is given
pub record AreGiven (base : Counters) (h : List Event) (round : RoundSpan) (by : By) (pairs : List Pair) (es : List MultiEvent) : Type 0 where
  pub multi : ℕ
  pub offset : ℕ
  pub members : List Member
  pub events_are : es ≡ multis.Gen by multi offset members ∷ []
  pub told : AllZip (IsMemberOf base h round by) pairs members

abbrev pub ArePinned : By → ℕ → List MultiEvent → Type 0
ArePinned by multi es = es ≡ multis.Hold by multi ∷ multis.Unhold by multi ∷ []

-- the multixact that the stored half means where the command pins it
abbrev pub ArePinnedNear : Counters → List MultiEvent → By → ℕ → List MultiEvent → Type 0
ArePinnedNear base all by m es =
    (place multi : ℕ) × IsPinAt all by place × (near_id (next_made base.multi (take place all)) m ≡ Some multi) × ArePinned by multi es

-- pinned while its offset is read, or raised to alone
abbrev pub AreRaised : By → ℕ → List MultiEvent → Type 0
AreRaised by multi es =
    ((offset : ℕ) × (es ≡ multis.Hold by multi ∷ multis.Raise by multi offset ∷ multis.Unhold by multi ∷ []))
    ⊎ ((offset : ℕ) × (es ≡ multis.Raise by multi offset ∷ []))

abbrev pub may_have_given : Refusal → Bool
may_have_given (refusals.LogDown at) = true
may_have_given refusals.Full = true
may_have_given (refusals.DiskFault lock) = true
may_have_given refusals.Memory = true
may_have_given refusal = false

-- the multixact events that a command has which was answered so
abbrev pub HasMultiEvents : Counters → List Event → RoundSpan → List MultiEvent → By → Command → Reply → List MultiEvent → Type 0
HasMultiEvents base h round all by (commands.Multi pairs) (replies.Multi multi offset warn) es =
    ((members : List Member) × (es ≡ multis.Gen by multi offset members ∷ [])) × AreGiven base h round by pairs es
HasMultiEvents base h round all by (commands.Multi pairs) (replies.Refused refusal) es =
    (es ≡ []) ⊎ (IsTrue (may_have_given refusal) × AreGiven base h round by pairs es)
HasMultiEvents base h round all by (commands.SeeMulti name m) (replies.Verdicts verdicts) es = ArePinnedNear base all by m.number es
HasMultiEvents base h round all by (commands.SeeMulti name m) (replies.Refused (refusals.NotYet next)) es = ArePinnedNear base all by m.number es
HasMultiEvents base h round all by (commands.SeeMulti name m) (replies.Refused (refusals.DiskFault lock)) es = ArePinnedNear base all by m.number es
HasMultiEvents base h round all by (commands.SeeMulti name m) (replies.Refused refusals.Memory) es = (es ≡ []) ⊎ ArePinnedNear base all by m.number es
HasMultiEvents base h round all by (commands.MultiFreeze multi) replies.Done es = AreRaised by multi es
HasMultiEvents base h round all by (commands.MultiFreeze multi) (replies.Refused (refusals.NotYet next)) es = ArePinned by multi es
HasMultiEvents base h round all by (commands.MultiFreeze multi) (replies.Refused (refusals.DiskFault lock)) es = ArePinned by multi es
HasMultiEvents base h round all by (commands.MultiFreeze multi) (replies.Refused (refusals.Held limit)) es = (es ≡ []) ⊎ ArePinned by multi es
HasMultiEvents base h round all by (commands.MultiFreeze multi) (replies.Refused refusals.Memory) es = (es ≡ []) ⊎ ArePinned by multi es
HasMultiEvents base h round all by command reply es = es ≡ []

-- ---- replies

-- an oldest id that a command of this round may carry: the life's first one, or one announced in no later round
abbrev pub MayCarry : Counters → List Event → RoundSpan → ℕ → Type 0
MayCarry base h round oldest = (oldest ≡ base.oldest) ⊎ ((place : ℕ) × (by : By) × (place < round.to) × (slice_get h place ≡ Some (events.Oldest by oldest)))

-- the command that was given this multixact
pub record IsGenOf (h : List MultiEvent) (multi : ℕ) (members : List Member) (place : ℕ) : Type 0 where
  pub by : By
  pub offset : ℕ
  pub stands : slice_get h place ≡ Some (multis.Gen by multi offset members)

-- the members of a multixact, by its event before this place or its record
abbrev pub HasMembers : List Recorded → List MultiEvent → ℕ → ℕ → List Member → Type 0
HasMembers recorded h pinned multi members =
    ((place : ℕ) × (place < pinned) × IsGenOf h multi members place) ⊎ ((offset : ℕ) × Contains recorded (multi, offset, members))

-- Only the next multixact is raised to without a pin, since it isn't there to be pinned.
abbrev pub IsPinnedOrNext : Counters → List MultiEvent → By → ℕ → Type 0
IsPinnedOrNext base h by multi =
    ((place : ℕ) × IsPinAt h by place)
    ⊎ ((place raised offset : ℕ) × (slice_get h place ≡ Some (multis.Raise by raised offset)) × (multi ≡ next_made base.multi (take place h)))

abbrev pub IsMemberVerdict : Counters → List ℕ → List Event → RoundSpan → ℕ → Option ℕ → Verdict → Type 0
IsMemberVerdict base committed h round taken None verdicts.TooOld = Unit {0}
IsMemberVerdict base committed h round taken (Some id) verdicts.TooOld = (oldest : ℕ) × MayCarry base h round oldest × (id < oldest)
IsMemberVerdict base committed h round taken (Some id) verdicts.Visible = is_visible committed (take taken h) id ≡ true
IsMemberVerdict base committed h round taken (Some id) verdicts.Hidden = is_visible committed (take taken h) id ≡ false
IsMemberVerdict base committed h round taken None verdict = ⊥

-- the member with the verdict on the id that its stored half means to the snapshot
pub record IsTold (base : Counters) (committed : List ℕ) (h : List Event) (round : RoundSpan) (taken : ℕ) (member : Member) (v : MemberVerdict) : Type 0 where
  pub mode : v.mode ≡ member.mode
  pub id : v.id ≡ unwrap_or (near_id (snapshot_xmax base.next (take taken h)) (low_half member.id)) (low_half member.id)
  pub verdict : IsMemberVerdict base committed h round taken (near_id (snapshot_xmax base.next (take taken h)) (low_half member.id)) v.verdict

-- the verdicts on the members of the multixact that the command pins, by the snapshot that command `number` took
pub record AreVerdicts (base : Counters) (committed : List ℕ) (recorded : List Recorded) (h : List Event) (all : List MultiEvent) (round : RoundSpan) (by : By) (number : ℕ) (told : List MemberVerdict) : Type 0 where
  pub taken : ℕ
  pub snapshot : IsSnapAt h (taken_by by number) taken
  pub multi : ℕ
  pub pinned : ℕ
  pub pin : slice_get all pinned ≡ Some (multis.Hold by multi)
  pub members : List Member
  pub has : HasMembers recorded all pinned multi members
  pub each : AllZip (IsTold base committed h round taken) members told

-- The offset of the multixact wasn't recorded: it is below the next one at the pin, and of another session in this round,
-- of a command that wasn't answered `ok`, or of the base without a record.
pub record IsNotYet (base : Counters) (recorded : List Recorded) (all : List MultiEvent) (round : RoundSpan) (ok : By → Bool) (by : By) (multi : ℕ) : Type 0 where
  pub pinned : ℕ
  pub asked : ℕ
  pub stands : slice_get all pinned ≡ Some (multis.Hold by asked)
  pub below : multi < next_made base.multi (take pinned all)
  pub whose : ((place offset : ℕ) (members : List Member) (giver : By) → slice_get all place ≡ Some (multis.Gen giver multi offset members)
      → ((giver.session ≢ by.session) × (round.from ≤ place) × (place < round.to)) ⊎ (ok giver ≡ false))
  pub unrecorded : multi < base.multi → (offset : ℕ) (members : List Member) → Contains recorded (multi, offset, members) → ⊥

-- the next multixact, or the next member, was at its limit at some place where the command may read
pub record IsMultiStop (base : Counters) (all : List MultiEvent) (round : RoundSpan) (by : By) (next stop : ℕ) : Type 0 where
  pub place : ℕ
  pub read : MayReadMultis all round by place
  pub next_is : next ≡ next_made base.multi (take place all)
  pub stop_is : stop ≡ multi_stop_limit (oldest_multi base.oldest_multi (take place all))
  pub reached : stop ≤ next

pub record IsMemberStop (base : Counters) (all : List MultiEvent) (round : RoundSpan) (by : By) (count next stop : ℕ) : Type 0 where
  pub place : ℕ
  pub read : MayReadMultis all round by place
  pub next_is : next ≡ first_member (free_offset base.offset (take place all))
  pub stop_is : stop ≡ member_stop (oldest_offset base.oldest_offset (take place all))
  pub reached : stop ≤ next + count

-- the multixact that was to be the oldest one was before the announced one there
pub record IsMultiBackward (base : Counters) (all : List MultiEvent) (round : RoundSpan) (by : By) (multi now : ℕ) : Type 0 where
  pub place : ℕ
  pub read : MayReadMultis all round by place
  pub now_is : now ≡ oldest_multi base.oldest_multi (take place all)
  pub older : multi < now

-- it was past the least of the next one and all that are pinned; or the raise found it so behind its own pin
pub record IsHeldBack (base : Counters) (all : List MultiEvent) (round : RoundSpan) (by : By) (multi limit : ℕ) : Type 0 where
  pub place : ℕ
  pub read : MayReadMultis all round (record by { command = by.command - 1 }) place
  pub limit_is : limit ≡ pin_limit base.multi (take place all)
  pub past : limit < multi

-- the stored half means no multixact, or one before the oldest, or one that isn't given yet
pub record IsMultiTooOld (base : Counters) (all : List MultiEvent) (round : RoundSpan) (by : By) (m oldest : ℕ) : Type 0 where
  pub place : ℕ
  pub read : MayReadMultis all round by place
  pub oldest_is : oldest ≡ oldest_multi base.oldest_multi (take place all)
  pub older : IfSome (near_id (next_made base.multi (take place all)) m) (λ multi. multi < oldest)

pub record IsMultiFuture (base : Counters) (all : List MultiEvent) (round : RoundSpan) (by : By) (m next : ℕ) : Type 0 where
  pub place : ℕ
  pub read : MayReadMultis all round by place
  pub multi : ℕ
  pub near : near_id (next_made base.multi (take place all)) m ≡ Some multi
  pub next_is : next ≡ next_made base.multi (take place all)
  pub past : next ≤ multi

-- the multixact was given with a warning
pub record IsMultiWarned (base : Counters) (all : List MultiEvent) (by : By) (multi : ℕ) : Type 0 where
  pub place : ℕ
  pub offset : ℕ
  pub members : List Member
  pub given : slice_get all place ≡ Some (multis.Gen by multi offset members)
  pub late : multi_warn_limit (oldest_multi base.oldest_multi (take place all)) ≤ multi

-- the stored half is of a special id, or means one that wasn't given. Where it means none it is too old
abbrev pub IsUngiven : ℕ → ℕ → Type 0
IsUngiven next x = (x < 3) ⊎ ((id : ℕ) × (near_id next x ≡ Some id) × (next ≤ id))

-- a member was refused, at a place where those before it weren't
pub record IsNotGiven (base : Counters) (h : List Event) (round : RoundSpan) (by : By) (pairs : List Pair) (x : ℕ) : Type 0 where
  pub place : ℕ
  pub read : MayReadIn h round by place
  pub number : ℕ
  pub pair : Pair
  pub stands : slice_get pairs number ≡ Some pair
  pub its : pair.x.number ≡ x
  pub others : AllByRecursion (λ (p : Pair). IsUngiven (next_given base.next (take place h)) p.x.number → ⊥) (take number pairs)
  pub ungiven : IsUngiven (next_given base.next (take place h)) x

pub record IsOldMember (base : Counters) (h : List Event) (round : RoundSpan) (by : By) (pairs : List Pair) (oldest : ℕ) : Type 0 where
  pub place : ℕ
  pub read : MayReadIn h round by place
  pub number : ℕ
  pub pair : Pair
  pub stands : slice_get pairs number ≡ Some pair
  pub others : AllByRecursion (λ (p : Pair). IsUngiven (next_given base.next (take place h)) p.x.number → ⊥) (take number pairs)
  pub normal : 3 ≤ pair.x.number
  pub older : IfSome (near_id (next_given base.next (take place h)) pair.x.number) (λ id. id < oldest)
  pub carried : MayCarry base h round oldest
