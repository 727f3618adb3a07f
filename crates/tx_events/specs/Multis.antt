-- Which multixact histories are legal: numbers, offsets, pins and the oldest one (multixact.c).
use Rattle.std.specs.Prelude.{◌≡◌, ℕ, zero, suc, ◌+◌, ◌<◌, ◌≤◌, ◌==◌, ◌&&◌, min, cond, Bool, true, false, List, [], ◌∷◌, ◌++◌, Option, Some, None, length, map, Contains}
use Rattle.std.specs.List.{fold, filter_map, count_by}
use Rattle.tx_events.specs.Ids.{low_half, next_multi}
use Rattle.tx_events.specs.declared.event.By.{By}
use Rattle.tx_events.specs.declared.multi.Member.{Member}
use Rattle.tx_events.specs.declared.multi.Mode.{Mode}
use Rattle.tx_events.specs.declared.multi.Mode.TheVariants as modes
use Rattle.tx_events.specs.declared.multi.MultiEvent.{MultiEvent}
use Rattle.tx_events.specs.declared.multi.MultiEvent.TheVariants as events
use Rattle.tx_events.specs.declared.record.Counters.{Counters}
use Rattle.tx_events.specs.Limits.{multi_stop_limit, member_stop}
use Rattle.tx_events.specs.Places.{EachPlace}

-- whose event it is
abbrev pub multi_by : MultiEvent → By
multi_by (events.Gen by multi offset members) = by
multi_by (events.Hold by multi) = by
multi_by (events.Unhold by multi) = by
multi_by (events.Raise by multi offset) = by

-- the multixact that the event gives
abbrev pub made_by : MultiEvent → Option ℕ
made_by (events.Gen by multi offset members) = Some multi
made_by _ = None

-- the multixacts that were given, in order
abbrev pub made : List MultiEvent → List ℕ
made h = filter_map made_by h

-- the multixact n places past the first one
abbrev pub nth_multi : ℕ → ℕ → ℕ
nth_multi first zero = first
nth_multi first (suc n) = next_multi (nth_multi first n)

-- the multixact that is given next
abbrev pub next_made : ℕ → List MultiEvent → ℕ
next_made first h = nth_multi first (length (made h))

-- the next free offset, after one more event
abbrev pub free_after : ℕ → MultiEvent → ℕ
free_after free (events.Gen by multi offset members) = offset + length members
free_after free _ = free

-- the offset behind the last member, or with which the life began
abbrev pub free_offset : ℕ → List MultiEvent → ℕ
free_offset first h = fold free_after first h

-- members begin at the next free offset, or one later where the stored half of that is 0, which means none
abbrev pub first_member : ℕ → ℕ
first_member free = cond (low_half free == 0) (free + 1) free

-- the announced oldest multixact and its offset, after one more event
abbrev pub oldest_multi_after : ℕ → MultiEvent → ℕ
oldest_multi_after oldest (events.Raise by multi offset) = multi
oldest_multi_after oldest _ = oldest

abbrev pub oldest_offset_after : ℕ → MultiEvent → ℕ
oldest_offset_after oldest (events.Raise by multi offset) = offset
oldest_offset_after oldest _ = oldest

-- the ones that were announced last, or with which the life began
abbrev pub oldest_multi : ℕ → List MultiEvent → ℕ
oldest_multi oldest h = fold oldest_multi_after oldest h

abbrev pub oldest_offset : ℕ → List MultiEvent → ℕ
oldest_offset oldest h = fold oldest_offset_after oldest h

-- a pin: the session that holds it, and the multixact
abbrev pub Pin : Type 0
Pin = ℕ × ℕ

abbrev pub same_pin : Pin → Pin → Bool
same_pin a b = (a.0 == b.0) && (a.1 == b.1)

-- without the first pin that is this one
abbrev pub without_pin : Pin → List Pin → List Pin
without_pin p [] = []
without_pin p (q ∷ pins) = cond (same_pin p q) pins (q ∷ without_pin p pins)

abbrev pub pins_after : List Pin → MultiEvent → List Pin
pins_after pins (events.Hold by multi) = pins ++ (by.session, multi) ∷ []
pins_after pins (events.Unhold by multi) = without_pin (by.session, multi) pins
pins_after pins _ = pins

-- the pins that were taken and not let go, in order
abbrev pub pins : List MultiEvent → List Pin
pins h = fold pins_after [] h

-- the least of the next multixact and all pinned ones: no multixact from it on may be forgotten
abbrev pub pin_limit : ℕ → List MultiEvent → ℕ
pin_limit first h = fold min (next_made first h) (map (λ p. p.1) (pins h))

-- the offset at which the members of a multixact of this life begin
abbrev pub made_at : ℕ → List MultiEvent → Option ℕ
made_at multi [] = None
made_at multi (events.Gen by made offset members ∷ h) = cond (made == multi) (Some offset) (made_at multi h)
made_at multi (e ∷ h) = made_at multi h

-- the modes of which a multixact has at most one member
abbrev pub is_updater : Member → Bool
is_updater m = is_update m.mode
  where
    is_update : Mode → Bool
    is_update modes.NoKeyUpd = true
    is_update modes.Upd = true
    is_update _ = false

-- 1 to 64 members, at most one of them an updater
pub record AreMembers (members : List Member) : Type 0 where
  pub some : 1 ≤ length members
  pub most : length members ≤ 64
  pub updaters : count_by is_updater members ≤ 1

-- the next multixact is given at the next free offset, below both limits
pub record IsNextMade (base : Counters) (before : List MultiEvent) (multi offset : ℕ) (members : List Member) : Type 0 where
  pub next : multi ≡ next_made base.multi before
  pub below_stop : multi < multi_stop_limit (oldest_multi base.oldest_multi before)
  pub first : offset ≡ first_member (free_offset base.offset before)
  pub fit : AreMembers members
  pub below_member_stop : offset + length members < member_stop (oldest_offset base.oldest_offset before)

-- the multixact is one from the oldest to below the next
pub record IsKnown (base : Counters) (before : List MultiEvent) (multi : ℕ) : Type 0 where
  pub not_older : oldest_multi base.oldest_multi before ≤ multi
  pub given : multi < next_made base.multi before

-- What is known of the offset at which a multixact of the base begins, by the events before.
abbrev pub BaseOffset : Type 1
BaseOffset = List MultiEvent → ℕ → ℕ → Type 0

-- where nothing is recorded of it: an offset from the oldest one to the base's next free one
abbrev pub InBase : Counters → BaseOffset
InBase base before multi offset = (oldest_offset base.oldest_offset before ≤ offset) × (offset ≤ base.offset)

-- the offset at which a multixact begins: a given one, one of the base, or the next one, at the next free offset
pub record BeginsAt (base : Counters) (known : BaseOffset) (before : List MultiEvent) (multi offset : ℕ) : Type 0 where
  pub of_base : multi < base.multi → known before multi offset
  pub of_life : base.multi ≤ multi → multi < next_made base.multi before → made_at multi before ≡ Some offset
  pub of_next : multi ≡ next_made base.multi before → offset ≡ free_offset base.offset before

-- the oldest multixact is raised, past no pin
pub record IsRaised (base : Counters) (known : BaseOffset) (before : List MultiEvent) (multi offset : ℕ) : Type 0 where
  pub not_back : oldest_multi base.oldest_multi before ≤ multi
  pub not_pinned : multi ≤ pin_limit base.multi before
  pub begins : BeginsAt base known before multi offset

-- after the events before it, the event may come
abbrev pub MultiMayCome : Counters → BaseOffset → List MultiEvent → MultiEvent → Type 0
MultiMayCome base known before (events.Gen by multi offset members) = IsNextMade base before multi offset members
MultiMayCome base known before (events.Hold by multi) = IsKnown base before multi
MultiMayCome base known before (events.Unhold by multi) = Contains (pins before) (by.session, multi)
MultiMayCome base known before (events.Raise by multi offset) = IsRaised base known before multi offset

-- one legal history of multixacts
abbrev pub AreLegalMultis : Counters → BaseOffset → List MultiEvent → Type 0
AreLegalMultis base known h = EachPlace h (MultiMayCome base known)

-- the counters that a base and the events of multixacts after it give
abbrev pub multi_counters : Counters → List MultiEvent → Counters
multi_counters base h = record base {
  multi = next_made base.multi h;
  offset = free_offset base.offset h;
  oldest_multi = oldest_multi base.oldest_multi h;
  oldest_offset = oldest_offset base.oldest_offset h;
}
