-- Where a pinned multixact begins: what was read of it is its offset, where the pages tell, in a life of few.
use Rattle.std.proofs.Common.{◌≡◌, ◌⊎◌, ⊎_elim, inl, inr, ℕ, ◌+◌, ◌%◌, ◌^◌, ◌<◌, ◌≤◌, Bool, true, false, IsTrue, cond, nat_lt, unwrap_or, Contains, List, [], ◌∷◌, ◌++◌, Some, get_or, length, refl, sym, ap, subst, ◌∙◌, arith}
use Rattle.std.specs.List.{flat_map}
use Rattle.std.proofs.lemmas.Bool.Decides.{nat_tests}
use Rattle.std.proofs.lemmas.Option.{slice_get-get_or}
use Rattle.notes.specs.Lists.{Grows, at}
use Rattle.tx_events.proofs.ListSteps.{le_or_over}
use Rattle.tx_events.proofs.Membership.{Has, all_at, by_end, contains_has, has_contains, has_flat_map, has_left, has_right}
use Rattle.tx_events.proofs.PlaceLemmas.{each_place_start}
use Rattle.tx_events.specs.Base.{IsBase}
use Rattle.tx_events.specs.Ids.{IsFullMulti, low_half}
use Rattle.tx_events.specs.Limits.{member_stop}
use Rattle.tx_events.specs.Multis.{AreLegalMultis, BeginsAt, InBase, MultiMayCome, made, made_at, next_made, nth_multi, oldest_multi, oldest_multi_after, oldest_offset, oldest_offset_after}
use Rattle.tx_events.specs.declared.event.By.{By}
use Rattle.tx_events.specs.declared.multi.Member.{Member}
use Rattle.tx_events.specs.declared.multi.MultiEvent.{MultiEvent}
use Rattle.tx_events.specs.declared.multi.MultiEvent.TheVariants as multis
use Rattle.tx_events.specs.declared.record.Counters.{Counters}
use Rattle.tx_events.specs.declared.record.Rec.{Rec}
use Rattle.tx_events.specs.declared.record.Rec.TheVariants as records
use Rattle.multi_store.specs.State.{made_offsets}
use Rattle.multi_store.specs.declared.answers.Held.{Held}
use Rattle.multi_store.proofs.LegalSound.{legal_sound}
use Rattle.multi_store.proofs.MadeSteps.{first_of, made_at_append, oldest_offset_push, oldest_push}
use Rattle.multi_store.proofs.Numbers.{nth_order, place, place_is}
use Rattle.tx_core.specs.declared.entry.Entry.{Entry}
use Rattle.tx_core.specs.declared.entry.Start.{Start}
use Rattle.tx_core.specs.EngineInvariant.{EngineInvariant}
use Rattle.tx_core.specs.Locks.{offsets_lock_of}
use Rattle.tx_core.specs.MembersBeforeOffset.{NeedsOffsets, OffsetOf}
use Rattle.tx_core.specs.MultiEntries.{AreFewMultis, IsOffsetSet, SetOffset, multi_history, offsets_in}
use Rattle.tx_core.specs.RecordsFollow.{IsMultiAnnounced}
use Rattle.tx_core.proofs.Asking.{upheld_has}
use Rattle.tx_core.proofs.MultiGiven.{raised_from}
use Rattle.tx_core.proofs.Nearness.{multis_are_legal, raises_told}
use Rattle.recoverable.proofs.Announced.{announced_old}
use Rattle.recoverable.proofs.Offsets.{given_from}
use Rattle.multi_sections.specs.Raised.{IsOffsetTold, first_from, offset_read}
use Rattle.multi_sections.proofs.PinnedRaises.{few_before}
use Rattle.xact_freezes.specs.Freezes.{IsHeldSince, IsStartRead}

-- ---- the announced oldest multixact and its offset are those of one announcement

announced_in : (o x : ℕ) (h : List MultiEvent) → ((oldest_multi o h ≡ o) × (oldest_offset x h ≡ x)) ⊎ ((by : By) × Has h (multis.Raise by (oldest_multi o h) (oldest_offset x h)))
announced_in o x = by_end (λ h. ((oldest_multi o h ≡ o) × (oldest_offset x h ≡ x)) ⊎ ((by : By) × Has h (multis.Raise by (oldest_multi o h) (oldest_offset x h)))) (inl (refl, refl)) (λ h e before.
    subst (λ (z : ℕ × ℕ). ((z.0 ≡ o) × (z.1 ≡ x)) ⊎ ((by : By) × Has (h ++ e ∷ []) (multis.Raise by z.0 z.1))) (λ j. (sym (oldest_push o h e) j, sym (oldest_offset_push x h e) j)) (step h e before))
  where
    kept : (h : List MultiEvent) (e : MultiEvent) (a b : ℕ) → ((a ≡ o) × (b ≡ x)) ⊎ ((by : By) × Has h (multis.Raise by a b)) → ((a ≡ o) × (b ≡ x)) ⊎ ((by : By) × Has (h ++ e ∷ []) (multis.Raise by a b))
    kept h e a b = ⊎_elim inl (λ r. inr (r.0, has_left h (e ∷ []) (multis.Raise r.0 a b) r.1))

    step : (h : List MultiEvent) (e : MultiEvent) → ((oldest_multi o h ≡ o) × (oldest_offset x h ≡ x)) ⊎ ((by : By) × Has h (multis.Raise by (oldest_multi o h) (oldest_offset x h)))
        → ((oldest_multi_after (oldest_multi o h) e ≡ o) × (oldest_offset_after (oldest_offset x h) e ≡ x)) ⊎ ((by : By) × Has (h ++ e ∷ []) (multis.Raise by (oldest_multi_after (oldest_multi o h) e) (oldest_offset_after (oldest_offset x h) e)))
    step h (multis.Raise by m y) before = inr (by, has_right h (multis.Raise by m y ∷ []) (multis.Raise by m y) (inl refl))
    step h (multis.Gen by m y members) before = kept h (multis.Gen by m y members) (oldest_multi o h) (oldest_offset x h) before
    step h (multis.Hold by m) before = kept h (multis.Hold by m) (oldest_multi o h) (oldest_offset x h) before
    step h (multis.Unhold by m) before = kept h (multis.Unhold by m) (oldest_multi o h) (oldest_offset x h) before

pub announced_now : (start : Start) (lists : List (List Entry)) → IsMultiAnnounced start lists (oldest_multi start.base.oldest_multi (multi_history lists)) (oldest_offset start.base.oldest_offset (multi_history lists))
announced_now start lists = ⊎_elim inl
    (λ r. inr (r.0, has_contains (multi_history lists) (multis.Raise r.0 (oldest_multi start.base.oldest_multi (multi_history lists)) (oldest_offset start.base.oldest_offset (multi_history lists))) r.1))
    (announced_in start.base.oldest_multi start.base.oldest_offset (multi_history lists))

-- so it isn't before the life's first one
pub oldest_since : (start : Start) (lists : List (List Entry)) → EngineInvariant start lists → start.base.oldest_multi ≤ oldest_multi start.base.oldest_multi (multi_history lists)
oldest_since start lists k = ⊎_elim
    (λ (q : (oldest_multi start.base.oldest_multi (multi_history lists) ≡ start.base.oldest_multi) × (oldest_offset start.base.oldest_offset (multi_history lists) ≡ start.base.oldest_offset)). let e = q.0 in omega (arith, e))
    (λ (r : (by : By) × Contains (multi_history lists) (multis.Raise by (oldest_multi start.base.oldest_multi (multi_history lists)) (oldest_offset start.base.oldest_offset (multi_history lists)))). raised_from start.base (multi_history lists) r.0 _ _ (multis_are_legal start lists k) r.1)
    (announced_now start lists)

-- ---- an offset that was set is of a multixact of the life

set_in_life : (start : Start) (lists : List (List Entry)) (multi offset : ℕ) → EngineInvariant start lists → IsOffsetSet start lists multi offset → start.base.multi ≤ multi
set_in_life start lists multi offset k s =
    let lock : ℕ = offsets_lock_of start multi in
    let set : SetOffset = record { caller = s.0; multi = multi; offset = offset } in
    let found = has_flat_map offsets_in (at lists lock) set (contains_has (flat_map offsets_in (at lists lock)) set s.1) in
    let need = upheld_has (NeedsOffsets start) lists lock found.0 k.members.offsets found.1 in
    let of : OffsetOf start lists set = all_at (OffsetOf start lists) (offsets_in found.0) set need.1 found.2 in
    given_from start lists of.recorded.by multi offset of.members k of.recorded.given

-- ---- a multixact that the life began with

member_near : (oldest : ℕ) → member_stop oldest ≤ oldest + 2 ^ 30
member_near oldest = grind arith

-- what was read is the half of the offset in its record
pub record IsRecordedOffset (start : Start) (multi low : ℕ) : Type 0 where
  pub offset : ℕ
  pub low_is : low ≡ low_half offset
  pub from : start.base.oldest_offset ≤ offset
  pub upto : offset ≤ start.base.offset
  pub near : offset < start.base.oldest_offset + 2 ^ 32
  pub members : List Member
  pub stands : Contains start.recorded (records.Multi multi offset members)

pub recorded_offset : (tells : Bool) (start : Start) (lists : List (List Entry)) (multi low : ℕ) → IsBase start.base → EngineInvariant start lists → IsStartRead tells start lists multi (Some low) → start.base.oldest_multi ≤ multi → IsTrue tells → AreFewMultis lists → multi < start.base.multi → IsRecordedOffset start multi low
recorded_offset tells start lists multi low base k read from told few below =
    let found = read.stands told few in
    let order = (read.told told few).1 in
    ⊎_elim
    (λ (s : IsOffsetSet start lists multi found.0). absurd (let up = set_in_life start lists multi found.0 k s in omega arith))
    (λ (r : (members : List Member) × Contains start.recorded (records.Multi multi found.0 members)).
    let within = order.within multi found.0 r.0 r.1 from in
    let a = within.0 in
    let b = within.1 in
    let top = base.offset in
    let stop = member_near start.base.oldest_offset in record {
      offset = found.0;
      low_is = found.1;
      from = a;
      upto = omega arith;
      near = omega arith;
      members = r.0;
      stands = r.1;
    })
    found.2

-- which is what a raise asks of the reader
pub offset_told : (tells : Bool) (start : Start) (lists more : List (List Entry)) (multi low : ℕ) → IsBase start.base → EngineInvariant start lists → Grows lists more → IsStartRead tells start lists multi (Some low) → start.base.oldest_multi ≤ multi
    → ((rec : Rec) → Contains start.recorded rec → IsTrue start.told → IsTrue tells) → IsOffsetTold start more multi low
offset_told tells start lists more multi low base k g read from knows told rec among few below =
    let r = recorded_offset tells start lists multi low base k read from (knows rec among told) (few_before lists more g few) below in
    (r.offset, r.low_is, r.from, r.near, (r.members, r.stands))

-- ---- it begins there

only_from : (from low x : ℕ) → low ≡ x % 2 ^ 32 → from ≤ x → x < from + 2 ^ 32 → first_from from low ≡ x
only_from from low x e l m = omega arith

read_old : (base : Counters) (h : Held) (low : ℕ) → h.multi < base.multi → offset_read base h low ≡ first_from base.oldest_offset low
read_old base h low l =
    let below : nat_lt h.multi base.multi ≡ true = grind (arith, nat_tests) in
    ap (λ b. cond b (first_from base.oldest_offset low) (unwrap_or h.start 0)) below

read_new : (base : Counters) (h : Held) (low : ℕ) → base.multi ≤ h.multi → offset_read base h low ≡ unwrap_or h.start 0
read_new base h low l =
    let over : nat_lt h.multi base.multi ≡ false = grind (arith, nat_tests) in
    ap (λ b. cond b (first_from base.oldest_offset low) (unwrap_or h.start 0)) over

-- one that the life gave before has its offset
given_at : (base : Counters) (h : List MultiEvent) (multi : ℕ) → IsBase base → AreLegalMultis base (InBase base) h → IsFullMulti base.multi → IsFullMulti multi → base.multi ≤ multi → multi < next_made base.multi h → (x : ℕ) × (made_at multi h ≡ Some x)
given_at base h multi is legal first full from to =
    let sound = legal_sound base h is legal in
    let n : ℕ = place base.multi multi in
    let there : nth_multi base.multi n ≡ multi = place_is base.multi multi first full from in
    let within : n < length (made h) = ⊎_elim
    (λ (past : length (made h) ≤ n). absurd (let up = nth_order base.multi (length (made h)) n past in omega (arith, up, there, to)))
    (λ (l : n < length (made h)). l)
    (le_or_over (length (made h)) n) in
    let many = sound.as_many in (
      get_or (made_offsets h) n 0,
      ap (λ z. made_at z h) (sym there) ∙ (sound.each n within ∙ slice_get-get_or (made_offsets h) n 0 (omega (arith, many, within))),
    )

-- so a pinned multixact begins where it is raised to
pub begins_there : (tells : Bool) (start : Start) (n : ℕ) (lists more : List (List Entry)) (h : Held) (low : ℕ) → IsBase start.base → EngineInvariant start lists → EngineInvariant start more → Grows lists more → IsStartRead tells start lists h.multi (Some low) → IsHeldSince start n more h
    → IsFullMulti start.base.multi → IsFullMulti h.multi → oldest_multi start.base.oldest_multi (multi_history more) ≤ h.multi → h.multi < next_made start.base.multi (multi_history more) → IsTrue tells → AreFewMultis more
    → BeginsAt start.base (InBase start.base) (multi_history more) h.multi (offset_read start.base h low)
begins_there tells start n lists more h low base k k' g read held first full from to told few =
    let g' : List MultiEvent = multi_history more in
    let since = oldest_since start more k' in
    let old : start.base.oldest_multi ≤ h.multi = omega arith in
    let few_then = few_before lists more g few in
    let begun = read.told told few_then in
    record {
      of_base = λ below.
          let r = recorded_offset tells start lists h.multi low base k read old told few_then below in
          let is : offset_read start.base h low ≡ r.offset = read_old start.base h low below ∙ only_from start.base.oldest_offset low r.offset r.low_is r.from r.near in
          let low_bound = announced_old start more k' base h.multi r.offset r.members begun.1 (λ rec among by m o c before. raises_told start more by m o k' begun.0 rec among c before) r.stands old below (oldest_multi start.base.oldest_multi g') (oldest_offset start.base.oldest_offset g') (announced_now start more) from in
          subst (λ z. (oldest_offset start.base.oldest_offset g' ≤ z) × (z ≤ start.base.offset)) (sym is) (low_bound.1, r.upto);
      of_life = λ over below.
          let event : MultiEvent = multis.Hold held.by h.multi in
          let legal : AreLegalMultis start.base (InBase start.base) held.before = each_place_start (MultiMayCome start.base (InBase start.base)) held.before (event ∷ held.rest) (subst (AreLegalMultis start.base (InBase start.base)) held.split (multis_are_legal start more k')) in
          let at = given_at start.base held.before h.multi base legal first full over held.pinned.known.given in
          let start_is : h.start ≡ Some at.0 = held.pinned.start ∙ at.1 in
          let is : offset_read start.base h low ≡ at.0 = read_new start.base h low over ∙ ap (λ o. unwrap_or o 0) start_is in
          let there : made_at h.multi g' ≡ Some at.0 = ap (made_at h.multi) held.split ∙ (made_at_append h.multi held.before (event ∷ held.rest) ∙ ap (λ o. first_of o (made_at h.multi (event ∷ held.rest))) at.1) in
          there ∙ ap Some (sym is);
      of_next = λ e. absurd (omega (arith, e, to));
    }
