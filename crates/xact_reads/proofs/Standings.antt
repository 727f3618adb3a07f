-- What stands of a multixact whose offset was read: its members, each at its place.
use Rattle.std.proofs.Common.{Contains, List, Some, [], arith, length, refl, sym, subst, take, inl, inr, ℕ, ⊎_elim, ◌++◌, ◌+◌, ◌∙◌, ◌∷◌, ◌≡◌, ◌≤◌, ◌⊎◌, ◌%◌}
use Rattle.std.proofs.lemmas.Grind.{flat_map-append}
use Rattle.std.proofs.lemmas.List.Sums.{fold_push}
use Rattle.std.specs.List.{flat_map, slice_get}
use Rattle.notes.specs.Lists.{Grows, at}
use Rattle.tx_events.specs.After.{ids_of}
use Rattle.tx_events.specs.Base.{IsBase}
use Rattle.tx_events.specs.Ids.{IsFullId, low_half}
use Rattle.tx_events.specs.declared.event.By.{By}
use Rattle.tx_events.specs.declared.multi.Member.{Member}
use Rattle.tx_events.specs.declared.multi.MultiEvent.{MultiEvent}
use Rattle.tx_events.specs.declared.multi.MultiEvent.TheVariants as multis
use Rattle.tx_events.specs.declared.record.Counters.{Counters}
use Rattle.tx_events.specs.declared.record.Rec.TheVariants as records
use Rattle.tx_events.specs.Multis.{AreLegalMultis, AreMembers, InBase, IsNextMade, free_offset, oldest_multi, oldest_multi_after, oldest_offset, oldest_offset_after}
use Rattle.tx_events.proofs.Membership.{Has, all_at, by_end, contains_has, has_contains, has_flat_map, has_left, has_place, has_right}
use Rattle.tx_core.specs.declared.entry.Entry.{Entry}
use Rattle.tx_core.specs.declared.entry.Kind.TheVariants as kinds
use Rattle.tx_core.specs.declared.entry.Start.{Start}
use Rattle.tx_core.specs.CutsFollow.{IsMemberGone}
use Rattle.tx_core.specs.EngineInvariant.{EngineInvariant}
use Rattle.tx_core.specs.Locks.{log_lock, member_page, members_lock_of, offsets_lock_of}
use Rattle.tx_core.specs.MembersBeforeOffset.{NeedsOffsets, OffsetOf}
use Rattle.tx_core.specs.MultiEntries.{AreFewMultis, IsOffsetSet, IsSlotSet, SetOffset, multi_history, offsets_in, slots_in}
use Rattle.tx_core.specs.RecordsFollow.{IsMultiAnnounced, NeedsNamed}
use Rattle.tx_core.proofs.Asking.{upheld_has}
use Rattle.tx_core.proofs.Holding.{pages_held}
use Rattle.tx_core.proofs.MultiGiven.{oldest_from}
use Rattle.tx_core.proofs.MultiOrder.{Ordered, ordered}
use Rattle.tx_core.proofs.MultiRaised.{last_raised}
use Rattle.tx_core.proofs.Nearness.{multis_are_legal, raises_told}
use Rattle.tx_core.proofs.Rising.{multis_grow}
use Rattle.recoverable.proofs.Announced.{announced_old}
use Rattle.multi_banks.proofs.Adding.{place_within}
use Rattle.multi_banks.proofs.Uncut.{cut_refused}
use Rattle.multi_banks.specs.Members.{IsRecordedMember}
use Rattle.multi_banks.specs.Offsets.{HasOffset, WasTold}

-- ---- what was set stays set

set_later : {X : Type 0} (f : Entry → List X) (lists more : List (List Entry)) (lock : ℕ) (x : X) → Grows lists more → Contains (flat_map f (at lists lock)) x → Contains (flat_map f (at more lock)) x
set_later f lists more lock x g c =
    let b = g.begins lock in
    subst (λ (es : List Entry). Contains (flat_map f es) x) b.1
    (has_contains (flat_map f (at lists lock ++ b.0)) x (subst (λ t. Has t x) (sym (flat_map-append f (at lists lock) b.0)) (has_left (flat_map f (at lists lock)) (flat_map f b.0) x (contains_has (flat_map f (at lists lock)) x c))))

pub offset_later : (start : Start) (lists more : List (List Entry)) (multi offset : ℕ) → Grows lists more → IsOffsetSet start lists multi offset → IsOffsetSet start more multi offset
offset_later start lists more multi offset g s = (s.0, set_later offsets_in lists more (offsets_lock_of start multi) _ g s.1)

pub slot_later : (start : Start) (lists more : List (List Entry)) (offset : ℕ) (member : Member) → Grows lists more → IsSlotSet start lists offset member → IsSlotSet start more offset member
slot_later start lists more offset member g s = (s.0, set_later slots_in lists more (members_lock_of start offset) _ g s.1)

pub has_later : (start : Start) (lists more : List (List Entry)) (multi offset : ℕ) → Grows lists more → HasOffset start lists multi offset → HasOffset start more multi offset
has_later start lists more multi offset g has = ⊎_elim (λ s. inl (offset_later start lists more multi offset g s)) inr has

-- ---- the oldest pair was announced

abbrev AreLast : Counters → List MultiEvent → Type 0
AreLast base h = ((oldest_multi base.oldest_multi h ≡ base.oldest_multi) × (oldest_offset base.oldest_offset h ≡ base.oldest_offset))
    ⊎ ((by : By) × Has h (multis.Raise by (oldest_multi base.oldest_multi h) (oldest_offset base.oldest_offset h)))

-- behind an event that raises nothing
same_last : (base : Counters) (h : List MultiEvent) (e : MultiEvent) → oldest_multi_after (oldest_multi base.oldest_multi h) e ≡ oldest_multi base.oldest_multi h → oldest_offset_after (oldest_offset base.oldest_offset h) e ≡ oldest_offset base.oldest_offset h → AreLast base h → AreLast base (h ++ e ∷ [])
same_last base h e m o last =
    let multi : oldest_multi base.oldest_multi (h ++ e ∷ []) ≡ oldest_multi base.oldest_multi h = fold_push oldest_multi_after base.oldest_multi h e ∙ m in
    let offset : oldest_offset base.oldest_offset (h ++ e ∷ []) ≡ oldest_offset base.oldest_offset h = fold_push oldest_offset_after base.oldest_offset h e ∙ o in
    ⊎_elim
    (λ (q : (oldest_multi base.oldest_multi h ≡ base.oldest_multi) × (oldest_offset base.oldest_offset h ≡ base.oldest_offset)). inl (multi ∙ q.0, offset ∙ q.1))
    (λ (q : (by : By) × Has h (multis.Raise by (oldest_multi base.oldest_multi h) (oldest_offset base.oldest_offset h))).
    inr (q.0, subst (λ (z : ℕ × ℕ). Has (h ++ e ∷ []) (multis.Raise q.0 z.0 z.1)) (λ j. (sym multi j, sym offset j)) (has_left h (e ∷ []) _ q.1)))
    last

last_step : (base : Counters) (h : List MultiEvent) (e : MultiEvent) → AreLast base h → AreLast base (h ++ e ∷ [])
last_step base h (multis.Gen by multi offset members) last = same_last base h (multis.Gen by multi offset members) refl refl last
last_step base h (multis.Hold by multi) last = same_last base h (multis.Hold by multi) refl refl last
last_step base h (multis.Unhold by multi) last = same_last base h (multis.Unhold by multi) refl refl last
last_step base h (multis.Raise by multi offset) last =
    let e : MultiEvent = multis.Raise by multi offset in
    let m : oldest_multi base.oldest_multi (h ++ e ∷ []) ≡ multi = fold_push oldest_multi_after base.oldest_multi h e in
    let o : oldest_offset base.oldest_offset (h ++ e ∷ []) ≡ offset = fold_push oldest_offset_after base.oldest_offset h e in
    inr (by, subst (λ (z : ℕ × ℕ). Has (h ++ e ∷ []) (multis.Raise by z.0 z.1)) (λ j. (sym m j, sym o j)) (has_right h (e ∷ []) e (inl refl)))

are_last : (base : Counters) (h : List MultiEvent) → AreLast base h
are_last base = by_end (AreLast base) (inl (refl, refl)) (λ h e last. last_step base h e last)

pub announced_now : (start : Start) (lists : List (List Entry)) → IsMultiAnnounced start lists (oldest_multi start.base.oldest_multi (multi_history lists)) (oldest_offset start.base.oldest_offset (multi_history lists))
announced_now start lists = ⊎_elim inl (λ r. inr (r.0, has_contains (multi_history lists) _ r.1)) (are_last start.base (multi_history lists))

-- the oldest offset doesn't fall
pub oldest_offset_up : (start : Start) (lists more : List (List Entry)) → IsBase start.base → EngineInvariant start more → Grows lists more → oldest_offset start.base.oldest_offset (multi_history lists) ≤ oldest_offset start.base.oldest_offset (multi_history more)
oldest_offset_up start lists more base k g =
    let legal = multis_are_legal start more k in
    let low = (ordered start.base base (multi_history more) legal).oldest in
    ⊎_elim
    (λ (q : (oldest_multi start.base.oldest_multi (multi_history lists) ≡ start.base.oldest_multi) × (oldest_offset start.base.oldest_offset (multi_history lists) ≡ start.base.oldest_offset)).
    let z = q.1 in omega (arith, low, z))
    (λ (q : (by : By) × Has (multi_history lists) (multis.Raise by (oldest_multi start.base.oldest_multi (multi_history lists)) (oldest_offset start.base.oldest_offset (multi_history lists)))).
    let b = multis_grow lists more g in
    ((last_raised start.base base (multi_history more) legal).upto q.0 (oldest_multi start.base.oldest_multi (multi_history lists)) (oldest_offset start.base.oldest_offset (multi_history lists))
    (subst (λ (t : List MultiEvent). Has t (multis.Raise q.0 (oldest_multi start.base.oldest_multi (multi_history lists)) (oldest_offset start.base.oldest_offset (multi_history lists)))) b.1 (has_left (multi_history lists) b.0 _ q.1))).1)
    (are_last start.base (multi_history lists))

-- ---- whose members they are

abbrev pub Whose : Start → List (List Entry) → ℕ → ℕ → List Member → Type 0
Whose start lists multi offset members =
    ((by : By) × Has (multi_history lists) (multis.Gen by multi offset members)) ⊎ Contains start.recorded (records.Multi multi offset members)

pub whose_later : (start : Start) (lists more : List (List Entry)) (multi offset : ℕ) (members : List Member) → Grows lists more → Whose start lists multi offset members → Whose start more multi offset members
whose_later start lists more multi offset members g whose = ⊎_elim
    (λ (w : (by : By) × Has (multi_history lists) (multis.Gen by multi offset members)).
    let b = multis_grow lists more g in
    inl (w.0, subst (λ (t : List MultiEvent). Has t (multis.Gen w.0 multi offset members)) b.1 (has_left (multi_history lists) b.0 _ w.1)))
    inr
    whose

-- Its members, with where each one stands.
pub record Stood (start : Start) (lists : List (List Entry)) (multi offset : ℕ) (members : List Member) : Type 0 where
  pub whose : Whose start lists multi offset members
  pub from : start.base.oldest_multi ≤ multi
  pub fit : AreMembers members
  pub full : (id : ℕ) → Contains (ids_of members) id → IsFullId id
  pub to : offset + length members ≤ free_offset start.base.offset (multi_history lists)
  pub each : (j : ℕ) (member : Member) → slice_get members j ≡ Some member
      → IsSlotSet start lists (offset + j) member ⊎ IsRecordedMember start (offset + j) member

module _ (start : Start) (lists : List (List Entry)) (k : EngineInvariant start lists) (base : IsBase start.base) where
  abbrev h : List MultiEvent
  h = multi_history lists

  legal : AreLegalMultis start.base (InBase start.base) h
  legal = multis_are_legal start lists k

  order : Ordered start.base h
  order = ordered start.base base h legal

  -- one from the announced oldest one on begins at the announced offset or behind it
  pub from_oldest : (multi offset : ℕ) (members : List Member) → WasTold start → Whose start lists multi offset members → oldest_multi start.base.oldest_multi h ≤ multi → oldest_offset start.base.oldest_offset h ≤ offset
  from_oldest multi offset members t whose from =
      ⊎_elim
      (λ (w : (by : By) × Has h (multis.Gen by multi offset members)). (last_raised start.base base h legal).past w.0 multi offset members w.1 from)
      (λ (c : Contains start.recorded (records.Multi multi offset members)).
      let low = oldest_from start.base h legal in
      let kept : start.base.oldest_multi ≤ multi = omega (arith, low, from) in
      (announced_old start lists k base multi offset members t.in_order (λ rec among by n y raised before. raises_told start lists by n y k t.told rec among raised before) c kept (t.below multi offset members c) (oldest_multi start.base.oldest_multi h) (oldest_offset start.base.oldest_offset h) (announced_now start lists) from).1)
      whose

  -- the page of a member in use isn't cut
  uncut : (x : ℕ) → AreFewMultis lists → oldest_offset start.base.oldest_offset h ≤ x → x ≤ free_offset start.base.offset h → IsMemberGone (at lists (members_lock_of start x)) x → ⊥
  uncut x few from to gone =
      let held = (pages_held start lists (member_page (low_half x) % start.banks) k base).members few x from to in
      cut_refused _ (held.later gone.0 gone.1 gone.2 gone.3) gone.4

  of_set : (multi offset : ℕ) → AreFewMultis lists → oldest_multi start.base.oldest_multi h ≤ multi → IsOffsetSet start lists multi offset → (members : List Member) × Stood start lists multi offset members
  of_set multi offset few from s =
      let set : SetOffset = record { caller = s.0; multi = multi; offset = offset } in
      let es = at lists (offsets_lock_of start multi) in
      let found = has_flat_map offsets_in es set (contains_has (flat_map offsets_in es) set s.1) in
      let need = upheld_has (NeedsOffsets start) lists (offsets_lock_of start multi) found.0 k.members.offsets found.1 in
      let of : OffsetOf start lists set = all_at (OffsetOf start lists) (offsets_in found.0) set need.1 found.2 in
      let r = of.recorded in
      let gen = contains_has h (multis.Gen r.by multi offset of.members) r.given in
      let a = r.appended in
      let e : Entry = record { by = a.0; kind = kinds.Append (records.Multi multi offset of.members) } in
      let named = (upheld_has (NeedsNamed start) lists log_lock e k.log.named (contains_has (at lists log_lock) e a.2)).1 in
      let p = has_place h (multis.Gen r.by multi offset of.members) gen in
      let rule : IsNextMade start.base (take p.0 h) multi offset of.members = legal p.0 (multis.Gen r.by multi offset of.members) p.1 in
      let within = (order.given r.by multi offset of.members gen).1 in
      let past = (last_raised start.base base h legal).past r.by multi offset of.members gen from in
      let low = oldest_from start.base h legal in (
        of.members,
        record {
          whose = inl (r.by, gen);
          from = omega (arith, low, from);
          fit = rule.fit;
          full = named.2;
          to = within;
          each = λ j member is. ⊎_elim inl
              (λ gone. let inside = place_within of.members j member is in
              absurd (uncut (offset + j) few (omega (arith, past)) (omega (arith, within, inside)) gone))
              (of.each j member is);
        },
      )

  of_old : (multi offset : ℕ) (members : List Member) → WasTold start → oldest_multi start.base.oldest_multi h ≤ multi → Contains start.recorded (records.Multi multi offset members) → Stood start lists multi offset members
  of_old multi offset members t from c =
      let low = oldest_from start.base h legal in
      let kept : start.base.oldest_multi ≤ multi = omega (arith, low, from) in
      let fit = t.in_order.fit multi offset members c kept in
      let within = (t.in_order.within multi offset members c kept).1 in
      let free = order.from in
      record {
        whose = inr c;
        from = kept;
        fit = fit.0;
        full = fit.1;
        to = omega (arith, within, free);
        each = λ j member is. inr (record { multi = multi; first = offset; place = j; members = members; stands = c; kept = kept; among = is; at = refl });
      }

  -- of one from the announced oldest one on, in a life of few
  pub stood : (multi offset : ℕ) → AreFewMultis lists → WasTold start → oldest_multi start.base.oldest_multi h ≤ multi → HasOffset start lists multi offset → (members : List Member) × Stood start lists multi offset members
  stood multi offset few t from has = ⊎_elim
      (λ (s : IsOffsetSet start lists multi offset). of_set multi offset few from s)
      (λ (c : (members : List Member) × Contains start.recorded (records.Multi multi offset members)). (c.0, of_old multi offset c.0 t from c.1))
      has
