-- The log can take a truncation's record to what was announced, and behind one that of a multixact.
use Rattle.std.proofs.Common.{Contains, List, [], append_assoc, arith, take, length, max, subst, sym, ℕ, ⊎_elim, ◌++◌, ◌+◌, ◌-◌, ◌^◌, ◌∙◌, ◌∷◌, ◌<◌, ◌≡◌, ◌≤◌}
use Rattle.std.proofs.lemmas.Bool.Decides.{nat_tests}
use Rattle.notes.specs.Lists.{Grows, at}
use Rattle.tx_events.specs.Ids.{IsFullId, IsXidNumber, next_id, next_multi}
use Rattle.tx_events.specs.declared.event.By.{By}
use Rattle.tx_events.specs.declared.event.Event.{Event}
use Rattle.tx_events.specs.declared.event.Event.TheVariants as events
use Rattle.tx_events.specs.declared.multi.Member.{Member}
use Rattle.tx_events.specs.declared.multi.MultiEvent.{MultiEvent}
use Rattle.tx_events.specs.declared.multi.MultiEvent.TheVariants as multis
use Rattle.tx_events.specs.declared.record.Counters.{Counters}
use Rattle.tx_events.specs.declared.record.Rec.TheVariants as records
use Rattle.tx_events.specs.After.{after_record, ids_of}
use Rattle.tx_events.specs.Base.{IsBase}
use Rattle.tx_events.specs.Events.{given}
use Rattle.tx_events.specs.History.{MayCome, next_given}
use Rattle.tx_events.specs.Horizon.{oldest_id}
use Rattle.tx_events.specs.Limits.{member_stop, multi_stop_limit, stop_limit}
use Rattle.tx_events.specs.Multis.{AreLegalMultis, InBase, IsNextMade, MultiMayCome, oldest_multi, oldest_offset}
use Rattle.tx_events.proofs.GivenIds.{legal_take}
use Rattle.tx_events.proofs.IdOrder.{next_least, nth_full}
use Rattle.tx_events.proofs.ListSteps.{le_or_over}
use Rattle.tx_events.proofs.Membership.{Has, all_from, contains_has, has_contains, has_place, map_has}
use Rattle.tx_events.proofs.PlaceLemmas.{each_place_last, each_place_start}
use Rattle.multi_store.proofs.LegalSound.{legal_base}
use Rattle.multi_store.proofs.Numbers.{member_stop_rises, next_to_stop, stop_rises as multi_stop_rises}
use Rattle.tx_core.specs.declared.entry.Entry.{Entry}
use Rattle.tx_core.specs.declared.entry.Start.{Start}
use Rattle.tx_core.specs.EngineInvariant.{EngineInvariant}
use Rattle.tx_core.specs.Entries.{history}
use Rattle.tx_core.specs.Locks.{log_lock}
use Rattle.tx_core.specs.MultiEntries.{multi_history}
use Rattle.tx_core.specs.RecordsFollow.{IsOldestAnnounced, counters_after}
use Rattle.tx_core.proofs.Growing.{contains_begins}
use Rattle.tx_core.proofs.Posting.{oldest_by_places}
use Rattle.tx_core.proofs.RecordNext.{announced_given}
use Rattle.tx_core.proofs.Rising.{multi_above, multis_grow}
use Rattle.tx_core.proofs.StopLimits.{next_within, stop_from, stop_rises, stop_upto}
use Rattle.log_takes.specs.Takes.{AreOldestTold, MultisTaken, TruncationsTaken}
use Rattle.log_takes.proofs.Announced.{Divides, divides, has_split, legal, multis_rest}
use Rattle.log_takes.proofs.Counting.{at_least, log_base, max_one, past_above, past_full, past_upto}
use Rattle.log_takes.proofs.Telling.{precedes, tells_oldest}

-- ---- numbers

multi_stop_from : (oldest : ℕ) → oldest < 2 ^ 63 → oldest ≤ multi_stop_limit oldest
multi_stop_from oldest low = grind (arith, nat_tests)

member_stop_from : (oldest : ℕ) → oldest < 2 ^ 63 → oldest ≤ member_stop oldest
member_stop_from oldest low = omega arith

multi_stop_upto : (oldest : ℕ) → multi_stop_limit oldest ≤ 2 ^ 63 - 1
multi_stop_upto oldest = omega arith

member_stop_upto : (oldest : ℕ) → member_stop oldest ≤ 2 ^ 63 - 1
member_stop_upto oldest = omega arith

le_then : (a b c : ℕ) → a ≤ b → b ≤ c → a ≤ c
le_then a b c low up = omega arith

less_then : (a b c : ℕ) → a < b → b ≤ c → a < c
less_then a b c low up = omega arith

less_le : (a b : ℕ) → a < b → a ≤ b
less_le a b low = omega arith

-- ---- a truncation

module _ (start : Start) (lists : List (List Entry)) (k : EngineInvariant start lists) (is : IsBase start.base) where
  abbrev now : Counters
  now = counters_after start (at lists log_lock)

  -- an announced oldest id isn't before the first one
  pub announced_from : (oldest : ℕ) → IsOldestAnnounced start lists oldest → start.base.oldest ≤ oldest
  announced_from oldest a = ⊎_elim
      (λ (q : oldest ≡ start.base.oldest). omega arith)
      (λ (z : (by : By) × Contains (history lists) (events.Oldest by oldest)).
      let h : List Event = history lists in
      let p = has_place h (events.Oldest z.0 oldest) (contains_has h (events.Oldest z.0 oldest) z.1) in
      let rule : MayCome start.base (take p.0 h) (events.Oldest z.0 oldest) = k.events.legal.rules p.0 (events.Oldest z.0 oldest) p.1 in
      let low : oldest_id start.base.oldest (take p.0 h) ≤ oldest = rule.0 in
      let up = oldest_by_places start.base (take p.0 h) (legal_take start.base h p.0 k.events.legal) 0 in omega arith)
      a

  least : (n : ℕ) → IsFullId n → 3 ≤ n
  least n full = omega arith

  -- so it is one in full
  announced_full : (oldest : ℕ) → IsOldestAnnounced start lists oldest → IsXidNumber oldest → IsFullId oldest
  announced_full oldest a form =
      let from = announced_from oldest a in
      let some = least start.base.oldest is.full_oldest in
      ⊎_elim (λ (special : oldest < 3). absurd (omega arith)) (λ full. full) form

  announced_low : (oldest : ℕ) → IsOldestAnnounced start lists oldest → oldest < 2 ^ 63
  announced_low oldest a =
      let upto = announced_given start lists oldest k is a in
      let within = next_within start.base is (history lists) k.events.legal in
      let stop = stop_upto (oldest_id start.base.oldest (history lists)) in omega arith

  module _ (multi offset : ℕ) (d : Divides start lists k is multi offset) where
    multi_low : multi < 2 ^ 63
    multi_low =
        let b = legal_base start.base (multi_history lists) is (legal start lists k is) in
        let under = b.multi in
        let stop = multi_stop_upto (oldest_multi start.base.oldest_multi (multi_history lists)) in
        let to = d.upto.0 in omega arith

    offset_low : offset < 2 ^ 63
    offset_low =
        let b = legal_base start.base (multi_history lists) is (legal start lists k is) in
        let under = b.offset in
        let stop = member_stop_upto (oldest_offset start.base.oldest_offset (multi_history lists)) in
        let to = d.upto.1 in omega arith

    -- without a multixact from the oldest on there is no member from its offset on
    none_left : max now.oldest_multi multi ≡ max now.multi multi → max now.oldest_offset offset ≡ max now.offset offset
    none_left same =
        let b = log_base start lists k is in
        let low = b.oldest_multi in
        let under = b.oldest_offset in
        ⊎_elim
        (λ (up : now.multi ≤ multi).
        ⊎_elim
        (λ (free : now.offset ≤ offset). omega arith)
        (λ (told : now.oldest_multi ≡ multi). let none = b.none (omega arith) in omega arith)
        (precedes start lists k is multi offset d up))
        (λ (over : multi < now.multi). let none = b.none (omega arith) in omega arith)
        (le_or_over now.multi multi)

    truncated_base : (oldest : ℕ) → IsFullId oldest → oldest < 2 ^ 63 → IsBase (after_record now (records.Truncate oldest multi offset))
    truncated_base oldest full low =
        let b = log_base start lists k is in
        let ids = at_least now.oldest oldest in
        let nexts = at_least now.next oldest in
        let firsts = at_least now.oldest_multi multi in
        let seconds = at_least now.multi multi in
        let begins = at_least now.oldest_offset offset in
        let frees = at_least now.offset offset in
        let b_oldest = b.oldest in
        let b_next = b.next in
        let b_first = b.oldest_multi in
        let b_multi = b.multi in
        let b_begin = b.oldest_offset in
        let b_free = b.offset in
        let stop_old = stop_rises now.oldest (max now.oldest oldest) ids.0 in
        let stop_new = stop_rises oldest (max now.oldest oldest) ids.1 in
        let stop_here = stop_from oldest low in
        let multi_old = multi_stop_rises now.oldest_multi (max now.oldest_multi multi) firsts.0 in
        let multi_new = multi_stop_rises multi (max now.oldest_multi multi) firsts.1 in
        let multi_here = multi_stop_from multi multi_low in
        let member_old = member_stop_rises now.oldest_offset (max now.oldest_offset offset) begins.0 in
        let member_new = member_stop_rises offset (max now.oldest_offset offset) begins.1 in
        let member_here = member_stop_from offset offset_low in
        record {
          full = max_one IsFullId now.next oldest b.full full;
          full_oldest = max_one IsFullId now.oldest oldest b.full_oldest full;
          oldest = max_one (λ z. z ≤ max now.next oldest) now.oldest oldest (le_then now.oldest now.next (max now.next oldest) b_oldest nexts.0) nexts.1;
          next = max_one (λ z. z ≤ stop_limit (max now.oldest oldest)) now.next oldest (le_then now.next (stop_limit now.oldest) _ b_next stop_old) (le_then oldest (stop_limit oldest) _ stop_here stop_new);
          oldest_multi = max_one (λ z. z ≤ max now.multi multi) now.oldest_multi multi (le_then now.oldest_multi now.multi (max now.multi multi) b_first seconds.0) seconds.1;
          multi = max_one (λ z. z ≤ multi_stop_limit (max now.oldest_multi multi)) now.multi multi (le_then now.multi (multi_stop_limit now.oldest_multi) _ b_multi multi_old) (le_then multi (multi_stop_limit multi) _ multi_here multi_new);
          oldest_offset = max_one (λ z. z ≤ max now.offset offset) now.oldest_offset offset (le_then now.oldest_offset now.offset (max now.offset offset) b_begin frees.0) frees.1;
          offset = max_one (λ z. z ≤ member_stop (max now.oldest_offset offset)) now.offset offset (le_then now.offset (member_stop now.oldest_offset) _ b_free member_old) (le_then offset (member_stop offset) _ member_here member_new);
          none = none_left;
        }

pub truncations_taken : TruncationsTaken
truncations_taken start lists oldest multi offset k is id first form full =
    let d : Divides start lists k is multi offset = divides start lists k is multi offset first in
    let whole = announced_full start lists k is oldest id form in
    let low = announced_low start lists k is oldest id in
    let m_low = multi_low start lists k is multi offset d in
    let o_low = offset_low start lists k is multi offset d in
    record {
      lawful = record { oldest = (whole, omega arith); multi = (full, omega arith); offset = omega arith };
      base = truncated_base start lists k is multi offset d oldest whole low;
    }

-- ---- a multixact

-- it is below the limits that the counters tell
record IsBelow (c : Counters) (number end : ℕ) (members : List Member) : Type 0 where
  multi : number < multi_stop_limit c.oldest_multi
  offset : end < member_stop c.oldest_offset
  some : 1 ≤ length members
  few : length members ≤ 64

module _ (start : Start) (lists more : List (List Entry)) (by : By) (multi offset : ℕ) (members : List Member)
    (k : EngineInvariant start lists) (later : EngineInvariant start more) (grows : Grows lists more) (is : IsBase start.base)
    (given_it : Contains (multi_history lists) (multis.Gen by multi offset members)) (told : AreOldestTold start lists more) where
  abbrev then : Counters
  then = counters_after start (at more log_lock)

  abbrev event : MultiEvent
  event = multis.Gen by multi offset members

  below : IsBelow then multi (offset + length members) members
  below =
      let h : List MultiEvent = multi_history lists in
      let s = has_split h event (contains_has h event given_it) in
      let whole : (s.0 ++ event ∷ []) ++ s.1 ≡ h = append_assoc s.0 (event ∷ []) s.1 ∙ sym s.2 in
      let all = legal start lists k is in
      let to : AreLegalMultis start.base (InBase start.base) (s.0 ++ event ∷ []) = each_place_start (MultiMayCome start.base (InBase start.base)) (s.0 ++ event ∷ []) s.1 (subst (AreLegalMultis start.base (InBase start.base)) (sym whole) all) in
      let rule : IsNextMade start.base s.0 multi offset members = each_place_last (MultiMayCome start.base (InBase start.base)) s.0 event to in
      let up = multis_rest start.base s.0 (event ∷ s.1) is (subst (AreLegalMultis start.base (InBase start.base)) s.2 all) in
      let up_multi : oldest_multi start.base.oldest_multi s.0 ≤ oldest_multi start.base.oldest_multi h = subst (λ (t : List MultiEvent). oldest_multi start.base.oldest_multi s.0 ≤ oldest_multi start.base.oldest_multi t) (sym s.2) up.0 in
      let up_offset : oldest_offset start.base.oldest_offset s.0 ≤ oldest_offset start.base.oldest_offset h = subst (λ (t : List MultiEvent). oldest_offset start.base.oldest_offset s.0 ≤ oldest_offset start.base.oldest_offset t) (sym s.2) up.1 in
      let told_multi = told.multi in
      let told_offset = told.offset in
      let stop = multi_stop_rises (oldest_multi start.base.oldest_multi s.0) then.oldest_multi (le_then _ (oldest_multi start.base.oldest_multi h) _ up_multi told_multi) in
      let member = member_stop_rises (oldest_offset start.base.oldest_offset s.0) then.oldest_offset (le_then _ (oldest_offset start.base.oldest_offset h) _ up_offset told_offset) in
      let a = rule.below_stop in
      let b = rule.below_member_stop in
      record {
        multi = less_then multi (multi_stop_limit (oldest_multi start.base.oldest_multi s.0)) _ a stop;
        offset = less_then (offset + length members) (member_stop (oldest_offset start.base.oldest_offset s.0)) _ b member;
        some = rule.fit.some;
        few = rule.fit.most;
      }

  -- where none is left from the told one on, its members end before the told offset
  ends : next_multi multi ≤ then.oldest_multi → offset + length members ≤ then.oldest_offset
  ends past =
      let t = tells_oldest start more later is in
      let d : Divides start more later is then.oldest_multi t.0 = divides start more later is then.oldest_multi t.0 t.1 in
      let here : Contains (multi_history more) event = contains_begins (multi_history lists) (multi_history more) event (multis_grow lists more grows) given_it in
      let above = multi_above multi in
      let end = d.ends by multi offset members (contains_has (multi_history more) event here) (omega arith) in
      let upto = t.2 in omega arith

  module _ (before : (id : ℕ) → Contains (ids_of members) id → id < next_given start.base.next (history lists)) where
    next_below : (id : ℕ) → Has (ids_of members) id → next_id id ≤ stop_limit then.oldest
    next_below id here =
        let full = nth_full start.base.next (length (given (history lists))) is.full in
        let next = next_least id (next_given start.base.next (history lists)) full (before id (has_contains (ids_of members) id here)) in
        let within = next_within start.base is (history lists) k.events.legal in
        let stop = stop_rises (oldest_id start.base.oldest (history lists)) then.oldest told.id in
        le_then (next_id id) (stop_limit (oldest_id start.base.oldest (history lists))) _ (le_then (next_id id) (next_given start.base.next (history lists)) _ next within) stop

    id_low : (id : ℕ) → Has (ids_of members) id → id < 2 ^ 64
    id_low id here =
        let low = before id (has_contains (ids_of members) id here) in
        let within = next_within start.base is (history lists) k.events.legal in
        let stop = stop_upto (oldest_id start.base.oldest (history lists)) in omega arith

    made_base : IsBase (after_record then (records.Multi multi offset members))
    made_base =
        let b = log_base start more later is in
        let past = past_above then.next (ids_of members) in
        let nexts = at_least then.multi (next_multi multi) in
        let frees = at_least then.offset (offset + length members) in
        let b_oldest = b.oldest in
        let b_first = b.oldest_multi in
        let b_begin = b.oldest_offset in
        let w = below in
        let to_multi : next_multi multi ≤ multi_stop_limit then.oldest_multi = next_to_stop multi then.oldest_multi w.multi in
        let to_offset = w.offset in
        record {
          full = past_full then.next (ids_of members) b.full;
          full_oldest = b.full_oldest;
          oldest = le_then then.oldest then.next _ b_oldest past;
          next = past_upto then.next (stop_limit then.oldest) (ids_of members) b.next next_below;
          oldest_multi = le_then then.oldest_multi then.multi _ b_first nexts.0;
          multi = max_one (λ z. z ≤ multi_stop_limit then.oldest_multi) then.multi (next_multi multi) b.multi to_multi;
          oldest_offset = le_then then.oldest_offset then.offset _ b_begin frees.0;
          offset = max_one (λ z. z ≤ member_stop then.oldest_offset) then.offset (offset + length members) b.offset (less_le (offset + length members) (member_stop then.oldest_offset) to_offset);
          none = λ (same : then.oldest_multi ≡ max then.multi (next_multi multi)).
              let a = nexts.0 in
              let c = nexts.1 in
              let none = b.none (omega arith) in
              let end = ends (omega arith) in omega arith;
        }

pub multis_taken : MultisTaken
multis_taken start lists more by multi offset members k later grows is form gen full before told =
    let w = below start lists more by multi offset members k later grows is gen told in
    let a = w.multi in
    let b = w.offset in
    let m_stop = multi_stop_upto (counters_after start (at more log_lock)).oldest_multi in
    let o_stop = member_stop_upto (counters_after start (at more log_lock)).oldest_offset in
    record {
      lawful = record {
        multi = (form, omega arith);
        offset = omega arith;
        some = w.some;
        few = w.few;
        ids = all_from (λ (m : Member). IsFullId m.id × (m.id < 2 ^ 64)) members
            (λ m here.
            let named : Has (ids_of members) m.id = map_has (λ (x : Member). x.id) members m here in
            (full m.id (has_contains (ids_of members) m.id named), id_low start lists more by multi offset members k later grows is gen told before m.id named));
      };
      base = made_base start lists more by multi offset members k later grows is gen told before;
    }
