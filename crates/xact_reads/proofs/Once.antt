-- A multixact was pinned, its members were read, and it was let go.
use Rattle.std.proofs.Common.{Contains, Err, List, Ok, Some, [], ap, inr, append_assoc, length, length-append, refl, subst, sym, take, arith, ℕ, ◌++◌, ◌<◌, ◌∙◌, ◌∷◌, ◌≡◌}
use Rattle.std.proofs.lemmas.List.Elements.{Contains-append_left}
use Rattle.std.specs.List.{slice_get}
use Rattle.notes.specs.Lists.{Grows, at}
use Rattle.tx_events.specs.Ids.{IsFullMulti}
use Rattle.tx_events.specs.Nearest.{near_id}
use Rattle.tx_events.specs.declared.event.By.{By}
use Rattle.tx_events.specs.declared.multi.MultiEvent.{MultiEvent}
use Rattle.tx_events.specs.declared.refusal.Lock.TheVariants as locks
use Rattle.tx_events.specs.declared.refusal.Refusal.{Refusal}
use Rattle.tx_events.specs.declared.refusal.Refusal.TheVariants as refusals
use Rattle.tx_events.specs.Multis.{IsKnown, made, made_by, next_made}
use Rattle.tx_core.specs.declared.entry.Entry.{Entry}
use Rattle.tx_core.specs.declared.entry.Kind.TheVariants as kinds
use Rattle.tx_core.specs.declared.entry.Start.{Start}
use Rattle.tx_core.specs.Locks.{members_lock, offsets_lock}
use Rattle.tx_core.specs.MultiEntries.{AreFewMultis, multi_history}
use Rattle.tx_core.proofs.Growing.{begins_filter_map}
use Rattle.tx_core.proofs.Rising.{multis_grow}
use Rattle.multi_store.specs.declared.answers.Held.{Held}
use Rattle.engine_parts.specs.declared.session.Session.{Session}
use Rattle.engine_parts.specs.Answers.{MetFault}
use Rattle.engine_parts.specs.Sessions.{by_at}
use Rattle.engine_parts.specs.Steps.{WentMulti}
use Rattle.engine_parts.proofs.Leaving.{grows_then}
use Rattle.multi_sections.specs.Pinnings.{TakesPin, hold_event, unhold_event}
use Rattle.bank_stores.specs.declared.slot.Slot.{Slot}
use Rattle.xact_reads.specs.Multis.{AreItsSlots, IsNotRead, IsUnseen, PinsOnce, ReadsMulti, WasPinned}
use Rattle.xact_reads.proofs.Gathering.{its_later}
use Rattle.xact_reads.proofs.Pinning.{multi_then}

stands_at : (xs ys : List MultiEvent) (x : MultiEvent) → slice_get (xs ++ x ∷ ys) (length xs) ≡ Some x
stands_at [] ys x = refl
stands_at (z ∷ xs) ys x = stands_at xs ys x

front_is : (xs ys : List MultiEvent) → take (length xs) (xs ++ ys) ≡ xs
front_is [] ys = refl
front_is (z ∷ xs) ys = ap (λ (t : List MultiEvent). z ∷ t) (front_is xs ys)

pub few_multis_before : (lists more : List (List Entry)) → Grows lists more → AreFewMultis more → AreFewMultis lists
few_multis_before lists more g few =
    let c = begins_filter_map made_by (multi_history lists) (multi_history more) (multis_grow lists more g) in
    let all : length (made (multi_history lists) ++ c.0) ≡ length (made (multi_history more)) = ap (λ (t : List ℕ). length t) c.1 in
    let both = length-append (made (multi_history lists)) c.0 in
    let n : length (made (multi_history more)) < 2900000 = few in
    omega (arith, all, both, n)

met_later : (lists more : List (List Entry)) (lock : ℕ) (by : By) → Grows lists more → MetFault lists lock by → MetFault more lock by
met_later lists more lock by g f =
    let b = g.begins lock in record {
      adder = f.adder;
      callers = f.callers;
      changes = f.changes;
      cut = f.cut;
      count = f.count;
      hit = f.hit;
      stands = subst (λ (es : List Entry). Contains es (record { by = f.adder; kind = kinds.Fault f.callers f.changes f.cut f.count })) b.1 (Contains-append_left (at lists lock) b.0 (record { by = f.adder; kind = kinds.Fault f.callers f.changes f.cut f.count }) f.stands);
    }

module _ (start : Start) (n : ℕ) (s : Session) (m : ℕ) (v a : List (List Entry)) (held : Held) (t : TakesPin start n s m v a (Ok held)) where
  abbrev hold : MultiEvent
  hold = hold_event n s held

  abbrev before : List MultiEvent
  before = t.2

  -- it was pinned behind these events
  pub was_pinned : IsFullMulti held.multi → WasPinned start a held
  was_pinned full = record { before = before; begins = (hold ∷ [], sym t.3.split); m = m; pinned = t.4; full = full }

  module _ (w : List (List Entry)) (g : Grows a w) where
    whole : before ++ hold ∷ (multis_grow a w g).0 ≡ multi_history w
    whole = sym (append_assoc before (hold ∷ []) (multis_grow a w g).0) ∙ (ap (λ (h : List MultiEvent). h ++ (multis_grow a w g).0) (sym t.3.split) ∙ (multis_grow a w g).1)

    pub pin_stands : slice_get (multi_history w) (length before) ≡ Some hold
    pin_stands = subst (λ (h : List MultiEvent). slice_get h (length before) ≡ Some hold) whole (stands_at before (multis_grow a w g).0 hold)

    pub pin_front : take (length before) (multi_history w) ≡ before
    pin_front = subst (λ (h : List MultiEvent). take (length before) h ≡ before) whole (front_is before (hold ∷ (multis_grow a w g).0))

  pub pins_once : (b w : List (List Entry)) → WentMulti n [] a b → WentMulti n (unhold_event n s held.multi ∷ []) b w → PinsOnce start n s m v w held.multi
  pins_once b w second third =
      let g : Grows a w = grows_then a b w second.grows third.grows in
      record {
        went = multi_then n (hold ∷ []) (unhold_event n s held.multi ∷ []) v b w (multi_then n (hold ∷ []) [] v a b t.0 second) third;
        place = length before;
        stands = pin_stands w g;
        near = ap (λ (h : List MultiEvent). near_id (next_made start.base.multi h) m) (pin_front w g) ∙ t.4.near;
        known = subst (λ (h : List MultiEvent). IsKnown start.base h held.multi) (sym (pin_front w g)) t.4.known;
      }

  -- why its members weren't read
  pub unread_unseen : (told : Type 0) (b w : List (List Entry)) (full : IsFullMulti held.multi) (r : Refusal) → Grows a b → Grows b w → WentMulti n (hold ∷ []) v a → IsNotRead start told b (by_at n s.levels.commands) held r → IsUnseen start told v w (by_at n s.levels.commands) r
  unread_unseen told b w full (refusals.NotYet multi) first second went u = (
    u.0,
    λ yes few.
        let no = u.1 yes (few_multis_before b w second few) in
        record {
          seen = b;
          from = grows_then v a b went.grows first;
          upto = second;
          pinned = length before;
          asked = held.multi;
          stands = pin_stands b first;
          from_asked = no.from;
          below = subst (λ (h : List MultiEvent). multi < next_made start.base.multi h) (sym (pin_front b first)) (no.below (record { before = before; begins = (hold ∷ (multis_grow a b first).0, whole b first); m = m; pinned = t.4; full = full }));
          unset = no.none.unset;
          unrecorded = λ old offset members. no.none.unrecorded offset members;
        },
  )
  unread_unseen told b w full (refusals.DiskFault (locks.Offsets bank)) first second went u = met_later b w (offsets_lock bank) (by_at n s.levels.commands) second u
  unread_unseen told b w full (refusals.DiskFault (locks.Members bank)) first second went u = met_later b w (members_lock bank) (by_at n s.levels.commands) second u
  unread_unseen told b w full r first second went u = absurd u

  -- what the reads tell of the call
  pub reads_done : (told : Type 0) (b w : List (List Entry)) (slots : List Slot) → WentMulti n [] a b → WentMulti n (unhold_event n s held.multi ∷ []) b w → (told → AreFewMultis b → AreItsSlots start b held.multi slots) → ReadsMulti start told n s m v w slots (Ok (tt {0}))
  reads_done told b w slots second third its = (held.multi, pins_once b w second third, λ yes few. its_later start b w held.multi slots third.grows (its yes (few_multis_before b w third.grows few)))

  pub reads_refused : (told : Type 0) (b w : List (List Entry)) (slots : List Slot) (full : IsFullMulti held.multi) (r : Refusal) → WentMulti n [] a b → WentMulti n (unhold_event n s held.multi ∷ []) b w → IsNotRead start told b (by_at n s.levels.commands) held r → ReadsMulti start told n s m v w slots (Err r)
  reads_refused told b w slots full r second third u = inr (held.multi, pins_once b w second third, unread_unseen told b w full r second.grows third.grows t.0 u)
