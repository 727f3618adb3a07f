-- What is so by an event of a command, which stands in the front of a history, is so by the whole of it.
use Rattle.std.proofs.Common.{◌≡◌, ℕ, ◌<◌, ◌≤◌, ◌↔◌, Bool, List, Option, Some, length, take, refl, sym, ap, subst, ◌∙◌, arith}
use Rattle.std.specs.Prelude.{IfSome}
use Rattle.std.specs.List.{slice_get}
use Rattle.tx_events.specs.Nearest.{near_id}
use Rattle.tx_events.specs.declared.event.By.{By}
use Rattle.tx_events.specs.declared.event.Event.{Event}
use Rattle.tx_events.specs.declared.event.Event.TheVariants as events
use Rattle.tx_events.specs.declared.record.Counters.{Counters}
use Rattle.tx_events.specs.declared.snapshot.SnapData.{SnapData}
use Rattle.tx_events.specs.Events.{by_of}
use Rattle.tx_events.specs.History.{next_given}
use Rattle.tx_events.specs.Horizon.{oldest_id}
use Rattle.tx_events.specs.Limits.{warn_limit}
use Rattle.tx_events.specs.Snapshots.{snapshot_data, snapshot_xmax}
use Rattle.tx_events.specs.Visible.{is_visible}
use Rattle.tx_model.specs.declared.reply.Status.{Status}
use Rattle.tx_model.specs.Replies.{IsGivenAt, IsWarned, RoundSpan, seen_id, status_after, taken_by}
use Rattle.report_law.specs.Kinds.{IsAskAt, IsSnapAt}
use Rattle.report_law.specs.Steps.{IsFutureAt, IsSeen, IsStatusAt, IsTooOldFor}
use Rattle.report_law.proofs.Fronts.{carry_whole, got, got_within, taken}

-- all events of the command stand among the first n
abbrev pub AreWithin : List Event → ℕ → By → Type 0
AreWithin h n by = (p : ℕ) (e : Event) → slice_get h p ≡ Some e → by_of e ≡ by → p < n

pub snap_whole : (h : List Event) (n : ℕ) (by : By) (p : ℕ) → AreWithin h n by → IsSnapAt (take n h) by p ↔ IsSnapAt h by p
snap_whole h n by p within = (
  λ s. (s.0, sym (got p n h (got_within p n h (events.Snap s.0 by) s.1)) ∙ s.1),
  λ s. (s.0, got p n h (within p (events.Snap s.0 by) s.1 refl) ∙ s.1),
)

pub snap_place : (h : List Event) (n : ℕ) (by : By) (p : ℕ) → IsSnapAt (take n h) by p → p < n
snap_place h n by p s = got_within p n h (events.Snap s.0 by) s.1

pub ask_whole : (h : List Event) (n : ℕ) (by : By) (p : ℕ) → AreWithin h n by → IsAskAt (take n h) by p ↔ IsAskAt h by p
ask_whole h n by p within = (
  λ s. (s.0, sym (got p n h (got_within p n h (events.Ask by s.0) s.1)) ∙ s.1),
  λ s. (s.0, got p n h (within p (events.Ask by s.0) s.1 refl) ∙ s.1),
)

ask_place : (h : List Event) (n : ℕ) (by : By) (p : ℕ) → IsAskAt (take n h) by p → p < n
ask_place h n by p s = got_within p n h (events.Ask by s.0) s.1

-- ---- by the command's own event

pub snapped_whole : (base : Counters) (h : List Event) (n : ℕ) (by : By) (lists : SnapData) → AreWithin h n by
    → ((p : ℕ) × IsSnapAt (take n h) by p × (lists ≡ snapshot_data base.next (take p (take n h)))) ↔ ((p : ℕ) × IsSnapAt h by p × (lists ≡ snapshot_data base.next (take p h)))
snapped_whole base h n by lists within = (
  λ s.
      let l = snap_place h n by s.0 s.1 in
      (s.0, (snap_whole h n by s.0 within).0 s.1, s.2 ∙ ap (snapshot_data base.next) (taken s.0 n h (omega arith))),
  λ s.
      let at = (snap_whole h n by s.0 within).1 s.1 in
      let l = snap_place h n by s.0 at in
      (s.0, at, s.2 ∙ ap (snapshot_data base.next) (sym (taken s.0 n h (omega arith)))),
)

pub status_whole : (base : Counters) (committed : List ℕ) (h : List Event) (n : ℕ) (by : By) (x : ℕ) (status : Status) → AreWithin h n by → IsStatusAt base committed (take n h) by x status ↔ IsStatusAt base committed h by x status
status_whole base committed h n by x status within = (
  λ s.
      let l = ask_place h n by s.place s.asked in
      let e = taken s.place n h (omega arith) in
      record {
        place = s.place;
        asked = (ask_whole h n by s.place within).0 s.asked;
        young = subst (λ (t : List Event). oldest_id base.oldest t ≤ x) e s.young;
        given = subst (λ (t : List Event). x < next_given base.next t) e s.given;
        exact = s.exact ∙ ap (λ (t : List Event). status_after committed t x) e;
      },
  λ s.
      let at = (ask_whole h n by s.place within).1 s.asked in
      let l = ask_place h n by s.place at in
      let e = sym (taken s.place n h (omega arith)) in
      record {
        place = s.place;
        asked = at;
        young = subst (λ (t : List Event). oldest_id base.oldest t ≤ x) e s.young;
        given = subst (λ (t : List Event). x < next_given base.next t) e s.given;
        exact = s.exact ∙ ap (λ (t : List Event). status_after committed t x) e;
      },
)

pub future_whole : (base : Counters) (h : List Event) (n : ℕ) (by : By) (x next : ℕ) → AreWithin h n by → IsFutureAt base (take n h) by x next ↔ IsFutureAt base h by x next
future_whole base h n by x next within = (
  λ s.
      let l = ask_place h n by s.place s.asked in
      record {
        place = s.place;
        asked = (ask_whole h n by s.place within).0 s.asked;
        next_is = s.next_is ∙ ap (next_given base.next) (taken s.place n h (omega arith));
        past = s.past;
      },
  λ s.
      let at = (ask_whole h n by s.place within).1 s.asked in
      let l = ask_place h n by s.place at in
      record {
        place = s.place;
        asked = at;
        next_is = s.next_is ∙ ap (next_given base.next) (sym (taken s.place n h (omega arith)));
        past = s.past;
      },
)

pub warned_whole : (base : Counters) (h : List Event) (n : ℕ) (by : By) → AreWithin h n by → IsWarned base (take n h) by ↔ IsWarned base h by
warned_whole base h n by within = (
  λ s.
      let l = got_within s.place n h s.given.event s.given.at in
      record {
        place = s.place;
        id = s.id;
        given = record { event = s.given.event; at = sym (got s.place n h l) ∙ s.given.at; own = s.given.own; gives = s.given.gives };
        late = subst (λ (t : List Event). warn_limit (oldest_id base.oldest t) ≤ s.id) (taken s.place n h (omega arith)) s.late;
      },
  λ s.
      let l = within s.place s.given.event s.given.at s.given.own in
      record {
        place = s.place;
        id = s.id;
        given = record { event = s.given.event; at = got s.place n h l ∙ s.given.at; own = s.given.own; gives = s.given.gives };
        late = subst (λ (t : List Event). warn_limit (oldest_id base.oldest t) ≤ s.id) (sym (taken s.place n h (omega arith))) s.late;
      },
)

-- ---- by the snapshot that the session's command `number` took

pub seen_whole : (base : Counters) (committed : List ℕ) (h : List Event) (n : ℕ) (by : By) (number x : ℕ) (visible : Bool) → AreWithin h n (taken_by by number) → IsSeen base committed (take n h) by number x visible ↔ IsSeen base committed h by number x visible
seen_whole base committed h n by number x visible within = (
  λ s.
      let l = snap_place h n (taken_by by number) s.place s.taken in
      let e = taken s.place n h (omega arith) in
      record {
        place = s.place;
        taken = (snap_whole h n (taken_by by number) s.place within).0 s.taken;
        id = s.id;
        near = sym (ap (λ (t : List Event). seen_id (snapshot_xmax base.next t) x) e) ∙ s.near;
        exact = s.exact ∙ ap (λ (t : List Event). is_visible committed t s.id) e;
      },
  λ s.
      let at = (snap_whole h n (taken_by by number) s.place within).1 s.taken in
      let l = snap_place h n (taken_by by number) s.place at in
      let e = taken s.place n h (omega arith) in
      record {
        place = s.place;
        taken = at;
        id = s.id;
        near = ap (λ (t : List Event). seen_id (snapshot_xmax base.next t) x) e ∙ s.near;
        exact = s.exact ∙ sym (ap (λ (t : List Event). is_visible committed t s.id) e);
      },
)

pub too_old_whole : (base : Counters) (h : List Event) (n : ℕ) (round : RoundSpan) (by : By) (number x oldest : ℕ) → round.to ≤ n → AreWithin h n (taken_by by number) → IsTooOldFor base (take n h) round by number x oldest ↔ IsTooOldFor base h round by number x oldest
too_old_whole base h n round by number x oldest fits within = (
  λ s.
      let l = snap_place h n (taken_by by number) s.place s.taken in
      record {
        normal = s.normal;
        place = s.place;
        taken = (snap_whole h n (taken_by by number) s.place within).0 s.taken;
        older = subst (λ (t : List Event). IfSome (near_id (snapshot_xmax base.next t) x) (λ id. id < oldest)) (taken s.place n h (omega arith)) s.older;
        carried = (carry_whole h n round fits base oldest).0 s.carried;
      },
  λ s.
      let at = (snap_whole h n (taken_by by number) s.place within).1 s.taken in
      let l = snap_place h n (taken_by by number) s.place at in
      record {
        normal = s.normal;
        place = s.place;
        taken = at;
        older = subst (λ (t : List Event). IfSome (near_id (snapshot_xmax base.next t) x) (λ id. id < oldest)) (sym (taken s.place n h (omega arith))) s.older;
        carried = (carry_whole h n round fits base oldest).1 s.carried;
      },
)
