-- What is so of a round by the front of the multixact events in which it stands is so by all of them.
use Rattle.std.proofs.Common.{◌≡◌, ℕ, ◌+◌, ◌-◌, ◌<◌, ◌≤◌, ◌⊎◌, ◌↔◌, inl, inr, Bool, List, [], ◌∷◌, Option, Some, None, length, take, drop, refl, sym, ap, subst, ◌∙◌, arith, ⊎_elim}
use Rattle.std.specs.Prelude.{IfSome, Contains, unwrap_or}
use Rattle.std.specs.List.{AllByRecursion, AllZip, slice_get}
use Rattle.tx_events.specs.Ids.{low_half}
use Rattle.tx_events.specs.Nearest.{near_id}
use Rattle.tx_events.specs.declared.event.By.{By}
use Rattle.tx_events.specs.declared.event.Event.{Event}
use Rattle.tx_events.specs.declared.multi.Member.{Member}
use Rattle.tx_events.specs.declared.multi.MultiEvent.{MultiEvent}
use Rattle.tx_events.specs.declared.multi.MultiEvent.TheVariants as multis
use Rattle.tx_events.specs.declared.record.Counters.{Counters}
use Rattle.tx_events.specs.Limits.{member_stop, multi_stop_limit}
use Rattle.tx_events.specs.Multis.{first_member, free_offset, multi_by, next_made, oldest_multi, oldest_offset, pin_limit}
use Rattle.tx_events.specs.Snapshots.{snapshot_xmax}
use Rattle.tx_events.specs.Visible.{is_visible}
use Rattle.tx_model.specs.declared.reply.MemberVerdict.{MemberVerdict}
use Rattle.tx_model.specs.declared.reply.Verdict.{Verdict}
use Rattle.tx_model.specs.declared.reply.Verdict.TheVariants as verdicts
use Rattle.tx_model.specs.Replies.{RoundSpan, taken_by}
use Rattle.report_law.specs.Begun.{Recorded}
use Rattle.report_law.specs.Kinds.{IsSnapAt}
use Rattle.report_law.specs.MultiLines.{AreVerdicts, HasMembers, IsGenOf, IsHeldBack, IsMemberStop, IsMemberVerdict, IsMultiBackward, IsMultiFuture, IsMultiStop, IsMultiTooOld, IsTold, MayCarry}
use Rattle.report_law.specs.Places.{MayReadMultis}
use Rattle.report_law.proofs.Fronts.{carry_whole, got, got_within, taken}
use Rattle.report_law.proofs.FrontsAtEvents.{AreWithin, snap_place, snap_whole}

module _ (all : List MultiEvent) (n : ℕ) (round : RoundSpan) (fits : round.to ≤ n) where
  behind : (Q : MultiEvent → Type 0) (p : ℕ) → AllByRecursion Q (drop p (take round.to (take n all))) ↔ AllByRecursion Q (drop p (take round.to all))
  behind Q p =
      let e = taken round.to n all fits in (
        λ a. subst (λ (t : List MultiEvent). AllByRecursion Q (drop p t)) e a,
        λ a. subst (λ (t : List MultiEvent). AllByRecursion Q (drop p t)) (sym e) a,
      )

  pub read_all : (by : By) (p : ℕ) → MayReadMultis (take n all) round by p ↔ MayReadMultis all round by p
  read_all by p =
      let rest = behind (λ e. (multi_by e).session ≡ by.session → by.command < (multi_by e).command) p in (
        λ m. record { not_before = m.not_before; not_past = m.not_past; behind = rest.0 m.behind },
        λ m. record { not_before = m.not_before; not_past = m.not_past; behind = rest.1 m.behind },
      )

  same_front : (p : ℕ) → p ≤ round.to → take p (take n all) ≡ take p all
  same_front p l = taken p n all (omega arith)

  pub stop_all : (base : Counters) (by : By) (next stop : ℕ) → IsMultiStop base (take n all) round by next stop ↔ IsMultiStop base all round by next stop
  stop_all base by next stop = (
    λ s. let e = same_front s.place s.read.not_past in record {
      place = s.place;
      read = (read_all by s.place).0 s.read;
      next_is = s.next_is ∙ ap (next_made base.multi) e;
      stop_is = s.stop_is ∙ ap (λ (t : List MultiEvent). multi_stop_limit (oldest_multi base.oldest_multi t)) e;
      reached = s.reached;
    },
    λ s. let e = sym (same_front s.place s.read.not_past) in record {
      place = s.place;
      read = (read_all by s.place).1 s.read;
      next_is = s.next_is ∙ ap (next_made base.multi) e;
      stop_is = s.stop_is ∙ ap (λ (t : List MultiEvent). multi_stop_limit (oldest_multi base.oldest_multi t)) e;
      reached = s.reached;
    },
  )

  pub member_stop_all : (base : Counters) (by : By) (count next stop : ℕ) → IsMemberStop base (take n all) round by count next stop ↔ IsMemberStop base all round by count next stop
  member_stop_all base by count next stop = (
    λ s. let e = same_front s.place s.read.not_past in record {
      place = s.place;
      read = (read_all by s.place).0 s.read;
      next_is = s.next_is ∙ ap (λ (t : List MultiEvent). first_member (free_offset base.offset t)) e;
      stop_is = s.stop_is ∙ ap (λ (t : List MultiEvent). member_stop (oldest_offset base.oldest_offset t)) e;
      reached = s.reached;
    },
    λ s. let e = sym (same_front s.place s.read.not_past) in record {
      place = s.place;
      read = (read_all by s.place).1 s.read;
      next_is = s.next_is ∙ ap (λ (t : List MultiEvent). first_member (free_offset base.offset t)) e;
      stop_is = s.stop_is ∙ ap (λ (t : List MultiEvent). member_stop (oldest_offset base.oldest_offset t)) e;
      reached = s.reached;
    },
  )

  pub multi_backward_all : (base : Counters) (by : By) (multi now : ℕ) → IsMultiBackward base (take n all) round by multi now ↔ IsMultiBackward base all round by multi now
  multi_backward_all base by multi now = (
    λ s. record {
      place = s.place;
      read = (read_all by s.place).0 s.read;
      now_is = s.now_is ∙ ap (oldest_multi base.oldest_multi) (same_front s.place s.read.not_past);
      older = s.older;
    },
    λ s. record {
      place = s.place;
      read = (read_all by s.place).1 s.read;
      now_is = s.now_is ∙ ap (oldest_multi base.oldest_multi) (sym (same_front s.place s.read.not_past));
      older = s.older;
    },
  )

  pub held_all : (base : Counters) (by : By) (multi limit : ℕ) → IsHeldBack base (take n all) round by multi limit ↔ IsHeldBack base all round by multi limit
  held_all base by multi limit = (
    λ s. record {
      place = s.place;
      read = (read_all (record by { command = by.command - 1 }) s.place).0 s.read;
      limit_is = s.limit_is ∙ ap (pin_limit base.multi) (same_front s.place s.read.not_past);
      past = s.past;
    },
    λ s. record {
      place = s.place;
      read = (read_all (record by { command = by.command - 1 }) s.place).1 s.read;
      limit_is = s.limit_is ∙ ap (pin_limit base.multi) (sym (same_front s.place s.read.not_past));
      past = s.past;
    },
  )

  pub multi_old_all : (base : Counters) (by : By) (m oldest : ℕ) → IsMultiTooOld base (take n all) round by m oldest ↔ IsMultiTooOld base all round by m oldest
  multi_old_all base by m oldest = (
    λ s. let e = same_front s.place s.read.not_past in record {
      place = s.place;
      read = (read_all by s.place).0 s.read;
      oldest_is = s.oldest_is ∙ ap (oldest_multi base.oldest_multi) e;
      older = subst (λ (t : List MultiEvent). IfSome (near_id (next_made base.multi t) m) (λ multi. multi < oldest)) e s.older;
    },
    λ s. let e = sym (same_front s.place s.read.not_past) in record {
      place = s.place;
      read = (read_all by s.place).1 s.read;
      oldest_is = s.oldest_is ∙ ap (oldest_multi base.oldest_multi) e;
      older = subst (λ (t : List MultiEvent). IfSome (near_id (next_made base.multi t) m) (λ multi. multi < oldest)) e s.older;
    },
  )

  pub multi_future_all : (base : Counters) (by : By) (m next : ℕ) → IsMultiFuture base (take n all) round by m next ↔ IsMultiFuture base all round by m next
  multi_future_all base by m next = (
    λ s. let e = same_front s.place s.read.not_past in record {
      place = s.place;
      read = (read_all by s.place).0 s.read;
      multi = s.multi;
      near = sym (ap (λ (t : List MultiEvent). near_id (next_made base.multi t) m) e) ∙ s.near;
      next_is = s.next_is ∙ ap (next_made base.multi) e;
      past = s.past;
    },
    λ s. let e = same_front s.place s.read.not_past in record {
      place = s.place;
      read = (read_all by s.place).1 s.read;
      multi = s.multi;
      near = ap (λ (t : List MultiEvent). near_id (next_made base.multi t) m) e ∙ s.near;
      next_is = s.next_is ∙ ap (next_made base.multi) (sym e);
      past = s.past;
    },
  )

-- ---- verdicts

all_zip : {A B : Type 0} (P Q : A → B → Type 0) → ((a : A) (b : B) → P a b → Q a b) → (xs : List A) (ys : List B) → AllZip P xs ys → AllZip Q xs ys
all_zip P Q to [] [] z = tt
all_zip P Q to [] (y ∷ ys) z = absurd z
all_zip P Q to (x ∷ xs) [] z = absurd z
all_zip P Q to (x ∷ xs) (y ∷ ys) z = (to x y z.0, all_zip P Q to xs ys z.1)

module _ (base : Counters) (committed : List ℕ) (h : List Event) (n : ℕ) (round : RoundSpan) (fits : round.to ≤ n) (place : ℕ) (in_front : place < n) where
  verdict_to : (id : Option ℕ) (v : Verdict) → IsMemberVerdict base committed (take n h) round place id v → IsMemberVerdict base committed h round place id v
  verdict_to None verdicts.TooOld v = v
  verdict_to (Some id) verdicts.TooOld v = (v.0, (carry_whole h n round fits base v.0).0 v.1, v.2)
  verdict_to (Some id) verdicts.Visible v = sym (ap (λ (t : List Event). is_visible committed t id) (taken place n h (omega arith))) ∙ v
  verdict_to (Some id) verdicts.Hidden v = sym (ap (λ (t : List Event). is_visible committed t id) (taken place n h (omega arith))) ∙ v
  verdict_to None verdicts.Visible v = v
  verdict_to None verdicts.Hidden v = v

  verdict_from : (id : Option ℕ) (v : Verdict) → IsMemberVerdict base committed h round place id v → IsMemberVerdict base committed (take n h) round place id v
  verdict_from None verdicts.TooOld v = v
  verdict_from (Some id) verdicts.TooOld v = (v.0, (carry_whole h n round fits base v.0).1 v.1, v.2)
  verdict_from (Some id) verdicts.Visible v = ap (λ (t : List Event). is_visible committed t id) (taken place n h (omega arith)) ∙ v
  verdict_from (Some id) verdicts.Hidden v = ap (λ (t : List Event). is_visible committed t id) (taken place n h (omega arith)) ∙ v
  verdict_from None verdicts.Visible v = v
  verdict_from None verdicts.Hidden v = v

  told_to : (member : Member) (v : MemberVerdict) → IsTold base committed (take n h) round place member v → IsTold base committed h round place member v
  told_to member v t =
      let e : take place (take n h) ≡ take place h = taken place n h (omega arith) in
      record {
        mode = t.mode;
        id = t.id ∙ ap (λ (f : List Event). unwrap_or (near_id (snapshot_xmax base.next f) (low_half member.id)) (low_half member.id)) e;
        verdict = verdict_to (near_id (snapshot_xmax base.next (take place h)) (low_half member.id)) v.verdict
            (subst (λ (f : List Event). IsMemberVerdict base committed (take n h) round place (near_id (snapshot_xmax base.next f) (low_half member.id)) v.verdict) e t.verdict);
      }

  told_from : (member : Member) (v : MemberVerdict) → IsTold base committed h round place member v → IsTold base committed (take n h) round place member v
  told_from member v t =
      let e : take place (take n h) ≡ take place h = taken place n h (omega arith) in
      record {
        mode = t.mode;
        id = t.id ∙ sym (ap (λ (f : List Event). unwrap_or (near_id (snapshot_xmax base.next f) (low_half member.id)) (low_half member.id)) e);
        verdict = subst (λ (f : List Event). IsMemberVerdict base committed (take n h) round place (near_id (snapshot_xmax base.next f) (low_half member.id)) v.verdict) (sym e)
            (verdict_from (near_id (snapshot_xmax base.next (take place h)) (low_half member.id)) v.verdict t.verdict);
      }

-- all multixact events of the command stand among the first m
abbrev pub AreMultisWithin : List MultiEvent → ℕ → By → Type 0
AreMultisWithin all m by = (p : ℕ) (e : MultiEvent) → slice_get all p ≡ Some e → multi_by e ≡ by → p < m

members_to : (recorded : List Recorded) (all : List MultiEvent) (m pinned multi : ℕ) (members : List Member) → pinned < m → HasMembers recorded (take m all) pinned multi members → HasMembers recorded all pinned multi members
members_to recorded all m pinned multi members l has =
    ⊎_elim
    (λ (u : (place : ℕ) × (place < pinned) × IsGenOf (take m all) multi members place).
    let s = u.1 in inl (u.0, s, record { by = u.2.by; offset = u.2.offset; stands = sym (got u.0 m all (omega arith)) ∙ u.2.stands }))
    (λ (u : (offset : ℕ) × Contains recorded (multi, offset, members)). inr u)
    has

members_from : (recorded : List Recorded) (all : List MultiEvent) (m pinned multi : ℕ) (members : List Member) → pinned < m → HasMembers recorded all pinned multi members → HasMembers recorded (take m all) pinned multi members
members_from recorded all m pinned multi members l has =
    ⊎_elim
    (λ (u : (place : ℕ) × (place < pinned) × IsGenOf all multi members place).
    let s = u.1 in inl (u.0, s, record { by = u.2.by; offset = u.2.offset; stands = got u.0 m all (omega arith) ∙ u.2.stands }))
    (λ (u : (offset : ℕ) × Contains recorded (multi, offset, members)). inr u)
    has

pub verdicts_whole : (base : Counters) (committed : List ℕ) (recorded : List Recorded) (h : List Event) (n : ℕ) (all : List MultiEvent) (m : ℕ) (round : RoundSpan) (by : By) (number : ℕ) (told : List MemberVerdict)
    → round.to ≤ n → AreWithin h n (taken_by by number) → AreMultisWithin all m by
    → AreVerdicts base committed recorded (take n h) (take m all) round by number told ↔ AreVerdicts base committed recorded h all round by number told
verdicts_whole base committed recorded h n all m round by number told fits within pins = (
  λ v.
      let l : v.taken < n = snap_place h n (taken_by by number) v.taken v.snapshot in
      let p : v.pinned < m = got_within v.pinned m all (multis.Hold by v.multi) v.pin in
      record {
        taken = v.taken;
        snapshot = (snap_whole h n (taken_by by number) v.taken within).0 v.snapshot;
        multi = v.multi;
        pinned = v.pinned;
        pin = sym (got v.pinned m all p) ∙ v.pin;
        members = v.members;
        has = members_to recorded all m v.pinned v.multi v.members p v.has;
        each = all_zip (IsTold base committed (take n h) round v.taken) (IsTold base committed h round v.taken) (told_to base committed h n round fits v.taken l) v.members told v.each;
      },
  λ v.
      let at = (snap_whole h n (taken_by by number) v.taken within).1 v.snapshot in
      let l : v.taken < n = snap_place h n (taken_by by number) v.taken at in
      let p : v.pinned < m = pins v.pinned (multis.Hold by v.multi) v.pin refl in
      record {
        taken = v.taken;
        snapshot = at;
        multi = v.multi;
        pinned = v.pinned;
        pin = got v.pinned m all p ∙ v.pin;
        members = v.members;
        has = members_from recorded all m v.pinned v.multi v.members p v.has;
        each = all_zip (IsTold base committed h round v.taken) (IsTold base committed (take n h) round v.taken) (told_from base committed h n round fits v.taken l) v.members told v.each;
      },
)
