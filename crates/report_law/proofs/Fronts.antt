-- What is so of a round by the front of a history in which it stands is so by the whole of it.
use Rattle.std.proofs.Common.{◌≡◌, ℕ, zero, suc, ◌+◌, ◌<◌, ◌≤◌, ◌⊎◌, ◌↔◌, inl, inr, Bool, true, false, List, [], ◌∷◌, Option, Some, None, length, take, drop, refl, sym, ap, subst, ◌∙◌, arith, ⊎_elim}
use Rattle.std.specs.Prelude.{IfSome}
use Rattle.std.specs.List.{AllByRecursion, slice_get}
use Rattle.tx_events.specs.Nearest.{near_id}
use Rattle.tx_events.specs.declared.event.By.{By}
use Rattle.tx_events.specs.declared.event.Event.{Event}
use Rattle.tx_events.specs.declared.event.Event.TheVariants as events
use Rattle.tx_events.specs.declared.record.Counters.{Counters}
use Rattle.tx_events.specs.declared.record.Rec.{Rec}
use Rattle.tx_events.specs.Events.{by_of}
use Rattle.tx_events.specs.History.{next_given}
use Rattle.tx_events.specs.Horizon.{oldest_id, oldest_xmin}
use Rattle.tx_events.specs.Limits.{stop_limit}
use Rattle.tx_events.specs.Visible.{is_visible}
use Rattle.tx_model.specs.declared.command.Pair.{Pair}
use Rattle.tx_model.specs.Replies.{RoundSpan}
use Rattle.life_law.specs.DidCommit.{IsRecorded}
use Rattle.report_law.specs.MultiLines.{IsNotGiven, IsOldMember, IsUngiven, MayCarry}
use Rattle.report_law.specs.Places.{MayReadIn}
use Rattle.report_law.specs.Steps.{IsBackwardAt, IsDidAt, IsDidTooOld, IsHorizonAt, IsStoppedAt, IsTooNewAt}

pub taken : {X : Type 0} (p n : ℕ) (xs : List X) → p ≤ n → take p (take n xs) ≡ take p xs
taken zero n xs l = refl
taken (suc p) zero xs l = absurd (omega arith)
taken (suc p) (suc n) [] l = refl
taken {X} (suc p) (suc n) (x ∷ xs) l = ap (λ (t : List X). x ∷ t) (taken p n xs (omega arith))

pub got : {X : Type 0} (p n : ℕ) (xs : List X) → p < n → slice_get (take n xs) p ≡ slice_get xs p
got p zero xs l = absurd (omega arith)
got p (suc n) [] l = refl
got zero (suc n) (x ∷ xs) l = refl
got (suc p) (suc n) (x ∷ xs) l = got p n xs (omega arith)

-- what stands in the front stands there
pub got_within : {X : Type 0} (p n : ℕ) (xs : List X) (x : X) → slice_get (take n xs) p ≡ Some x → p < n
got_within p zero xs x e = absurd cc
got_within p (suc n) [] x e = absurd cc
got_within zero (suc n) (y ∷ xs) x e = omega arith
got_within (suc p) (suc n) (y ∷ xs) x e = let l = got_within p n xs x e in omega arith

module _ (h : List Event) (n : ℕ) (round : RoundSpan) (fits : round.to ≤ n) where
  -- ---- where a command may read

  -- a fact of the events from place p to the round's end
  behind : (Q : Event → Type 0) (p : ℕ) → AllByRecursion Q (drop p (take round.to (take n h))) ↔ AllByRecursion Q (drop p (take round.to h))
  behind Q p =
      let e = taken round.to n h fits in (
        λ a. subst (λ (t : List Event). AllByRecursion Q (drop p t)) e a,
        λ a. subst (λ (t : List Event). AllByRecursion Q (drop p t)) (sym e) a,
      )

  pub read_whole : (by : By) (p : ℕ) → MayReadIn (take n h) round by p ↔ MayReadIn h round by p
  read_whole by p =
      let all = behind (λ e. (by_of e).session ≡ by.session → by.command < (by_of e).command) p in (
        λ m. record { not_before = m.not_before; not_past = m.not_past; behind = all.0 m.behind },
        λ m. record { not_before = m.not_before; not_past = m.not_past; behind = all.1 m.behind },
      )

  same_front : (p : ℕ) → p ≤ round.to → take p (take n h) ≡ take p h
  same_front p l = taken p n h (omega arith)

  pub carry_whole : (base : Counters) (oldest : ℕ) → MayCarry base (take n h) round oldest ↔ MayCarry base h round oldest
  carry_whole base oldest = (
    λ m. ⊎_elim
        (λ (u : oldest ≡ base.oldest). inl u)
        (λ (u : (place : ℕ) × (by : By) × (place < round.to) × (slice_get (take n h) place ≡ Some (events.Oldest by oldest))).
        let l = u.2 in inr (u.0, u.1, l, sym (got u.0 n h (omega arith)) ∙ u.3))
        m,
    λ m. ⊎_elim
        (λ (u : oldest ≡ base.oldest). inl u)
        (λ (u : (place : ℕ) × (by : By) × (place < round.to) × (slice_get h place ≡ Some (events.Oldest by oldest))).
        let l = u.2 in inr (u.0, u.1, l, got u.0 n h (omega arith) ∙ u.3))
        m,
  )

  -- ---- a number at such a place

  pub stopped_whole : (base : Counters) (by : By) (next stop : ℕ) → IsStoppedAt base (take n h) round by next stop ↔ IsStoppedAt base h round by next stop
  stopped_whole base by next stop = (
    λ s. let e = same_front s.place s.read.not_past in record {
      place = s.place;
      read = (read_whole by s.place).0 s.read;
      next_is = s.next_is ∙ ap (next_given base.next) e;
      stop_is = s.stop_is ∙ ap (λ (t : List Event). stop_limit (oldest_id base.oldest t)) e;
      reached = s.reached;
    },
    λ s. let e = same_front s.place s.read.not_past in record {
      place = s.place;
      read = (read_whole by s.place).1 s.read;
      next_is = s.next_is ∙ ap (next_given base.next) (sym e);
      stop_is = s.stop_is ∙ ap (λ (t : List Event). stop_limit (oldest_id base.oldest t)) (sym e);
      reached = s.reached;
    },
  )

  pub backward_whole : (base : Counters) (by : By) (oldest now : ℕ) → IsBackwardAt base (take n h) round by oldest now ↔ IsBackwardAt base h round by oldest now
  backward_whole base by oldest now = (
    λ s. record {
      place = s.place;
      read = (read_whole by s.place).0 s.read;
      now_is = s.now_is ∙ ap (oldest_id base.oldest) (same_front s.place s.read.not_past);
      older = s.older;
    },
    λ s. record {
      place = s.place;
      read = (read_whole by s.place).1 s.read;
      now_is = s.now_is ∙ ap (oldest_id base.oldest) (sym (same_front s.place s.read.not_past));
      older = s.older;
    },
  )

  pub new_whole : (base : Counters) (by : By) (oldest limit : ℕ) → IsTooNewAt base (take n h) round by oldest limit ↔ IsTooNewAt base h round by oldest limit
  new_whole base by oldest limit = (
    λ s. record {
      place = s.place;
      read = (read_whole by s.place).0 s.read;
      limit_is = s.limit_is ∙ ap (oldest_xmin base.next) (same_front s.place s.read.not_past);
      past = s.past;
    },
    λ s. record {
      place = s.place;
      read = (read_whole by s.place).1 s.read;
      limit_is = s.limit_is ∙ ap (oldest_xmin base.next) (sym (same_front s.place s.read.not_past));
      past = s.past;
    },
  )

  pub horizon_whole : (base : Counters) (by : By) (xmin : ℕ) → IsHorizonAt base (take n h) round by xmin ↔ IsHorizonAt base h round by xmin
  horizon_whole base by xmin = (
    λ s. record {
      place = s.place;
      from_start = s.from_start;
      in_round = s.in_round;
      behind = (behind (λ e. (by_of e).session ≡ by.session → by.command < (by_of e).command) (s.place + 1)).0 s.behind;
      xmin_is = s.xmin_is ∙ ap (oldest_xmin base.next) (same_front s.place s.in_round);
    },
    λ s. record {
      place = s.place;
      from_start = s.from_start;
      in_round = s.in_round;
      behind = (behind (λ e. (by_of e).session ≡ by.session → by.command < (by_of e).command) (s.place + 1)).1 s.behind;
      xmin_is = s.xmin_is ∙ ap (oldest_xmin base.next) (sym (same_front s.place s.in_round));
    },
  )

  -- ---- ids near the next one

  pub did_whole : (base : Counters) (committed : List ℕ) (recs : List Rec) (by : By) (x : ℕ) (answer : Bool) → IsDidAt base committed (take n h) recs round by x answer ↔ IsDidAt base committed h recs round by x answer
  did_whole base committed recs by x answer = (
    λ s. record {
      place = s.place;
      read = (read_whole by s.place).0 s.read;
      id = s.id;
      near = sym (ap (λ (t : List Event). near_id (next_given base.next t) x) (same_front s.place s.read.not_past)) ∙ s.near;
      for_yes = s.for_yes;
      for_no = λ no. let u = s.for_no no in (u.0, (read_whole by u.0).0 u.1, sym (ap (λ (t : List Event). is_visible committed t s.id) (same_front u.0 u.1.not_past)) ∙ u.2);
    },
    λ s. record {
      place = s.place;
      read = (read_whole by s.place).1 s.read;
      id = s.id;
      near = ap (λ (t : List Event). near_id (next_given base.next t) x) (same_front s.place s.read.not_past) ∙ s.near;
      for_yes = s.for_yes;
      for_no = λ no. let u = s.for_no no in (u.0, (read_whole by u.0).1 u.1, ap (λ (t : List Event). is_visible committed t s.id) (same_front u.0 u.1.not_past) ∙ u.2);
    },
  )

  pub did_old_whole : (base : Counters) (by : By) (x oldest : ℕ) → IsDidTooOld base (take n h) round by x oldest ↔ IsDidTooOld base h round by x oldest
  did_old_whole base by x oldest = (
    λ s. record {
      normal = s.normal;
      place = s.place;
      read = (read_whole by s.place).0 s.read;
      older = subst (λ (t : List Event). IfSome (near_id (next_given base.next t) x) (λ id. id < oldest)) (same_front s.place s.read.not_past) s.older;
      carried = (carry_whole base oldest).0 s.carried;
    },
    λ s. record {
      normal = s.normal;
      place = s.place;
      read = (read_whole by s.place).1 s.read;
      older = subst (λ (t : List Event). IfSome (near_id (next_given base.next t) x) (λ id. id < oldest)) (sym (same_front s.place s.read.not_past)) s.older;
      carried = (carry_whole base oldest).1 s.carried;
    },
  )

  pub ungiven_whole : (base : Counters) (by : By) (pairs : List Pair) (x : ℕ) → IsNotGiven base (take n h) round by pairs x ↔ IsNotGiven base h round by pairs x
  ungiven_whole base by pairs x = (
    λ s. let e = ap (next_given base.next) (same_front s.place s.read.not_past) in record {
      place = s.place;
      read = (read_whole by s.place).0 s.read;
      number = s.number;
      pair = s.pair;
      stands = s.stands;
      its = s.its;
      others = subst (λ k. AllByRecursion (λ (p : Pair). IsUngiven k p.x.number → ⊥) (take s.number pairs)) e s.others;
      ungiven = subst (λ k. IsUngiven k x) e s.ungiven;
    },
    λ s. let e = sym (ap (next_given base.next) (same_front s.place s.read.not_past)) in record {
      place = s.place;
      read = (read_whole by s.place).1 s.read;
      number = s.number;
      pair = s.pair;
      stands = s.stands;
      its = s.its;
      others = subst (λ k. AllByRecursion (λ (p : Pair). IsUngiven k p.x.number → ⊥) (take s.number pairs)) e s.others;
      ungiven = subst (λ k. IsUngiven k x) e s.ungiven;
    },
  )

  pub old_member_whole : (base : Counters) (by : By) (pairs : List Pair) (oldest : ℕ) → IsOldMember base (take n h) round by pairs oldest ↔ IsOldMember base h round by pairs oldest
  old_member_whole base by pairs oldest = (
    λ s. let e = ap (next_given base.next) (same_front s.place s.read.not_past) in record {
      place = s.place;
      read = (read_whole by s.place).0 s.read;
      number = s.number;
      pair = s.pair;
      stands = s.stands;
      others = subst (λ k. AllByRecursion (λ (p : Pair). IsUngiven k p.x.number → ⊥) (take s.number pairs)) e s.others;
      normal = s.normal;
      older = subst (λ k. IfSome (near_id k s.pair.x.number) (λ id. id < oldest)) e s.older;
      carried = (carry_whole base oldest).0 s.carried;
    },
    λ s. let e = sym (ap (next_given base.next) (same_front s.place s.read.not_past)) in record {
      place = s.place;
      read = (read_whole by s.place).1 s.read;
      number = s.number;
      pair = s.pair;
      stands = s.stands;
      others = subst (λ k. AllByRecursion (λ (p : Pair). IsUngiven k p.x.number → ⊥) (take s.number pairs)) e s.others;
      normal = s.normal;
      older = subst (λ k. IfSome (near_id k s.pair.x.number) (λ id. id < oldest)) e s.older;
      carried = (carry_whole base oldest).1 s.carried;
    },
  )
