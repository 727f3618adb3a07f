-- A search of the columns answers the rules.
use Rattle.std.proofs.Common.{◌≡◌, ℕ, suc, zero, ◌+◌, ◌-◌, ◌<◌, ◌≤◌, ◌↔◌, List, [], ◌∷◌, ◌++◌, length, take, refl, ap, sym, subst, ◌∙◌, arith, inl, inr, ⊎_elim, ◌⊎◌, add-one, Some}
use Rattle.std.specs.List.{slice_get}
use Rattle.tx_events.specs.declared.event.By.{By}
use Rattle.tx_events.specs.declared.event.Event.{Event}
use Rattle.tx_events.specs.declared.event.Event.TheVariants as events
use Rattle.tx_events.specs.declared.record.Counters.{Counters}
use Rattle.tx_events.specs.Horizon.{announced_after, oldest_id}
use Rattle.tx_events.proofs.HorizonSteps.{oldest_push}
use Rattle.tx_model.specs.Replies.{RoundSpan}
use Rattle.place_columns.specs.declared.span.Span.{Span}
use Rattle.place_columns.specs.Columns.{IsWhere}
use Rattle.history_places.specs.Told.{next_in, oldest_in, stop_in, xmin_in}
use Rattle.report_law.specs.MultiLines.{MayCarry}
use Rattle.report_law.specs.Steps.{IsBackwardAt, IsHorizonAt, IsStoppedAt, IsTooNewAt}
use Rattle.place_rules.specs.declared.reading.Reading.{Reading}
use Rattle.place_rules.specs.Readings.{IsReading}
use Rattle.place_rules.proofs.Announced.{announced, in_take, one_further}

-- one of these places is from `from` to `to`
abbrev pub Meets : Span → ℕ → ℕ → Type 0
Meets span from to = (p : ℕ) × (span.from ≤ p) × (p < span.end) × (from ≤ p) × (p ≤ to)

module _ (base : Counters) (h : List Event) (round : RoundSpan) (by : By) (r : Reading) (reading : IsReading h round by r) (within : r.to ≤ length h) where
  pub backward_iff : (oldest now : ℕ) (span : Span) → IsWhere (oldest_in base) h now span → oldest < now → Meets span r.from r.to ↔ IsBackwardAt base h round by oldest now
  backward_iff oldest now span is l = (
    λ z.
        let e = z.4 in
        record { place = z.0; read = (reading.read z.0).1 (z.3, z.4); now_is = sym ((is.each z.0 (omega arith)).1 (z.1, z.2)); older = l },
    λ i.
        let f = (reading.read i.place).0 i.read in let e = f.1 in
        let s = (is.each i.place (omega arith)).0 (sym i.now_is) in
        (i.place, s.0, s.1, f.0, f.1),
  )

  pub too_new_iff : (oldest limit : ℕ) (span : Span) → IsWhere (xmin_in base) h limit span → limit < oldest → Meets span r.from r.to ↔ IsTooNewAt base h round by oldest limit
  too_new_iff oldest limit span is l = (
    λ z.
        let e = z.4 in
        record { place = z.0; read = (reading.read z.0).1 (z.3, z.4); limit_is = sym ((is.each z.0 (omega arith)).1 (z.1, z.2)); past = l },
    λ i.
        let f = (reading.read i.place).0 i.read in let e = f.1 in
        let s = (is.each i.place (omega arith)).0 (sym i.limit_is) in
        (i.place, s.0, s.1, f.0, f.1),
  )

  pub stopped_iff : (next stop : ℕ) (nexts stops both : Span) → IsWhere (next_in base) h next nexts → IsWhere (stop_in base) h stop stops
      → ((p : ℕ) → ((both.from ≤ p) × (p < both.end)) ↔ ((nexts.from ≤ p) × (p < nexts.end) × (stops.from ≤ p) × (p < stops.end))) → stop ≤ next → Meets both r.from r.to ↔ IsStoppedAt base h round by next stop
  stopped_iff next stop nexts stops both is at join l = (
    λ z.
        let e = z.4 in
        let j = (join z.0).0 (z.1, z.2) in
        record {
          place = z.0;
          read = (reading.read z.0).1 (z.3, z.4);
          next_is = sym ((is.each z.0 (omega arith)).1 (j.0, j.1));
          stop_is = sym ((at.each z.0 (omega arith)).1 (j.2, j.3));
          reached = l;
        },
    λ i.
        let f = (reading.read i.place).0 i.read in let e = f.1 in
        let s = (is.each i.place (omega arith)).0 (sym i.next_is) in
        let t = (at.each i.place (omega arith)).0 (sym i.stop_is) in
        let j = (join i.place).1 (s.0, s.1, t.0, t.1) in
        (i.place, j.0, j.1, f.0, f.1),
  )

  pub horizon_iff : (xmin : ℕ) (span : Span) → IsWhere (xmin_in base) h xmin span → Meets span r.early r.to ↔ IsHorizonAt base h round by xmin
  horizon_iff xmin span is = (
    λ z.
        let e = z.4 in
        let m = (reading.early z.0).1 (z.3, z.4) in
        record { place = z.0; from_start = m.from_start; in_round = m.in_round; behind = m.behind; xmin_is = sym ((is.each z.0 (omega arith)).1 (z.1, z.2)) },
    λ i.
        let f = (reading.early i.place).0 (record { from_start = i.from_start; in_round = i.in_round; behind = i.behind }) in let e = f.1 in
        let s = (is.each i.place (omega arith)).0 (sym i.xmin_is) in
        (i.place, s.0, s.1, f.0, f.1),
  )

pub carry_iff : (base : Counters) (h : List Event) (round : RoundSpan) (to oldest : ℕ) (span : Span) → to ≡ round.to → to ≤ length h → IsWhere (oldest_in base) h oldest span → Meets span 0 to ↔ MayCarry base h round oldest
carry_iff base h round to oldest span end within is = (
  λ z.
      let e = z.4 in
      let value : oldest_id base.oldest (take z.0 h) ≡ oldest = (is.each z.0 (omega arith)).1 (z.1, z.2) in
      ⊎_elim
      (λ (a : oldest_id base.oldest (take z.0 h) ≡ base.oldest). inl (sym value ∙ a))
      (λ a.
      let t = in_take h z.0 a.place (events.Oldest a.by (oldest_id base.oldest (take z.0 h))) a.stands in
      let l = t.0 in
      inr (a.place, a.by, omega arith, t.1 ∙ ap (λ n. Some (events.Oldest a.by n)) value))
      (announced base.oldest (take z.0 h)),
  λ c. ⊎_elim
      (λ (a : oldest ≡ base.oldest).
      let s = (is.each 0 (omega arith)).0 (sym a) in
      (0, s.0, s.1, omega arith, omega arith))
      (λ a.
      let l = a.2 in
      let whole : take (suc a.0) h ≡ take a.0 h ++ events.Oldest a.1 oldest ∷ [] = one_further h a.0 (events.Oldest a.1 oldest) a.3 in
      let value : oldest_id base.oldest (take (suc a.0) h) ≡ oldest = ap (oldest_id base.oldest) whole ∙ oldest_push base.oldest (take a.0 h) (events.Oldest a.1 oldest) in
      let s = (is.each (suc a.0) (omega arith)).0 value in
      (suc a.0, s.0, s.1, omega arith, omega arith))
      c,
)

-- a test that fails rules the rest out
pub not_backward : (base : Counters) (h : List Event) (round : RoundSpan) (by : By) (oldest now : ℕ) → now ≤ oldest → IsBackwardAt base h round by oldest now → ⊥
not_backward base h round by oldest now l i = let a = i.older in omega arith

pub not_too_new : (base : Counters) (h : List Event) (round : RoundSpan) (by : By) (oldest limit : ℕ) → oldest ≤ limit → IsTooNewAt base h round by oldest limit → ⊥
not_too_new base h round by oldest limit l i = let a = i.past in omega arith

pub not_stopped : (base : Counters) (h : List Event) (round : RoundSpan) (by : By) (next stop : ℕ) → next < stop → IsStoppedAt base h round by next stop → ⊥
not_stopped base h round by next stop l i = let a = i.reached in omega arith
