-- A search of the columns answers the rules.
use Rattle.std.proofs.Common.{◌≡◌, ℕ, ◌+◌, ◌<◌, ◌≤◌, ◌↔◌, List, length, take, sym, arith}
use Rattle.tx_events.specs.declared.event.By.{By}
use Rattle.tx_events.specs.declared.multi.MultiEvent.{MultiEvent}
use Rattle.tx_events.specs.declared.record.Counters.{Counters}
use Rattle.tx_model.specs.Replies.{RoundSpan}
use Rattle.place_columns.specs.declared.span.Span.{Span}
use Rattle.place_columns.specs.Columns.{IsWhere}
use Rattle.history_places.specs.MultiTold.{first_in, member_stop_in, next_in, oldest_in, stop_in}
use Rattle.report_law.specs.MultiLines.{IsMemberStop, IsMultiBackward, IsMultiStop}
use Rattle.multi_rules.specs.declared.reading.MultiReading.{MultiReading}
use Rattle.multi_rules.specs.MultiReadings.{IsMultiReading}

-- one of these places is from `from` to `to`
abbrev pub Meets : Span → ℕ → ℕ → Type 0
Meets span from to = (p : ℕ) × (span.from ≤ p) × (p < span.end) × (from ≤ p) × (p ≤ to)

-- these are the places that both have
abbrev pub AreBoth : Span → Span → Span → Type 0
AreBoth both a b = (p : ℕ) → ((both.from ≤ p) × (p < both.end)) ↔ ((a.from ≤ p) × (p < a.end) × (b.from ≤ p) × (p < b.end))

module _ (base : Counters) (h : List MultiEvent) (round : RoundSpan) (by : By) (r : MultiReading) (reading : IsMultiReading h round by r) (within : r.to ≤ length h) where
  pub backward_iff : (multi now : ℕ) (span : Span) → IsWhere (oldest_in base) h now span → multi < now → Meets span r.from r.to ↔ IsMultiBackward base h round by multi now
  backward_iff multi now span is l = (
    λ z.
        let e = z.4 in
        record { place = z.0; read = (reading.read z.0).1 (z.3, z.4); now_is = sym ((is.each z.0 (omega arith)).1 (z.1, z.2)); older = l },
    λ i.
        let f = (reading.read i.place).0 i.read in let e = f.1 in
        let s = (is.each i.place (omega arith)).0 (sym i.now_is) in
        (i.place, s.0, s.1, f.0, f.1),
  )

  pub stop_iff : (next stop : ℕ) (nexts stops both : Span) → IsWhere (next_in base) h next nexts → IsWhere (stop_in base) h stop stops → AreBoth both nexts stops → stop ≤ next → Meets both r.from r.to ↔ IsMultiStop base h round by next stop
  stop_iff next stop nexts stops both is at join l = (
    λ z.
        let e = z.4 in
        let j = (join z.0).0 (z.1, z.2) in
        record {
          place = z.0;
          read = (reading.read z.0).1 (z.3, z.4);
          next_is = sym ((is.each z.0 (omega arith)).1 (j.0, j.1));
          stop_is = sym ((at.each z.0 (omega arith)).1 (j.2, j.3));
          reached = l;
        },
    λ i.
        let f = (reading.read i.place).0 i.read in let e = f.1 in
        let s = (is.each i.place (omega arith)).0 (sym i.next_is) in
        let t = (at.each i.place (omega arith)).0 (sym i.stop_is) in
        let j = (join i.place).1 (s.0, s.1, t.0, t.1) in
        (i.place, j.0, j.1, f.0, f.1),
  )

  pub member_stop_iff : (count next stop : ℕ) (firsts stops both : Span) → IsWhere (first_in base) h next firsts → IsWhere (member_stop_in base) h stop stops → AreBoth both firsts stops → stop ≤ next + count → Meets both r.from r.to ↔ IsMemberStop base h round by count next stop
  member_stop_iff count next stop firsts stops both is at join l = (
    λ z.
        let e = z.4 in
        let j = (join z.0).0 (z.1, z.2) in
        record {
          place = z.0;
          read = (reading.read z.0).1 (z.3, z.4);
          next_is = sym ((is.each z.0 (omega arith)).1 (j.0, j.1));
          stop_is = sym ((at.each z.0 (omega arith)).1 (j.2, j.3));
          reached = l;
        },
    λ i.
        let f = (reading.read i.place).0 i.read in let e = f.1 in
        let s = (is.each i.place (omega arith)).0 (sym i.next_is) in
        let t = (at.each i.place (omega arith)).0 (sym i.stop_is) in
        let j = (join i.place).1 (s.0, s.1, t.0, t.1) in
        (i.place, j.0, j.1, f.0, f.1),
  )

-- a test that fails rules the rest out
pub not_backward : (base : Counters) (h : List MultiEvent) (round : RoundSpan) (by : By) (multi now : ℕ) → now ≤ multi → IsMultiBackward base h round by multi now → ⊥
not_backward base h round by multi now l i = let a = i.older in omega arith

pub not_stopped : (base : Counters) (h : List MultiEvent) (round : RoundSpan) (by : By) (next stop : ℕ) → next < stop → IsMultiStop base h round by next stop → ⊥
not_stopped base h round by next stop l i = let a = i.reached in omega arith

pub not_reached : (base : Counters) (h : List MultiEvent) (round : RoundSpan) (by : By) (count next stop : ℕ) → next + count < stop → IsMemberStop base h round by count next stop → ⊥
not_reached base h round by count next stop l i = let a = i.reached in omega arith
