-- Where a command may read, by the place from which it may.
use Rattle.std.proofs.Common.{◌≡◌, ℕ, suc, zero, ◌+◌, ◌-◌, ◌<◌, ◌≤◌, ◌↔◌, max, List, [], ◌∷◌, length, map, take, drop, refl, ap, sym, subst, ◌∙◌, arith, ⊎_elim}
use Rattle.std.specs.List.{AllByRecursion, slice_get}
use Rattle.std.proofs.lemmas.Bool.{cases_lt}
use Rattle.std.proofs.lemmas.List.{drop-map, take-map}
use Rattle.tx_events.specs.declared.event.By.{By}
use Rattle.tx_events.specs.declared.event.Event.{Event}
use Rattle.tx_events.specs.Events.{by_of}
use Rattle.tx_model.specs.Replies.{RoundSpan}
use Rattle.place_columns.specs.Owned.{AreLater, IsReadFrom}
use Rattle.place_columns.proofs.ReadFrom.{all_between}
use Rattle.report_law.specs.Places.{MayReadIn}
use Rattle.place_rules.specs.declared.reading.Reading.{Reading}
use Rattle.place_rules.specs.Readings.{IsReading, MayFindHorizon, span_of}

-- an event of the session is of a later command
abbrev Later : By → By → Type 0
Later by b = b.session ≡ by.session → by.command < b.command

of_map : (Q : By → Type 0) (xs : List Event) → AllByRecursion Q (map by_of xs) → AllByRecursion (λ (e : Event). Q (by_of e)) xs
of_map Q [] a = tt
of_map Q (x ∷ xs) a = (a.0, of_map Q xs a.1)

to_map : (Q : By → Type 0) (xs : List Event) → AllByRecursion (λ (e : Event). Q (by_of e)) xs → AllByRecursion Q (map by_of xs)
to_map Q [] a = tt
to_map Q (x ∷ xs) a = (a.0, to_map Q xs a.1)

mapped : (p to : ℕ) (h : List Event) → drop p (take to (map by_of h)) ≡ map by_of (drop p (take to h))
mapped p to h = ap (drop p) (take-map by_of to h) ∙ drop-map by_of p (take to h)

-- the same of events and of whose they are
of_bys : (by : By) (p to : ℕ) (h : List Event) → AreLater by (drop p (take to (map by_of h))) → AllByRecursion (λ (e : Event). (by_of e).session ≡ by.session → by.command < (by_of e).command) (drop p (take to h))
of_bys by p to h a = of_map (Later by) (drop p (take to h)) (subst (AllByRecursion (Later by)) (mapped p to h) a)

to_bys : (by : By) (p to : ℕ) (h : List Event) → AllByRecursion (λ (e : Event). (by_of e).session ≡ by.session → by.command < (by_of e).command) (drop p (take to h)) → AreLater by (drop p (take to (map by_of h)))
to_bys by p to h a = subst (AllByRecursion (Later by)) (sym (mapped p to h)) (to_map (Later by) (drop p (take to h)) a)

-- nothing stands from the end on
at_end : (by : By) (p to : ℕ) (h : List Event) → to ≤ p → AreLater by (drop p (take to (map by_of h)))
at_end by p to h l = all_between (Later by) (map by_of h) p to (λ i b m n e. absurd (omega arith))

pub reading_is : (h : List Event) (by : By) (start to r from early : ℕ) → start ≤ to → IsReadFrom (map by_of h) by to r → from ≡ max r start → early ≡ max (r - 1) start → IsReading h (span_of start to) by (record { from = from; early = early; to = to })
reading_is h by start to r from early l read from_is early_is =
    let least : r ≤ to = (read to (omega arith)).0 (at_end by to to h (omega arith)) in
    record {
      to = refl;
      read = λ p. (
        λ m. let a = m.not_before in let b = m.not_past in let c : r ≤ p = (read p b).0 (to_bys by p to h m.behind) in (omega arith, b),
        λ z.
            let a = z.0 in let b = z.1 in
            record { not_before = omega arith; not_past = b; behind = of_bys by p to h ((read p b).1 (omega arith)) },
      );
      early = λ p. (
        λ m.
            let a = m.from_start in let b = m.in_round in
            let c : r ≤ p + 1 = ⊎_elim (λ (u : p < to). (read (p + 1) (omega arith)).0 (to_bys by (p + 1) to h m.behind)) (λ (u : to ≤ p). omega arith) (cases_lt p to) in
            (omega arith, b),
        λ z.
            let a = z.0 in let b = z.1 in
            record {
              from_start = omega arith;
              in_round = b;
              behind = of_bys by (p + 1) to h (⊎_elim (λ (u : p < to). (read (p + 1) (omega arith)).1 (omega arith)) (λ (u : to ≤ p). at_end by (p + 1) to h (omega arith)) (cases_lt p to));
            },
      );
    }
