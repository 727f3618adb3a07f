-- Where a command may read, by the place from which it may.
use Rattle.std.proofs.Common.{◌≡◌, ℕ, ◌+◌, ◌<◌, ◌≤◌, ◌↔◌, max, List, [], ◌∷◌, map, take, drop, refl, ap, sym, subst, ◌∙◌, arith}
use Rattle.std.specs.List.{AllByRecursion}
use Rattle.std.proofs.lemmas.List.{drop-map, take-map}
use Rattle.tx_events.specs.declared.event.By.{By}
use Rattle.tx_events.specs.declared.multi.MultiEvent.{MultiEvent}
use Rattle.tx_events.specs.Multis.{multi_by}
use Rattle.place_columns.specs.Owned.{AreLater, IsReadFrom}
use Rattle.place_columns.proofs.ReadFrom.{all_between}
use Rattle.report_law.specs.Places.{MayReadMultis}
use Rattle.multi_rules.specs.MultiReadings.{IsMultiReading, span_of}

-- an event of the session is of a later command
abbrev Later : By → By → Type 0
Later by b = b.session ≡ by.session → by.command < b.command

of_map : (Q : By → Type 0) (xs : List MultiEvent) → AllByRecursion Q (map multi_by xs) → AllByRecursion (λ (e : MultiEvent). Q (multi_by e)) xs
of_map Q [] a = tt
of_map Q (x ∷ xs) a = (a.0, of_map Q xs a.1)

to_map : (Q : By → Type 0) (xs : List MultiEvent) → AllByRecursion (λ (e : MultiEvent). Q (multi_by e)) xs → AllByRecursion Q (map multi_by xs)
to_map Q [] a = tt
to_map Q (x ∷ xs) a = (a.0, to_map Q xs a.1)

mapped : (p to : ℕ) (h : List MultiEvent) → drop p (take to (map multi_by h)) ≡ map multi_by (drop p (take to h))
mapped p to h = ap (drop p) (take-map multi_by to h) ∙ drop-map multi_by p (take to h)

-- the same of events and of whose they are
of_bys : (by : By) (p to : ℕ) (h : List MultiEvent) → AreLater by (drop p (take to (map multi_by h))) → AllByRecursion (λ (e : MultiEvent). (multi_by e).session ≡ by.session → by.command < (multi_by e).command) (drop p (take to h))
of_bys by p to h a = of_map (Later by) (drop p (take to h)) (subst (AllByRecursion (Later by)) (mapped p to h) a)

to_bys : (by : By) (p to : ℕ) (h : List MultiEvent) → AllByRecursion (λ (e : MultiEvent). (multi_by e).session ≡ by.session → by.command < (multi_by e).command) (drop p (take to h)) → AreLater by (drop p (take to (map multi_by h)))
to_bys by p to h a = subst (AllByRecursion (Later by)) (sym (mapped p to h)) (to_map (Later by) (drop p (take to h)) a)

-- nothing stands from the end on
at_end : (by : By) (p to : ℕ) (h : List MultiEvent) → to ≤ p → AreLater by (drop p (take to (map multi_by h)))
at_end by p to h l = all_between (Later by) (map multi_by h) p to (λ i b m n e. absurd (omega arith))

pub reading_is : (h : List MultiEvent) (by : By) (start to r from : ℕ) → start ≤ to → IsReadFrom (map multi_by h) by to r → from ≡ max r start → IsMultiReading h (span_of start to) by (record { from = from; to = to })
reading_is h by start to r from l read from_is =
    let least : r ≤ to = (read to (omega arith)).0 (at_end by to to h (omega arith)) in
    record {
      to = refl;
      read = λ p. (
        λ m. let a = m.not_before in let b = m.not_past in let c : r ≤ p = (read p b).0 (to_bys by p to h m.behind) in (omega arith, b),
        λ z.
            let a = z.0 in let b = z.1 in
            record { not_before = omega arith; not_past = b; behind = of_bys by p to h ((read p b).1 (omega arith)) },
      );
    }
