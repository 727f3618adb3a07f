-- The parts of an event's rule.
use Rattle.std.proofs.Common.{◌≡◌, ◌↔◌, ℕ, zero, suc, ◌<◌, List, [], ◌∷◌, length, get_or, map, take, refl, ap, sym, subst, ◌∙◌, arith, Bool, Some}
use Rattle.std.specs.Prelude.{IsTrue, slice_index}
use Rattle.tx_model.specs.declared.report.Step.{Step}
use Rattle.place_columns.specs.declared.lines.LineAt.{LineAt}
use Rattle.place_columns.specs.Lined.{Numbered, lines_from, number_of, numbered}
use Rattle.event_rules.proofs.Telling.{number_there}
use Rattle.std.specs.List.{slice_get}
use Rattle.std.proofs.lemmas.Option.{same_Some}
use Rattle.tx_events.specs.declared.event.By.{By}
use Rattle.tx_events.specs.declared.event.Event.{Event}
use Rattle.tx_events.specs.declared.multi.MultiEvent.{MultiEvent}
use Rattle.tx_events.specs.Events.{by_of}
use Rattle.tx_events.specs.Multis.{multi_by}
use Rattle.report_law.specs.Events.{IsCommitLogged, StandsAt}
use Rattle.report_law.specs.Places.{IsNotLate}
use Rattle.report_law.specs.Steps.{Judged}
use Rattle.event_rules.specs.Told.{IsItsEvent, IsItsMulti, IsToldEvent, IsToldMulti}

-- ---- with the event as it is read

at_place : {X : Type 0} (xs : List X) (n : ℕ) (d : X) → n < length xs → slice_get xs n ≡ Some (get_or xs n d)
at_place [] n d l = absurd (omega arith)
at_place (x ∷ xs) zero d l = refl
at_place (x ∷ xs) (suc n) d l = at_place xs n d (omega arith)

pub read_is : {X : Type 0} (xs : List X) (n : ℕ) (x y : X) → n < length xs → x ≡ get_or xs n x → slice_get xs n ≡ Some y → x ≡ y
read_is {X} xs n x y l is at = is ∙ same_Some (get_or xs n x) y (sym (at_place xs n x l) ∙ at)

pub read_at : {X : Type 0} (xs : List X) (n : ℕ) (x : X) → slice_get xs n ≡ Some x → x ≡ get_or xs n x
read_at [] n x at = absurd cc
read_at {X} (y ∷ xs) zero x at = sym (same_Some y x at)
read_at (y ∷ xs) (suc n) x at = read_at xs n x at

pub whole_event : (j : Judged) (p : ℕ) (h : List Event) (ev e : Event) (by : By) (told : Bool)
    → h ≡ j.life.events → slice_get h p ≡ Some e → p < length h → ev ≡ get_or h p ev → by ≡ by_of ev → StandsAt j by → IsNotLate j.steps (map by_of (take p h)) by → IsCommitLogged j ev
    → ((e : Event) → slice_get j.life.events p ≡ Some e → (s : StandsAt j (by_of e)) → IsTrue told ↔ IsToldEvent j p e s) → IsTrue told ↔ IsItsEvent j p e
whole_event j p h ev e by told is at l read by_is s time logged told_is =
    let same = read_is h p ev e l read at in
    let by_e : by ≡ by_of e = by_is ∙ ap (λ (x : Event). by_of x) same in
    let stands : StandsAt j (by_of e) = subst (λ (b : By). StandsAt j b) by_e s in
    let there : slice_get j.life.events p ≡ Some e = subst (λ (t : List Event). slice_get t p ≡ Some e) is at in
    let in_time = subst (λ (t : List Event). IsNotLate j.steps (map by_of (take p t)) (by_of e)) is (subst (λ (b : By). IsNotLate j.steps (map by_of (take p h)) b) by_e time) in (
      λ y. record { command = stands; in_time = in_time; told = (told_is e there stands).0 y; logged = subst (λ (x : Event). IsCommitLogged j x) same logged },
      λ i. (told_is e there i.command).1 i.told,
    )

pub whole_multi : (j : Judged) (p : ℕ) (h : List MultiEvent) (ev e : MultiEvent) (by : By) (told : Bool)
    → h ≡ j.life.multis → slice_get h p ≡ Some e → p < length h → ev ≡ get_or h p ev → by ≡ multi_by ev → StandsAt j by → IsNotLate j.steps (map multi_by (take p h)) by
    → ((e : MultiEvent) → slice_get h p ≡ Some e → (s : StandsAt j (multi_by e)) → IsTrue told ↔ IsToldMulti j p e s) → IsTrue told ↔ IsItsMulti j p e
whole_multi j p h ev e by told is at l read by_is s time told_is =
    let same = read_is h p ev e l read at in
    let by_e : by ≡ multi_by e = by_is ∙ ap (λ (x : MultiEvent). multi_by x) same in
    let stands : StandsAt j (multi_by e) = subst (λ (b : By). StandsAt j b) by_e s in
    let in_time = subst (λ (t : List MultiEvent). IsNotLate j.steps (map multi_by (take p t)) (multi_by e)) is (subst (λ (b : By). IsNotLate j.steps (map multi_by (take p h)) b) by_e time) in (
      λ y. record { command = stands; in_time = in_time; told = (told_is e at stands).0 y },
      λ i. (told_is e at i.command).1 i.told,
    )

-- ---- with the number of its line

pub number_read : {E : Type 0} (by : E → By) (steps : List Step) (table : List LineAt) (own : Numbered) (h k : List E) (p n : ℕ) (ev : E) → table ≡ lines_from 0 steps → own ≡ numbered (lines_from 0 steps) (map by k) → h ≡ k
    → n ≡ slice_index own.numbers p → p < length h → ev ≡ get_or h p ev → n ≡ number_of table (by ev)
number_read {E} by steps table own h k p n ev is own_is same number l read =
    number
    ∙ ap (λ (o : Numbered). slice_index o.numbers p) own_is
    ∙ number_there (number_of (lines_from 0 steps)) by k p ev (subst (λ (t : List E). slice_get t p ≡ Some ev) same (at_place h p ev l ∙ ap (λ (x : E). Some x) (sym read)))
    ∙ ap (λ (t : List LineAt). number_of t (by ev)) (sym is)
