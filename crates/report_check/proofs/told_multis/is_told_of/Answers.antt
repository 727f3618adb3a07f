use Rattle.std.proofs.Common.{◌≡◌, ℕ, ◌<◌, ◌≤◌, List, Some, length, map, take, sym, ap, subst, ◌∙◌, ◌==◌}
use Rattle.std.specs.Prelude.{slice_index}
use Rattle.std.specs.List.{count_by, slice_get}
use Rattle.tx_events.specs.declared.multi.MultiEvent.{MultiEvent}
use Rattle.tx_events.specs.Multis.{multi_by}
use Rattle.tx_model.specs.declared.report.Life.{Life}
use Rattle.tx_model.specs.Replies.{RoundSpan}
use Rattle.command_events.specs.Reached.{IsReach}
use Rattle.place_columns.specs.OwnPlaces.{ArePlacesOf}
use Rattle.tx_events.proofs.MultiPlaces.{stands_at}
use Rattle.place_columns.specs.Lined.{Numbered, lines_from, numbered, places_of}
use Rattle.event_rules.proofs.Standing.{in_order}
use Rattle.report_law.specs.Places.{multis_of}
use Rattle.report_check.proofs.ToldAt.{its_places_are, number_within, rank_is}
use Rattle.report_check.proofs.told_multis.is_told_of.Goals as goal

pub multis_at-requires : goal.multis_at-requires
multis_at-requires g c =
    let j = g.of.judged in
    let known = c.requires.1.0 in
    let items : c.items-multis.result.now ≡ j.life.multis = c.items-multis.ensures ∙ ap (λ (l : Life). l.multis) c.requires.0.life in
    record {
      numbers = (lines_from 0 j.steps, known.multis ∙ ap (λ (h : List MultiEvent). numbered (lines_from 0 j.steps) (map multi_by h)) (sym items));
      within = subst (λ (n : Numbered). c.args.number ≤ length n.steps) (sym known.multis) (number_within j known.order c.args.number c.args.line.now.by c.requires.1.1.1.1.0);
    }

pub places-requires : goal.places-requires
places-requires g c =
    let known = c.requires.1.0 in
    subst (λ (n : Numbered). c.args.number ≤ length n.steps) (sym known.multis) (number_within g.of.judged known.order c.args.number c.args.line.now.by c.requires.1.1.1.1.0)

pub is_told_multi-requires : goal.is_told_multi-requires
is_told_multi-requires g c =
    let j = g.of.judged in
    let known = c.requires.1.0 in
    let number = c.args.number in
    let by = c.args.line.now.by in
    let line = c.requires.1.1.1.1.0 in
    let items : c.items-multis.result.now ≡ j.life.multis = c.items-multis.ensures ∙ ap (λ (l : Life). l.multis) c.requires.0.life in
    let reach : IsReach j.begun.counters j.life.events g.of.round c.reach_of-reach.result = subst (λ (r : RoundSpan). IsReach j.begun.counters j.life.events r c.reach_of-reach.result) (sym c.requires.1.1.0) c.reach_of-reach.ensures in
    let numbers : c.args.known.now.multis ≡ numbered (lines_from 0 j.steps) (map multi_by c.items-multis.result.now) = known.multis ∙ ap (λ (h : List MultiEvent). numbered (lines_from 0 j.steps) (map multi_by h)) (sym items) in
    let own : c.as_slice.result.now ≡ multis_of by j.life.multis =
    c.as_slice.ensures.value ∙ c.in_ok-own.ensures (lines_from 0 j.steps) by numbers (in_order j known.order) line ∙ ap (multis_of by) items in
    let places : ArePlacesOf by (map multi_by j.life.multis) c.places.result.now =
    subst (λ (ps : List ℕ). ArePlacesOf by (map multi_by j.life.multis) ps) (sym (c.places.ensures ∙ ap (λ (n : Numbered). places_of number n.numbers) known.multis)) (its_places_are j known.order number by line) in
    (reach, (known.counts, (items, (own, places))))

pub returns : goal.returns
returns g c = λ e at.
    let j = g.of.judged in
    let known = c.requires.1.0 in
    let by = c.args.line.now.by in
    let place = c.args.place in
    let items : c.items-multis.result.now ≡ j.life.multis = c.items-multis.ensures ∙ ap (λ (l : Life). l.multis) c.requires.0.life in
    let x = c.index-multis-place.result in
    let within : place < length c.items-multis.result.now = subst (λ (h : List MultiEvent). place < length h) (sym items) c.requires.1.1.1.1.1.0 in
    let there : slice_get j.life.multis place ≡ Some x = ap (λ (h : List MultiEvent). slice_get h place) (sym items) ∙ stands_at c.items-multis.result.now place x within c.index-multis-place.is in
    let same : x ≡ e = cc in
    let rank : c.rank_at-rank.result ≡ length (multis_of by (take place j.life.multis)) =
    c.rank_at-rank.ensures
    ∙ ap (λ (n : Numbered). count_by (λ k. k == slice_index n.numbers place) (take place n.numbers)) known.multis
    ∙ rank_is j known.order place c.args.number by c.requires.1.1.1.1.1.1 c.requires.1.1.1.1.0 in
    let told = c.is_told_multi.ensures in (
      λ t.
          let z = told.0 t in
          (z.0, z.1, ap (λ k. slice_get z.0 k) (sym rank) ∙ z.2 ∙ ap (λ (y : MultiEvent). Some y) same),
      λ z. told.1 (z.0, z.1, ap (λ k. slice_get z.0 k) rank ∙ z.2 ∙ ap (λ (y : MultiEvent). Some y) (sym same)),
    )
