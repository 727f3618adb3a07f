use Rattle.std.proofs.Common.{◌≡◌, ◌≤◌, ◌∙◌, List, ap, length, map, subst, sym, take}
use Rattle.tx_events.specs.declared.event.Event.{Event}
use Rattle.tx_events.specs.declared.record.Counters.{Counters}
use Rattle.tx_events.specs.Events.{by_of}
use Rattle.tx_events.specs.History.{IsLegal}
use Rattle.tx_events.specs.Running.{open_ids}
use Rattle.history_check.specs.Replays.{Replayed}
use Rattle.place_columns.specs.Owned.{own_of}
use Rattle.report_law.specs.Answers.{own_before}
use Rattle.report_law.proofs.Fronts.{taken}
use Rattle.history_places.specs.Opens.{AreOpenCounts}
use Rattle.reply_lines.specs.declared.known.Known.{Known}
use Rattle.reply_lines.proofs.Askings.{its_list}
use Rattle.reply_lines.proofs.replies.open_below.Goals as goal

pub open_before-requires : goal.open_before-requires
open_before-requires g c =
    let k = c.args.known.now in
    let same = c.requires.0 in
    let known = c.requires.1.0 in
    let own = its_list (map by_of k.places.events) k.turns.items c.args.by.session c.index.result.now c.as_slice.result.now known.turns c.requires.1.1.1 c.index.ensures c.as_slice.ensures.value in
    let legal : IsLegal k.places.base k.places.events = subst (λ (r : Replayed). IsLegal r.base r.events) c.replay.ensures c.events-legal.ensures.legal in
    let based : IsLegal g.of.at.j.begun.counters k.places.events = subst (λ (b : Counters). IsLegal b k.places.events) known.front.base_is legal in
    let counts : AreOpenCounts k.places.events c.as_slice-2.result.now = subst (AreOpenCounts k.places.events) (sym c.as_slice-2.ensures.value) known.opened in
    (subst (λ (m : Known). c.as_slice.result.now ≡ own_of c.args.by.session (map by_of m.places.events)) (sym same) own, (subst (λ (m : Known). IsLegal g.of.at.j.begun.counters m.places.events) (sym same) based, (subst (λ (m : Known). AreOpenCounts m.places.events c.as_slice-2.result.now) (sym same) counts, subst (λ (m : Known). c.args.to ≤ length m.places.events) (sym same) c.requires.1.1.0)))

pub returns : goal.returns
returns g c =
    let by = c.args.by in
    let k = c.args.known.now in
    let f = c.requires.1.0.front in
    c.open_before.ensures
    ∙ ap (λ (m : Known). length (open_ids by.session (own_before by (take c.args.to m.places.events)))) c.requires.0
    ∙ ap (λ (t : List Event). length (open_ids by.session (own_before by (take c.args.to t)))) f.events_are
    ∙ ap (λ (t : List Event). length (open_ids by.session (own_before by t))) (taken c.args.to (length k.places.events) g.of.at.j.life.events c.requires.1.1.0)
