use Rattle.std.proofs.Common.{◌≡◌, map, subst, sym}
use Rattle.tx_events.specs.Events.{by_of}
use Rattle.history_check.specs.Replays.{Replayed}
use Rattle.place_columns.specs.Owned.{AreInTurn, own_of}
use Rattle.place_rules.specs.Readings.{IsReading, span_of}
use Rattle.place_rules.proofs.Earlier.{in_turn}
use Rattle.reply_lines.specs.declared.known.Known.{Known}
use Rattle.reply_lines.proofs.Askings.{its_list}
use Rattle.reply_lines.proofs.reading.reading_at.Goals as goal

pub reading_of-requires : goal.reading_of-requires
reading_of-requires g c =
    let same = c.requires.0 in
    let known = c.requires.1.0 in
    let own = its_list (map by_of c.args.known.now.places.events) c.args.known.now.turns.items c.args.by.session c.index.result.now c.as_slice.result.now known.turns c.requires.1.1.0 c.index.ensures c.as_slice.ensures.value in
    let turn : AreInTurn (map by_of c.args.known.now.places.events) = subst (λ (r : Replayed). AreInTurn (map by_of r.events)) c.replay.ensures (in_turn c.replay.result.now.base c.replay.result.now.events c.events-legal.ensures.legal) in
    (subst (λ (m : Known). c.as_slice.result.now ≡ own_of c.args.by.session (map by_of m.places.events)) (sym same) own, (subst (λ (m : Known). AreInTurn (map by_of m.places.events)) (sym same) turn, c.requires.1.1.1))

pub returns : goal.returns
returns g c = subst (λ (m : Known). IsReading m.places.events (span_of c.args.start c.args.to) c.args.by c.reading_of.result) c.requires.0 c.reading_of.ensures
