use Rattle.std.proofs.Common.{[], ◌++◌, ◌≡◌, refl, arith, ◌∙◌, sym, ap, subst, length, append-nil, length-append}
use Rattle.std.proofs.lemmas.List.Elements.{filter_map-append}
use Rattle.std.specs.List.{All}
use Rattle.session_lang.specs.Rounds.{asked_at, asked_round}
use Rattle.tx_model.specs.Asked.{round_in, rounds_in}
use Rattle.session_run.specs.Parts.{HasRun}
use Rattle.run_law.specs.Turns.{MayRun, turns_in}
use Rattle.session_run.proofs.RoundCounts.{rounds_short}
use Rattle.session_run.proofs.RoundSteps.{all_parts, asked_on, no_rounds, not_empty, parts_length, rest_shorter, round_short}
use Rattle.session_run.proofs.RoundsRun.{ran_few, ran_none}
use Rattle.session_run.proofs.rounds.run_each.Goals as goal

pub loop-rest-init : goal.loop-rest-init
loop-rest-init g c = record {
  done = [];
  split = refl;
  number = refl;
  ran = ran_none g.K.LineKeeper c.args.hall.now c.args.host.now c.args.sessions.now c.args.names.now c.args.kept.now c.requires.begins c.requires.unseen;
  cluster = refl;
  items = c.requires.items;
  room = omega (arith, c.requires.few);
  blank = c.in_ok-plan.ensures.blank;
  places = c.in_ok-plan.ensures.count;
}

pub run_next-requires-clause-room : goal.run_next-requires-clause-room
run_next-requires-clause-room g c κs within =
    let i = c.loop-rest.invariant in
    let round = c.next_round-round.result.0 in
    let a = rounds_short c.args.script c.loop-rest.rest i.done i.split in
    let b = parts_length c.loop-rest.rest round c.next_round-round.result.1 c.next_round-round.ensures in
    ran_few g.K.LineKeeper c.args.hall.now c.loop-rest.host c.loop-rest.sessions c.args.names.now i.done c.args.kept.now c.loop-rest.kept (length round) i.ran (omega (arith, a, b, i.room, c.requires.few))

pub run_next-requires-clause-items : goal.run_next-requires-clause-items
run_next-requires-clause-items g c κs within =
    let i = c.loop-rest.invariant in
    (all_parts (MayRun (length c.loop-rest.sessions)) c.loop-rest.rest c.next_round-round.result.0 c.next_round-round.result.1 c.next_round-round.ensures i.items).0

pub answer_next-requires-clause-items : goal.answer_next-requires-clause-items
answer_next-requires-clause-items g c = subst (λ n. All (MayRun n) c.loop-rest.rest) (sym c.in_ok-rounds.ensures.count) c.loop-rest.invariant.items

pub loop-rest-smaller : goal.loop-rest-smaller
loop-rest-smaller g c =
    rest_shorter c.loop-rest.rest c.next_round-round.result.0 c.next_round-round.result.1 c.next_round-round.ensures (not_empty c.loop-rest.rest c.is_empty.result c.is_empty.ensures c.loop-rest-test.true)

pub loop-rest-preserved : goal.loop-rest-preserved
loop-rest-preserved g c =
    let i = c.loop-rest.invariant in
    let e = c.in_ok-rounds.ensures in
    let answered = c.in_ok-answer_next.ensures in
    let rest = c.loop-rest.rest in
    let round = c.next_round-round.result.0 in
    let behind = c.next_round-round.result.1 in
    let f = c.next_round-round.ensures in
    let first = asked_round (turns_in round) in
    let then = asked_at rest (length round) in
    let more : rounds_in ((i.done ++ first) ++ then) ≡ rounds_in i.done ++ rounds_in first =
    filter_map-append round_in (i.done ++ first) then ∙ (ap (λ t. rounds_in (i.done ++ first) ++ t) (no_rounds rest (length round)) ∙ (append-nil (rounds_in (i.done ++ first)) ∙ filter_map-append round_in i.done first)) in
    let sum = ap length more ∙ length-append (rounds_in i.done) (rounds_in first) in
    let short = round_short round in
    let parts = parts_length rest round behind f in
    record {
      done = (i.done ++ first) ++ then;
      split = asked_on c.args.script rest round behind i.done i.split f;
      number = omega (arith, sum, i.number, e.rounds);
      ran = subst (λ k. HasRun g.K.LineKeeper c.args.hall.now c.answer_next.new.host c.run_next.new.sessions c.args.names.now ((i.done ++ first) ++ asked_at rest k) c.args.kept.now c.answer_next.new.kept) c.len-place.ensures
          (answered.ran (i.done ++ first) c.args.kept.now (e.ran i.done c.args.kept.now i.number i.ran));
      cluster = answered.cluster ∙ (e.cluster ∙ i.cluster);
      items = subst (λ n. All (MayRun n) behind) (sym e.count) (all_parts (MayRun (length c.loop-rest.sessions)) rest round behind f i.items).1;
      room = omega (arith, e.rounds, short, parts, i.room);
      blank = e.plan.0;
      places = e.plan.1;
    }
