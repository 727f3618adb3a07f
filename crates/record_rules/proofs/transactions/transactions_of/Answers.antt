use Rattle.std.proofs.Common.{◌++◌, ◌∷◌, [], List, refl, ap, sym, subst, ◌∙◌, arith}
use Rattle.std.proofs.lemmas.List.{take_all}
use Rattle.std.specs.List.{flat_map}
use Rattle.tx_events.specs.declared.event.Event.{Event}
use Rattle.tx_model.specs.Rounds.{lines_in}
use Rattle.history_check.specs.Replays.{Replayed}
use Rattle.history_check.proofs.TurnLemmas.{one_further}
use Rattle.record_rules.specs.Answered.{AreAnswers}
use Rattle.record_rules.specs.Ends.{AreEnds, AreOpenXacts}
use Rattle.record_rules.proofs.Replaying.{is_taken, lawful_next}
use Rattle.record_rules.proofs.transactions.transactions_of.Goals as goal

pub loop-event-preserved : goal.loop-event-preserved
loop-event-preserved c =
    let i = c.loop-event.event-index in
    let h = c.args.events.now in
    let inv = c.loop-event.invariant in
    let e = c.event-item.result in
    let lawful = lawful_next c.args.base.now h c.loop-event.replay i e c.requires.legal inv.base inv.sofar c.loop-event-test.true c.event-item.is in
    let added = (c.in_ok-_added.ensures.added (is_taken c.in_ok-_added._added (λ f. (c.in_ok-_added.ensures.refused f).0) lawful)).1 in
    let further = one_further h c.loop-event.replay.events (c.loop-event.replay.events ++ e ∷ []) i e inv.sofar c.loop-event-test.true c.event-item.is refl in
    record {
      sofar = ap (λ (r : Replayed). r.events) added ∙ further;
      base = ap (λ (r : Replayed). r.base) added ∙ inv.base;
      sessions = ap (λ (r : Replayed). r.sessions) added ∙ inv.sessions;
      kept = subst (λ (t : List Event). AreEnds t c.note_end.new.ends) further (c.in_ok-note_end.ensures (subst (λ (t : List Event). AreEnds t c.loop-event.ends) (sym inv.sofar) inv.kept));
    }

pub returns : goal.returns
returns c =
    let whole = take_all c.loop-event.event-index c.args.events.now (omega arith) in
    let answers = subst (AreAnswers (flat_map lines_in c.args.steps.now)) (sym c.as_slice.ensures.value) c.in_ok-answers.ensures in
    record {
      ends = subst (λ (t : List Event). AreEnds t c.loop-event.ends) whole c.loop-event.invariant.kept;
      opened = subst (λ (t : List Event). AreOpenXacts t (flat_map lines_in c.args.steps.now) c.in_ok-opened.opened.items) (c.loop-event.invariant.sofar ∙ whole) (c.in_ok-opened.ensures (flat_map lines_in c.args.steps.now) answers);
    }
