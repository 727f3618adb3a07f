use Rattle.std.proofs.Common.{◌<◌, List, IfNone, IfSome, ap, subst, ◌∙◌}
use Rattle.std.specs.List.{flat_map}
use Rattle.tx_events.specs.declared.event.Event.{Event}
use Rattle.tx_events.specs.declared.multi.MultiEvent.{MultiEvent}
use Rattle.tx_events.specs.declared.record.Counters.{Counters}
use Rattle.tx_events.specs.declared.record.Rec.{Rec}
use Rattle.tx_events.specs.Events.{by_of}
use Rattle.tx_model.specs.declared.report.Life.{Life}
use Rattle.tx_model.specs.declared.report.Step.{Step}
use Rattle.tx_model.specs.Rounds.{lines_in}
use Rattle.record_rules.specs.Behind.{AreBases, IsFirstNoBase}
use Rattle.record_rules.specs.Ends.{AreTransactions}
use Rattle.record_rules.specs.Firsts.{AreAnnounced}
use Rattle.record_rules.proofs.Recording.{by_places}
use Rattle.record_rules.proofs.records.judging_of.Goals as goal

pub returns : goal.returns
returns g c =
    let j = g.j in
    let same = c.requires.0 in
    let life = c.requires.1.0 in
    let x = c.in_ok-xacts.xacts in
    let a = c.in_ok-announced.announced in
    let first = c.first_no_base-broken.result in
    let events = c.items-events.ensures ∙ ap (λ (l : Life). l.events) life in
    let multis = c.items-multis.ensures ∙ ap (λ (l : Life). l.multis) life in
    let recs = c.items-2.ensures ∙ ap (λ (l : Life). l.recs) life in
    record {
      base = c.same.ensures ∙ same;
      from = ap (λ (l : Life). l.from) life;
      legal = c.requires.1.1.1.1.0;
      each = by_places (λ e. (by_of e).session < 64) j.life.events c.requires.1.1.1.1.1;
      xacts = subst (λ (t : List Event). AreTransactions t (flat_map lines_in j.steps) x) events
          (subst (λ (s : List Step). AreTransactions c.items-events.result.now (flat_map lines_in s) x) (c.items.ensures ∙ c.requires.1.1.0) (c.in_ok-xacts.ensures {u = tt}));
      announced = subst (λ (t : List Event). AreAnnounced t j.life.multis a) events
          (subst (λ (t : List MultiEvent). AreAnnounced c.items-events.result.now t a) multis (c.in_ok-announced.ensures {u = tt}));
      bases = subst (λ (t : List Rec). IfNone first (AreBases j.begun.counters t)) recs
          (subst (λ (b : Counters). IfNone first (AreBases b c.items-2.result.now)) same c.first_no_base-broken.ensures.none);
      broken = subst (λ (t : List Rec). IfSome first (λ p. IsFirstNoBase j.begun.counters t p)) recs
          (subst (λ (b : Counters). IfSome first (λ p. IsFirstNoBase b c.items-2.result.now p)) same c.first_no_base-broken.ensures.some);
    }
