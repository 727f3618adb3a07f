use Rattle.std.proofs.Common.{◌≡◌, ap, sym, ◌∙◌, Some, None}
use Rattle.std.proofs.lemmas.Bool.{false≢true}
use Rattle.tx_events.specs.Events.{given_by}
use Rattle.history_check.specs.Replays.{Replayed}
use Rattle.place_rules.proofs.Looking.{given_here, given_only, read_at}
use Rattle.place_rules.proofs.asked.warns.Goals as goal

pub returns-in-Some : goal.returns-in-Some
returns-in-Some g c =
    let h = c.args.places.now.events in
    let stands = read_at h c.events.result.now g.by c.args.place c.index-events-place.result (c.events.ensures.value ∙ ap (λ (r : Replayed). r.events) c.replay.ensures) c.requires c.index-events-place.is in
    let gives : given_by c.index-events-place.result ≡ Some c.in-Some.id = sym c.given_by.ensures ∙ c.in-Some.is in (
      λ t. record { id = c.in-Some.id; given = given_here h g.by c.args.place c.index-events-place.result c.in-Some.id c.requires stands gives; late = c.is_late.ensures.0 t },
      λ w.
          let other : given_by c.index-events-place.result ≡ Some w.id = given_only h g.by c.args.place c.index-events-place.result w.id stands w.given in
          let same : w.id ≡ c.in-Some.id = (let both : Some w.id ≡ Some c.in-Some.id = sym other ∙ gives in cc) in
          c.is_late.ensures.1 (rw (sym same) w.late),
    )

pub returns-in-None : goal.returns-in-None
returns-in-None g c =
    let h = c.args.places.now.events in
    let stands = read_at h c.events.result.now g.by c.args.place c.index-events-place.result (c.events.ensures.value ∙ ap (λ (r : Replayed). r.events) c.replay.ensures) c.requires c.index-events-place.is in
    let gives : given_by c.index-events-place.result ≡ None = sym c.given_by.ensures ∙ c.in-None.is in (
      λ t. absurd (false≢true t),
      λ w.
          let other : given_by c.index-events-place.result ≡ Some w.id = given_only h g.by c.args.place c.index-events-place.result w.id stands w.given in
          let both : Some w.id ≡ None = sym other ∙ gives in
          absurd cc,
    )
