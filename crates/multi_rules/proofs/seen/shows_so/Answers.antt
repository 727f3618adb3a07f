use Rattle.std.proofs.Common.{◌≡◌, ap, sym, ◌∙◌, take, Some, None}
use Rattle.std.proofs.lemmas.Bool.{false≢true}
use Rattle.tx_events.specs.Visible.{is_visible}
use Rattle.tx_model.specs.Replies.{seen_id}
use Rattle.history_check.specs.Replays.{Replayed}
use Rattle.multi_rules.proofs.seen.shows_so.Goals as goal

pub returns-in-Some : goal.returns-in-Some
returns-in-Some g c =
    let means : seen_id c.args.xmax c.args.x.number ≡ Some c.in-Some.id = sym c.seen_id.ensures ∙ c.in-Some.is in
    let shown : c.was_visible.result ≡ is_visible g.ids (take c.args.place c.args.places.now.events) c.in-Some.id = c.was_visible.ensures ∙ ap (λ (r : Replayed). is_visible g.ids (take c.args.place r.events) c.in-Some.id) c.replay.ensures in (
      λ t. (c.in-Some.id, means, c.is_alike.ensures.0 t ∙ shown),
      λ s.
          let same : s.0 ≡ c.in-Some.id = (let both : Some s.0 ≡ Some c.in-Some.id = sym s.1 ∙ means in cc) in
          c.is_alike.ensures.1 (s.2 ∙ ap (is_visible g.ids (take c.args.place c.args.places.now.events)) same ∙ sym shown),
    )

pub returns-in-None : goal.returns-in-None
returns-in-None g c =
    let means : seen_id c.args.xmax c.args.x.number ≡ None = sym c.seen_id.ensures ∙ c.in-None.is in
    (λ t. absurd (false≢true t), λ s. let both : Some s.0 ≡ None = sym s.1 ∙ means in absurd cc)
