use Rattle.std.proofs.Common.{◌≡◌, ℕ, List, Option, None, take, ap, ◌∙◌}
use Rattle.std.specs.Prelude.{is_some}
use Rattle.tx_model.specs.CommandEvents.{level_events}
use Rattle.tx_model.specs.Stance.{Stance, lacking, top_level}
use Rattle.command_events.specs.Told.{all_given, most_given}
use Rattle.command_events.proofs.Refusing.{refused_told}
use Rattle.command_events.proofs.told.told_refused.Goals as goal

pub returns : goal.returns
returns c =
    let stands : c.standing.inside.levels ≡ c.args.standing.now.levels = ap (λ (s : Stance). s.levels) c.standing.view_is in
    let most : c.most_given-most.result ≡ most_given c.args.refusal.now (lacking c.args.standing.now.levels) =
    c.most_given-most.ensures ∙ ap (most_given c.args.refusal.now) (c.lacking.ensures ∙ ap lacking stands) in
    let below : c.is_some-below.result ≡ is_some (top_level c.args.standing.now.levels) = c.is_some-below.ensures ∙ ap (λ (o : Option ℕ). is_some o) (c.top.ensures ∙ ap top_level stands) in
    let ids : c.in_ok-ids.ids.items ≡ take (most_given c.args.refusal.now (lacking c.args.standing.now.levels)) (all_given (is_some (top_level c.args.standing.now.levels)) c.args.own.now) =
    c.in_ok-ids.ensures ∙ ap (λ n. take n (all_given c.is_some-below.result c.args.own.now)) most
    ∙ ap (λ b. take (most_given c.args.refusal.now (lacking c.args.standing.now.levels)) (all_given b c.args.own.now)) below in
    let events : c.in_ok-events.events.items ≡ level_events c.args.by None c.args.standing.now.levels c.in_ok-ids.ids.items =
    c.in_ok-events.ensures ∙ ap (λ (l : List (Option ℕ)). level_events c.args.by None l c.as_slice.result.now) stands
    ∙ ap (level_events c.args.by None c.args.standing.now.levels) c.as_slice.ensures.value in
    refused_told c.args.by c.args.standing.now c.args.refusal.now c.args.own.now c.in_ok-ids.ids.items c.in_ok-events.events.items ids events
