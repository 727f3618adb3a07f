use Rattle.std.proofs.Common.{◌≡◌, ap, sym, ◌∙◌, map, not, rules}
use Rattle.std.specs.List.{filter}
use Rattle.std.proofs.lemmas.Fn.{filter_same}
use Rattle.tx_events.specs.Events.{same_name}
use Rattle.tx_model.specs.Stance.{without_snap}
use Rattle.line_stances.specs.declared.snaps.Taken.{Taken}
use Rattle.line_stances.specs.Snapshots.{told_of}
use Rattle.line_stances.proofs.ToldLemmas.{told_dropped}
use Rattle.line_stances.proofs.snaps.Snaps.let_go.Goals as goal

pub returns : goal.returns
returns c =
    let kept : c.retain.new.self.items ≡ filter (λ (t : Taken). not (same_name t.name c.args.name.now)) c.self.inside.items.items =
    filter_same _ (λ (t : Taken). not (same_name t.name c.args.name.now)) _ (λ x b f' k. search rules) _ _ c.retain.ensures.filtered in
    ap (map told_of) kept ∙ sym (told_dropped c.args.name.now c.self.inside.items.items) ∙ ap (without_snap c.args.name.now) c.self.view_is
