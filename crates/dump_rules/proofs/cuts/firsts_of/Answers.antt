use Rattle.std.proofs.Common.{◌≡◌, ℕ, ◌+◌, ap, subst, ◌∙◌, arith, length}
use Rattle.store_pages.specs.Layouts.{subtrans_cutoff}
use Rattle.history_check.specs.Replays.{Replayed}
use Rattle.dump_rules.specs.Cutting.{HasFirsts}
use Rattle.dump_rules.proofs.cuts.firsts_of.Goals as goal

pub returns : goal.returns
returns c =
    let base = c.args.places.now.base in
    let h = c.args.places.now.events in
    let size : length c.events.result.now ≡ length h = ap length (c.events.ensures.value ∙ ap (λ (r : Replayed). r.events) c.replay.ensures) in
    let at : c.loop-place.place ≡ length c.events.result.now = omega arith in
    subst (λ (n : ℕ). HasFirsts base h (n + 1) c.note_first-2.new.firsts) size
    (c.in_ok-note_first-2.ensures base h (c.subtrans_cutoff-2.ensures ∙ (λ j. subtrans_cutoff (c.requires j).oldest (c.xmin_at-2.ensures j))) (subst (λ (n : ℕ). HasFirsts base h n c.loop-place.firsts) at c.loop-place.invariant.firsts))
