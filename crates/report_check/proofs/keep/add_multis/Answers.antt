use Rattle.std.proofs.Common.{◌≡◌, ◌+◌, ◌<◌, ℕ, List, [], ◌∷◌, ◌++◌, length, take, sym, ap, ◌∙◌}
use Rattle.std.proofs.lemmas.List.{take_more}
use Rattle.tx_events.specs.declared.multi.MultiEvent.{MultiEvent}
use Rattle.report_check.proofs.Homes.{homes_more, starts_more}
use Rattle.report_check.proofs.keep.add_multis.Goals as goal

pub loop-place-preserved : goal.loop-place-preserved
loop-place-preserved c =
    let es : List MultiEvent = c.args.events.now in
    let i : ℕ = c.loop-place.place in
    let e : MultiEvent = c.index-events-place.result in
    let within : i < length es = c.loop-place-test.true in
    let one : take (i + 1) es ≡ take i es ++ e ∷ [] = take_more es i e within ∙ ap (λ (y : MultiEvent). take i es ++ y ∷ []) (sym c.index-events-place.is) in
    record {
      starts = λ recs are. starts_more recs i es e c.loop-place.starts.items c.add_multi.new.starts.items c.args.starts.now.items one (c.loop-place.invariant.starts recs are) (c.in_ok-add_multi.ensures.starts recs are);
      homes = λ recs are. homes_more recs c.args.life i es e c.loop-place.homes.items c.add_multi.new.homes.items c.args.homes.now.items within one (c.loop-place.invariant.homes recs are) (c.in_ok-add_multi.ensures.homes recs are);
    }
