use Rattle.std.proofs.Common.{◌≡◌, ◌<◌, ◌+◌, ◌++◌, ◌∷◌, [], ap, sym, subst, ◌∙◌, arith, length, take, map, List, ℕ}
use Rattle.std.proofs.lemmas.List.{length-take-le, take_all, take_more}
use Rattle.tx_events.specs.declared.event.Event.{Event}
use Rattle.tx_events.specs.History.{IsLegal}
use Rattle.tx_events.proofs.GivenIds.{legal_take}
use Rattle.history_places.specs.IdMarks.{AreNoted, mark_of, noted}
use Rattle.history_places.proofs.NotedSteps.{noted_after, noted_ascend}
use Rattle.history_places.proofs.ids.noted_ids.Goals as goal

pub note-requires : goal.note-requires
note-requires c =
    let legal = subst (IsLegal c.args.replay.now.base) (sym c.events-events.ensures.value) c.events-events.ensures.legal in
    noted_ascend c.args.replay.now.base (take c.loop-place.place c.events-events.result.now) c.loop-place.marks.items (legal_take c.args.replay.now.base c.events-events.result.now c.loop-place.place legal) c.loop-place.invariant.noted

pub loop-place-preserved : goal.loop-place-preserved
loop-place-preserved c =
    let n = c.loop-place.place in
    let h = c.events-events.result.now in
    let base = c.args.replay.now.base in
    let whole = subst (IsLegal c.args.replay.now.base) (sym c.events-events.ensures.value) c.events-events.ensures.legal in
    let e = c.index-events-place.result in
    let low : n < length h = c.loop-place-test.true in
    let more : take (n + 1) h ≡ take n h ++ e ∷ [] = take_more h n e low ∙ ap (λ (y : Event). take n h ++ y ∷ []) (sym c.index-events-place.is) in
    let size : length (take n h) ≡ n = length-take-le n h (omega arith) in
    let legal : IsLegal base (take n h ++ e ∷ []) = subst (IsLegal base) more (legal_take base h (n + 1) whole) in
    let pushed : c.note.new.marks.items ≡ map (noted (length (take n h)) e) c.loop-place.marks.items ++ mark_of (length (take n h)) e =
    c.in_ok-note.ensures ∙ ap (λ (k : ℕ). map (noted k e) c.loop-place.marks.items ++ mark_of k e) (sym size) in
    record {
      noted = subst (λ (t : List Event). AreNoted t c.note.new.marks.items) (sym more)
          (subst (AreNoted (take n h ++ e ∷ [])) (sym pushed) (noted_after base (take n h) e c.loop-place.marks.items legal c.loop-place.invariant.noted));
    }

pub returns : goal.returns
returns c = subst (λ (h : List Event). AreNoted h c.loop-place.marks.items) (take_all c.loop-place.place c.events-events.result.now (omega arith) ∙ c.events-events.ensures.value) c.loop-place.invariant.noted
