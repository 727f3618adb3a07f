use Rattle.std.proofs.Common.{◌≡◌, ◌<◌, ◌+◌, ◌++◌, ◌∷◌, [], ap, sym, subst, ◌∙◌, arith, length, take, get_or, set, List, ℕ}
use Rattle.std.proofs.lemmas.List.{length-take-le, take_more}
use Rattle.tx_events.specs.declared.event.By.{By}
use Rattle.place_columns.specs.Owned.{AreAllOwn}
use Rattle.place_columns.proofs.Filling.{own_after}
use Rattle.place_columns.proofs.own.own_places.Goals as goal

pub loop-place-preserved : goal.loop-place-preserved
loop-place-preserved c =
    let n = c.loop-place.place in
    let bys = c.args.bys.now in
    let within : n < length bys = c.loop-place-test.true in
    let b : By = get_or bys n (record { session = 0; command = 0 }) in
    let size : length (take n bys) ≡ n = length-take-le n bys (omega arith) in
    let more : take (n + 1) bys ≡ take n bys ++ b ∷ [] = take_more bys n (record { session = 0; command = 0 }) within in
    let pushed : c.push.new.self.items ≡ c.index_mut.result.now.items ++ record { command = b.command; place = length (take n bys) } ∷ [] =
    c.in_ok-push.ensures.items ∙ ap (λ (k : ℕ). c.index_mut.result.now.items ++ record { command = b.command; place = k } ∷ []) (sym size) in
    record {
      listed = subst (λ (t : List By). AreAllOwn t c.args.sessions (set c.loop-place.lists.items b.session c.push.new.self)) (sym more)
          (own_after (take n bys) b c.args.sessions c.loop-place.lists.items c.push.new.self c.index_mut.result.now c.loop-place.invariant.listed (c.requires n (record { session = 0; command = 0 }) within) c.index_mut.ensures.value pushed);
    }
