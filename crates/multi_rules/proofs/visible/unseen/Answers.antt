use Rattle.std.proofs.Common.{◌≡◌, ◌+◌, ◌-◌, ◌/◌, ◌<◌, ℕ, Some, true, false, length, get_or, take, ap, sym, ◌∙◌, arith}
use Rattle.std.specs.List.{slice_get}
use Rattle.std.proofs.lemmas.Option.{slice_get-get_or}
use Rattle.tx_events.specs.Visible.{is_visible}
use Rattle.history_check.specs.Replays.{Replayed}
use Rattle.multi_rules.specs.declared.taken.Taken.{Taken}
use Rattle.multi_rules.proofs.Unseen.{seen_from, unseen_upto}
use Rattle.multi_rules.proofs.visible.unseen.Goals as goal

pub loop-from-preserved-then-was_visible : goal.loop-from-preserved-then-was_visible
loop-from-preserved-then-was_visible g c =
    let n : ℕ = c.loop-from.from + (c.loop-from.end - c.loop-from.from) / 2 in
    let m : Taken = get_or c.args.taken.now n c.index-taken-middle.result in
    let h = c.args.places.now.events in
    let i = c.loop-from.invariant in
    let order = i.order in
    let within = i.within in
    let low : n < length c.args.taken.now = omega arith in
    let at : slice_get c.args.taken.now n ≡ Some m = slice_get-get_or c.args.taken.now n c.index-taken-middle.result low in
    let v : is_visible g.ids (take m.place h) c.args.id ≡ true = sym (c.was_visible.ensures ∙ ap (λ (r : Replayed). is_visible g.ids (take m.place r.events) c.args.id) c.replay.ensures) ∙ c.if-was_visible.true in
    record {
      order = omega arith;
      within = omega arith;
      front = i.front;
      behind = seen_from c.args.places.now.base g.ids h c.args.id c.args.taken.now n m c.legal.ensures.legal c.requires.1 at v;
    }

pub loop-from-preserved : goal.loop-from-preserved
loop-from-preserved g c =
    let n : ℕ = c.loop-from.from + (c.loop-from.end - c.loop-from.from) / 2 in
    let m : Taken = get_or c.args.taken.now n c.index-taken-middle.result in
    let h = c.args.places.now.events in
    let i = c.loop-from.invariant in
    let order = i.order in
    let within = i.within in
    let low : n < length c.args.taken.now = omega arith in
    let at : slice_get c.args.taken.now n ≡ Some m = slice_get-get_or c.args.taken.now n c.index-taken-middle.result low in
    let v : is_visible g.ids (take m.place h) c.args.id ≡ false = sym (c.was_visible.ensures ∙ ap (λ (r : Replayed). is_visible g.ids (take m.place r.events) c.args.id) c.replay.ensures) ∙ c.if-was_visible.false in
    record {
      order = omega arith;
      within = omega arith;
      front = unseen_upto c.args.places.now.base g.ids h c.args.id c.args.taken.now n m c.legal.ensures.legal c.requires.1 at v;
      behind = i.behind;
    }
