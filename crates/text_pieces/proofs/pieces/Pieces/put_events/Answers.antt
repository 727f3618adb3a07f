use Rattle.std.proofs.Common.{List, ap, drop, length, take, ℕ, ◌++◌, ◌-◌, ◌∙◌}
use Rattle.tx_events.specs.declared.event.Event.{Event}
use Rattle.text_pieces.proofs.Backwards.{back_text, first_printed, given_away, last_events, next_taken, printed_alone}
use Rattle.text_pieces.specs.Lines.{events_text}
use Rattle.text_pieces.proofs.pieces.Pieces.put_events.Goals as goal

pub loop-rest-preserved : goal.loop-rest-preserved
loop-rest-preserved g c =
    let names = c.args.names.now in
    let rest = c.loop-rest.rest.items in
    let from = c.len-from.result - 65536 in
    let tail = take (length c.deref.result.now - from) (drop from c.deref.result.now) in
    let printed = printed_alone names tail c.new-last.result c.put_list.new.self c.new-last.ensures c.in_ok-put_list.ensures
    ∙ ap (λ (es : List Event). events_text names es) (last_events rest c.deref.result.now from c.deref.ensures.value) in
    record {
      self = c.loop-rest.invariant.self;
      told = given_away names rest c.shrink_to_fit.new.self.items from c.put_list.new.self (events_text names c.args.events.items) c.loop-rest.behind.items c.push.new.self.items
          (c.shrink_to_fit.ensures.items ∙ c.truncate.ensures.items) printed c.in_ok-push.ensures.items c.loop-rest.invariant.told;
    }

pub loop-next-init : goal.loop-next-init
loop-next-init g c =
    let names = c.args.names.now in
    let behind = c.loop-rest.behind.items in
    first_printed names c.deref-2.result.now c.args.self.now c.put_list-2.new.self (events_text names c.args.events.items) behind c.in_ok-put_list-2.ensures
    (ap (λ (es : List Event). events_text names es ++ back_text behind) c.deref-2.ensures.value ∙ c.loop-rest.invariant.told)

pub loop-next-preserved : goal.loop-next-preserved
loop-next-preserved g c =
    next_taken c.loop-next.self c.take.new.self c.in-Some.next (c.args.self.now ++ events_text c.args.names.now c.args.events.items) c.loop-next.behind.items c.pop.new.self.items c.in-Some.ensures.items c.in_ok-take.ensures c.loop-next.invariant
