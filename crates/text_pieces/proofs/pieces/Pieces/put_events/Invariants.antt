use Rattle.std.proofs.Common.{◌≡◌, ◌++◌, length}
use Rattle.std.specs.List.{flat_map}
use Rattle.text_pieces.proofs.Backwards.{back_text}
use Rattle.text_pieces.specs.Lines.{events_text}
use Rattle.text_pieces.proofs.pieces.Pieces.put_events.Given as goal

abbrev pub invariant-loop-rest : goal.invariant-loop-rest
invariant-loop-rest g l = record {
  self : flat_map (λ text. text) l.self-inside.front.items ++ l.self-inside.last ≡ l.fn.self;
  told : events_text l.fn.names l.rest.items ++ back_text l.behind.items ≡ events_text l.fn.names l.fn.events.items;
}

abbrev pub decreases-loop-rest : goal.decreases-loop-rest
decreases-loop-rest g l = length l.rest.items

abbrev pub invariant-loop-next : goal.invariant-loop-next
invariant-loop-next g l = l.self ++ back_text l.behind.items ≡ l.fn.self ++ events_text l.fn.names l.fn.events.items

abbrev pub decreases-loop-next : goal.decreases-loop-next
decreases-loop-next g l = length l.behind.items
