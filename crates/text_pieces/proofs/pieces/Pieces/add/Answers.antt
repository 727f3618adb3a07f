use Rattle.std.proofs.Common.{IsOk, List, Ok, Result, [], ap, append_assoc, length, refl, rules, subst, sym, ◌++◌, ◌<◌, ◌∙◌, ◌∷◌, ◌≡◌, ℕ}
use Rattle.std.proofs.lemmas.Grind.{flat_map-append}
use Rattle.std.proofs.lemmas.List.Elements.{All-append, All-nil}
use Rattle.std.specs.List.{All, flat_map}
use Rattle.text_pieces.specs.Lines.{piece_text}
use Rattle.text_pieces.proofs.Printed.{one_more}
use Rattle.text_pieces.proofs.pieces.Pieces.add.Goals as goal

pub loop-piece-preserved : goal.loop-piece-preserved
loop-piece-preserved c =
    let at = c.loop-piece.invariant in
    let more = one_more c.loop-piece.self-inside.front.items c.args.self.now c.loop-piece.yielded c.in_ok-piece.field-0 c.in-Some.piece c.in_ok-piece.was at.front at.ok in
    record {
      ok = more.0;
      last = at.last;
      front = ap (flat_map (λ text. text)) c.in_ok-push-2.ensures.items ∙ more.1;
    }
