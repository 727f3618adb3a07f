use Rattle.std.proofs.Common.{ℕ, Option, IfNone, IfSome, ap, subst, ◌∙◌, unwrap_or}
use Rattle.tx_events.specs.Ids.{low_half}
use Rattle.history_check.specs.Opened.{parent_of}
use Rattle.history_places.specs.IdMarks.{IsMark, IsMissing, IsPlaceOf}
use Rattle.dump_rules.proofs.Dumped.{not_missing}
use Rattle.dump_rules.proofs.GivenAt.{given_still, parent_still}
use Rattle.dump_rules.proofs.Marking.{at_index}
use Rattle.dump_rules.proofs.ids.parent_low.Goals as goal

pub place_of-requires : goal.place_of-requires
place_of-requires c = c.requires.marks.order

pub returns-in-Some : goal.returns-in-Some
returns-in-Some c =
    let h = c.args.places.now.events in
    let at = subst (λ (o : Option ℕ). IfSome o (IsPlaceOf c.args.ids.now c.args.x)) c.in-Some.is c.place_of.ensures.some in
    let mark = at_index (IsMark h) c.args.ids.now c.in-Some.k _ c.requires.marks.each at.0 in
    c.low_of.ensures ∙ ap low_half (ap (λ (o : Option ℕ). unwrap_or o 0) (mark.parent ∙ ap (parent_of h) (at.1 _)) ∙ parent_still c.args.places.now.base h c.args.place c.args.x c.legal.ensures.legal c.requires.given)

pub returns-in-None : goal.returns-in-None
returns-in-None c =
    let h = c.args.places.now.events in
    let missing = subst (λ (o : Option ℕ). IfNone o (IsMissing c.args.ids.now c.args.x)) c.in-None.is c.place_of.ensures.none in
    absurd (not_missing h c.args.ids.now c.args.x c.requires.marks (given_still c.args.places.now.base h c.args.place c.args.x c.legal.ensures.legal c.requires.given) missing)
