use Rattle.std.proofs.Common.{◌≡◌, ◌<◌, ◌≤◌, ◌^◌, length, None, Some, refl, ap, sym, ◌∙◌, arith, ⊎_elim}
use Rattle.std.specs.List.{slice_get}
use Rattle.std.specs.Option.{option_copied}
use Rattle.std.proofs.lemmas.Bool.{cases_lt, false≢true}
use Rattle.std.proofs.lemmas.Bool.Decides.{nat_tests}
use Rattle.std.proofs.lemmas.Option.{slice_get-get_or}
use Rattle.tx_model.specs.Replies.{taken_by}
use Rattle.multi_rules.specs.declared.taken.Taken.{Taken}
use Rattle.multi_rules.proofs.XmaxBounds.{are_full}
use Rattle.multi_rules.proofs.Rising.{never_fall}
use Rattle.multi_rules.proofs.Showing.{first_is_older, is_too_old_by, none_too_old, nothing_at}
use Rattle.multi_rules.proofs.seen.is_too_old_for.Goals as goal

pub is_older_to-requires-clause-from : goal.is_older_to-requires-clause-from
is_older_to-requires-clause-from g c =
    let at : slice_get c.args.taken.now 0 ≡ Some c.in-Some.first.now = sym c.first.ensures.value ∙ ap option_copied c.in-Some.is in
    (are_full c.args.places.now.base c.args.places.now.events (taken_by g.asked.by g.asked.number) c.args.taken.now c.legal.ensures.base c.legal.ensures.legal c.requires.0 0 c.in-Some.first.now at).0

pub is_older_to-requires-clause-to : goal.is_older_to-requires-clause-to
is_older_to-requires-clause-to g c =
    let at : slice_get c.args.taken.now 0 ≡ Some c.in-Some.first.now = sym c.first.ensures.value ∙ ap option_copied c.in-Some.is in
    (are_full c.args.places.now.base c.args.places.now.events (taken_by g.asked.by g.asked.number) c.args.taken.now c.legal.ensures.base c.legal.ensures.legal c.requires.0 0 c.in-Some.first.now at).1

pub returns-in-Some : goal.returns-in-Some
returns-in-Some g c =
    let at : slice_get c.args.taken.now 0 ≡ Some c.in-Some.first.now = sym c.first.ensures.value ∙ ap option_copied c.in-Some.is in
    let past = c.if-x-lt3.false in
    let rises = never_fall c.args.places.now.base c.args.places.now.events (taken_by g.asked.by g.asked.number) c.args.taken.now c.legal.ensures.legal c.requires.0 in (
      λ t. is_too_old_by c.args.places.now.base c.args.places.now.events c.args.taken.now c.args.x.number c.args.oldest g.asked.round g.asked.by g.asked.number c.in-Some.first.now (grind (arith, nat_tests)) (c.requires.1.0 c.if-not-carried.false) c.requires.0 at (c.is_older_to.ensures.0 t),
      λ s. c.is_older_to.ensures.1 (first_is_older c.args.places.now.base c.args.places.now.events c.args.taken.now c.args.x.number c.args.oldest g.asked.round g.asked.by g.asked.number c.in-Some.first.now (omega arith) rises c.requires.0 at s),
    )

pub returns-in-None : goal.returns-in-None
returns-in-None g c =
    let none : slice_get c.args.taken.now 0 ≡ None = sym c.first.ensures.value ∙ ap option_copied c.in-None.is in (
      λ t. absurd (false≢true t),
      λ s. absurd (none_too_old c.args.places.now.base c.args.places.now.events c.args.taken.now c.args.x.number c.args.oldest g.asked.round g.asked.by g.asked.number c.requires.0 (nothing_at c.args.taken.now none) s),
    )
