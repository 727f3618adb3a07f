use Rattle.std.proofs.Common.{◌≡◌, ◌-◌, ◌<◌, ◌≤◌, ℕ, Some, length, refl, ap, sym, ◌∙◌, arith}
use Rattle.std.specs.List.{slice_get}
use Rattle.std.proofs.lemmas.Bool.{false≢true}
use Rattle.std.proofs.lemmas.Option.{slice_get-get_or}
use Rattle.tx_model.specs.Replies.{taken_by}
use Rattle.multi_rules.specs.declared.taken.Taken.{Taken}
use Rattle.multi_rules.proofs.XmaxBounds.{are_full}
use Rattle.multi_rules.proofs.Rising.{in_history, never_fall}
use Rattle.multi_rules.proofs.Showing.{is_seen_by, none_on, none_seen}
use Rattle.multi_rules.proofs.seen.is_seen.Goals as goal

pub same_until-end-requires-clause-order : goal.same_until-end-requires-clause-order
same_until-end-requires-clause-order g c = never_fall c.args.places.now.base c.args.places.now.events (taken_by g.seeing.by g.seeing.number) c.args.taken.now c.legal.ensures.legal c.requires.1

pub same_until-end-requires-clause-full : goal.same_until-end-requires-clause-full
same_until-end-requires-clause-full g c = are_full c.args.places.now.base c.args.places.now.events (taken_by g.seeing.by g.seeing.number) c.args.taken.now c.legal.ensures.base c.legal.ensures.legal c.requires.1

pub shows_so-requires : goal.shows_so-requires
shows_so-requires g c =
    let low = c.loop-from-test.true in
    let at : slice_get c.args.taken.now c.loop-from.from ≡ Some c.index-taken-from.result = slice_get-get_or c.args.taken.now c.loop-from.from c.index-taken-from.result low ∙ ap Some (sym c.index-taken-from.is) in
    (c.requires.0, ((in_history c.args.places.now.base.next c.args.places.now.events (taken_by g.seeing.by g.seeing.number) c.args.taken.now c.requires.1).within c.loop-from.from c.index-taken-from.result at, are_full c.args.places.now.base c.args.places.now.events (taken_by g.seeing.by g.seeing.number) c.args.taken.now c.legal.ensures.base c.legal.ensures.legal c.requires.1 c.loop-from.from c.index-taken-from.result at))

pub returns-then-shows_so : goal.returns-then-shows_so
returns-then-shows_so g c =
    let low = c.loop-from-test.true in
    let at : slice_get c.args.taken.now c.loop-from.from ≡ Some c.index-taken-from.result = slice_get-get_or c.args.taken.now c.loop-from.from c.index-taken-from.result low ∙ ap Some (sym c.index-taken-from.is) in
    (λ t. is_seen_by c.args.places.now.base g.seeing.ids c.args.places.now.events c.args.taken.now c.args.x.number c.args.visible g.seeing.by g.seeing.number c.loop-from.from c.index-taken-from.result c.requires.1 at (c.shows_so.ensures.0 c.if-shows_so.true), λ s. refl)

pub shows_so-requires-in-loop-from : goal.shows_so-requires-in-loop-from
shows_so-requires-in-loop-from g c =
    let n : ℕ = c.same_until-end.result - 1 in
    let forward = c.same_until-end.ensures.forward in
    let within = c.same_until-end.ensures.within in
    let at : slice_get c.args.taken.now n ≡ Some c.index-taken-end.result = slice_get-get_or c.args.taken.now n c.index-taken-end.result (omega arith) ∙ ap Some (sym c.index-taken-end.is) in
    (c.requires.0, ((in_history c.args.places.now.base.next c.args.places.now.events (taken_by g.seeing.by g.seeing.number) c.args.taken.now c.requires.1).within n c.index-taken-end.result at, are_full c.args.places.now.base c.args.places.now.events (taken_by g.seeing.by g.seeing.number) c.args.taken.now c.legal.ensures.base c.legal.ensures.legal c.requires.1 n c.index-taken-end.result at))

pub returns-then-shows_so-2 : goal.returns-then-shows_so-2
returns-then-shows_so-2 g c =
    let n : ℕ = c.same_until-end.result - 1 in
    let forward = c.same_until-end.ensures.forward in
    let within = c.same_until-end.ensures.within in
    let at : slice_get c.args.taken.now n ≡ Some c.index-taken-end.result = slice_get-get_or c.args.taken.now n c.index-taken-end.result (omega arith) ∙ ap Some (sym c.index-taken-end.is) in
    (λ t. is_seen_by c.args.places.now.base g.seeing.ids c.args.places.now.events c.args.taken.now c.args.x.number c.args.visible g.seeing.by g.seeing.number n c.index-taken-end.result c.requires.1 at (c.shows_so-in-loop-from.ensures.0 c.if-shows_so-2.true), λ s. refl)

pub loop-from-preserved : goal.loop-from-preserved
loop-from-preserved g c =
    let n : ℕ = c.same_until-end.result - 1 in
    let low = c.loop-from-test.true in
    let forward = c.same_until-end.ensures.forward in
    let within = c.same_until-end.ensures.within in
    let first : slice_get c.args.taken.now c.loop-from.from ≡ Some c.index-taken-from.result = slice_get-get_or c.args.taken.now c.loop-from.from c.index-taken-from.result low ∙ ap Some (sym c.index-taken-from.is) in
    let last : slice_get c.args.taken.now n ≡ Some c.index-taken-end.result = slice_get-get_or c.args.taken.now n c.index-taken-end.result (omega arith) ∙ ap Some (sym c.index-taken-end.is) in
    record {
      within = within;
      none = none_on c.args.places.now.base g.seeing.ids c.args.places.now.events c.args.taken.now c.args.x.number c.args.visible (taken_by g.seeing.by g.seeing.number) c.loop-from.from c.same_until-end.result c.index-taken-from.result c.index-taken-end.result
          c.legal.ensures.legal c.requires.1 c.same_until-end.ensures.same first last c.loop-from.invariant.none
          (λ s. false≢true (sym c.if-shows_so.false ∙ c.shows_so.ensures.1 s))
          (λ s. false≢true (sym c.if-shows_so-2.false ∙ c.shows_so-in-loop-from.ensures.1 s));
    }

pub returns : goal.returns
returns g c =
    let past = c.loop-from-test.false in (
      λ t. absurd (false≢true t),
      λ s. absurd (none_seen c.args.places.now.base g.seeing.ids c.args.places.now.events c.args.taken.now c.args.x.number c.args.visible g.seeing.by g.seeing.number c.loop-from.from c.requires.1 (omega arith) c.loop-from.invariant.none s),
    )
