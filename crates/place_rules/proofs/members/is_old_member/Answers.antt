use Rattle.std.proofs.Common.{ℕ, take, refl, sym, ◌∙◌, arith}
use Rattle.std.proofs.lemmas.Bool.{false≢true}
use Rattle.history_places.specs.Told.{next_in}
use Rattle.place_rules.specs.Members.{HasOld}
use Rattle.place_rules.proofs.SnapsRead.{up_to}
use Rattle.place_rules.proofs.SeenRules.{none_too_old, old_member_here}
use Rattle.place_rules.proofs.members.is_old_member.Goals as goal

pub returns-then-has_old_at : goal.returns-then-has_old_at
returns-then-has_old_at g c = (
  λ t. old_member_here c.args.places.now.base c.args.places.now.events g.asked.round g.asked.by c.args.from c.args.to c.requires.0 c.args.pairs.now c.args.oldest c.args.to
      (c.requires.1.1.0 c.if-not-carried.false) (omega arith) (omega arith) (c.has_old_at.ensures.0 c.if-has_old_at.true),
  λ u. refl,
)

pub returns-then-has_old_at_turns : goal.returns-then-has_old_at_turns
returns-then-has_old_at_turns g c =
    let at = c.has_old_at_turns.ensures c.if-has_old_at_turns.true in (
      λ t. old_member_here c.args.places.now.base c.args.places.now.events g.asked.round g.asked.by c.args.from c.args.to c.requires.0 c.args.pairs.now c.args.oldest at.0
          (c.requires.1.1.0 c.if-not-carried.false) at.1 at.2 at.3,
      λ u. refl,
    )

pub returns-then-has_old_at-2 : goal.returns-then-has_old_at-2
returns-then-has_old_at-2 g c = (
  λ t. old_member_here c.args.places.now.base c.args.places.now.events g.asked.round g.asked.by c.args.from c.args.to c.requires.0 c.args.pairs.now c.args.oldest c.loop-place.place
      (c.requires.1.1.0 c.if-not-carried.false) (omega arith) (omega arith) (c.has_old_at-in-loop-place.ensures.0 c.if-has_old_at-2.true),
  λ u. refl,
)

pub returns : goal.returns
returns g c =
    let none = up_to (λ (p : ℕ). HasOld (next_in c.args.places.now.base (take p c.args.places.now.events)) c.args.pairs.now c.args.oldest) c.args.from c.loop-place.place c.args.to (omega arith) c.loop-place.invariant.none in (
      λ t. absurd (false≢true t),
      λ s. absurd (none_too_old c.args.places.now.base c.args.places.now.events g.asked.round g.asked.by c.args.from c.args.to c.requires.0 c.args.pairs.now c.args.oldest none
          (λ q. false≢true (sym c.if-has_old_at.false ∙ c.has_old_at.ensures.1 q)) s),
    )
