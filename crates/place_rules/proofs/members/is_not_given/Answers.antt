use Rattle.std.proofs.Common.{ℕ, take, refl, sym, ◌∙◌, arith}
use Rattle.std.proofs.lemmas.Bool.{false≢true}
use Rattle.history_places.specs.Told.{next_in}
use Rattle.place_rules.specs.Members.{HasUngiven}
use Rattle.place_rules.proofs.SnapsRead.{up_to}
use Rattle.place_rules.proofs.SeenRules.{all_given, ungiven_here}
use Rattle.place_rules.proofs.members.is_not_given.Goals as goal

pub returns-then-is_ungiven_at : goal.returns-then-is_ungiven_at
returns-then-is_ungiven_at g c = (
  λ t. ungiven_here c.args.places.now.base c.args.places.now.events g.asked.round g.asked.by c.args.from c.args.to c.requires.0 c.args.pairs.now c.args.x.number c.args.to
      (omega arith) (omega arith) (c.is_ungiven_at.ensures.0 c.if-is_ungiven_at.true),
  λ u. refl,
)

pub returns-then-is_ungiven_at_turns : goal.returns-then-is_ungiven_at_turns
returns-then-is_ungiven_at_turns g c =
    let at = c.is_ungiven_at_turns.ensures c.if-is_ungiven_at_turns.true in (
      λ t. ungiven_here c.args.places.now.base c.args.places.now.events g.asked.round g.asked.by c.args.from c.args.to c.requires.0 c.args.pairs.now c.args.x.number at.0
          at.1 at.2 at.3,
      λ u. refl,
    )

pub returns-then-is_ungiven_at-2 : goal.returns-then-is_ungiven_at-2
returns-then-is_ungiven_at-2 g c = (
  λ t. ungiven_here c.args.places.now.base c.args.places.now.events g.asked.round g.asked.by c.args.from c.args.to c.requires.0 c.args.pairs.now c.args.x.number c.loop-place.place
      (omega arith) (omega arith) (c.is_ungiven_at-in-loop-place.ensures.0 c.if-is_ungiven_at-2.true),
  λ u. refl,
)

pub returns : goal.returns
returns g c =
    let none = up_to (λ (p : ℕ). HasUngiven (next_in c.args.places.now.base (take p c.args.places.now.events)) c.args.pairs.now c.args.x.number) c.args.from c.loop-place.place c.args.to (omega arith) c.loop-place.invariant.none in (
      λ t. absurd (false≢true t),
      λ s. absurd (all_given c.args.places.now.base c.args.places.now.events g.asked.round g.asked.by c.args.from c.args.to c.requires.0 c.args.pairs.now c.args.x.number none
          (λ q. false≢true (sym c.if-is_ungiven_at.false ∙ c.is_ungiven_at.ensures.1 q)) s),
    )
