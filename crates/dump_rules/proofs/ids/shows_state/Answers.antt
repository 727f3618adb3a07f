use Rattle.std.proofs.Common.{◌≡◌, ℕ, Option, IfNone, IfSome, Contains, take, sym, subst, refl}
use Rattle.tx_events.specs.Events.{given}
use Rattle.tx_events.specs.Ids.{low_half}
use Rattle.tx_events.specs.Pages.{xact_page}
use Rattle.report_law.specs.Dumps.{HasBits, state_number}
use Rattle.dump_rules.proofs.ids.shows_state.Goals as goal

pub returns-in-Some : goal.returns-in-Some
returns-in-Some c =
    let h = take c.args.place c.args.places.now.events in
    let is = subst (λ (o : Option ℕ). IfSome o (λ x. (x ≡ c.args.number) × Contains (given h) c.args.number)) c.in-Some.is c.given_at.ensures.some in (
      λ t k. subst (λ (n : ℕ). xact_page (low_half n) ≡ c.args.page → HasBits c.args.at c.args.bytes.now (low_half n) (state_number h n)) is.0 (c.shows_state_of.ensures.0 t),
      λ s. c.shows_state_of.ensures.1 (subst (λ (n : ℕ). xact_page (low_half n) ≡ c.args.page → HasBits c.args.at c.args.bytes.now (low_half n) (state_number h n)) (sym is.0) (s is.1)),
    )

pub returns-in-None : goal.returns-in-None
returns-in-None c =
    let h = take c.args.place c.args.places.now.events in
    let none = subst (λ (o : Option ℕ). IfNone o (Contains (given h) c.args.number → ⊥)) c.in-None.is c.given_at.ensures.none in
    (λ t k p. absurd (none k), λ s. refl)
