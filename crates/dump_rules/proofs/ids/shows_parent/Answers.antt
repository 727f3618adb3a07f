use Rattle.std.proofs.Common.{◌≡◌, ℕ, Option, IfNone, IfSome, Contains, take, sym, subst, refl}
use Rattle.tx_events.specs.Events.{given}
use Rattle.tx_events.specs.Ids.{low_half}
use Rattle.store_pages.specs.Layouts.{word_place_of}
use Rattle.tx_events.specs.Pages.{subtrans_page}
use Rattle.report_law.specs.Dumps.{HasWord, parent_or_none}
use Rattle.dump_rules.proofs.ids.shows_parent.Goals as goal

pub shows_parent_of-requires-clause-given : goal.shows_parent_of-requires-clause-given
shows_parent_of-requires-clause-given c =
    let h = take c.args.place c.args.places.now.events in
    let is = subst (λ (o : Option ℕ). IfSome o (λ x. (x ≡ c.args.number) × Contains (given h) c.args.number)) c.in-Some.is c.given_at.ensures.some in
    subst (Contains (given h)) (sym is.0) is.1

pub returns-in-Some : goal.returns-in-Some
returns-in-Some c =
    let h = take c.args.place c.args.places.now.events in
    let is = subst (λ (o : Option ℕ). IfSome o (λ x. (x ≡ c.args.number) × Contains (given h) c.args.number)) c.in-Some.is c.given_at.ensures.some in (
      λ t k. subst (λ (n : ℕ). subtrans_page (low_half n) ≡ c.args.page → HasWord c.args.at c.args.bytes.now (word_place_of n) (low_half (parent_or_none h n))) is.0 (c.shows_parent_of.ensures.0 t),
      λ s. c.shows_parent_of.ensures.1 (subst (λ (n : ℕ). subtrans_page (low_half n) ≡ c.args.page → HasWord c.args.at c.args.bytes.now (word_place_of n) (low_half (parent_or_none h n))) (sym is.0) (s is.1)),
    )

pub returns-in-None : goal.returns-in-None
returns-in-None c =
    let h = take c.args.place c.args.places.now.events in
    let none = subst (λ (o : Option ℕ). IfNone o (Contains (given h) c.args.number → ⊥)) c.in-None.is c.given_at.ensures.none in
    (λ t k p. absurd (none k), λ s. refl)
