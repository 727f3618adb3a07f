use Rattle.std.proofs.Common.{ℕ, Option, Some, None, IfNone, IfSome, Contains, ◌≡◌, ◌∙◌, inr, sym, take}
use Rattle.std.proofs.lemmas.Bool.{false≢true}
use Rattle.std.specs.Option.{SomeIff}
use Rattle.tx_events.specs.Events.{given}
use Rattle.tx_events.specs.Ids.{IsXidNumber}
use Rattle.dump_rules.proofs.GivenAt.{is_given}
use Rattle.dump_rules.proofs.ids.given_at.Goals as goal

some_is : (o : Option ℕ) (n : ℕ) (P : Type 0) → SomeIff o (IsXidNumber n) n → P → IfSome o (λ x. (x ≡ n) × P)
some_is None n P s p = tt
some_is (Some x) n P s p = (s.1, p)

none_is : (o : Option ℕ) (n : ℕ) (P : Type 0) → SomeIff o (IsXidNumber n) n → (P → IsXidNumber n) → IfNone o (P → ⊥)
none_is None n P s f = λ p. s (f p)
none_is (Some x) n P s f = tt

pub returns-then-not-is_given : goal.returns-then-not-is_given
returns-then-not-is_given c = record { some = tt; none = λ k. false≢true (sym c.if-not-is_given.true ∙ c.is_given.ensures.1 k) }

pub returns : goal.returns
returns c =
    let P = Contains (given (take c.args.place c.args.places.now.events)) c.args.number in
    let k = c.is_given.ensures.0 c.if-not-is_given.false in
    record {
      some = some_is c.new.result c.args.number P c.new.ensures k;
      none = none_is c.new.result c.args.number P c.new.ensures (λ k. inr (is_given c.args.places.now.base c.args.places.now.events c.args.place c.legal.ensures.full c.legal.ensures.legal c.args.number k).0);
    }
