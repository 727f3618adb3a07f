use Rattle.std.proofs.Common.{IsTrue}
use Rattle.std.proofs.lemmas.Bool.{false≢true}
use Rattle.multi_rules.proofs.Answering.{home_stands, never_recorded, recorded_iff}
use Rattle.multi_rules.proofs.verdicts.tells_recorded.Goals as goal

pub tells_at_home-requires : goal.tells_at_home-requires
tells_at_home-requires g c =
    let home = c.index-homes-at.result in
    let stands = home_stands c.args.places.now.base c.args.places.now.events g.of c.args.told.now c.args.homes.now c.args.multi c.in-Some.at home c.in-Some.ensures.some c.index-homes-at.is in
    let it = c.requires.1.0.told home stands.0 in
    (c.requires.0, (c.requires.1.1.0, (c.requires.1.1.1, (it.0, it.1))))

pub returns-in-Some : goal.returns-in-Some
returns-in-Some g c =
    recorded_iff c.args.places.now.base c.args.places.now.events g.of c.args.told.now c.args.lives.now c.args.homes.now c.args.multi c.in-Some.at c.index-homes-at.result (IsTrue c.tells_at_home.result) c.requires.1.0 c.in-Some.ensures.some c.index-homes-at.is c.tells_at_home.ensures

pub returns-in-None : goal.returns-in-None
returns-in-None g c = (
  λ f. absurd (false≢true f),
  λ s. absurd (never_recorded c.args.places.now.base c.args.places.now.events g.of c.args.told.now c.args.lives.now c.args.homes.now c.args.multi c.requires.1.0 c.in-None.ensures.none s),
)
