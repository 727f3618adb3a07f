use Rattle.std.proofs.Common.{◌∙◌, sym, ap}
use Rattle.std.specs.List.{slice_get}
use Rattle.session_lang.proofs.PlaceLemmas.{place_new, place_old}
use Rattle.session_lang.proofs.parser.reading.Reading.add.Goals as goal

pub returns-in-Some-clause-adds : goal.returns-in-Some-clause-adds
returns-in-Some-clause-adds c =
    let names = c.args.self.now.front.names in let name = c.args.name.now in let k = c.in-Some.session in
    rw (place_old names name k c.requires.so_far.distinct (ap (λ l. slice_get l k) (sym c.items.ensures) ∙ c.in-Some.ensures.found)) c.add_old.ensures.adds

pub returns-in-None-clause-adds : goal.returns-in-None-clause-adds
returns-in-None-clause-adds c =
    let names = c.args.self.now.front.names in let name = c.args.name.now in
    rw (place_new names name (λ k e. c.in-None.ensures.none k (ap (λ l. slice_get l k) c.items.ensures ∙ e))) c.add_new.ensures.adds
