use Rattle.std.proofs.Common.{sym, ap, ◌∙◌, refl, length}
use Rattle.std.specs.Str.{bytes_eq}
use Rattle.std.proofs.lemmas.Option.{slice_get_read}
use Rattle.report_words.proofs.Places.{place_near}
use Rattle.report_words.proofs.names.name_place_near.Goals as goal

pub returns-then-are_same-clause-place : goal.returns-then-are_same-clause-place
returns-then-are_same-clause-place c =
    let at = slice_get_read c.args.names.now (length c.args.names.now) c.args.near c.in-Some.other.now refl c.in-Some.ensures.lookup.3.0 c.in-Some.ensures.lookup.1 in
    place_near c.args.names.now c.args.name.now c.in-Some.other.now c.args.near c.requires.distinct at (ap (λ w. bytes_eq w c.args.name.now) (sym c.items.ensures) ∙ sym c.are_same.ensures ∙ c.if-are_same.true)
