use Rattle.std.proofs.Common.{◌∙◌, Some, ap, sym}
use Rattle.std.proofs.lemmas.Option.{slice_get-get_or}
use Rattle.std.specs.Cmp.Lexicographic.{same_text}
use Rattle.session_lang.proofs.parser.reading.is_at.Goals as goal

pub returns-in-Some : goal.returns-in-Some
returns-in-Some c = λ h.
    let found = c.in-Some.ensures.lookup in
    slice_get-get_or c.args.names.now c.args.place c.in-Some.other.now found.3.0
    ∙ ap Some (sym found.1 ∙ sym c.items.ensures ∙ same_text c.items.result.now c.args.name.now (sym h ∙ c.eq.ensures))
