use Rattle.std.proofs.Common.{◌∙◌, ◌<◌, Some, below_more, sym, ap, arith, length}
use Rattle.std.specs.Cmp.Lexicographic.{same_text, other_text}
use Rattle.std.proofs.lemmas.Option.{slice_get-get_or, slice_get_within, get_or_from_slice_get}
use Rattle.session_lang.proofs.parser.reading.find.Goals as goal

pub returns-then-eq-clause-found : goal.returns-then-eq-clause-found
returns-then-eq-clause-found c =
    let names = c.args.names.now in let r = c.index-names-i.result in
    let l : c.loop-i.i < length names = omega arith in
    slice_get-get_or names c.loop-i.i r l ∙ ap Some (sym c.index-names-i.is ∙ sym c.items.ensures ∙ same_text c.items.result.now c.args.name.now c.if-eq.ensures)

pub loop-i-preserved : goal.loop-i-preserved
loop-i-preserved c =
    let names = c.args.names.now in let r = c.index-names-i.result in
    below_more _ _ c.loop-i.invariant (λ e. other_text c.items.result.now c.args.name.now c.if-eq.ensures (c.items.ensures ∙ c.index-names-i.is ∙ get_or_from_slice_get names c.loop-i.i c.args.name.now r e))

pub returns-clause-none : goal.returns-clause-none
returns-clause-none c = λ k e. let w = slice_get_within _ k _ e in c.loop-i.invariant k (omega arith) e
