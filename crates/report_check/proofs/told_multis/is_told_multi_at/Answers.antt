use Rattle.std.proofs.Common.{◌≡◌, ◌<◌, ◌≤◌, List, None, ⊎_elim, length, get_or, refl, sym, ap, arith, ◌∙◌}
use Rattle.std.specs.List.{slice_get}
use Rattle.std.proofs.lemmas.Bool.{cases_lt}
use Rattle.std.proofs.lemmas.Option.{slice_get-get_or}
use Rattle.place_columns.specs.declared.lines.LineAt.{LineAt}
use Rattle.place_columns.specs.Lined.{Numbered, lines_from}
use Rattle.event_rules.proofs.Standing.{has_number}
use Rattle.tx_events.specs.Multis.{multi_by}
use Rattle.report_check.proofs.ToldAt.{number_is}
use Rattle.report_check.proofs.told_multis.is_told_multi_at.Goals as goal

pub is_told_in-requires : goal.is_told_in-requires
is_told_in-requires g c =
    let known = c.requires.1.0 in
    let n = c.number_at-number.result in
    let number = sym (c.number_at-number.ensures.number ∙ ap (λ (x : Numbered). get_or x.numbers c.args.place 0) known.multis) in
    let at = ap (λ (t : List LineAt). slice_get t n) (sym known.table) ∙ sym c.line.ensures ∙ c.in-Some.is in
    (c.requires.0, (known, (c.requires.1.1, (number, (c.in-Some.at, at, refl)))))

pub returns-in-None : goal.returns-in-None
returns-in-None g c = λ e at s.
    let known = c.requires.1.0 in
    let lines = lines_from 0 g.j.steps in
    let n = c.number_at-number.result in
    let none : slice_get lines n ≡ None = ap (λ (t : List LineAt). slice_get t n) (sym known.table) ∙ sym c.line.ensures ∙ c.in-None.is in
    let past : length lines ≤ n = ⊎_elim
    (λ (u : n < length lines). let some = slice_get-get_or lines n (record { by = multi_by e; step = 0 }) u in absurd cc)
    (λ (u : length lines ≤ n). u)
    (cases_lt n (length lines)) in
    let number = sym (c.number_at-number.ensures.number ∙ ap (λ (x : Numbered). get_or x.numbers c.args.place 0) known.multis) in
    let its = number_is g.j known.order c.args.place n e number at in
    let l = has_number g.j (multi_by e) s in
    absurd (omega arith)
