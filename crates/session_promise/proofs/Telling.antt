-- The lines that a session told over rounds.
use Rattle.std.proofs.Common.{List, [], ap, refl, sym, ℕ, ◌++◌, ◌≡◌, ◌∙◌, ◌∷◌}
use Rattle.std.proofs.lemmas.List.{map-append}
use Rattle.std.proofs.lemmas.List.Elements.{filter-append}
use Rattle.tx_model.specs.declared.report.Line.{Line}
use Rattle.tx_model.specs.Lines.{is_line_of}
use Rattle.session_promise.specs.Told.{Span, Told, ToldRound, all_lines, lines_by, lines_of, told_by, told_in, told_of}

pub lines_in_round : (span : Span) (lines : List Line) → lines_of (told_in span lines) ≡ lines
lines_in_round span [] = refl
lines_in_round span (l ∷ lines) = ap (λ ls. l ∷ ls) (lines_in_round span lines)

pub lines_of_both : (told more : List Told) → lines_of (told ++ more) ≡ lines_of told ++ lines_of more
lines_of_both told more = map-append (λ (t : Told). t.line) told more

-- are the session's among all
pub lines_told : (n : ℕ) (rounds : List ToldRound) → lines_of (told_by n rounds) ≡ lines_by n (all_lines rounds)
lines_told n [] = refl
lines_told n (r ∷ rounds) =
    lines_of_both (told_of n r) (told_by n rounds)
    ∙ ((λ j. lines_in_round r.span (lines_by n r.lines) j ++ lines_told n rounds j)
    ∙ sym (filter-append (is_line_of n) r.lines (all_lines rounds)))
