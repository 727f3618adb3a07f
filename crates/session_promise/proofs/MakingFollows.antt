-- What is unfinished of a session's multixacts, by its lines.
use Rattle.std.proofs.Common.{◌≡◌, ◌+◌, ◌<◌, ◌≤◌, ℕ, Bool, true, false, cond, List, [], ◌∷◌, ◌++◌, ap, nat_lt, refl, sym, ◌∙◌, ⊎_elim, arith, length}
use Rattle.std.proofs.lemmas.Bool.Decides.{nat_tests}
use Rattle.std.proofs.lemmas.List.Elements.{filter-append}
use Rattle.std.specs.List.{AllByRecursion, filter}
use Rattle.tx_events.specs.declared.multi.MultiEvent.{MultiEvent}
use Rattle.tx_events.proofs.ListSteps.{all_filter, eqb-refl, le_or_over}
use Rattle.tx_model.specs.declared.report.Line.{Line}
use Rattle.tx_model.specs.Lines.{is_line_of}
use Rattle.life_law.specs.MultiPlaces.{multis_of}
use Rattle.life_law.specs.MultiStanding as making
use Rattle.life_law.specs.MultiStanding.{Unfinished, unfinished, unfinished_behind, unfinished_from}

abbrev pub gave : List MultiEvent → Line → Bool
gave h l = nat_lt 0 (length (multis_of l.by h))

-- it goes by the lines' own events
from_same : (h more : List MultiEvent) (lines : List Line) (u : Unfinished) → AllByRecursion (λ l. multis_of l.by more ≡ multis_of l.by h) lines → unfinished_from more u lines ≡ unfinished_from h u lines
from_same h more [] u a = refl
from_same h more (l ∷ lines) u a =
    ap (λ (es : List MultiEvent). unfinished_from more (unfinished_behind u (nat_lt 0 (length es)) l.command l.reply) lines) a.0
    ∙ from_same h more lines (unfinished_behind u (gave h l) l.command l.reply) a.1

pub unfinished_same : (h more : List MultiEvent) (lines : List Line) (n : ℕ) → AllByRecursion (λ l. multis_of l.by more ≡ multis_of l.by h) lines → unfinished more lines n ≡ unfinished h lines n
unfinished_same h more lines n a = from_same h more (filter (is_line_of n) lines) making.none (all_filter (λ (l : Line). multis_of l.by more ≡ multis_of l.by h) (is_line_of n) lines a)

from_push : (h : List MultiEvent) (lines : List Line) (l : Line) (u : Unfinished) → unfinished_from h u (lines ++ l ∷ []) ≡ unfinished_behind (unfinished_from h u lines) (gave h l) l.command l.reply
from_push h [] l u = refl
from_push h (k ∷ lines) l u = from_push h lines l (unfinished_behind u (gave h k) k.command k.reply)

-- behind a session's next line
pub unfinished_push : (h : List MultiEvent) (lines : List Line) (l : Line) → unfinished h (lines ++ l ∷ []) l.by.session ≡ unfinished_behind (unfinished h lines l.by.session) (gave h l) l.command l.reply
unfinished_push h lines l =
    ap (unfinished_from h making.none) (filter-append (is_line_of l.by.session) lines (l ∷ []) ∙ ap (λ b. filter (is_line_of l.by.session) lines ++ cond b (l ∷ []) []) (eqb-refl l.by.session))
    ∙ from_push h (filter (is_line_of l.by.session) lines) l making.none

-- more were given where there are some
pub more_given : (n m : ℕ) → nat_lt n (n + m) ≡ nat_lt 0 m
more_given n m = ⊎_elim (λ (none : m ≤ 0). at_end n m none ∙ sym (none_less m none)) (λ (some : 0 < m). within n m some ∙ sym (some_less m some)) (le_or_over m 0)
  where
    at_end : (n m : ℕ) → m ≤ 0 → nat_lt n (n + m) ≡ false
    at_end n m l = grind (arith, nat_tests)

    within : (n m : ℕ) → 0 < m → nat_lt n (n + m) ≡ true
    within n m l = grind (arith, nat_tests)

    none_less : (m : ℕ) → m ≤ 0 → nat_lt 0 m ≡ false
    none_less m l = grind (arith, nat_tests)

    some_less : (m : ℕ) → 0 < m → nat_lt 0 m ≡ true
    some_less m l = grind (arith, nat_tests)
