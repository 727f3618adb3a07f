-- What is kept while lines are taken.
use Rattle.std.proofs.Common.{◌≡◌, ℕ, ◌+◌, ◌≤◌, zero, suc, List, [], ◌∷◌, ◌++◌, Bool, true, false, Option, None, Some, refl, sym, ap, ◌∙◌, subst, arith, length, length-append, get_or, set}
use Rattle.std.proofs.lemmas.Bool.{false≢true}
use Rattle.tx_events.specs.Events.{by_of}
use Rattle.tx_model.specs.declared.report.LifeReport.{LifeReport}
use Rattle.tx_events.specs.Multis.{multi_by}
use Rattle.report_read.specs.Item.{Item}
use Rattle.report_read.specs.Item as items
use Rattle.report_read.specs.Grammar.{AreNamed, Follows, IsNamed, Rule, after, is_history, is_log, is_multis, may_stand, no_counts, session_of}
use Rattle.report_read.specs.Taking.{AreFew}
use Rattle.report_read.specs.declared.told.Stage.{Stage}
use Rattle.report_read.specs.declared.told.Stage.TheVariants as stages
use Rattle.report_read.specs.declared.told.Told.{Told}
use Rattle.report_read.proofs.Endings.{IsSound}

abbrev Names : Type 0
Names = List (List ℕ)

named_few : (before : Names) (s : ℕ) (names : Names) → IsNamed before s names → AreFew names
named_few before s names n = record { are = n.are; few = n.few }

pub are_few : (before : Names) (o : Option ℕ) (names : Names) → AreNamed before o names → AreFew before → AreFew names
are_few before None names a f = subst (λ (n : Names). AreFew n) (sym a) f
are_few before (Some s) names a f = named_few before s names a

same_few : (before names : Names) → names ≡ before → AreFew before → AreFew names
same_few before names e f = subst (λ (n : Names). AreFew n) (sym e) f

pub follow_few : (t : Told) (x : Item) (names : Names) → AreFew t.names → Rule t x names → AreFew names
follow_few t (items.life number s) names f r = same_few t.names names r.0 f
follow_few t (items.round k) names f r = same_few t.names names r.0 f
follow_few t (items.command l) names f r = named_few t.names l.by.session names r.0
follow_few t (items.step s) names f r = are_few t.names (session_of s) names r.0 f
follow_few t (items.event e) names f r = named_few t.names (by_of e).session names r.0
follow_few t (items.multi e) names f r = named_few t.names (multi_by e).session names r.0
follow_few t (items.log l) names f r = same_few t.names names r.0 f
follow_few t (items.logged k q) names f r = same_few t.names names r.0 f
follow_few t _ names f r = same_few t.names names r f

set_first : (xs : List ℕ) (s v n : ℕ) → v ≡ get_or xs s 0 + 1 → get_or xs 0 0 ≤ n → get_or (set xs s v) 0 0 ≤ n + 1
set_first [] s v n e l = omega arith
set_first (x ∷ xs) zero v n e l = omega arith
set_first (x ∷ xs) (suc s) v n e l = omega arith

one_more : (ls : List LifeReport) (l : LifeReport) (n : ℕ) → length ls ≤ n → length (ls ++ l ∷ []) ≤ n + 1
one_more ls l n k = let e = length-append ls (l ∷ []) in omega arith

counts_grow : (t : Told) (x : Item) (names : Names) (n : ℕ) → Rule t x names → get_or t.counts 0 0 ≤ n → get_or (after t x).counts 0 0 ≤ n + 1
unfolding no_counts
counts_grow t (items.command c) names n r l = set_first t.counts c.by.session c.by.command n r.2 l
counts_grow t _ names n r l = omega arith

lives_grow : (t : Told) (x : Item) (n : ℕ) → length t.lives ≤ n → length (after t x).lives ≤ n + 1
lives_grow t items.title n l = omega arith
lives_grow t (items.crash how) n l = one_more t.lives _ n l
lives_grow t items.last n l = one_more t.lives _ n l
lives_grow t _ n l = omega arith

not_silent : (s : Stage) (b : Stage → Bool) → b s ≡ true → b stages.Silent ≡ false → s ≡ stages.Silent → ⊥
not_silent s b e f g = false≢true (sym f ∙ ap b (sym g) ∙ e)

stage_differs : (a b : Stage) (f : Stage → ℕ) → a ≡ b → f a ≡ f b
stage_differs a b f e = ap f e

abbrev is_silent : Stage → ℕ
is_silent stages.Silent = 1
is_silent _ = 0

silent_after : (t : Told) (x : Item) → may_stand x t.stage ≡ true → (after t x).stage ≡ stages.Silent → ((after t x).speaker ≡ None) × ((after t x).spoken ≡ [])
silent_after t (items.round k) a e = (refl, refl)
silent_after t (items.event v) a e = absurd (not_silent t.stage is_history a refl e)
silent_after t (items.multi v) a e = absurd (not_silent t.stage is_multis a refl e)
silent_after t (items.logged k q) a e = absurd (not_silent t.stage is_log a refl e)
silent_after t _ a e = let z = ap is_silent e in absurd (omega arith)

pub follow_sound : (t : Told) (x : Item) (m : Told) (n : ℕ) → IsSound t n → Follows t x m → IsSound m (n + 1)
follow_sound t x m n i f = record {
  names = follow_few t x m.names i.names f.rule;
  counts = subst (λ (xs : List ℕ). get_or xs 0 0 ≤ n + 1) (ap (λ (q : Told). q.counts) (sym f.told)) (counts_grow t x m.names n f.rule i.counts);
  lives = subst (λ (ls : List LifeReport). length ls ≤ n + 1) (ap (λ (q : Told). q.lives) (sym f.told)) (lives_grow t x n i.lives);
  silent = λ e.
      let s = silent_after t x f.stands (ap (λ (q : Told). q.stage) (sym f.told) ∙ e) in
      (ap (λ (q : Told). q.speaker) f.told ∙ s.0, ap (λ (q : Told). q.spoken) f.told ∙ s.1);
}
