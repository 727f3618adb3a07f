use Rattle.std.proofs.Common.{◌≡◌, ℕ, List, Option, Some, None, refl, set, ap, ◌∙◌}
use Rattle.std.specs.Prelude.{IfNone}
use Rattle.history_places.specs.declared.mark.IdMark.{IdMark}
use Rattle.history_places.specs.IdMarks.{IsMissing, noted}
use Rattle.history_places.proofs.Noting.{note_at, note_missing}
use Rattle.history_places.proofs.mark.note_close.Goals as goal

pub returns-in-Some : goal.returns-in-Some
returns-in-Some c =
    ap (λ (n : IdMark). set c.args.marks.now c.in-Some.at n) (c.noted.ensures ∙ ap (λ (n : IdMark). noted c.args.place c.args.event.now n) c.index-marks-at.is)
    ∙ note_at c.args.place c.args.x c.in-Some.at c.args.event.now c.args.marks.now c.index-marks-at.result c.requires.alone c.requires.order c.in-Some.ensures.some

missing : (xs : List IdMark) (x : ℕ) (o : Option ℕ) → ((i : ℕ) → o ≡ Some i → ⊥) → IfNone o (IsMissing xs x) → IsMissing xs x
missing xs x None n m = m
missing xs x (Some i) n m = absurd (n i refl)

pub returns-in_default : goal.returns-in_default
returns-in_default c = note_missing c.args.place c.args.x c.args.event.now c.args.marks.now c.requires.alone (missing _ _ c.place_near.result c.in_default.not-Some c.place_near.ensures.none)
