-- Which sessions are in the midst of something.
use Rattle.std.specs.Prelude.{◌≡◌, ℕ, ◌<◌, IfNone, IfSome, List, Option, Some, length}
use Rattle.std.specs.List.{AllByRecursion, HoldsAt, flat_map}
use Rattle.tx_events.specs.declared.refusal.Refusal.TheVariants as refusals
use Rattle.tx_model.specs.declared.report.Line.{Line}
use Rattle.tx_model.specs.Rounds.{lines_in}
use Rattle.standing_rules.specs.Told.{told_of}
use Rattle.report_law.specs.Standing.{sure}
use Rattle.standing_rules.specs.declared.sessions.Session.{Session}
use Rattle.standing_rules.specs.Sessions.{Lived}
use Rattle.checkpoint_rules.specs.Behind.{Walked}

abbrev pub IsInCommit : Session → Type 0
IsInCommit s = s.pending ≡ Some refusals.CommitPending

abbrev pub IsInMulti : Session → Type 0
IsInMulti s = told_of s.unfinished ≡ sure

-- the place of the first session for which P holds; None where it holds for none
pub record IsLeastIn (P : Session → Type 0) (all : List Session) (least : Option ℕ) : Type 0 where
  pub some : IfSome least (λ n. (n < length all) × HoldsAt P all n)
  pub below : IfSome least (λ n. (s : ℕ) → s < n → HoldsAt (λ x. P x → ⊥) all s)
  pub none : IfNone least ((s : ℕ) → s < length all → HoldsAt (λ x. P x → ⊥) all s)

-- the lines are of the 64 sessions
abbrev pub AreFew : List Line → Type 0
AreFew lines = AllByRecursion (λ (l : Line). l.by.session < 64) lines

-- the life with its lines so far
abbrev pub lived_behind : Walked → Lived
lived_behind at = record { recs = at.j.life.recs; events = at.j.life.events; multis = at.j.life.multis; lines = flat_map lines_in at.before }
