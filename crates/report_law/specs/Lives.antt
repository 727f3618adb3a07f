-- The lives of a run: each later one begins from what a front of the log of the one before makes of its base.
use Rattle.std.specs.Prelude.{◌≡◌, ℕ, ◌+◌, ◌-◌, ◌≤◌, List, [], ◌∷◌, ◌++◌, take, length}
use Rattle.tx_events.specs.declared.record.Rec.{Rec}
use Rattle.tx_events.specs.LifeBase.{LifeBase, base_after}
use Rattle.tx_model.specs.declared.report.Life.{Life}
use Rattle.tx_model.specs.declared.report.LifeReport.{LifeReport}

-- what the life begins from
abbrev pub base_of : Life → LifeBase
base_of life = record { counters = life.base; committed = life.committed; recorded = life.recorded }

-- its records that are numbered below k
abbrev pub recs_below : Life → ℕ → List Rec
recs_below life k = take (k - life.from) life.recs

-- A life goes on behind a crash of the one before it: from the base that the records of that one give which are numbered
-- below this one's first. These are at least the flushed ones.
pub record GoesOnFrom (before after : Life) : Type 0 where
  pub flushed : before.flushed ≤ after.from
  pub upto : after.from ≤ before.from + length before.recs
  pub base : base_of after ≡ base_after (base_of before) (recs_below before after.from)

-- so each life from the second on
abbrev pub GoOn : List LifeReport → Type 0
GoOn [] = Unit {0}
GoOn (a ∷ []) = Unit {0}
GoOn (a ∷ (b ∷ lives)) = GoesOnFrom a.life b.life × GoOn (b ∷ lives)

-- such a life may stand behind these
abbrev pub GoesBehind : List LifeReport → Life → Type 0
GoesBehind [] life = Unit {0}
GoesBehind (r ∷ []) life = GoesOnFrom r.life life
GoesBehind (r ∷ (q ∷ lives)) life = GoesBehind (q ∷ lives) life

-- the records of the run's one log: of each life those below the number from which the next one goes on
abbrev pub run_recs : List LifeReport → List Rec
run_recs [] = []
run_recs (a ∷ []) = a.life.recs
run_recs (a ∷ (b ∷ lives)) = recs_below a.life b.life.from ++ run_recs (b ∷ lives)
