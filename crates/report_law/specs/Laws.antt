-- What the definitions say of a run's lives together.
use Rattle.std.specs.Prelude.{◌≡◌, ℕ, ◌-◌, ◌<◌, List, ◌∷◌, Contains, Some, slice_get, take}
use Rattle.tx_events.specs.declared.record.Rec.TheVariants as records
use Rattle.tx_events.specs.LifeBase.{base_after}
use Rattle.tx_model.specs.declared.command.Command.TheVariants as commands
use Rattle.tx_model.specs.declared.report.LifeReport.{LifeReport}
use Rattle.tx_model.specs.declared.report.Line.{Line}
use Rattle.life_law.specs.Laws.{IsLawful, IsOkOf}
use Rattle.life_law.specs.LifeLog.{IsAmong}
use Rattle.report_law.specs.Lives.{GoOn, base_of, run_recs}

-- What a commit that was answered `ok` records is committed in each later life: its transaction, with all subtransactions
-- that its record names.
abbrev pub OkCommitsStay : Type 0
OkCommitsStay =
    (lives : List LifeReport) (n m : ℕ) (a b : LifeReport) (l : Line) (top : ℕ)
    → IsLawful a → GoOn lives
    → slice_get lives n ≡ Some a → slice_get lives m ≡ Some b → n < m → IsOkOf a l commands.Commit top
    → (subs : List ℕ) × IsAmong (a.life.flushed - a.life.from) a.life.recs (records.Commit top subs)
    × ((id : ℕ) → Contains (top ∷ subs) id → Contains b.life.committed id)

-- Each life begins from the base that the run's log gives below its first record, from the base of the first life on.
abbrev pub BasesAreOfOneLog : Type 0
BasesAreOfOneLog =
    (first : LifeReport) (lives : List LifeReport) (n : ℕ) (b : LifeReport)
    → ((k : ℕ) (r : LifeReport) → slice_get (first ∷ lives) k ≡ Some r → IsLawful r) → GoOn (first ∷ lives) → slice_get (first ∷ lives) n ≡ Some b
    → base_of b.life ≡ base_after (base_of first.life) (take (b.life.from - first.life.from) (run_recs (first ∷ lives)))
