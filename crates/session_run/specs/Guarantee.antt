-- What the tool's top call promises: the main guarantee, and how a run ends otherwise.
use Rattle.std.specs.Prelude.{◌≡◌, ◌≢◌, ◌≤◌, ◌⊎◌, ◌++◌, ◌∷◌, ℕ, List, [], IsTrue, codes, false}
use Rattle.std.specs.Io.KnownBytes.{Appends}
use Rattle.disk_core.specs.declared.log_disk.LogDisk as logs
use Rattle.disk_core.specs.declared.page_disk.PageDisk as disks
use Rattle.disk_core.specs.declared.media.Media as medias
use Rattle.disk_core.specs.declared.media.Volumes.{Volumes}
use Rattle.tx_io.specs.declared.traits.Source as sources
use Rattle.tx_io.specs.declared.traits.Sink as sinks
use Rattle.tx_io.specs.Amounts.{ReadsUpTo, most_read}
use Rattle.tx_io.specs.Causes.{Rose}
use Rattle.tx_model.specs.declared.report.LifeReport.{LifeReport}
use Rattle.session_lang.specs.declared.script.Script.{Script}
use Rattle.run_law.specs.Lives.{RunStart}
use Rattle.run_law.specs.Tool.{IsRefused, IsRun, IsWholeRun}
use Rattle.script_gen.specs.Generated.{generated}
use Rattle.script_gen.specs.Words.{IsGen}
use Rattle.recoverable.specs.Fit.{KeptLog}
use Rattle.engine_life.specs.FirstLives.{MayBeginOver, MayMount}
use Rattle.engine_life.specs.declared.refusal.NoLife.{NoLife}
use Rattle.engine_life.specs.declared.refusal.NoLife.TheVariants as no_lives
use Rattle.session_run.specs.Leaves.{LeavesVolumes}
use Rattle.session_run.specs.Starts.{BeginsOver}
use Rattle.session_run.specs.Tool.{HoldsFront, IsAccepted, IsMemoryLast, IsUnrunBy, IsWholeSummary, damage_text}

module _ {M L P : Type 0} (m : medias.Ghosts M L P) (l : logs.Ghosts L) (p : disks.Ghosts P) (kept : KeptLog) where
  -- A run may begin over all volumes that the media may mount first: where pages tell what they hold and the log has records,
  -- they fit this one.
  abbrev pub MayRunOver : M → Type 0
  MayRunOver media =
      (banks : ℕ) (volumes : Volumes L P) → MayMount (m.is_new media) (m.begins media) (m.gives media) banks volumes
      → MayBeginOver l p kept volumes

module _ {S K M L P : Type 0} (s : sources.Ghosts S) (k : sinks.Ghosts K) (m : medias.Ghosts M L P) (l : logs.Ghosts L) (p : disks.Ghosts P)
    (kept : KeptLog) (typed : List (List ℕ)) (source source' : S) (sink sink' : K) (media media' : M) where
  -- what the media may mount first
  abbrev First : ℕ → Volumes L P → Type 0
  First = MayMount (m.is_new media) (m.begins media) (m.gives media)

  -- the sink holds this text more
  abbrev Holds : List ℕ → Type 0
  Holds text = Appends (k.held sink) (k.held sink') text

  -- The media gives just what a run of this script left on it in these lives, which began so, over so many banks.
  abbrev Leaves : Script → ℕ → RunStart → List LifeReport → Type 0
  Leaves script banks start lives =
      LeavesVolumes l p (BeginsOver l p First kept script banks start) m.falls (m.gives media') lives

  -- There was a script to run, but behind the lives that are told the run stopped for this cause; this line stands behind
  -- their text.
  abbrev StopsFor : NoLife → List ℕ → Type 0
  StopsFor cause line =
      IsUnrunBy l p typed (s.left source) (s.left source') First kept (m.is_new media ≡ false) m.falls
      (m.faults media) (m.faults media') (m.gives media') (k.held sink) (k.held sink') cause line

  -- What a run of the tool over these words answers by its status.
  pub record RunsTool (status : ℕ) : Type 0 where
    -- The main guarantee, for `run`: the bytes written report one legal history, each command once and in order, and each
    -- reply lawful. The media holds a log with the records that the report tells, and no session's commands are told of more
    -- faults of a volume than it has counted.
    pub done : status ≡ 0 → IsRun typed
        → (run : IsWholeRun p.tells (s.left source) (s.left source') (k.held sink) (k.held sink'))
        × Leaves run.answer.script run.answer.banks run.answer.start run.answer.report.lives
    -- And for `gen`: the line written has the counts of such a report of the generated script.
    pub counted : status ≡ 0 → (IsRun typed → ⊥) → (seed size : ℕ) × IsGen typed seed size
        × (sum : IsWholeSummary p.tells seed size (k.held sink) (k.held sink'))
        × Leaves (generated seed size) sum.counts.banks sum.counts.start sum.counts.report.lives
    -- The bytes of the source are refused, and the line written says where and why.
    pub script : status ≡ 1 → IsRun typed × IsRefused (s.left source) (s.left source') (k.held sink) (k.held sink')
    -- The words are refused, and are so only where no one accepts them, or the sink failed.
    pub words : status ≡ 2 → IsAccepted typed → ⊥
    pub words_only : (IsAccepted typed → ⊥) → (status ≡ 2) ⊎ (status ≡ 4)
    -- The source failed.
    pub read : status ≡ 3 → IsRun typed × Rose (s.faults source) (s.faults source')
    -- The sink failed, and holds a front of what an ending writes.
    pub write : status ≡ 4 → Rose (k.faults sink) (k.faults sink')
    pub front : status ≡ 4 → HoldsFront l p typed (s.left source) (s.left source') (s.faults source) (s.faults source')
        First kept (m.is_new media ≡ false) m.falls (m.faults media) (m.faults media') (m.gives media')
        (k.held sink) (k.held sink')
    -- The media or a volume failed where a life was to be opened, or the media at a crash.
    pub device : status ≡ 5 → StopsFor no_lives.Device (codes "device" ++ 10 ∷ [])
    -- Memory was wanting.
    pub memory : status ≡ 6 → IsMemoryLast l p typed (s.left source) (s.left source')
        First kept (m.is_new media ≡ false) m.falls (m.faults media) (m.faults media') (m.gives media')
        (k.held sink) (k.held sink')
    -- The log is damaged, from this place on.
    pub damaged : status ≡ 7 → (at : ℕ) × StopsFor (no_lives.Damaged at) (damage_text at)
    -- It has no room for the checkpoint with which a life begins.
    pub full : status ≡ 9 → StopsFor no_lives.Full (codes "log-full" ++ 10 ∷ [])
    pub statuses : (status ≤ 9) × (status ≢ 8)
    -- What is read: so much of the source at most, and nothing for other words.
    pub amount : ReadsUpTo most_read (s.left source) (s.left source')
    pub untouched : (IsRun typed → ⊥) → source' ≡ source
    -- How the media is left: as it was where nothing was to be run; and never with volumes mounted.
    pub unused : (IsAccepted typed → ⊥) → media' ≡ media
    pub unmounted : (status ≡ 1) ⊎ (status ≡ 3) → media' ≡ media
    pub rested : IsTrue (m.is_idle media')
    pub used : (status ≡ 0) ⊎ ((status ≡ 7) ⊎ (status ≡ 9)) → m.is_new media' ≡ false
    -- The line that is written where no life ran.
    pub no_words : status ≡ 2 → Holds (codes "words" ++ 10 ∷ [])
    pub read_fault : status ≡ 3 → Holds (codes "read-fault" ++ 10 ∷ [])
