-- What a line can say.
use Rattle.std.specs.Prelude.{ℕ, ◌+◌, ◌<◌, ◌≤◌, ◌^◌, List}
use Rattle.tx_model.specs.declared.report.DumpOf.{DumpOf}
use Rattle.tx_model.specs.declared.report.DumpOf.TheVariants as dumps
use Rattle.tx_model.specs.declared.report.Step.{Step}
use Rattle.tx_model.specs.declared.report.Step.TheVariants as steps
use Rattle.report_words.specs.Fits.{FitsCounters, FitsCheckpointReply, FitsDumpReply}
use Rattle.report_lines.specs.declared.life.Start.{Start}
use Rattle.report_lines.specs.declared.life.LogHead.{LogHead}

pub record FitsStart (s : Start) : Type 0 where
  pub from : s.from < 2 ^ 64
  pub base : FitsCounters s.base

pub record FitsLog (l : LogHead) : Type 0 where
  pub flushed : l.flushed < 2 ^ 64
  pub end : l.end < 2 ^ 64

-- what is dumped, from a place on, and how many bytes: 1 to 64 of the log, or of a page of 8192 bytes
abbrev pub FitsDump : DumpOf → ℕ → ℕ → Type 0
FitsDump dumps.Log at length = (at ≤ 2 ^ 40) × (1 ≤ length) × (length ≤ 64)
FitsDump (dumps.Xact page) at length = (page < 2 ^ 32) × (1 ≤ length) × (length ≤ 64) × (at + length ≤ 8192)
FitsDump (dumps.Subtrans page) at length = (page < 2 ^ 32) × (1 ≤ length) × (length ≤ 64) × (at + length ≤ 8192)
FitsDump (dumps.Offsets page) at length = (page < 2 ^ 32) × (1 ≤ length) × (length ≤ 64) × (at + length ≤ 8192)
FitsDump (dumps.Members page) at length = (page < 2 ^ 32) × (1 ≤ length) × (length ≤ 64) × (at + length ≤ 8192)

-- a step that has one line
abbrev pub FitsStep : List (List ℕ) → Step → Type 0
FitsStep names (steps.Round number lines) = ⊥
FitsStep names (steps.Checkpoint reply) = FitsCheckpointReply names reply
FitsStep names (steps.Dump what at length reply) = FitsDump what at length × FitsDumpReply reply
