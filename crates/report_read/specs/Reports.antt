-- What is a report, and which line of a text is the first wrong one.
use Rattle.std.specs.Prelude.{◌≡◌, ℕ, ◌-◌, ◌≤◌, List, [], ◌∷◌, ◌++◌, None, Result, Ok, Err}
use Rattle.tx_model.specs.declared.report.Report.{Report}
use Rattle.tx_events.specs.Base.{first_base}
use Rattle.report_text.specs.ReportText.{report_text}
use Rattle.report_lines.specs.Front.{front}
use Rattle.report_read.specs.Item.{Item}
use Rattle.report_read.specs.Grammar.{Follows, item_line, no_counts}
use Rattle.report_read.specs.declared.read.ReadRefusal.{ReadRefusal}
use Rattle.report_read.specs.declared.read.ReadRefusal.TheVariants as refusals
use Rattle.report_read.specs.declared.told.Stage.TheVariants as stages
use Rattle.report_read.specs.declared.told.Told.{Told}

-- before the first line
unfoldable pub nothing_told : Told
nothing_told = record {
  stage = stages.Opening;
  names = [];
  lives = [];
  start = record { from = 0; base = first_base };
  steps = [];
  round = 0;
  lines = [];
  counts = no_counts;
  speaker = None;
  spoken = [];
  events = [];
  multis = [];
  log = record { flushed = 0; end = 0 };
  recs = [];
}

-- lines that follow each other, each with what is told then
abbrev pub IsRun : Told → List (Item × Told) → Told → Type 0
IsRun t [] last = t ≡ last
IsRun t (p ∷ ps) last = Follows t p.0 p.1 × IsRun p.1 ps last

-- their text
abbrev pub run_text : List (Item × Told) → List ℕ
run_text [] = []
run_text (p ∷ ps) = item_line p.1.names p.0 ++ run_text ps

abbrev pub report_told : Told → Report
report_told t = record { names = t.names; lives = t.lives }

-- a report is what is told by lines that follow each other, from the first one to the last
pub record IsReport (r : Report) : Type 0 where
  pub run : List (Item × Told)
  pub last : Told
  pub goes : IsRun nothing_told run last
  pub closed : last.stage ≡ stages.Closed
  pub told : r ≡ report_told last

-- line n, counted from 1, is the first wrong one: some report begins with the lines before it, and none with it
pub record IsFirstWrong (bytes : List ℕ) (n : ℕ) : Type 0 where
  pub counted : 1 ≤ n
  pub report : Report
  pub is : IsReport report
  pub before : front (n - 1) (report_text report) ≡ front (n - 1) bytes
  pub wrong : (r : Report) → IsReport r → front n (report_text r) ≡ front n bytes → ⊥

-- why a text can't be read
abbrev pub IsWrongLine : ReadRefusal → List ℕ → Type 0
IsWrongLine (refusals.Line n) bytes = IsFirstWrong bytes n
IsWrongLine refusals.Memory bytes = Unit {0}

-- r is read, but for want of memory
abbrev pub IsRead : Result Report ReadRefusal → Report → Type 0
IsRead (Ok s) r = s ≡ r
IsRead (Err (refusals.Line n)) r = ⊥
IsRead (Err refusals.Memory) r = Unit {0}
