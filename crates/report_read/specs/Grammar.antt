-- The grammar of a report: which line may stand where, and what is told then.
use Rattle.std.specs.Prelude.{◌≡◌, ℕ, ◌+◌, ◌<◌, ◌≤◌, ◌^◌, ◌==◌, ◌||◌, not, Bool, true, false, cond, List, [], ◌∷◌, ◌++◌, length, get_or, set, replicate, Option, Some, None, codes}
use Rattle.tx_events.specs.Events.{by_of}
use Rattle.tx_events.specs.IdLists.{has}
use Rattle.tx_model.specs.declared.report.How.{How}
use Rattle.tx_model.specs.declared.report.LifeReport.{LifeReport}
use Rattle.tx_model.specs.declared.report.Step.{Step}
use Rattle.tx_model.specs.declared.report.Step.TheVariants as steps
use Rattle.tx_model.specs.declared.reply.Reply.TheVariants as replies
use Rattle.report_text.specs.Words.{line_text, name_at}
use Rattle.tx_events.specs.Multis.{multi_by}
use Rattle.report_text.specs.ReportText.{command_line, crash_text, end_text, round_line, step_text, title_text}
use Rattle.report_words.specs.Reading.{name_place}
use Rattle.report_words.specs.Fits.{AreNames, FitsEvent, FitsLine, FitsMultiEvent, FitsRecord}
use Rattle.report_words.specs.Texts.{event_line, multi_line, record_line}
use Rattle.report_lines.specs.Texts.{log_line, start_line}
use Rattle.report_lines.specs.Fits.{FitsLog, FitsStart, FitsStep}
use Rattle.report_read.specs.Item.{Item}
use Rattle.report_read.specs.Item as items
use Rattle.report_read.specs.declared.told.Stage.{Stage}
use Rattle.report_read.specs.declared.told.Stage.TheVariants as stages
use Rattle.report_read.specs.declared.told.Told.{Told}

-- ---- the text

abbrev pub history_line : List ℕ
history_line = line_text (codes "history" ∷ [])

abbrev pub multis_line : List ℕ
multis_line = line_text (codes "multis" ∷ [])

abbrev pub item_line : List (List ℕ) → Item → List ℕ
item_line names items.title = title_text
item_line names (items.life number start) = start_line number start
item_line names (items.round number) = round_line number
item_line names (items.command l) = command_line names l
item_line names (items.step s) = step_text names s
item_line names items.history = history_line
item_line names (items.event e) = event_line names e
item_line names items.multis = multis_line
item_line names (items.multi e) = multi_line names e
item_line names (items.log l) = log_line l
item_line names (items.logged number r) = record_line number r
item_line names (items.crash how) = crash_text (Some how)
item_line names items.last = end_text

-- ---- where a line may stand

-- between the steps of a life
abbrev pub begins_step : Stage → Bool
begins_step stages.Steps = true
begins_step stages.Spoken = true
begins_step _ = false

-- in a round
abbrev pub is_round : Stage → Bool
is_round stages.Silent = true
is_round stages.Spoken = true
is_round _ = false

abbrev pub is_opening : Stage → Bool
is_opening stages.Opening = true
is_opening _ = false

abbrev pub is_between : Stage → Bool
is_between stages.Between = true
is_between _ = false

abbrev pub is_history : Stage → Bool
is_history stages.History = true
is_history _ = false

abbrev pub is_multis : Stage → Bool
is_multis stages.Multis = true
is_multis _ = false

abbrev pub is_log : Stage → Bool
is_log stages.Log = true
is_log _ = false

-- a round that has begun needs a command before a step or the history follows
abbrev pub may_stand : Item → Stage → Bool
may_stand items.title stage = is_opening stage
may_stand (items.life number start) stage = is_between stage
may_stand (items.round number) stage = begins_step stage
may_stand (items.command l) stage = is_round stage
may_stand (items.step s) stage = begins_step stage
may_stand items.history stage = begins_step stage
may_stand (items.event e) stage = is_history stage
may_stand items.multis stage = is_history stage
may_stand (items.multi e) stage = is_multis stage
may_stand (items.log l) stage = is_multis stage
may_stand (items.logged number r) stage = is_log stage
may_stand (items.crash how) stage = is_log stage
may_stand items.last stage = is_log stage

-- ---- sessions

abbrev pub noted : List (List ℕ) → List ℕ → Option ℕ → List (List ℕ)
noted names name None = names ++ name ∷ []
noted names name (Some k) = names

-- the names, and this one behind them where it is new
abbrev pub note : List (List ℕ) → List ℕ → List (List ℕ)
note names name = noted names name (name_place names name)

-- a line names a session: one of those that were named before it, or the next one
pub record IsNamed (before : List (List ℕ)) (session : ℕ) (names : List (List ℕ)) : Type 0 where
  pub within : session < length names
  pub noted : names ≡ note before (name_at names session)
  pub few : length names ≤ 64
  pub are : AreNames names

-- the session that a checkpoint's reply names
abbrev pub session_of : Step → Option ℕ
session_of (steps.Checkpoint (replies.Pending session refusal)) = Some session
session_of _ = None

abbrev pub AreNamed : List (List ℕ) → Option ℕ → List (List ℕ) → Type 0
AreNamed before None names = names ≡ before
AreNamed before (Some session) names = IsNamed before session names

abbrev pub is_speaker : Option ℕ → ℕ → Bool
is_speaker None session = false
is_speaker (Some speaker) session = speaker == session

-- a session's commands stand together in a round
abbrev pub may_speak : Option ℕ → List ℕ → ℕ → Bool
may_speak speaker spoken session = is_speaker speaker session || not (has spoken session)

-- the sessions that have spoken in the round, one more after them where another speaks
abbrev pub after_turn : Option ℕ → List ℕ → ℕ → List ℕ
after_turn speaker spoken session = cond (is_speaker speaker session) spoken (spoken ++ session ∷ [])

-- ---- what is told

-- the commands of each session at the beginning of a life
unfoldable pub no_counts : List ℕ
no_counts = replicate 64 0

-- the steps that are complete where no command follows
abbrev pub steps_told : Stage → Told → List Step
steps_told stages.Spoken t = t.steps ++ steps.Round t.round t.lines ∷ []
steps_told _ t = t.steps

-- the life that is told, and how it ends. Its base is that of its counters alone: what is committed and recorded in it
-- the text leaves to the records of the lives before
abbrev pub life_told : Told → Option How → LifeReport
life_told t crash = record {
  life = record {
    from = t.start.from;
    base = t.start.base;
    committed = [];
    recorded = [];
    events = t.events;
    multis = t.multis;
    recs = t.recs;
    flushed = t.log.flushed;
    end = t.log.end;
  };
  steps = t.steps;
  crash = crash;
}

-- what is told with one line more, but for the names
abbrev pub after : Told → Item → Told
after t items.title = record t { stage = stages.Between; lives = [] }
after t (items.life number start) = record t { stage = stages.Steps; start = start; steps = []; round = 0; counts = no_counts }
after t (items.round number) = record t { stage = stages.Silent; steps = steps_told t.stage t; round = number; lines = []; speaker = None; spoken = [] }
after t (items.command l) = record t {
  stage = stages.Spoken;
  lines = t.lines ++ l ∷ [];
  counts = set t.counts l.by.session l.by.command;
  speaker = Some l.by.session;
  spoken = after_turn t.speaker t.spoken l.by.session;
}
after t (items.step s) = record t { stage = stages.Steps; steps = steps_told t.stage t ++ s ∷ []; lines = [] }
after t items.history = record t { stage = stages.History; steps = steps_told t.stage t; lines = []; events = [] }
after t (items.event e) = record t { events = t.events ++ e ∷ [] }
after t items.multis = record t { stage = stages.Multis; multis = [] }
after t (items.multi e) = record t { multis = t.multis ++ e ∷ [] }
after t (items.log l) = record t { stage = stages.Log; log = l; recs = [] }
after t (items.logged number r) = record t { recs = t.recs ++ r ∷ [] }
after t (items.crash how) = record t { stage = stages.Between; lives = t.lives ++ life_told t (Some how) ∷ []; steps = []; events = []; multis = []; recs = [] }
after t items.last = record t { stage = stages.Closed; lives = t.lives ++ life_told t None ∷ []; steps = []; events = []; multis = []; recs = [] }

-- ---- the rules

-- Lives count from 1, rounds from 1 in each life, a session's commands from 1 in each life, records from the number of
-- the life's first on. Sessions are named in the order of the text.
abbrev pub Rule : Told → Item → List (List ℕ) → Type 0
Rule t items.title names = names ≡ t.names
Rule t (items.life number start) names = (names ≡ t.names) × (number ≡ length t.lives + 1) × (number < 2 ^ 64) × FitsStart start
Rule t (items.round number) names = (names ≡ t.names) × (number ≡ t.round + 1) × (number < 2 ^ 64)
Rule t (items.command l) names =
    IsNamed t.names l.by.session names × FitsLine names l × (l.by.command ≡ get_or t.counts l.by.session 0 + 1) × (may_speak t.speaker t.spoken l.by.session ≡ true)
Rule t (items.step s) names = AreNamed t.names (session_of s) names × AreNames names × FitsStep names s
Rule t items.history names = names ≡ t.names
Rule t (items.event e) names = IsNamed t.names (by_of e).session names × FitsEvent names e
Rule t items.multis names = names ≡ t.names
Rule t (items.multi e) names = IsNamed t.names (multi_by e).session names × FitsMultiEvent names e
Rule t (items.log l) names = (names ≡ t.names) × FitsLog l
Rule t (items.logged number r) names = (names ≡ t.names) × (number ≡ t.start.from + length t.recs) × (number < 2 ^ 64) × FitsRecord number r
Rule t (items.crash how) names = names ≡ t.names
Rule t items.last names = names ≡ t.names

-- a line follows
pub record Follows (t : Told) (item : Item) (m : Told) : Type 0 where
  pub stands : may_stand item t.stage ≡ true
  pub rule : Rule t item m.names
  pub told : m ≡ record (after t item) { names = m.names }
