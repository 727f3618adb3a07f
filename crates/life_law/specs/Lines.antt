-- Which lines of a life's report are lawful.
use Rattle.std.specs.Prelude.{◌≡◌, ◌+◌, List, ◌++◌}
use Rattle.std.specs.List.{count_by}
use Rattle.tx_events.specs.Events.{events_of}
use Rattle.tx_events.specs.Places.{EachPlace}
use Rattle.tx_model.specs.declared.report.Line.{Line}
use Rattle.tx_model.specs.CommandEvents.{HasEvents}
use Rattle.tx_model.specs.Lines.{is_line_of, span_of, stance}
use Rattle.tx_model.specs.Replies.{RoundSpan}
use Rattle.life_law.specs.Answering.{IsLawfulAnswer, IsLogged}
use Rattle.life_law.specs.Facts.{Facts}
use Rattle.life_law.specs.MultiLines.{HasMultiEvents}
use Rattle.life_law.specs.MultiPlaces.{multi_span, multis_of}
use Rattle.life_law.specs.Pending.{pending}
use Rattle.life_law.specs.Refused.{by_members, by_standing, refused_by, refused_by_members}

-- A line of a report, given the place of its round in both histories and the lines before it in its life: its number, its
-- events of both, that it is refused by how its session stands, and by the members that it names, exactly where that
-- stands so, its reply, and its record.
pub record IsLawfulLine (f : Facts) (round multis : RoundSpan) (before : List Line) (l : Line) : Type 0 where
  pub number : l.by.command ≡ count_by (is_line_of l.by.session) before + 1
  pub events : HasEvents l.by (stance f.events before l.by.session) l.command l.reply (events_of l.by f.events)
  pub multi_events : HasMultiEvents f.base f.events round f.multis l.by l.command l.reply (multis_of l.by f.multis)
  pub standing : by_standing l.reply
      ≡ refused_by l.command (stance f.events before l.by.session) (pending f.recs f.events before l.by.session)
  pub members : by_members l.reply ≡ refused_by_members l.command
  pub reply : IsLawfulAnswer f before round multis l.by (stance f.events before l.by.session)
      (pending f.recs f.events before l.by.session) l.command l.reply
  pub logged : IsLogged f l.reply

-- the lines of a round, given the lines of the rounds before it
abbrev pub IsLawfulRound : Facts → List Line → List Line → Type 0
IsLawfulRound f before lines = EachPlace lines (λ earlier.
    IsLawfulLine f (span_of f.events before lines) (multi_span f.multis before lines) (before ++ earlier))
