-- What the text of a report tells of it.
use Rattle.std.specs.Prelude.{List, [], map}
use Rattle.tx_model.specs.declared.report.LifeReport.{LifeReport}
use Rattle.tx_model.specs.declared.report.Report.{Report}

-- All but the committed ids and the recorded multixacts from which a life began: those the text leaves to the records of
-- the lives before, and the first life has none.
abbrev pub life_as_read : LifeReport → LifeReport
life_as_read r = record r { life = record (r.life) { committed = []; recorded = [] } }

abbrev pub lives_as_read : List LifeReport → List LifeReport
lives_as_read lives = map life_as_read lives

abbrev pub as_read : Report → Report
as_read r = record r { lives = lives_as_read r.lives }
