-- The lives of a script, and those of a run of it.
use Rattle.std.specs.Prelude.{◌≡◌, ◌≢◌, ℕ, ◌⊎◌, Bool, IsTrue, List, [], ◌∷◌, ◌++◌, Option, None, Some}
use Rattle.std.specs.List.{All, AllByRecursion, flat_map}
use Rattle.tx_events.specs.Base.{IsBase}
use Rattle.tx_events.specs.Ids.{IsFullMulti}
use Rattle.tx_events.specs.declared.record.Counters.{Counters}
use Rattle.tx_model.specs.declared.report.How.{How}
use Rattle.tx_model.specs.declared.report.LifeReport.{LifeReport}
use Rattle.tx_model.specs.declared.report.Life.{Life}
use Rattle.life_law.specs.LawfulLife.{IsLawfulLife}
use Rattle.tx_events.specs.LifeBase.{LifeBase}
use Rattle.report_law.specs.Lives.{GoOn, base_of}
use Rattle.report_text.specs.ReportText.{end_text, front_text, life_line, lives_text, rest_text, step_text, title_text}
use Rattle.session_lang.specs.declared.script.Item.{Item}
use Rattle.session_lang.specs.declared.script.Item.TheVariants as items
use Rattle.session_lang.specs.declared.script.Script.{Script}
use Rattle.session_lang.specs.Rounds.{asked_of, crash_in}

-- What a script asks of one life: these items, and the crash that ends it, but of the last life none.
pub record LifePart : Type 0 where
  pub items : List Item
  pub crash : Option How

-- a crash ends the part of the items before it, and one part more stands behind the last crash
abbrev pub parts_from : List Item → List Item → List LifePart
parts_from before [] = record { items = before; crash = None } ∷ []
parts_from before (items.Crash how ∷ script) = record { items = before; crash = Some how } ∷ parts_from [] script
parts_from before (item ∷ script) = parts_from (before ++ item ∷ []) script

abbrev pub parts_of : List Item → List LifePart
parts_of script = parts_from [] script

-- the part is the items before the first crash, and the rest stands behind that
pub record IsFirstPart (script part : List Item) (crash : Option How) (rest : List Item) : Type 0 where
  pub none : All (λ item. crash_in item ≡ None) part
  pub split : ((crash ≡ None) × (script ≡ part) × (rest ≡ []))
      ⊎ ((how : How) × (crash ≡ Some how) × (script ≡ part ++ items.Crash how ∷ rest))

-- the lives are one for each of these parts, lawful for what that asks, and ended by its crash
abbrev pub AreLivesOf : Bool → ℕ → List LifePart → List LifeReport → Type 0
AreLivesOf tells banks [] [] = Unit {0}
AreLivesOf tells banks (part ∷ parts) (r ∷ lives) =
    IsLawfulLife tells banks (asked_of part.items) r × (r.crash ≡ part.crash) × AreLivesOf tells banks parts lives
AreLivesOf tells banks parts lives = ⊥

-- What a run begins with: the number of its first life's checkpoint, and its base.
pub record RunStart : Type 0 where
  pub number : ℕ
  pub base : LifeBase

-- over a new log the script's counters, with nothing committed or recorded before
abbrev pub new_start : Script → RunStart
new_start s = record { number = 0; base = record { counters = s.base; committed = []; recorded = [] } }

-- the life begins so
pub record BeginsRun (start : RunStart) (life : Life) : Type 0 where
  pub from : life.from ≡ start.number
  pub base : base_of life ≡ start.base

-- the first of them, if there is one
abbrev pub BeginRun : RunStart → List LifeReport → Type 0
BeginRun start [] = Unit {0}
BeginRun start (first ∷ lives) = BeginsRun start first.life

-- the life begins with a base, whose multixacts' numbers are those of multixacts
pub record BeginsWithBase (r : LifeReport) : Type 0 where
  pub is_base : IsBase r.life.base
  pub multi : IsFullMulti r.life.base.multi
  pub oldest_multi : IsFullMulti r.life.base.oldest_multi

-- so each life
abbrev pub BeginWithBases : List LifeReport → Type 0
BeginWithBases lives = AllByRecursion BeginsWithBase lives

-- Lives of a run over so many banks that begins so, for these parts of a script: the first from there, each later one from
-- the base of where the log of the one before it can be read behind the crash, if the volumes tell what they hold.
pub record AreRunLives (tells : Bool) (banks : ℕ) (start : RunStart) (parts : List LifePart) (lives : List LifeReport) : Type 0 where
  pub of : AreLivesOf tells banks parts lives
  pub begin : BeginRun start lives
  pub bases : BeginWithBases lives
  pub go_on : IsTrue tells → GoOn lives

-- The lives before a run stopped: those of the first parts of the script, each ended by its crash.
pub record AreLivesBefore (tells : Bool) (banks : ℕ) (start : RunStart) (s : Script) (lives : List LifeReport) : Type 0 where
  pub done : List LifePart
  pub rest : List LifePart
  pub split : parts_of s.items ≡ done ++ rest
  pub more : rest ≡ [] → ⊥
  pub are : AreRunLives tells banks start done lives

-- ---- their text

-- the report as far as these lives, whole lines; before the first one nothing is written
abbrev pub text_so_far : List (List ℕ) → List LifeReport → List ℕ
text_so_far names [] = []
text_so_far names (r ∷ lives) = title_text ++ lives_text names 1 (r ∷ lives)

-- what stands before the steps of the life of this number, the first one of which begins the report
pub record IsFrontOf (number from : ℕ) (base : Counters) (text : List ℕ) : Type 0 where
  pub first : number ≡ 1 → text ≡ front_text from base
  pub later : number ≢ 1 → text ≡ life_line number from base

-- behind the last life stands the last line
abbrev pub last_text : Option How → List ℕ
last_text None = end_text
last_text (Some how) = []

-- what stands from the steps of a life on
abbrev pub life_rest : List (List ℕ) → LifeReport → List ℕ
life_rest names r = flat_map (step_text names) r.steps ++ (rest_text names r.life r.crash ++ last_text r.crash)
