-- The report of a run of a script can be read back, and its text is that of no other.
use Rattle.std.proofs.Common.{◌≡◌, Bool, ℕ, Option, List, [], ◌∷◌, Ok, length, sym, ap, subst, ◌∙◌}
use Rattle.tx_model.specs.declared.report.LifeReport.{LifeReport}
use Rattle.tx_model.specs.declared.report.Report.{Report}
use Rattle.session_lang.specs.declared.script.Script.{Script}
use Rattle.session_lang.specs.Rounds.{sessions_in}
use Rattle.session_lang.specs.Script.{read_script}
use Rattle.session_lang.proofs.SeenLemmas.{old_number}
use Rattle.report_text.specs.ReportText.{report_text}
use Rattle.report_read.specs.AsRead.{as_read, life_as_read, lives_as_read}
use Rattle.report_read.specs.Reports.{IsReport}
use Rattle.report_read.proofs.Reading.{one_report}
use Rattle.report_read.proofs.Untold.{same_text}
use Rattle.run_law.specs.Lives.{BeginRun, BeginsRun, RunStart, new_start}
use Rattle.run_law.specs.Tool.{IsAnswer, IsReportOf}
use Rattle.run_report.proofs.Asking.{items_fit}
use Rattle.run_report.proofs.LivesTold.{told_again}
use Rattle.run_report.proofs.Readings.{script_read}

pub script_told_again : (tells : Bool) (banks : ℕ) (start : RunStart) (bytes : List ℕ) (s : Script) (r : Report) → read_script bytes ≡ Ok s → IsReportOf tells banks start s r → IsReport (as_read r)
script_told_again tells banks start bytes s r e ran =
    let read = script_read bytes s e in
    subst (λ names. IsReport (record { names = names; lives = lives_as_read r.lives })) (sym ran.names)
    (told_again tells banks s.names ran.few read.names read.sessions s.items r.lives
    (items_fit s.names s.items (λ k e. old_number k (length s.names) (sessions_in s.items) read.numbered e) read.items)
    read.few read.numbered ran.lives.of ran.lives.bases)

-- The text that a run answers is that of its report as it is read, and of no other.
pub answer_of_one : (tells : Bool) (left left' : Option (List ℕ)) (text : List ℕ) (a : IsAnswer tells left left' text)
    → (text ≡ report_text a.report) × ((r : Report) → IsReport r → text ≡ report_text r → r ≡ as_read a.report)
answer_of_one tells left left' text a = (
  a.exact,
  λ r is e. one_report r (as_read a.report) is (script_told_again tells a.banks a.start a.bytes a.script a.report a.spelled a.lawful) (sym e ∙ a.exact ∙ sym (same_text a.report)),
)

-- over a new log the first life begins with nothing that the text leaves out
first_whole : (s : Script) (first : LifeReport) → BeginsRun (new_start s) first.life → life_as_read first ≡ first
first_whole s first begins =
    ap (λ c. record first { life = record (first.life) { committed = c; recorded = [] } }) (sym (ap (λ b. b.committed) begins.base))
    ∙ ap (λ c. record first { life = record (first.life) { recorded = c } }) (sym (ap (λ b. b.recorded) begins.base))

pub one_life_whole : (tells : Bool) (banks : ℕ) (s : Script) (r : Report) (life : LifeReport) → IsReportOf tells banks (new_start s) s r → r.lives ≡ life ∷ [] → as_read r ≡ r
one_life_whole tells banks s r life ran one =
    ap (λ lives. record r { lives = lives })
    (ap lives_as_read one ∙ ap (λ l. l ∷ []) (first_whole s life (subst (BeginRun (new_start s)) one ran.lives.begin)) ∙ sym one)
