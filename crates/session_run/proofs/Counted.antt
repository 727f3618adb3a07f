-- A script without a crash: its one life, and the counts of it.
use Rattle.std.proofs.Common.{Bool, IsTrue, List, None, [], ap, arith, length, refl, subst, sym, ℕ, ◌∙◌, ◌∷◌, ◌≡◌, ◌≤◌}
use Rattle.std.proofs.lemmas.List.Elements.{recursion_from_All}
use Rattle.std.proofs.lemmas.List.Sums.{count_by-le-length}
use Rattle.std.specs.List.{flat_map}
use Rattle.disk_core.specs.declared.log_disk.LogDisk as logs
use Rattle.disk_core.specs.declared.page_disk.PageDisk as disks
use Rattle.disk_core.specs.declared.media.Crash.{Crash}
use Rattle.disk_core.specs.declared.media.Volumes.{Volumes}
use Rattle.disk_core.specs.Images.{Only}
use Rattle.tx_model.specs.declared.report.Life.{Life}
use Rattle.tx_model.specs.declared.report.LifeReport.{LifeReport}
use Rattle.tx_model.specs.declared.report.Line.{Line}
use Rattle.tx_model.specs.declared.report.Report.{Report}
use Rattle.tx_model.specs.declared.report.Step.{Step}
use Rattle.tx_model.specs.Rounds.{lines_in}
use Rattle.session_lang.specs.declared.script.Script.{Script}
use Rattle.run_law.specs.Lives.{AreLivesOf, BeginsRun, BeginsWithBase, LifePart, RunStart}
use Rattle.run_law.specs.Turns.{MayRun}
use Rattle.run_law.proofs.Lives.{no_crash_runs, one_part}
use Rattle.script_gen.specs.Counts.{is_verdict, summary_by, summary_text}
use Rattle.script_gen.specs.Summaries.{IsSummaryOf}
use Rattle.script_rounds.specs.Counted.{verdicts_in}
use Rattle.engine_host.specs.declared.cluster.Cluster.{Cluster}
use Rattle.engine_host.specs.Opening.{Beginning}
use Rattle.engine_life.specs.declared.closed.ClosedLife.{ClosedLife}
use Rattle.engine_life.specs.declared.life.OpenLife.{OpenLife}
use Rattle.engine_life.specs.Lives.{volumes_left}
use Rattle.session_run.specs.OneLife.{HasLeft, IsOpened, life_of}
use Rattle.session_run.specs.Parts.{HasLived, IsTakenPart, report_of}
use Rattle.session_run.specs.Records.{BankHolds}
use Rattle.session_run.specs.Leaves.{LeavesVolumes}
use Rattle.session_run.specs.Runs.{IsTakenAlone}
use Rattle.session_run.specs.Starts.{OpensFor}

-- its items are one part
pub part_alone : (s : Script) → IsTakenAlone s → IsTakenPart (length s.names) s.items
part_alone s alone = record { items = alone.items; few = alone.taken.runnable.few; takers = alone.taken.few }

-- no more lines have a verdict
pub verdicts_few : (lines : List Line) → verdicts_in lines ≤ length lines
verdicts_few lines = count_by-le-length (λ (l : Line). is_verdict l.reply) lines

-- what was counted of the life are the counts of a report, which has it alone
pub counts_told : (tells : Bool) (banks : ℕ) (start : RunStart) (s : Script) (life : Life) (ss : List Step) (text : List ℕ) (commands verdicts : ℕ) → banks ≤ 16 → IsTakenAlone s → HasLived tells banks s.items life ss
    → BeginsRun start life → BeginsWithBase (report_of life ss None) → commands ≡ length (flat_map lines_in ss) → verdicts ≡ verdicts_in (flat_map lines_in ss) → text ≡ summary_text (summary_by life.events commands verdicts)
    → (counts : IsSummaryOf tells s text) × (counts.banks ≡ banks) × (counts.start ≡ start) × (counts.report.lives ≡ report_of life ss None ∷ [])
counts_told tells banks start s life ss text commands verdicts small taken lived begins base many told exact =
    let r : LifeReport = report_of life ss None in
    let report : Report = record { names = s.names; lives = r ∷ [] } in
    let one = one_part s.items (no_crash_runs (length s.names) s.items (recursion_from_All (MayRun (length s.names)) s.items taken.items)) in (
      record {
        banks = banks;
        start = start;
        report = report;
        lawful = record {
          few = small;
          names = refl;
          lives = record {
            of = subst (λ (ps : List LifePart). AreLivesOf tells banks ps (r ∷ [])) (sym one) (lived.lawful None, refl, tt);
            begin = begins;
            bases = (base, tt);
            go_on = λ tells. tt;
          };
        };
        life = r;
        one = refl;
        exact =
            exact ∙ ap (λ n. summary_text (summary_by life.events n verdicts)) many
            ∙ ap (λ n. summary_text (summary_by life.events (length (flat_map lines_in ss)) n)) told;
      },
      refl,
      refl,
      refl,
    )

-- and the media has what the life left
pub left_alone : {L P : Type 0} (l : logs.Ghosts L) (p : disks.Ghosts P) (c : Cluster) (b : Beginning) (faults : List ℕ) (mounted : Volumes L P) (opened : OpenLife L P l p) (closed : ClosedLife L P l) (steps : List Step) (first : Volumes L P → Type 0) (falls : Crash → Volumes L P → Volumes L P → Type 0) (gives : Volumes L P → Type 0)
    → IsOpened c b faults mounted opened → (IsTrue l.tells → OpensFor b.number c.base (l.reads mounted.log)) → first mounted → Only (volumes_left closed) gives → HasLeft l p c b mounted steps closed
    → LeavesVolumes l p first falls gives (report_of (life_of c b closed) steps None ∷ [])
left_alone l p c b faults mounted opened closed steps first falls gives is opens began only left =
    let banks : length mounted.xact.items ≡ c.banks = is.banks.xact in
    record {
      left = volumes_left closed;
      have_left = record {
        before = [];
        last = report_of (life_of c b closed) steps None;
        lives_are = refl;
        begun = mounted;
        began = began;
        has_left = record {
          mounted = mounted;
          comes = refl;
          ended = record {
            same = left.same;
            opened = opens;
            causes = left.causes;
            log = left.log;
            states = λ told bank low. subst (λ n. BankHolds p (life_of c b closed) n bank (volumes_left closed).xact.items) (sym banks) (left.states told bank (omega (arith, low, banks)));
            fit = left.fit;
          };
        };
      };
      only = only;
    }
