-- A run goes on from life to life.
use Rattle.std.proofs.Common.{Err, List, None, Option, Result, [], ap, append_assoc, arith, inl, length, refl, subst, sym, ℕ, ◌++◌, ◌+◌, ◌∙◌, ◌∷◌, ◌≡◌, ◌≤◌}
use Rattle.std.proofs.KnownBytes.{Appends-trans}
use Rattle.std.specs.Io.KnownBytes.{Appends}
use Rattle.std.specs.Prelude.{IsSomeAnd}
use Rattle.disk_core.specs.declared.log_disk.LogDisk as logs
use Rattle.disk_core.specs.declared.page_disk.PageDisk as disks
use Rattle.disk_core.specs.declared.media.Crash.{Crash}
use Rattle.disk_core.specs.declared.media.Volumes.{Volumes}
use Rattle.disk_core.specs.Images.{Only}
use Rattle.tx_events.specs.Base.{IsBase}
use Rattle.tx_events.specs.Ids.{IsFullMulti}
use Rattle.tx_events.specs.declared.record.Counters.{Counters}
use Rattle.tx_model.specs.declared.report.How.{How}
use Rattle.tx_model.specs.declared.report.LifeReport.{LifeReport}
use Rattle.tx_model.specs.declared.report.Report.{Report}
use Rattle.life_law.specs.LawfulLife.{IsLawfulLife}
use Rattle.report_text.specs.ReportText.{end_text, report_text, rest_text}
use Rattle.session_lang.specs.declared.script.Item.{Item}
use Rattle.session_lang.specs.declared.script.Script.{Script}
use Rattle.session_lang.specs.Rounds.{asked_of}
use Rattle.run_law.specs.Lives.{AreRunLives, BeginsRun, BeginsWithBase, IsFrontOf, LifePart, RunStart, last_text, parts_of, text_so_far}
use Rattle.run_law.specs.Tool.{IsReportOf}
use Rattle.run_law.proofs.RunLives.{run_lives_push, so_far_push, whole_text}
use Rattle.engine_host.specs.declared.cluster.Cluster.{Cluster}
use Rattle.engine_host.specs.Opening.{Beginning}
use Rattle.engine_life.specs.declared.closed.ClosedLife.{ClosedLife}
use Rattle.engine_life.specs.declared.life.OpenLife.{OpenLife}
use Rattle.engine_life.specs.Lives.{number_of, volumes_left}
use Rattle.session_run.specs.OneLife.{life_of}
use Rattle.session_run.specs.Parts.{report_of}
use Rattle.session_run.specs.Records.{BankHolds}
use Rattle.script_rounds.specs.declared.life_text.LifeText.{LifeText}
use Rattle.session_run.specs.declared.run.Lived.{Lived}
use Rattle.session_run.specs.declared.stop.Stopped.{Stopped}
use Rattle.session_run.specs.declared.stop.Stopped.TheVariants as stops
use Rattle.session_run.specs.Going.{HasRunPart, HasRunPartOf, IsPartTold, IsRunning, IsToldLife, IsWritten, StopsPart, TellsPart, part_of}
use Rattle.session_run.specs.Leaves.{LeavesVolumes}
use Rattle.session_run.specs.Lives.{ComesTo, HasEndedOn, HasFallen}

pub push_some : {X : Type 0} (xs : List X) (x : X) → xs ++ x ∷ [] ≡ [] → ⊥
push_some [] x e = cc
push_some (y ∷ xs) x e = cc

pub so_whole : (names : List (List ℕ)) (lives : List LifeReport) (r : LifeReport) → text_so_far names (lives ++ r ∷ []) ++ end_text ≡ report_text (record { names = names; lives = lives ++ r ∷ [] })
so_whole names [] r = whole_text names r []
so_whole names (q ∷ lives) r = whole_text names q (lives ++ r ∷ [])

-- the pieces of the text that stands behind a life's front
pub pieces : (steps histories log last told a b d : List ℕ) → a ≡ steps → b ≡ histories → d ≡ log ++ last → histories ++ log ≡ told → a ++ (b ++ d) ≡ steps ++ (told ++ last)
pieces steps histories log last told a b d one two three ends =
    ap (λ (t : List ℕ). t ++ (b ++ d)) one
    ∙ (ap (λ (t : List ℕ). steps ++ (t ++ d)) two
    ∙ (ap (λ (t : List ℕ). steps ++ (histories ++ t)) three
    ∙ ap (λ (t : List ℕ). steps ++ t) (sym (append_assoc histories log last) ∙ ap (λ (t : List ℕ). t ++ last) ends)))

-- a life that ran its part is told by its front, and by what stands behind the text of its steps
pub told_life : {L P : Type 0} (l : logs.Ghosts L) (p : disks.Ghosts P) (c : Cluster) (b : Beginning) (mounted : Volumes L P) (names : List (List ℕ)) (its : List Item) (number : ℕ) (crash : Option How) (closed : ClosedLife L P l) (base : Counters) (steps : List ℕ) (text : LifeText)
    → HasRunPartOf l p names its c b mounted closed base steps → IsFrontOf number (number_of closed) base text.front
    → text.steps ++ (text.histories ++ text.log) ≡ steps ++ (rest_text names (life_of c b closed) crash ++ last_text crash) → IsFullMulti base.multi × IsFullMulti base.oldest_multi → IsToldLife l p names its number crash c b mounted closed text
told_life l p c b mounted names its number crash closed base steps text ran front rest multis = record {
  steps = ran.steps;
  lived = ran.lived;
  left = ran.left;
  front = subst (λ (x : ℕ × Counters). IsFrontOf number x.0 x.1 text.front) (λ j. (ran.number j, ran.base_is j)) front;
  rest = rest ∙ ap (λ (t : List ℕ). t ++ (rest_text names (life_of c b closed) crash ++ last_text crash)) ran.text_is;
  multis = subst (λ (k : Counters). IsFullMulti k.multi × IsFullMulti k.oldest_multi) ran.base_is multis;
}

module _ {L P : Type 0} {l : logs.Ghosts L} {p : disks.Ghosts P} (s : Script) (banks : ℕ) (start : RunStart) (falls : Crash → Volumes L P → Volumes L P → Type 0) where
  -- ---- a part

  module _ (begun : Volumes L P) (done : List LifePart) (lives : List LifeReport) (life : OpenLife L P l p) (run : IsRunning s banks start begun falls done lives life)
      (its : List Item) (number : ℕ) (crash : Option How) (closed : ClosedLife L P l) (text : LifeText) (count : number ≡ length lives + 1)
      (told : IsToldLife l p s.names its number crash run.cluster run.begins run.mounted closed text) where
    abbrev pub told_of : LifeReport
    told_of = report_of (life_of run.cluster run.begins closed) told.steps crash

    pub lawful : IsLawfulLife p.tells banks (asked_of its) told_of
    lawful = subst (λ n. IsLawfulLife p.tells n (asked_of its) told_of) run.banks_are (told.lived.lawful crash)

    first : lives ≡ [] → BeginsRun start told_of.life
    first none = let so = run.first none in record { from = so.0; base = so.1 }

    begins : BeginsWithBase told_of
    begins = record {
      is_base = subst (λ (c : Cluster). IsBase c.base) run.opened.begun.cluster run.opened.begun.host.cluster.base;
      multi = told.multis.0;
      oldest_multi = told.multis.1;
    }

    pub part_are : AreRunLives p.tells banks start (done ++ part_of its crash ∷ []) (lives ++ told_of ∷ [])
    part_are = run_lives_push p.tells banks start done lives (part_of its crash) told_of run.are lawful refl first begins (λ tells. run.behind tells told_of.life refl refl)

    pub part_text : text_so_far s.names lives ++ (text.front ++ (text.steps ++ (text.histories ++ text.log))) ≡ text_so_far s.names (lives ++ told_of ∷ []) ++ last_text crash
    part_text =
        ap (λ (t : List ℕ). text_so_far s.names lives ++ (text.front ++ t)) told.rest
        ∙ so_far_push s.names lives told_of number text.front count told.front

    abbrev pub part_told : IsPartTold l p s banks start begun falls done lives (part_of its crash) told_of (volumes_left closed)
    part_told = record {
      are = part_are;
      lawful = lawful;
      crash_is = refl;
      text = text.front ++ (text.steps ++ (text.histories ++ text.log));
      exact = part_text;
      last = record {
        mounted = run.mounted;
        comes = run.comes;
        ended = record {
          same = told.left.same;
          opened = run.opens;
          causes = told.left.causes;
          log = told.left.log;
          states = λ tells bank low.
              let many = run.opened.banks.xact in
              subst (λ n. BankHolds p told_of.life n bank (volumes_left closed).xact.items) (sym many) (told.left.states tells bank (omega (arith, low, many)));
          fit = told.left.fit;
        };
      };
    }

  -- ---- a crash, and the next life

  pub comes_push : (lives : List LifeReport) (r : LifeReport) (begun mounted left next : Volumes L P) → ComesTo l p falls lives begun mounted → HasEndedOn l p r mounted left → IsSomeAnd r.crash (λ how. HasFallen l p falls how left next) → ComesTo l p falls (lives ++ r ∷ []) begun next
  comes_push [] r begun mounted left next comes ended fell = (left, next, subst (λ (v : Volumes L P). HasEndedOn l p r v left) comes ended, fell, refl)
  comes_push (q ∷ lives) r begun mounted left next comes ended fell = (comes.0, comes.1, comes.2, comes.3, comes_push lives r comes.1 mounted left next comes.4 ended fell)

  -- ---- the last part

  pub run_told : (begun : Volumes L P) (done : List LifePart) (lives : List LifeReport) (part : LifePart) (first held held' : Option (List ℕ)) (r : LifeReport) (left : Volumes L P) (may gives : Volumes L P → Type 0) → banks ≤ 16 → (told : IsPartTold l p s banks start begun falls done lives part r left) → Appends held held' told.text
      → part.crash ≡ None → parts_of s.items ≡ done ++ part ∷ [] → Appends first held (text_so_far s.names lives) → may begun → Only left gives
      → (report : Report) × IsReportOf p.tells banks start s report × Appends first held' (report_text report) × LeavesVolumes l p may falls gives report.lives
  run_told begun done lives part first held held' r left may gives few told wrote last all so_far began only =
      let report : Report = record { names = s.names; lives = lives ++ r ∷ [] } in (
        report,
        record { few = few; names = refl; lives = subst (λ (ps : List LifePart). AreRunLives p.tells banks start ps (lives ++ r ∷ [])) (sym all) told.are },
        subst (Appends first held')
            (told.exact ∙ ap (λ (c : Option How). text_so_far s.names (lives ++ r ∷ []) ++ last_text c) last ∙ so_whole s.names lives r)
            (Appends-trans first held held' (text_so_far s.names lives) told.text so_far wrote),
        record { left = left; have_left = record { before = lives; last = r; lives_are = refl; begun = begun; began = began; has_left = told.last }; only = only },
      )

-- ---- how the text of a part was written

module _ {L P : Type 0} (l : logs.Ghosts L) (p : disks.Ghosts P) (falls : Crash → Volumes L P → Volumes L P → Type 0) (names : List (List ℕ)) (number : ℕ) (lived : Lived L P l)
    (ran : HasRunPart l p falls names number lived) (crash : Option How) where
  abbrev closed : ClosedLife L P l
  closed = lived.ended.closed

  abbrev Told : List (List ℕ) → LifeText → Type 0
  Told names text = IsToldLife l p names ran.its number crash ran.running.cluster ran.running.begins ran.running.mounted closed text

  module _ (text : LifeText) (told : Told names text) where
    pub by_script : Told ran.script.names text
    by_script = subst (λ (n : List (List ℕ)). Told n text) ran.names_are told

    abbrev pub report_told : LifeReport
    report_told = told_of ran.script ran.banks ran.start falls ran.begun ran.done ran.lives ran.life ran.running ran.its number crash closed text ran.count by_script

    abbrev pub told_so : TellsPart l p ran crash report_told
    told_so = part_told ran.script ran.banks ran.start falls ran.begun ran.done ran.lives ran.life ran.running ran.its number crash closed text ran.count by_script

  module _ (held held' : Option (List ℕ)) (faults faults' before now : ℕ) (gives : Volumes L P → Type 0) (only : Only (volumes_left closed) gives) where
    pub not_written : (stop : Stopped) → IsWritten l p {T = Unit {0}} names ran.its number crash ran.running.cluster ran.running.begins ran.running.mounted closed held held' faults faults' (Err stop)
        → StopsPart l p ran crash held held' faults faults' before now gives stop
    not_written stops.Sink w = (w.0, report_told w.1 w.2, volumes_left closed, told_so w.1 w.2, w.3, w.4, only)
    not_written (stops.NoLife refusal) w = inl w
