-- A media on which a run was done, handed to a next one.
use Rattle.std.proofs.Common.{Bool, List, None, Option, Some, [], length, subst, sym, ℕ, ◌++◌, ◌∙◌, ◌∷◌}
use Rattle.std.specs.Prelude.{IsSomeAnd}
use Rattle.disk_core.specs.declared.log_disk.LogDisk as logs
use Rattle.disk_core.specs.declared.page_disk.PageDisk as disks
use Rattle.disk_core.specs.declared.media.Crash.{Crash}
use Rattle.disk_core.specs.declared.media.Volumes.{Volumes}
use Rattle.disk_core.specs.Media.{HasBanks}
use Rattle.tx_model.specs.declared.report.How.{How}
use Rattle.tx_model.specs.declared.report.LifeReport.{LifeReport}
use Rattle.life_law.specs.LawfulLife.{IsLawfulLife}
use Rattle.report_law.specs.Lives.{GoOn, GoesBehind}
use Rattle.report_law.proofs.GoingOn.{behind_push}
use Rattle.session_lang.specs.Rounds.{asked_of}
use Rattle.run_law.specs.Lives.{AreLivesOf, LifePart, parts_of}
use Rattle.engine_life.specs.Lives.{FitsLog}
use Rattle.session_run.specs.Again.{RunsGoOn}
use Rattle.session_run.specs.Fits.{FitsLife}
use Rattle.session_run.specs.Leaves.{LeavesVolumes}
use Rattle.session_run.specs.Lives.{ComesTo, HasFallen}
use Rattle.session_run.specs.Starts.{BeginsOver}
use Rattle.session_run.proofs.GoingOn.{found_where, from_last, same_banks}

-- the last of the lives is lawful
last_lawful : (tells : Bool) (banks : ℕ) (parts : List LifePart) (before : List LifeReport) (r : LifeReport) → AreLivesOf tells banks parts (before ++ r ∷ []) → (part : LifePart) × IsLawfulLife tells banks (asked_of part.items) r
last_lawful tells banks (part ∷ parts) [] r are = (part, are.0)
last_lawful tells banks (part ∷ parts) (q ∷ before) r are = last_lawful tells banks parts before r are.2
last_lawful tells banks [] [] r are = absurd are
last_lawful tells banks [] (q ∷ before) r are = absurd are

-- lives go on behind others
go_on_join : (lives : List LifeReport) (next : LifeReport) (more : List LifeReport) → GoOn lives → GoesBehind lives next.life → GoOn (next ∷ more) → GoOn (lives ++ next ∷ more)
go_on_join [] next more go behind rest = rest
go_on_join (a ∷ []) next more go behind rest = (behind, rest)
go_on_join (a ∷ (b ∷ lives)) next more go behind rest = (go.0, go_on_join (b ∷ lives) next more go.1 behind rest)

module _ {L P : Type 0} (l : logs.Ghosts L) (p : disks.Ghosts P) (falls : Crash → Volumes L P → Volumes L P → Type 0) where
  -- a crash keeps the number of volumes
  fallen_banks : (n : ℕ) (crash : Option How) (left behind : Volumes L P) → IsSomeAnd crash (λ how. HasFallen l p falls how left behind) → HasBanks n left → HasBanks n behind
  fallen_banks n (Some how) left behind fell has = same_banks l p n left behind has fell.banks
  fallen_banks n None left behind fell has = absurd fell

  -- and so does each life
  comes_banks : (n : ℕ) (lives : List LifeReport) (begun next : Volumes L P) → ComesTo l p falls lives begun next → HasBanks n begun → HasBanks n next
  comes_banks n [] begun next comes has = subst (HasBanks n) (sym comes) has
  comes_banks n (r ∷ lives) begun next comes has =
      comes_banks n lives comes.1 next comes.4 (fallen_banks n r.crash comes.0 comes.1 comes.3 (same_banks l p n begun comes.0 has comes.2.same))

  -- what is given back has as many volumes as were mounted first
  pub left_banks : (first gives : Volumes L P → Type 0) (lives : List LifeReport) → ((v : Volumes L P) → first v → HasBanks (length v.xact.items) v) → (leaves : LeavesVolumes l p first falls gives lives)
      → (v : Volumes L P) → gives v → HasBanks (length leaves.have_left.begun.xact.items) v
  left_banks first gives lives has leaves v given =
      let h = leaves.have_left in
      let n = length h.begun.xact.items in
      let mounted = comes_banks n h.before h.begun h.has_left.mounted h.has_left.comes (has h.begun h.began) in
      subst (HasBanks n) (sym (leaves.only v given)) (same_banks l p n h.has_left.mounted leaves.left mounted h.has_left.ended.same)

module _ {L P : Type 0} (l : logs.Ghosts L) (p : disks.Ghosts P) (may : ℕ → Volumes L P → Type 0) (falls : Crash → Volumes L P → Volumes L P → Type 0) (gives : Volumes L P → Type 0) where
  pub runs_go_on : RunsGoOn l p may falls gives
  runs_go_on old banks start s r begins is leaves =
      let h = leaves.have_left in
      let last = h.last in
      let tells = (begins s.banks h.begun h.began.mounted).tells in
      let found = found_where p.tells l.tells (FitsLife l p last.life leaves.left) h.has_left.ended.fit in
      let kept = found.0 in
      let lawful = last_lawful p.tells banks (parts_of s.items) h.before last (subst (AreLivesOf p.tells banks (parts_of s.items)) h.lives_are is.lives.of) in
      record {
        kept = kept;
        may = λ v given. record {
          banks =
              let many = left_banks l p falls (BeginsOver l p may old s banks start) gives r.lives (λ w began. (begins s.banks w began.mounted).banks) leaves v given in
              subst (λ n. HasBanks n v) (sym many.xact) many;
          tells = tells;
          fits = λ told some. subst (FitsLog l p kept) (sym (leaves.only v given)) (found.1 told (tells told)).fit;
        };
        go_on = λ told log begins next more behind is_next go.
            let from = from_last kept last.life next.life begins.number (found.1 told (tells told)).ends lawful.1.log.begun (behind.flushed told) (behind.upto told) is_next.from (is_next.base ∙ sym (behind.base told)) in
            go_on_join r.lives next more (is.lives.go_on told) (subst (λ (ls : List LifeReport). GoesBehind ls next.life) (sym h.lives_are) (behind_push h.before last next.life from)) go;
      }
