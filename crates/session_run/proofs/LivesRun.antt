-- A run, life by life: a life for each part of its script.
use Rattle.std.proofs.Common.{Bool, List, None, Option, Some, [], ap, append-nil, append_assoc, arith, inl, inr, length, length-append, refl, subst, sym, take, ⊎_elim, ℕ, ◌++◌, ◌+◌, ◌∙◌, ◌∷◌, ◌≡◌, ◌≤◌, ◌^◌}
use Rattle.std.proofs.KnownBytes.{Appends-nil, Appends-trans}
use Rattle.std.proofs.Math.Seq.{take-append-add}
use Rattle.std.specs.Io.KnownBytes.{Appends}
use Rattle.std.specs.List.{All}
use Rattle.std.specs.Prelude.{IsSomeAnd}
use Rattle.disk_core.specs.declared.log_disk.LogDisk as logs
use Rattle.disk_core.specs.declared.page_disk.PageDisk as disks
use Rattle.disk_core.specs.declared.media.Crash.{Crash}
use Rattle.disk_core.specs.declared.media.Volumes.{Volumes}
use Rattle.disk_core.specs.Images.{Only}
use Rattle.tx_model.specs.declared.report.How.{How}
use Rattle.tx_model.specs.declared.report.LifeReport.{LifeReport}
use Rattle.tx_model.specs.declared.report.Report.{Report}
use Rattle.report_text.specs.ReportText.{report_text}
use Rattle.session_lang.specs.declared.script.Item.{Item}
use Rattle.session_lang.specs.declared.script.Script.{Script}
use Rattle.run_law.specs.Lives.{AreLivesBefore, AreRunLives, IsFirstPart, LifePart, RunStart, last_text, new_start, parts_of, text_so_far}
use Rattle.run_law.specs.Tool.{IsReportOf}
use Rattle.run_law.specs.Turns.{HasFewTakers, MayStand}
use Rattle.run_law.proofs.Lives.{last_part, next_parts, part_runs, parts_takers, parts_shorter, parts_some, rest_shorter}
use Rattle.tx_io.specs.Causes.{Rose}
use Rattle.recoverable.specs.Fit.{KeptLog}
use Rattle.engine_life.specs.declared.life.OpenLife.{OpenLife}
use Rattle.engine_life.specs.declared.refusal.NoLife.{NoLife}
use Rattle.engine_life.specs.declared.refusal.NoLife.TheVariants as no_lives
use Rattle.session_run.specs.declared.stop.Stopped.{Stopped}
use Rattle.session_run.specs.declared.stop.Stopped.TheVariants as stops
use Rattle.session_run.specs.Going.{IsCrashed, IsPartTold, IsRunning, PartStopped, part_of}
use Rattle.session_run.specs.Leaves.{HasLeftLast, HaveLeft, LeavesVolumes}
use Rattle.session_run.specs.Lives.{ComesTo, HasFallen}
use Rattle.session_run.specs.Parts.{IsTakenPart}
use Rattle.session_run.specs.Runs.{IsTaken, cluster_of}
use Rattle.session_run.specs.Starts.{BeginsOver}
use Rattle.session_run.specs.Stops.{IsStopped, IsTextOfRun, IsUndamaged, IsUnopenedFirst, KeepsLog, Stops, StopsBehind}
use Rattle.session_run.proofs.GoingOn.{since, stay_wider}
use Rattle.session_run.proofs.Opening.{IsFirst, start_so}
use Rattle.session_run.proofs.Running.{comes_push, run_told, so_whole}

rose_from : (a b c : ℕ) → a ≤ b → Rose b c → Rose a c
rose_from a b c low rose = grind arith

-- before the first life
pub none_before : (tells : Bool) (banks : ℕ) (start : RunStart) (s : Script) → AreLivesBefore tells banks start s []
none_before tells banks start s = record {
  done = [];
  rest = parts_of s.items;
  split = refl;
  more = parts_some [] s.items;
  are = record { of = tt; begin = tt; bases = tt; go_on = λ told. tt };
}

module _ {L P : Type 0} (l : logs.Ghosts L) (p : disks.Ghosts P) (falls : Crash → Volumes L P → Volumes L P → Type 0) where
  -- what the last of the lives left that come to a mount
  last_left : (q : LifeReport) (lives : List LifeReport) (begun mounted : Volumes L P) → ComesTo l p falls (q ∷ lives) begun mounted
      → (before : List LifeReport) × (last : LifeReport) × (q ∷ lives ≡ before ++ last ∷ []) × (left : Volumes L P) × HasLeftLast l p begun falls before last left
  last_left q [] begun mounted c = ([], q, refl, c.0, record { mounted = begun; comes = refl; ended = c.2 })
  last_left q (r ∷ lives) begun mounted c =
      let k = last_left r lives c.1 mounted c.4 in
      (q ∷ k.0, k.1, ap (λ (t : List LifeReport). q ∷ t) k.2, k.3, record { mounted = k.4.mounted; comes = (c.0, c.1, c.2, c.3, k.4.comes); ended = k.4.ended })

module _ {L P : Type 0} (l : logs.Ghosts L) (p : disks.Ghosts P) (s : Script) (first : ℕ → Volumes L P → Type 0) (kept : KeptLog) (used : Type 0) (falls : Crash → Volumes L P → Volumes L P → Type 0) (before now : ℕ) (gives : Volumes L P → Type 0) where
  memory_undamaged : IsUndamaged l p no_lives.Memory
  memory_undamaged at same lt pt = absurd (let q : no_lives.Memory ≡ no_lives.Damaged at = same in cc)

  abbrev Stopped_by : ℕ → RunStart → List LifeReport → NoLife → Type 0
  Stopped_by banks start lives refusal = Stops l p first kept used falls before now gives s banks start lives refusal

  stops_behind : (banks : ℕ) (start : RunStart) (lives : List LifeReport) (r : LifeReport) (refusal : NoLife) → StopsBehind l p first kept used falls before now gives s banks start (lives ++ r ∷ []) refusal → Stopped_by banks start (lives ++ r ∷ []) refusal
  stops_behind banks start [] r refusal u = u
  stops_behind banks start (q ∷ lives) r refusal u = u

  -- memory was wanting for the text of a life
  memory_stops : (banks : ℕ) (start : RunStart) (lives : List LifeReport) (begun mounted : Volumes L P) → BeginsOver l p first kept s banks start begun → ComesTo l p falls lives begun mounted → Stopped_by banks start lives no_lives.Memory
  memory_stops banks start [] begun mounted began comes = (tt, λ was told other. absurd (other refl))
  memory_stops banks start (q ∷ lives) begun mounted began comes =
      let k = last_left l p falls q lives begun mounted comes in
      (k.3, record { before = k.0; last = k.1; lives_are = k.2; begun = begun; began = began; has_left = k.4 }, tt, memory_undamaged, λ pt lt. let f = k.4.ended.fit pt lt in (f.0, f.1, tt))

  -- or for the line that tells of another stop
  pub then_memory : (banks : ℕ) (start : RunStart) (lives : List LifeReport) (refusal : NoLife) → Stopped_by banks start lives refusal → Stopped_by banks start lives no_lives.Memory
  then_memory banks start [] refusal u = (tt, λ was told other. absurd (other refl))
  then_memory banks start (q ∷ lives) refusal u = (u.0, u.1, tt, memory_undamaged, λ pt lt. let f = u.4 pt lt in (f.0, f.1, tt))

  -- the first life wasn't opened
  pub unopened_stops : (held : Option (List ℕ)) (faults faults' : ℕ) (refusal : NoLife) → IsUnopenedFirst l p first kept used falls before now gives s refusal → IsStopped l p first kept used falls before now gives s held held faults faults' (stops.NoLife refusal)
  unopened_stops held faults faults' refusal u = (s.banks, new_start s, [], none_before p.tells s.banks (new_start s) s, Appends-nil held, u)

-- the text of a part that stands behind those of the lives before
text_ends : (tells : Bool) (banks : ℕ) (start : RunStart) (few : banks ≤ 16) (s : Script) (done : List LifePart) (lives : List LifeReport) (items its : List Item) (crash : Option How) (rest : List Item) (r : LifeReport) → parts_of s.items ≡ done ++ parts_of items → IsFirstPart items its crash rest
    → AreRunLives tells banks start (done ++ part_of its crash ∷ []) (lives ++ r ∷ []) → IsTextOfRun tells banks start s (lives ++ r ∷ []) (text_so_far s.names (lives ++ r ∷ []) ++ last_text crash)
text_ends tells banks start few s done lives items its None rest r parts f are =
    let all : parts_of s.items ≡ done ++ part_of its None ∷ [] = parts ∙ ap (λ (ps : List LifePart). done ++ ps) (last_part items its None rest f refl) in
    inl (record { few = few; names = refl; lives = subst (λ (ps : List LifePart). AreRunLives tells banks start ps (lives ++ r ∷ [])) (sym all) are }, so_whole s.names lives r)
text_ends tells banks start few s done lives items its (Some how) rest r parts f are =
    let split : parts_of s.items ≡ (done ++ part_of its (Some how) ∷ []) ++ parts_of rest = parts ∙ (ap (λ (ps : List LifePart). done ++ ps) (next_parts items its (Some how) rest f how refl) ∙ sym (append_assoc done (part_of its (Some how) ∷ []) (parts_of rest))) in
    inr (record { done = done ++ part_of its (Some how) ∷ []; rest = parts_of rest; split = split; more = parts_some [] rest; are = are }, append-nil (text_so_far s.names (lives ++ r ∷ [])))

module _ {L P : Type 0} {l : logs.Ghosts L} {p : disks.Ghosts P} (s : Script) (first : ℕ → Volumes L P → Type 0) (kept : KeptLog) (used : Type 0) (falls : Crash → Volumes L P → Volumes L P → Type 0) where
  -- How far a run has come: the next life is open, and these items are left to it and to those behind it. What was written
  -- is the text of the lives before.
  pub record HasCome (held held' : Option (List ℕ)) (items : List Item) (number : ℕ) (life : OpenLife L P l p) : Type 0 where
    pub banks : ℕ
    pub start : RunStart
    pub begun : Volumes L P
    pub began : BeginsOver l p first kept s banks start begun
    pub done : List LifePart
    pub lives : List LifeReport
    pub running : IsRunning s banks start begun falls done lives life
    pub count : number ≡ length lives + 1
    pub parts : parts_of s.items ≡ done ++ parts_of items
    pub wrote : Appends held held' (text_so_far s.names lives)
    pub stand : All (MayStand (length s.names)) items
    pub short : number + length items ≤ length s.items + 1
    pub takers : HasFewTakers items

  -- before the first life
  pub come_first : (held : Option (List ℕ)) (life : OpenLife L P l p) → IsTaken s → IsFirst l p s first kept life → HasCome held held s.items 1 life
  come_first held life taken is = record {
    banks = is.so.cluster.banks;
    start = start_so is.so.cluster is.so.begins;
    begun = is.volumes;
    began = is.began;
    done = [];
    lives = [];
    running = record {
      are = record { of = tt; begin = tt; bases = tt; go_on = λ told. tt };
      cluster = is.so.cluster;
      begins = is.so.begins;
      faults = is.so.faults;
      mounted = is.volumes;
      banks_are = refl;
      sessions = is.so.sessions;
      opened = is.so.opened;
      comes = refl;
      opens = is.so.opens;
      first = λ none. (refl, refl);
      behind = λ told next from base. tt;
    };
    count = refl;
    parts = refl;
    wrote = Appends-nil held;
    stand = taken.runnable.items;
    short = omega arith;
    takers = taken.few;
  }

  module _ (held mid : Option (List ℕ)) (items : List Item) (number : ℕ) (life : OpenLife L P l p) (h : HasCome held mid items number life)
      (its : List Item) (crash : Option How) (rest : List Item) (f : IsFirstPart items its crash rest) where
    pub part_taken : IsTaken s → IsTakenPart (length s.names) its
    part_taken taken =
        let part = (parts_shorter items its crash rest f).0 in
        let few = taken.runnable.few in
        let count = h.count in
        let short = h.short in
        record {
          items = (part_runs (length s.names) items its crash rest f h.stand).0;
          few = omega (arith, part, few, count, short);
          takers = (parts_takers items its crash rest f h.takers).0;
        }

    pub number_small : IsTaken s → number ≤ 2 ^ 24 + 1
    number_small taken = let few = taken.runnable.few in let short = h.short in omega (arith, few, short)

    -- all parts are done, or these are and others stand behind them
    whole : crash ≡ None → parts_of s.items ≡ h.done ++ part_of its crash ∷ []
    whole none = h.parts ∙ ap (λ (ps : List LifePart). h.done ++ ps) (last_part items its crash rest f none ∙ ap (λ (c : Option How). part_of its c ∷ []) (sym none))

    split : (how : How) → crash ≡ Some how → parts_of s.items ≡ (h.done ++ part_of its crash ∷ []) ++ parts_of rest
    split how some =
        h.parts
        ∙ (ap (λ (ps : List LifePart). h.done ++ ps) (next_parts items its crash rest f how some ∙ ap (λ (c : Option How). part_of its c ∷ parts_of rest) (sym some))
        ∙ sym (append_assoc h.done (part_of its crash ∷ []) (parts_of rest)))

    few_banks : h.banks ≤ 16
    few_banks = subst (λ n. n ≤ 16) h.running.banks_are h.running.opened.banks.few

    lives_before : (how : How) (r : LifeReport) → crash ≡ Some how → AreRunLives p.tells h.banks h.start (h.done ++ part_of its crash ∷ []) (h.lives ++ r ∷ []) → AreLivesBefore p.tells h.banks h.start s (h.lives ++ r ∷ [])
    lives_before how r some are = record { done = h.done ++ part_of its crash ∷ []; rest = parts_of rest; split = split how some; more = parts_some [] rest; are = are }

    so_far : (how : How) (r : LifeReport) → crash ≡ Some how → text_so_far s.names (h.lives ++ r ∷ []) ++ last_text crash ≡ text_so_far s.names (h.lives ++ r ∷ [])
    so_far how r some = ap (λ (c : Option How). text_so_far s.names (h.lives ++ r ∷ []) ++ last_text c) some ∙ append-nil (text_so_far s.names (h.lives ++ r ∷ []))

    module _ (held' : Option (List ℕ)) (r : LifeReport) (left : Volumes L P) (told : IsPartTold l p s h.banks h.start h.begun falls h.done h.lives (part_of its crash) r left) where
      abbrev have_left : HaveLeft l p (BeginsOver l p first kept s h.banks h.start) falls (h.lives ++ r ∷ []) left
      have_left = record { before = h.lives; last = r; lives_are = refl; begun = h.begun; began = h.began; has_left = told.last }

      wrote : (how : How) → crash ≡ Some how → Appends mid held' told.text → Appends held held' (text_so_far s.names (h.lives ++ r ∷ []))
      wrote how some more = subst (Appends held held') (told.exact ∙ so_far how r some) (Appends-trans held mid held' (text_so_far s.names h.lives) told.text h.wrote more)

      -- it was the last part
      pub run_ends : (gives : Volumes L P → Type 0) → crash ≡ None → Appends mid held' told.text → Only left gives
          → (report : Report) × IsReportOf p.tells h.banks h.start s report × Appends held held' (report_text report) × LeavesVolumes l p (BeginsOver l p first kept s h.banks h.start) falls gives report.lives
      run_ends gives none more only = run_told s h.banks h.start falls h.begun h.done h.lives (part_of its crash) held mid held' r left (BeginsOver l p first kept s h.banks h.start) gives few_banks told more none (whole none) h.wrote h.began only

      -- it crashed, and the next life is open
      pub come_on : (how : How) (next : OpenLife L P l p) → crash ≡ Some how → Appends mid held' told.text → IsRunning s h.banks h.start h.begun falls (h.done ++ part_of its crash ∷ []) (h.lives ++ r ∷ []) next → HasCome held held' rest (number + 1) next
      come_on how next some more running =
          let count = h.count in
          let short = h.short in
          let fewer = rest_shorter items its crash rest f how some in
          let size = length-append h.lives (r ∷ []) in
          record {
            banks = h.banks;
            start = h.start;
            begun = h.begun;
            began = h.began;
            done = h.done ++ part_of its crash ∷ [];
            lives = h.lives ++ r ∷ [];
            running = running;
            count = omega (arith, count, size);
            parts = split how some;
            wrote = wrote how some more;
            stand = (part_runs (length s.names) items its crash rest f h.stand).1;
            short = omega (arith, short, fewer);
            takers = (parts_takers items its crash rest f h.takers).1;
          }

      -- it crashed, and no life goes on
      came : (how : How) → crash ≡ Some how → (v : Volumes L P) → HasFallen l p falls how left v → ComesTo l p falls (h.lives ++ r ∷ []) h.begun v
      came how some v fell =
          comes_push s h.banks h.start falls h.lives r h.begun told.last.mounted left v told.last.comes told.last.ended
          (subst (λ (c : Option How). IsSomeAnd c (λ k. HasFallen l p falls k left v)) (sym some ∙ sym told.crash_is) fell)

      pub crash_stops : (gives : Volumes L P → Type 0) (faults count now : ℕ) (how : How) (refusal : NoLife) → faults ≤ count → crash ≡ Some how → IsCrashed l p (cluster_of s) falls how count now left gives refusal
          → KeepsLog l p r.life left (HasFallen l p falls how left) count now gives refusal → StopsBehind l p first kept used falls faults now gives s h.banks h.start (h.lives ++ r ∷ []) refusal
      crash_stops gives faults count now how refusal later some none keeps = (
        left,
        have_left,
        since l p (cluster_of s) (λ banks volumes. HasFallen l p falls how left volumes) (λ banks volumes. ComesTo l p falls (h.lives ++ r ∷ []) h.begun volumes) gives faults count now later (came how some) refusal none.0,
        none.1,
        λ pt lt. let k = keeps pt lt in (k.0, k.1, stay_wider l p k.0 (HasFallen l p falls how left) (ComesTo l p falls (h.lives ++ r ∷ []) h.begun) gives faults count now later (came how some) refusal k.2),
      )

  -- ---- a part stopped

  module _ (held mid held' : Option (List ℕ)) (items : List Item) (number : ℕ) (life : OpenLife L P l p) (h : HasCome held mid items number life)
      (its : List Item) (crash : Option How) (rest : List Item) (f : IsFirstPart items its crash rest)
      (before between now : ℕ) (gives : Volumes L P → Type 0) (faults mids faults' : ℕ) (later : before ≤ between) (sink : faults ≤ mids) where
    abbrev went : Stopped → Type 0
    went stop = PartStopped l p s h.banks h.start h.begun falls h.done h.lives (part_of its crash) mid held' mids faults' between now gives stop

    abbrev fell : NoLife → Type 0
    fell refusal =
        (how : How) × (crash ≡ Some how) × (r : LifeReport) × (left : Volumes L P)
        × (told : IsPartTold l p s h.banks h.start h.begun falls h.done h.lives (part_of its crash) r left) × Appends mid held' told.text
        × IsCrashed l p (cluster_of s) falls how between now left gives refusal
        × KeepsLog l p r.life left (HasFallen l p falls how left) between now gives refusal

    pub part_stops : (stop : Stopped) → went stop → IsStopped l p first kept used falls before now gives s held held' faults faults' stop
    part_stops stops.Sink w =
        let front = text_so_far s.names h.lives in
        let told = w.3 in (
          rose_from faults mids faults' sink w.0,
          front ++ told.text,
          record {
            banks = h.banks;
            start = h.start;
            lives = h.lives ++ w.1 ∷ [];
            text_is = subst (IsTextOfRun p.tells h.banks h.start s (h.lives ++ w.1 ∷ [])) (sym told.exact) (text_ends p.tells h.banks h.start (few_banks held mid items number life h its crash rest f) s h.done h.lives items its crash rest w.1 h.parts f told.are);
            leaves = record { left = w.2; have_left = have_left held mid items number life h its crash rest f held' w.1 w.2 told; only = w.6 };
          },
          length front + w.4,
          subst (Appends held held') (sym (take-append-add front told.text w.4)) (Appends-trans held mid held' front (take w.4 told.text) h.wrote w.5),
        )
    part_stops (stops.NoLife refusal) w = ⊎_elim
        (λ (a : (refusal ≡ no_lives.Memory) × Appends mid held' []). (
          h.banks,
          h.start,
          h.lives,
          record { done = h.done; rest = parts_of items; split = h.parts; more = parts_some [] items; are = h.running.are },
          subst (Appends held held') (append-nil (text_so_far s.names h.lives)) (Appends-trans held mid held' (text_so_far s.names h.lives) [] h.wrote a.1),
          subst (Stops l p first kept used falls before now gives s h.banks h.start h.lives) (sym a.0) (memory_stops l p s first kept used falls before now gives h.banks h.start h.lives h.begun h.running.mounted h.began h.running.comes),
        ))
        (λ (b : fell refusal). (
          h.banks,
          h.start,
          h.lives ++ b.2 ∷ [],
          lives_before held mid items number life h its crash rest f b.0 b.2 b.1 b.4.are,
          wrote held mid items number life h its crash rest f held' b.2 b.3 b.4 b.0 b.1 b.5,
          stops_behind l p s first kept used falls before now gives h.banks h.start h.lives b.2 refusal (crash_stops held mid items number life h its crash rest f held' b.2 b.3 b.4 gives before between now b.0 refusal later b.1 b.6 b.7),
        )) w
