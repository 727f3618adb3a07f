-- Each fault that a reply tells of was counted by its volume.
use Rattle.std.proofs.Common.{Bool, List, Some, ap, arith, get_or, length, max, min, subst, sym, ℕ, ◌+◌, ◌-◌, ◌<◌, ◌^◌, ◌∙◌, ◌≡◌, ◌≤◌}
use Rattle.std.specs.List.{flat_map, slice_get}
use Rattle.disk_core.specs.declared.log_disk.LogDisk as logs
use Rattle.disk_core.specs.declared.page_disk.PageDisk as disks
use Rattle.disk_core.specs.declared.media.Volumes.{Volumes}
use Rattle.notes.specs.Lists.{at}
use Rattle.tx_model.specs.declared.report.Line.{Line}
use Rattle.tx_model.specs.declared.report.Step.{Step}
use Rattle.tx_model.specs.Rounds.{lines_in}
use Rattle.tx_core.specs.declared.entry.Entry.{Entry}
use Rattle.tx_core.specs.declared.entry.Start.{Start}
use Rattle.tx_core.specs.FaultsRise.{faults_at, faults_told}
use Rattle.tx_core.specs.Locks.{log_lock, members_lock, offsets_lock, subtrans_lock, xact_lock}
use Rattle.engine_host.specs.declared.cluster.Cluster.{Cluster}
use Rattle.engine_host.specs.Opening.{Beginning, life_from}
use Rattle.engine_life.specs.declared.life.OpenLife.{OpenLife}
use Rattle.engine_life.specs.Lives.{HaveCountedTold}
use Rattle.engine_host.specs.Stores.{of_members, of_offsets, of_subtrans, of_xact}
use Rattle.engine_life.proofs.Counts.{there}
use Rattle.session_promise.specs.Causes.{HasRisenBy, faults_in}
use Rattle.session_promise.specs.Closing.{IsOver}
use Rattle.session_promise.specs.Told.{ToldRound, all_lines, lines_by}
use Rattle.session_promise.proofs.FaultLines.{faults_are_told}
use Rattle.session_run.specs.Causes.{AreOfBuilt, HasRisenAt, HaveCauses, checkpoint_faults, told_faults}
use Rattle.session_run.specs.OneLife.{IsOpened}

-- a count has risen by as many from below, and to beyond
wider : (times before first last now : ℕ) → before ≤ first → last ≤ now → min (first + times) (2 ^ 64 - 1) ≤ last → min (before + times) (2 ^ 64 - 1) ≤ now
wider times before first last now low high up = grind arith

-- a count has risen by the greater of two where it has by each
by_more : (before m n now : ℕ) → min (before + m) (2 ^ 64 - 1) ≤ now → min (before + n) (2 ^ 64 - 1) ≤ now → min (before + max m n) (2 ^ 64 - 1) ≤ now
by_more before m n now first second = grind arith

module _ {L P : Type 0} {l : logs.Ghosts L} {p : disks.Ghosts P} (tells : Bool) (c : Cluster) (start : Start) (lists : List (List Entry)) (rounds : List ToldRound) (life : OpenLife L P l p) (old new : Volumes L P)
    (over : IsOver tells start lists rounds) (b : Beginning) (faults : List ℕ) (begun : IsOpened c b faults old life) (starts : start ≡ life_from c b faults) (counted : HaveCountedTold l p start lists new) (steps : List Step) (lines : flat_map lines_in steps ≡ all_lines rounds) (checkpoints : (lock : ℕ) → HasRisenBy (checkpoint_faults steps lock) (faults_at start lock) (faults_told start lock (at lists lock))) (all_built : AreOfBuilt start.banks steps) where
  abbrev times : ℕ → ℕ → ℕ
  times session lock = told_faults steps session lock

  abbrev last : ℕ → ℕ
  last lock = faults_told start lock (at lists lock)

  told : (session lock : ℕ) → HasRisenBy (times session lock) (faults_at start lock) (last lock)
  told session lock =
      let own : HasRisenBy (faults_in lock (lines_by session (flat_map lines_in steps))) (faults_at start lock) (last lock)
      = subst (λ (ls : List Line). HasRisenBy (faults_in lock (lines_by session ls)) (faults_at start lock) (last lock)) (sym lines) (faults_are_told tells start lists rounds session lock over) in
      by_more (faults_at start lock) (faults_in lock (lines_by session (flat_map lines_in steps))) (checkpoint_faults steps lock) (last lock) own (checkpoints lock)

  from_first : (lock count : ℕ) → count ≤ get_or faults lock 0 → count ≤ faults_at start lock
  from_first lock count low = subst (λ (fs : List ℕ). count ≤ get_or fs lock 0) (sym (ap (λ (s : Start). s.faults) starts)) low

  inside : (bank : ℕ) (volumes : List P) → length volumes ≡ c.banks → bank < length volumes → bank < start.banks
  inside bank volumes count low = let banks = ap (λ (s : Start). s.banks) starts in omega (arith, count, low, banks)

  -- the volume of a bank
  risen : (session lock bank : ℕ) (xs ys : List P) → bank < length xs → ((v : P) → slice_get xs bank ≡ Some v → p.faults v ≤ get_or faults lock 0)
      → (w : P) × (slice_get ys bank ≡ Some w) × (last lock ≤ p.faults w) → HasRisenAt p.faults (times session lock) bank xs ys
  risen session lock bank xs ys low first k =
      let v = there xs bank low in
      record {
        before = v.0;
        now = k.0;
        was = v.1;
        is = k.1;
        risen = wider (times session lock) (p.faults v.0) (faults_at start lock) (last lock) (p.faults k.0) (from_first lock (p.faults v.0) (first v.0 v.1)) k.2 (told session lock);
      }

  pub causes_told : HaveCauses l p steps old new
  causes_told = record {
    log = λ session. wider (times session log_lock) (l.faults old.log) (faults_at start log_lock) (last log_lock) (l.faults new.log) (from_first log_lock (l.faults old.log) begun.counted.log) counted.log (told session log_lock);
    xact = λ session bank low. risen session (xact_lock bank) bank old.xact.items new.xact.items low (begun.counted.banks of_xact bank) (counted.xact bank (inside bank old.xact.items begun.banks.xact low));
    subtrans = λ session bank low. risen session (subtrans_lock bank) bank old.subtrans.items new.subtrans.items low (begun.counted.banks of_subtrans bank) (counted.subtrans bank (inside bank old.subtrans.items begun.banks.subtrans low));
    offsets = λ session bank low. risen session (offsets_lock bank) bank old.offsets.items new.offsets.items low (begun.counted.banks of_offsets bank) (counted.offsets bank (inside bank old.offsets.items begun.banks.offsets low));
    members = λ session bank low. risen session (members_lock bank) bank old.members.items new.members.items low (begun.counted.banks of_members bank) (counted.members bank (inside bank old.members.items begun.banks.members low));
    built = subst (λ n. AreOfBuilt n steps) (ap (λ (s : Start). s.banks) starts ∙ sym begun.banks.xact) all_built;
  }
