-- The life that a run opens over volumes, anew or behind the records of their log, is open to a part of a script.
use Rattle.std.proofs.Common.{Bool, IsTrue, List, [], ap, false, inl, inr, length, refl, subst, sym, true, ℕ, ⊎_elim, ◌∙◌, ◌≡◌, ◌≤◌}
use Rattle.std.proofs.lemmas.Bool.{false≢true}
use Rattle.disk_core.specs.declared.log_disk.LogDisk as logs
use Rattle.disk_core.specs.declared.page_disk.PageDisk as disks
use Rattle.disk_core.specs.declared.media.Crash.{Crash}
use Rattle.disk_core.specs.declared.media.Volumes.{Volumes}
use Rattle.disk_core.specs.Media.{HasBanks}
use Rattle.tx_events.specs.declared.record.Counters.{Counters}
use Rattle.tx_events.proofs.Membership.{contains_has}
use Rattle.tx_events.specs.LifeBase.{LifeBase}
use Rattle.recoverable.specs.Fit.{KeptLog, base_at, log_end}
use Rattle.session_lang.specs.declared.script.Script.{Script}
use Rattle.run_law.specs.Lives.{RunStart}
use Rattle.engine_host.specs.declared.cluster.Cluster.{Cluster}
use Rattle.engine_host.specs.Opening.{Beginning, at_gate, nothing_before}
use Rattle.engine_life.specs.declared.life.OpenLife.{OpenLife}
use Rattle.engine_life.specs.FirstLives.{BeginsNew, IsFirstLife, MayBeginOver, MayMount, with_banks}
use Rattle.engine_life.specs.Lives.{FitsLog, IsNewLife}
use Rattle.engine_life.specs.declared.refusal.NoLife.{NoLife}
use Rattle.engine_life.specs.NextLives.{GoesOnLife, StayFit, WhenRefused}
use Rattle.engine_life.specs.Refusals.{IsUnopened}
use Rattle.engine_life.specs.Reopening.{behind}
use Rattle.session_run.specs.OneLife.{IsOpened}
use Rattle.session_run.specs.Runs.{cluster_of}
use Rattle.session_run.specs.Starts.{BeginsOver, OpensFor, StartsOver}
use Rattle.session_run.specs.Stops.{IsUnopenedFirst}

-- what a life begins with
abbrev pub base_so : Counters → Beginning → LifeBase
base_so counters b = record { counters = counters; committed = b.committed; recorded = b.recorded }

abbrev pub start_so : Cluster → Beginning → RunStart
start_so c b = record { number = b.number; base = base_so c.base b }

-- where the volumes tell, that is what their log gives
pub told_base : (told : Bool) (kept : KeptLog) (n : ℕ) (counters : Counters) → IsTrue told → (base_at kept n).counters ≡ counters → base_at kept n ≡ base_so counters (behind told kept n)
told_base true kept n counters tells same = ap (λ (c : Counters). base_so c (behind true kept n)) same
told_base false kept n counters tells same = absurd (false≢true tells)

-- where volumes tell, what this log gives at a number from the flushed one to its end
pub record IsBehind (kept : KeptLog) (c : Cluster) (b : Beginning) : Type 0 where
  pub flushed : kept.flushed ≤ b.number
  pub upto : b.number ≤ log_end kept
  pub base : base_at kept b.number ≡ base_so c.base b

module _ {L P : Type 0} {l : logs.Ghosts L} {p : disks.Ghosts P} where
  new_is_opened : (c : Cluster) (volumes : Volumes L P) (life : OpenLife L P l p) → (new : IsNewLife c volumes life) → IsOpened c (at_gate nothing_before new.gate) new.faults volumes life
  new_is_opened c volumes life new = record {
    banks = new.banks;
    counted = new.counted;
    begun = new.begun;
    right = λ told. new.right;
    told = λ rec among. absurd (contains_has [] rec among);
  }

  next_is_opened : (kept : KeptLog) (banks sessions : ℕ) (volumes : Volumes L P) (life : OpenLife L P l p) → HasBanks banks volumes → (goes : GoesOnLife kept sessions volumes life)
      → IsOpened goes.cluster (at_gate (behind p.tells kept goes.number) goes.gate) goes.faults volumes life
  next_is_opened kept banks sessions volumes life has goes = record {
    banks = subst (λ n. HasBanks n volumes) (sym (goes.banks ∙ has.xact)) has;
    counted = goes.counted;
    begun = goes.begun;
    right = goes.right;
    told = λ rec among told. told;
  }

  -- How the life began: with what, over the banks of this cluster and with its sessions, and behind which records.
  pub record IsOpenedSo (kept : KeptLog) (c : Cluster) (volumes : Volumes L P) (life : OpenLife L P l p) : Type 0 where
    pub cluster : Cluster
    pub begins : Beginning
    pub faults : List ℕ
    pub banks : cluster.banks ≡ c.banks
    pub sessions : cluster.sessions ≡ c.sessions
    pub opened : IsOpened cluster begins faults volumes life
    pub opens : IsTrue l.tells → OpensFor begins.number cluster.base (l.reads volumes.log)
    pub starts : (s : Script) (n : ℕ) → c ≡ with_banks (cluster_of s) n → StartsOver l p kept s volumes.log (start_so cluster begins)
    pub behind : IsTrue p.tells → FitsLog l p kept volumes → IsBehind kept cluster begins

  opened_new : (kept : KeptLog) (c : Cluster) (volumes : Volumes L P) (life : OpenLife L P l p) → BeginsNew c volumes life → IsOpenedSo kept c volumes life
  opened_new kept c volumes life first = record {
    cluster = c;
    begins = at_gate nothing_before first.new.gate;
    faults = first.new.faults;
    banks = refl;
    sessions = refl;
    opened = new_is_opened c volumes life first.new;
    opens = λ told. inl (first.opens told, refl);
    starts = λ s n same. inl (first.opens, ap (λ (d : Cluster). start_so d nothing_before) same);
    behind = λ told fits. absurd (first.unfit told kept fits);
  }

  opened_next : (kept : KeptLog) (c : Cluster) (volumes : Volumes L P) (life : OpenLife L P l p) → HasBanks c.banks volumes → GoesOnLife kept c.sessions volumes life → IsOpenedSo kept c volumes life
  opened_next kept c volumes life has goes = record {
    cluster = goes.cluster;
    begins = at_gate (behind p.tells kept goes.number) goes.gate;
    faults = goes.faults;
    banks = goes.banks ∙ has.xact;
    sessions = goes.sessions_are;
    opened = next_is_opened kept c.banks c.sessions volumes life has goes;
    opens = λ told. inr (goes.opened_to told);
    starts = λ s n same. inr (record {
      opens = goes.opened_to;
      base = λ told. told_base p.tells kept goes.number goes.cluster.base told (goes.base told).counters_are;
      flushed = λ told. (goes.base told).flushed;
      upto = λ told. (goes.base told).upto;
    });
    behind = λ told fits. record {
      flushed = (goes.base told).flushed;
      upto = (goes.base told).upto;
      base = told_base p.tells kept goes.number goes.cluster.base told (goes.base told).counters_are;
    };
  }

  pub opened_so : (kept : KeptLog) (c : Cluster) (volumes : Volumes L P) (life : OpenLife L P l p) → HasBanks c.banks volumes → IsFirstLife kept c volumes life → IsOpenedSo kept c volumes life
  opened_so kept c volumes life has first = ⊎_elim (opened_new kept c volumes life) (opened_next kept c volumes life has) first

module _ {L P : Type 0} (l : logs.Ghosts L) (p : disks.Ghosts P) (s : Script) (may : ℕ → Volumes L P → Type 0) (kept : KeptLog) where
  -- The first life of a run, over such volumes.
  pub record IsFirst (life : OpenLife L P l p) : Type 0 where
    pub volumes : Volumes L P
    pub so : IsOpenedSo kept (with_banks (cluster_of s) (length volumes.xact.items)) volumes life
    pub began : BeginsOver l p may kept s so.cluster.banks (start_so so.cluster so.begins) volumes

  -- so also of what the cluster's banks are
  pub may_over : (c : Cluster) → c ≡ cluster_of s → ((v : Volumes L P) → may s.banks v → MayBeginOver l p kept v) → (v : Volumes L P) → may c.banks v → MayBeginOver l p kept v
  may_over c same begins v mounted = begins v (subst (λ (d : Cluster). may d.banks v) same mounted)

  pub is_first : (c : Cluster) (life : OpenLife L P l p) → c ≡ cluster_of s → ((v : Volumes L P) → may s.banks v → MayBeginOver l p kept v)
      → (v : Volumes L P) × may c.banks v × IsFirstLife kept (with_banks c (length v.xact.items)) v life → IsFirst life
  is_first c life same begins k =
      let v = k.0 in
      let mounted : may s.banks v = subst (λ (d : Cluster). may d.banks v) same k.1 in
      let has : HasBanks (length v.xact.items) v = (begins v mounted).banks in
      let first = subst (λ (d : Cluster). IsFirstLife kept (with_banks d (length v.xact.items)) v life) same k.2 in
      let so = opened_so kept (with_banks (cluster_of s) (length v.xact.items)) v life has first in
      record {
        volumes = v;
        so = so;
        began = record { mounted = mounted; banks_are = so.banks; starts = so.starts s (length v.xact.items) refl };
      }

module _ {L P : Type 0} (l : logs.Ghosts L) (p : disks.Ghosts P) (s : Script) (kept : KeptLog) (is_new : Bool) (begins : ℕ → Volumes L P → Type 0) (gave : Volumes L P → Type 0) (falls : Crash → Volumes L P → Volumes L P → Type 0) (before now : ℕ) (gives : Volumes L P → Type 0) where
  -- none was opened
  pub unopened_first : (c : Cluster) (refusal : NoLife) → c ≡ cluster_of s → IsUnopened l p c (MayMount is_new begins gave) before now gives refusal
      → (is_new ≡ false → IsTrue p.tells → StayFit l p kept gave gives refusal) → IsUnopenedFirst l p (MayMount is_new begins gave) kept (is_new ≡ false) falls before now gives s refusal
  unopened_first c refusal same none stay = (
    subst (λ (k : Cluster). IsUnopened l p k (MayMount is_new begins gave) before now gives refusal) same none,
    λ was told other new given. ⊎_elim
        (λ (again : gave new). inl (may was new again))
        (λ (k : (old : Volumes L P) × gave old × (FitsLog l p kept old → WhenRefused l p kept old new refusal)). inr (k.0, may was k.0 k.1, k.2))
        (stay was told new given),
  )
    where
      may : is_new ≡ false → (v : Volumes L P) → gave v → MayMount is_new begins gave s.banks v
      may was v given = record { first = λ new. absurd (false≢true (sym was ∙ new)); again = λ e. given }
