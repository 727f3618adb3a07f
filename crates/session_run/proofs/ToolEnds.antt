-- What the endings of a run say.
use Rattle.std.proofs.Common.{◌≡◌, ◌≢◌, ◌⊎◌, ℕ, ◌+◌, ◌≤◌, List, [], ◌∷◌, ◌++◌, Option, ap, append-nil, codes, length, refl, suc, sym, subst, take, zero, ◌∙◌, arith, inl, inr, ⊎_elim}
use Rattle.std.proofs.KnownBytes.{Appends-trans}
use Rattle.std.proofs.Math.Seq.{take-append-add}
use Rattle.std.specs.Io.KnownBytes.{Appends}
use Rattle.disk_core.specs.declared.log_disk.LogDisk as logs
use Rattle.disk_core.specs.declared.page_disk.PageDisk as disks
use Rattle.disk_core.specs.declared.media.Crash.{Crash}
use Rattle.disk_core.specs.declared.media.Volumes.{Volumes}
use Rattle.run_law.specs.Tool.{IsRefused, IsRun, IsWholeRun}
use Rattle.script_gen.specs.Generated.{generated}
use Rattle.script_gen.specs.Words.{IsGen}
use Rattle.script_source.specs.declared.script.NoScript.{NoScript}
use Rattle.script_source.specs.declared.script.NoScript.TheVariants as no_scripts
use Rattle.recoverable.specs.Fit.{KeptLog}
use Rattle.engine_life.specs.declared.refusal.NoLife.{NoLife}
use Rattle.engine_life.specs.declared.refusal.NoLife.TheVariants as no_lives
use Rattle.engine_life.specs.Refusals.{IsOfVolumes}
use Rattle.tx_io.specs.Causes.{Rose}
use Rattle.session_run.specs.declared.ending.Ending.{Ending}
use Rattle.session_run.specs.declared.ending.Ending.TheVariants as endings
use Rattle.script_gen.specs.declared.task.Task.{Task}
use Rattle.session_run.specs.Leaves.{LeavesVolumes}
use Rattle.session_run.specs.Tool.{Ends, HasMounted, HasWritten, IsMemoryLast, IsTask, IsUnread, IsUnrun, IsUnrunBy, IsWholeSummary, TellsRefusal, TellsStop, damage_text, status_of, text_of, unread_by}
use Rattle.session_run.specs.declared.stop.Stopped.{Stopped}
use Rattle.session_run.specs.declared.stop.Stopped.TheVariants as stops
use Rattle.session_run.specs.Starts.{BeginsOver}
use Rattle.session_run.specs.Stops.{MountsFirst}
use Rattle.session_run.proofs.Endings.{gen_by, run_asked, run_not_gen}

-- ---- what is written, and then the last text

rose_up : (a b c : ℕ) → Rose a b → b ≤ c → Rose a c
rose_up a b c r le = grind arith

rose_down : (a b c : ℕ) → a ≤ b → Rose b c → Rose a c
rose_down a b c le r = grind arith

module _ (held mid new : Option (List ℕ)) (faults between now : ℕ) (later : faults ≤ between) (then : between ≤ now) where
  rose_more : Rose faults between → Rose faults now
  rose_more r = rose_up faults between now r then

  pub written_on : (written : List ℕ) (e : Ending) → HasWritten held mid faults between written e → Appends mid new (text_of e) → HasWritten held new faults now (written ++ text_of e) e
  written_on written endings.WriteFault w f = (rose_more w.0, w.1, subst (Appends held new) (append-nil (take w.1 written) ∙ ap (take w.1) (sym (append-nil written))) (Appends-trans held mid new (take w.1 written) [] w.2 f))
  written_on written endings.Report w f = Appends-trans held mid new written [] w f
  written_on written (endings.Summary text) w f = Appends-trans held mid new written text.items w f
  written_on written (endings.NoScript text) w f = Appends-trans held mid new written text.items w f
  written_on written endings.ReadFault w f = Appends-trans held mid new written (text_of endings.ReadFault) w f
  written_on written endings.Memory w f = Appends-trans held mid new written (text_of endings.Memory) w f
  written_on written endings.Device w f = Appends-trans held mid new written (text_of endings.Device) w f
  written_on written (endings.Damaged text) w f = Appends-trans held mid new written text.items w f
  written_on written endings.Full w f = Appends-trans held mid new written (text_of endings.Full) w f

  -- so with its status, or the sink failed
  pub told_on : (written : List ℕ) (status : ℕ) (e : Ending) → HasWritten held mid faults between written e → ((status ≡ status_of e) × Appends mid new (text_of e)) ⊎ ((status ≡ 4) × Rose between now)
      → ((status ≡ status_of e) × HasWritten held new faults now (written ++ text_of e) e) ⊎ ((status ≡ 4) × Rose faults now)
  told_on written status e w k = ⊎_elim
      (λ (a : (status ≡ status_of e) × Appends mid new (text_of e)). inl (a.0, written_on written e w a.1))
      (λ (b : (status ≡ 4) × Rose between now). inr (b.0, rose_down faults between now later b.1)) k

  front_behind : (written text : List ℕ) (k : ℕ) → Appends held mid written → Appends mid new (take k text) → (n : ℕ) × Appends held new (take n (written ++ text))
  front_behind written text k w f = (length written + k, subst (Appends held new) (sym (take-append-add written text k)) (Appends-trans held mid new written (take k text) w f))

  pub front_on : (written : List ℕ) (e : Ending) → HasWritten held mid faults between written e → ((k : ℕ) × Appends mid new (take k (text_of e))) → (n : ℕ) × Appends held new (take n (written ++ text_of e))
  front_on written endings.WriteFault w f = (w.1, subst (Appends held new) (ap (λ t. take w.1 written ++ t) (take_none f.0) ∙ append-nil (take w.1 written) ∙ ap (take w.1) (sym (append-nil written))) (Appends-trans held mid new (take w.1 written) (take f.0 []) w.2 f.1))
    where
      take_none : (k : ℕ) → ◌≡◌ {A = List ℕ} (take k []) []
      take_none zero = refl
      take_none (suc k) = refl
  front_on written endings.Report w f = front_behind written [] f.0 w f.1
  front_on written (endings.Summary text) w f = front_behind written text.items f.0 w f.1
  front_on written (endings.NoScript text) w f = front_behind written text.items f.0 w f.1
  front_on written endings.ReadFault w f = front_behind written (text_of endings.ReadFault) f.0 w f.1
  front_on written endings.Memory w f = front_behind written (text_of endings.Memory) f.0 w f.1
  front_on written endings.Device w f = front_behind written (text_of endings.Device) f.0 w f.1
  front_on written (endings.Damaged text) w f = front_behind written text.items f.0 w f.1
  front_on written endings.Full w f = front_behind written (text_of endings.Full) f.0 w f.1

-- ---- of which volumes were mounted

pub unread_unmounted : (refusal : NoScript) → HasMounted (unread_by refusal) → ⊥
unread_unmounted (no_scripts.Refused text) m = m
unread_unmounted no_scripts.ReadFault m = m
unread_unmounted no_scripts.Memory m = m

-- the ending of a refusal comes of volumes only where that does
pub refused_mounted : (refusal : NoLife) (e : Ending) → TellsRefusal refusal e → HasMounted e → IsOfVolumes refusal
refused_mounted refusal endings.Report t m = absurd t
refused_mounted refusal (endings.Summary text) t m = absurd t
refused_mounted refusal (endings.NoScript text) t m = absurd m
refused_mounted refusal endings.ReadFault t m = absurd m
refused_mounted refusal endings.WriteFault t m = absurd m
refused_mounted refusal endings.Memory t m = absurd m
refused_mounted refusal endings.Device t m = absurd m
refused_mounted refusal (endings.Damaged text) t m = subst IsOfVolumes (sym t.2) tt
refused_mounted refusal endings.Full t m = subst IsOfVolumes (sym t) tt

-- so where a run stopped
pub stopped_mounted : (stop : Stopped) (e : Ending) → TellsStop stop e → HasMounted e → MountsFirst stop
stopped_mounted stops.Sink e t m = tt
stopped_mounted (stops.NoLife refusal) e t m = refused_mounted refusal e t m

-- the statuses of such endings
abbrev pub Mounted : ℕ → Type 0
Mounted status = (status ≡ 0) ⊎ ((status ≡ 7) ⊎ (status ≡ 9))

module _ (A : Type 0) (status : ℕ) (done : status ≡ 0 → A) (seven : status ≡ 7 → A) (nine : status ≡ 9 → A) where
  by_mounted : Mounted status → A
  by_mounted m = ⊎_elim done (λ (k : (status ≡ 7) ⊎ (status ≡ 9)). ⊎_elim seven nine k) m

pub has_mounted : (e : Ending) → Mounted (status_of e) → HasMounted e
has_mounted endings.Report m = tt
has_mounted (endings.Summary text) m = tt
has_mounted (endings.Damaged text) m = tt
has_mounted endings.Full m = tt
has_mounted e m = by_mounted _ (status_of e) (λ s. omega (arith, s)) (λ s. omega (arith, s)) (λ s. omega (arith, s)) m

unlike : (n status : ℕ) → status ≡ n → n ≢ 0 → n ≢ 7 → n ≢ 9 → Mounted status → ⊥
unlike n status is done seven nine m = by_mounted ⊥ status (λ s. done (sym is ∙ s)) (λ s. seven (sym is ∙ s)) (λ s. nine (sym is ∙ s)) m

-- words that are refused mount nothing
pub words_unmounted : (A B : Type 0) (status : ℕ) → ((status ≡ 2) × A) ⊎ ((status ≡ 4) × B) → Mounted status → ⊥
words_unmounted A B status ends m = ⊎_elim
    (λ (a : (status ≡ 2) × A). unlike 2 status a.0 (λ q. omega (arith, q)) (λ q. omega (arith, q)) (λ q. omega (arith, q)) m)
    (λ (b : (status ≡ 4) × B). unlike 4 status b.0 (λ q. omega (arith, q)) (λ q. omega (arith, q)) (λ q. omega (arith, q)) m) ends

-- ---- by the status

pub no_words : (e : Ending) → status_of e ≡ 2 → ⊥
no_words endings.Report s = omega (arith, s)
no_words (endings.Summary text) s = omega (arith, s)
no_words e s = omega (arith, s)

pub known_status : (e : Ending) → (status_of e ≤ 9) × (status_of e ≢ 8)
known_status endings.Report = (omega arith, λ s. omega (arith, s))
known_status (endings.Summary text) = (omega arith, λ s. omega (arith, s))
known_status e = (omega arith, λ s. omega (arith, s))

pub is_unread : (e : Ending) → (status_of e ≡ 1) ⊎ (status_of e ≡ 3) → IsUnread e
is_unread (endings.NoScript text) s = tt
is_unread endings.ReadFault s = tt
is_unread e s = ⊎_elim (λ (one : status_of e ≡ 1). omega (arith, one)) (λ (three : status_of e ≡ 3). omega (arith, three)) s

-- all was written with the ending's status, or the sink failed
abbrev pub Told : Option (List ℕ) → Option (List ℕ) → ℕ → ℕ → List ℕ → ℕ → Ending → Type 0
Told held held' faults faults' written status e =
    ((status ≡ status_of e) × HasWritten held held' faults faults' (written ++ text_of e) e) ⊎ ((status ≡ 4) × Rose faults faults')

pub told_as : (F : List ℕ → Type 0) (B : Type 0) (status is : ℕ) (text : List ℕ) (e : Ending) → is ≡ status_of e → text ≡ text_of e
    → ((status ≡ is) × F text) ⊎ ((status ≡ 4) × B) → ((status ≡ status_of e) × F (text_of e)) ⊎ ((status ≡ 4) × B)
told_as F B status is text e is_status is_text k = ⊎_elim
    (λ (a : (status ≡ is) × F text). inl (a.0 ∙ is_status, subst F is_text a.1))
    (λ (b : (status ≡ 4) × B). inr b) k

module _ (held held' : Option (List ℕ)) (faults faults' : ℕ) (written : List ℕ) (status : ℕ) (e : Ending) (told : Told held held' faults faults' written status e) where
  abbrev Whole : Type 0
  Whole = HasWritten held held' faults faults' (written ++ text_of e) e

  ended_so : (n : ℕ) → status ≡ n → n ≢ 4 → (status_of e ≡ n) × Whole
  ended_so n s other = ⊎_elim
      (λ (a : (status ≡ status_of e) × Whole). (sym a.0 ∙ s, a.1))
      (λ (b : (status ≡ 4) × Rose faults faults'). absurd (other (sym s ∙ b.0))) told

  -- a fault is the sink's
  fault_by : status ≡ 4 → Rose faults faults'
  fault_by s = ⊎_elim
      (λ (a : (status ≡ status_of e) × Whole). by_fault e (sym a.0 ∙ s) a.1)
      (λ (b : (status ≡ 4) × Rose faults faults'). b.1) told
    where
      by_fault : (d : Ending) → status_of d ≡ 4 → HasWritten held held' faults faults' (written ++ text_of d) d → Rose faults faults'
      by_fault endings.WriteFault q w = w.0
      by_fault d q w = absurd (omega (arith, q))

  known : (status ≤ 9) × (status ≢ 8)
  known = ⊎_elim
      (λ (a : (status ≡ status_of e) × Whole). subst (λ n. (n ≤ 9) × (n ≢ 8)) (sym a.0) (known_status e))
      (λ (b : (status ≡ 4) × Rose faults faults'). subst (λ n. (n ≤ 9) × (n ≢ 8)) (sym b.0) (omega arith, λ q. omega (arith, q))) told

module _ {L P : Type 0} (l : logs.Ghosts L) (p : disks.Ghosts P) (words : List (List ℕ)) (task : Task) (is : IsTask words task) (left left' held held' : Option (List ℕ)) (faults faults' sink sink' : ℕ) (first : ℕ → Volumes L P → Type 0) (kept : KeptLog) (used : Type 0) (falls : Crash → Volumes L P → Volumes L P → Type 0) (before now : ℕ) (gives : Volumes L P → Type 0) (written : List ℕ) where
  abbrev Ended : Ending → Type 0
  Ended e = Ends l p task left left' faults faults' first kept used falls before now gives written e

  abbrev Wrote : Ending → Type 0
  Wrote e = HasWritten held held' sink sink' (written ++ text_of e) e

  abbrev HoldsReport : Type 0
  HoldsReport =
      (run : IsWholeRun p.tells left left' held held')
      × LeavesVolumes l p (BeginsOver l p first kept run.answer.script run.answer.banks run.answer.start) falls gives run.answer.report.lives

  abbrev HoldsSummary : Type 0
  HoldsSummary =
      (seed size : ℕ) × IsGen words seed size × (sum : IsWholeSummary p.tells seed size held held')
      × LeavesVolumes l p (BeginsOver l p first kept (generated seed size) sum.counts.banks sum.counts.start) falls gives sum.counts.report.lives

  abbrev Unrun : NoLife → List ℕ → Type 0
  Unrun refusal line = IsUnrunBy l p words left left' first kept used falls before now gives held held' refusal line

  -- what the ending of each status says
  pub record Says (status : ℕ) (e : Ending) : Type 0 where
    pub done : status ≡ 0 → IsRun words → HoldsReport
    pub counted : status ≡ 0 → (IsRun words → ⊥) → HoldsSummary
    pub script : status ≡ 1 → IsRun words × IsRefused left left' held held'
    pub refused : status ≡ 2 → ⊥
    pub read : status ≡ 3 → IsRun words × Rose faults faults' × Appends held held' (codes "read-fault" ++ 10 ∷ [])
    pub write : status ≡ 4 → Rose sink sink'
    pub device : status ≡ 5 → Unrun no_lives.Device (codes "device" ++ 10 ∷ [])
    pub memory : status ≡ 6 → IsMemoryLast l p words left left' first kept used falls before now gives held held'
    pub damaged : status ≡ 7 → (at : ℕ) × Unrun (no_lives.Damaged at) (damage_text at)
    pub full : status ≡ 9 → Unrun no_lives.Full (codes "log-full" ++ 10 ∷ [])
    pub statuses : (status ≤ 9) × (status ≢ 8)
    pub unread : (status ≡ 1) ⊎ (status ≡ 3) → IsUnread e
    pub mounted : Mounted status → HasMounted e

  none_before : (text : List ℕ) → written ≡ [] → Appends held held' (written ++ text) → Appends held held' text
  none_before text none w = subst (λ (t : List ℕ). Appends held held' (t ++ text)) none w

  done : (e : Ending) → Ended e → (status_of e ≡ 0) × Wrote e → IsRun words → HoldsReport
  done endings.Report k w run = (record { text = written; answer = k.1; written = subst (Appends held held') (append-nil written) w.1 }, k.2)
  done (endings.Summary text) k w run = absurd (run_not_gen words k.1 k.2 run (gen_by words task k.1 k.2 is k.3))
  done e k w run = absurd (omega (arith, w.0))

  counted : (e : Ending) → Ended e → (status_of e ≡ 0) × Wrote e → (IsRun words → ⊥) → HoldsSummary
  counted endings.Report k w other = absurd (other (run_asked words task is k.0))
  counted (endings.Summary text) k w other = (k.1, k.2, gen_by words task k.1 k.2 is k.3, record { text = text.items; counts = k.4; written = none_before text.items k.0 w.1 }, k.5)
  counted e k w other = absurd (omega (arith, w.0))

  script : (e : Ending) → Ended e → (status_of e ≡ 1) × Wrote e → IsRun words × IsRefused left left' held held'
  script (endings.NoScript text) k w = (run_asked words task is k.1, record { text = text.items; refusal = k.2; written = none_before text.items k.0 w.1 })
  script e k w = absurd (omega (arith, w.0))

  read : (e : Ending) → Ended e → (status_of e ≡ 3) × Wrote e → IsRun words × Rose faults faults' × Appends held held' (codes "read-fault" ++ 10 ∷ [])
  read endings.ReadFault k w = (run_asked words task is k.1, k.2, none_before (codes "read-fault" ++ 10 ∷ []) k.0 w.1)
  read e k w = absurd (omega (arith, w.0))

  device : (e : Ending) → Ended e → (status_of e ≡ 5) × Wrote e → Unrun no_lives.Device (codes "device" ++ 10 ∷ [])
  device endings.Device k w = (task, is, written, k, w.1)
  device e k w = absurd (omega (arith, w.0))

  memory : (e : Ending) → Ended e → (status_of e ≡ 6) × Wrote e → IsMemoryLast l p words left left' first kept used falls before now gives held held'
  memory endings.Memory k w = ⊎_elim
      (λ (none : written ≡ []). inl (none_before (codes "memory" ++ 10 ∷ []) none w.1))
      (λ (u : IsUnrun l p task left left' first kept used falls before now gives written no_lives.Memory). inr (task, is, written, u, w.1)) k
  memory e k w = absurd (omega (arith, w.0))

  damaged : (e : Ending) → Ended e → (status_of e ≡ 7) × Wrote e → (at : ℕ) × Unrun (no_lives.Damaged at) (damage_text at)
  damaged (endings.Damaged text) k w = (k.0, (task, is, written, k.2, subst (λ (t : List ℕ). Appends held held' (written ++ t)) k.1 w.1))
  damaged e k w = absurd (omega (arith, w.0))

  full : (e : Ending) → Ended e → (status_of e ≡ 9) × Wrote e → Unrun no_lives.Full (codes "log-full" ++ 10 ∷ [])
  full endings.Full k w = (task, is, written, k, w.1)
  full e k w = absurd (omega (arith, w.0))

  pub says : (status : ℕ) (e : Ending) → Ended e → Told held held' sink sink' written status e → Says status e
  says status e k told =
      let at : (n : ℕ) → n ≢ 4 → status ≡ n → (status_of e ≡ n) × Wrote e = λ n other s. ended_so held held' sink sink' written status e told n s other in record {
        done = λ s run. done e k (at 0 (λ q. omega (arith, q)) s) run;
        counted = λ s other. counted e k (at 0 (λ q. omega (arith, q)) s) other;
        script = λ s. script e k (at 1 (λ q. omega (arith, q)) s);
        refused = λ s. no_words e (at 2 (λ q. omega (arith, q)) s).0;
        read = λ s. read e k (at 3 (λ q. omega (arith, q)) s);
        write = fault_by held held' sink sink' written status e told;
        device = λ s. device e k (at 5 (λ q. omega (arith, q)) s);
        memory = λ s. memory e k (at 6 (λ q. omega (arith, q)) s);
        damaged = λ s. damaged e k (at 7 (λ q. omega (arith, q)) s);
        full = λ s. full e k (at 9 (λ q. omega (arith, q)) s);
        statuses = known held held' sink sink' written status e told;
        unread = ⊎_elim
            (λ (s : status ≡ 1). is_unread e (inl (at 1 (λ q. omega (arith, q)) s).0))
            (λ (s : status ≡ 3). is_unread e (inr (at 3 (λ q. omega (arith, q)) s).0));
        mounted = by_mounted (HasMounted e) status
            (λ s. has_mounted e (inl (at 0 (λ q. omega (arith, q)) s).0))
            (λ s. has_mounted e (inr (inl (at 7 (λ q. omega (arith, q)) s).0)))
            (λ s. has_mounted e (inr (inr (at 9 (λ q. omega (arith, q)) s).0)));
      }
