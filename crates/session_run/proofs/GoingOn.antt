-- A crash, and the next life.
use Rattle.std.proofs.Common.{Bool, Err, IfErr, IfOk, IsTrue, List, None, Ok, Option, Result, Some, [], ap, arith, false, inl, inr, length, refl, subst, suc, sym, take, true, zero, ℕ, ⊎_elim, ◌++◌, ◌+◌, ◌-◌, ◌∙◌, ◌∷◌, ◌<◌, ◌≡◌, ◌≤◌}
use Rattle.std.proofs.lemmas.Bool.{false≢true}
use Rattle.std.proofs.lemmas.Option.{same_Some}
use Rattle.std.specs.List.{slice_get}
use Rattle.std.specs.Prelude.{IsSomeAnd}
use Rattle.disk_core.specs.declared.log_disk.LogDisk as logs
use Rattle.disk_core.specs.declared.page_disk.PageDisk as disks
use Rattle.disk_core.specs.declared.media.Crash.{Crash}
use Rattle.disk_core.specs.declared.media.Volumes.{Volumes}
use Rattle.disk_core.specs.Faults.{HasRisen}
use Rattle.disk_core.specs.Media.{AllCrashed, EachCrashed, HasBanks, HaveSameBanks, LogCrashed, PagesCrashed}
use Rattle.disk_core.specs.Pages.{Pages}
use Rattle.tx_events.specs.declared.record.Rec.{Rec}
use Rattle.tx_model.specs.declared.report.How.{How}
use Rattle.tx_model.specs.declared.report.Life.{Life}
use Rattle.tx_model.specs.declared.report.LifeReport.{LifeReport}
use Rattle.wal_core.specs.Opening.{opened}
use Rattle.tx_events.specs.LifeBase.{base_after}
use Rattle.report_law.specs.Lives.{GoesOnFrom, base_of}
use Rattle.report_law.proofs.GoingOn.{behind_push, goes_on_at}
use Rattle.session_lang.specs.declared.script.Script.{Script}
use Rattle.run_law.specs.Lives.{LifePart, RunStart}
use Rattle.recoverable.specs.Clusters.{IsLeft}
use Rattle.recoverable.specs.Fit.{KeptLog, base_at, log_end}
use Rattle.recoverable.specs.Volumes.{Left}
use Rattle.tx_core.specs.declared.entry.Start.{Start}
use Rattle.engine_host.specs.declared.cluster.Cluster.{Cluster}
use Rattle.engine_host.specs.Opening.{Beginning, life_from}
use Rattle.engine_life.specs.declared.closed.ClosedLife.{ClosedLife}
use Rattle.engine_life.specs.declared.life.OpenLife.{OpenLife}
use Rattle.engine_life.specs.declared.refusal.NoLife.{NoLife}
use Rattle.engine_life.specs.declared.refusal.NoLife.TheVariants as no_lives
use Rattle.engine_life.specs.Lives.{FitsLog}
use Rattle.engine_life.specs.FirstLives.{MayBeginOver, MayMount, with_banks}
use Rattle.engine_life.specs.NextLives.{CrashGoesOn, MayGoOn, StayFit, WhenRefused}
use Rattle.engine_life.specs.Refusals.{HasRestedVolumes, IsUnopened}
use Rattle.engine_life.specs.Reopening.{LeavesLog}
use Rattle.engine_life.proofs.GoingOn.{may_begin}
use Rattle.session_run.specs.Fits.{EndsWithLife, FitsLife}
use Rattle.session_run.specs.Going.{HasGoneOn, IsCrashed, IsPartTold, IsRunning}
use Rattle.session_run.specs.Lives.{HasFallen}
use Rattle.session_run.specs.OneLife.{life_of, life_over}
use Rattle.session_run.specs.Runs.{cluster_of}
use Rattle.session_run.specs.Stops.{IsUndamaged, StayFitBehind, StillFit}
use Rattle.session_run.proofs.Handed.{no_log}
use Rattle.session_run.proofs.Opening.{opened_so}
use Rattle.session_run.proofs.Running.{comes_push, push_some}

-- ---- the log that a life leaves

-- a log is found where there is one, if the volumes tell of it
pub found_where : (a b : Bool) (F : KeptLog → Type 0) → (IsTrue a → IsTrue b → (kept : KeptLog) × F kept) → (kept : KeptLog) × (IsTrue a → IsTrue b → F kept)
found_where true true F f = let k = f refl refl in (k.0, λ x y. k.1)
found_where true false F f = (no_log, λ x y. absurd (false≢true y))
found_where false b F f = (no_log, λ x y. absurd (false≢true x))

-- the life that started so is the one that began so
pub life_over_is : {L P : Type 0} {l : logs.Ghosts L} (c : Cluster) (b : Beginning) (faults : List ℕ) (start : Start) (closed : ClosedLife L P l) → start ≡ life_from c b faults → life_over start closed ≡ life_of c b closed
life_over_is c b faults start closed same =
    let number : (b.number + 1) - 1 ≡ b.number = omega arith in
    ap (λ (t : Start). life_over t closed) same ∙ ap (λ n. life_of c (record b { number = n }) closed) number

-- ---- results

module _ {T E : Type 0} where
  pub ok_so : (A B : T → Type 0) (r : Result T E) → ((x : T) → A x → B x) → IfOk r A → IfOk r B
  ok_so A B (Ok x) f k = f x k
  ok_so A B (Err e) f k = tt

  pub err_so : (A B : E → Type 0) (r : Result T E) → ((e : E) → A e → B e) → IfErr r A → IfErr r B
  err_so A B (Ok x) f k = tt
  err_so A B (Err e) f k = f e k

-- ---- no life goes on

pub risen_from : (a b c : ℕ) → a ≤ b → HasRisen b c → HasRisen a c
risen_from a b c low risen = grind arith

ok_not_err : {X E : Type 0} (r : Result X E) (x : X) (e : E) → r ≡ Ok x → r ≡ Err e → ⊥
ok_not_err r x e a b = cc

module _ {P : Type 0} (R : P → P → Type 0) where
  -- what each became
  became : (xs ys : List P) → EachCrashed R xs ys → (n : ℕ) (x : P) → slice_get xs n ≡ Some x → (y : P) × (slice_get ys n ≡ Some y) × R x y
  became [] [] e n x at = absurd cc
  became (z ∷ xs) (y ∷ ys) e zero x at = (y, refl, subst (λ (w : P). R w y) (same_Some z x at) e.0)
  became (z ∷ xs) (y ∷ ys) e (suc n) x at = became xs ys e.1 n x at
  became [] (y ∷ ys) e n x at = absurd e
  became (z ∷ xs) [] e n x at = absurd e

module _ {L P : Type 0} (l : logs.Ghosts L) (p : disks.Ghosts P) where
  -- as many volumes of each kind
  pub same_banks : (n : ℕ) (old new : Volumes L P) → HasBanks n old → HaveSameBanks old new → HasBanks n new
  same_banks n old new has same = record {
    some = has.some;
    few = has.few;
    xact = same.xact ∙ has.xact;
    subtrans = same.subtrans ∙ has.subtrans;
    offsets = same.offsets ∙ has.offsets;
    members = same.members ∙ has.members;
  }

  -- volumes that a crash left fit a log that the ones before did
  pub may_go_on : (kept : KeptLog) (n : ℕ) (old : Volumes L P) (gives : Volumes L P → Type 0) → HasBanks n old → ((v : Volumes L P) → gives v → HaveSameBanks old v)
      → (IsTrue l.tells → IsTrue p.tells → (v : Volumes L P) → gives v → AllCrashed (LogCrashed l.reads l.images l.faults) (PagesCrashed p.pages p.images p.faults) old v)
      → (IsTrue p.tells → IsTrue l.tells) → (IsTrue p.tells → IsTrue l.tells → FitsLog l p kept old) → CrashGoesOn l p → (v : Volumes L P) → gives v → HasBanks n v × MayGoOn l p kept v
  may_go_on kept n old gives has same crashed tells fit carries v given =
      (same_banks n old v has (same v given), carries kept old v (λ lt pt. crashed lt pt v given) (λ pt. (tells pt, fit pt (tells pt))))

  -- a media that isn't new gives them again, of however many banks it is asked
  pub mounts_again : (kept : KeptLog) (n banks : ℕ) (is_new : Bool) (begins : ℕ → Volumes L P → Type 0) (gives : Volumes L P → Type 0) → is_new ≡ false → ((v : Volumes L P) → gives v → HasBanks n v × MayGoOn l p kept v)
      → (v : Volumes L P) → MayMount is_new begins gives banks v → MayBeginOver l p kept v
  mounts_again kept n banks is_new begins gives old holds v mounted = let k = holds v (mounted.again old) in may_begin l p kept n v k.0 k.1

  abbrev Crashed : Volumes L P → Volumes L P → Type 0
  Crashed old new = AllCrashed (LogCrashed l.reads l.images l.faults) (PagesCrashed p.pages p.images p.faults) old new

  abbrev pages_read : Option P → Pages
  pages_read None = λ q. None
  pages_read (Some disk) = p.pages disk

  -- what stands on volumes behind a crash is one of their images before it
  read_there : (old new : List P) → EachCrashed (PagesCrashed p.pages p.images p.faults) old new → (bank : ℕ) (disk : P) → slice_get old bank ≡ Some disk → p.images disk (pages_read (slice_get new bank))
  read_there old new crashed bank disk there =
      let now = became (PagesCrashed p.pages p.images p.faults) old new crashed bank disk there in
      subst (λ (o : Option P). p.images disk (pages_read o)) (sym now.1) now.2.image

  -- the log of volumes that fitted one before the crash isn't damaged
  no_damage : (kept : KeptLog) (old new : Volumes L P) (at : ℕ) → FitsLog l p kept old → Crashed old new → opened (l.reads new.log) ≡ Err at → ⊥
  no_damage kept old new at fit c damaged =
      let left : Left = record {
        log = l.reads new.log;
        xact = λ bank. pages_read (slice_get new.xact.items bank);
        offsets = λ bank. pages_read (slice_get new.offsets.items bank);
        members = λ bank. pages_read (slice_get new.members.items bank);
      } in
      let is : IsLeft l p old.log old.xact.items old.offsets.items old.members.items left = record {
        log_image = c.log.image;
        states = read_there old.xact.items new.xact.items c.xact;
        offsets_are = read_there old.offsets.items new.offsets.items c.offsets;
        members_are = read_there old.members.items new.members.items c.members;
      } in
      ok_not_err (opened (l.reads new.log)) _ at (fit.each left is).opens.opens damaged

  -- counted from before, over volumes of which more is said
  pub since : (c : Cluster) (gave more : ℕ → Volumes L P → Type 0) (gives : Volumes L P → Type 0) (before mid now : ℕ) → before ≤ mid → ((v : Volumes L P) → gave c.banks v → more c.banks v)
      → (refusal : NoLife) → IsUnopened l p c gave mid now gives refusal → IsUnopened l p c more before now gives refusal
  since c gave more gives before mid now later wider (no_lives.Damaged at) is = (is.0, is.1, wider is.0 is.2, is.3, is.4)
  since c gave more gives before mid now later wider no_lives.Device is = ⊎_elim
      (λ (risen : HasRisen mid now). inl (risen_from before mid now later risen))
      (λ (rested : HasRestedVolumes l p c gave gives no_lives.Device). inr (rested.0, rested.1, wider rested.0 rested.2, rested.3, rested.4)) is
  since c gave more gives before mid now later wider no_lives.Full is = (is.0, is.1, wider is.0 is.2, is.3, is.4)
  since c gave more gives before mid now later wider no_lives.Memory is = tt

  module _ (c : Cluster) (falls : Crash → Volumes L P → Volumes L P → Type 0) (how : How) (left : Volumes L P) (gave : ℕ → Volumes L P → Type 0) (gives : Volumes L P → Type 0) (before mid now : ℕ)
      (later : before ≤ mid) (fallen : (v : Volumes L P) → gave c.banks v → HasFallen l p falls how left v) where
    undamaged : (kept : KeptLog) → (IsTrue p.tells → IsTrue l.tells → FitsLog l p kept left) → (refusal : NoLife) → IsUnopened l p c gave mid now gives refusal → IsUndamaged l p refusal
    undamaged kept fit (no_lives.Damaged place) is = λ at same lt pt. no_damage kept left is.0 place (fit pt lt) ((fallen is.0 is.2).crashed lt pt) (is.4 lt)
    undamaged kept fit no_lives.Device is = λ at same lt pt. absurd (let q : no_lives.Device ≡ no_lives.Damaged at = same in cc)
    undamaged kept fit no_lives.Full is = λ at same lt pt. absurd (let q : no_lives.Full ≡ no_lives.Damaged at = same in cc)
    undamaged kept fit no_lives.Memory is = λ at same lt pt. absurd (let q : no_lives.Memory ≡ no_lives.Damaged at = same in cc)

    pub none_goes_on : (kept : KeptLog) → (IsTrue p.tells → IsTrue l.tells → FitsLog l p kept left) → (refusal : NoLife) → IsUnopened l p c gave mid now gives refusal → IsCrashed l p c falls how before now left gives refusal
    none_goes_on kept fit refusal is = (since c gave (λ n v. HasFallen l p falls how left v) gives before mid now later fallen refusal is, undamaged kept fit refusal is)

  -- the media failed at the crash
  pub crash_failed : (c : Cluster) (falls : Crash → Volumes L P → Volumes L P → Type 0) (how : How) (left : Volumes L P) (gives : Volumes L P → Type 0) (before now : ℕ) → HasRisen before now → IsCrashed l p c falls how before now left gives no_lives.Device
  crash_failed c falls how left gives before now risen = (inl risen, λ at same lt pt. absurd (let q : no_lives.Device ≡ no_lives.Damaged at = same in cc))

-- ---- what is left then

module _ {L P : Type 0} (l : logs.Ghosts L) (p : disks.Ghosts P) (log : KeptLog) where
  -- what the media gave and a refused opening left fits the log
  module _ (came gave gives : Volumes L P → Type 0) (before now : ℕ) (fits : (v : Volumes L P) → gave v → came v × FitsLog l p log v) where
    by_stay : (refusal : NoLife) → ((old new : Volumes L P) → WhenRefused l p log old new refusal → LeavesLog l p old new log) → StayFit l p log gave gives refusal → StillFit l p log came gives
    by_stay refusal leaves stay new given = ⊎_elim
        (λ (again : gave new). inl (fits new again))
        (λ (k : (old : Volumes L P) × gave old × (FitsLog l p log old → WhenRefused l p log old new refusal)).
        let f = fits k.0 k.1 in
        inr (k.0, f.0, f.1, leaves k.0 new (k.2 f.1)))
        (stay new given)

    pub still_fit : (refusal : NoLife) → StayFit l p log gave gives refusal → StayFitBehind l p log came before now gives refusal
    still_fit (no_lives.Damaged at) stay = by_stay (no_lives.Damaged at) (λ old new w. w) stay
    still_fit no_lives.Device stay = inr (by_stay no_lives.Device (λ old new w. w) stay)
    still_fit no_lives.Full stay = by_stay no_lives.Full (λ old new w. w) stay
    still_fit no_lives.Memory stay = tt

  -- counted from before, of volumes of which more is said
  module _ (came more gives : Volumes L P → Type 0) (before mid now : ℕ) (later : before ≤ mid) (wider : (v : Volumes L P) → came v → more v) where
    still_wider : StillFit l p log came gives → StillFit l p log more gives
    still_wider still new given = ⊎_elim
        (λ (a : came new × FitsLog l p log new). inl (wider new a.0, a.1))
        (λ (b : (old : Volumes L P) × came old × FitsLog l p log old × LeavesLog l p old new log). inr (b.0, wider b.0 b.1, b.2, b.3))
        (still new given)

    pub stay_wider : (refusal : NoLife) → StayFitBehind l p log came mid now gives refusal → StayFitBehind l p log more before now gives refusal
    stay_wider (no_lives.Damaged at) still = still_wider still
    stay_wider no_lives.Device still = ⊎_elim
        (λ (risen : HasRisen mid now). inl (risen_from before mid now later risen))
        (λ (k : StillFit l p log came gives). inr (still_wider k)) still
    stay_wider no_lives.Full still = still_wider still
    stay_wider no_lives.Memory still = tt

-- ---- the next life is open

-- a log ends with the records of a life, and a life that begins with what it gives at a number goes on from that one
pub from_last : (kept : KeptLog) (before next : Life) (n : ℕ) → EndsWithLife before kept → before.from < before.flushed → kept.flushed ≤ n → n ≤ log_end kept → next.from ≡ n → base_of next ≡ base_at kept n → GoesOnFrom before next
from_last kept before next n ends begun low upto from is =
    let flushed = ends.flushed in
    let size = ap (λ (t : List Rec). length t) ends.recs in
    goes_on_at before next kept.base kept.first ends.past ends.own ends.checkpoint ends.number ends.base begun (omega (arith, flushed, low, from)) (omega (arith, upto, size, from))
    (is ∙ ap (λ (t : List Rec). base_after kept.base (take (n - kept.first) t)) ends.recs ∙ ap (λ m. base_after kept.base (take (m - kept.first) (ends.past ++ ends.own))) (sym from))

module _ {L P : Type 0} {l : logs.Ghosts L} {p : disks.Ghosts P} (s : Script) (banks : ℕ) (start : RunStart) (falls : Crash → Volumes L P → Volumes L P → Type 0) where
  pub running_on : (begun : Volumes L P) (done : List LifePart) (lives : List LifeReport) (part : LifePart) (r : LifeReport) (left : Volumes L P) → IsPartTold l p s banks start begun falls done lives part r left
      → (how : How) → part.crash ≡ Some how → (life : OpenLife L P l p) (kept : KeptLog) → HasGoneOn l p falls how kept (cluster_of s) banks left life
      → (IsTrue p.tells → FitsLife l p r.life left kept) → IsRunning s banks start begun falls (done ++ part ∷ []) (lives ++ r ∷ []) life
  running_on begun done lives part r left told how crash life kept gone fit =
      let so = opened_so kept (with_banks (cluster_of s) banks) gone.mounted life gone.banks_are gone.goes in
      record {
        are = told.are;
        cluster = so.cluster;
        begins = so.begins;
        faults = so.faults;
        mounted = gone.mounted;
        banks_are = so.banks;
        sessions = so.sessions;
        opened = so.opened;
        comes = comes_push s banks start falls lives r begun told.last.mounted left gone.mounted told.last.comes told.last.ended
            (subst (λ (c : Option How). IsSomeAnd c (λ h. HasFallen l p falls h left gone.mounted)) (sym crash ∙ sym told.crash_is) gone.fallen);
        opens = so.opens;
        first = λ none. absurd (push_some lives r none);
        behind = λ tells next from base.
            let at = so.behind tells (gone.fits tells) in
            behind_push lives r next (from_last kept r.life next so.begins.number (fit tells).ends told.lawful.log.begun at.flushed at.upto from (base ∙ sym at.base));
      }
