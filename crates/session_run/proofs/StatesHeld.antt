-- The volumes of pg_xact say committed only of what was committed before the life, or the log has on disk.
use Rattle.std.proofs.Common.{Contains, List, [], ap, arith, inl, inr, subst, sym, take, ℕ, ⊎_elim, ◌++◌, ◌+◌, ◌-◌, ◌<◌, ◌∙◌, ◌∷◌, ◌≡◌, ◌⊎◌}
use Rattle.disk_core.specs.declared.log_disk.LogDisk as logs
use Rattle.disk_core.specs.declared.page_disk.PageDisk as disks
use Rattle.disk_core.specs.Pages.{Pages}
use Rattle.notes.specs.Lists.{at}
use Rattle.tx_events.specs.declared.record.Counters.{Counters}
use Rattle.tx_events.specs.declared.record.Rec.{Rec}
use Rattle.tx_events.specs.declared.record.Rec.TheVariants as records
use Rattle.tx_events.proofs.Membership.{Has, contains_has, has_cases, has_contains, has_flat_map}
use Rattle.tx_model.specs.declared.report.Life.{Life}
use Rattle.life_law.specs.LifeLog.{IsAmong}
use Rattle.tx_core.specs.declared.entry.Entry.{Entry}
use Rattle.tx_core.specs.declared.entry.Start.{Start}
use Rattle.tx_core.specs.EngineInvariant.{EngineInvariant}
use Rattle.tx_core.specs.Entries.{AreFewIds, flushed_to, recs_in}
use Rattle.tx_core.specs.Locks.{log_lock, xact_lock}
use Rattle.recoverable.specs.Fit.{KeptLog, base_at}
use Rattle.tx_events.specs.LifeBase.{AreBelowNext, committed_by, committed_in}
use Rattle.recoverable.specs.LogSteps.{log_behind}
use Rattle.recoverable.specs.Laws.{life_base}
use Rattle.recoverable.specs.Whole.{BeganRight, StatesLeft, new_log}
use Rattle.recoverable.proofs.FitsXact.{fits_xact}
use Rattle.recoverable.proofs.LogEnds.{log_ends}
use Rattle.recoverable.proofs.NewBegins.{new_log_of}
use Rattle.engine_parts.specs.Parts.{IsLogOf}
use Rattle.engine_host.specs.declared.cluster.Cluster.{Cluster}
use Rattle.engine_host.specs.Opening.{Beginning, life_from}
use Rattle.engine_life.specs.declared.closed.ClosedLife.{ClosedLife}
use Rattle.engine_life.specs.Lives.{HaveFollowed}
use Rattle.session_run.specs.OneLife.{life_of}
use Rattle.session_run.specs.Records.{BankHolds, HoldsStates, IsCommittedOnDisk}

-- the records of a life at its end, over the base that it began with
abbrev log_of : Start → List (List Entry) → ℕ → KeptLog
log_of start lists number = log_behind start lists (new_log start number)

module _ (start : Start) (lists : List (List Entry)) (life : Life) (kept : EngineInvariant start lists) (below : AreBelowNext (life_base start)) (few : AreFewIds lists) (from : start.from ≡ life.from + 1) (committed : start.committed ≡ life.committed)
    (recs : life.recs ≡ records.Checkpoint life.from start.base ∷ recs_in (at lists log_lock)) (flushed : life.flushed ≡ flushed_to start (at lists log_lock)) where
  -- what a record on disk names
  abbrev IsNamed : ℕ → Type 0
  IsNamed y = (top : ℕ) × (subs : List ℕ) × IsAmong (life.flushed - life.from) life.recs (records.Commit top subs) × Has (top ∷ subs) y

  abbrev on_disk : List Rec
  on_disk = take (flushed_to start (at lists log_lock) - life.from) (log_of start lists life.from).recs

  named : (y : ℕ) → Has (committed_in on_disk) y → IsNamed y
  named y h =
      let r = has_flat_map committed_by on_disk y h in
      let among : Has (take (life.flushed - life.from) life.recs) r.0
      = subst (λ (z : ℕ × List Rec). Has (take (z.0 - life.from) z.1) r.0) (λ j. (sym flushed j, sym recs j)) r.1 in
      let step : (rec : Rec) → Has (take (life.flushed - life.from) life.recs) rec → Has (committed_by rec) y → IsNamed y = elim [
        | records.Commit top subs ↦ λ there in_it. (top, subs, has_contains (take (life.flushed - life.from) life.recs) (records.Commit top subs) there, in_it)
        | _ ↦ λ there in_it. absurd in_it
      ] in
      step r.0 among r.2

  -- an image that follows its bank's list says committed of nothing else
  pub holds_states : (bank : ℕ) (c : Pages) → bank < start.banks → StatesLeft start bank (at lists (xact_lock bank)) c → HoldsStates life start.banks bank c
  holds_states bank c inside left =
      let log : KeptLog = log_of start lists life.from in
      let fits = fits_xact start lists left.shown log bank life.from c kept left.clean (log_ends start lists (new_log start life.from) kept (new_log_of start life.from from below)) (inl (omega (arith, from))) few inside left.follows in
      record {
        each = λ x on code.
            let y = fits.no_other.place x on code in
            let both : Has start.committed y.0 ⊎ Has (committed_in on_disk) y.0
            = has_cases start.committed (committed_in on_disk) y.0 (contains_has (base_at log log.flushed).committed y.0 y.1) in
            let which : IsCommittedOnDisk life y.0 = ⊎_elim
            (λ (old : Has start.committed y.0). inl (subst (λ (t : List ℕ). Contains t y.0) committed (has_contains start.committed y.0 old)))
            (λ (new : Has (committed_in on_disk) y.0). let k = named y.0 new in inr (k.0, k.1, k.2, has_contains (k.0 ∷ k.1) y.0 k.3)) both in
            (y.0, which, y.2);
      }

module _ {L P : Type 0} {l : logs.Ghosts L} (p : disks.Ghosts P) where
  -- so each volume of pg_xact behind a life
  pub bank_holds : (start : Start) (lists : List (List Entry)) (c : Cluster) (b : Beginning) (faults : List ℕ) (closed : ClosedLife L P l) (volumes : List P)
      → start ≡ life_from c b faults → EngineInvariant start lists → BeganRight start → AreFewIds lists → IsLogOf start closed.log (at lists log_lock) → HaveFollowed p start lists volumes → ((v : P) → p.images v (p.pages v))
      → (bank : ℕ) → bank < c.banks → BankHolds p (life_of c b closed) c.banks bank volumes
  bank_holds start lists c b faults closed volumes begun kept right few stands followed reads bank low =
      let life : Life = life_of c b closed in
      let banks : start.banks ≡ c.banks = ap (λ (t : Start). t.banks) begun in
      let inside : bank < start.banks = omega (arith, low, banks) in
      let logged : start.logged ≡ records.Checkpoint b.number start.base ∷ []
      = ap (λ (t : Start). t.logged) begun ∙ ap (λ (k : Counters). records.Checkpoint b.number k ∷ []) (sym (ap (λ (t : Start). t.base) begun)) in
      let v = followed bank inside in
      let each : (d : Pages) → p.images v.0 d → HoldsStates life c.banks bank d = λ d left. subst (λ n. HoldsStates life n bank d) banks
      (holds_states start lists life kept right.base.multis few (ap (λ (t : Start). t.from) begun) (ap (λ (t : Start). t.committed) begun) (stands.recs_are ∙ ap (λ (t : List Rec). t ++ recs_in (at lists log_lock)) logged) stands.flushed_is bank d inside (v.2 d left)) in
      record { volume = v.0; is = v.1; reads = each (p.pages v.0) (reads v.0); crashed = each }
