-- What is known of a life that is over.
use Rattle.std.proofs.Common.{◌≡◌, ℕ, ◌+◌, ◌^◌, ◌<◌, ◌≤◌, Bool, IsTrue, List, [], ◌∷◌, ◌++◌, Option, None, sym, ap, subst, ◌∙◌, length, arith}
use Rattle.std.specs.List.{filter, flat_map}
use Rattle.disk_core.specs.declared.log_disk.LogDisk as logs
use Rattle.disk_core.specs.declared.page_disk.PageDisk as disks
use Rattle.hall.specs.declared.hall.Hall.{Hall}
use Rattle.hall.specs.Calls.{start_of, view}
use Rattle.notes.specs.Lists.{at}
use Rattle.tx_events.specs.declared.record.Rec.{Rec}
use Rattle.tx_events.specs.declared.record.Rec.TheVariants as records
use Rattle.tx_model.specs.declared.report.How.{How}
use Rattle.tx_model.specs.declared.report.Life.{Life}
use Rattle.tx_model.specs.declared.report.Line.{Line}
use Rattle.tx_model.specs.declared.report.Step.{Step}
use Rattle.tx_model.specs.Rounds.{AreSteps, is_round, lines_in}
use Rattle.life_law.specs.LawfulLife.{IsLawfulLife}
use Rattle.session_lang.specs.declared.script.Item.{Item}
use Rattle.session_lang.specs.Rounds.{asked_of, rounds_of}
use Rattle.session_lang.proofs.Asking.{rounds_asked}
use Rattle.script_rounds.specs.declared.keeper.LineKeeper as keepers
use Rattle.tx_core.specs.declared.entry.Entry.{Entry}
use Rattle.tx_core.specs.declared.entry.Start.{Start}
use Rattle.tx_core.specs.Entries.{AreFewIds, history, recs_in}
use Rattle.tx_core.specs.Locks.{log_lock}
use Rattle.tx_core.specs.MultiEntries.{AreFewMultis, multi_history}
use Rattle.wal_core.specs.LogViews.{log_checkpoint, log_counters, log_disk, log_down, log_end, log_first, log_next, log_recs}
use Rattle.engine_parts.specs.declared.part.Part.{Part}
use Rattle.engine_parts.specs.LogTail.{log_tail}
use Rattle.engine_parts.specs.Parts.{IsLogOf}
use Rattle.engine_parts.specs.declared.session.Session.{Session}
use Rattle.engine_host.specs.declared.cluster.Cluster.{Cluster}
use Rattle.engine_host.specs.declared.host.Host.{Host}
use Rattle.engine_host.specs.Opening.{Beginning, life_from}
use Rattle.engine_life.specs.declared.closed.ClosedLife.{ClosedLife}
use Rattle.engine_life.specs.Lives.{number_of}
use Rattle.session_promise.specs.Closing as closing
use Rattle.session_promise.specs.Told.{ToldRound, all_lines, steps_of}
use Rattle.session_promise.proofs.FewIds.{levels_bound_ids}
use Rattle.session_promise.proofs.FewMultis.{lines_bound_multis}
use Rattle.session_promise.proofs.LawfulLives.{promises_make_life}
use Rattle.session_promise.proofs.Between.{lines_of_rounds, step_lines}
use Rattle.session_run.specs.OneLife.{life_of}
use Rattle.session_run.specs.Parts.{HasLived, HasRun, IsTakenPart, report_of}
use Rattle.session_run.specs.Records.{LogHolds}
use Rattle.session_run.proofs.LogHeld.{log_holds}
use Rattle.session_run.proofs.RoundCounts.{AreRoundsOf, few_levels, few_lines, few_multis, rounds_told}

-- the lines of the steps are those of the rounds
pub lines_run : (ss : List Step) (rounds : List ToldRound) → filter is_round ss ≡ steps_of 1 rounds → flat_map lines_in ss ≡ all_lines rounds
lines_run ss rounds e = sym (lines_of_rounds ss) ∙ (ap (flat_map lines_in) e ∙ step_lines 1 rounds)

-- the rounds are those that were asked for
asked_rounds : (its : List Item) (ss : List Step) (rounds : List ToldRound) → AreSteps 1 (asked_of its) ss → filter is_round ss ≡ steps_of 1 rounds → AreRoundsOf (rounds_of its) rounds
asked_rounds its ss rounds told same = subst (λ cs. AreRoundsOf cs rounds) (rounds_asked its) (rounds_told 1 (asked_of its) ss rounds told same)

-- so the life gave few ids
pub ids_few : (tells : Bool) (start : Start) (lists : List (List Entry)) (n : ℕ) (its : List Item) (ss : List Step) (rounds : List ToldRound) → IsTakenPart n its → AreSteps 1 (asked_of its) ss → filter is_round ss ≡ steps_of 1 rounds
    → closing.IsOver tells start lists rounds → AreFewIds lists
ids_few tells start lists n its ss rounds taken told same over = levels_bound_ids tells start lists rounds over (few_levels its rounds (asked_rounds its ss rounds told same) taken.takers)

-- and few multixacts
pub multis_few : (tells : Bool) (start : Start) (lists : List (List Entry)) (n : ℕ) (its : List Item) (ss : List Step) (rounds : List ToldRound) → IsTakenPart n its → AreSteps 1 (asked_of its) ss → filter is_round ss ≡ steps_of 1 rounds
    → closing.IsOver tells start lists rounds → AreFewMultis lists
multis_few tells start lists n its ss rounds taken told same over = lines_bound_multis tells start lists rounds over (few_multis its rounds (asked_rounds its ss rounds told same) taken.takers)

-- the number of its first record
pub number_told : {L P : Type 0} {l : logs.Ghosts L} (start : Start) (c : Cluster) (b : Beginning) (faults : List ℕ) (closed : ClosedLife L P l) (es : List Entry) → start ≡ life_from c b faults → IsLogOf start closed.log es → number_of closed ≡ b.number
number_told start c b faults closed es begun stands =
    let size : length (log_recs closed.log) ≡ length (records.Checkpoint b.number c.base ∷ recs_in es) = ap (λ (t : List Rec). length t) (stands.recs_are ∙ ap (λ (t : List Rec). t ++ recs_in es) (ap (λ (s : Start). s.logged) begun)) in
    let from = ap (λ (s : Start). s.from) begun in
    let next = stands.next_is in
    omega (arith, size, from, next)

module _ {H K L P : Type 0} {l : logs.Ghosts L} {p : disks.Ghosts P} (keep : keepers.Ghosts K) where
  -- a life that ran its part is lawful, and left its records on the log's volume
  pub life_lived : (hall : Hall H (Part L P l p) Entry Start) (host : Host L P l p) (sessions : List Session) (names : List (List ℕ)) (n : ℕ) (its : List Item) (c : Cluster) (b : Beginning) (faults : List ℕ) (first kept : K) (closed : ClosedLife L P l)
      → IsTakenPart n its → start_of hall ≡ life_from c b faults → (r : HasRun keep hall host sessions names (asked_of its) first kept) → closing.IsOver p.tells (start_of hall) (view host.pass).seen r.rounds → closed.events ≡ history (view host.pass).seen → IsLogOf (start_of hall) closed.log (at (view host.pass).seen log_lock) → closed.multis.value.events ≡ multi_history (view host.pass).seen → log_next closed.log < 2 ^ 64 → log_end closed.log < 2 ^ 64
      → HasLived p.tells c.banks its (life_of c b closed) r.steps × (IsTrue l.tells → l.images (log_disk closed.log) (l.reads (log_disk closed.log)) → LogHolds l (life_of c b closed) (log_disk closed.log))
  life_lived hall host sessions names n its c b faults first kept closed taken begun r over told stands made next end =
      let start = start_of hall in
      let log = closed.log in
      let life : Life = life_of c b closed in
      let base : start.base ≡ c.base = ap (λ t. t.base) begun in
      let begins : closing.BeginsAt b.number start = record {
        from = ap (λ t. t.from) begun;
        logged = ap (λ t. t.logged) begun ∙ ap (λ k. records.Checkpoint b.number k ∷ []) (sym base);
      } in
      let es = at (view host.pass).seen log_lock in
      let size : length (log_recs log) ≡ length (records.Checkpoint b.number c.base ∷ recs_in es) = ap (λ (t : List Rec). length t) (stands.recs_are ∙ ap (λ (t : List Rec). t ++ recs_in es) (ap (λ t. t.logged) begun)) in
      let numbers : b.number + length (log_recs log) < 2 ^ 64 = (let a = stands.next_is in let f = begins.from in omega (arith, a, f, size, next)) in
      let commands : AreRoundsOf (rounds_of its) r.rounds = asked_rounds its r.steps r.rounds r.told r.rounds_are in
      let few : length (all_lines r.rounds) ≤ 2 ^ 24 = few_lines its r.rounds commands taken.few in
      let report : (crash : Option How) → closing.IsReportOf start (view host.pass).seen r.rounds (report_of life r.steps crash) = λ crash. record {
        base = sym base;
        committed = sym (ap (λ t. t.committed) begun);
        events = told;
        recorded = sym (ap (λ t. t.recorded) begun);
        multis = made;
        recs = stands.recs_are;
        flushed = stands.flushed_is;
        steps = r.rounds_are;
      } in
      let lawful : (crash : Option How) → IsLawfulLife p.tells start.banks (asked_of its) (report_of life r.steps crash)
      = λ crash. promises_make_life p.tells start (view host.pass).seen r.rounds (asked_of its) (report_of life r.steps crash) begins over (few_levels its r.rounds commands taken.takers) (few_multis its r.rounds commands taken.takers) r.told r.dumps r.checkpoints (report crash) numbers end in (
        record {
          lawful = λ crash. subst (λ k. IsLawfulLife p.tells k (asked_of its) (report_of life r.steps crash)) (ap (λ t. t.banks) begun) (lawful crash);
          few = subst (λ (ls : List Line). length ls ≤ 2 ^ 24) (sym (lines_run r.steps r.rounds r.rounds_are)) few;
        },
        log_holds l (log_disk log) life start (records.Checkpoint b.number c.base) es (l.faults (log_disk log)) (log_next log) (log_first log)
            (log_counters log) (log_down log) (log_checkpoint log) (log_tail log) begins.from (ap (λ t. t.logged) begun) stands (lawful None).log.begun,
      )
