-- What rounds leave of a life.
use Rattle.std.proofs.Common.{◌≡◌, ℕ, zero, suc, ◌+◌, ◌^◌, ◌<◌, List, [], ◌∷◌, ◌++◌, Some, refl, sym, ap, subst, ◌∙◌, arith, get_or, length, append-nil}
use Rattle.std.proofs.lemmas.List.Elements.{All-get_or, filter-append}
use Rattle.std.proofs.lemmas.Option.{get_or_from_slice_get, slice_get_within}
use Rattle.std.specs.List.{All, AllByRecursion, filter, slice_get}
use Rattle.disk_core.specs.declared.log_disk.LogDisk as logs
use Rattle.disk_core.specs.declared.page_disk.PageDisk as disks
use Rattle.hall.specs.declared.hall.Hall.{Hall}
use Rattle.hall.specs.Calls.{start_of, view}
use Rattle.notes.specs.Lists.{Grows}
use Rattle.tx_events.proofs.PlaceLemmas.{each_place_none, each_place_push}
use Rattle.tx_events.specs.declared.refusal.Lock.{Lock}
use Rattle.tx_model.specs.declared.reply.Reply.{Reply}
use Rattle.tx_model.specs.declared.report.DumpOf.{DumpOf}
use Rattle.tx_model.specs.declared.report.Line.{Line}
use Rattle.tx_model.specs.declared.report.Step.{Step}
use Rattle.tx_model.specs.declared.report.Step.TheVariants as steps
use Rattle.tx_model.specs.Asked as asked
use Rattle.tx_model.specs.Asked.{Asked, rounds_in}
use Rattle.tx_model.specs.Rounds.{is_round}
use Rattle.script_rounds.specs.declared.keeper.LineKeeper as keepers
use Rattle.tx_core.specs.declared.entry.Entry.{Entry}
use Rattle.tx_core.specs.declared.entry.Start.{Start}
use Rattle.tx_core.specs.Entries.{history}
use Rattle.engine_parts.specs.declared.part.Part.{Part}
use Rattle.engine_parts.specs.declared.session.Session.{Session}
use Rattle.engine_host.specs.declared.cluster.Cluster.{Cluster}
use Rattle.engine_host.specs.declared.host.Host.{Host}
use Rattle.engine_host.specs.Hosts.{HasSeenNothing, HoldsAllBut, IsHost, IsNewSession, IsParked}
use Rattle.host_calls.specs.Made.{HasFailed}
use Rattle.engine_host.specs.Homes.{IsHome, StaysHome}
use Rattle.host_calls.specs.Dumps.{IsAnswered}
use Rattle.session_promise.specs.Causes.{failed_volume}
use Rattle.session_promise.specs.Checkpoints.{AreCheckpointsTold, WentCheckpoint}
use Rattle.session_promise.specs.Dumps.{AreDumpsTold, IsStepTold}
use Rattle.session_promise.specs.SoFar.{IsSoFar}
use Rattle.session_promise.specs.Told.{steps_of}
use Rattle.session_promise.proofs.CheckpointsStay.{checkpoint_goes_on, checkpoints_begin, checkpoints_stay_dump, dumps_stay_checkpoint, so_far_checkpoint}
use Rattle.session_promise.proofs.LawfulDumps.{dumps_stay}
use Rattle.session_lang.specs.declared.script.Item.{Item}
use Rattle.session_lang.specs.declared.script.Item.TheVariants as items
use Rattle.session_lang.specs.Rounds.{asked_in}
use Rattle.run_law.specs.Turns.{MayRun, MayShow}
use Rattle.session_run.specs.Causes.{AreCheckpointsCounted}
use Rattle.session_run.specs.Rounds.{AreParked, MayAdd}
use Rattle.session_run.specs.GoesOn.{AreHome, GoesOn, HasRoundMore}
use Rattle.session_run.specs.Parts.{HasRun}
use Rattle.run_law.proofs.AllTurns.{Turns, turns_of_all}
use Rattle.session_run.proofs.RoundCounts.{lines_short, own_short, rounds_told}
use Rattle.session_run.proofs.CheckpointFaults.{built_checkpoint, built_on, counted_checkpoint, counted_first, counted_on}
use Rattle.session_run.proofs.Returning.{grows_same}
use Rattle.session_run.proofs.RoundSteps.{as_many, checkpoint_push, dump_push, kept_push, round_push, steps_push}

get_session : (xs : List Session) (n : ℕ) (d : Session) → n < length xs → slice_get xs n ≡ Some (get_or xs n d)
get_session [] n d l = absurd (omega arith)
get_session (x ∷ xs) zero d l = refl
get_session (x ∷ xs) (suc n) d l = get_session xs n d (omega arith)

module _ {H K L P : Type 0} {l : logs.Ghosts L} {p : disks.Ghosts P} (keep : keepers.Ghosts K) where
  -- before the first round
  pub ran_none : (hall : Hall H (Part L P l p) Entry Start) (host : Host L P l p) (sessions : List Session) (names : List (List ℕ)) (kept : K) → GoesOn hall host sessions [] → HasSeenNothing host → HasRun keep hall host sessions names [] kept kept
  ran_none hall host sessions names kept g unseen = record {
    rounds = [];
    steps = [];
    goes_on = g;
    told = tt;
    rounds_are = refl;
    dumps = each_place_none (λ before step. IsStepTold (start_of hall) (view host.pass).seen [] before step);
    checkpoints = checkpoints_begin (start_of hall) (view host.pass).seen unseen;
    faults = counted_first (start_of hall) (view host.pass).seen unseen;
    built = tt;
    kept_is = refl;
  }

  -- behind one more
  pub ran_more : (hall : Hall H (Part L P l p) Entry Start) (before after : Host L P l p) (old new : List Session) (names : List (List ℕ)) (rounds : ℕ) (turns : Turns) (all : List Asked) (first kept mid kept' : K) (lines : List Line) → length (rounds_in all) ≡ rounds → mid ≡ keep.with_round kept (rounds + 1) → Grows (view before.pass).seen (view after.pass).seen → (r : HasRun keep hall before old names all first kept) → HasRoundMore hall turns before after new r.rounds lines → kept' ≡ keep.with_lines names mid lines → HasRun keep hall after new names (all ++ asked.round turns ∷ []) first kept'
  ran_more hall before after old new names rounds turns all first kept mid kept' lines count begun grows r m more =
      let step : Step = steps.Round (rounds + 1) m.round.lines in
      let many = as_many (rounds_in all) r.rounds (rounds_told 1 all r.steps r.rounds r.told r.rounds_are) in
      let number : 1 + length r.rounds ≡ rounds + 1 = omega (arith, count, many) in record {
        rounds = r.rounds ++ m.round ∷ [];
        steps = r.steps ++ step ∷ [];
        goes_on = m.then;
        told = round_push 1 (rounds + 1) all r.steps turns m.round.lines r.told (omega (arith, count)) m.told;
        rounds_are = filter-append is_round r.steps (step ∷ []) ∙ (ap (λ (ss : List Step). ss ++ step ∷ []) r.rounds_are
            ∙ (ap (λ n. steps_of 1 r.rounds ++ steps.Round n m.round.lines ∷ []) (sym number) ∙ sym (steps_push 1 r.rounds m.round)));
        dumps = dumps_stay (start_of hall) (view before.pass).seen (view after.pass).seen r.rounds (m.round ∷ []) grows r.steps step r.dumps tt;
        checkpoints = m.checkpoints r.steps (rounds + 1) r.checkpoints;
        faults = counted_on (start_of hall) (view before.pass).seen (view after.pass).seen r.steps step grows refl r.faults;
        built = built_on (start_of hall).banks r.steps step refl r.built;
        kept_is =
            more ∙ ap (keep.with_lines names mid) m.lines_are
            ∙ ap (λ z. keep.with_lines names z m.round.lines) (begun ∙ ap (λ z. keep.with_round z (rounds + 1)) r.kept_is)
            ∙ sym (kept_push keep names first r.steps step);
      }

  -- behind a dump
  pub ran_dump : (hall : Hall H (Part L P l p) Entry Start) (before after : Host L P l p) (sessions : List Session) (names : List (List ℕ)) (what : DumpOf) (from size : ℕ) (reply : Reply) (all : List Asked) (first kept kept' : K) → StaysHome hall before after → AreHome hall after sessions → IsAnswered hall before what size reply → kept' ≡ keep.with_step names kept (steps.Dump what from size reply) → HasRun keep hall before sessions names all first kept → HasRun keep hall after sessions names (all ++ asked.dump what from size ∷ []) first kept'
  ran_dump hall before after sessions names what from size reply all first kept kept' stays home answer put r =
      let start = start_of hall in
      let lists = (view before.pass).seen in
      let step : Step = steps.Dump what from size reply in
      let told : IsStepTold start lists r.rounds r.steps step = record {
        front = r.rounds;
        behind = [];
        split = sym (append-nil r.rounds);
        steps = r.rounds_are;
        events = history lists;
        begins = ([], append-nil (history lists));
        places = r.goes_on.so_far.places;
        answer = answer;
      } in
      let more : AreDumpsTold start lists r.rounds (r.steps ++ step ∷ []) = each_place_push (λ ss s. IsStepTold start lists r.rounds ss s) r.steps step r.dumps told in record {
        rounds = r.rounds;
        steps = r.steps ++ step ∷ [];
        goes_on = record { home = home; so_far = subst (λ seen. IsSoFar p.tells start seen sessions r.rounds) (sym stays.seen) r.goes_on.so_far };
        told = dump_push 1 all r.steps what from size reply r.told;
        rounds_are = filter-append is_round r.steps (step ∷ []) ∙ (append-nil (filter is_round r.steps) ∙ r.rounds_are);
        dumps = subst (λ seen. AreDumpsTold start seen r.rounds (r.steps ++ step ∷ [])) (sym stays.seen) more;
        checkpoints = subst (λ seen. AreCheckpointsTold start seen r.rounds (r.steps ++ step ∷ [])) (sym stays.seen) (checkpoints_stay_dump start lists r.rounds r.steps what from size reply r.checkpoints);
        faults = subst (λ seen. AreCheckpointsCounted start seen (r.steps ++ step ∷ [])) (sym stays.seen) (counted_on start lists lists r.steps step (grows_same lists) refl r.faults);
        built = built_on start.banks r.steps step refl r.built;
        kept_is = put ∙ ap (λ z. keep.with_step names z step) r.kept_is ∙ sym (kept_push keep names first r.steps step);
      }

  -- behind a checkpoint
  pub ran_checkpoint : (hall : Hall H (Part L P l p) Entry Start) (before after : Host L P l p) (sessions : List Session) (names : List (List ℕ)) (reply : Reply) (all : List Asked) (first kept kept' : K) → AreHome hall after sessions → WentCheckpoint (start_of hall) sessions (view before.pass).seen (view after.pass).seen reply
      → ((failed : Lock) → failed_volume reply ≡ Some failed → HasFailed (start_of hall) (view before.pass).seen (view after.pass).seen failed)
      → kept' ≡ keep.with_step names kept (steps.Checkpoint reply) → HasRun keep hall before sessions names all first kept → HasRun keep hall after sessions names (all ++ asked.checkpoint ∷ []) first kept'
  ran_checkpoint hall before after sessions names reply all first kept kept' home went cause put r =
      let start = start_of hall in
      let was = (view before.pass).seen in
      let is = (view after.pass).seen in
      let step : Step = steps.Checkpoint reply in record {
        rounds = r.rounds;
        steps = r.steps ++ step ∷ [];
        goes_on = record { home = home; so_far = so_far_checkpoint p.tells start was is sessions r.rounds reply r.goes_on.so_far went };
        told = checkpoint_push 1 all r.steps reply r.told;
        rounds_are = filter-append is_round r.steps (step ∷ []) ∙ (append-nil (filter is_round r.steps) ∙ r.rounds_are);
        dumps = dumps_stay_checkpoint start was is sessions r.rounds r.steps reply went r.dumps;
        checkpoints = checkpoint_goes_on p.tells start was is sessions r.rounds r.steps reply r.goes_on.so_far went r.rounds_are r.checkpoints;
        faults = counted_checkpoint start was is r.steps reply went.grows (λ failed e. (cause failed e).risen) r.faults;
        built = built_checkpoint start.banks r.steps reply (λ failed e. (cause failed e).built) r.built;
        kept_is = put ∙ ap (λ z. keep.with_step names z step) r.kept_is ∙ sym (kept_push keep names first r.steps step);
      }

  -- where none is asked for
  pub ran_same : (hall : Hall H (Part L P l p) Entry Start) (host : Host L P l p) (sessions : List Session) (names : List (List ℕ)) (all none : List Asked) (first kept : K) → none ≡ [] → HasRun keep hall host sessions names all first kept → HasRun keep hall host sessions names (all ++ none) first kept
  ran_same hall host sessions names all none first kept e r = subst (λ a. HasRun keep hall host sessions names a first kept) (sym (ap (λ n. all ++ n) e ∙ append-nil all)) r

  -- as what is asked for is looked up
  pub ran_as : (hall : Hall H (Part L P l p) Entry Start) (host : Host L P l p) (sessions : List Session) (names : List (List ℕ)) (all found sought : List Asked) (first kept : K) → found ≡ sought → HasRun keep hall host sessions names (all ++ found) first kept → HasRun keep hall host sessions names (all ++ sought) first kept
  ran_as hall host sessions names all found sought first kept e r = subst (λ t. HasRun keep hall host sessions names (all ++ t) first kept) e r

  -- the sessions have run few commands
  pub ran_few : (hall : Hall H (Part L P l p) Entry Start) (host : Host L P l p) (sessions : List Session) (names : List (List ℕ)) (all : List Asked) (first kept : K) (count : ℕ) → HasRun keep hall host sessions names all first kept → length (turns_of_all (rounds_in all)) + count < 2 ^ 48 → MayAdd count sessions
  ran_few hall host sessions names all first kept count r few n d inside =
      let told = (r.goes_on.so_far.each n (get_or sessions n d) (get_session sessions n d inside)).count in
      omega (arith, told, own_short n r.rounds, lines_short (rounds_in all) r.rounds (rounds_told 1 all r.steps r.rounds r.told r.rounds_are), few)

module _ {H L P : Type 0} {l : logs.Ghosts L} {p : disks.Ghosts P} where
  -- the sessions stay home while the host alone is at work
  pub home_still : (hall : Hall H (Part L P l p) Entry Start) (before after : Host L P l p) (sessions : List Session) → AreHome hall before sessions → IsHome hall after → after.cluster ≡ before.cluster → ((n : ℕ) (s : Session) → IsParked hall before n s → IsParked hall after n s) → AreHome hall after sessions
  home_still hall before after sessions home still cluster parked = record {
    is_host = still.is_host;
    all = still.all;
    parked = λ n d inside. parked n (get_or sessions n d) (home.parked n d inside);
    count = home.count ∙ ap (λ (k : Cluster). k.sessions) (sym cluster);
  }

  -- the session that stands at a place may be let in
  pub parked_there : (hall : Hall H (Part L P l p) Entry Start) (host : Host L P l p) (sessions : List Session) → AreHome hall host sessions → (n : ℕ) (s : Session) → slice_get sessions n ≡ Some s → IsParked hall host n s
  parked_there hall host sessions home n s there = subst (IsParked hall host n) (get_or_from_slice_get sessions n s s there) (home.parked n s (slice_get_within sessions n s there))

  -- so while a dump is shown
  pub home_shown : (hall : Hall H (Part L P l p) Entry Start) (before after : Host L P l p) (sessions : List Session) → AreHome hall before sessions → StaysHome hall before after → AreHome hall after sessions
  home_shown hall before after sessions home stays = home_still hall before after sessions home stays.home stays.cluster stays.parked

  -- behind a round the sessions are home again
  pub home_again : (hall : Hall H (Part L P l p) Entry Start) (before after : Host L P l p) (old new : List Session) → AreHome hall before old → IsHost hall after → after.cluster ≡ before.cluster
      → HoldsAllBut after [] → AreParked hall after new → length new ≡ length old → AreHome hall after new
  home_again hall before after old new home is cluster all parked count = record {
    is_host = is;
    all = all;
    parked = parked;
    count = count ∙ home.count ∙ ap (λ (k : Cluster). k.sessions) (sym cluster);
  }

  -- new sessions are home
  pub new_home : (hall : Hall H (Part L P l p) Entry Start) (host : Host L P l p) (sessions : List Session) → IsHost hall host → HoldsAllBut host [] → ((n : ℕ) (s : Session) → n < host.cluster.sessions → IsNewSession s → IsParked hall host n s) → length sessions ≡ host.cluster.sessions → All IsNewSession sessions → AreHome hall host sessions
  new_home hall host sessions is all parked count new = record {
    is_host = is;
    all = all;
    parked = λ n d inside. parked n (get_or sessions n d) (omega (arith, count, inside)) (All-get_or IsNewSession sessions n d inside new);
    count = count;
  }

-- what a script asks for at a place may be asked for
pub asked_may : {X : Type 0} (P : X → Type 0) (xs : List X) (k : ℕ) (d : X) → P d → AllByRecursion P xs → P (get_or xs k d)
asked_may P [] zero d may a = may
asked_may P [] (suc k) d may a = may
asked_may P (x ∷ xs) zero d may a = a.0
asked_may P (x ∷ xs) (suc k) d may a = asked_may P xs k d may a.1

-- a dump that is found is one that may be shown
pub dump_asked : (n : ℕ) (x : Item) (what : DumpOf) (from size : ℕ) → MayRun n x → asked.dump what from size ∷ [] ≡ asked_in x → MayShow what from size
dump_asked n (items.Dump of place count) what from size may e =
    let one : of ≡ what = cc in
    let two : place ≡ from = cc in
    let three : count ≡ size = cc in
    subst (λ (t : DumpOf × ℕ × ℕ). MayShow t.0 t.1 t.2) (λ j. (one j, two j, three j)) may
dump_asked n (items.Run s c) what from size may e = absurd cc
dump_asked n items.Round what from size may e = absurd cc
dump_asked n items.Checkpoint what from size may e = absurd cc
dump_asked n (items.Crash how) what from size may e = absurd cc

pub new_each : (sessions : List Session) → All IsNewSession sessions → (n : ℕ) (d : Session) → n < length sessions → IsNewSession (get_or sessions n d)
new_each sessions new n d inside = All-get_or IsNewSession sessions n d inside new
