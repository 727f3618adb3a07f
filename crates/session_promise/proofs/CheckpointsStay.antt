-- Checkpoints that were told stay told while the life goes on, and one more is told with them.
use Rattle.std.proofs.Common.{Bool, List, None, Option, Some, [], ap, append-nil, append_assoc, arith, cond, eq-eqb, length, map, refl, subst, sym, take, ℕ, ⊎_elim, ◌+◌, ◌-◌, ◌++◌, ◌∙◌, ◌∷◌, ◌≡◌, ◌<◌, ◌≤◌, ◌==◌}
use Rattle.std.specs.List.{cons_option, count_by, filter, filter_map, slice_get}
use Rattle.std.proofs.lemmas.List.{length-append, map-append}
use Rattle.std.proofs.lemmas.List.Elements.{filter-append, filter_map-append}
use Rattle.std.proofs.lemmas.List.Sums.{sum_by-append, sum_by-cons}
use Rattle.std.proofs.lemmas.Option.{slice_get_within}
use Rattle.notes.specs.Lists.{Grows, at, own}
use Rattle.notes.proofs.Growing.{begins_same}
use Rattle.tx_events.specs.declared.event.Event.{Event}
use Rattle.tx_events.specs.declared.multi.MultiEvent.{MultiEvent}
use Rattle.life_law.specs.MultiStanding as making
use Rattle.life_law.specs.MultiStanding.{Unfinished, unfinished}
use Rattle.tx_core.specs.MultiEntries.{multi_history}
use Rattle.tx_core.proofs.Rising.{multis_grow}
use Rattle.engine_parts.specs.Makings.{IsToldMaking}
use Rattle.session_promise.proofs.MakingsStay.{makings_stay, nothing_beyond, own_making}
use Rattle.tx_events.specs.declared.record.Counters.{Counters}
use Rattle.tx_events.specs.declared.record.Rec.{Rec}
use Rattle.tx_events.specs.declared.refusal.Refusal.TheVariants as refusals
use Rattle.tx_events.proofs.ListSteps.{filter_all, le_or_over}
use Rattle.tx_events.proofs.PlaceLemmas.{each_place_none, each_place_push}
use Rattle.tx_model.specs.declared.reply.Reply.{Reply}
use Rattle.tx_model.specs.declared.reply.Reply.TheVariants as replies
use Rattle.tx_model.specs.declared.report.Step.{Step}
use Rattle.tx_model.specs.declared.report.Step.TheVariants as steps
use Rattle.tx_model.specs.Rounds.{is_round}
use Rattle.life_law.specs.Checkpoints.{checkpoints_in}
use Rattle.life_law.specs.Facts.{is_checkpoint_fault, is_log_fault}
use Rattle.life_law.specs.LifeLog.{counters_behind}
use Rattle.life_law.specs.Pending.{pending}
use Rattle.tx_core.specs.declared.entry.Entry.{Entry}
use Rattle.tx_core.specs.declared.entry.Kind.TheVariants as kinds
use Rattle.tx_core.specs.declared.entry.Start.{Start}
use Rattle.tx_core.specs.Entries.{history, recs_in, session_of}
use Rattle.tx_core.specs.Locks.{log_lock}
use Rattle.tx_core.proofs.Growing.{contains_begins}
use Rattle.tx_core.proofs.Lasting.{history_grows}
use Rattle.engine_parts.specs.declared.session.Session.{Session}
use Rattle.engine_parts.specs.Stages.{pending_in}
use Rattle.engine_parts.specs.Stand.{IsDownAt}
use Rattle.session_promise.specs.Checkpoints.{AddsFor, Appends, AreCheckpointsTold, IsAnsweredIn, IsCheckpointTold, IsCommitting, IsFlushedBehind, IsMakingMulti, IsPendingBehind, IsStepLeft, IsSurelyMaking, LeftStep, MayBeMaking, MayLeave, NamesLeast, WentCheckpoint, checkpoint_next, hosts_entries, is_down_fault}
use Rattle.session_promise.specs.CheckpointLaws.{CheckpointGoesOn, CheckpointsBegin, CheckpointsStayThroughDump, CheckpointsStayThroughRound, DumpsStayThroughCheckpoint, SoFarThroughCheckpoint}
use Rattle.session_promise.specs.Promise.{recs_of}
use Rattle.session_promise.specs.SoFar.{IsSoFar, round_of}
use Rattle.session_promise.specs.Told.{Follow, ToldRound, all_lines, in_events, in_multis, steps_of, told_by}
use Rattle.session_promise.specs.Dumps.{AreDumpsTold}
use Rattle.session_promise.proofs.CheckpointRecords.{checkpoints_append, recs_append}
use Rattle.session_promise.proofs.Flushing.{checkpoints_up, own_fewer, take_whole}
use Rattle.session_promise.proofs.LawfulDumps.{dumps_stay}
use Rattle.session_promise.proofs.PendingStays.{none_beyond, own_pending, rounds_stay, there}
use Rattle.session_promise.proofs.Rounding.{so_far_goes_on, through_idle}

-- ---- lists

abbrev one_if : Bool → ℕ
one_if b = cond b 1 0

-- ---- one that was told

-- which sessions it names goes by what holds of them alone
pub names_same : (P Q : ℕ → Type 0) (May May' Must Must' : ℕ → Type 0) → ((n : ℕ) → P n → Q n) → ((n : ℕ) → Q n → P n) → ((n : ℕ) → May n → May' n) → ((n : ℕ) → Must' n → Must n) → (reply : Reply) → NamesLeast P May Must reply → NamesLeast Q May' Must' reply
names_same P Q May May' Must Must' f g a b (replies.Pending session refusals.CommitPending) k = (f session k.0, λ n low q. k.1 n low (g n q))
names_same P Q May May' Must Must' f g a b (replies.Pending session refusals.MultiPending) k = (a session k.0, λ n low m. k.1 n low (b n m), λ n q. k.2 n (g n q))
names_same P Q May May' Must Must' f g a b (replies.Pending session refusal) k = absurd k
names_same P Q May May' Must Must' f g a b reply k = (λ n q. k.0 n (g n q), λ n m. k.1 n (b n m))

down_goes_on : (start : Start) (es rest : List Entry) (down : ℕ) → IsDownAt start es down → IsDownAt start (es ++ rest) down
down_goes_on start es rest down d = record {
  before = d.before;
  rest = d.rest ++ rest;
  by = d.by;
  asked = d.asked;
  count = d.count;
  down = d.down;
  split = ap (λ (t : List Entry). t ++ rest) d.split ∙ append_assoc d.before (record { by = d.by; kind = kinds.LogFault d.asked d.count } ∷ d.rest) rest;
  flushed_is = d.flushed_is;
}

answer_stays : (start : Start) (lists more : List (List Entry)) (reply : Reply) → Grows lists more → IsAnsweredIn start lists reply → IsAnsweredIn start more reply
answer_stays start lists more replies.Done g a = a
answer_stays start lists more (replies.Pending session refusal) g a = a
answer_stays start lists more (replies.Refused refusals.LogFault) g a = a
answer_stays start lists more (replies.Refused (refusals.LogDown down)) g a =
    let b = g.begins log_lock in subst (λ (es : List Entry). IsDownAt start es down) b.1 (down_goes_on start (at lists log_lock) b.0 down a)
answer_stays start lists more (replies.Refused (refusals.DiskFault lock)) g a = a
answer_stays start lists more (replies.Refused refusals.Full) g a = a
answer_stays start lists more (replies.Refused refusals.Memory) g a = a
answer_stays start lists more reply g a = absurd a

-- what is pending by the lines of the first rounds is the same in both lists
abbrev PendingStays : List (List Entry) → List (List Entry) → List ToldRound → Type 0
PendingStays lists more rounds =
    (front behind : List ToldRound) → rounds ≡ front ++ behind → (n : ℕ)
    → pending (recs_of more) (history more) (all_lines front) n ≡ pending (recs_of lists) (history lists) (all_lines front) n

-- and what is unfinished
abbrev MakingStays : List (List Entry) → List (List Entry) → List ToldRound → Type 0
MakingStays lists more rounds =
    (front behind : List ToldRound) → rounds ≡ front ++ behind → (n : ℕ)
    → unfinished (multi_history more) (all_lines front) n ≡ unfinished (multi_history lists) (all_lines front) n

module _ (start : Start) (lists more : List (List Entry)) (rounds added : List ToldRound) (g : Grows lists more) (same : PendingStays lists more rounds) (alike : MakingStays lists more rounds) where
  checkpoint_stays : (before : List Step) (reply : Reply) (left : Option Counters) → IsCheckpointTold start lists rounds before reply left → IsCheckpointTold start more (rounds ++ added) before reply left
  checkpoint_stays before reply left c =
      let grown = history_grows lists more g in
      let multi_grown = multis_grow lists more g in
      let still = same c.front c.behind c.split in
      let makes = alike c.front c.behind c.split in record {
        front = c.front;
        behind = c.behind ++ added;
        split = ap (λ (rs : List ToldRound). rs ++ added) c.split ∙ append_assoc c.front c.behind added;
        steps = c.steps;
        events = c.events;
        begins = (c.begins.0 ++ grown.0, sym (append_assoc c.events c.begins.0 grown.0) ∙ ap (λ (t : List Event). t ++ grown.0) c.begins.1 ∙ grown.1);
        places = c.places;
        multis = c.multis;
        multi_begins = (c.multi_begins.0 ++ multi_grown.0, sym (append_assoc c.multis c.multi_begins.0 multi_grown.0) ∙ ap (λ (t : List MultiEvent). t ++ multi_grown.0) c.multi_begins.1 ∙ multi_grown.1);
        multi_places = c.multi_places;
        named = names_same (IsPendingBehind lists c.front) (IsPendingBehind more c.front) (MayBeMaking lists c.front) (MayBeMaking more c.front) (IsSurelyMaking lists c.front) (IsSurelyMaking more c.front)
            (λ n p. still n ∙ p) (λ n p. sym (still n) ∙ p) (λ n may q. may (sym (makes n) ∙ q)) (λ n q. sym (makes n) ∙ q) reply c.named;
        answer = answer_stays start lists more reply g c.answer;
        leaves = c.leaves;
      }

  step_stays : (before : List Step) (step : Step) (left : Option Counters) → IsStepLeft start lists rounds before step left → IsStepLeft start more (rounds ++ added) before step left
  step_stays before (steps.Checkpoint reply) left c = checkpoint_stays before reply left c
  step_stays before (steps.Round number lines) left c = c
  step_stays before (steps.Dump what place size reply) left c = c

  -- what was flushed stays so
  flushed_stays : (before : List LeftStep) → IsFlushedBehind start lists before → IsFlushedBehind start more before
  flushed_stays before k =
      let b = g.begins log_lock in record {
        number = k.number;
        flushed = (k.flushed.0, contains_begins (at lists log_lock) (at more log_lock) _ b k.flushed.1);
        among =
            let a = k.among in
            let l = checkpoints_up (k.number - start.from) (recs_of lists) (recs_in b.0) in
            let q : recs_of lists ++ recs_in b.0 ≡ recs_of more = sym (recs_append (at lists log_lock) b.0) ∙ ap recs_in b.1 in
            subst (λ (rs : List Rec). length (filter_map (λ (x : LeftStep). x.1) before) < length (checkpoints_in (take (k.number - start.from) rs))) q (omega (arith, a, l));
      }

  -- those that were told stay, and one more step left this
  pub told_more : (told : List Step) (step : Step) (o : Option Counters) (c : AreCheckpointsTold start lists rounds told) → IsStepLeft start more (rounds ++ added) told step o
      → checkpoints_in (recs_in (hosts_entries start more)) ≡ checkpoints_in (recs_in (hosts_entries start lists)) ++ cons_option o []
      → count_by is_down_fault (hosts_entries start more) ≡ count_by is_down_fault (hosts_entries start lists) + one_if (is_checkpoint_fault step)
      → (step ≡ steps.Checkpoint replies.Done → IsFlushedBehind start more c.left)
      → AreCheckpointsTold start more (rounds ++ added) (told ++ step ∷ [])
  told_more told step o c new records faults done = record {
    left = c.left ++ (step, o) ∷ [];
    steps_are = map-append (λ (x : LeftStep). x.0) c.left ((step, o) ∷ []) ∙ ap (λ (ss : List Step). ss ++ step ∷ []) c.steps_are;
    each = each_place_push P c.left (step, o)
        (λ p x e. step_stays (map (λ (y : LeftStep). y.0) (take p c.left)) x.0 x.1 (c.each p x e))
        (subst (λ (ss : List Step). IsStepLeft start more (rounds ++ added) ss step o) (sym c.steps_are) new);
    records = records ∙ (ap (λ (cs : List Counters). cs ++ cons_option o []) c.records ∙ sym (filter_map-append (λ (x : LeftStep). x.1) c.left ((step, o) ∷ [])));
    faults =
        let f = faults in let d = c.faults in
        let a = sum_by-append (λ (s : Step). one_if (is_checkpoint_fault s)) told (step ∷ []) in
        let b = sum_by-cons (λ (s : Step). one_if (is_checkpoint_fault s)) step [] in
        omega (arith, f, d, a, b);
    flushed = each_place_push Q c.left (step, o) (λ p x e ok. flushed_stays (take p c.left) (c.flushed p x e ok)) done;
  }
    where
      Q : List LeftStep → LeftStep → Type 0
      Q before x = x.0 ≡ steps.Checkpoint replies.Done → IsFlushedBehind start more before

      P : List LeftStep → LeftStep → Type 0
      P before x = IsStepLeft start more (rounds ++ added) (map (λ (y : LeftStep). y.0) before) x.0 x.1

-- ---- none yet, and behind a round or a dump

pub checkpoints_begin : CheckpointsBegin
checkpoints_begin start lists empty =
    let none : hosts_entries start lists ≡ [] = ap (own session_of start.sessions) (empty log_lock) in record {
      left = [];
      steps_are = refl;
      each = each_place_none (λ before x. IsStepLeft start lists [] (map (λ (y : LeftStep). y.0) before) x.0 x.1);
      records = ap (λ es. checkpoints_in (recs_in es)) none;
      faults = ap (count_by is_down_fault) none;
      flushed = each_place_none (λ before x. x.0 ≡ steps.Checkpoint replies.Done → IsFlushedBehind start lists before);
    }

-- where the host added nothing
quiet_records : (start : Start) (lists more : List (List Entry)) → hosts_entries start more ≡ hosts_entries start lists → checkpoints_in (recs_in (hosts_entries start more)) ≡ checkpoints_in (recs_in (hosts_entries start lists)) ++ []
quiet_records start lists more q = ap (λ es. checkpoints_in (recs_in es)) q ∙ sym (append-nil (checkpoints_in (recs_in (hosts_entries start lists))))

quiet_faults : (start : Start) (lists more : List (List Entry)) → hosts_entries start more ≡ hosts_entries start lists → count_by is_down_fault (hosts_entries start more) ≡ count_by is_down_fault (hosts_entries start lists) + 0
quiet_faults start lists more q = let e = ap (count_by is_down_fault) q in omega (arith, e)

pub checkpoints_stay_round : CheckpointsStayThroughRound
checkpoints_stay_round tells start before after old new turns parts rounds told number lines so_far went c =
    let round : ToldRound = round_of before after parts in
    let then = so_far_goes_on tells start before after old new turns parts rounds so_far went in
    let still : hosts_entries start after ≡ hosts_entries start before = went.hosts.own log_lock in
    told_more start before after rounds (round ∷ []) went.grows
    (rounds_stay tells start before after old new rounds (round ∷ []) went.kept went.grows so_far then) (makings_stay tells start before after old new rounds (round ∷ []) went.grows so_far then)
    told (steps.Round number lines) None c refl (quiet_records start before after still) (quiet_faults start before after still) (λ q. absurd cc)

-- in the same lists and rounds
pub checkpoints_stay_dump : CheckpointsStayThroughDump
checkpoints_stay_dump start lists rounds told what place size reply c =
    subst (λ (rs : List ToldRound). AreCheckpointsTold start lists rs (told ++ steps.Dump what place size reply ∷ [])) (append-nil rounds)
    (told_more start lists lists rounds [] (record { begins = λ q. begins_same (at lists q) }) (λ front behind split n. refl) (λ front behind split n. refl)
    told (steps.Dump what place size reply) None c refl (quiet_records start lists lists refl) (quiet_faults start lists lists refl) (λ q. absurd cc))

none_sure : making.none ≡ making.sure → ⊥
none_sure e = cc

-- ---- behind a checkpoint

pub so_far_checkpoint : SoFarThroughCheckpoint
so_far_checkpoint tells start before after sessions rounds reply so_far went = record {
  count = so_far.count;
  each = λ n s e.
      let inside = slice_get_within sessions n s e in
      let low : n < start.sessions = (let c = so_far.count in omega (arith, c, inside)) in
      through_idle tells start before after n (told_by n rounds) s went.kept (went.idle n low) (so_far.each n s e);
  places = subst (λ (h : List Event). Follow in_events 0 rounds (length h)) (sym went.same_history) so_far.places;
  multi_places = subst (λ (h : List MultiEvent). Follow in_multis 0 rounds (length h)) (sym went.same_multis) so_far.multi_places;
  made = so_far.made;
  lines = so_far.lines;
}

-- what it left, by what it added
record LeavesBy (start : Start) (before after : List (List Entry)) (added : List Entry) (reply : Reply) : Type 0 where
  left : Option Counters
  records : checkpoints_in (recs_in added) ≡ cons_option left []
  faults : count_by is_down_fault added ≡ one_if (is_log_fault reply)
  leaves : MayLeave start (history before) (multi_history before) reply left
  answer : IsAnsweredIn start before reply

module _ (start : Start) (before after : List (List Entry)) (added : List Entry) where
  abbrev now : Counters
  now = counters_behind start.base (history before) (multi_history before)

  none_left : (faults : ℕ) → Appends added [] faults → checkpoints_in (recs_in added) ≡ []
  none_left faults a = ap checkpoints_in a.recs_are

  nothing_left : added ≡ [] → checkpoints_in (recs_in added) ≡ []
  nothing_left q = ap (λ es. checkpoints_in (recs_in es)) q

  nothing_told : added ≡ [] → count_by is_down_fault added ≡ 0
  nothing_told q = ap (count_by is_down_fault) q

  left_by : (reply : Reply) → AddsFor start before added reply → LeavesBy start before after added reply
  left_by replies.Done a = record { left = Some now; records = ap checkpoints_in a.recs_are; faults = a.faults_are; leaves = (tt, refl); answer = tt }
  left_by (replies.Pending session refusal) q = record { left = None; records = nothing_left q; faults = nothing_told q; leaves = λ e. absurd cc; answer = tt }
  left_by (replies.Refused refusals.LogFault) a = ⊎_elim
      (λ (x : Appends added [] 1). record { left = None; records = none_left 1 x; faults = x.faults_are; leaves = λ e. absurd cc; answer = tt })
      (λ (x : Appends added (checkpoint_next start before ∷ []) 1). record { left = Some now; records = ap checkpoints_in x.recs_are; faults = x.faults_are; leaves = (tt, refl); answer = tt })
      a
  left_by (replies.Refused (refusals.LogDown down)) a = record { left = None; records = nothing_left a.0; faults = nothing_told a.0; leaves = λ e. absurd cc; answer = a.1 }
  left_by (replies.Refused (refusals.DiskFault lock)) a = record { left = None; records = none_left 0 a.1; faults = a.1.faults_are; leaves = λ e. absurd cc; answer = a.0 }
  left_by (replies.Refused refusals.Full) a = record { left = None; records = none_left 0 a; faults = a.faults_are; leaves = λ e. absurd cc; answer = tt }
  left_by (replies.Refused refusals.Memory) a = record { left = None; records = none_left 0 a; faults = a.faults_are; leaves = λ e. absurd cc; answer = tt }
  left_by reply a = absurd a

module _ (tells : Bool) (start : Start) (before after : List (List Entry)) (sessions : List Session) (rounds : List ToldRound) (reply : Reply)
    (so_far : IsSoFar tells start before sessions rounds) (went : WentCheckpoint start sessions before after reply) where
  then : IsSoFar tells start after sessions rounds
  then = so_far_checkpoint tells start before after sessions rounds reply so_far went

  -- the stage of a session tells what is pending by its lines
  pending_now : (n : ℕ) (s : Session) → slice_get sessions n ≡ Some s → pending (recs_of after) (history after) (all_lines rounds) n ≡ pending_in s.stage
  pending_now n s e = sym (own_pending (recs_of after) (history after) rounds n) ∙ (then.each n s e).pending_is

  committing : (n : ℕ) → IsCommitting sessions n → IsPendingBehind after rounds n
  committing n c = pending_now n c.0 c.1 ∙ c.2

  committed : (n : ℕ) → IsPendingBehind after rounds n → IsCommitting sessions n
  committed n q = ⊎_elim
      (λ (past : start.sessions ≤ n).
      let none : None ≡ Some refusals.CommitPending = sym (none_beyond (recs_of after) (history after) start.sessions rounds n past so_far.lines) ∙ q in
      absurd cc)
      (λ (low : n < start.sessions).
      let s = there sessions n (let c = so_far.count in omega (arith, c, low)) in
      (s.0, s.1, sym (pending_now n s.0 s.1) ∙ q))
      (le_or_over start.sessions n)

  -- and what it makes, what is unfinished
  making_now : (n : ℕ) (s : Session) → slice_get sessions n ≡ Some s → IsToldMaking (unfinished (multi_history after) (all_lines rounds) n) s.making
  making_now n s e = subst (λ (u : Unfinished). IsToldMaking u s.making) (own_making (multi_history after) rounds n) (then.each n s e).making

  may_make : (n : ℕ) → IsMakingMulti sessions n → MayBeMaking after rounds n
  may_make n c q = c.2 (subst (λ (u : Unfinished). IsToldMaking u c.0.making) q (making_now n c.0 c.1))

  must_make : (n : ℕ) → IsSurelyMaking after rounds n → IsMakingMulti sessions n
  must_make n q = ⊎_elim
      (λ (past : start.sessions ≤ n). absurd (none_sure (sym (nothing_beyond (multi_history after) start.sessions rounds n past so_far.lines) ∙ q)))
      (λ (low : n < start.sessions).
      let s = there sessions n (let c = so_far.count in omega (arith, c, low)) in
      (s.0, s.1, subst (λ (u : Unfinished). IsToldMaking u s.0.making) q (making_now n s.0 s.1)))
      (le_or_over start.sessions n)

  left : LeavesBy start before after went.added reply
  left = left_by start before after went.added reply went.adds

  entries : hosts_entries start after ≡ hosts_entries start before ++ went.added
  entries =
      ap (own session_of start.sessions) went.log
      ∙ (filter-append (λ (e : Entry). session_of e == start.sessions) (at before log_lock) went.added
      ∙ ap (λ es. hosts_entries start before ++ es) (filter_all (λ (e : Entry). e.by.session ≡ start.sessions) (λ e. session_of e == start.sessions) went.added (λ e q. eq-eqb e.by.session start.sessions q) went.theirs))

  same_reply : steps.Checkpoint reply ≡ steps.Checkpoint replies.Done → reply ≡ replies.Done
  same_reply q = cc

  -- where it is done, its record was flushed with all before it
  covered : reply ≡ replies.Done → (steps_left : List LeftStep) → checkpoints_in (recs_in (hosts_entries start before)) ≡ filter_map (λ (x : LeftStep). x.1) steps_left
      → checkpoints_in (recs_in (hosts_entries start after)) ≡ checkpoints_in (recs_in (hosts_entries start before)) ++ cons_option left.left [] → IsFlushedBehind start after steps_left
  covered ok steps_left were records = record {
    number = start.from + length (recs_of after);
    flushed = went.flushed ok;
    among =
        let one : length (cons_option left.left []) ≡ 1 = one_left left.left left.leaves ok in
        let now = ap length records ∙ length-append (checkpoints_in (recs_in (hosts_entries start before))) (cons_option left.left []) in
        let then = ap length were in
        let fewer = own_fewer start.sessions (at after log_lock) in
        let all : take (start.from + length (recs_of after) - start.from) (recs_of after) ≡ recs_of after = ap (λ k. take k (recs_of after)) (omega arith) ∙ take_whole (recs_of after) in
        subst (λ (rs : List Rec). length (filter_map (λ (x : LeftStep). x.1) steps_left) < length (checkpoints_in rs)) (sym all) (omega (arith, one, now, then, fewer));
  }
    where
      one_left : (o : Option Counters) → MayLeave start (history before) (multi_history before) reply o → reply ≡ replies.Done → length (cons_option o []) ≡ 1
      one_left None not q = absurd (not q)
      one_left (Some counters) m q = refl

  pub told_then : (told : List Step) → filter is_round told ≡ steps_of 1 rounds → AreCheckpointsTold start before rounds told → AreCheckpointsTold start after rounds (told ++ steps.Checkpoint reply ∷ [])
  told_then told rounds_are c =
      let here : IsCheckpointTold start after (rounds ++ []) told reply left.left = record {
        front = rounds;
        behind = [];
        split = refl;
        steps = rounds_are;
        events = history before;
        begins = ([], append-nil (history before) ∙ sym went.same_history);
        places = so_far.places;
        multis = multi_history before;
        multi_begins = ([], append-nil (multi_history before) ∙ sym went.same_multis);
        multi_places = so_far.multi_places;
        named = names_same (IsCommitting sessions) (IsPendingBehind after rounds) (IsMakingMulti sessions) (MayBeMaking after rounds) (IsMakingMulti sessions) (IsSurelyMaking after rounds) committing committed may_make must_make reply went.named;
        answer = answer_stays start before after reply went.grows left.answer;
        leaves = left.leaves;
      } in
      let records : checkpoints_in (recs_in (hosts_entries start after)) ≡ checkpoints_in (recs_in (hosts_entries start before)) ++ cons_option left.left [] =
      ap (λ es. checkpoints_in (recs_in es)) entries ∙ (checkpoints_append (hosts_entries start before) went.added ∙ ap (λ cs. checkpoints_in (recs_in (hosts_entries start before)) ++ cs) left.records) in
      let faults : count_by is_down_fault (hosts_entries start after) ≡ count_by is_down_fault (hosts_entries start before) + one_if (is_log_fault reply) =
      let a = ap (count_by is_down_fault) entries in
      let b = sum_by-append (λ (e : Entry). one_if (is_down_fault e)) (hosts_entries start before) went.added in
      let f = left.faults in
      omega (arith, a, b, f) in
      subst (λ (rs : List ToldRound). AreCheckpointsTold start after rs (told ++ steps.Checkpoint reply ∷ [])) (append-nil rounds)
      (told_more start before after rounds [] went.grows (rounds_stay tells start before after sessions sessions rounds [] (λ n low. went.kept) went.grows so_far (subst (IsSoFar tells start after sessions) (sym (append-nil rounds)) then))
      (makings_stay tells start before after sessions sessions rounds [] went.grows so_far (subst (IsSoFar tells start after sessions) (sym (append-nil rounds)) then))
      told (steps.Checkpoint reply) left.left c here records faults (λ ok. covered (same_reply ok) c.left c.records records))

pub checkpoint_goes_on : CheckpointGoesOn
checkpoint_goes_on tells start before after sessions rounds told reply so_far went rounds_are c = told_then tells start before after sessions rounds reply so_far went told rounds_are c

pub dumps_stay_checkpoint : DumpsStayThroughCheckpoint
dumps_stay_checkpoint start before after sessions rounds told reply went d =
    subst (λ (rs : List ToldRound). AreDumpsTold start after rs (told ++ steps.Checkpoint reply ∷ [])) (append-nil rounds)
    (dumps_stay start before after rounds [] went.grows told (steps.Checkpoint reply) d tt)
