-- The checkpoints of a life, between its rounds.
use Rattle.std.proofs.Common.{List, ◌≢◌, None, Option, Some, [], ap, append-nil, append_assoc, arith, cond, drop, eq-eqb, false, inl, inr, length, map, refl, subst, suc, sym, take, true, zero, Bool, ℕ, ⊎_elim, ◌+◌, ◌-◌, ◌++◌, ◌<◌, ◌==◌, ◌≤◌, ◌∙◌, ◌∷◌, ◌≡◌}
use Rattle.std.specs.List.{cons_option, filter, filter_map, flat_map, slice_get}
use Rattle.std.proofs.Math.Seq.{take-append_seam}
use Rattle.std.proofs.lemmas.Bool.{false≢true}
use Rattle.std.proofs.lemmas.Grind.{flat_map-append}
use Rattle.std.proofs.lemmas.List.{length-append, map-append}
use Rattle.std.proofs.lemmas.List.Elements.{filter_map-append}
use Rattle.std.proofs.lemmas.Option.{same_Some}
use Rattle.notes.specs.Lists.{at, own}
use Rattle.tx_events.specs.declared.event.By.{By}
use Rattle.tx_events.specs.declared.record.Counters.{Counters}
use Rattle.tx_events.specs.declared.record.Rec.{Rec}
use Rattle.tx_events.specs.declared.record.Rec.TheVariants as records
use Rattle.tx_events.specs.declared.refusal.Refusal.TheVariants as refusals
use Rattle.tx_events.specs.Places.{EachPlace}
use Rattle.tx_events.proofs.Membership.{Has, filter_has, has_contains, has_filter_map, has_place}
use Rattle.tx_model.specs.declared.reply.Reply.{Reply}
use Rattle.tx_model.specs.declared.reply.Reply.TheVariants as replies
use Rattle.tx_model.specs.declared.report.LifeReport.{LifeReport}
use Rattle.tx_model.specs.declared.report.Line.{Line}
use Rattle.tx_model.specs.declared.report.Step.{Step}
use Rattle.tx_model.specs.declared.report.Step.TheVariants as steps
use Rattle.tx_model.specs.Lines.{is_line_of}
use Rattle.tx_model.specs.Rounds.{is_round, lines_in}
use Rattle.tx_model.specs.Stance.{nothing_yet}
use Rattle.life_law.specs.Checkpoints.{AreLawfulCheckpoints, IsCommitPending, IsLawfulCheckpoint, IsNonePending, LeaveCheckpoints, MayCheckpoint, checkpoint_in, checkpoints_in, flushed_in}
use Rattle.life_law.specs.Dumps.{events_behind}
use Rattle.life_law.specs.Facts.{Facts}
use Rattle.life_law.specs.LawfulLife.{facts_of}
use Rattle.life_law.specs.LifeLog.{counters_behind}
use Rattle.life_law.specs.MultiPlaces.{multis_behind}
use Rattle.life_law.specs.MultiStanding as making
use Rattle.life_law.specs.MultiStanding.{unfinished}
use Rattle.life_law.specs.Pending.{pending}
use Rattle.tx_core.specs.MultiEntries.{multi_history}
use Rattle.tx_core.specs.declared.entry.Entry.{Entry}
use Rattle.tx_core.specs.declared.entry.Kind.{Kind}
use Rattle.tx_core.specs.declared.entry.Kind.TheVariants as kinds
use Rattle.tx_core.specs.declared.entry.Start.{Start}
use Rattle.tx_core.specs.Consequences.{IsHosts}
use Rattle.tx_core.specs.Entries.{flushed_to, history, recs_in, session_of}
use Rattle.tx_core.specs.Locks.{log_lock}
use Rattle.tx_core.proofs.LogLaws.{flushes_rise}
use Rattle.tx_core.proofs.Opening.{sessions_known}
use Rattle.session_promise.specs.Checkpoints.{AreCheckpointsTold, IsAnsweredIn, IsFlushedBehind, IsPendingBehind, IsStepLeft, IsSurelyMaking, LeftStep, MayBeMaking, MayLeave, NamesLeast, hosts_entries}
use Rattle.session_promise.specs.Closing.{BeginsAt, IsOver, IsReportOf}
use Rattle.session_promise.specs.Promise.{IsOfSession, recs_of}
use Rattle.session_promise.specs.Told.{ToldRound, all_lines, steps_of}
use Rattle.session_promise.proofs.Between.{lines_of_rounds, step_lines}
use Rattle.session_promise.proofs.CheckpointsStay.{names_same}
use Rattle.session_promise.proofs.Flushing.{checkpoints_to}
use Rattle.session_promise.proofs.HostFaults.{failed}
use Rattle.session_promise.proofs.LawfulDumps.{events_first, multis_first}
use Rattle.session_promise.proofs.LawfulReplies.{down_flushed}
use Rattle.session_promise.proofs.LawfulSteps.{each_mid, from_logged, report_lines}
use Rattle.session_promise.proofs.RecordPlaces.{filter_map_has, rec_has}

-- ---- lists

map_at : {A B : Type 0} (f : A → B) (xs : List A) (p : ℕ) (y : B) → slice_get (map f xs) p ≡ Some y → (x : A) × (slice_get xs p ≡ Some x) × (f x ≡ y)
map_at f [] p y e = absurd cc
map_at f (x ∷ xs) zero y e = (x, refl, same_Some (f x) y e)
map_at f (x ∷ xs) (suc p) y e = map_at f xs p y e

take_map : {A B : Type 0} (f : A → B) (p : ℕ) (xs : List A) → take p (map f xs) ≡ map f (take p xs)
take_map f zero xs = refl
take_map f (suc p) [] = refl
take_map f (suc p) (x ∷ xs) = ap (λ ys. f x ∷ ys) (take_map f p xs)

take_drop : {X : Type 0} (k : ℕ) (xs : List X) → take k xs ++ drop k xs ≡ xs
take_drop zero xs = refl
take_drop (suc k) [] = refl
take_drop (suc k) (x ∷ xs) = ap (λ ys. x ∷ ys) (take_drop k xs)

drop_first : {X : Type 0} (k : ℕ) (x : X) (xs : List X) → drop 1 (take k (x ∷ xs)) ≡ take (k - 1) xs
drop_first zero x xs = refl
drop_first (suc k) x xs = ap (λ n. take n xs) (omega arith)

abbrev head_of : {X : Type 0} → List X → Option X
head_of [] = None
head_of (x ∷ xs) = Some x

each_mapped : {A B : Type 0} (P : List B → B → Type 0) (f : A → B) (xs : List A) → EachPlace xs (λ before x. P (map f before) (f x)) → EachPlace (map f xs) P
each_mapped P f xs each p y e =
    let x = map_at f xs p y e in
    subst (λ ys. P ys y) (sym (take_map f p xs)) (subst (P (map f (take p xs))) x.2 (each p x.0 x.1))

-- ---- the records of checkpoints are the host's

abbrev left_by_kind : Kind → Option Counters
left_by_kind (kinds.Append rec) = checkpoint_in rec
left_by_kind kind = None

checkpoints_more : (by : By) (kind : Kind) (es : List Entry) → checkpoints_in (recs_in (record { by = by; kind = kind } ∷ es)) ≡ cons_option (left_by_kind kind) (checkpoints_in (recs_in es))
checkpoints_more by (kinds.Append rec) es = refl
checkpoints_more by kind es = refl

checkpoints_own : (n : ℕ) (es : List Entry) → ((e : Entry) → Has es e → (session_of e == n) ≡ false → left_by_kind e.kind ≡ None) → checkpoints_in (recs_in es) ≡ checkpoints_in (recs_in (own session_of n es))
checkpoints_own n [] none = refl
checkpoints_own n (e ∷ es) none =
    checkpoints_more e.by e.kind es
    ∙ (ap (cons_option (left_by_kind e.kind)) (checkpoints_own n es (λ x h q. none x (inr h) q))
    ∙ step (session_of e == n) refl)
  where
    step : (b : Bool) → (session_of e == n) ≡ b → cons_option (left_by_kind e.kind) (checkpoints_in (recs_in (own session_of n es))) ≡ checkpoints_in (recs_in (cond b (e ∷ own session_of n es) (own session_of n es)))
    step true q = sym (checkpoints_more e.by e.kind (own session_of n es))
    step false q = ap (λ (o : Option Counters). cons_option o (checkpoints_in (recs_in (own session_of n es)))) (none e (inl refl) q)

module _ (tells : Bool) (start : Start) (lists : List (List Entry)) (rounds : List ToldRound) (over : IsOver tells start lists rounds) where
  -- a session's record is of an end
  of_end : (e : Entry) → e.by.session < start.sessions → Has (at lists log_lock) e → left_by_kind e.kind ≡ None
  of_end e low h = by_kind e.kind refl
    where
      end : (rec : Rec) → IsOfSession rec → checkpoint_in rec ≡ None
      end (records.Checkpoint number counters) x = absurd x
      end rec x = refl

      by_kind : (kind : Kind) → e.kind ≡ kind → left_by_kind kind ≡ None
      by_kind (kinds.Append rec) q =
          let is : e ≡ record { by = e.by; kind = kinds.Append rec } = λ j. record { by = e.by; kind = q j } in
          end rec ((over.each e.by.session low).1.ends e.by rec refl (has_contains (at lists log_lock) _ (subst (Has (at lists log_lock)) is h)))
      by_kind kind q = refl

  pub all_hosts : checkpoints_in (recs_of lists) ≡ checkpoints_in (recs_in (hosts_entries start lists))
  all_hosts = checkpoints_own start.sessions (at lists log_lock) (λ e h q. ⊎_elim
      (λ (low : e.by.session < start.sessions). of_end e low h)
      (λ (his : IsHosts start e). absurd (false≢true (sym q ∙ eq-eqb e.by.session start.sessions his.0)))
      (sessions_known start lists over.kept log_lock e (has_contains (at lists log_lock) e h)))

-- ---- a checkpoint's record has the counters of some place

module _ (start : Start) (lists : List (List Entry)) (rounds : List ToldRound) (told : List Step) (c : AreCheckpointsTold start lists rounds told) where
  abbrev IsOfPlace : Counters → Type 0
  IsOfPlace counters = (place : ℕ) × (place ≤ length (history lists)) × (at : ℕ) × (at ≤ length (multi_history lists))
      × (counters ≡ counters_behind start.base (take place (history lists)) (take at (multi_history lists)))

  step_behind : (before : List Step) (step : Step) (o : Option Counters) (counters : Counters) → IsStepLeft start lists rounds before step o → o ≡ Some counters → IsOfPlace counters
  step_behind before (steps.Checkpoint reply) o counters s q =
      let m : MayLeave start s.events s.multis reply (Some counters) = subst (MayLeave start s.events s.multis reply) q s.leaves in
      let multi_first : take (length s.multis) (multi_history lists) ≡ s.multis = ap (take (length s.multis)) (sym s.multi_begins.1) ∙ take-append_seam s.multis s.multi_begins.0 in
      let multi_whole : length s.multis + length s.multi_begins.0 ≡ length (multi_history lists) = sym (length-append s.multis s.multi_begins.0) ∙ ap length s.multi_begins.1 in
      let first : take (length s.events) (history lists) ≡ s.events = ap (take (length s.events)) (sym s.begins.1) ∙ take-append_seam s.events s.begins.0 in
      let whole : length s.events + length s.begins.0 ≡ length (history lists) = sym (length-append s.events s.begins.0) ∙ ap length s.begins.1 in
      (length s.events, omega (arith, whole), length s.multis, omega (arith, multi_whole), m.1 ∙ (λ j. counters_behind start.base (sym first j) (sym multi_first j)))
  step_behind before (steps.Round number lines) o counters s q = let none : None ≡ Some counters = sym s ∙ q in absurd cc
  step_behind before (steps.Dump what place size reply) o counters s q = let none : None ≡ Some counters = sym s ∙ q in absurd cc

  pub left_behind : (by : By) (number : ℕ) (counters : Counters) → by.session ≡ start.sessions → Has (at lists log_lock) (record { by = by; kind = kinds.Append (records.Checkpoint number counters) }) → IsOfPlace counters
  left_behind by number counters own h =
      let e : Entry = record { by = by; kind = kinds.Append (records.Checkpoint number counters) } in
      let mine : Has (hosts_entries start lists) e = filter_has (λ (e : Entry). session_of e == start.sessions) (at lists log_lock) e h (eq-eqb by.session start.sessions own) in
      let rec : Has (recs_in (hosts_entries start lists)) (records.Checkpoint number counters) = rec_has (hosts_entries start lists) by (records.Checkpoint number counters) mine in
      let counted : Has (checkpoints_in (recs_in (hosts_entries start lists))) counters = filter_map_has checkpoint_in (recs_in (hosts_entries start lists)) (records.Checkpoint number counters) counters rec refl in
      let x = has_filter_map (λ (y : LeftStep). y.1) c.left counters (subst (λ cs. Has cs counters) c.records counted) in
      let p = has_place c.left x.0 x.1 in
      step_behind (map (λ (y : LeftStep). y.0) (take p.0 c.left)) x.0.0 x.0.1 counters (c.each p.0 x.0 p.1) x.2

-- ---- the life's report

module _ (tells : Bool) (start : Start) (lists : List (List Entry)) (rounds : List ToldRound) (r : LifeReport) (begins : BeginsAt r.life.from start) (over : IsOver tells start lists rounds) (c : AreCheckpointsTold start lists rounds r.steps) (is : IsReportOf start lists rounds r) where
  abbrev f : Facts
  f = facts_of tells start.banks r.life r.steps

  recs_are : r.life.recs ≡ records.Checkpoint r.life.from start.base ∷ recs_of lists
  recs_are = is.recs ∙ ap (λ (rs : List Rec). rs ++ recs_of lists) begins.logged

  pending_is : (before : List Step) (front : List ToldRound) → filter is_round before ≡ steps_of 1 front → (n : ℕ) → pending r.life.recs r.life.events (flat_map lines_in before) n ≡ pending (recs_of lists) (history lists) (all_lines front) n
  pending_is before front told n =
      let lines : flat_map lines_in before ≡ all_lines front = sym (lines_of_rounds before) ∙ (ap (flat_map lines_in) told ∙ step_lines 1 front) in
      (λ j. pending (recs_are j) (is.events j) (lines j) n)
      ∙ from_logged r.life.from start.base (recs_of lists) (history lists) (filter (is_line_of n) (all_lines front)) nothing_yet None

  making_is : (before : List Step) (front : List ToldRound) → filter is_round before ≡ steps_of 1 front → (n : ℕ) → unfinished r.life.multis (flat_map lines_in before) n ≡ unfinished (multi_history lists) (all_lines front) n
  making_is before front told n =
      let lines : flat_map lines_in before ≡ all_lines front = sym (lines_of_rounds before) ∙ (ap (flat_map lines_in) told ∙ step_lines 1 front) in
      λ j. unfinished (is.multis j) (lines j) n

  abbrev MayMake : List Line → ℕ → Type 0
  MayMake before n = unfinished f.multis before n ≢ making.none

  abbrev MustMake : List Line → ℕ → Type 0
  MustMake before n = unfinished f.multis before n ≡ making.sure

  none_of : (before : List Line) → ((n : ℕ) → IsCommitPending f before n → ⊥) × ((n : ℕ) → MustMake before n → ⊥) → IsNonePending f before
  none_of before k = record { commits = k.0; multis = k.1 }

  answered : (before : List Line) (reply : Reply) → NamesLeast (IsCommitPending f before) (MayMake before) (MustMake before) reply → IsAnsweredIn start lists reply → MayCheckpoint f before reply
  answered before replies.Done k a = none_of before k
  answered before (replies.Pending session refusals.CommitPending) k a = k
  answered before (replies.Pending session refusals.MultiPending) k a = k
  answered before (replies.Pending session refusal) k a = absurd k
  answered before (replies.Refused refusals.LogFault) k a = none_of before k
  answered before (replies.Refused (refusals.LogDown down)) k a =
      (none_of before k, down_flushed start lists down over.kept a ∙ sym is.flushed, failed tells start lists rounds over r.steps c (report_lines start lists rounds r is) down a)
  answered before (replies.Refused (refusals.DiskFault lock)) k a = (none_of before k, a)
  answered before (replies.Refused refusals.Full) k a = none_of before k
  answered before (replies.Refused refusals.Memory) k a = none_of before k
  answered before reply k a = absurd a

  step_lawful : (before : List Step) (step : Step) (o : Option Counters) → IsStepLeft start lists rounds before step o → IsLawfulCheckpoint f (flat_map lines_in before) step
  step_lawful before (steps.Checkpoint reply) o s =
      let same = pending_is before s.front s.steps in
      let alike = making_is before s.front s.steps in
      answered (flat_map lines_in before) reply
      (names_same (IsPendingBehind lists s.front) (IsCommitPending f (flat_map lines_in before)) (MayBeMaking lists s.front) (MayMake (flat_map lines_in before)) (IsSurelyMaking lists s.front) (MustMake (flat_map lines_in before))
      (λ n p. same n ∙ p) (λ n p. sym (same n) ∙ p) (λ n may q. may (sym (alike n) ∙ q)) (λ n q. sym (alike n) ∙ q) reply s.named) s.answer
  step_lawful before (steps.Round number lines) o s = tt
  step_lawful before (steps.Dump what place size reply) o s = tt

  each_lawful : EachPlace r.steps (λ before step. IsLawfulCheckpoint f (flat_map lines_in before) step)
  each_lawful = subst (λ (ss : List Step). EachPlace ss (λ before step. IsLawfulCheckpoint f (flat_map lines_in before) step)) c.steps_are
      (each_mapped (λ before step. IsLawfulCheckpoint f (flat_map lines_in before) step) (λ (x : LeftStep). x.0) c.left
      (λ p x e. step_lawful (map (λ (y : LeftStep). y.0) (take p c.left)) x.0 x.1 (c.each p x e)))

  abbrev steps_in : List LeftStep → List Step
  steps_in xs = map (λ (x : LeftStep). x.0) xs

  abbrev left_in : List LeftStep → List Counters
  left_in xs = filter_map (λ (x : LeftStep). x.1) xs

  lines_push : (before : List LeftStep) (x : LeftStep) → flat_map lines_in (steps_in (before ++ x ∷ [])) ≡ flat_map lines_in (steps_in before) ++ lines_in x.0
  lines_push before x =
      ap (flat_map lines_in) (map-append (λ (x : LeftStep). x.0) before (x ∷ []))
      ∙ (flat_map-append lines_in (steps_in before) (x.0 ∷ [])
      ∙ ap (λ ls. flat_map lines_in (steps_in before) ++ ls) (append-nil (lines_in x.0)))

  one_left : (before : List Step) (step : Step) (o : Option Counters) (more : List Step) (left : List Counters) → IsStepLeft start lists rounds before step o
      → LeaveCheckpoints f (flat_map lines_in before ++ lines_in step) more left → LeaveCheckpoints f (flat_map lines_in before) (step ∷ more) (cons_option o left)
  one_left before (steps.Round number lines) o more left s rest = subst (λ (x : Option Counters). LeaveCheckpoints f (flat_map lines_in before) (steps.Round number lines ∷ more) (cons_option x left)) (sym s) rest
  one_left before (steps.Dump what place size reply) o more left s rest = subst (λ (x : Option Counters). LeaveCheckpoints f (flat_map lines_in before) (steps.Dump what place size reply ∷ more) (cons_option x left)) (sym s) rest
  one_left before (steps.Checkpoint reply) None more left s rest =
      inr (s.leaves, subst (λ ls. LeaveCheckpoints f ls more left) (append-nil (flat_map lines_in before)) rest)
  one_left before (steps.Checkpoint reply) (Some counters) more left s rest =
      let events = events_first tells start lists rounds over r is before s.front s.behind s.events s.split s.steps s.begins s.places in
      let multis = multis_first tells start lists rounds over r is before s.front s.behind s.multis s.split s.steps s.multi_begins s.multi_places in
      let same : counters ≡ counters_behind r.life.base (events_behind r.life.events (flat_map lines_in before)) (multis_behind r.life.multis (flat_map lines_in before))
      = s.leaves.1 ∙ (λ j. counters_behind (sym is.base j) (events j) (multis j)) in
      inl (s.leaves.0, left, ap (λ x. x ∷ left) same, subst (λ ls. LeaveCheckpoints f ls more left) (append-nil (flat_map lines_in before)) rest)

  leave : (before rest : List LeftStep) → c.left ≡ before ++ rest → LeaveCheckpoints f (flat_map lines_in (steps_in before)) (steps_in rest) (left_in rest)
  leave before [] q = refl
  leave before (x ∷ rest) q =
      let here : IsStepLeft start lists rounds (steps_in before) x.0 x.1 = each_mid (λ before x. IsStepLeft start lists rounds (steps_in before) x.0 x.1) c.left before rest x q c.each in
      one_left (steps_in before) x.0 x.1 (steps_in rest) (left_in rest) here
      (subst (λ ls. LeaveCheckpoints f ls (steps_in rest) (left_in rest)) (lines_push before x) (leave (before ++ x ∷ []) rest (q ∙ sym (append_assoc before (x ∷ []) rest))))

  -- So do those that are known to be on disk, which are the first ones. An `ok` one's is among them.
  abbrev Covers : List Counters → List LeftStep → Type 0
  Covers left rest = EachPlace rest (λ before x. x.0 ≡ steps.Checkpoint replies.Done → length (left_in before) < length left)

  leave_first : (before rest : List LeftStep) (left : List Counters) (over : List Counters) → c.left ≡ before ++ rest → left ++ over ≡ left_in rest → Covers left rest → LeaveCheckpoints f (flat_map lines_in (steps_in before)) (steps_in rest) left
  leave_first before [] [] over q split k = refl
  leave_first before [] (y ∷ left) over q split k = absurd cc
  leave_first before (x ∷ rest) left over q split k = by_left (λ left over split k. leave_first (before ++ x ∷ []) rest left over (q ∙ sym (append_assoc before (x ∷ []) rest)) split k) x.1 refl left split (k 0 x refl) (λ p z e ok. k (suc p) z e ok)
    where
      here : IsStepLeft start lists rounds (steps_in before) x.0 x.1
      here = each_mid (λ before x. IsStepLeft start lists rounds (steps_in before) x.0 x.1) c.left before rest x q c.each

      Next : Type 0
      Next = (left over : List Counters) → left ++ over ≡ left_in rest → Covers left rest → LeaveCheckpoints f (flat_map lines_in (steps_in (before ++ x ∷ []))) (steps_in rest) left

      go_on : Next → (left over : List Counters) → left ++ over ≡ left_in rest → Covers left rest → LeaveCheckpoints f (flat_map lines_in (steps_in before) ++ lines_in x.0) (steps_in rest) left
      go_on next left over split k = subst (λ ls. LeaveCheckpoints f ls (steps_in rest) left) (lines_push before x) (next left over split k)

      none_of : (step : Step) (o : Option Counters) → IsStepLeft start lists rounds (steps_in before) step o → (step ≡ steps.Checkpoint replies.Done → ⊥) → LeaveCheckpoints f (flat_map lines_in (steps_in before) ++ lines_in step) (steps_in rest) [] → LeaveCheckpoints f (flat_map lines_in (steps_in before)) (step ∷ steps_in rest) []
      none_of (steps.Round number lines) o s not then = then
      none_of (steps.Dump what place size reply) o s not then = then
      none_of (steps.Checkpoint reply) o s not then = inr (λ done. not (ap steps.Checkpoint done), subst (λ ls. LeaveCheckpoints f ls (steps_in rest) []) (append-nil (flat_map lines_in (steps_in before))) then)

      by_left : Next → (o : Option Counters) → x.1 ≡ o → (left : List Counters) → left ++ over ≡ cons_option x.1 (left_in rest) → (x.0 ≡ steps.Checkpoint replies.Done → 0 < length left)
          → ((p : ℕ) (z : LeftStep) → slice_get rest p ≡ Some z → z.0 ≡ steps.Checkpoint replies.Done → length (cons_option x.1 (left_in (take p rest))) < length left)
          → LeaveCheckpoints f (flat_map lines_in (steps_in before)) (x.0 ∷ steps_in rest) left
      by_left next None is left split first k =
          subst (λ (o : Option Counters). LeaveCheckpoints f (flat_map lines_in (steps_in before)) (x.0 ∷ steps_in rest) (cons_option o left)) is
          (one_left (steps_in before) x.0 x.1 (steps_in rest) left here
          (go_on next left over (split ∙ ap (λ (o : Option Counters). cons_option o (left_in rest)) is) (λ p z e ok. subst (λ (o : Option Counters). length (cons_option o (left_in (take p rest))) < length left) is (k p z e ok))))
      by_left next (Some counters) is [] split first k =
          none_of x.0 x.1 here (λ ok. let z = first ok in omega (arith, z))
          (go_on next [] (left_in rest) refl (λ p z e ok. let y = k p z e ok in absurd (omega (arith, y))))
      by_left next (Some counters) is (y ∷ left) split first k =
          let both : y ∷ (left ++ over) ≡ counters ∷ left_in rest = split ∙ ap (λ (o : Option Counters). cons_option o (left_in rest)) is in
          let head : Some y ≡ x.1 = ap head_of both ∙ sym is in
          let tail : left ++ over ≡ left_in rest = ap (drop 1) both in
          subst (λ (o : Option Counters). LeaveCheckpoints f (flat_map lines_in (steps_in before)) (x.0 ∷ steps_in rest) (cons_option o left)) (sym head)
          (one_left (steps_in before) x.0 x.1 (steps_in rest) left here
          (go_on next left over tail (λ p z e ok. let m = subst (λ (o : Option Counters). length (cons_option o (left_in (take p rest))) < suc (length left)) is (k p z e ok) in omega (arith, m))))

  abbrev flushed : ℕ
  flushed = flushed_to start (at lists log_lock)

  on_disk : drop 1 (flushed_in f) ≡ take (flushed - start.from) (recs_of lists)
  on_disk =
      let place : flushed - r.life.from - 1 ≡ flushed - start.from = let b = begins.from in omega arith in
      (λ j. drop 1 (take (is.flushed j - r.life.from) (recs_are j)))
      ∙ (drop_first (flushed - r.life.from) (records.Checkpoint r.life.from start.base) (recs_of lists)
      ∙ ap (λ k. take k (recs_of lists)) place)

  -- the last flush reached the furthest
  covers : (before : List LeftStep) → IsFlushedBehind start lists before → length (left_in before) < length (checkpoints_in (drop 1 (flushed_in f)))
  covers before k =
      let furthest = (flushes_rise start lists over.kept).greatest k.number k.flushed in
      let more = checkpoints_to (k.number - start.from) (flushed - start.from) (recs_of lists) (omega (arith, furthest)) in
      let a = k.among in
      subst (λ (rs : List Rec). length (left_in before) < length (checkpoints_in rs)) (sym on_disk) (omega (arith, more, a))

  pub checkpoints_lawful : AreLawfulCheckpoints f r.steps
  checkpoints_lawful = record {
    each = each_lawful;
    left =
        let are : left_in c.left ≡ checkpoints_in (drop 1 r.life.recs) = sym (ap (λ (rs : List Rec). checkpoints_in (drop 1 rs)) recs_are ∙ (all_hosts tells start lists rounds over ∙ c.records)) in
        subst (λ (x : List Step × List Counters). LeaveCheckpoints f [] x.0 x.1) (λ j. (c.steps_are j, are j)) (leave [] c.left refl);
    flushed =
        let k = flushed - start.from in
        let cut : take k (recs_of lists) ++ drop k (recs_of lists) ≡ recs_of lists = take_drop k (recs_of lists) in
        let split : checkpoints_in (take k (recs_of lists)) ++ checkpoints_in (drop k (recs_of lists)) ≡ left_in c.left =
        sym (filter_map-append checkpoint_in (take k (recs_of lists)) (drop k (recs_of lists))) ∙ (ap checkpoints_in cut ∙ (all_hosts tells start lists rounds over ∙ c.records)) in
        subst (λ (x : List Step). LeaveCheckpoints f [] x (checkpoints_in (drop 1 (flushed_in f)))) c.steps_are
        (leave_first [] c.left (checkpoints_in (drop 1 (flushed_in f))) (checkpoints_in (drop k (recs_of lists))) refl
        (ap (λ (rs : List Rec). checkpoints_in rs ++ checkpoints_in (drop k (recs_of lists))) on_disk ∙ split)
        (λ p x e ok. covers (take p c.left) (c.flushed p x e ok)));
  }
