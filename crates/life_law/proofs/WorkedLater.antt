-- The worked life with a checkpoint is lawful, and the wrong ones aren't.
use Rattle.std.proofs.Common.{◌∙◌, ◌+◌, ◌==◌, ◌≡◌, ◌≢◌, ◌↔◌, ℕ, zero, suc, ◌≤◌, List, [], ◌∷◌, ◌++◌, true, false, IsTrue, Contains, None, Some, refl, sym, ap, subst, inl, inr, ⊎_elim, arith, take, slice_get, drop}
use Rattle.std.proofs.lemmas.Bool.{false≢true}
use Rattle.std.proofs.lemmas.List.Elements.{All-from_recursion}
use Rattle.std.specs.List.{flat_map}
use Rattle.tx_events.specs.declared.event.By.{By}
use Rattle.tx_events.specs.declared.event.Event.{Event}
use Rattle.tx_events.specs.declared.event.Event.TheVariants as events
use Rattle.tx_events.specs.declared.record.Counters.{Counters}
use Rattle.tx_events.specs.declared.record.Rec.{Rec}
use Rattle.tx_events.specs.declared.record.Rec.TheVariants as records
use Rattle.tx_events.specs.declared.refusal.Refusal.{Refusal}
use Rattle.tx_events.specs.declared.refusal.Refusal.TheVariants as refusals
use Rattle.tx_events.specs.declared.xact_end.XactEnd.TheVariants as ends
use Rattle.tx_events.specs.Events.{by_of, given_by}
use Rattle.tx_events.specs.Horizon.{oldest_id}
use Rattle.tx_events.specs.History.{ComesInTurn, IsLegal, MayCome}
use Rattle.tx_events.specs.Limits.{warn_limit}
use Rattle.tx_events.specs.Running.{open_ids}
use Rattle.tx_events.proofs.ListSteps.{below_not}
use Rattle.tx_events.proofs.Membership.{contains_has}
use Rattle.tx_model.specs.declared.command.Command.TheVariants as commands
use Rattle.tx_model.specs.declared.reply.Reply.TheVariants as replies
use Rattle.tx_model.specs.declared.report.Line.{Line}
use Rattle.tx_model.specs.declared.report.Step.TheVariants as steps
use Rattle.tx_model.specs.Asked as asked
use Rattle.tx_model.specs.Asked.{Asked}
use Rattle.tx_model.specs.Lines.{has_line, span_of}
use Rattle.tx_model.specs.Replies.{IsWarned}
use Rattle.tx_model.specs.Rounds.{StandFirst, lines_in}
use Rattle.life_law.specs.Checkpoints.{IsCommitPending, IsLawfulCheckpoint, IsNonePending}
use Rattle.life_law.specs.Dumps.{IsLawfulBetween}
use Rattle.life_law.specs.Facts.{Facts}
use Rattle.life_law.specs.LawfulLife.{facts_of}
use Rattle.life_law.specs.Laws.{IsLawful}
use Rattle.life_law.specs.LifeLog.{IsAmong, IsLogOf, IsMultisRecord, IsRecordOf, IsTransaction, ends_top}
use Rattle.life_law.specs.Lines.{IsLawfulLine, IsLawfulRound}
use Rattle.life_law.specs.MultiPlaces.{multi_span}
use Rattle.life_law.specs.MultiStanding as making
use Rattle.life_law.specs.MultiStanding.{unfinished}
use Rattle.life_law.proofs.Untouched.{untouched}
use Rattle.life_law.specs.Pending.{IsOpenAsTold, pending}
use Rattle.life_law.specs.Worked.{by_at, worked_base}
use Rattle.life_law.specs.WorkedCheckpoints.{WorkedCheckpoints, checked_counters, checked_events, checked_life, ending_lines, written_lines}
use Rattle.life_law.proofs.ByPlace.{places}

-- ---- its history

is_legal : IsLegal worked_base checked_events
is_legal = record {
  rules = places (MayCome worked_base) checked_events (
    (record { next = refl; below_stop = omega arith }, refl),
    (((0, omega arith, refl), refl), tt),
  );
  turns = places ComesInTurn checked_events (
    All-from_recursion (λ f. (by_of f).command ≤ 2) [] tt,
    (All-from_recursion (λ f. (by_of f).command ≤ 3) (events.Id (by_at 0 2) 3 ∷ []) (omega arith, tt), tt),
  );
}

not_warned : (by : By) → IsTrue false ↔ IsWarned worked_base checked_events by
not_warned by = (λ t. absurd (false≢true t), λ w. absurd (early w.place w.id w.given.event w.given.at w.given.gives w.late))
  where
    small : (id : ℕ) → id ≤ 4 → 2107483650 ≤ id → ⊥
    small id a b = omega arith

    early : (p id : ℕ) (e : Event) → slice_get checked_events p ≡ Some e → given_by e ≡ Some id → warn_limit (oldest_id 3 (take p checked_events)) ≤ id → ⊥
    early zero id e at gives late =
        let is : events.Id (by_at 0 2) 3 ≡ e = cc in
        let one : Some 3 ≡ Some id = ap given_by is ∙ gives in
        let same : 3 ≡ id = cc in
        small id (omega (arith, same)) late
    early (suc zero) id e at gives late =
        let is : events.Commit (by_at 0 3) 3 ≡ e = cc in
        let none : None ≡ Some id = ap given_by is ∙ gives in
        cc
    early (suc (suc p)) id e at gives late = cc

-- ---- its log

abbrev its_recs : List Rec
its_recs = checked_life.life.recs

abbrev behind_first : List Rec
behind_first = records.Checkpoint 1 checked_counters ∷ records.Commit 3 [] ∷ []

abbrev IsFiled : Event → Type 0
IsFiled (events.Commit by top) = IsAmong 3 its_recs (records.Commit top (drop 1 (open_ids by.session (take 1 checked_events))))
IsFiled e = Unit {0}

abbrev number_in : Rec → ℕ
number_in (records.Checkpoint number counters) = number
number_in rec = 0

its_log : IsLogOf 0 worked_base checked_events [] its_recs 3 140
its_log = record {
  rest = behind_first;
  split = refl;
  begun = omega arith;
  within = omega arith;
  each = λ rec k. ⊎_elim (λ (e : records.Checkpoint 1 checked_counters ≡ rec). subst (IsRecordOf worked_base checked_events []) e (1, omega arith, 0, omega arith, refl))
      (λ t. ⊎_elim (λ (e : records.Commit 3 [] ≡ rec). subst (IsRecordOf worked_base checked_events []) e ended) (λ none. absurd none) t)
      (contains_has behind_first rec k);
  once = λ i j id a b e f s t. last_at i a id e s ∙ sym (last_at j b id f t);
  multi_once = λ i j multi a b e f s t. absurd (no_multi i a multi e s);
  numbered = own_number;
  committed = filed;
  count = omega arith;
  gate = omega arith;
}
  where
    ended : IsTransaction checked_events ends.Commit 3 []
    ended = record { session = 0; root = refl; ids = inr (1, by_at 0 3, refl, refl, refl) }

    last_at : (i : ℕ) (a : Rec) (id : ℕ) → slice_get behind_first i ≡ Some a → ends_top a id → i ≡ 1
    last_at zero a id e s =
        let is : a ≡ records.Checkpoint 1 checked_counters = cc in
        absurd (subst (λ r. ends_top r id) is s)
    last_at (suc zero) a id e s = refl
    last_at (suc (suc i)) a id e s = absurd cc

    no_multi : (i : ℕ) (a : Rec) (multi : ℕ) → slice_get behind_first i ≡ Some a → IsMultisRecord a multi → ⊥
    no_multi zero a multi e s =
        let is : a ≡ records.Checkpoint 1 checked_counters = cc in
        subst (λ r. IsMultisRecord r multi) is s
    no_multi (suc zero) a multi e s =
        let is : a ≡ records.Commit 3 [] = cc in
        subst (λ r. IsMultisRecord r multi) is s
    no_multi (suc (suc i)) a multi e s = absurd cc

    own_number : (place number : ℕ) (counters : Counters) → slice_get its_recs place ≡ Some (records.Checkpoint number counters) → number ≡ 0 + place
    own_number zero number counters e =
        let is : records.Checkpoint 0 worked_base ≡ records.Checkpoint number counters = cc in
        sym (ap number_in is)
    own_number (suc zero) number counters e =
        let is : records.Checkpoint 1 checked_counters ≡ records.Checkpoint number counters = cc in
        sym (ap number_in is)
    own_number (suc (suc zero)) number counters e = absurd cc
    own_number (suc (suc (suc place))) number counters e = absurd cc

    filed : (p top : ℕ) (by : By) → slice_get checked_events p ≡ Some (events.Commit by top) → IsAmong 3 its_recs (records.Commit top (drop 1 (open_ids by.session (take p checked_events))))
    filed zero top by e = absurd cc
    filed (suc zero) top by e =
        let is : events.Commit (by_at 0 3) 3 ≡ events.Commit by top = cc in
        subst IsFiled is (2, omega arith, refl)
    filed (suc (suc p)) top by e = absurd cc

-- ---- its lines

abbrev its_lines : List Line
its_lines = flat_map lines_in checked_life.steps

abbrev its_facts : Facts
its_facts = facts_of true 4 checked_life.life checked_life.steps

no_abort : (top : ℕ) (subs : List ℕ) → Contains its_recs (records.Abort top subs) → ⊥
no_abort top subs k = ⊎_elim (λ (e : records.Checkpoint 0 worked_base ≡ records.Abort top subs). cc)
    (λ t. ⊎_elim (λ (e : records.Checkpoint 1 checked_counters ≡ records.Abort top subs). cc)
    (λ u. ⊎_elim (λ (e : records.Commit 3 [] ≡ records.Abort top subs). cc) (λ none. none) u) t)
    (contains_has its_recs (records.Abort top subs) k)

nil_cons : (x : ℕ) (xs : List ℕ) → [] ≡ x ∷ xs → ⊥
nil_cons x xs e = cc

no_refusal : (r : Refusal) → None ≡ Some r → ⊥
no_refusal r e = cc

others_open : (n : ℕ) → (0 == n) ≡ false → open_ids n checked_events ≡ []
others_open n q = rw q refl

others_pending : (n : ℕ) → (0 == n) ≡ false → pending its_recs checked_events its_lines n ≡ None
others_pending n q = rw q refl

nothing_open : (n : ℕ) → open_ids n checked_events ≡ [] → pending its_recs checked_events its_lines n ≡ None → IsOpenAsTold its_recs checked_events its_lines n
nothing_open n none still = record {
  commit = λ top subs k e. absurd (nil_cons top subs (sym none ∙ e));
  abort = λ top subs k e. absurd (nil_cons top subs (sym none ∙ e));
  recorded = λ e. absurd (no_refusal refusals.CommitPending (sym still ∙ e));
}

its_open : (session : ℕ) → IsOpenAsTold its_recs checked_events its_lines session
its_open zero = nothing_open 0 refl refl
its_open (suc n) =
    let other : (0 == suc n) ≡ false = below_not 0 (suc n) (omega arith) in
    nothing_open (suc n) (others_open (suc n) other) (others_pending (suc n) other)

pending_first : (n : ℕ) → (0 == n) ≡ false → pending its_recs checked_events written_lines n ≡ None
pending_first n q = rw q refl

none_committing : (n : ℕ) → IsCommitPending its_facts written_lines n → ⊥
none_committing zero e = no_refusal refusals.CommitPending e
none_committing (suc n) e =
    no_refusal refusals.CommitPending (sym (pending_first (suc n) (below_not 0 (suc n) (omega arith))) ∙ e)

nothing_unfinished : (n : ℕ) → (0 == n) ≡ false → unfinished [] written_lines n ≡ making.none
nothing_unfinished n q = rw q refl

none_sure : making.none ≡ making.sure → ⊥
none_sure e = cc

none_making : (n : ℕ) → unfinished [] written_lines n ≢ making.sure
none_making zero e = none_sure e
none_making (suc n) e = none_sure (sym (nothing_unfinished (suc n) (below_not 0 (suc n) (omega arith))) ∙ e)

none_pending : IsNonePending its_facts written_lines
none_pending = record { commits = none_committing; multis = none_making }

behind_writes : StandFirst checked_events written_lines
behind_writes = record {
  first = take 1 checked_events;
  behind = drop 1 checked_events;
  split = refl;
  theirs = All-from_recursion (λ e. IsTrue (has_line written_lines e)) (take 1 checked_events) (refl, tt);
  others = All-from_recursion (λ e. has_line written_lines e ≡ false) (drop 1 checked_events) (refl, tt);
}

its_turns : (n : ℕ) → StandFirst checked_events (flat_map lines_in (take n checked_life.steps))
its_turns zero = record { first = []; behind = checked_events; split = refl; theirs = All-from_recursion (λ e. IsTrue (has_line [] e)) [] tt; others = All-from_recursion (λ e. has_line [] e ≡ false) checked_events (refl, (refl, tt)) }
its_turns (suc zero) = behind_writes
its_turns (suc (suc zero)) = behind_writes
its_turns (suc (suc (suc n))) = record {
  first = checked_events;
  behind = [];
  split = refl;
  theirs = All-from_recursion (λ e. IsTrue (has_line (flat_map lines_in (take (suc (suc (suc n))) checked_life.steps)) e)) checked_events (refl, (refl, tt));
  others = All-from_recursion (λ e. has_line (flat_map lines_in (take (suc (suc (suc n))) checked_life.steps)) e ≡ false) [] tt;
}

first_round : IsLawfulRound its_facts [] written_lines
first_round = places (λ earlier. IsLawfulLine its_facts (span_of checked_events [] written_lines) (multi_span [] [] written_lines) earlier) written_lines (
  record { number = refl; events = refl; multi_events = refl; standing = refl; members = refl; logged = tt; reply = refl },
  (record { number = refl; events = (refl, refl); multi_events = refl; standing = refl; members = refl; logged = tt; reply = (λ e. cc, not_warned (by_at 0 2)) }, tt),
)

no_lines : IsLawfulRound its_facts written_lines []
no_lines = places (λ earlier. IsLawfulLine its_facts (span_of checked_events written_lines []) (multi_span [] written_lines []) (written_lines ++ earlier)) [] tt

second_round : IsLawfulRound its_facts written_lines ending_lines
second_round = places (λ earlier. IsLawfulLine its_facts (span_of checked_events written_lines ending_lines) (multi_span [] written_lines ending_lines) (written_lines ++ earlier)) ending_lines (
  record { number = refl; events = refl; multi_events = refl; standing = refl; members = refl; logged = tt; reply = λ e. cc },
  tt,
)

abbrev its_steps : List Asked
its_steps =
    asked.round ((0, commands.Begin) ∷ (0, commands.Write) ∷ []) ∷ asked.checkpoint
    ∷ asked.round ((0, commands.Commit) ∷ []) ∷ []

it_is_lawful : IsLawful checked_life
it_is_lawful = record {
  tells = true;
  banks = 4;
  asked = its_steps;
  life = record {
    history = is_legal;
    told = (refl, refl, (refl, refl, tt));
    in_turn = its_turns;
    lawful = record {
      each = places (λ before step. IsLawfulRound its_facts (flat_map lines_in before) (lines_in step)) checked_life.steps (first_round, (no_lines, (second_round, tt)));
      no_other = All-from_recursion (λ e. IsTrue (has_line its_lines e)) checked_events (refl, (refl, tt));
    };
    dumps = places (λ before step. IsLawfulBetween its_facts (flat_map lines_in before) step) checked_life.steps (tt, (tt, (tt, tt)));
    checkpoints = record {
      each = places (λ before step. IsLawfulCheckpoint its_facts (flat_map lines_in before) step) checked_life.steps (tt, (none_pending, (tt, tt)));
      left = inl (tt, [], refl, refl);
      flushed = inl (tt, [], refl, refl);
    };
    multis = untouched its_facts checked_life.steps refl (refl, (refl, (refl, tt)));
    log = its_log;
    opened = its_open;
    log_fails_once = omega arith;
  };
}

-- ---- the wrong ones

nothing_left : (counters : Counters) (rest : List Counters) → [] ≡ counters ∷ rest → ⊥
nothing_left counters rest e = cc

abbrev first_next : List Counters → ℕ
first_next [] = 0
first_next (counters ∷ more) = counters.next

other_next : (rest : List Counters) → worked_base ∷ [] ≡ checked_counters ∷ rest → ⊥
other_next rest e =
    let same : 3 ≡ 4 = ap first_next e in
    absurd (omega (arith, same))

not_done : {A : Type 0} → (replies.Done ≢ replies.Done) → A
not_done n = absurd (n refl)

two_one : 2 ≡ 0 + 1 → ⊥
two_one e = absurd (omega (arith, e))

pub worked_checkpoints : WorkedCheckpoints
worked_checkpoints = record {
  lawful = it_is_lawful;
  unkept = λ w. ⊎_elim (λ h. nothing_left checked_counters h.1 h.2) (λ n. not_done n.0) w.life.checkpoints.left;
  unflushed = λ w. ⊎_elim (λ h. nothing_left checked_counters h.1 h.2) (λ n. not_done n.0) w.life.checkpoints.flushed;
  stale = λ w. ⊎_elim (λ h. other_next h.1 h.2) (λ n. not_done n.0) w.life.checkpoints.left;
  renumbered = λ w. two_one (w.life.log.numbered 1 2 checked_counters refl);
  kept = λ w. ⊎_elim (λ h. h.0) (λ n. nothing_left checked_counters [] (sym n.1)) w.life.checkpoints.left;
  hasty = λ w. (w.life.checkpoints.each 1 (steps.Checkpoint replies.Done) refl).commits 0 refl;
}
