-- The worked life that meets the limit of ids is lawful, and the ones that tell numbers of a later round aren't.
use Rattle.std.proofs.Common.{◌+◌, ◌-◌, ◌==◌, ◌≡◌, ◌↔◌, ℕ, zero, suc, ◌≤◌, List, [], ◌∷◌, ◌++◌, true, false, IsTrue, Contains, None, Some, refl, sym, ◌∙◌, ap, inl, arith, ⊎_elim, take, slice_get, drop}
use Rattle.std.proofs.lemmas.List.Elements.{All-from_recursion}
use Rattle.std.specs.List.{flat_map}
use Rattle.tx_events.specs.declared.event.By.{By}
use Rattle.tx_events.specs.declared.event.Event.{Event}
use Rattle.tx_events.specs.declared.event.Event.TheVariants as events
use Rattle.tx_events.specs.declared.record.Counters.{Counters}
use Rattle.tx_events.specs.declared.record.Rec.{Rec}
use Rattle.tx_events.specs.declared.record.Rec.TheVariants as records
use Rattle.tx_events.specs.declared.refusal.Refusal.{Refusal}
use Rattle.tx_events.specs.declared.refusal.Refusal.TheVariants as refusals
use Rattle.tx_events.specs.Events.{by_of}
use Rattle.tx_events.specs.History.{ComesInTurn, IsLegal, MayCome, next_given}
use Rattle.tx_events.specs.Horizon.{oldest_id}
use Rattle.tx_events.specs.Running.{open_ids}
use Rattle.tx_events.proofs.ListSteps.{below_not}
use Rattle.tx_events.proofs.Membership.{contains_has}
use Rattle.tx_model.specs.declared.command.Command.TheVariants as commands
use Rattle.tx_model.specs.declared.reply.Reply.TheVariants as replies
use Rattle.tx_model.specs.declared.report.Line.{Line}
use Rattle.tx_model.specs.declared.report.Step.TheVariants as steps
use Rattle.tx_model.specs.Asked as asked
use Rattle.tx_model.specs.Asked.{Asked}
use Rattle.tx_model.specs.Lines.{has_line, span_of}
use Rattle.tx_model.specs.Replies.{IsStopped, IsWarned}
use Rattle.tx_model.specs.Rounds.{StandFirst, lines_in}
use Rattle.life_law.specs.Checkpoints.{IsLawfulCheckpoint}
use Rattle.life_law.specs.Dumps.{IsLawfulBetween}
use Rattle.life_law.specs.Facts.{Facts}
use Rattle.life_law.specs.LawfulLife.{facts_of}
use Rattle.life_law.specs.Laws.{IsLawful}
use Rattle.life_law.specs.LifeLog.{IsLogOf}
use Rattle.life_law.specs.Lines.{IsLawfulLine, IsLawfulRound}
use Rattle.life_law.specs.MultiPlaces.{multi_span}
use Rattle.life_law.proofs.Untouched.{untouched}
use Rattle.life_law.specs.Pending.{IsOpenAsTold, pending}
use Rattle.life_law.specs.Worked.{by_at, line_of, worked_base}
use Rattle.life_law.specs.WorkedRounds.{WorkedRounds, early_oldest_life, early_stop_life, last_events, last_lines, late_base, old_lines, raised_events, raising_lines, rounds_life, stopped_life, stopped_lines}
use Rattle.life_law.proofs.ByPlace.{places}

-- ---- the lawful one

is_legal : IsLegal late_base last_events
is_legal = record {
  rules = places (MayCome late_base) last_events ((record { next = refl; below_stop = omega arith }, refl), tt);
  turns = places ComesInTurn last_events (All-from_recursion (λ f. (by_of f).command ≤ 2) [] tt, tt);
}

its_warning : IsTrue true ↔ IsWarned late_base last_events (by_at 1 2)
its_warning = (
  λ t. record { place = 0; id = 2144483649; given = record { event = events.Id (by_at 1 2) 2144483649; at = refl; own = refl; gives = refl }; late = omega arith },
  λ w. refl,
)

abbrev its_recs : List Rec
its_recs = stopped_life.life.recs

abbrev number_in : Rec → ℕ
number_in (records.Checkpoint number counters) = number
number_in rec = 0

its_log : IsLogOf 0 late_base last_events [] its_recs 1 62
its_log = record {
  rest = [];
  split = refl;
  begun = omega arith;
  within = omega arith;
  each = λ rec k. absurd (contains_has [] rec k);
  once = λ i j id a b e f s t. absurd cc;
  multi_once = λ i j multi a b e f s t. absurd cc;
  numbered = own_number;
  committed = filed;
  count = omega arith;
  gate = omega arith;
}
  where
    own_number : (place number : ℕ) (counters : Counters) → slice_get its_recs place ≡ Some (records.Checkpoint number counters) → number ≡ 0 + place
    own_number zero number counters e =
        let is : records.Checkpoint 0 late_base ≡ records.Checkpoint number counters = cc in
        sym (ap number_in is)
    own_number (suc place) number counters e = absurd cc

    filed : (p top : ℕ) (by : By) → slice_get last_events p ≡ Some (events.Commit by top) → Contains (take 1 its_recs) (records.Commit top (drop 1 (open_ids by.session (take p last_events))))
    filed zero top by e = absurd cc
    filed (suc p) top by e = absurd cc

abbrev its_lines : List Line
its_lines = flat_map lines_in stopped_life.steps

abbrev its_facts : Facts
its_facts = facts_of true 4 stopped_life.life stopped_life.steps

is_checkpoint : (rec : Rec) → Contains its_recs rec → records.Checkpoint 0 late_base ≡ rec
is_checkpoint rec k = ⊎_elim (λ (e : records.Checkpoint 0 late_base ≡ rec). e) (λ none. absurd none) (contains_has its_recs rec k)

no_refusal : (r : Refusal) → None ≡ Some r → ⊥
no_refusal r e = cc

no_commit : (top : ℕ) (subs : List ℕ) → records.Checkpoint 0 late_base ≡ records.Commit top subs → ⊥
no_commit top subs e = cc

no_abort : (top : ℕ) (subs : List ℕ) → records.Checkpoint 0 late_base ≡ records.Abort top subs → ⊥
no_abort top subs e = cc

others_pending : (n : ℕ) → (0 == n) ≡ false → (1 == n) ≡ false → pending its_recs last_events its_lines n ≡ None
others_pending n q r = rw (q, r) refl

nothing_ended : (n : ℕ) → pending its_recs last_events its_lines n ≡ None → IsOpenAsTold its_recs last_events its_lines n
nothing_ended n still = record {
  commit = λ top subs k e. absurd (no_commit top subs (is_checkpoint (records.Commit top subs) k));
  abort = λ top subs k e. absurd (no_abort top subs (is_checkpoint (records.Abort top subs) k));
  recorded = λ e. absurd (no_refusal refusals.CommitPending (sym still ∙ e));
}

its_open : (session : ℕ) → IsOpenAsTold its_recs last_events its_lines session
its_open zero = nothing_ended 0 refl
its_open (suc zero) = nothing_ended 1 refl
its_open (suc (suc n)) =
    nothing_ended (suc (suc n)) (others_pending (suc (suc n)) (below_not 0 (suc (suc n)) (omega arith)) (below_not 1 (suc (suc n)) (omega arith)))

its_turns : (n : ℕ) → StandFirst last_events (flat_map lines_in (take n stopped_life.steps))
its_turns zero = record { first = []; behind = last_events; split = refl; theirs = All-from_recursion (λ e. IsTrue (has_line [] e)) [] tt; others = All-from_recursion (λ e. has_line [] e ≡ false) last_events (refl, tt) }
its_turns (suc n) = record {
  first = last_events;
  behind = [];
  split = refl;
  theirs = All-from_recursion (λ e. IsTrue (has_line (flat_map lines_in (take (suc n) stopped_life.steps)) e)) last_events (refl, tt);
  others = All-from_recursion (λ e. has_line (flat_map lines_in (take (suc n) stopped_life.steps)) e ≡ false) [] tt;
}

first_round : IsLawfulRound its_facts [] last_lines
first_round = places (λ earlier. IsLawfulLine its_facts (span_of last_events [] last_lines) (multi_span [] [] last_lines) earlier) last_lines (
  record { number = refl; events = refl; multi_events = refl; standing = refl; members = refl; logged = tt; reply = refl },
  (record { number = refl; events = (refl, refl); multi_events = refl; standing = refl; members = refl; logged = tt; reply = (λ e. cc, its_warning) }, tt),
)

one_zero : {A : Type 0} (x y : ℕ) → x ≡ 1 → y ≡ 0 → x ≡ y → A
one_zero x y one none e = absurd (omega arith)

it_stopped : IsStopped late_base last_events (span_of last_events last_lines stopped_lines) (by_at 0 2) 2144483650 2144483650
it_stopped = record {
  place = 1;
  read = record { not_before = omega arith; not_past = omega arith; behind = tt; before = (λ e. one_zero 1 0 refl refl e, tt) };
  next_is = refl;
  stop_is = refl;
  reached = omega arith;
}

second_round : IsLawfulRound its_facts last_lines stopped_lines
second_round = places (λ earlier. IsLawfulLine its_facts (span_of last_events last_lines stopped_lines) (multi_span [] last_lines stopped_lines) (last_lines ++ earlier)) stopped_lines (
  record { number = refl; events = refl; multi_events = refl; standing = refl; members = refl; logged = tt; reply = refl },
  (record { number = refl; events = inl refl; multi_events = refl; standing = refl; members = refl; logged = tt; reply = (omega arith, it_stopped) }, tt),
)

abbrev its_steps : List Asked
its_steps =
    asked.round ((1, commands.Begin) ∷ (1, commands.Write) ∷ []) ∷ asked.round ((0, commands.Begin) ∷ (0, commands.Write) ∷ []) ∷ []

it_is_lawful : IsLawful stopped_life
it_is_lawful = record {
  tells = true;
  banks = 4;
  asked = its_steps;
  life = record {
    history = is_legal;
    told = (refl, refl, (refl, refl, tt));
    in_turn = its_turns;
    lawful = record {
      each = places (λ before step. IsLawfulRound its_facts (flat_map lines_in before) (lines_in step)) stopped_life.steps (first_round, (second_round, tt));
      no_other = All-from_recursion (λ e. IsTrue (has_line its_lines e)) last_events (refl, tt);
    };
    dumps = places (λ before step. IsLawfulBetween its_facts (flat_map lines_in before) step) stopped_life.steps (tt, (tt, tt));
    checkpoints = record {
      each = places (λ before step. IsLawfulCheckpoint its_facts (flat_map lines_in before) step) stopped_life.steps (tt, (tt, tt));
      left = refl;
      flushed = refl;
    };
    multis = untouched its_facts stopped_life.steps refl (refl, (refl, (refl, (refl, tt))));
    log = its_log;
    opened = its_open;
    log_fails_once = omega arith;
  };
}

-- ---- the wrong ones

-- a line of the first round
first_line : (base : Counters) (h : List Event) (first second : List Line) (w : IsLawful (rounds_life base h first second)) (place : ℕ) (l : Line) → slice_get first place ≡ Some l →
    IsLawfulLine (facts_of w.tells w.banks (rounds_life base h first second).life (rounds_life base h first second).steps) (span_of h [] first) (multi_span [] [] first) (take place first) l
first_line base h first second w place l at = w.life.lawful.each 0 (steps.Round 1 first) refl place l at

-- before the id was given, the limit wasn't reached
not_reached : (place : ℕ) → place ≤ 0 → 2144483650 ≡ next_given 2144483649 (take place last_events) → ⊥
not_reached zero within e =
    let same : 2144483650 ≡ 2144483649 = e in
    absurd (omega (arith, same))
not_reached (suc place) within e = absurd (omega arith)

-- before the oldest id was announced, it was 3
not_announced : (place : ℕ) → place ≤ 1 → 5 ≡ oldest_id 3 (take place raised_events) → ⊥
not_announced zero within e =
    let same : 5 ≡ 3 = e in
    absurd (omega (arith, same))
not_announced (suc zero) within e =
    let same : 5 ≡ 3 = e in
    absurd (omega (arith, same))
not_announced (suc (suc place)) within e = absurd (omega arith)

stopped_early : IsLawful early_stop_life → ⊥
stopped_early w =
    let told : IsStopped late_base last_events (span_of last_events [] stopped_lines) (by_at 0 2) 2144483650 2144483650
    = (first_line late_base last_events stopped_lines last_lines w 1 (line_of 0 2 commands.Write (replies.Refused (refusals.Stop 2144483650 2144483650))) refl).reply.1 in
    not_reached told.place told.read.not_past told.next_is

announced_early : IsLawful early_oldest_life → ⊥
announced_early w =
    let found = (first_line (record worked_base { next = 10 }) raised_events old_lines raising_lines w 0 (line_of 0 1 (commands.Status 4) (replies.Refused (refusals.TooOld 5))) refl).reply.2 in
    let within : found.place ≤ 1 = found.read.not_past in
    not_announced (found.place - found.lag) (omega arith) found.oldest_is

pub worked_rounds : WorkedRounds
worked_rounds = record { lawful = it_is_lawful; early_stop = stopped_early; early_oldest = announced_early }
