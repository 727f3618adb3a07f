-- The worked life is lawful, and the wrong ones aren't.
use Rattle.std.proofs.Common.{◌∙◌, ◌==◌, ◌≡◌, ◌⊎◌, ◌↔◌, ℕ, zero, suc, ◌<◌, ◌≤◌, List, [], ◌∷◌, ◌++◌, ◌+◌, true, false, IsTrue, Contains, None, Some, refl, sym, ap, subst, inl, inr, ⊎_elim, arith, take, length, slice_get, drop}
use Rattle.std.proofs.lemmas.Bool.{false≢true}
use Rattle.std.proofs.lemmas.List.Elements.{All-from_recursion}
use Rattle.std.specs.List.{flat_map}
use Rattle.tx_events.specs.declared.event.By.{By}
use Rattle.tx_events.specs.declared.event.Event.{Event}
use Rattle.tx_events.specs.declared.event.Event.TheVariants as events
use Rattle.tx_events.specs.declared.record.Counters.{Counters}
use Rattle.tx_events.specs.declared.record.Rec.{Rec}
use Rattle.tx_events.specs.declared.record.Rec.TheVariants as records
use Rattle.tx_events.specs.declared.refusal.Refusal.{Refusal}
use Rattle.tx_events.specs.declared.refusal.Refusal.TheVariants as refusals
use Rattle.tx_events.specs.declared.xact_end.XactEnd.TheVariants as ends
use Rattle.tx_events.specs.History.{ComesInTurn, IsLegal, MayCome}
use Rattle.tx_events.specs.Running.{open_ids}
use Rattle.tx_events.proofs.ListSteps.{below_not}
use Rattle.tx_events.proofs.Membership.{Has, contains_has}
use Rattle.tx_model.specs.declared.command.Command.TheVariants as commands
use Rattle.tx_model.specs.declared.reply.Reply.TheVariants as replies
use Rattle.tx_model.specs.declared.report.Line.{Line}
use Rattle.tx_model.specs.declared.report.Step.TheVariants as steps
use Rattle.tx_model.specs.CommandEvents.{level_events}
use Rattle.tx_model.specs.Asked as asked
use Rattle.tx_model.specs.Asked.{Asked}
use Rattle.tx_model.specs.Rounds.{StandFirst, lines_in}
use Rattle.tx_model.specs.Lines.{has_line, span_of}
use Rattle.tx_model.specs.Replies.{IsWarned}
use Rattle.life_law.proofs.ByPlace.{places}
use Rattle.life_law.specs.Dumps.{IsLawfulBetween}
use Rattle.life_law.specs.Facts.{Facts}
use Rattle.life_law.specs.Checkpoints.{IsLawfulCheckpoint}
use Rattle.life_law.specs.LawfulLife.{facts_of}
use Rattle.life_law.specs.Laws.{IsLawful}
use Rattle.life_law.specs.LifeLog.{IsAmong, IsLogOf, IsMultisRecord, IsRecordOf, ends_top, IsTransaction}
use Rattle.life_law.specs.Lines.{IsLawfulLine, IsLawfulRound}
use Rattle.life_law.specs.MultiPlaces.{multi_span}
use Rattle.life_law.proofs.Untouched.{untouched}
use Rattle.life_law.specs.Pending.{IsOpenAsTold, pending}
use Rattle.life_law.specs.Worked.{WorkedLives, bank_fault, both_records, by_at, commit_pending, first_lines, giving_lines, idless_lines, its_name, life_with, line_of, log_down, log_fault, no_memory, second_lines, short_life, special_lines, worked_base, worked_events, worked_life}
use Rattle.tx_events.specs.Events.{by_of, given_by}
use Rattle.tx_events.specs.Horizon.{oldest_id}
use Rattle.tx_events.specs.Limits.{warn_limit}
use Rattle.tx_model.specs.declared.reply.Reply.{Reply}

-- ---- the worked life

abbrev recs_with : List Rec → List Rec
recs_with rest = records.Checkpoint 0 worked_base ∷ rest

it_is_legal : IsLegal worked_base worked_events
it_is_legal = record {
  rules = places (MayCome worked_base) worked_events (
    (record { next = refl; below_stop = omega arith }, refl),
    (
      (record { next = refl; below_stop = omega arith }, refl),
      (((0, omega arith, refl), refl), tt),
    ),
  );
  turns = places ComesInTurn worked_events (
    All-from_recursion (λ f. (by_of f).command ≤ 2) [] tt,
    (
      All-from_recursion (λ f. (by_of f).command ≤ 2) [] tt,
      (All-from_recursion (λ f. (by_of f).command ≤ 3) (events.Id (by_at 1 2) 4 ∷ []) (omega arith, tt), tt),
    ),
  );
}

not_warned : (by : By) → IsTrue false ↔ IsWarned worked_base worked_events by
not_warned by = (λ t. absurd (false≢true t), λ w. absurd (early w.place w.id w.given.event w.given.at w.given.gives w.late))
  where
    small : (id : ℕ) → id ≤ 4 → 2107483650 ≤ id → ⊥
    small id a b = omega arith

    early : (p id : ℕ) (e : Event) → slice_get worked_events p ≡ Some e → given_by e ≡ Some id → warn_limit (oldest_id 3 (take p worked_events)) ≤ id → ⊥
    early zero id e at gives late =
        let is : events.Id (by_at 0 2) 3 ≡ e = cc in
        let one : Some 3 ≡ Some id = ap given_by is ∙ gives in
        let same : 3 ≡ id = cc in
        small id (omega (arith, same)) late
    early (suc zero) id e at gives late =
        let is : events.Id (by_at 1 2) 4 ≡ e = cc in
        let one : Some 4 ≡ Some id = ap given_by is ∙ gives in
        let same : 4 ≡ id = cc in
        small id (omega (arith, same)) late
    early (suc (suc zero)) id e at gives late =
        let is : events.Commit (by_at 1 3) 4 ≡ e = cc in
        let none : None ≡ Some id = ap given_by is ∙ gives in
        cc
    early (suc (suc (suc p))) id e at gives late = cc

-- what a place must have in the log
abbrev IsFiled : Event → Type 0
IsFiled (events.Commit by top) = IsAmong 2 (recs_with both_records) (records.Commit top (drop 1 (open_ids by.session (take 2 worked_events))))
IsFiled e = Unit {0}

abbrev IsTopAt : ℕ → ℕ → Type 0
IsTopAt i id = ((i ≡ 0) × (id ≡ 4)) ⊎ ((i ≡ 1) × (id ≡ 3))

abbrev number_in : Rec → ℕ
number_in (records.Checkpoint number counters) = number
number_in rec = 0

its_log : IsLogOf 0 worked_base worked_events [] (recs_with both_records) 2 80
its_log = record {
  rest = both_records;
  split = refl;
  begun = omega arith;
  within = omega arith;
  each = λ rec k. ⊎_elim (λ (e : records.Commit 4 [] ≡ rec). subst (IsRecordOf worked_base worked_events []) e ended)
      (λ t. ⊎_elim (λ (e : records.Commit 3 [] ≡ rec). subst (IsRecordOf worked_base worked_events []) e opened) (λ none. absurd none) t)
      (contains_has both_records rec k);
  once = λ i j id a b e f s t. apart i j id (top_at i a id e s) (top_at j b id f t);
  multi_once = λ i j multi a b e f s t. absurd (no_multi i a multi e s);
  numbered = own_number;
  committed = filed;
  count = omega arith;
  gate = omega arith;
}
  where
    own_number : (place number : ℕ) (counters : Counters) → slice_get (recs_with both_records) place ≡ Some (records.Checkpoint number counters) → number ≡ 0 + place
    own_number zero number counters e =
        let is : records.Checkpoint 0 worked_base ≡ records.Checkpoint number counters = cc in
        sym (ap number_in is)
    own_number (suc zero) number counters e = absurd cc
    own_number (suc (suc zero)) number counters e = absurd cc
    own_number (suc (suc (suc place))) number counters e = absurd cc

    ended : IsTransaction worked_events ends.Commit 4 []
    ended = record { session = 1; root = refl; ids = inr (2, by_at 1 3, refl, refl, refl) }

    opened : IsTransaction worked_events ends.Commit 3 []
    opened = record { session = 0; root = refl; ids = inl refl }

    top_at : (i : ℕ) (a : Rec) (id : ℕ) → slice_get both_records i ≡ Some a → ends_top a id → IsTopAt i id
    top_at zero a id e s =
        let is : a ≡ records.Commit 4 [] = cc in
        let same : 4 ≡ id = subst (λ r. ends_top r id) is s in
        inl (refl, sym same)
    top_at (suc zero) a id e s =
        let is : a ≡ records.Commit 3 [] = cc in
        let same : 3 ≡ id = subst (λ r. ends_top r id) is s in
        inr (refl, sym same)
    top_at (suc (suc i)) a id e s = absurd cc

    no_multi : (i : ℕ) (a : Rec) (multi : ℕ) → slice_get both_records i ≡ Some a → IsMultisRecord a multi → ⊥
    no_multi zero a multi e s =
        let is : a ≡ records.Commit 4 [] = cc in
        subst (λ r. IsMultisRecord r multi) is s
    no_multi (suc zero) a multi e s =
        let is : a ≡ records.Commit 3 [] = cc in
        subst (λ r. IsMultisRecord r multi) is s
    no_multi (suc (suc i)) a multi e s = absurd cc

    apart : (i j id : ℕ) → IsTopAt i id → IsTopAt j id → i ≡ j
    apart i j id k l = ⊎_elim
        (λ (a : (i ≡ 0) × (id ≡ 4)). ⊎_elim (λ (b : (j ≡ 0) × (id ≡ 4)). a.0 ∙ sym b.0) (λ (b : (j ≡ 1) × (id ≡ 3)). let x = a.1 in let y = b.1 in absurd (omega arith)) l)
        (λ (a : (i ≡ 1) × (id ≡ 3)). ⊎_elim (λ (b : (j ≡ 0) × (id ≡ 4)). let x = a.1 in let y = b.1 in absurd (omega arith)) (λ (b : (j ≡ 1) × (id ≡ 3)). a.0 ∙ sym b.0) l)
        k

    filed : (p top : ℕ) (by : By) → slice_get worked_events p ≡ Some (events.Commit by top) → IsAmong 2 (recs_with both_records) (records.Commit top (drop 1 (open_ids by.session (take p worked_events))))
    filed zero top by e = absurd cc
    filed (suc zero) top by e = absurd cc
    filed (suc (suc zero)) top by e =
        let is : events.Commit (by_at 1 3) 4 ≡ events.Commit by top = cc in
        subst IsFiled is (1, omega arith, refl)
    filed (suc (suc (suc p))) top by e = absurd cc

abbrev its_lines : List Line
its_lines = flat_map lines_in worked_life.steps

abbrev its_facts : Facts
its_facts = facts_of true 4 worked_life.life worked_life.steps

no_abort : (top : ℕ) (subs : List ℕ) → Contains (recs_with both_records) (records.Abort top subs) → ⊥
no_abort top subs k = ⊎_elim (λ (e : records.Checkpoint 0 worked_base ≡ records.Abort top subs). cc)
    (λ t. ⊎_elim (λ (e : records.Commit 4 [] ≡ records.Abort top subs). cc)
    (λ u. ⊎_elim (λ (e : records.Commit 3 [] ≡ records.Abort top subs). cc) (λ none. none) u) t)
    (contains_has (recs_with both_records) (records.Abort top subs) k)

nil_cons : (x : ℕ) (xs : List ℕ) → [] ≡ x ∷ xs → ⊥
nil_cons x xs e = cc

no_refusal : (r : Refusal) → None ≡ Some r → ⊥
no_refusal r e = cc

others_open : (n : ℕ) → (0 == n) ≡ false → (1 == n) ≡ false → open_ids n worked_events ≡ []
others_open n q r = rw (q, r) refl

others_pending : (n : ℕ) → (0 == n) ≡ false → (1 == n) ≡ false → pending (recs_with both_records) worked_events its_lines n ≡ None
others_pending n q r = rw (q, r) refl

nothing_open : (n : ℕ) → open_ids n worked_events ≡ [] → pending (recs_with both_records) worked_events its_lines n ≡ None → IsOpenAsTold (recs_with both_records) worked_events its_lines n
nothing_open n none still = record {
  commit = λ top subs k e. absurd (nil_cons top subs (sym none ∙ e));
  abort = λ top subs k e. absurd (nil_cons top subs (sym none ∙ e));
  recorded = λ e. absurd (no_refusal refusals.CommitPending (sym still ∙ e));
}

its_open : (session : ℕ) → IsOpenAsTold (recs_with both_records) worked_events its_lines session
its_open zero = record { commit = λ top subs k e. refl; abort = λ top subs k e. absurd (no_abort top subs k); recorded = λ e. refl }
its_open (suc zero) = nothing_open 1 refl refl
its_open (suc (suc n)) =
    let not_first : (0 == suc (suc n)) ≡ false = below_not 0 (suc (suc n)) (omega arith) in
    let not_second : (1 == suc (suc n)) ≡ false = below_not 1 (suc (suc n)) (omega arith) in
    nothing_open (suc (suc n)) (others_open (suc (suc n)) not_first not_second) (others_pending (suc (suc n)) not_first not_second)

its_turns : (n : ℕ) → StandFirst worked_events (flat_map lines_in (take n worked_life.steps))
its_turns zero = record { first = []; behind = worked_events; split = refl; theirs = All-from_recursion (λ e. IsTrue (has_line [] e)) [] tt; others = All-from_recursion (λ e. has_line [] e ≡ false) worked_events (refl, (refl, (refl, tt))) }
its_turns (suc n) = record {
  first = worked_events;
  behind = [];
  split = refl;
  theirs = All-from_recursion (λ e. IsTrue (has_line (flat_map lines_in (take (suc n) worked_life.steps)) e)) worked_events (refl, (refl, (refl, tt)));
  others = All-from_recursion (λ e. has_line (flat_map lines_in (take (suc n) worked_life.steps)) e ≡ false) [] tt;
}

first_round : IsLawfulRound its_facts [] first_lines
first_round = places (λ earlier. IsLawfulLine its_facts (span_of worked_events [] first_lines) (multi_span [] [] first_lines) earlier) first_lines (
  record { number = refl; events = refl; multi_events = refl; standing = refl; members = refl; logged = tt; reply = refl },
  (
    record { number = refl; events = (refl, refl); multi_events = refl; standing = refl; members = refl; logged = tt; reply = (λ e. cc, not_warned (by_at 0 2)) },
    (
      record { number = refl; events = refl; multi_events = refl; standing = refl; members = refl; logged = tt; reply = refl },
      (
        record { number = refl; events = (refl, refl); multi_events = refl; standing = refl; members = refl; logged = tt; reply = (λ e. cc, not_warned (by_at 1 2)) },
        (record { number = refl; events = refl; multi_events = refl; standing = refl; members = refl; logged = tt; reply = λ e. cc }, tt),
      ),
    ),
  ),
)

abbrev its_second : List Line
its_second = second_lines log_fault commit_pending (log_down 2)

second_round : IsLawfulRound its_facts first_lines its_second
second_round = places (λ earlier. IsLawfulLine its_facts (span_of worked_events first_lines its_second) (multi_span [] first_lines its_second) (first_lines ++ earlier)) its_second (
  record { number = refl; events = refl; multi_events = refl; standing = refl; members = refl; logged = tt; reply = refl },
  (
    record { number = refl; events = refl; multi_events = refl; standing = refl; members = refl; logged = tt; reply = tt },
    (record { number = refl; events = refl; multi_events = refl; standing = refl; members = refl; logged = tt; reply = (refl, refl, refl) }, tt),
  ),
)

abbrev its_steps : List Asked
its_steps =
    asked.round ((0, commands.Begin) ∷ (1, commands.Begin) ∷ (0, commands.Write) ∷ (1, commands.Write) ∷ (1, commands.Commit) ∷ [])
    ∷ asked.round ((0, commands.Commit) ∷ (0, commands.Save) ∷ (0, commands.Commit) ∷ []) ∷ []

it_is_lawful : IsLawful worked_life
it_is_lawful = record {
  tells = true;
  banks = 4;
  asked = its_steps;
  life = record {
    history = it_is_legal;
    told = (refl, refl, (refl, refl, tt));
    in_turn = its_turns;
    lawful = record {
      each = places (λ before step. IsLawfulRound its_facts (flat_map lines_in before) (lines_in step)) worked_life.steps (first_round, (second_round, tt));
      no_other = All-from_recursion (λ e. IsTrue (has_line its_lines e)) worked_events (refl, (refl, (refl, tt)));
    };
    dumps = places (λ before step. IsLawfulBetween its_facts (flat_map lines_in before) step) worked_life.steps (tt, (tt, tt));
    checkpoints = record {
      each = places (λ before step. IsLawfulCheckpoint its_facts (flat_map lines_in before) step) worked_life.steps (tt, (tt, tt));
      left = refl;
      flushed = refl;
    };
    multis = untouched its_facts worked_life.steps refl (refl, (refl, (refl, (refl, (refl, (refl, (refl, (refl, tt))))))));
    log = its_log;
    opened = its_open;
    log_fails_once = once;
  };
}
  where
    once : 1 ≤ 1
    once = omega arith

-- ---- the wrong ones

-- a line of the second round
second_line : (answer saved again : Reply) (recs : List Rec) (w : IsLawful (life_with answer saved again recs)) (place : ℕ) (l : Line) → slice_get (second_lines answer saved again) place ≡ Some l →
    IsLawfulLine (facts_of w.tells w.banks (life_with answer saved again recs).life (life_with answer saved again recs).steps) (span_of worked_events first_lines (second_lines answer saved again)) (multi_span [] first_lines (second_lines answer saved again)) (first_lines ++ take place (second_lines answer saved again)) l
second_line answer saved again recs w place l at = w.life.lawful.each 1 (steps.Round 2 (second_lines answer saved again)) refl place l at

-- the record of session 1 stands among the first two
has_record : (answer saved again : Reply) (recs : List Rec) → IsLawful (life_with answer saved again recs) → Has (take 2 (recs_with recs)) (records.Commit 4 [])
has_record answer saved again recs w = contains_has (take 2 (recs_with recs)) (records.Commit 4 []) (w.life.log.committed 2 4 (by_at 1 3) refl)

differ : (m n : ℕ) → m < n → m ≡ n → ⊥
differ m n l e = absurd (omega arith)

abbrev commit_top : Rec → ℕ
commit_top (records.Commit top subs) = top
commit_top rec = 0

is_other : (rec : Rec) → (records.Checkpoint 0 worked_base ≡ rec) ⊎ ((records.Commit 3 [] ≡ rec) ⊎ ⊥) → rec ≡ records.Commit 4 [] → ⊥
is_other rec h same = ⊎_elim (λ (e : records.Checkpoint 0 worked_base ≡ rec). let k = e ∙ same in cc)
    (λ t. ⊎_elim (λ (e : records.Commit 3 [] ≡ rec). differ 3 4 (omega arith) (ap commit_top (e ∙ same))) (λ none. none) t) h

not_twice : 2 ≤ 1 → ⊥
not_twice l = absurd (omega (arith, l))

-- a line of the one round
short_line : (h : List Event) (lines : List Line) (w : IsLawful (short_life h lines)) (place : ℕ) (l : Line) → slice_get lines place ≡ Some l →
    IsLawfulLine (facts_of w.tells w.banks (short_life h lines).life (short_life h lines).steps) (span_of h [] lines) (multi_span [] [] lines) (take place lines) l
short_line h lines w place l at = w.life.lawful.each 0 (steps.Round 1 lines) refl place l at

-- savepoints that were given no ids have no event
none_given : (by by' : By) (ids : List ℕ) → length ids ≡ 0 → events.Sub by' 3 4 ∷ [] ≡ level_events by None (Some 3 ∷ None ∷ None ∷ []) ids → ⊥
none_given by by' [] none e = cc
none_given by by' (id ∷ ids) none e = cc

pub worked_lives : WorkedLives
worked_lives = record {
  lawful = it_is_lawful;
  lost = λ w. is_other (records.Commit 4 []) (has_record log_fault commit_pending (log_down 2) (records.Commit 3 [] ∷ []) w) refl;
  unflushed = λ w. is_other (records.Commit 4 []) (has_record log_fault commit_pending (log_down 2) (records.Commit 3 [] ∷ records.Commit 4 [] ∷ []) w) refl;
  unrecorded = λ w. false≢true ((w.life.opened 0).recorded refl);
  unasked = λ w. no_refusal refusals.CommitPending ((w.life.opened 0).commit 3 [] (2, omega arith, refl) refl);
  misnumbered = λ w. differ 1 2 (omega arith) (second_line log_fault commit_pending (log_down 1) both_records w 2 (line_of 0 5 commands.Commit (log_down 1)) refl).reply.1;
  resumed = λ w. no_refusal refusals.CommitPending (second_line log_fault replies.Done (log_down 2) both_records w 1 (line_of 0 4 commands.Save replies.Done) refl).standing;
  untold = λ w. false≢true (second_line no_memory replies.Done (log_down 2) (records.Commit 4 [] ∷ []) w 2 (line_of 0 5 commands.Commit (log_down 2)) refl).reply.2;
  refailed = λ w. not_twice w.life.log_fails_once;
  idless = λ w. false≢true (short_line [] idless_lines w 1 (line_of 0 2 commands.Abort bank_fault) refl).reply.0;
  special = λ w. false≢true (short_line (events.Snap its_name (by_at 0 1) ∷ []) special_lines w 1 (line_of 0 2 (commands.See its_name (record { number = 1 })) bank_fault) refl).reply.0;
  giving = λ w. ⊎_elim
      (λ (e : events.Sub (by_at 0 6) 3 4 ∷ [] ≡ []). cc)
      (λ g. none_given (by_at 0 6) (by_at 0 6) g.0 g.2 g.1)
      (short_line (events.Id (by_at 0 2) 3 ∷ events.Sub (by_at 0 6) 3 4 ∷ []) giving_lines w 5 (line_of 0 6 commands.Write (replies.Refused refusals.AbortPending)) refl).events;
}
