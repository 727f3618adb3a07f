-- The promises of all sessions make lawful lines, round by round.
use Rattle.std.proofs.Common.{Bool, IsTrue, eq-eqb, eqb-true, false, inl, inr, ⊎_elim, ◌==◌, ◌≢◌, ◌⊎◌, List, None, Option, Some, [], ap, append-nil, append_assoc, arith, cond, drop, length, refl, subst, sym, take, true, zero, suc, ℕ, ◌+◌, ◌++◌, ◌-◌, ◌<◌, ◌≡◌, ◌∙◌, ◌∷◌}
use Rattle.std.specs.List.{All, count_by, filter, filter_map, flat_map, slice_get}
use Rattle.std.proofs.Math.Seq.{take-append_seam}
use Rattle.std.proofs.lemmas.Bool.{false≢true}
use Rattle.std.proofs.lemmas.Grind.{flat_map-append}
use Rattle.std.proofs.lemmas.List.{map-append, take-append-drop}
use Rattle.std.proofs.lemmas.List.Elements.{All-from_recursion, filter-append}
use Rattle.std.proofs.lemmas.List.Sums.{length-filter}
use Rattle.tx_events.specs.declared.event.Event.{Event}
use Rattle.tx_events.specs.declared.multi.MultiEvent.{MultiEvent}
use Rattle.tx_events.specs.declared.record.Rec.{Rec}
use Rattle.tx_events.specs.declared.record.Rec.TheVariants as records
use Rattle.tx_events.specs.declared.record.Counters.{Counters}
use Rattle.tx_events.specs.declared.refusal.Lock.TheVariants as locks
use Rattle.tx_events.specs.declared.refusal.Refusal.{Refusal}
use Rattle.tx_events.specs.declared.refusal.Refusal.TheVariants as refusals
use Rattle.tx_events.specs.Events.{events_of, given}
use Rattle.tx_events.specs.Multis.{multi_by}
use Rattle.tx_events.specs.Places.{EachPlace}
use Rattle.tx_events.proofs.ListSteps.{eqb-refl, filter_all, filter_passes}
use Rattle.tx_events.proofs.Membership.{Has, all_at, all_from, contains_has, filter_has, has_cases, has_contains, has_left, has_right, has_take, place_has}
use Rattle.tx_events.proofs.PlaceLemmas.{each_place_none, last_at, slice_get-grows}
use Rattle.tx_model.specs.declared.command.Command.{Command}
use Rattle.tx_model.specs.declared.command.Command.TheVariants as commands
use Rattle.tx_model.specs.declared.reply.Reply.{Reply}
use Rattle.tx_model.specs.declared.reply.Reply.TheVariants as replies
use Rattle.tx_model.specs.declared.report.LifeReport.{LifeReport}
use Rattle.tx_model.specs.declared.report.Line.{Line}
use Rattle.tx_model.specs.declared.report.Step.{Step}
use Rattle.tx_model.specs.declared.report.Step.TheVariants as steps
use Rattle.tx_model.specs.CommandEvents.{HasEvents}
use Rattle.tx_model.specs.Rounds.{AreInTurn, StandFirst, is_round, lines_in}
use Rattle.tx_model.specs.Lines.{has_line, is_line_of, span_of, stance}
use Rattle.tx_model.specs.Replies.{RoundSpan}
use Rattle.tx_model.specs.Stance.{Stance, after, nothing_yet, stance_from, top_level}
use Rattle.life_law.specs.Facts.{Facts, has_failed_log}
use Rattle.life_law.specs.LawfulLife.{AreLawfulSteps, facts_of}
use Rattle.life_law.specs.Lines.{IsLawfulLine, IsLawfulRound}
use Rattle.life_law.specs.Pending.{is_recorded, pending, pending_after, pending_from}
use Rattle.life_law.specs.Refused.{refused_by}
use Rattle.life_law.specs.Answering.{IsLawfulAnswer, IsLogged}
use Rattle.life_law.specs.MultiLines.{HasMultiEvents, IsNotYet}
use Rattle.life_law.specs.MultiPlaces.{has_multi_line, multi_span, multis_of, recorded_by}
use Rattle.life_law.specs.MultiStanding.{gave_multi}
use Rattle.notes.specs.Lists.{at}
use Rattle.tx_core.specs.Locks.{log_lock}
use Rattle.tx_core.specs.MultiEntries.{AreFewMultis, multi_history}
use Rattle.tx_core.specs.declared.entry.Entry.{Entry}
use Rattle.tx_core.specs.declared.entry.Start.{Start}
use Rattle.tx_core.specs.Entries.{AreFewIds, history}
use Rattle.engine_parts.specs.MultiAnswers.{WasNotYet, recorded_in}
use Rattle.engine_parts.specs.Stages.{pending_in}
use Rattle.session_promise.specs.Checkpoints.{AreCheckpointsTold}
use Rattle.session_promise.specs.Closing.{BeginsAt, IsOver, IsReportOf, MayCallIn, PromisesMakeSteps}
use Rattle.session_promise.specs.Promise.{IsInRound, IsMadeFor, IsToldWell, recs_of}
use Rattle.session_promise.specs.Told.{Follow, Told, ToldRound, all_lines, in_events, in_multis, lines_by, lines_of, steps_of, told_by, told_in, told_of}
use Rattle.session_promise.proofs.Between.{each_between, in_turn_between, lines_of_rounds, step_lines}
use Rattle.session_promise.proofs.FewIds.{levels_bound_ids}
use Rattle.session_promise.proofs.FewMultis.{lines_bound_multis}
use Rattle.session_promise.proofs.Growing.{made_stays}
use Rattle.session_promise.proofs.LawfulReplies.{facts, lawful_answer}
use Rattle.session_promise.proofs.NotYets.{not_yet}
use Rattle.session_promise.proofs.Standing.{all_told, follow_split, front_counts, in_multi_rounds, line_in, lines_have, multi_counts, stands_first}
use Rattle.session_promise.proofs.RecordPlaces.{rec_has}
use Rattle.session_promise.proofs.Telling.{lines_in_round, lines_of_both, lines_told}

-- ---- lists

-- a list, cut at a place
split_at : {X : Type 0} (xs : List X) (p : ℕ) (x : X) → slice_get xs p ≡ Some x → (rest : List X) × (xs ≡ take p xs ++ x ∷ rest)
split_at [] p x e = absurd cc
split_at (y ∷ xs) zero x e = let same : y ≡ x = cc in (xs, ap (λ z. z ∷ xs) same)
split_at (y ∷ xs) (suc p) x e = let r = split_at xs p x e in (r.0, ap (λ t. y ∷ t) r.1)

pub each_mid : {X : Type 0} (P : List X → X → Type 0) (xs front rest : List X) (x : X) → xs ≡ front ++ x ∷ rest → EachPlace xs P → P front x
each_mid P xs front rest x split each =
    let here : slice_get (front ++ x ∷ rest) (length front) ≡ Some x = subst (λ t. slice_get t (length front) ≡ Some x) (append_assoc front (x ∷ []) rest) (slice_get-grows (front ++ x ∷ []) rest x (length front) (last_at front x)) in
    subst (λ t. P t x) (ap (take (length front)) split ∙ take-append_seam front (x ∷ rest)) (each (length front) x (subst (λ t. slice_get t (length front) ≡ Some x) (sym split) here))

pub filter_twice : {X : Type 0} (p : X → Bool) (xs : List X) → filter p (filter p xs) ≡ filter p xs
filter_twice p xs = filter_all (λ x. p x ≡ true) p (filter p xs) (λ x e. e) (filter_passes p xs)

-- ---- steps

record IsStepOf (n i : ℕ) (rounds : List ToldRound) (step : Step) : Type 0 where
  round : ToldRound
  at : slice_get rounds i ≡ Some round
  lines : lines_in step ≡ round.lines

step_at : (n i : ℕ) (rounds : List ToldRound) (step : Step) → slice_get (steps_of n rounds) i ≡ Some step → IsStepOf n i rounds step
step_at n i [] step e = absurd cc
step_at n zero (r ∷ rounds) step e = let same : steps.Round n r.lines ≡ step = cc in record { round = r; at = refl; lines = ap lines_in (sym same) }
step_at n (suc i) (r ∷ rounds) step e = let s = step_at (n + 1) i rounds step e in record { round = s.round; at = s.at; lines = s.lines }

pub take_lines : (n i : ℕ) (rounds : List ToldRound) → flat_map lines_in (take i (steps_of n rounds)) ≡ all_lines (take i rounds)
take_lines n zero rounds = refl
take_lines n (suc i) [] = refl
take_lines n (suc i) (r ∷ rounds) = ap (λ ls. r.lines ++ ls) (take_lines (n + 1) i rounds)

-- ---- what is pending doesn't go by a checkpoint

pub recorded_same : (number : ℕ) (counters : Counters) (recs : List Rec) (o : Option ℕ) → is_recorded (records.Checkpoint number counters ∷ recs) o ≡ is_recorded recs o
recorded_same number counters recs None = refl
recorded_same number counters recs (Some top) = refl

after_logged : (number : ℕ) (counters : Counters) (recs : List Rec) (s : Stance) (old : Option Refusal) (command : Command) (reply : Reply) → pending_after (records.Checkpoint number counters ∷ recs) s old command reply ≡ pending_after recs s old command reply
after_logged number counters recs s old commands.Commit replies.Done = refl
after_logged number counters recs s old commands.Commit (replies.Refused refusals.LogFault) = refl
after_logged number counters recs s old commands.Commit (replies.Refused (refusals.DiskFault (locks.Xact bank))) = refl
after_logged number counters recs s old commands.Commit (replies.Refused (refusals.LogDown down)) = ap (λ b. cond b (Some refusals.CommitPending) old) (recorded_same number counters recs (top_level s.levels))
after_logged number counters recs s old commands.Abort replies.Done = refl
after_logged number counters recs s old commands.Abort (replies.Refused (refusals.DiskFault lock)) = refl
after_logged number counters recs s old commands.Undo replies.Done = refl
after_logged number counters recs s old commands.Undo (replies.Refused (refusals.DiskFault lock)) = refl
after_logged number counters recs s old command reply = refl

pub from_logged : (number : ℕ) (counters : Counters) (recs : List Rec) (h : List Event) (lines : List Line) (s : Stance) (old : Option Refusal) → pending_from (records.Checkpoint number counters ∷ recs) h s old lines ≡ pending_from recs h s old lines
from_logged number counters recs h [] s old = refl
from_logged number counters recs h (l ∷ lines) s old =
    from_logged number counters recs h lines (after s l.by.command l.command l.reply (given (events_of l.by h))) (pending_after (records.Checkpoint number counters ∷ recs) s old l.command l.reply)
    ∙ ap (λ o. pending_from recs h (after s l.by.command l.command l.reply (given (events_of l.by h))) o lines) (after_logged number counters recs s old l.command l.reply)

-- ---- the lines

module _ (tells : Bool) (start : Start) (lists : List (List Entry)) (rounds : List ToldRound) (number : ℕ) (begins : BeginsAt number start) (over : IsOver tells start lists rounds) (few : AreFewIds lists) (few_multis : AreFewMultis lists) (checked : List Step) (c : AreCheckpointsTold start lists rounds checked) (lines_are : flat_map lines_in checked ≡ all_lines rounds) where
  abbrev h : List Event
  h = history lists

  abbrev f : Facts
  f = facts tells start lists rounds over few few_multis checked c lines_are

  abbrev all : List MultiEvent
  all = multi_history lists

  logged_same : (before : List Line) (n : ℕ) → pending f.recs h before n ≡ pending (recs_of lists) h before n
  logged_same before n = ap (λ (rs : List Rec). pending (rs ++ recs_of lists) h before n) begins.logged ∙ from_logged number start.base (recs_of lists) h (filter (is_line_of n) before) nothing_yet None

  -- the round i, and its line q
  module _ (i : ℕ) (r : ToldRound) (at_round : slice_get rounds i ≡ Some r) (q : ℕ) (l : Line) (at_line : slice_get r.lines q ≡ Some l) where
    abbrev n : ℕ
    n = l.by.session

    abbrev front : List ToldRound
    front = take i rounds

    abbrev earlier : List Line
    earlier = take q r.lines

    abbrev before : List Line
    before = all_lines front ++ earlier

    abbrev t : Told
    t = record { line = l; span = r.span }

    abbrev rest : List ToldRound
    rest = (split_at rounds i r at_round).0

    cut : rounds ≡ front ++ r ∷ rest
    cut = (split_at rounds i r at_round).1

    abbrev behind : List Line
    behind = (split_at r.lines q l at_line).0

    line_cut : r.lines ≡ earlier ++ l ∷ behind
    line_cut = (split_at r.lines q l at_line).1

    own_cut : told_of n r ≡ told_in r.span (lines_by n earlier) ++ t ∷ told_in r.span (lines_by n behind)
    own_cut =
        ap (told_in r.span) (ap (lines_by n) line_cut ∙ (filter-append (is_line_of n) earlier (l ∷ behind) ∙ ap (λ b. lines_by n earlier ++ cond b (l ∷ lines_by n behind) (lines_by n behind)) (eqb-refl n)))
        ∙ map-append (λ (x : Line). record { line = x; span = r.span }) (lines_by n earlier) (l ∷ lines_by n behind)

    abbrev mine : List Told
    mine = told_by n front ++ told_in r.span (lines_by n earlier)

    abbrev more : List Told
    more = told_in r.span (lines_by n behind) ++ told_by n rest

    told_cut : told_by n rounds ≡ mine ++ t ∷ more
    told_cut =
        ap (told_by n) cut
        ∙ (flat_map-append (told_of n) front (r ∷ rest)
        ∙ (ap (λ (x : List Told). told_by n front ++ (x ++ told_by n rest)) own_cut
        ∙ (ap (λ (x : List Told). told_by n front ++ x) (append_assoc (told_in r.span (lines_by n earlier)) (t ∷ told_in r.span (lines_by n behind)) (told_by n rest))
        ∙ sym (append_assoc (told_by n front) (told_in r.span (lines_by n earlier)) (t ∷ more)))))

    mine_lines : lines_of mine ≡ lines_by n before
    mine_lines =
        lines_of_both (told_by n front) (told_in r.span (lines_by n earlier))
        ∙ ((λ j. lines_told n front j ++ lines_in_round r.span (lines_by n earlier) j)
        ∙ sym (filter-append (is_line_of n) (all_lines front) earlier))

    low : n < start.sessions
    low = all_at (λ (l : Line). l.by.session < start.sessions) (all_lines rounds) l over.lines (lines_have rounds r l (place_has rounds i r at_round) (place_has r.lines q l at_line))

    told : IsToldWell tells start lists n (lines_by n before) t
    told = subst (λ ls. IsToldWell tells start lists n ls t) mine_lines (each_mid (λ before t. IsToldWell tells start lists n (lines_of before) t) (told_by n rounds) mine more t told_cut (over.each n low).1.each)

    stance_same : stance h (lines_by n before) n ≡ stance h before n
    stance_same = ap (stance_from nothing_yet h) (filter_twice (is_line_of n) before)

    pending_same : pending (recs_of lists) h (lines_by n before) n ≡ pending f.recs h before n
    pending_same = ap (pending_from (recs_of lists) h nothing_yet None) (filter_twice (is_line_of n) before) ∙ sym (logged_same before n)

    -- the round's place in the history
    cut_two : rounds ≡ (front ++ r ∷ []) ++ rest
    cut_two = cut ∙ sym (append_assoc front (r ∷ []) rest)

    these_lines : all_lines (front ++ r ∷ []) ≡ all_lines front ++ r.lines
    these_lines = flat_map-append (λ (x : ToldRound). x.lines) front (r ∷ []) ∙ ap (λ ls. all_lines front ++ ls) (append-nil r.lines)

    span_is : r.span.events ≡ span_of h (all_lines front) r.lines
    span_is =
        let s = follow_split in_events 0 (length h) front (r ∷ rest) (subst (λ rs. Follow in_events 0 rs (length h)) cut over.places) in
        let here = front_counts tells start lists rounds over front (r ∷ rest) s.0 cut s.1 s.2 in
        let s2 = follow_split in_events 0 (length h) (front ++ r ∷ []) rest (subst (λ rs. Follow in_events 0 rs (length h)) cut_two over.places) in
        let s3 = follow_split in_events 0 s2.0 front (r ∷ []) s2.1 in
        let there = front_counts tells start lists rounds over (front ++ r ∷ []) rest s2.0 cut_two s2.1 s2.2 in
        let from_is : r.span.events.from ≡ count_by (has_line (all_lines front)) h = s.2.0 ∙ sym here in
        let to_is : r.span.events.to ≡ count_by (has_line (all_lines front ++ r.lines)) h = s3.2.2 ∙ (sym there ∙ ap (λ ls. count_by (has_line ls) h) these_lines) in
        λ j. record { from = from_is j; to = to_is j }

    multi_span_is : r.span.multis ≡ multi_span all (all_lines front) r.lines
    multi_span_is =
        let s = follow_split in_multis 0 (length all) front (r ∷ rest) (subst (λ rs. Follow in_multis 0 rs (length all)) cut over.multi_places) in
        let here = multi_counts tells start lists rounds over front (r ∷ rest) s.0 cut s.1 s.2 in
        let s2 = follow_split in_multis 0 (length all) (front ++ r ∷ []) rest (subst (λ rs. Follow in_multis 0 rs (length all)) cut_two over.multi_places) in
        let s3 = follow_split in_multis 0 s2.0 front (r ∷ []) s2.1 in
        let there = multi_counts tells start lists rounds over (front ++ r ∷ []) rest s2.0 cut_two s2.1 s2.2 in
        let from_is : r.span.multis.from ≡ count_by (has_multi_line (all_lines front)) all = s.2.0 ∙ sym here in
        let to_is : r.span.multis.to ≡ count_by (has_multi_line (all_lines front ++ r.lines)) all = s3.2.2 ∙ (sym there ∙ ap (λ ls. count_by (has_multi_line ls) all) these_lines) in
        λ j. record { from = from_is j; to = to_is j }

    -- what the lines before were given is done where the command began, but that of other sessions in the round
    in_before : (x : Line) → Has before x → Has (all_lines rounds) x
    in_before x k = ⊎_elim
        (λ old. subst (λ (ls : List Line). Has ls x) (sym (ap all_lines cut ∙ flat_map-append (λ (y : ToldRound). y.lines) front (r ∷ rest))) (has_left (all_lines front) (all_lines (r ∷ rest)) x old))
        (λ new. lines_have rounds r x (place_has rounds i r at_round) (has_take q r.lines x new))
        (has_cases (all_lines front) earlier x k)

    done_before : (x : Line) → Has before x → ((x.by.session ≢ n) × IsInRound multi_by all r.span.multis x.by) ⊎ IsMadeFor start told.begun x.by.session x.reply
    done_before x k = ⊎_elim
        (λ old. inr (made_stays start r.span.begun told.begun x.by.session x.reply told.began.in_round (all_at (λ (y : Line). IsMadeFor start r.span.begun y.by.session y.reply) (all_lines front) x (over.made i r at_round) old)))
        (λ new. step (x.by.session == n) refl new)
        (has_cases (all_lines front) earlier x k)
      where
        step : (b : Bool) → (x.by.session == n) ≡ b → Has earlier x → ((x.by.session ≢ n) × IsInRound multi_by all r.span.multis x.by) ⊎ IsMadeFor start told.begun x.by.session x.reply
        step true e new = inr (subst (λ z. IsMadeFor start told.begun z x.reply) (sym (eqb-true x.by.session n e)) (all_at (λ (y : Line). IsMadeFor start told.begun n y.reply) (lines_by n before) x told.began.made (filter_has (is_line_of n) before x k e)))
        step false e new = inl (λ same. false≢true (sym e ∙ eq-eqb x.by.session n same), in_multi_rounds tells start lists rounds over r x (place_has rounds i r at_round) (has_take q r.lines x new))

    began : MayCallIn start lists n (over.each n low).0
    began = (over.each n low).2

    not_yets : (multi : ℕ) → WasNotYet start told.begun lists l.by multi → IsNotYet start.base (recorded_in start) all r.span.multis (gave_multi before) l.by multi
    not_yets = not_yet start told.begun lists told.began.kept over.kept began.may.ready.at.base few_multis l.by told.began.unheard r.span.multis before
        (λ x k. let t = line_in tells start lists rounds over x (in_before x k) in (t.0.events, t.2.multis)) done_before

    logged : (reply : Reply) → IsMadeFor start lists n reply → IsLogged f reply
    logged (replies.Multi multi offset warn) m =
        let a = m.1.appended in
        let rec : Rec = records.Multi multi offset m.0 in
        (m.0, has_contains (start.logged ++ recs_of lists) rec (has_right start.logged (recs_of lists) rec (rec_has (at lists log_lock) a.0 rec (contains_has (at lists log_lock) _ a.2))))
    logged reply m = tt

    pub line_lawful : IsLawfulLine f (span_of h (all_lines front) r.lines) (multi_span all (all_lines front) r.lines) before l
    line_lawful = record {
      number = told.number ∙ ap (λ k. k + 1) (length-filter (is_line_of n) before);
      events = subst (λ s. HasEvents l.by s l.command l.reply (events_of l.by h)) stance_same told.events;
      multi_events = subst (λ (x : RoundSpan). HasMultiEvents start.base h x all l.by l.command l.reply (multis_of l.by all)) span_is told.multis;
      standing = told.standing ∙ (ap (λ s. refused_by l.command s (pending_in told.stage)) stance_same ∙ ap (refused_by l.command (stance h before n)) (told.pending_is ∙ pending_same));
      members = told.members;
      reply = subst (λ (x : (RoundSpan × RoundSpan) × (Stance × Option Refusal)). IsLawfulAnswer f before x.0.0 x.0.1 l.by x.1.0 x.1.1 l.command l.reply) (λ j. ((span_is j, multi_span_is j), (stance_same j, (told.pending_is ∙ pending_same) j)))
          (lawful_answer tells start lists rounds over few few_multis checked c lines_are told.begun r.span l.by before (stance h (lines_by n before) n) told.stage l.command l.reply not_yets told.fits told.answer);
      logged = logged l.reply told.made;
    }

  each_step : EachPlace (steps_of 1 rounds) (λ before step. IsLawfulRound f (flat_map lines_in before) (lines_in step))
  each_step i step e =
      let s = step_at 1 i rounds step e in
      subst (λ (x : List Line × List Line). IsLawfulRound f x.0 x.1) (λ j. (sym (take_lines 1 i rounds) j, sym s.lines j))
      (λ q l at. line_lawful i s.round s.at q l at)

  lawful : AreLawfulSteps f (steps_of 1 rounds)
  lawful = record {
    each = each_step;
    no_other = All-from_recursion (λ e. IsTrue (has_line (flat_map lines_in (steps_of 1 rounds)) e)) h (all_from (λ e. IsTrue (has_line (flat_map lines_in (steps_of 1 rounds)) e)) h (λ e k. subst (λ ls. IsTrue (has_line ls e)) (sym (step_lines 1 rounds)) (all_told tells start lists rounds over e k)));
  }

  in_turn : AreInTurn h (steps_of 1 rounds)
  in_turn n =
      let cut : rounds ≡ take n rounds ++ drop n rounds = sym (take-append-drop n rounds) in
      let s = follow_split in_events 0 (length h) (take n rounds) (drop n rounds) (subst (λ rs. Follow in_events 0 rs (length h)) cut over.places) in
      subst (StandFirst h) (sym (take_lines 1 n rounds)) (stands_first tells start lists rounds over (take n rounds) (drop n rounds) s.0 cut s.1 s.2)

-- what is lawful of the rounds is so of all steps
lawful_between : (f : Facts) (ss : List Step) → AreLawfulSteps f (filter is_round ss) → AreLawfulSteps f ss
lawful_between f ss a = record {
  each = each_between (IsLawfulRound f) ss (λ before. each_place_none (λ earlier. IsLawfulLine f (span_of f.events before []) (multi_span f.multis before []) (before ++ earlier))) a.each;
  no_other = subst (λ ls. All (λ e. IsTrue (has_line ls e)) f.events) (lines_of_rounds ss) a.no_other;
}

-- the lines of the report's steps are those of the rounds
pub report_lines : (start : Start) (lists : List (List Entry)) (rounds : List ToldRound) (r : LifeReport) → IsReportOf start lists rounds r → flat_map lines_in r.steps ≡ all_lines rounds
report_lines start lists rounds r is = sym (lines_of_rounds r.steps) ∙ (ap (flat_map lines_in) is.steps ∙ step_lines 1 rounds)

-- what the report is judged by
pub facts_are : (tells : Bool) (start : Start) (lists : List (List Entry)) (rounds : List ToldRound) (r : LifeReport) (begins : BeginsAt r.life.from start) (over : IsOver tells start lists rounds) (few : AreFewIds lists) (few_multis : AreFewMultis lists) (checks : AreCheckpointsTold start lists rounds r.steps) (is : IsReportOf start lists rounds r)
    → facts tells start lists rounds over few few_multis r.steps checks (report_lines start lists rounds r is) ≡ facts_of tells start.banks r.life r.steps
facts_are tells start lists rounds r begins over few few_multis checks is =
    let number : start.from - 1 ≡ r.life.from = let e = begins.from in omega arith in
    λ j. record {
      tells = tells;
      banks = start.banks;
      from = number j;
      base = sym is.base j;
      committed = sym is.committed j;
      recorded = filter_map recorded_by (sym is.recorded j);
      events = sym is.events j;
      multis = sym is.multis j;
      recs = sym is.recs j;
      flushed = sym is.flushed j;
      log_failed = has_failed_log r.steps;
    }

pub promises_make_steps : PromisesMakeSteps
promises_make_steps tells start lists rounds r begins over few few_lines checks is =
    let ids = levels_bound_ids tells start lists rounds over few in
    let given = lines_bound_multis tells start lists rounds over few_lines in
    let lines : flat_map lines_in r.steps ≡ all_lines rounds = report_lines start lists rounds r is in
    let same = facts_are tells start lists rounds r begins over ids given checks is in (
      lawful_between (facts_of tells start.banks r.life r.steps) r.steps
          (subst (λ (x : Facts × List Step). AreLawfulSteps x.0 x.1) (λ j. (same j, sym is.steps j)) (lawful tells start lists rounds r.life.from begins over ids given r.steps checks lines)),
      in_turn_between r.life.events r.steps
          (subst (λ (x : List Event × List Step). AreInTurn x.0 x.1) (λ j. (sym is.events j, sym is.steps j)) (in_turn tells start lists rounds r.life.from begins over ids given r.steps checks lines)),
    )
