-- The promises of all sessions make lawful multixacts.
use Rattle.std.proofs.Common.{Bool, Contains, IsTrue, List, None, Option, Some, [], ap, append-nil, arith, drop, eq-eqb, length, map, refl, subst, sym, take, zero, suc, ℕ, ⊎_elim, ◌+◌, ◌++◌, ◌-◌, ◌<◌, ◌==◌, ◌≡◌, ◌≤◌, ◌∙◌, ◌∷◌, slice_get}
use Rattle.std.specs.List.{All, cons_option, filter, filter_map, flat_map}
use Rattle.std.proofs.Math.Seq.{take-append_seam}
use Rattle.std.proofs.lemmas.List.{take-append-drop}
use Rattle.std.proofs.lemmas.List.Elements.{All-from_recursion, filter_map-append}
use Rattle.notes.specs.Lists.{at}
use Rattle.tx_events.specs.declared.event.By.{By}
use Rattle.tx_events.specs.declared.multi.Member.{Member}
use Rattle.tx_events.specs.declared.multi.MultiEvent.{MultiEvent}
use Rattle.tx_events.specs.declared.multi.MultiEvent.TheVariants as multi_events
use Rattle.tx_events.specs.declared.record.Counters.{Counters}
use Rattle.tx_events.specs.declared.record.Rec.{Rec}
use Rattle.tx_events.specs.declared.record.Rec.TheVariants as records
use Rattle.tx_events.specs.Multis.{AreLegalMultis, InBase, MultiMayCome, multi_by}
use Rattle.tx_events.specs.Places.{EachPlace}
use Rattle.tx_events.proofs.Membership.{Has, all_from, by_end, contains_has, filter_has, has_contains, has_filter_map, has_place, place_has}
use Rattle.tx_events.proofs.PlaceLemmas.{each_place_none, each_place_push, last_at, slice_get-grows, take-grows}
use Rattle.tx_model.specs.declared.report.Line.{Line}
use Rattle.tx_model.specs.declared.report.Step.{Step}
use Rattle.tx_model.specs.Rounds.{is_round, lines_in}
use Rattle.life_law.specs.Facts.{Facts}
use Rattle.life_law.specs.LawfulLife.{facts_of}
use Rattle.life_law.specs.LawfulMultis.{AreMultisInTurn, AreTrimsFlushed, HasTruncation, MultiComesInTurn, MultisStandFirst}
use Rattle.life_law.specs.MultiLines.{of_records}
use Rattle.life_law.specs.MultiPlaces.{has_multi_line, recorded_by}
use Rattle.tx_core.specs.declared.entry.Entry.{Entry}
use Rattle.tx_core.specs.declared.entry.Start.{Start}
use Rattle.tx_core.specs.EngineInvariant.{EngineInvariant}
use Rattle.tx_core.specs.Entries.{flushed_to, records_of}
use Rattle.tx_core.specs.Locks.{log_lock, multi_lock}
use Rattle.tx_core.specs.MultiEntries.{AreFewMultis, multi_history, multi_of, multis_in}
use Rattle.tx_core.specs.ProgramOrder.{IsHostsTurn, IsInTurn, IsOfHost, NeedsTurn}
use Rattle.tx_core.proofs.Asking.{has_all}
use Rattle.tx_core.proofs.LogLaws.{flushes_rise}
use Rattle.tx_core.proofs.Nearness.{multis_are_legal}
use Rattle.engine_parts.specs.MultiAnswers.{recorded_in}
use Rattle.session_promise.specs.Closing.{BeginsAt, IsOver, PromisesMakeMultis}
use Rattle.session_promise.specs.Promise.{HasTrimmed, IsRecordedIn, recs_of}
use Rattle.session_promise.specs.Told.{Follow, ToldRound, all_lines, in_multis, steps_of}
use Rattle.session_promise.proofs.Between.{filter_take, lines_of_rounds}
use Rattle.session_promise.proofs.FewMultis.{lines_bound_multis, multi_known}
use Rattle.session_promise.proofs.LawfulSteps.{report_lines, take_lines}
use Rattle.session_promise.proofs.OwnNone.{multi_own, not_hosts}
use Rattle.session_promise.proofs.RecordPlaces.{filter_map_has}
use Rattle.session_promise.proofs.Standing.{follow_split, line_in, multis_stand_first, multis_told}

-- ---- by the records

of_record : (start : Start) (multi offset : ℕ) → IsRecordedIn start multi offset → (members : List Member) × Contains (recorded_in start) (multi, offset, members)
of_record start multi offset r = (r.0, has_contains (recorded_in start) (multi, offset, r.0) (filter_map_has recorded_by start.recorded (records.Multi multi offset r.0) (multi, offset, r.0) (contains_has start.recorded (records.Multi multi offset r.0) r.1) refl))

-- where each raise to a multixact of the base is to its recorded offset
by_record : (start : Start) (h : List MultiEvent) → AreLegalMultis start.base (InBase start.base) h → ((by : By) (multi offset : ℕ) → Has h (multi_events.Raise by multi offset) → multi < start.base.multi → IsRecordedIn start multi offset)
    → AreLegalMultis start.base (of_records start.base (recorded_in start)) h
by_record start h legal raises p e at = step e at (legal p e at)
  where
    step : (e : MultiEvent) → slice_get h p ≡ Some e → MultiMayCome start.base (InBase start.base) (take p h) e → MultiMayCome start.base (of_records start.base (recorded_in start)) (take p h) e
    step (multi_events.Gen by multi offset members) at m = m
    step (multi_events.Hold by multi) at m = m
    step (multi_events.Unhold by multi) at m = m
    step (multi_events.Raise by multi offset) at m = record {
      not_back = m.not_back;
      not_pinned = m.not_pinned;
      begins = record {
        of_base = λ low. of_record start multi offset (raises by multi offset (place_has h p (multi_events.Raise by multi offset) at) low);
        of_life = m.begins.of_life;
        of_next = m.begins.of_next;
      };
    }

-- ---- each session's by its commands

abbrev AreTurns : Start → List (List Entry) → List Entry → Type 0
AreTurns start lists es = (p : ℕ) (e : Entry) → slice_get es p ≡ Some e → NeedsTurn start lists multi_lock (take p es) e

abbrev AreOwn : List Entry → Type 0
AreOwn es = (p : ℕ) (e : Entry) → slice_get es p ≡ Some e → (event : MultiEvent) → multi_of e ≡ Some event → multi_by event ≡ e.by

turns_in : (start : Start) (lists : List (List Entry)) (k : EngineInvariant start lists) → EachPlace (multi_history lists) MultiComesInTurn
turns_in start lists k = legal (at lists multi_lock) (λ p e here. k.order.turns.each multi_lock p e here) (λ p e here event is. multi_own start lists multi_lock (take p (at lists multi_lock)) e event (k.multis.each.each multi_lock p e here) is)
  where
    behind : (es : List Entry) (e : Entry) (event : MultiEvent) → multi_of e ≡ Some event → AreOwn (es ++ e ∷ []) → NeedsTurn start lists multi_lock es e → MultiComesInTurn (multis_in es) event
    behind es e event is owns turn =
        all_from (λ f. (multi_by f).session ≡ (multi_by event).session → (multi_by f).command ≤ (multi_by event).command) (multis_in es) (λ f h same.
        let from = has_filter_map multi_of es f h in
        let there = has_place es from.0 from.1 in
        let mine : multi_by event ≡ e.by = owns (length es) e (last_at es e) event is in
        let theirs : multi_by f ≡ from.0.by = owns there.0 from.0 (slice_get-grows es (e ∷ []) from.0 there.0 there.1) f from.2 in
        let alike : from.0.by.session ≡ e.by.session = ap (λ (b : By). b.session) (sym theirs) ∙ (same ∙ ap (λ (b : By). b.session) mine) in
        ⊎_elim
        (λ (t : IsInTurn start es e.by).
        let low = has_all (λ (g : Entry). g.by.command ≤ e.by.command) (filter (λ (g : Entry). g.by.session == e.by.session) es) t.after from.0 (filter_has (λ (g : Entry). g.by.session == e.by.session) es from.0 from.1 (eq-eqb from.0.by.session e.by.session alike)) in
        let a : (multi_by f).command ≡ from.0.by.command = ap (λ (b : By). b.command) theirs in
        let b : (multi_by event).command ≡ e.by.command = ap (λ (b : By). b.command) mine in
        omega (arith, low, a, b))
        (λ (t : IsHostsTurn start e.by × IsOfHost e.kind). absurd (not_hosts e.kind event t.1 is))
        turn)

    legal : (es : List Entry) → AreTurns start lists es → AreOwn es → EachPlace (multis_in es) MultiComesInTurn
    legal = by_end (λ es. AreTurns start lists es → AreOwn es → EachPlace (multis_in es) MultiComesInTurn)
        (λ turns owns. each_place_none MultiComesInTurn)
        (λ es e before turns owns.
        let old : EachPlace (multis_in es) MultiComesInTurn =
        before (λ p f g. subst (λ (t : List Entry). NeedsTurn start lists multi_lock t f) (take-grows es (e ∷ []) f p g) (turns p f (slice_get-grows es (e ∷ []) f p g))) (λ p f g. owns p f (slice_get-grows es (e ∷ []) f p g)) in
        let last : NeedsTurn start lists multi_lock es e = subst (λ (t : List Entry). NeedsTurn start lists multi_lock t e) (take-append_seam es (e ∷ [])) (turns (length es) e (last_at es e)) in
        let step : (o : Option MultiEvent) → multi_of e ≡ o → EachPlace (multis_in es ++ cons_option o []) MultiComesInTurn = elim [
          | None ↦ λ g. subst (λ (t : List MultiEvent). EachPlace t MultiComesInTurn) (sym (append-nil (multis_in es))) old
          | Some event ↦ λ g. each_place_push MultiComesInTurn (multis_in es) event old (behind es e event g owns last)
        ] in
        subst (λ (t : List MultiEvent). EachPlace t MultiComesInTurn) (sym (filter_map-append multi_of es (e ∷ []))) (step (multi_of e) refl))

-- ---- round by round

multis_between : (h : List MultiEvent) (ss : List Step) → AreMultisInTurn h (filter is_round ss) → AreMultisInTurn h ss
multis_between h ss turns n =
    let f = filter_take is_round ss n in
    subst (MultisStandFirst h) (ap (flat_map lines_in) f.1 ∙ lines_of_rounds (take n ss)) (turns f.0)

module _ (tells : Bool) (start : Start) (lists : List (List Entry)) (rounds : List ToldRound) (over : IsOver tells start lists rounds) where
  abbrev all : List MultiEvent
  all = multi_history lists

  in_turn : AreMultisInTurn all (steps_of 1 rounds)
  in_turn n =
      let cut : rounds ≡ take n rounds ++ drop n rounds = sym (take-append-drop n rounds) in
      let s = follow_split in_multis 0 (length all) (take n rounds) (drop n rounds) (subst (λ rs. Follow in_multis 0 rs (length all)) cut over.multi_places) in
      subst (MultisStandFirst all) (sym (take_lines 1 n rounds)) (multis_stand_first tells start lists rounds over (take n rounds) (drop n rounds) s.0 cut s.1 s.2)

  raises : IsTrue tells → AreFewMultis lists → (by : By) (multi offset : ℕ) → Has all (multi_events.Raise by multi offset) → multi < start.base.multi → IsRecordedIn start multi offset
  raises t few by multi offset h low =
      let n : ℕ = by.session in
      let known : n < start.sessions = multi_known start lists over.kept (multi_events.Raise by multi offset) h in
      (over.each n known).1.raises t few by multi offset refl (has_contains all (multi_events.Raise by multi offset) h) low

  -- ---- trims

  abbrev callers : List By
  callers = record { session = 0; command = 0 } ∷ map (λ r. r.0) (records_of lists)

  at_map : {X Y : Type 0} (g : X → Y) (xs : List X) (p : ℕ) (x : X) → slice_get xs p ≡ Some x → slice_get (map g xs) p ≡ Some (g x)
  at_map g [] p x e = absurd cc
  at_map g (y ∷ xs) zero x e = let same : y ≡ x = cc in ap (λ z. Some (g z)) same
  at_map g (y ∷ xs) (suc p) x e = at_map g xs p x e

  at_take : {X : Type 0} (n : ℕ) (xs : List X) (p : ℕ) (x : X) → p < n → slice_get xs p ≡ Some x → slice_get (take n xs) p ≡ Some x
  at_take zero xs p x l e = absurd (omega arith)
  at_take (suc n) [] p x l e = absurd cc
  at_take (suc n) (y ∷ xs) zero x l e = e
  at_take (suc n) (y ∷ xs) (suc p) x l e = at_take n xs p x (omega arith) e

  truncation : (number : ℕ) (begins : BeginsAt number start) (f : Facts) → f.from ≡ number → f.recs ≡ start.logged ++ recs_of lists → f.flushed ≡ flushed_to start (at lists log_lock) → (by : By) → HasTrimmed start lists by → HasTruncation f callers by
  truncation number begins f from recs flushed by t =
      let rec : Rec = records.Truncate t.oldest t.multi t.offset in
      let last = flushes_rise start lists over.kept in
      let most : t.to ≤ flushed_to start (at lists log_lock) = last.greatest t.to t.flushed in
      let first : start.from ≡ number + 1 = begins.from in
      let past = t.past in
      let stands : slice_get (start.logged ++ recs_of lists) (suc t.place) ≡ Some rec = subst (λ (rs : List Rec). slice_get (rs ++ recs_of lists) (suc t.place) ≡ Some rec) (sym begins.logged) (at_map (λ (r : By × Rec). r.1) (records_of lists) t.place (by, rec) t.stands) in
      record {
        place = suc t.place;
        by_is = at_map (λ (r : By × Rec). r.0) (records_of lists) t.place (by, rec) t.stands;
        oldest = t.oldest;
        multi = t.multi;
        offset = t.offset;
        stands = subst (λ (x : (ℕ × ℕ) × List Rec). slice_get (take (x.0.0 - x.0.1) x.1) (suc t.place) ≡ Some rec) (λ j. ((sym flushed j, sym from j), sym recs j))
            (at_take (flushed_to start (at lists log_lock) - number) (start.logged ++ recs_of lists) (suc t.place) rec (omega arith) stands);
      }

  trims : (number : ℕ) (begins : BeginsAt number start) (f : Facts) → f.from ≡ number → f.recs ≡ start.logged ++ recs_of lists → f.flushed ≡ flushed_to start (at lists log_lock) → AreTrimsFlushed f (all_lines rounds)
  trims number begins f from recs flushed = record {
    callers = callers;
    each = λ l c e. truncation number begins f from recs flushed l.by ((line_in tells start lists rounds over l (contains_has (all_lines rounds) l c)).2.trimmed e);
  }

pub promises_make_multis : PromisesMakeMultis
promises_make_multis tells start lists rounds r begins over few is =
    let all : List MultiEvent = multi_history lists in
    let given = lines_bound_multis tells start lists rounds over few in
    let lines : flat_map lines_in r.steps ≡ all_lines rounds = report_lines start lists rounds r is in
    let legal = multis_are_legal start lists over.kept in record {
      legal = subst (λ (x : Counters × List MultiEvent). AreLegalMultis x.0 (InBase x.0) x.1) (λ j. (sym is.base j, sym is.multis j)) legal;
      by_records = λ t. subst (λ (x : (Counters × List Rec) × List MultiEvent). AreLegalMultis x.0.0 (of_records x.0.0 (filter_map recorded_by x.0.1)) x.1) (λ j. ((sym is.base j, sym is.recorded j), sym is.multis j))
          (by_record start all legal (raises tells start lists rounds over t given));
      turns = subst (λ (h : List MultiEvent). EachPlace h MultiComesInTurn) (sym is.multis) (turns_in start lists over.kept);
      in_turn = multis_between r.life.multis r.steps (subst (λ (x : List MultiEvent × List Step). AreMultisInTurn x.0 x.1) (λ j. (sym is.multis j, sym is.steps j)) (in_turn tells start lists rounds over));
      no_other = subst (λ (x : List MultiEvent × List Line). All (λ e. IsTrue (has_multi_line x.1 e)) x.0) (λ j. (sym is.multis j, sym lines j))
          (All-from_recursion (λ e. IsTrue (has_multi_line (all_lines rounds) e)) all (all_from (λ e. IsTrue (has_multi_line (all_lines rounds) e)) all (λ e k. multis_told tells start lists rounds over e k)));
      trims = subst (AreTrimsFlushed (facts_of tells start.banks r.life r.steps)) (sym lines) (trims tells start lists rounds over r.life.from begins (facts_of tells start.banks r.life r.steps) refl is.recs is.flushed);
    }
