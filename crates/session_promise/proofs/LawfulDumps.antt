-- The dumps of a life, between its rounds.
use Rattle.std.proofs.Common.{Bool, Contains, List, [], ap, append_assoc, inl, inr, length, map, subst, sym, take, ℕ, ⊎_elim, ◌++◌, ◌∙◌, ◌∷◌, ◌≡◌}
use Rattle.std.proofs.Math.Seq.{take-append_seam}
use Rattle.std.proofs.lemmas.List.{map-append}
use Rattle.std.proofs.lemmas.List.Elements.{Contains-append_right}
use Rattle.std.specs.List.{count_by, filter, flat_map}
use Rattle.notes.specs.Lists.{Begins, Grows, at}
use Rattle.tx_events.specs.declared.event.By.{By}
use Rattle.tx_events.specs.declared.event.Event.{Event}
use Rattle.tx_events.specs.declared.multi.MultiEvent.{MultiEvent}
use Rattle.tx_model.specs.Replies.{RoundSpan}
use Rattle.life_law.specs.MultiPlaces.{has_multi_line, multis_behind}
use Rattle.tx_core.specs.MultiEntries.{multi_history}
use Rattle.tx_events.specs.declared.record.Counters.{Counters}
use Rattle.tx_events.specs.declared.record.Rec.{Rec}
use Rattle.tx_events.specs.declared.record.Rec.TheVariants as records
use Rattle.tx_events.specs.declared.refusal.Lock.TheVariants as locks
use Rattle.tx_events.specs.declared.refusal.Refusal.TheVariants as refusals
use Rattle.tx_events.proofs.PlaceLemmas.{each_place_push}
use Rattle.tx_model.specs.declared.reply.Reply.{Reply}
use Rattle.tx_model.specs.declared.reply.Reply.TheVariants as replies
use Rattle.tx_model.specs.declared.report.DumpOf.{DumpOf}
use Rattle.tx_model.specs.declared.report.DumpOf.TheVariants as dumps
use Rattle.tx_model.specs.declared.report.LifeReport.{LifeReport}
use Rattle.tx_model.specs.declared.report.Line.{Line}
use Rattle.tx_model.specs.declared.report.Step.{Step}
use Rattle.tx_model.specs.declared.report.Step.TheVariants as steps
use Rattle.tx_model.specs.Lines.{has_line}
use Rattle.tx_model.specs.Rounds.{is_round, lines_in}
use Rattle.life_law.specs.Dumps.{AreLawfulDumps, IsLawfulBetween, IsMemberCutoff, IsOffsetCutoff, IsXactCutoff, MayDump, events_behind}
use Rattle.life_law.specs.LawfulLife.{facts_of}
use Rattle.tx_core.specs.declared.entry.Entry.{Entry}
use Rattle.tx_core.specs.declared.entry.Start.{Start}
use Rattle.tx_core.specs.Entries.{appended, history, records_in}
use Rattle.tx_core.specs.Locks.{log_lock}
use Rattle.tx_core.proofs.Growing.{begins_filter_map, contains_begins}
use Rattle.tx_core.proofs.Lasting.{history_grows}
use Rattle.session_promise.specs.Closing.{IsOver, IsReportOf}
use Rattle.session_promise.specs.Dumps.{AreDumpsTold, IsDumpTold, IsStepTold}
use Rattle.session_promise.specs.Promise.{recs_of}
use Rattle.session_promise.specs.Told.{Follow, ToldRound, all_lines, in_events, in_multis, steps_of}
use Rattle.session_promise.proofs.Between.{lines_of_rounds, step_lines}
use Rattle.session_promise.proofs.Standing.{follow_split, front_counts, multi_counts}

-- ---- places

follow_end : (span : ToldRound → RoundSpan) (from a b : ℕ) (rounds : List ToldRound) → Follow span from rounds a → Follow span from rounds b → a ≡ b
follow_end span from a b [] f g = sym f ∙ g
follow_end span from a b (r ∷ rounds) f g = follow_end span (span r).to a b rounds f.2 g.2

-- ---- more records

cutoff_more : (base : Counters) (recs more : List Rec) (cutoff : ℕ) → ((r : Rec) → Contains recs r → Contains more r) → IsXactCutoff base recs cutoff → IsXactCutoff base more cutoff
cutoff_more base recs more cutoff up c = (
  c.0,
  ⊎_elim (λ (e : c.0 ≡ base.oldest). inl e) (λ (t : (multi offset : ℕ) × Contains recs (records.Truncate c.0 multi offset)). inr (t.0, t.1, up (records.Truncate c.0 t.0 t.1) t.2)) c.1,
  c.2,
)

offset_cutoff_more : (base : Counters) (recs more : List Rec) (cutoff : ℕ) → ((r : Rec) → Contains recs r → Contains more r) → IsOffsetCutoff base recs cutoff → IsOffsetCutoff base more cutoff
offset_cutoff_more base recs more cutoff up c = (
  c.0,
  ⊎_elim (λ (e : c.0 ≡ base.oldest_multi). inl e) (λ (t : (id offset : ℕ) × Contains recs (records.Truncate id c.0 offset)). inr (t.0, t.1, up (records.Truncate t.0 c.0 t.1) t.2)) c.1,
  c.2,
)

member_cutoff_more : (base : Counters) (recs more : List Rec) (cutoff : ℕ) → ((r : Rec) → Contains recs r → Contains more r) → IsMemberCutoff base recs cutoff → IsMemberCutoff base more cutoff
member_cutoff_more base recs more cutoff up c = (
  c.0,
  ⊎_elim (λ (e : c.0 ≡ base.oldest_offset). inl e) (λ (t : (id multi : ℕ) × Contains recs (records.Truncate id multi c.0)). inr (t.0, t.1, up (records.Truncate t.0 t.1 c.0) t.2)) c.1,
  c.2,
)

dump_more : (banks : ℕ) (base : Counters) (recs more : List Rec) (h : List Event) → ((r : Rec) → Contains recs r → Contains more r) → (what : DumpOf) (size : ℕ) (reply : Reply) → MayDump banks base recs h what size reply → MayDump banks base more h what size reply
dump_more banks base recs more h up dumps.Log size (replies.Bytes bytes) m = m
dump_more banks base recs more h up dumps.Log size (replies.Refused refusals.LogFault) m = m
dump_more banks base recs more h up (dumps.Xact page) size (replies.Bytes bytes) m = (m.0, m.1, m.2, cutoff_more base recs more m.2 up m.3, m.4)
dump_more banks base recs more h up (dumps.Xact page) size (replies.Cut cutoff) m = (cutoff_more base recs more cutoff up m.0, m.1)
dump_more banks base recs more h up (dumps.Xact page) size (replies.Refused (refusals.DiskFault (locks.Xact bank))) m = m
dump_more banks base recs more h up (dumps.Subtrans page) size (replies.Bytes bytes) m = m
dump_more banks base recs more h up (dumps.Subtrans page) size (replies.Cut cutoff) m = m
dump_more banks base recs more h up (dumps.Subtrans page) size (replies.Refused (refusals.DiskFault (locks.Subtrans bank))) m = m
dump_more banks base recs more h up (dumps.Offsets page) size (replies.Bytes bytes) m = (m.0, m.1, m.2, offset_cutoff_more base recs more m.2 up m.3, m.4)
dump_more banks base recs more h up (dumps.Offsets page) size (replies.Cut cutoff) m = (offset_cutoff_more base recs more cutoff up m.0, m.1)
dump_more banks base recs more h up (dumps.Offsets page) size (replies.Refused (refusals.DiskFault (locks.Offsets bank))) m = m
dump_more banks base recs more h up (dumps.Members page) size (replies.Bytes bytes) m = (m.0, m.1, m.2, member_cutoff_more base recs more m.2 up m.3, m.4)
dump_more banks base recs more h up (dumps.Members page) size (replies.Cut cutoff) m = (member_cutoff_more base recs more cutoff up m.0, m.1)
dump_more banks base recs more h up (dumps.Members page) size (replies.Refused (refusals.DiskFault (locks.Members bank))) m = m
dump_more banks base recs more h up what size reply m = absurd m

recs_more : (lists more : List (List Entry)) → Grows lists more → (r : Rec) → Contains (recs_of lists) r → Contains (recs_of more) r
recs_more lists more g r c =
    let b = begins_filter_map appended (at lists log_lock) (at more log_lock) (g.begins log_lock) in
    contains_begins (recs_of lists) (recs_of more) r (begins_map b) c
  where
    begins_map : Begins (records_in (at lists log_lock)) (records_in (at more log_lock)) → Begins (recs_of lists) (recs_of more)
    begins_map b = (map (λ (z : By × Rec). z.1) b.0, sym (map-append (λ (z : By × Rec). z.1) (records_in (at lists log_lock)) b.0) ∙ ap (map (λ (z : By × Rec). z.1)) b.1)

-- ---- the dumps

-- while the life goes on
module _ (start : Start) (lists more : List (List Entry)) (rounds added : List ToldRound) (g : Grows lists more) where
  dump_stays : (before : List Step) (what : DumpOf) (size : ℕ) (reply : Reply) → IsDumpTold start lists rounds before what size reply → IsDumpTold start more (rounds ++ added) before what size reply
  dump_stays before what size reply d =
      let grown = history_grows lists more g in record {
        front = d.front;
        behind = d.behind ++ added;
        split = ap (λ (rs : List ToldRound). rs ++ added) d.split ∙ append_assoc d.front d.behind added;
        steps = d.steps;
        events = d.events;
        begins = (d.begins.0 ++ grown.0, sym (append_assoc d.events d.begins.0 grown.0) ∙ ap (λ (t : List Event). t ++ grown.0) d.begins.1 ∙ grown.1);
        places = d.places;
        answer = dump_more start.banks start.base (recs_of lists) (recs_of more) d.events (recs_more lists more g) what size reply d.answer;
      }

  step_stays : (before : List Step) (step : Step) → IsStepTold start lists rounds before step → IsStepTold start more (rounds ++ added) before step
  step_stays before (steps.Round number lines) d = tt
  step_stays before (steps.Checkpoint reply) d = tt
  step_stays before (steps.Dump what at size reply) d = dump_stays before what size reply d

  -- those that were told stay, and one more step is added
  pub dumps_stay : (ss : List Step) (step : Step) → AreDumpsTold start lists rounds ss → IsStepTold start more (rounds ++ added) ss step → AreDumpsTold start more (rounds ++ added) (ss ++ step ∷ [])
  dumps_stay ss step told last = each_place_push (λ before s. IsStepTold start more (rounds ++ added) before s) ss step (λ p s there. step_stays (take p ss) s (told p s there)) last

-- and behind its end
module _ (tells : Bool) (start : Start) (lists : List (List Entry)) (rounds : List ToldRound) (over : IsOver tells start lists rounds) (r : LifeReport) (is : IsReportOf start lists rounds r) where
  -- the events of the first rounds stand first
  pub events_first : (before : List Step) (front behind : List ToldRound) (events : List Event) → rounds ≡ front ++ behind → filter is_round before ≡ steps_of 1 front → Begins events (history lists) → Follow in_events 0 front (length events) → events ≡ events_behind r.life.events (flat_map lines_in before)
  events_first before front behind events split steps begins places =
      let h : List Event = history lists in
      let lines : flat_map lines_in before ≡ all_lines front = sym (lines_of_rounds before) ∙ (ap (flat_map lines_in) steps ∙ step_lines 1 front) in
      let s = follow_split in_events 0 (length h) front behind (subst (λ (rs : List ToldRound). Follow in_events 0 rs (length h)) split over.places) in
      let count : count_by (has_line (flat_map lines_in before)) h ≡ length events =
      ap (λ (ls : List Line). count_by (has_line ls) h) lines ∙ (front_counts tells start lists rounds over front behind s.0 split s.1 s.2 ∙ follow_end in_events 0 s.0 (length events) front s.1 places) in
      let first : take (length events) h ≡ events = ap (take (length events)) (sym begins.1) ∙ take-append_seam events begins.0 in
      sym first ∙ (ap (λ n. take n h) (sym count) ∙ ap (λ (t : List Event). events_behind t (flat_map lines_in before)) (sym is.events))

  -- and so of multixacts
  pub multis_first : (before : List Step) (front behind : List ToldRound) (events : List MultiEvent) → rounds ≡ front ++ behind → filter is_round before ≡ steps_of 1 front → Begins events (multi_history lists) → Follow in_multis 0 front (length events) → events ≡ multis_behind r.life.multis (flat_map lines_in before)
  multis_first before front behind events split steps begins places =
      let h : List MultiEvent = multi_history lists in
      let lines : flat_map lines_in before ≡ all_lines front = sym (lines_of_rounds before) ∙ (ap (flat_map lines_in) steps ∙ step_lines 1 front) in
      let s = follow_split in_multis 0 (length h) front behind (subst (λ (rs : List ToldRound). Follow in_multis 0 rs (length h)) split over.multi_places) in
      let count : count_by (has_multi_line (flat_map lines_in before)) h ≡ length events =
      ap (λ (ls : List Line). count_by (has_multi_line ls) h) lines ∙ (multi_counts tells start lists rounds over front behind s.0 split s.1 s.2 ∙ follow_end in_multis 0 s.0 (length events) front s.1 places) in
      let first : take (length events) h ≡ events = ap (take (length events)) (sym begins.1) ∙ take-append_seam events begins.0 in
      sym first ∙ (ap (λ n. take n h) (sym count) ∙ ap (λ (t : List MultiEvent). multis_behind t (flat_map lines_in before)) (sym is.multis))

  dump_lawful : (before : List Step) (what : DumpOf) (size : ℕ) (reply : Reply) → IsDumpTold start lists rounds before what size reply → MayDump start.banks r.life.base r.life.recs (events_behind r.life.events (flat_map lines_in before)) what size reply
  dump_lawful before what size reply d =
      let events = events_first before d.front d.behind d.events d.split d.steps d.begins d.places in
      let all = dump_more start.banks start.base (recs_of lists) (start.logged ++ recs_of lists) d.events (λ x c. Contains-append_right start.logged (recs_of lists) x c) what size reply d.answer in
      subst (λ (z : Counters × List Rec × List Event). MayDump start.banks z.0 z.1 z.2 what size reply) (λ j. (sym is.base j, sym is.recs j, events j)) all

  step_lawful : (before : List Step) (step : Step) → IsStepTold start lists rounds before step → IsLawfulBetween (facts_of tells start.banks r.life r.steps) (flat_map lines_in before) step
  step_lawful before (steps.Round number lines) d = tt
  step_lawful before (steps.Checkpoint reply) d = tt
  step_lawful before (steps.Dump what at size reply) d = dump_lawful before what size reply d

  pub dumps_lawful : AreDumpsTold start lists rounds r.steps → AreLawfulDumps (facts_of tells start.banks r.life r.steps) r.steps
  dumps_lawful told p step at = step_lawful (take p r.steps) step (told p step at)
