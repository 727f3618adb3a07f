use Rattle.std.proofs.Common.{◌≡◌, ℕ, ◌<◌, ◌≤◌, ◌↔◌, List, Option, Contains, drop, length, map, take, refl, sym, ap, subst, ◌∙◌, IsTrue}
use Rattle.std.specs.Global.{Vec}
use Rattle.std.specs.BTreeSet.{contains}
use Rattle.std.specs.List.{All, flat_map, list_any}
use Rattle.std.specs.Ordering.{nat_cmp}
use Rattle.std.proofs.lemmas.List.{length-map}
use Rattle.tx_events.specs.Base.{IsBase}
use Rattle.tx_events.specs.declared.event.By.{By}
use Rattle.tx_events.specs.declared.event.Event.{Event}
use Rattle.tx_events.specs.declared.multi.Member.{Member}
use Rattle.tx_events.specs.declared.multi.MultiEvent.{MultiEvent}
use Rattle.tx_events.specs.declared.record.Counters.{Counters}
use Rattle.tx_events.specs.declared.record.Rec.{Rec}
use Rattle.tx_events.specs.declared.snapshot.SnapData.{SnapData}
use Rattle.tx_events.specs.Events.{by_of}
use Rattle.tx_events.specs.Multis.{multi_by}
use Rattle.tx_model.specs.declared.report.LifeReport.{LifeReport}
use Rattle.tx_model.specs.declared.report.Line.{Line}
use Rattle.tx_model.specs.declared.report.Step.{Step}
use Rattle.tx_model.specs.Rounds.{lines_in}
use Rattle.life_law.specs.DidCommit.{IsRecorded}
use Rattle.life_law.specs.Pending.{is_commit_of}
use Rattle.history_places.specs.IdMarks.{AreMarks}
use Rattle.history_places.specs.SnapMarks.{AreSnapMarks}
use Rattle.history_places.specs.declared.snaps.SnapMark.{SnapMark}
use Rattle.place_columns.specs.Counted.{AreCounts}
use Rattle.history_check.specs.Replays.{Replayed}
use Rattle.multi_rules.specs.Limits.{AreHeldLimits}
use Rattle.event_rules.specs.Fronts.{IsFront, IsMultiFront}
use Rattle.multi_rules.specs.Gens.{is_ok_gen}
use Rattle.history_places.specs.declared.start.Start.{Start}
use Rattle.history_places.specs.Starts.{start_of}
use Rattle.multi_rules.specs.Snapped.{AreTakenByLines}
use Rattle.place_columns.specs.declared.lines.LineAt.{LineAt}
use Rattle.place_columns.specs.Lined.{AreInOrder, Numbered, bys_of, line_by, lines_from, number_of, numbered}
use Rattle.place_columns.proofs.LineSteps.{bys_are}
use Rattle.place_columns.specs.declared.own.Own.{Own}
use Rattle.place_columns.specs.Owned.{AreAllOwn}
use Rattle.turn_links.specs.Links.{AreAllLinks}
use Rattle.report_law.specs.Steps.{gave_multi, lines_of}
use Rattle.event_rules.specs.SnapsTold.{told_by}
use Rattle.life_tables.specs.Lives.{LifeAt, is_multi_reply, judged_life}
use Rattle.life_tables.specs.Told.{AreToldLists}
use Rattle.life_tables.proofs.Lining.{few_from, few_front, few_map, lines_order, oks_are, take_self}
use Rattle.report_check.proofs.Knowing.{known_at}
use Rattle.report_check.proofs.known.known_of.Goals as goal

abbrev life_at : LifeAt → LifeReport → LifeAt
life_at at r = record { begun = at.begun; report = r }

pub front_of-requires : goal.front_of-requires
front_of-requires g c =
    let r = c.args.report.now in
    let table = c.in_ok-table.table in
    let own = c.in_ok-own.ensures ∙ ap (λ (es : List Event). numbered table (map by_of es)) c.items-events.ensures ∙ ap (λ (t : List LineAt). numbered t (map by_of r.life.events)) c.in_ok-table.ensures in
    let steps = c.items.ensures ∙ ap (λ (x : LifeReport). x.steps) c.requires.0 in
    let lists = subst (λ (t : List Step). AreToldLists (flat_map lines_in t) c.in_ok-lists.lists.items) steps c.in_ok-lists.ensures in
    (c.requires.0, (c.requires.1.1.0.1, (few_from by_of r.life.events c.requires.1.0.events, (own, subst (λ (t : List (Option SnapData)). AreToldLists (lines_of (judged_life g.at)) t) (sym c.as_slice.ensures.value) lists))))

pub taken_of-requires : goal.taken_of-requires
taken_of-requires g c =
    let r = c.args.report.now in
    let e = c.requires.0 in
    let table = c.in_ok-table.table in
    let front = c.in_ok-front.front in
    let slice = c.as_slice-2.result.now in
    let own = c.in_ok-own.ensures ∙ ap (λ (es : List Event). numbered table (map by_of es)) (c.items-events.ensures ∙ ap (λ (x : LifeReport). x.life.events) e) in
    let order : AreInOrder (bys_of table) = subst AreInOrder (sym (ap bys_of c.in_ok-table.ensures ∙ bys_are 0 r.steps)) (lines_order (flat_map lines_in r.steps) c.requires.1.0.order) in
    let told = told_by (judged_life g.at) in
    let marks = c.in_ok-front.ensures.snaps in
    let size : length slice ≡ length front.places.events = ap (λ (xs : List (Option SnapMark)). length xs) c.as_slice-2.ensures.value ∙ marks.size in
    let events : front.places.events ≡ take (length slice) g.at.report.life.events =
    c.in_ok-front.ensures.front.events_are ∙ ap (λ n. take n r.life.events) (sym size) ∙ ap (λ (x : LifeReport). take (length slice) x.life.events) e in
    let placed : AreSnapMarks r.life.base.next (take (length slice) g.at.report.life.events) told front.snaps.items = subst (λ (es : List Event). AreSnapMarks r.life.base.next es told front.snaps.items) events marks in
    let based : AreSnapMarks g.at.report.life.base.next (take (length slice) g.at.report.life.events) told front.snaps.items =
    subst (λ (x : LifeReport). AreSnapMarks x.life.base.next (take (length slice) g.at.report.life.events) told front.snaps.items) e placed in
    let sliced : AreSnapMarks g.at.report.life.base.next (take (length slice) g.at.report.life.events) told slice =
    subst (λ (xs : List (Option SnapMark)). AreSnapMarks g.at.report.life.base.next (take (length slice) g.at.report.life.events) told xs) (sym c.as_slice-2.ensures.value) based in
    (own, (order, (take_self (length slice) g.at.report.life.events, sliced)))

pub turns_of-requires-2 : goal.turns_of-requires-2
turns_of-requires-2 g c =
    let r = c.args.report.now in
    let front = c.in_ok-multi_places.ensures in
    let n = length c.in_ok-multi_places.multi_places.events in
    subst (λ (es : List MultiEvent). All (λ (e : MultiEvent). (multi_by e).session < 64) es) (sym (c.events-2.ensures.value ∙ front.events_are)) (few_front multi_by n r.life.multis (few_from multi_by r.life.multis c.requires.1.0.multis))

pub oks_of-requires : goal.oks_of-requires
oks_of-requires g c =
    let items = c.items-multis.result.now in
    ap (λ (n : Numbered). length n.numbers) c.in_ok-multi_own.ensures ∙ length-map (map multi_by items) (number_of c.in_ok-table.table) ∙ length-map items multi_by

pub late_of-requires : goal.late_of-requires
late_of-requires g c =
    let r = c.args.report.now in
    let j = judged_life (life_at g.at r) in
    let front = c.in_ok-multi_places.ensures in
    let items : c.items-multis.result.now ≡ r.life.multis = c.items-multis.ensures in
    let within : length c.in_ok-multi_places.multi_places.events ≤ length c.items-multis.result.now = subst (λ (es : List MultiEvent). length c.in_ok-multi_places.multi_places.events ≤ length es) (sym items) front.within in
    let numbers : c.in_ok-multi_own.multi_own.numbers ≡ map (number_of (lines_from 0 r.steps)) (map multi_by r.life.multis) =
    ap (λ (n : Numbered). n.numbers) c.in_ok-multi_own.ensures
    ∙ ap (λ (t : List LineAt). map (number_of t) (map multi_by c.items-multis.result.now)) c.in_ok-table.ensures
    ∙ ap (λ (es : List MultiEvent). map (number_of (lines_from 0 r.steps)) (map multi_by es)) items in
    let gave : c.as_slice-4.result.now ≡ map (λ (l : Line). is_multi_reply l.reply) (lines_of j) =
    c.as_slice-4.ensures.value ∙ c.in_ok-gave.ensures ∙ ap (λ (ss : List Step). map (λ (l : Line). is_multi_reply l.reply) (flat_map lines_in ss)) c.items-2.ensures in
    let oks = c.in_ok-oks.ensures ∙ oks_are j (lines_order (flat_map lines_in r.steps) c.requires.1.0.order) r.life.multis c.in_ok-multi_own.multi_own.numbers c.as_slice-4.result.now numbers gave in (
      within,
      c.as_slice-5.ensures.value ∙ oks
          ∙ ap (λ (x : LifeReport). map (λ (e : MultiEvent). gave_multi (lines_of (judged_life (life_at g.at x))) (multi_by e)) r.life.multis) c.requires.0
          ∙ ap (λ (es : List MultiEvent). map (λ (e : MultiEvent). gave_multi (lines_of (judged_life g.at)) (multi_by e)) es) (sym items),
    )

pub returns : goal.returns
returns g c =
    let r = c.args.report.now in
    let e = c.requires.0 in
    let numbered_r = c.requires.1.0 in
    let base = c.requires.1.1.0.0 in
    let j = judged_life (life_at g.at r) in
    let ls = flat_map lines_in r.steps in
    let table = lines_from 0 r.steps in
    let order = lines_order ls numbered_r.order in
    let h = c.in_ok-front.front in
    let front = c.in_ok-front.ensures.front in
    let m = c.in_ok-multi_places.multi_places in
    let multi_front = c.in_ok-multi_places.ensures in
    let events : c.items-events.result.now ≡ r.life.events = c.items-events.ensures in
    let multis : c.items-multis.result.now ≡ r.life.multis = c.items-multis.ensures in
    let recs : c.items-recs.result.now ≡ r.life.recs = c.items-recs.ensures in
    let own : c.in_ok-own.own ≡ numbered table (map by_of r.life.events) =
    c.in_ok-own.ensures ∙ ap (λ (t : List LineAt). numbered t (map by_of c.items-events.result.now)) c.in_ok-table.ensures ∙ ap (λ (es : List Event). numbered table (map by_of es)) events in
    let multi_own : c.in_ok-multi_own.multi_own ≡ numbered table (map multi_by r.life.multis) =
    c.in_ok-multi_own.ensures ∙ ap (λ (t : List LineAt). numbered t (map multi_by c.items-multis.result.now)) c.in_ok-table.ensures ∙ ap (λ (es : List MultiEvent). numbered table (map multi_by es)) multis in
    let slice = c.as_slice-2.result.now in
    let size : length slice ≡ length h.places.events = ap (λ (xs : List (Option SnapMark)). length xs) c.as_slice-2.ensures.value ∙ c.in_ok-front.ensures.snaps.size in
    let taken_events : take (length slice) g.at.report.life.events ≡ h.places.events =
    ap (λ (x : LifeReport). take (length slice) x.life.events) (sym e) ∙ ap (λ n. take n r.life.events) size ∙ sym front.events_are in
    let snaps : AreSnapMarks g.at.begun.counters.next h.places.events (told_by j) h.snaps.items =
    subst (λ (b : Counters). AreSnapMarks b.next h.places.events (told_by j) h.snaps.items) (sym base)
    (subst (λ (x : LifeReport). AreSnapMarks r.life.base.next h.places.events (told_by (judged_life (life_at g.at x))) h.snaps.items) (sym e) c.in_ok-front.ensures.snaps) in
    let turns : AreAllOwn (map by_of h.places.events) 64 c.in_ok-turns.turns.items =
    subst (λ (es : List Event). AreAllOwn (map by_of es) 64 c.in_ok-turns.turns.items) (c.events.ensures.value ∙ ap (λ (x : Replayed). x.events) c.replay.ensures) c.in_ok-turns.ensures in
    let marks : AreMarks h.places.events c.in_ok-marks.marks.items = subst (λ (x : Replayed). AreMarks x.events c.in_ok-marks.marks.items) c.replay-2.ensures c.in_ok-marks.ensures in
    let taken_1 : AreTakenByLines g.at.report.life.base.next h.places.events (bys_of c.in_ok-table.table) c.in_ok-taken.taken.items =
    subst (λ (es : List Event). AreTakenByLines g.at.report.life.base.next es (bys_of c.in_ok-table.table) c.in_ok-taken.taken.items) taken_events c.in_ok-taken.ensures in
    let taken_2 : AreTakenByLines g.at.report.life.base.next h.places.events (bys_of table) c.in_ok-taken.taken.items =
    subst (λ (t : List LineAt). AreTakenByLines g.at.report.life.base.next h.places.events (bys_of t) c.in_ok-taken.taken.items) c.in_ok-table.ensures taken_1 in
    let taken_3 : AreTakenByLines r.life.base.next h.places.events (bys_of table) c.in_ok-taken.taken.items =
    subst (λ (x : LifeReport). AreTakenByLines x.life.base.next h.places.events (bys_of table) c.in_ok-taken.taken.items) (sym e) taken_2 in
    let taken : AreTakenByLines g.at.begun.counters.next h.places.events (bys_of table) c.in_ok-taken.taken.items =
    subst (λ (b : Counters). AreTakenByLines b.next h.places.events (bys_of table) c.in_ok-taken.taken.items) (sym base) taken_3 in
    let starts : m.starts ≡ c.args.starts.now = multi_front.starts_are in
    let fronted : IsMultiFront g.at.begun.counters m.starts r.life.multis m =
    subst (λ (b : Counters). IsMultiFront b m.starts r.life.multis m) (sym base) (subst (λ (ss : List Start). IsMultiFront r.life.base ss r.life.multis m) (sym multi_front.starts_are) multi_front) in
    let multi_turns : AreAllOwn (map multi_by m.events) 64 c.in_ok-multi_turns.multi_turns.items =
    subst (λ (es : List MultiEvent). AreAllOwn (map multi_by es) 64 c.in_ok-multi_turns.multi_turns.items) c.events-2.ensures.value c.in_ok-multi_turns.ensures in
    let held : AreHeldLimits g.at.begun.counters m.events c.in_ok-held.held.items =
    subst (λ (b : Counters). AreHeldLimits b m.events c.in_ok-held.held.items) (multi_front.base_is ∙ sym base) c.in_ok-held.ensures in
    let numbers : c.in_ok-multi_own.multi_own.numbers ≡ map (number_of table) (map multi_by r.life.multis) = ap (λ (n : Numbered). n.numbers) multi_own in
    let gave : c.as_slice-4.result.now ≡ map (λ (l : Line). is_multi_reply l.reply) ls =
    c.as_slice-4.ensures.value ∙ c.in_ok-gave.ensures ∙ ap (λ (ss : List Step). map (λ (l : Line). is_multi_reply l.reply) (flat_map lines_in ss)) c.items-2.ensures in
    let oks = c.in_ok-oks.ensures ∙ oks_are j order r.life.multis c.in_ok-multi_own.multi_own.numbers c.as_slice-4.result.now numbers gave in
    let late_1 : (x : ℕ) → contains nat_cmp c.in_ok-late.late x ≡ list_any (is_ok_gen (gave_multi (lines_of (judged_life g.at))) x) (drop (length m.events) r.life.multis) =
    subst (λ (es : List MultiEvent). (x : ℕ) → contains nat_cmp c.in_ok-late.late x ≡ list_any (is_ok_gen (gave_multi (lines_of (judged_life g.at))) x) (drop (length m.events) es)) multis c.in_ok-late.ensures in
    let late : (x : ℕ) → contains nat_cmp c.in_ok-late.late x ≡ list_any (is_ok_gen (gave_multi (lines_of j)) x) (drop (length m.events) r.life.multis) =
    subst (λ (y : LifeReport). (x : ℕ) → contains nat_cmp c.in_ok-late.late x ≡ list_any (is_ok_gen (gave_multi (lines_of (judged_life (life_at g.at y)))) x) (drop (length m.events) r.life.multis)) (sym e) late_1 in
    known_at g.at r _ e (record {
      base = subst (λ (b : Counters). IsBase b) (sym base) c.requires.1.1.0.1;
      order = order;
      few = few_map line_by ls (few_from line_by ls numbered_r.lines);
      table = c.in_ok-table.ensures;
      events = own;
      multis = multi_own;
      counts = subst (λ (b : Counters). AreCounts b r.life.events r.life.multis c.in_ok-counts.counts) (sym base) c.in_ok-counts.ensures;
      front = subst (λ (b : Counters). IsFront b r.life.events h.places) (sym base) front;
      snaps = snaps;
      turns = turns;
      marks = marks;
      opened = c.in_ok-front.ensures.opened;
      taken = taken;
      multi_front = fronted;
      offsets = subst (λ (ss : List Start). (multi offset : ℕ) → Contains ss (start_of multi offset) ↔ ((members : List Member) × Contains g.at.begun.recorded (multi, offset, members))) (sym starts) c.requires.1.1.1.1;
      multi_turns = multi_turns;
      links = subst (λ (vs : List (Vec Own)). AreAllLinks vs c.in_ok-multi_links.multi_links.items) c.as_slice-3.ensures.value c.in_ok-multi_links.ensures;
      held = held;
      oks = oks;
      late = late;
      tops = subst (λ (rs : List Rec). (x : ℕ) → contains nat_cmp c.in_ok-tops.tops x ≡ list_any (is_commit_of x) rs) recs c.in_ok-tops.ensures;
      recorded = subst (λ (rs : List Rec). (x : ℕ) → IsTrue (contains nat_cmp c.in_ok-recorded.recorded x) ↔ IsRecorded rs x) recs c.in_ok-recorded.ensures;
      logs = c.in_ok-logs.ensures j refl;
      log_end = c.log_end_of-end.ensures j refl refl;
    })
