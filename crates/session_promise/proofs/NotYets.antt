-- No multixact is told as not yet there that was given with `ok` before, but by another session in the round.
use Rattle.std.proofs.Common.{Bool, Contains, List, Some, [], ap, append-nil, append_assoc, arith, drop, false, get_or, inl, inr, length, refl, subst, sym, take, take-append-drop, true, ℕ, ⊎_elim, ◌&&◌, ◌||◌, ◌%◌, ◌+◌, ◌++◌, ◌-◌, ◌<◌, ◌≡◌, ◌≢◌, ◌≤◌, ◌∙◌, ◌∷◌, ◌⊎◌}
use Rattle.std.specs.List.{flat_map, list_any, slice_get}
use Rattle.std.proofs.Math.Seq.{take-append-add}
use Rattle.std.proofs.lemmas.Bool.{false≢true}
use Rattle.std.proofs.lemmas.List.Sums.{fold_push}
use Rattle.std.proofs.lemmas.Option.{same_Some, slice_get-get_or}
use Rattle.notes.specs.Lists.{Begins, Grows, at}
use Rattle.tx_events.specs.Base.{IsBase}
use Rattle.tx_events.specs.Events.{same_by}
use Rattle.tx_events.specs.Ids.{low_half}
use Rattle.tx_events.specs.Multis.{AreLegalMultis, InBase, IsKnown, IsRaised, MultiMayCome, multi_by, next_made, oldest_multi, oldest_multi_after}
use Rattle.tx_events.specs.declared.event.By.{By}
use Rattle.tx_events.specs.declared.event.Event.{Event}
use Rattle.tx_events.specs.declared.multi.Member.{Member}
use Rattle.tx_events.specs.declared.multi.MultiEvent.{MultiEvent}
use Rattle.tx_events.specs.declared.multi.MultiEvent.TheVariants as multis
use Rattle.tx_events.specs.declared.record.Counters.{Counters}
use Rattle.tx_events.specs.declared.record.Rec.{Rec}
use Rattle.tx_events.specs.declared.record.Rec.TheVariants as records
use Rattle.tx_events.proofs.ListSteps.{le_or_over}
use Rattle.tx_events.proofs.Membership.{Has, by_end, contains_has, filter_has, has_any, has_contains, has_filter_map, place_has}
use Rattle.tx_events.proofs.OwnEvents.{same_by_refl}
use Rattle.tx_events.proofs.PlaceLemmas.{each_place_last, each_place_start}
use Rattle.tx_model.specs.Replies.{RoundSpan}
use Rattle.tx_model.specs.declared.command.Command.{Command}
use Rattle.tx_model.specs.declared.command.Command.TheVariants as commands
use Rattle.tx_model.specs.declared.reply.Reply.{Reply}
use Rattle.tx_model.specs.declared.reply.Reply.TheVariants as replies
use Rattle.tx_model.specs.declared.report.Line.{Line}
use Rattle.life_law.specs.MultiLines.{HasMultiEvents, IsNotYet}
use Rattle.life_law.specs.MultiPlaces.{Recorded, multis_of, recorded_by}
use Rattle.life_law.specs.MultiStanding.{gave_multi}
use Rattle.tx_core.specs.declared.entry.Entry.{Entry}
use Rattle.tx_core.specs.declared.entry.Start.{Start}
use Rattle.tx_core.specs.CutsFollow.{IsOffsetGone}
use Rattle.tx_core.specs.EngineInvariant.{EngineInvariant}
use Rattle.tx_core.specs.Entries.{history}
use Rattle.tx_core.specs.Locks.{offset_page, offsets_lock_of}
use Rattle.tx_core.specs.MultiEntries.{AreFewMultis, IsOffsetSet, multi_history, offsets_in}
use Rattle.tx_core.specs.OwnMultis.{IsMultiDone}
use Rattle.tx_core.proofs.Growing.{begins_flat_map, contains_begins, slice_get_begins, take_begins}
use Rattle.tx_core.proofs.Holding.{pages_held}
use Rattle.tx_core.proofs.MultiGiven.{gen_below}
use Rattle.tx_core.proofs.Nearness.{multis_are_legal}
use Rattle.tx_core.proofs.Once.{records_given}
use Rattle.tx_core.proofs.Rising.{multis_grow}
use Rattle.engine_parts.specs.MultiAnswers.{WasNotYet, recorded_in}
use Rattle.engine_parts.proofs.Leaving.{grows_then}
use Rattle.session_promise.specs.Promise.{IsInRound, IsMadeFor}
use Rattle.session_promise.proofs.MultiStaying.{few_multis}
use Rattle.session_promise.proofs.Sides.{and_both, same_is}

-- a multixact that the life began with is one of a record
recorded_is : (rec : Rec) (multi offset : ℕ) (members : List Member) → recorded_by rec ≡ Some (multi, offset, members) → rec ≡ records.Multi multi offset members
recorded_is (records.Multi m o ms) multi offset members e = let left : Recorded = (m, o, ms) in let right : Recorded = (multi, offset, members) in let same : left ≡ right = cc in λ j. records.Multi (same j).0 (same j).1 (same j).2
recorded_is rec multi offset members e = absurd cc

recorded_has : (start : Start) (multi offset : ℕ) (members : List Member) → Contains (recorded_in start) (multi, offset, members) → Contains start.recorded (records.Multi multi offset members)
recorded_has start multi offset members c =
    let f = has_filter_map recorded_by start.recorded (multi, offset, members) (contains_has (recorded_in start) (multi, offset, members) c) in
    has_contains start.recorded (records.Multi multi offset members) (subst (λ (r : Rec). Has start.recorded r) (recorded_is f.0 multi offset members f.2) f.1)

-- ---- the oldest multixact never falls

abbrev oldest : Counters → List MultiEvent → ℕ
oldest base h = oldest_multi base.oldest_multi h

up_by : (base : Counters) (h : List MultiEvent) (e : MultiEvent) → MultiMayCome base (InBase base) h e → oldest base h ≤ oldest_multi_after (oldest base h) e
up_by base h (multis.Raise by multi offset) rule = let r : IsRaised base (InBase base) h multi offset = rule in r.not_back
up_by base h (multis.Gen by multi offset members) rule = omega arith
up_by base h (multis.Hold by multi) rule = omega arith
up_by base h (multis.Unhold by multi) rule = omega arith

rises : (base : Counters) (h : List MultiEvent) (rest : List MultiEvent) → AreLegalMultis base (InBase base) (h ++ rest) → oldest base h ≤ oldest base (h ++ rest)
rises base h = by_end (λ rest. AreLegalMultis base (InBase base) (h ++ rest) → oldest base h ≤ oldest base (h ++ rest))
    (λ legal. let same : oldest base (h ++ []) ≡ oldest base h = ap (oldest base) (append-nil h) in omega (arith, same))
    (λ rest e before legal.
    let longer : (h ++ rest) ++ e ∷ [] ≡ h ++ (rest ++ e ∷ []) = append_assoc h rest (e ∷ []) in
    let all : AreLegalMultis base (InBase base) ((h ++ rest) ++ e ∷ []) = subst (AreLegalMultis base (InBase base)) (sym longer) legal in
    let low = before (each_place_start (MultiMayCome base (InBase base)) (h ++ rest) (e ∷ []) all) in
    let up = up_by base (h ++ rest) e (each_place_last (MultiMayCome base (InBase base)) (h ++ rest) e all) in
    let now : oldest base ((h ++ rest) ++ e ∷ []) ≡ oldest_multi_after (oldest base (h ++ rest)) e = fold_push oldest_multi_after base.oldest_multi (h ++ rest) e in
    subst (λ (t : List MultiEvent). oldest base h ≤ oldest base t) longer (omega (arith, low, up, now)))

-- ---- what was done where the command began

module _ (start : Start) (begun lists : List (List Entry)) (was : EngineInvariant start begun) (kept : EngineInvariant start lists) (is_base : IsBase start.base) (few : AreFewMultis lists)
    (by : By) (multi : ℕ) (n : WasNotYet start begun lists by multi) (unheard : (e : MultiEvent) → Contains (multi_history begun) e → multi_by e ≡ by → ⊥) where
  abbrev h : List MultiEvent
  h = multi_history begun

  abbrev all : List MultiEvent
  all = multi_history lists

  abbrev pin : MultiEvent
  pin = multis.Hold by n.asked

  grows : Grows begun lists
  grows = grows_then begun n.seen lists n.from n.upto

  grown : Begins h all
  grown = multis_grow begun lists grows

  pinned_at : slice_get all n.pinned ≡ Some pin
  pinned_at = slice_get_begins (multi_history n.seen) all n.pinned pin (multis_grow n.seen lists n.upto) n.stands

  -- the pin is the command's, so it came later
  behind : length h ≤ n.pinned
  behind = ⊎_elim (λ up. up) (λ below. absurd (before below)) (le_or_over (length h) n.pinned)
    where
      before : n.pinned < length h → ⊥
      before below =
          let there = slice_get-get_or h n.pinned pin below in
          let same : get_or h n.pinned pin ≡ pin = same_Some _ pin (sym (slice_get_begins h all n.pinned (get_or h n.pinned pin) grown there) ∙ pinned_at) in
          unheard pin (has_contains h pin (subst (λ (x : MultiEvent). Has h x) same (place_has h n.pinned (get_or h n.pinned pin) there))) refl

  abbrev front : List MultiEvent
  front = take n.pinned all

  legal : AreLegalMultis start.base (InBase start.base) all
  legal = multis_are_legal start lists kept

  front_legal : AreLegalMultis start.base (InBase start.base) front
  front_legal = each_place_start (MultiMayCome start.base (InBase start.base)) front (drop n.pinned all) (subst (AreLegalMultis start.base (InBase start.base)) (sym (take-append-drop n.pinned all)) legal)

  abbrev between : List MultiEvent
  between = take (n.pinned - length h) grown.0

  front_is : front ≡ h ++ between
  front_is =
      let up = behind in
      let place : n.pinned ≡ length h + (n.pinned - length h) = omega (arith, up) in
      (λ j. take (place j) (sym grown.1 j)) ∙ take-append-add h grown.0 (n.pinned - length h)

  -- so no multixact before the announced oldest one is told
  not_older : oldest start.base h ≤ multi
  not_older =
      let known : IsKnown start.base front n.asked = legal n.pinned pin pinned_at in
      let low = known.not_older in
      let asked = n.from_asked in
      let up = rises start.base h between (subst (AreLegalMultis start.base (InBase start.base)) front_is front_legal) in
      let same : oldest start.base front ≡ oldest start.base (h ++ between) = ap (oldest start.base) front_is in
      omega (arith, low, asked, up, same)

  not_set : (offset : ℕ) → IsOffsetSet start begun multi offset → ⊥
  not_set offset s =
      let lock = offsets_lock_of start multi in
      n.unset offset (s.0, contains_begins (flat_map offsets_in (at begun lock)) (flat_map offsets_in (at n.seen lock)) _ (begins_flat_map offsets_in (at begun lock) (at n.seen lock) (n.from.begins lock)) s.1)

  pub not_done : (session offset : ℕ) (members : List Member) → IsMultiDone start begun session multi offset members → ⊥
  not_done session offset members d = ⊎_elim (not_set offset) not_gone d.begins
    where
      not_gone : IsOffsetGone (at begun (offsets_lock_of start multi)) multi → ⊥
      not_gone gone =
          let gen = (records_given start begun session was).multi multi offset members d.appended in
          let low = gen_below start.base gen.0 multi offset members h (multis_are_legal start begun was) (contains_has h (multis.Gen gen.0 multi offset members) gen.2) in
          let held = (pages_held start begun (offset_page (low_half multi) % start.banks) was is_base).offsets (few_multis begun lists grows few) multi not_older (omega (arith, low)) in
          false≢true (sym (held.later gone.0 gone.1 gone.2 gone.3) ∙ gone.4)

-- ---- whose it is

abbrev is_given : Reply → Bool
is_given (replies.Multi multi offset warn) = true
is_given reply = false

gave_is : (lines : List Line) (by : By) → gave_multi lines by ≡ list_any (λ l. same_by l.by by && is_given l.reply) lines
gave_is [] by = refl
gave_is (l ∷ lines) by = ap (λ b. (same_by l.by by && is_given l.reply) || b) (gave_is lines by)

-- an event of a command that was answered so gives the multixact that it tells
gen_is : (base : Counters) (hist : List Event) (round : RoundSpan) (all : List MultiEvent) (by giver : By) (command : Command) (told offset : ℕ) (warn : Bool) (multi at_offset : ℕ) (members : List Member) (es : List MultiEvent)
    → HasMultiEvents base hist round all by command (replies.Multi told offset warn) es → Has es (multis.Gen giver multi at_offset members) → told ≡ multi
gen_is base hist round all by giver (commands.Multi pairs) told offset warn multi at_offset members es e k =
    let there : Has (multis.Gen by told offset e.0.0 ∷ []) (multis.Gen giver multi at_offset members) = subst (λ (x : List MultiEvent). Has x (multis.Gen giver multi at_offset members)) e.0.1 k in
    ⊎_elim (λ (q : multis.Gen by told offset e.0.0 ≡ multis.Gen giver multi at_offset members). cc) (λ z. absurd z) there
gen_is base hist round all by giver command told offset warn multi at_offset members es e k = absurd (subst (λ (x : List MultiEvent). Has x (multis.Gen giver multi at_offset members)) e k)

module _ (start : Start) (begun lists : List (List Entry)) (was : EngineInvariant start begun) (kept : EngineInvariant start lists) (is_base : IsBase start.base) (few : AreFewMultis lists)
    (by : By) (unheard : (e : MultiEvent) → Contains (multi_history begun) e → multi_by e ≡ by → ⊥) (span : RoundSpan) (before : List Line)
    (events : (l : Line) → Has before l → (round : RoundSpan) × HasMultiEvents start.base (history lists) round (multi_history lists) l.by l.command l.reply (multis_of l.by (multi_history lists)))
    (done : (l : Line) → Has before l → ((l.by.session ≢ by.session) × IsInRound multi_by (multi_history lists) span l.by) ⊎ IsMadeFor start begun l.by.session l.reply) where
  -- an earlier line that gave it
  module _ (multi : ℕ) (n : WasNotYet start begun lists by multi) (place offset : ℕ) (members : List Member) (giver : By)
      (stands : slice_get (multi_history lists) place ≡ Some (multis.Gen giver multi offset members)) where
    abbrev Allowed : Type 0
    Allowed = (giver.session ≢ by.session) × (span.from ≤ place) × (place < span.to)

    gave : (l : Line) → Has before l → l.by ≡ giver → is_given l.reply ≡ true → Allowed
    gave l k own given = step l.reply given (events l k).1 (done l k)
      where
        among : Has (multis_of l.by (multi_history lists)) (multis.Gen giver multi offset members)
        among = filter_has (λ (e : MultiEvent). same_by (multi_by e) l.by) (multi_history lists) (multis.Gen giver multi offset members) (place_has (multi_history lists) place _ stands) (ap (same_by giver) own ∙ same_by_refl giver)

        step : (reply : Reply) → is_given reply ≡ true → HasMultiEvents start.base (history lists) (events l k).0 (multi_history lists) l.by l.command reply (multis_of l.by (multi_history lists))
            → ((l.by.session ≢ by.session) × IsInRound multi_by (multi_history lists) span l.by) ⊎ IsMadeFor start begun l.by.session reply → Allowed
        step (replies.Multi told at_offset warn) g e d =
            let same : told ≡ multi = gen_is start.base (history lists) (events l k).0 (multi_history lists) l.by giver l.command told at_offset warn multi offset members (multis_of l.by (multi_history lists)) e among in
            ⊎_elim
            (λ (o : (l.by.session ≢ by.session) × IsInRound multi_by (multi_history lists) span l.by).
            let inside = o.1 place (multis.Gen giver multi offset members) stands (sym own) in
            (λ q. o.0 (ap (λ (b : By). b.session) own ∙ q), inside.0, inside.1))
            (λ (m : (ms : List Member) × IsMultiDone start begun l.by.session told at_offset ms).
            absurd (not_done start begun lists was kept is_base few by multi n unheard l.by.session at_offset m.0 (subst (λ x. IsMultiDone start begun l.by.session x at_offset m.0) same m.1)))
            d
        step reply g e d = absurd (false≢true g)

    whose : Allowed ⊎ (gave_multi before giver ≡ false)
    whose = step (gave_multi before giver) refl
      where
        step : (b : Bool) → gave_multi before giver ≡ b → Allowed ⊎ (gave_multi before giver ≡ false)
        step true q =
            let f = has_any (λ (l : Line). same_by l.by giver && is_given l.reply) before (sym (gave_is before giver) ∙ q) in
            let both = and_both (same_by f.0.by giver) (is_given f.0.reply) f.2 in
            inl (gave f.0 f.1 (same_is f.0.by giver both.0) both.1)
        step false q = inr q

  pub not_yet : (multi : ℕ) → WasNotYet start begun lists by multi → IsNotYet start.base (recorded_in start) (multi_history lists) span (gave_multi before) by multi
  not_yet multi n =
      let b = multis_grow n.seen lists n.upto in record {
        pinned = n.pinned;
        asked = n.asked;
        stands = slice_get_begins (multi_history n.seen) (multi_history lists) n.pinned (multis.Hold by n.asked) b n.stands;
        below = subst (λ (h : List MultiEvent). multi < next_made start.base.multi h) (sym (take_begins (multi_history n.seen) (multi_history lists) n.pinned (multis.Hold by n.asked) b n.stands)) n.below;
        whose = whose multi n;
        unrecorded = λ low offset members c. n.unrecorded low offset members (recorded_has start multi offset members c);
      }
