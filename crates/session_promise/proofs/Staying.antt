-- A session promises the same while others go on.
use Rattle.std.proofs.Common.{Bool, ◌≡◌, ◌≢◌, ℕ, ◌+◌, ◌<◌, ◌≤◌, List, [], ◌∷◌, ◌++◌, Contains, IsTrue, ap, sym, subst, ◌∙◌, arith, length, eq-eqb}
use Rattle.std.specs.List.{AllByRecursion, count_by}
use Rattle.std.proofs.lemmas.List.{append_cancel_left, length-append, length-map}
use Rattle.notes.specs.Lists.{Knows, at}
use Rattle.tx_events.specs.declared.event.Event.{Event}
use Rattle.tx_events.specs.declared.multi.MultiEvent.{MultiEvent}
use Rattle.tx_events.specs.declared.multi.MultiEvent.TheVariants as multis
use Rattle.tx_events.specs.Multis.{made, multi_by}
use Rattle.tx_events.specs.Events.{by_of, given, is_of}
use Rattle.tx_events.proofs.ListSteps.{all_weaker}
use Rattle.tx_events.proofs.Membership.{Has, all_from, contains_has, filter_has, has_contains, has_filter}
use Rattle.tx_model.specs.declared.report.Line.{Line}
use Rattle.tx_model.specs.Lines.{has_line, stance}
use Rattle.tx_model.specs.Stance.{lacking}
use Rattle.tx_core.specs.declared.entry.Entry.{Entry}
use Rattle.tx_core.specs.declared.entry.Kind.TheVariants as kinds
use Rattle.tx_core.specs.declared.entry.Start.{Start}
use Rattle.tx_core.specs.EngineInvariant.{EngineInvariant}
use Rattle.tx_core.specs.Entries.{history, session_of}
use Rattle.tx_core.specs.Locks.{log_lock}
use Rattle.life_law.specs.MultiPlaces.{has_multi_line}
use Rattle.life_law.specs.MultiStanding.{unfinished}
use Rattle.life_law.specs.Pending.{pending}
use Rattle.engine_parts.specs.Makings.{IsToldMaking}
use Rattle.tx_core.proofs.Lasting.{history_grows}
use Rattle.tx_core.proofs.OwnMultis.{other_multis, own_multis_stay}
use Rattle.tx_core.proofs.Rising.{multis_grow}
use Rattle.tx_core.specs.MultiEntries.{multi_history}
use Rattle.tx_core.specs.OwnMultis.{is_multi_of}
use Rattle.tx_core.proofs.Stepping.{own_seen}
use Rattle.engine_parts.specs.declared.session.Session.{Session}
use Rattle.engine_parts.specs.Sessions.{stance_of}
use Rattle.engine_parts.proofs.Going.{own_events, rest_of}
use Rattle.session_promise.specs.Told.{Told, between, lines_of, place_of, told_in}
use Rattle.session_promise.specs.Promise.{Promise, PromiseStays, SaysLogFault, is_made_level, is_made_multi, recs_of}
use Rattle.session_promise.proofs.Growing.{all_lines_of, each_grows, IsUpTo, making_same, pending_same, stance_same}
use Rattle.session_promise.proofs.Settling.{settled_of, up_to, within_all}
use Rattle.session_promise.proofs.Widening.{AreWider, IsWithin, wider_both, wider_in, wider_lines, wider_same}
use Rattle.session_promise.proofs.MultiStaying.{few_multis}

-- where the lines of each round stand as before, or further
pub stays_wider : (tells : Bool) (start : Start) (lists more : List (List Entry)) (n : ℕ) (told wider : List Told) (s : Session) → EngineInvariant start more → Knows session_of n lists more → AreWider (place_of more) told wider → Promise tells start lists n told s → Promise tells start more n wider s
stays_wider tells start lists more n told wider s k knows w p =
    let r = rest_of start n lists more k knows in
    let later : (rest : List Event) → history lists ++ rest ≡ history more → AllByRecursion (λ e. (by_of e).session ≡ n → length told < (by_of e).command) rest =
    λ rest q. subst (AllByRecursion (λ e. (by_of e).session ≡ n → length told < (by_of e).command)) (append_cancel_left (history lists) r.rest rest (r.split ∙ sym q))
    (all_weaker (λ (e : Event). (by_of e).session ≢ n) (λ e. (by_of e).session ≡ n → length told < (by_of e).command) (λ e f s. absurd (f s)) r.rest r.beside) in
    let o = other_multis start n lists more k knows in
    let multi_later : (rest : List MultiEvent) → multi_history lists ++ rest ≡ multi_history more → AllByRecursion (λ e. (multi_by e).session ≡ n → length told < (multi_by e).command) rest =
    λ rest q. all_from (λ e. (multi_by e).session ≡ n → length told < (multi_by e).command) rest (λ e h own. absurd (o.others e (subst (λ (t : List MultiEvent). Has t e) (append_cancel_left (multi_history lists) rest o.rest (q ∙ sym o.split)) h) own)) in
    let mine_multis = own_multis_stay start n lists more k knows in
    let up = up_to tells start n lists told p.each in
    let lines_up = all_lines_of (IsUpTo n (length told)) told up in
    let settled = settled_of tells start n lists more told k knows.grows p.each in
    let same = wider_lines (place_of more) told wider w in
    let mine = own_events start n lists more k knows in
    record {
      each = each_grows tells start n (length told) lists more knows.grows later multi_later told wider w up settled p.each;
      no_other = λ e c own.
          let there = has_filter (is_of n) (history lists) e (subst (λ (t : List Event). Has t e) mine (filter_has (is_of n) (history more) e (contains_has (history more) e c) (eq-eqb (by_of e).session n own))) in
          subst (λ ls. IsTrue (has_line ls e)) (sym same) (p.no_other e (has_contains (history lists) e there.0) own);
      no_multi = λ e c own.
          let there = has_filter (is_multi_of n) (multi_history lists) e (subst (λ (t : List MultiEvent). Has t e) mine_multis (filter_has (is_multi_of n) (multi_history more) e (contains_has (multi_history more) e c) (eq-eqb (multi_by e).session n own))) in
          subst (λ ls. IsTrue (has_multi_line ls e)) (sym same) (p.no_multi e (has_contains (multi_history lists) e there.0) own);
      stance_is = ap (λ ls. stance (history more) ls n) same ∙ (stance_same tells start n (length told) lists more knows.grows later multi_later (lines_of told) lines_up ∙ p.stance_is);
      pending_is = ap (λ ls. pending (recs_of more) (history more) ls n) same ∙ (pending_same tells start n (length told) lists more knows.grows later multi_later (lines_of told) lines_up settled ∙ p.pending_is);
      making = subst (λ u. IsToldMaking u s.making) (sym (ap (λ ls. unfinished (multi_history more) ls n) same ∙ making_same tells start n (length told) lists more knows.grows later multi_later (lines_of told) lines_up)) p.making;
      count = p.count ∙ (sym (length-map told (λ (t : Told). t.line)) ∙ (ap length (sym same) ∙ length-map wider (λ (t : Told). t.line)));
      ids = subst (λ (z : List Event × List Line). length (given z.0) + lacking (stance_of s).levels ≤ count_by is_made_level z.1) (λ j. (sym mine j, sym same j)) p.ids;
      raises = λ t few by multi offset own c.
          let e : MultiEvent = multis.Raise by multi offset in
          let there = has_filter (is_multi_of n) (multi_history lists) e (subst (λ (h : List MultiEvent). Has h e) mine_multis (filter_has (is_multi_of n) (multi_history more) e (contains_has (multi_history more) e c) (eq-eqb by.session n own))) in
          p.raises t (few_multis lists more knows.grows few) by multi offset own (has_contains (multi_history lists) e there.0);
      gens = subst (λ (z : List MultiEvent × List Line). length (made z.0) ≤ count_by is_made_multi z.1) (λ j. (sym mine_multis j, sym same j)) p.gens;
      faults = λ by asked count own c.
          subst (λ ls. SaysLogFault ls by) (sym same) (p.faults by asked count own (seen_log (record { by = by; kind = kinds.LogFault asked count }) own c));
      ends = λ by rec own c. p.ends by rec own (seen_log (record { by = by; kind = kinds.Append rec }) own c);
    }
  where
    seen_log : (e : Entry) → e.by.session ≡ n → Contains (at more log_lock) e → Contains (at lists log_lock) e
    seen_log e own c = has_contains (at lists log_lock) e (own_seen n lists more log_lock e knows (contains_has (at more log_lock) e c) own)

pub promise_stays : PromiseStays
promise_stays tells start lists more n past from to later lines s k knows wide within p =
    let told : List Told = past ++ told_in (between from to) lines in
    let low = within_past past (within_all tells start n lists told p.each) in
    let grown = history_grows lists more knows.grows in
    let multi_grown = multis_grow lists more knows.grows in
    let longer : length (history lists) + length grown.0 ≡ length (history more) = sym (length-append (history lists) grown.0) ∙ ap length grown.1 in
    let multi_longer : length (multi_history lists) + length multi_grown.0 ≡ length (multi_history more) = sym (length-append (multi_history lists) multi_grown.0) ∙ ap length multi_grown.1 in
    stays_wider tells start lists more n told (past ++ told_in (between from later) lines) s k knows
    (wider_both (place_of more) past past (told_in (between from to) lines) (told_in (between from later) lines)
    (wider_same (place_of more) past (all_weaker (IsWithin (place_of lists)) (IsWithin (place_of more)) (λ t f. (omega (arith, f.0, longer), omega (arith, f.1, multi_longer))) past low))
    (wider_in (place_of more) from to later lines wide within))
    p
  where
    within_past : (front : List Told) → AllByRecursion (IsWithin (place_of lists)) (front ++ told_in (between from to) lines) → AllByRecursion (IsWithin (place_of lists)) front
    within_past [] a = tt
    within_past (t ∷ front) a = (a.0, within_past front a.1)
