-- What one critical section leaves, by the entry with which its lock was left.
use Rattle.std.proofs.Common.{⊎_elim, sym, Contains, None, Option, Some, ◌≡◌, ℕ, ◌<◌, List, [], ◌∷◌, ◌++◌, ap, subst, ◌∙◌, length, arith}
use Rattle.notes.specs.Lists.{Grows, Knows, at}
use Rattle.notes.proofs.Growing.{at_here}
use Rattle.tx_events.specs.declared.event.By.{By}
use Rattle.tx_events.specs.declared.event.Event.{Event}
use Rattle.tx_events.specs.Events.{by_of}
use Rattle.tx_core.specs.declared.entry.Entry.{Entry}
use Rattle.tx_core.specs.declared.entry.Kind.{Kind}
use Rattle.tx_core.specs.declared.entry.Kind.TheVariants as kinds
use Rattle.tx_core.specs.declared.entry.Start.{Start}
use Rattle.tx_core.specs.Entries.{asks_in, event_of, history, session_of}
use Rattle.tx_core.specs.Locks.{log_lock, oldest_word, proc_lock}
use Rattle.tx_core.specs.MultiEntries.{multi_of}
use Rattle.engine_parts.specs.declared.session.Session.{Session}
use Rattle.engine_parts.specs.declared.session.Stage.{Stage}
use Rattle.engine_parts.specs.Adding.{Adds}
use Rattle.engine_parts.specs.Answers.{MetFault, MetLogFault}
use Rattle.engine_parts.specs.Faults.{fault_by, flush_fault_by}
use Rattle.engine_parts.specs.Holds.{Enters, EntersProc, Knowledge, Leaves, ProcSection, Section}
use Rattle.engine_parts.specs.Sessions.{IsAt, IsReady, MayCall, by_at, inner_id}
use Rattle.engine_parts.specs.Stages.{AsksNothing, IsInStage}
use Rattle.engine_parts.specs.Steps.{GoesOn, WentOn}
use Rattle.engine_parts.proofs.Adding.{adds_then, adds_wider, section_added}
use Rattle.engine_parts.proofs.Going.{Rest, at_on, rest_of, stage_later}
use Rattle.engine_parts.proofs.Leaving.{asks_nothing, grown_left, grows_then, stands_left}
use Rattle.engine_parts.proofs.May.{met_fault, met_log_fault}
use Rattle.engine_parts.proofs.Publishing.{learned_adds, learned_went, learns_self, published_adds, published_at, published_history, published_went}
use Rattle.engine_parts.proofs.Stepping.{goes_quiet, went_event, went_quiet, went_then}

-- the lock was entered, and left with this entry
pub section_of : (start : Start) (v u w : Knowledge) (lock : ℕ) (e e' : Entry) → Enters start lock v u → e ≡ e' → Leaves start lock e u w → Section start lock e' v w
section_of start v u w lock e e' entered is left = record { within = u; enters = entered; leaves = subst (λ (f : Entry). Leaves start lock f u w) is left }

-- within a critical section the session is at the same command
pub same_command : (n n' : ℕ) (s s' : Session) → n' ≡ n → s' ≡ s → by_at n' s'.levels.commands ≡ by_at n s.levels.commands
same_command n n' s s' number same = λ j. by_at (number j) (same j).levels.commands

module _ (start : Start) (v w : Knowledge) (lock : ℕ) (e : Entry) (s : Section start lock e v w) (inside : lock < length v.seen) where
  within_is : lock < length s.within.seen
  within_is = let long = s.enters.learns.long in omega arith

  -- the entry stands
  pub section_stands : Contains (at w.seen lock) e
  section_stands = stands_left start s.within w lock e within_is s.leaves

  -- the lists went on
  pub section_grows : Grows v.seen w.seen
  section_grows = grows_then v.seen s.within.seen w.seen s.enters.learns.knows.grows (grown_left start s.within w lock e within_is s.leaves)

  -- the lock's list is the one that was found, and the entry
  pub section_list : at w.seen lock ≡ at s.within.seen lock ++ e ∷ []
  section_list = ap (λ (z : List (List Entry)). at z lock) s.leaves.seen ∙ at_here s.within.seen lock e within_is

  -- an entry without an event
  pub section_goes : (n : ℕ) (t : Session) → IsAt start v n t → event_of e ≡ None → multi_of e ≡ None → GoesOn n [] v.seen w.seen
  section_goes n t a none no_multi = goes_quiet start v s.within w n lock t e a s.enters.kept s.enters.learns inside none no_multi s.leaves

  -- what the command added
  pub section_adds : (by : By) (t : Session) (May : ℕ → Kind → Type 0) → IsAt start v by.session t → e.by ≡ by → May lock e.kind → Adds by May v.seen w.seen
  section_adds by t May a mine may = section_added start v s.within w lock e by May a.name s.enters.learns inside s.leaves mine may

  -- and without a state asked for
  pub section_went : (n : ℕ) (t : Session) → IsAt start v n t → event_of e ≡ None → multi_of e ≡ None → asks_in e ≡ [] → WentOn n [] v.seen w.seen
  section_went n t a none no_multi asks = went_quiet start v s.within w n lock t e a s.enters.kept s.enters.learns inside none no_multi asks s.leaves

-- so in one of the three locks that come before the banks'
pub shared_adds : (start : Start) (v w : Knowledge) (lock : ℕ) (e : Entry) (by : By) (t : Session) (May : ℕ → Kind → Type 0) → lock < 3 → IsAt start v by.session t → Section start lock e v w → e.by ≡ by → May lock e.kind → Adds by May v.seen w.seen
shared_adds start v w lock e by t May shared a s mine may = section_adds start v w lock e s (let f = a.wide in omega arith) by t May a mine may

-- ---- the ProcArray

-- the lock was entered, and left with this entry
pub proc_section_of : (start : Start) (v u w : Knowledge) (e e' : Entry) → EntersProc start e'.by v u → e ≡ e' → Leaves start proc_lock e u w → ProcSection start e' v w
proc_section_of start v u w e e' entered is left = record { within = u; enters = entered; leaves = subst (λ (f : Entry). Leaves start proc_lock f u w) is left }

-- up to its entry the session goes on without an event
module _ (start : Start) (v u : Knowledge) (n : ℕ) (s : Session) (a : IsAt start v n s) (e : EntersProc start (by_at n s.levels.commands) v u) where
  at_found : IsAt start e.found n s
  at_found = at_on start v e.found n s a e.enters.learns e.enters.kept

  found_went : WentOn n [] v.seen e.found.seen
  found_went = learned_went start v e.found n s a e.enters.learns e.enters.kept

  pub entered_at : IsAt start u n s
  entered_at = ⊎_elim (λ (same : u ≡ e.found). subst (λ (z : Knowledge). IsAt start z n s) (sym same) at_found) (λ p. published_at start e.found u n s at_found p) e.publishes

  pub entered_went : WentOn n [] v.seen u.seen
  entered_went = ⊎_elim
      (λ (same : u ≡ e.found). subst (λ (z : Knowledge). WentOn n [] v.seen z.seen) (sym same) found_went)
      (λ p. went_then n [] [] v.seen e.found.seen u.seen found_went (published_went start e.found u n s at_found p))
      e.publishes

  pub entered_grows : Grows v.seen u.seen
  entered_grows = entered_went.on.grows

  -- what the history has more is of others
  pub entered_rest : Rest n (history v.seen) (history u.seen)
  entered_rest =
      let knows : Knows session_of n v.seen e.found.seen = subst (λ z. Knows session_of z v.seen e.found.seen) a.name e.enters.learns.knows in
      let same : history u.seen ≡ history e.found.seen = ⊎_elim (λ (q : u ≡ e.found). ap (λ (z : Knowledge). history z.seen) q) (λ p. published_history start e.found u n s at_found p) e.publishes in
      subst (Rest n (history v.seen)) (sym same) (rest_of start n v.seen e.found.seen e.enters.kept knows)

  pub entered_adds : (May : ℕ → Kind → Type 0) → ((number : ℕ) → May (oldest_word start) (kinds.Post number)) → Adds (by_at n s.levels.commands) May v.seen u.seen
  entered_adds May posts =
      let by : By = by_at n s.levels.commands in
      let none : Adds by May v.seen e.found.seen = adds_wider by (λ lock kind. ⊥) May v.seen e.found.seen (λ lock kind no. absurd no) (learned_adds v e.found by a.name e.enters.learns) in
      ⊎_elim
      (λ (same : u ≡ e.found). subst (λ (z : Knowledge). Adds by May v.seen z.seen) (sym same) none)
      (λ p. adds_then by May v.seen e.found.seen u.seen none (published_adds start e.found u n s at_found p May posts))
      e.publishes

-- without an event
pub proc_quiet : (start : Start) (v u w : Knowledge) (n : ℕ) (s : Session) (f : Entry) → IsAt start v n s → EntersProc start (by_at n s.levels.commands) v u → event_of f ≡ None → multi_of f ≡ None → asks_in f ≡ [] → Leaves start proc_lock f u w → WentOn n [] v.seen w.seen
proc_quiet start v u w n s f a e none no_multi asks left =
    let b = entered_at start v u n s a e in let wide = b.wide in
    went_then n [] [] v.seen u.seen w.seen (entered_went start v u n s a e) (went_quiet start u u w n proc_lock s f b b.kept (learns_self u) (omega arith) none no_multi asks left)

-- with one
pub proc_event : (start : Start) (v u w : Knowledge) (by : By) (s : Session) (f : Entry) (event : Event) → IsAt start v by.session s → EntersProc start (by_at by.session s.levels.commands) v u → event_of f ≡ Some event → by_of event ≡ by → asks_in f ≡ [] → Leaves start proc_lock f u w → WentOn by.session (event ∷ []) v.seen w.seen
proc_event start v u w by s f event a e is own asks left =
    let b = entered_at start v u by.session s a e in
    went_then by.session [] (event ∷ []) v.seen u.seen w.seen (entered_went start v u by.session s a e) (went_event start u u w by s f event b b.kept (learns_self u) is own asks left)

-- what was added
pub proc_added : (start : Start) (v u w : Knowledge) (n : ℕ) (s : Session) (f : Entry) (May : ℕ → Kind → Type 0) → IsAt start v n s → EntersProc start (by_at n s.levels.commands) v u → ((number : ℕ) → May (oldest_word start) (kinds.Post number)) → Leaves start proc_lock f u w → f.by ≡ by_at n s.levels.commands → May proc_lock f.kind → Adds (by_at n s.levels.commands) May v.seen w.seen
proc_added start v u w n s f May a e posts left mine may =
    let b = entered_at start v u n s a e in let wide = b.wide in
    adds_then (by_at n s.levels.commands) May v.seen u.seen w.seen (entered_adds start v u n s a e May posts) (section_added start u u w proc_lock f (by_at n s.levels.commands) May b.name (learns_self u) (omega arith) left mine may)

-- a call's session at its end, where its one entry asked for no state and it has the same open ids and stage
pub proc_call : (start : Start) (v u w : Knowledge) (n n' : ℕ) (s s' : Session) (f : Entry) → MayCall start v n s → EntersProc start (by_at n s.levels.commands) v u → Leaves start proc_lock f u w → asks_in f ≡ []
    → inner_id s' ≡ inner_id s → s'.levels.open_ids.items ≡ s.levels.open_ids.items → s'.stage ≡ s.stage → n' ≡ n → IsReady start w n' s' → MayCall start w n' s'
proc_call start v u w n n' s s' f m e left none inner opened stage number r =
    let b = entered_at start v u n s m.ready.at e in let wide = b.wide in
    let before = entered_went start v u n s m.ready.at e in
    let asks : AsksNothing n u.seen w.seen = asks_nothing start u u w n proc_lock f b.name (learns_self u) (omega arith) left none in
    let grown : Grows v.seen w.seen = grows_then v.seen u.seen w.seen before.on.grows (grown_left start u w proc_lock f (omega arith) left) in
    record {
      ready = r;
      stage = subst (λ (z : ((Option ℕ × List ℕ) × Stage) × ℕ). IsInStage start w.seen z.1 z.0.0.0 z.0.0.1 z.0.1) (λ j. (((sym inner j, sym opened j), sym stage j), sym number j))
          (stage_later start v.seen w.seen n (inner_id s) s.levels.open_ids.items s.stage grown (λ id state asked. before.asks id state (asks id state asked)) m.stage);
    }

module _ (start : Start) (v w : Knowledge) (n : ℕ) (t : Session) (e : Entry) (a : IsAt start v n t) (mine : e.by ≡ by_at n t.levels.commands) (s : ProcSection start e v w) where
  entered_by : EntersProc start (by_at n t.levels.commands) v s.within
  entered_by = subst (λ z. EntersProc start z v s.within) mine s.enters

  -- the lists went on
  pub proc_section_went : event_of e ≡ None → multi_of e ≡ None → asks_in e ≡ [] → WentOn n [] v.seen w.seen
  proc_section_went none no_multi asks = proc_quiet start v s.within w n t e a entered_by none no_multi asks s.leaves

  pub proc_section_event : (event : Event) → event_of e ≡ Some event → by_of event ≡ by_at n t.levels.commands → asks_in e ≡ [] → WentOn n (event ∷ []) v.seen w.seen
  proc_section_event event is own asks = proc_event start v s.within w (by_at n t.levels.commands) t e event a entered_by is own asks s.leaves

  -- what the command added
  pub proc_section_adds : (May : ℕ → Kind → Type 0) → ((number : ℕ) → May (oldest_word start) (kinds.Post number)) → May proc_lock e.kind → Adds (by_at n t.levels.commands) May v.seen w.seen
  proc_section_adds May posts may = proc_added start v s.within w n t e May a entered_by posts s.leaves mine may

-- a fault of a bank
pub section_met : (start : Start) (v w : Knowledge) (lock : ℕ) (by : By) (count : ℕ) → lock < length v.seen → Section start lock (fault_by by count) v w → MetFault w.seen lock by
section_met start v w lock by count inside s = met_fault start s.within w lock by count (let long = s.enters.learns.long in omega arith) s.leaves

-- and of the log
pub section_met_log : (start : Start) (v w : Knowledge) (by : By) (count : ℕ) → log_lock < length v.seen → Section start log_lock (flush_fault_by by count) v w → MetLogFault w.seen by
section_met_log start v w by count inside s = met_log_fault start s.within w by count (let long = s.enters.learns.long in omega arith) s.leaves
