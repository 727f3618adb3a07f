-- One life, entry by entry: a transaction takes an id and commits it, another session's snapshot sees it. The laws carry the
-- invariant from the empty lists to the end, so what they ask for can be had.
use Rattle.std.proofs.Common.{Contains, List, [], arith, false, inl, refl, subst, suc, take, true, zero, ℕ, ⊎_elim, ◌<◌, ◌==◌, ◌∷◌, ◌≡◌, ◌≤◌}
use Rattle.std.proofs.lemmas.List.Elements.{All-from_recursion}
use Rattle.std.specs.List.{AllByRecursion, filter}
use Rattle.tx_events.specs.declared.event.By.{By}
use Rattle.tx_events.proofs.Membership.{Has, contains_has, all_at}
use Rattle.tx_events.specs.Events.{given_to}
use Rattle.tx_events.specs.Visible.{is_visible}
use Rattle.tx_core.specs.declared.entry.Entry.{Entry}
use Rattle.tx_core.specs.declared.entry.Kind.{Kind}
use Rattle.tx_core.specs.declared.entry.Start.{Start}
use Rattle.tx_core.proofs.ChangeLaws.{committed_law}
use Rattle.tx_core.proofs.EventLaws.{commit_event_law, commit_record_law, id_event_law, snap_event_law}
use Rattle.notes.proofs.Growing.{begins_same}
use Rattle.tx_core.proofs.Opening.{opens}
use Rattle.tx_core.proofs.Quiet.{flush_law}
use Rattle.tx_core.specs.AbortRule.{AsksAbort}
use Rattle.tx_core.specs.EngineInvariant.{EngineInvariant}
use Rattle.tx_events.specs.declared.record.Rec.{Rec}
use Rattle.tx_core.specs.Entries.{IsAppended, IsMarked, Mark, asks_in, history, session_of}
use Rattle.tx_core.specs.Laws.{all_set}
use Rattle.notes.specs.Lists.{Knows, add, at}
use Rattle.tx_core.specs.Locks.{log_lock, proc_lock, xact_lock, xact_lock_of, xact_page}
use Rattle.tx_core.specs.LogBeforeStatus.{InTree, IsDurable}
use Rattle.tx_core.specs.PagesBeforeIds.{WasMade}
use Rattle.tx_core.specs.ProgramOrder.{IsInTurn}
use Rattle.tx_events.specs.declared.event.Event.TheVariants as events
use Rattle.tx_core.specs.declared.entry.Kind.TheVariants as kinds
use Rattle.tx_events.specs.declared.record.Rec.TheVariants as records
use Rattle.tx_core.specs.declared.entry.State.TheVariants as states

abbrev pub start : Start
start = record {
  banks = 1;
  sessions = 2;
  from = 1;
  base = record { next = 3; oldest = 3; multi = 1; offset = 1; oldest_multi = 1; oldest_offset = 1 };
  committed = [];
  recorded = [];
  logged = [];
  gate = 0;
  told = false;
  faults = [];
}

abbrev pub by : ℕ → ℕ → By
by session command = record { session = session; command = command }

abbrev pub entry : By → Kind → Entry
entry b kind = record { by = b; kind = kind }

-- the log, the ProcArray, the multixacts, a bank of each store, the published words, and the requests
abbrev empty : List (List Entry)
empty = [] ∷ [] ∷ [] ∷ [] ∷ [] ∷ [] ∷ [] ∷ [] ∷ [] ∷ [] ∷ []

abbrev pub given_id : Entry
given_id = entry (by 0 2) (kinds.Event (events.Id (by 0 2) 3))

abbrev pub logged : Entry
logged = entry (by 0 3) (kinds.Append (records.Commit 3 []))

abbrev flushed : Entry
flushed = entry (by 0 3) (kinds.Flush 2)

abbrev stated : Entry
stated = entry (by 0 3) (kinds.Set (all_set (by 0 3) states.Committed (3 ∷ [])))

abbrev committed : Entry
committed = entry (by 0 3) (kinds.Event (events.Commit (by 0 3) 3))

abbrev snapped : Entry
snapped = entry (by 1 2) (kinds.Event (events.Snap (115 ∷ []) (by 1 2)))

-- a session that has seen everything
pub sees_all : (n : ℕ) (lists : List (List Entry)) → Knows session_of n lists lists
sees_all n lists = record { grows = record { begins = λ lock. begins_same (at lists lock) }; own = λ lock. refl }

-- the lists after each entry
abbrev pub one : List (List Entry)
one = add empty proc_lock given_id

abbrev pub two : List (List Entry)
two = add one log_lock logged

abbrev three : List (List Entry)
three = add two log_lock flushed

abbrev four : List (List Entry)
four = add three (xact_lock 0) stated

abbrev five : List (List Entry)
five = add four proc_lock committed

abbrev six : List (List Entry)
six = add five proc_lock snapped

none_at : (lock : ℕ) → at empty lock ≡ []
none_at zero = refl
none_at (suc zero) = refl
none_at (suc (suc zero)) = refl
none_at (suc (suc (suc zero))) = refl
none_at (suc (suc (suc (suc zero)))) = refl
none_at (suc (suc (suc (suc (suc zero))))) = refl
none_at (suc (suc (suc (suc (suc (suc zero)))))) = refl
none_at (suc (suc (suc (suc (suc (suc (suc zero))))))) = refl
none_at (suc (suc (suc (suc (suc (suc (suc (suc zero)))))))) = refl
none_at (suc (suc (suc (suc (suc (suc (suc (suc (suc zero))))))))) = refl
none_at (suc (suc (suc (suc (suc (suc (suc (suc (suc (suc lock)))))))))) = refl

at_first : EngineInvariant start empty
at_first = opens start empty none_at

pub turns : (b : By) (es : List Entry) → b.session < start.sessions → AllByRecursion (λ (f : Entry). f.by.command ≤ b.command) (filter (λ (f : Entry). f.by.session == b.session) es) → IsInTurn start es b
turns b es known each = record { known = known; after = All-from_recursion (λ (f : Entry). f.by.command ≤ b.command) (filter (λ (f : Entry). f.by.session == b.session) es) each }

pub after_id : EngineInvariant start one
after_id = id_event_law start empty (by 0 2) 3 (inl (omega arith)) (record { next = refl; below_stop = omega arith }, refl) (inl refl, inl refl) (inl refl) empty at_first (sees_all 0 empty) (omega arith) refl (turns (by 0 2) [] (omega arith) tt)

-- nothing was asked to be aborted
quiet_one : (lock : ℕ) → AllByRecursion (λ (e : Entry). asks_in e ≡ []) (at one lock)
quiet_one zero = tt
quiet_one (suc zero) = (refl, tt)
quiet_one (suc (suc zero)) = tt
quiet_one (suc (suc (suc zero))) = tt
quiet_one (suc (suc (suc (suc zero)))) = tt
quiet_one (suc (suc (suc (suc (suc zero))))) = tt
quiet_one (suc (suc (suc (suc (suc (suc zero)))))) = tt
quiet_one (suc (suc (suc (suc (suc (suc (suc zero))))))) = tt
quiet_one (suc (suc (suc (suc (suc (suc (suc (suc zero)))))))) = tt
quiet_one (suc (suc (suc (suc (suc (suc (suc (suc (suc zero))))))))) = tt
quiet_one (suc (suc (suc (suc (suc (suc (suc (suc (suc (suc lock)))))))))) = tt

unasked : (id : ℕ) → AsksAbort one 0 id → ⊥
unasked id a =
    let none : asks_in a.entry ≡ [] = all_at (λ (e : Entry). asks_in e ≡ []) (at one a.lock) a.entry (quiet_one a.lock) (contains_has (at one a.lock) a.entry a.stands) in
    subst (λ (t : List Mark). Has t (record { caller = a.caller; id = id; state = states.Aborted })) none (contains_has (asks_in a.entry) (record { caller = a.caller; id = id; state = states.Aborted }) a.asks)

nothing_logged : (rec : Rec) → IsAppended one 0 rec → ⊥
nothing_logged rec a = contains_has [] (entry a.0 (kinds.Append rec)) a.2

pub after_record : EngineInvariant start two
after_record =
    commit_record_law start one (by 0 3) 3 [] refl refl (λ id c. absurd (contains_has [] id c)) (λ id c a. unasked id a)
    (λ top subs a q. nothing_logged (records.Commit top subs) a) (λ id c top subs a d. nothing_logged (records.Abort top subs) a)
    (record { full = omega arith; full_oldest = omega arith; oldest = omega arith; next = omega arith; oldest_multi = omega arith; multi = omega arith; oldest_offset = omega arith; offset = omega arith; none = λ q. refl })
    refl one after_id (sees_all 0 one) (omega arith) refl (turns (by 0 3) [] (omega arith) tt)

after_flush : EngineInvariant start three
after_flush = flush_law start two (by 0 3) 2 (omega arith) (omega arith) refl two after_record (sees_all 0 two) (omega arith) refl (turns (by 0 3) (logged ∷ []) (omega arith) (omega arith, tt))

only_three : (P : ℕ → Type 0) → P 3 → (id : ℕ) → Contains (3 ∷ []) id → P id
only_three P p id c = ⊎_elim (λ (q : 3 ≡ id). subst P q p) (λ z. absurd z) (contains_has (3 ∷ []) id c)

durable : IsDurable start three 0 3
durable = (3, [], (0, 2, by 0 3, refl, refl, omega arith, (by 0 3, (1, omega arith, refl))), (0, omega arith, refl))

in_tree : InTree start three 0 3
in_tree = record {
  top = 3;
  subs = [];
  appended = (by 0 3, refl, (0, omega arith, refl));
  among = (0, omega arith, refl);
  before_top = λ q sub c n. absurd (contains_has [] sub c);
  after_top = λ n. absurd (n refl);
}

after_states : EngineInvariant start four
after_states =
    committed_law start three 0 (by 0 3) (3 ∷ [])
    (record {
      inside = omega arith;
      lock = only_three (λ id. xact_lock_of start id ≡ xact_lock 0) refl;
      made = only_three (λ id. WasMade (at three (xact_lock 0)) (xact_page start.base.next) (xact_page id)) (inl refl);
    })
    (only_three (λ id. Contains (given_to 0 (history three)) id) (0, omega arith, refl))
    (only_three (λ id. IsDurable start three 0 id) durable)
    (only_three (λ id. InTree start three 0 id) in_tree)
    (λ id old c j q. absurd (contains_has [] old j))
    three after_flush (sees_all 0 three) (omega arith) refl (turns (by 0 3) [] (omega arith) tt)

after_commit : EngineInvariant start five
after_commit =
    commit_event_law start four (by 0 3) 3 [] (inl (omega arith)) ((0, omega arith, refl), refl) (by 0 3, refl, (0, omega arith, refl))
    (only_three (λ id. IsMarked start four id states.Committed) (by 0 3, (0, omega arith, refl)))
    four after_states (sees_all 0 four) (omega arith) refl (turns (by 0 3) (given_id ∷ []) (omega arith) (omega arith, tt))

after_snap : EngineInvariant start six
after_snap = snap_event_law start five (by 1 2) (115 ∷ []) (inl (omega arith)) refl five after_commit (sees_all 1 five) (omega arith) refl (turns (by 1 2) (given_id ∷ committed ∷ []) (omega arith) tt)

-- the snapshot at place 2 sees the id, and one before the commit doesn't
seen : is_visible [] (take 2 (history six)) 3 ≡ true
seen = refl

unseen : is_visible [] (take 1 (history six)) 3 ≡ false
unseen = refl
