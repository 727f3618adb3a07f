-- A session that sets a state for another one: session 0 asks for its id to be set aborted, session 1 does it, and then
-- session 0 ends the transaction.
use Rattle.std.proofs.Common.{Contains, List, [], arith, inl, inr, refl, subst, ℕ, ⊎_elim, ◌∷◌, ◌≡◌}
use Rattle.tx_events.proofs.Membership.{Has, contains_has}
use Rattle.tx_events.specs.Families.{top}
use Rattle.tx_core.specs.declared.entry.Change.{Change}
use Rattle.tx_core.specs.declared.entry.Entry.{Entry}
use Rattle.tx_core.proofs.ChangeLaws.{changes_law, request_law}
use Rattle.tx_core.proofs.EventLaws.{abort_event_law}
use Rattle.tx_core.proofs.OneCommit.{after_id, by, entry, given_id, one, sees_all, start, turns}
use Rattle.tx_core.specs.AbortRule.{AskUnrecorded, AsksAbort, GivenOf}
use Rattle.tx_core.specs.EngineInvariant.{EngineInvariant}
use Rattle.tx_core.specs.Entries.{IsAppended, IsMarked, Mark}
use Rattle.tx_core.specs.Laws.{MayChange, MayMark, all_set, marks_of}
use Rattle.notes.specs.Lists.{add, at}
use Rattle.tx_core.specs.Locks.{log_lock, proc_lock, xact_lock}
use Rattle.tx_events.specs.declared.event.Event.TheVariants as events
use Rattle.tx_core.specs.declared.entry.Kind.TheVariants as kinds
use Rattle.tx_events.specs.declared.record.Rec.TheVariants as records
use Rattle.tx_core.specs.declared.entry.State.TheVariants as states

abbrev change : List Change
change = all_set (by 0 3) states.Aborted (3 ∷ [])

abbrev requested : Entry
requested = entry (by 0 3) (kinds.Request change)

abbrev led : Entry
led = entry (by 1 2) (kinds.Set change)

abbrev asked : List (List Entry)
asked = add one 9 requested

abbrev done : List (List Entry)
done = add asked (xact_lock 0) led

only_mark : (P : Mark → Type 0) → P (record { caller = by 0 3; id = 3; state = states.Aborted }) → (m : Mark) → Contains (marks_of change) m → P m
only_mark P p m c = ⊎_elim (λ (q : record { caller = by 0 3; id = 3; state = states.Aborted } ≡ m). subst P q p) (λ z. absurd z) (contains_has (marks_of change) m c)

no_records : (n top : ℕ) (subs : List ℕ) (lists : List (List Entry)) → at lists log_lock ≡ [] → IsAppended lists n (records.Commit top subs) → ⊥
no_records n top subs lists none a = subst (λ (t : List Entry). Has t (record { by = a.0; kind = kinds.Append (records.Commit top subs) })) none (contains_has (at lists log_lock) (record { by = a.0; kind = kinds.Append (records.Commit top subs) }) a.2)

after_request : EngineInvariant start asked
after_request =
    request_law start one 9 (by 0 3) change (omega arith) (only_mark (GivenOf one) (0, omega arith, refl)) (only_mark (λ m. AskUnrecorded one 0 m.caller.session m.id m.state) (λ q top subs a c. no_records 0 top subs one refl a))
    one after_id (sees_all 0 one) (omega arith) refl (turns (by 0 3) [] (omega arith) tt)

asked_abort : AsksAbort asked 0 3
asked_abort = record { lock = 9; entry = requested; stands = (0, omega arith, refl); own = refl; caller = by 0 3; same = refl; asks = (0, omega arith, refl) }

led_change : MayChange start asked 3 1 change
led_change = record {
  on = record { bank = record { from = omega arith; to = omega arith }; pages = (refl, tt) };
  marks = only_mark (MayMark start asked (at asked 3) 1) (record {
    page = inl refl;
    durable = tt;
    tree = tt;
    given = (0, omega arith, refl);
    asked = inr asked_abort;
    unrecorded = λ q top subs a c. no_records 1 top subs asked refl a;
    final = λ old j q. absurd (contains_has [] old j);
  });
  alike = λ m other c d q. only_mark (λ n. other.state ≡ n.state) (only_mark (λ n. n.state ≡ states.Aborted) refl other d) m c;
  links = λ link c. absurd (contains_has [] link c);
  offsets = λ set c. absurd (contains_has [] set c);
  slots = λ slot c. absurd (contains_has [] slot c);
}

after_leader : EngineInvariant start done
after_leader = changes_law start asked 3 (by 1 2) change led_change asked after_request (sees_all 1 asked) (omega arith) refl (turns (by 1 2) [] (omega arith) tt)

after_abort : EngineInvariant start (add done proc_lock (entry (by 0 3) (kinds.Event (events.Abort (by 0 3) 3))))
after_abort =
    abort_event_law start done (by 0 3) 3 (inl (omega arith)) ((0, omega arith, refl), refl) (λ top subs a q. no_records 0 top subs done refl a)
    (λ x c. ⊎_elim (λ (q : 3 ≡ x). subst (λ z. IsMarked start done z states.Aborted) q (by 0 3, (0, omega arith, refl))) (λ z. absurd z) (contains_has (3 ∷ []) x c))
    done after_leader (sees_all 0 done) (omega arith) refl (turns (by 0 3) (given_id ∷ []) (omega arith) (omega arith, tt))
