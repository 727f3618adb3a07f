-- A commit that meets faults: its record stands, the bank of its state fails twice, and then the log fails in a flush. The
-- counts that the bank's list tells rise, and the log stays down.
use Rattle.std.proofs.Common.{List, None, [], arith, inl, refl, true, ◌∷◌, ◌≡◌, ℕ}
use Rattle.disk_core.specs.Faults.{HasRisen}
use Rattle.tx_events.proofs.Membership.{contains_has, has_contains}
use Rattle.tx_core.specs.declared.entry.Entry.{Entry}
use Rattle.tx_core.proofs.ChangeLaws.{fault_law}
use Rattle.tx_core.proofs.OneCommit.{after_record, by, entry, logged, sees_all, start, turns, two}
use Rattle.tx_core.proofs.Quiet.{log_fault_law}
use Rattle.tx_core.specs.EngineInvariant.{EngineInvariant}
use Rattle.tx_core.specs.FaultsRise.{faults_told}
use Rattle.tx_core.specs.Laws.{MayChange}
use Rattle.tx_core.specs.Locks.{log_lock, xact_lock}
use Rattle.tx_core.specs.ProgramOrder.{AreCallers}
use Rattle.tx_core.specs.StaysDown.{is_down}
use Rattle.tx_core.specs.declared.entry.Kind.TheVariants as kinds
use Rattle.tx_core.specs.declared.entry.LogCall.TheVariants as calls
use Rattle.notes.specs.Lists.{add, at}

-- the bank failed before anything was changed; its count is then this
abbrev failed : ℕ → Entry
failed count = entry (by 0 3) (kinds.Fault (by 0 3 ∷ []) [] None count)

abbrev unflushed : Entry
unflushed = entry (by 0 3) (kinds.LogFault calls.Flush 1)

abbrev once : List (List Entry)
once = add two (xact_lock 0) (failed 1)

abbrev twice : List (List Entry)
twice = add once (xact_lock 0) (failed 2)

abbrev downed : List (List Entry)
downed = add twice log_lock unflushed

nothing_changed : (seen : List (List Entry)) → MayChange start seen (xact_lock 0) 0 []
nothing_changed seen = record {
  on = record { bank = record { from = omega arith; to = omega arith }; pages = tt };
  marks = λ mark c. absurd (contains_has [] mark c);
  alike = λ mark other c. absurd (contains_has [] mark c);
  links = λ link c. absurd (contains_has [] link c);
  offsets = λ set c. absurd (contains_has [] set c);
  slots = λ slot c. absurd (contains_has [] slot c);
}

own_call : AreCallers (by 0 3) (by 0 3 ∷ []) []
own_call = record { own = has_contains (by 0 3 ∷ []) (by 0 3) (inl refl); once = refl; each = tt }

-- the first count is past that of the start, the second past the first
first_rises : HasRisen (faults_told start (xact_lock 0) (at two (xact_lock 0))) 1
first_rises = grind arith

second_rises : HasRisen (faults_told start (xact_lock 0) (at once (xact_lock 0))) 2
second_rises = grind arith

after_first : EngineInvariant start once
after_first = fault_law start two (xact_lock 0) (by 0 3) (by 0 3 ∷ []) [] None 1 (nothing_changed two) own_call tt first_rises two after_record (sees_all 0 two) (omega arith) refl (turns (by 0 3) [] (omega arith) tt)

after_second : EngineInvariant start twice
after_second =
    fault_law start once (xact_lock 0) (by 0 3) (by 0 3 ∷ []) [] None 2 (nothing_changed once) own_call tt second_rises once after_first (sees_all 0 once) (omega arith) refl (turns (by 0 3) (failed 1 ∷ []) (omega arith) (omega arith, tt))

log_rises : HasRisen (faults_told start log_lock (at twice log_lock)) 1
log_rises = grind arith

after_log : EngineInvariant start downed
after_log = log_fault_law start twice (by 0 3) calls.Flush 1 tt (λ q. refl) log_rises twice after_second (sees_all 0 twice) (omega arith) refl (turns (by 0 3) (logged ∷ []) (omega arith) (omega arith, tt))

-- a count that was told can't be told again, and the log takes nothing more
told_once : HasRisen (faults_told start (xact_lock 0) (at twice (xact_lock 0))) 2 → ⊥
told_once up = grind arith

stays : is_down (at downed log_lock) ≡ true
stays = refl
