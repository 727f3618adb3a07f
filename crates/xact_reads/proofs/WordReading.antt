-- What a command reads of the published oldest id.
use Rattle.std.proofs.Common.{◌≡◌, ℕ, ◌+◌, ◌-◌, ◌≤◌, ◌<◌, ⊎_elim, List, [], ◌∷◌, ◌++◌, drop, length, length-append, suc, take, take_all, zero, ap, arith, subst, sym, ◌∙◌}
use Rattle.std.proofs.Math.Seq.{drop-append-add}
use Rattle.std.specs.List.{AllByRecursion}
use Rattle.tx_events.specs.declared.event.By.{By}
use Rattle.tx_events.specs.declared.event.Event.{Event}
use Rattle.tx_events.specs.Events.{by_of}
use Rattle.tx_events.specs.Horizon.{oldest_id}
use Rattle.tx_events.proofs.ListSteps.{le_or_over}
use Rattle.tx_events.proofs.OwnEvents.{AreLater}
use Rattle.tx_model.specs.Replies.{MayFindOldest, MayReadAt, alone}
use Rattle.session_levels.specs.Acts.{IsInTurn}
use Rattle.session_levels.proofs.ActsLemmas.{reads_last}
use Rattle.tx_core.specs.declared.entry.Entry.{Entry}
use Rattle.tx_core.specs.declared.entry.Start.{Start}
use Rattle.tx_core.specs.Consequences.{IsShownBehind}
use Rattle.tx_core.specs.EngineInvariant.{EngineInvariant}
use Rattle.tx_core.specs.Entries.{history}
use Rattle.tx_core.proofs.Posting.{oldest_between}
use Rattle.engine_parts.specs.declared.session.Session.{Session}
use Rattle.engine_parts.specs.Holds.{Knowledge}
use Rattle.engine_parts.specs.Sessions.{IsAt, by_at}
use Rattle.engine_parts.specs.Steps.{WentOn}
use Rattle.xact_reads.specs.Multis.{IsCarried}
use Rattle.xact_reads.proofs.Going.{others_went}
use Rattle.xact_reads.proofs.Judging.{carried_at}

module _ {A : Type 0} (P : A → Type 0) where
  all_drop : (n : ℕ) (xs : List A) → AllByRecursion P xs → AllByRecursion P (drop n xs)
  all_drop zero xs a = a
  all_drop (suc n) [] a = a
  all_drop (suc n) (x ∷ xs) a = all_drop n xs a.1

  all_take : (n : ℕ) (xs : List A) → AllByRecursion P xs → AllByRecursion P (take n xs)
  all_take zero xs a = tt
  all_take (suc n) [] a = a
  all_take (suc n) (x ∷ xs) a = (a.0, all_take n xs a.1)

-- behind what was seen when it began the command may read anywhere
reads_at : (by : By) (h rest h' : List Event) → h ++ rest ≡ h' → AreLater by rest → IsInTurn by h' → (p : ℕ) → length h ≤ p → p ≤ length h' → MayReadAt h' (alone h h') by p
reads_at by h rest h' split later turn p from to =
    let last = reads_last by h h' (omega arith) turn in
    let behind : drop p h' ≡ drop (p - length h) rest =
    ap (drop p) (sym split) ∙ (subst (λ k. drop p (h ++ rest) ≡ drop k (h ++ rest)) (let same : p ≡ length h + (p - length h) = omega arith in same) (λ j. drop p (h ++ rest)) ∙ drop-append-add h rest (p - length h)) in
    record {
      not_before = from;
      not_past = to;
      behind = subst (AllByRecursion (λ e. (by_of e).session ≡ by.session → by.command < (by_of e).command)) (sym behind) (all_drop (λ (e : Event). (by_of e).session ≡ by.session → by.command < (by_of e).command) (p - length h) rest later);
      before = all_take (λ (e : Event). (by_of e).session ≡ by.session → (by_of e).command ≤ by.command) p h' (subst (AllByRecursion (λ e. (by_of e).session ≡ by.session → (by_of e).command ≤ by.command)) (take_all (length h') h' (omega arith)) last.before);
    }

-- the published oldest id is one that the command may find
pub finds_word : (start : Start) (v u : Knowledge) (n : ℕ) (s : Session) (oldest : ℕ) → IsAt start u n s → WentOn n [] v.seen u.seen → IsShownBehind start v.seen u.seen oldest → MayFindOldest start.base (history u.seen) (alone (history v.seen) (history u.seen)) (by_at n s.levels.commands) oldest
finds_word start v u n s oldest a went shown =
    let by : By = by_at n s.levels.commands in
    let o = others_went by v.seen u.seen went in
    let within = shown.within in
    let late = shown.late in
    let is : oldest ≡ oldest_id start.base.oldest (take shown.place (history u.seen)) = shown.is in
    let longer : length (history v.seen) ≤ length (history u.seen) = subst (λ (h : List Event). length (history v.seen) ≤ length h) o.split (omega (arith, length-append (history v.seen) o.rest)) in
    ⊎_elim
    (λ (near : length (history v.seen) ≤ shown.place). record {
      place = shown.place;
      read = reads_at by (history v.seen) o.rest (history u.seen) o.split o.later a.stands.turn shown.place near within;
      lag = 0;
      short = omega arith;
      oldest_is = subst (λ p. oldest ≡ oldest_id start.base.oldest (take p (history u.seen))) (let same : shown.place ≡ shown.place - 0 = omega arith in same) is;
    })
    (λ (far : shown.place < length (history v.seen)). record {
      place = shown.place + 1;
      read = reads_at by (history v.seen) o.rest (history u.seen) o.split o.later a.stands.turn (shown.place + 1) (omega arith) (omega arith);
      lag = 1;
      short = omega arith;
      oldest_is = subst (λ p. oldest ≡ oldest_id start.base.oldest (take p (history u.seen))) (let same : shown.place ≡ shown.place + 1 - 1 = omega arith in same) is;
    })
    (le_or_over (length (history v.seen)) shown.place)

-- it isn't before the one with which the life began
pub word_from : (start : Start) (seen lists : List (List Entry)) (oldest : ℕ) → EngineInvariant start lists → IsShownBehind start seen lists oldest → start.base.oldest ≤ oldest
word_from start seen lists oldest k shown = let up = oldest_between start.base (history lists) 0 shown.place k.events.legal (omega arith) in let is = shown.is in omega arith

-- it was announced, or the life began with it
pub word_carried : (start : Start) (seen lists : List (List Entry)) (oldest : ℕ) → IsShownBehind start seen lists oldest → IsCarried start lists oldest
word_carried start seen lists oldest shown = carried_at start lists shown.place oldest shown.is
