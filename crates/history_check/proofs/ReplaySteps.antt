-- What is kept beside the table goes along with its events.
use Rattle.std.proofs.Common.{◌≡◌, ℕ, ◌<◌, ◌≤◌, suc, zero, List, [], ◌∷◌, ◌++◌, length, get_or, set, Contains, refl, ap, sym, subst, ◌∙◌, arith}
use Rattle.std.specs.List.{AllByRecursion, slice_index}
use Rattle.tx_events.specs.declared.event.By.{By}
use Rattle.tx_events.specs.declared.event.Event.{Event}
use Rattle.tx_events.specs.Events.{by_of, given}
use Rattle.tx_events.specs.History.{IsLegal, MayCome}
use Rattle.proc_table.specs.Table.{Table}
use Rattle.history_check.specs.declared.given.GivenId.{GivenId}
use Rattle.history_check.specs.declared.links.Slot.{Slot}
use Rattle.history_check.specs.declared.opened.Opened.{Opened}
use Rattle.history_check.specs.GivenIds.{AreKept, given_after}
use Rattle.history_check.specs.Links.{AreLinked, link_ids, links_of, opens}
use Rattle.history_check.specs.Opened.{AreAllOpened, AreClosed, AreOpened, IsFresh, IsKept, IsNoted, IsOpened, opened_ids}
use Rattle.history_check.specs.Replays.{AreTurns, GoesOn, IsReplay}
use Rattle.history_check.proofs.AddLemmas.{same_default}
use Rattle.history_check.proofs.GivenSteps.{kept_after, kept_start}
use Rattle.history_check.proofs.OpenedChanges.{all_opened}
use Rattle.history_check.proofs.TurnLemmas.{turns_after}

empty_at : (all : List Opened) (s : ℕ) (d : Opened) → AllByRecursion IsFresh all → s < length all → IsFresh (get_or all s d)
empty_at [] s d a l = absurd (omega arith)
empty_at (v ∷ all) zero d a l = a.0
empty_at (v ∷ all) (suc s) d a l = empty_at all s d a.1 (omega arith)

pub fresh_kept : (o : Opened) → IsFresh o → IsKept o
fresh_kept o f = record {
  count = f.count ∙ ap (λ (t : List Slot). length (opens t)) (sym f.items);
  linked = subst (λ (t : List Slot). AreLinked (links_of t)) (sym f.items) (record { order = tt; parents = tt; lasts = λ k l d. absurd (omega arith); befores = λ k l d. absurd (omega arith) });
}

fresh_opened : (s : ℕ) (o : Opened) → IsFresh o → IsOpened [] s o
fresh_opened s o f = record {
  opened = subst (λ (t : List Slot). AreOpened [] s (opens t)) (sym f.items) (record { ids = refl; parents = tt });
  kept = fresh_kept o f;
  among = subst (λ (t : List Slot). (x : ℕ) → Contains (link_ids (links_of t)) x → Contains (given []) x) (sym f.items) (λ x c. c);
}

pub opened_none : (sessions : ℕ) (all : List Opened) → length all ≡ sessions → AllByRecursion IsFresh all → AreAllOpened [] sessions all
opened_none sessions all size a = record {
  size = size;
  each = λ s l d. fresh_opened s (get_or all s d) (empty_at all s d a (omega arith));
}

pub replay_start : (t : Table) (last : List ℕ) (all : List Opened) → t.events ≡ [] → AreTurns t.sessions [] last → AreAllOpened [] t.sessions all → IsReplay t last all []
replay_start t last all e turns opened = record {
  turns = subst (λ h. AreTurns t.sessions h last) (sym e) turns;
  opened = subst (λ h. AreAllOpened h t.sessions all) (sym e) opened;
  given = subst (λ h. AreKept h []) (sym e) kept_start;
}

pub opened_of : (t : Table) (last : List ℕ) (all : List Opened) (items : List GivenId) (s : ℕ) (d : Opened) → IsReplay t last all items → s < t.sessions → IsOpened t.events s (get_or all s d)
opened_of t last all items s d r l = r.opened.each s l d

pub replay_after : (old new : Table) (e : Event) (last last' : List ℕ) (all all' : List Opened) (items items' : List GivenId) (closed : List ℕ) (now : Opened) (by : By) (open_list : List ℕ) → IsLegal old.base old.events → IsReplay old last all items → MayCome old.base old.events e → (by_of e).session < old.sessions → by ≡ by_of e → slice_index last by.session ≤ by.command → GoesOn old new e → AreClosed e old.events closed → last' ≡ set last by.session by.command → all' ≡ set all by.session now → (was : Opened) → was ≡ get_or all by.session was → IsNoted e closed was now → open_list ≡ opened_ids (opens was.slots.items) → items' ≡ given_after open_list (length old.events) e items → IsReplay new last' all' items'
replay_after old new e last last' all all' items items' closed now by open_list legal r may within own turn goes c turns_are all_are was was_is noted open_is items_are =
    let s = (by_of e).session in
    let in_all : (by_of e).session < length all = subst (λ n. (by_of e).session < n) (sym r.opened.size) within in
    let was_there : was ≡ get_or all (by_of e).session was = subst (λ (b : By). was ≡ get_or all b.session was) own was_is in
    let all_there : all' ≡ set all (by_of e).session now = subst (λ (b : By). all' ≡ set all b.session now) own all_are in
    let its : IsOpened old.events (by_of e).session was = subst (IsOpened old.events (by_of e).session) (sym was_there) (r.opened.each (by_of e).session within was) in
    let each : (d : Opened) → IsNoted e closed (get_or all (by_of e).session d) now =
    λ d. subst (λ (u : Opened). IsNoted e closed u now) (was_there ∙ same_default all (by_of e).session was d in_all) noted in
    record {
      turns = turns_after old.sessions new.sessions old.events new.events e last last' by r.turns within own turn goes.sessions goes.events turns_are;
      opened = subst (λ h. AreAllOpened h new.sessions all') (sym goes.events) (subst (λ n. AreAllOpened (old.events ++ e ∷ []) n all') (sym goes.sessions)
          (subst (AreAllOpened (old.events ++ e ∷ []) old.sessions) (sym all_there) (all_opened old.base old.events e old.sessions closed all now legal may within c r.opened each)));
      given = subst (λ h. AreKept h items') (sym goes.events) (subst (AreKept (old.events ++ e ∷ [])) (sym (items_are ∙ ap (λ l. given_after l (length old.events) e items) (open_is ∙ its.opened.ids))) (kept_after old.base old.events e items legal may r.given));
    }
