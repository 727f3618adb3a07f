-- A session that went on through critical sections without an event, and the parent that is still to be recorded.
use Rattle.std.proofs.Common.{Contains, drop, ◌≡◌, ℕ, List, ◌%◌, Option, Some, IfSome, inl, ⊎_elim, sym, ap, subst, ◌∙◌}
use Rattle.tx_events.specs.Ids.{low_half}
use Rattle.tx_events.specs.declared.event.Event.{Event}
use Rattle.tx_core.specs.declared.entry.Start.{Start}
use Rattle.tx_core.specs.Entries.{IsLinked}
use Rattle.tx_core.specs.Locks.{subtrans_lock, subtrans_lock_of, subtrans_page}
use Rattle.tx_core.specs.PagesBeforeIds.{IsMade}
use Rattle.tx_core.specs.ParentsFollow.{IsGivenBelow}
use Rattle.engine_parts.specs.declared.session.Session.{Session}
use Rattle.engine_parts.specs.declared.session.Unlinked.{Unlinked}
use Rattle.engine_parts.specs.Holds.{Knowledge}
use Rattle.engine_parts.specs.Sessions.{IsAt, IsReady, IsThe, MayCall, inner_id}
use Rattle.engine_parts.specs.Stages.{IsInStage}
use Rattle.engine_parts.specs.Steps.{WentOn}
use Rattle.engine_parts.proofs.Going.{stage_later}
use Rattle.bank_sections.specs.Parents.{linked}

-- a session that may call may call again behind a critical section that left it as it was
pub call_went : (start : Start) (v w : Knowledge) (n n' : ℕ) (s s' : Session) (added : List Event) → MayCall start v n s → WentOn n added v.seen w.seen → n' ≡ n → s' ≡ s → IsReady start w n' s' → MayCall start w n' s'
call_went start v w n n' s s' added m went number same r = record {
  ready = r;
  stage = subst (λ (z : ℕ × Session). IsInStage start w.seen z.0 (inner_id z.1) z.1.levels.open_ids.items z.1.stage) (λ j. (sym number j, sym same j))
      (stage_later start v.seen w.seen n (inner_id s) s.levels.open_ids.items s.stage went.on.grows went.asks m.stage);
}

-- the id was given below the parent
pub still_below : (start : Start) (v : Knowledge) (n : ℕ) (s : Session) (u : Unlinked) → IsAt start v n s → s.unlinked ≡ Some u → IsGivenBelow v.seen n u.parent u.id
still_below start v n s u a is = (subst (λ (o : Option Unlinked). IfSome o (λ u. Contains (drop 1 s.levels.open_ids.items) u.id × IsGivenBelow v.seen n u.parent u.id × IsMade start v.seen u.id)) is a.filed.pending).1

-- the bank that is asked is that of its page
pub parent_lock : (start : Start) (id low page bank banks : ℕ) → low ≡ low_half id → page ≡ subtrans_page low → bank ≡ page % banks → banks ≡ start.banks → subtrans_lock_of start id ≡ subtrans_lock bank
parent_lock start id low page bank banks l p b same = sym (ap subtrans_lock (b ∙ λ j. (p ∙ ap subtrans_page l) j % same j))

-- a session of which the parent was recorded
pub call_linked : (start : Start) (v : Knowledge) (n : ℕ) (s : Session) (u : Unlinked) → MayCall start v n s → s.unlinked ≡ Some u → IsLinked start v.seen u.id u.parent → MayCall start v n (linked s)
call_linked start v n s u m is done =
    let a = m.ready.at in record {
      ready = record {
        free = m.ready.free;
        at = record {
          base = a.base;
          before = a.before;
          kept = a.kept;
          name = a.name;
          known = a.known;
          wide = a.wide;
          turns = a.turns;
          stands = a.stands;
          clear = a.clear;
          unaborted = a.unaborted;
          filed = record {
            linked = λ id c. ⊎_elim inl (λ t. inl (u.parent, subst (λ z. IsLinked start v.seen z u.parent) (subst (λ o. IsThe o id) is t) done)) (a.filed.linked id c);
            pending = tt;
          };
          makes = a.makes;
        };
      };
      stage = m.stage;
    }
