-- A session that has done nothing may call.
use Rattle.std.proofs.Common.{Contains, ◌≡◌, ℕ, ◌≤◌, List, [], ◌∷◌, ◌++◌, refl, sym, ap, subst, ◌∙◌, arith, drop, length, map, IfSome, Option}
use Rattle.std.proofs.Math.ListN.{get_or-map}
use Rattle.std.proofs.lemmas.List.{length-map}
use Rattle.std.proofs.lemmas.List.Elements.{All-nil}
use Rattle.notes.specs.Lists.{Knows, at, own}
use Rattle.tx_events.specs.declared.event.Event.{Event}
use Rattle.tx_events.specs.declared.record.Counters.{Counters}
use Rattle.tx_events.specs.Running.{open_ids}
use Rattle.tx_events.proofs.Membership.{Has, contains_has}
use Rattle.tx_core.specs.declared.entry.Entry.{Entry}
use Rattle.tx_core.specs.declared.entry.Start.{Start}
use Rattle.tx_core.specs.Entries.{events_in, history, session_of}
use Rattle.tx_core.specs.Locks.{multi_lock, proc_lock}
use Rattle.tx_core.specs.MultiEntries.{multi_history, multis_in}
use Rattle.tx_events.specs.declared.multi.MultiEvent.{MultiEvent}
use Rattle.tx_events.specs.declared.multi.MultiEvent.TheVariants as multis
use Rattle.engine_parts.specs.declared.session.Making.{Making}
use Rattle.engine_parts.specs.Makings.{IsMakingOf}
use Rattle.tx_core.specs.PagesBeforeIds.{IsMade}
use Rattle.tx_core.specs.ParentsFollow.{IsGivenBelow}
use Rattle.tx_core.specs.ProgramOrder.{IsInTurn}
use Rattle.tx_core.proofs.Opening.{opens}
use Rattle.session_levels.specs.declared.session.Session as plain
use Rattle.session_levels.specs.Stands.{IsFresh}
use Rattle.session_levels.specs.Stands.{Stands}
use Rattle.session_levels.proofs.StandsLemmas.{Stood, stands}
use Rattle.engine_parts.specs.declared.session.Session.{Session}
use Rattle.engine_parts.specs.declared.session.Unlinked.{Unlinked}
use Rattle.engine_parts.specs.Holds.{Knowledge, Learns}
use Rattle.engine_parts.specs.New.{IsNew, NewMayCall}
use Rattle.engine_parts.specs.Sessions.{MayCall, by_at, inner_id}
use Rattle.engine_parts.proofs.Going.{calls_stay}
use Rattle.engine_parts.specs.Stages.{IsInStage}

fresh_stands : (base : Counters) (n m : ℕ) (s : plain.Session) → IsFresh s → Stands base [] n m s
fresh_stands base n m s f =
    let none : Stood base [] n m [] [] 0 [] = record {
      opened_are = refl;
      ascend = tt;
      nest = refl;
      depth = omega arith;
      turn = tt;
      live = λ name. refl;
      snaps = tt;
    } in
    stands base [] n m s (rw (f.1, f.2, f.3, f.4) none)

-- where nothing was done at all
first_call : (start : Start) (v : Knowledge) (n : ℕ) (s : Session) → IsNew start v n s → ((place : ℕ) → at v.seen place ≡ []) → MayCall start v n s
first_call start v n s w nothing =
    let none : history v.seen ≡ [] = ap events_in (nothing proc_lock) in
    record {
      ready = record {
        free = w.free;
        at = record {
          base = w.base;
          before = w.before;
          kept = w.kept;
          name = w.name;
          known = w.known;
          wide = w.wide;
          turns = λ lock. subst (λ (t : List Entry). IsInTurn start t (by_at n s.levels.commands)) (sym (nothing lock)) (record { known = w.known; after = All-nil (λ (f : Entry). f.by.command ≤ s.levels.commands) });
          stands = subst (λ (h : List Event). Stands start.base h n s.levels.commands s.levels) (sym none) (fresh_stands start.base n s.levels.commands s.levels w.fresh);
          clear = λ q top subs k opened. let z : [] ≡ top ∷ subs = sym (ap (open_ids n) none) ∙ opened in absurd cc;
          unaborted = λ q id c. absurd (subst (λ (t : List ℕ). Has t id) w.fresh.3 (contains_has s.levels.open_ids.items id c));
          filed = record {
            linked = λ id k. absurd (subst (λ (t : List ℕ). Has (drop 1 t) id) w.fresh.3 (contains_has (drop 1 s.levels.open_ids.items) id k));
            pending = subst (λ (o : Option Unlinked). IfSome o (λ u. Contains (drop 1 s.levels.open_ids.items) u.id × IsGivenBelow v.seen n u.parent u.id × IsMade start v.seen u.id)) (sym w.unlinked) tt;
          };
          makes = record {
            pending = subst (λ (o : Option Making). IfSome o (IsMakingOf start v.seen n)) (sym w.making) tt;
            others = λ multi offset members g. absurd (subst (λ (t : List MultiEvent). Has t (multis.Gen g.0 multi offset members)) (ap multis_in (nothing multi_lock)) (contains_has (multi_history v.seen) (multis.Gen g.0 multi offset members) g.2));
          };
        };
      };
      stage = subst (IsInStage start v.seen n (inner_id s) s.levels.open_ids.items) (sym w.stage) (λ id state c asked. subst (λ (t : List ℕ). Has t id) w.fresh.3 (contains_has s.levels.open_ids.items id c));
    }

-- A session that has no entry knows of the lists as much without all entries: so it stands as it did before the first.
pub new_may_call : NewMayCall
new_may_call start v n s w =
    let bare : List (List Entry) = map (λ (es : List Entry). []) v.seen in
    let none : (place : ℕ) → at bare place ≡ [] = λ place. get_or-map (λ (es : List Entry). []) v.seen place [] in
    let long : length bare ≡ length v.seen = length-map v.seen (λ (es : List Entry). []) in
    let before : Knowledge = record v { seen = bare } in
    let is : IsNew start before n s = record {
      base = w.base;
      before = w.before;
      kept = opens start bare none;
      empty = λ place. ap (own session_of n) (none place);
      name = w.name;
      known = w.known;
      free = w.free;
      wide = let e = w.wide in omega arith;
      fresh = w.fresh;
      stage = w.stage;
      unlinked = w.unlinked;
      making = w.making;
    } in
    let knows : Knows session_of n bare v.seen = record {
      grows = record { begins = λ place. (at v.seen place, ap (λ (t : List Entry). t ++ at v.seen place) (none place)) };
      own = λ place. w.empty place ∙ sym (ap (own session_of n) (none place));
    } in
    let learns : Learns before v = record { knows = subst (λ (z : ℕ). Knows session_of z bare v.seen) (sym w.name) knows; long = sym long; name = refl; holds = refl } in
    calls_stay start before v n s (first_call start before n s is none) learns w.kept w.free
