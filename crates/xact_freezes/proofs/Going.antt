-- What critical sections leave, one after another.
use Rattle.std.proofs.Common.{◌≡◌, ℕ, List, [], ◌++◌, append-nil, append_assoc, sym, ap, subst, ◌∙◌}
use Rattle.std.specs.List.{filter}
use Rattle.disk_core.specs.declared.log_disk.LogDisk as logs
use Rattle.disk_core.specs.declared.page_disk.PageDisk as disks
use Rattle.hall.specs.declared.hall.Hall.{Hall}
use Rattle.hall.specs.Calls.{IsOf, start_of, view}
use Rattle.tx_events.specs.declared.multi.MultiEvent.{MultiEvent}
use Rattle.tx_events.specs.Events.{is_of}
use Rattle.tx_core.specs.declared.entry.Entry.{Entry}
use Rattle.tx_core.specs.declared.entry.Kind.{Kind}
use Rattle.tx_core.specs.declared.entry.Start.{Start}
use Rattle.tx_core.specs.Entries.{history}
use Rattle.tx_core.specs.OwnMultis.{own_multis}
use Rattle.engine_parts.specs.declared.part.Part.{Part}
use Rattle.engine_parts.specs.declared.session.Caller.{Caller}
use Rattle.engine_parts.specs.declared.session.Session.{Session}
use Rattle.engine_parts.specs.Adding.{Adds}
use Rattle.engine_parts.specs.Calls.{MayStep}
use Rattle.engine_parts.specs.Holds.{Knowledge}
use Rattle.engine_parts.specs.Sessions.{IsReady, MayCall, by_at, inner_id}
use Rattle.engine_parts.specs.Stages.{IsInStage}
use Rattle.engine_parts.specs.Steps.{WentMulti, WentOn}
use Rattle.engine_parts.proofs.Adding.{adds_then, adds_wider}
use Rattle.engine_parts.proofs.Going.{stage_later}
use Rattle.engine_parts.proofs.Leaving.{grows_then}
use Rattle.xact_freezes.specs.Visits.{Visited}

-- a step without an event has none of a multixact
pub went_none : (n : ℕ) (a b : List (List Entry)) → WentOn n [] a b → WentMulti n [] a b
went_none n a b w = record {
  grows = w.on.grows;
  own = w.on.own ∙ append-nil (filter (is_of n) (history a));
  multis = w.on.multis ∙ sym (append-nil (own_multis n a));
  asks = w.asks;
}

-- one after the other
pub multi_then : (n : ℕ) (xs ys : List MultiEvent) (a b c : List (List Entry)) → WentMulti n xs a b → WentMulti n ys b c → WentMulti n (xs ++ ys) a c
multi_then n xs ys a b c f g = record {
  grows = grows_then a b c f.grows g.grows;
  own = g.own ∙ f.own;
  multis = g.multis ∙ (ap (λ (t : List MultiEvent). t ++ ys) f.multis ∙ append_assoc (own_multis n a) xs ys);
  asks = λ id state asked. f.asks id state (g.asks id state asked);
}

-- the session may call again
call_multi : (start : Start) (v w : Knowledge) (n n' : ℕ) (s s' : Session) (xs : List MultiEvent) → MayCall start v n s → WentMulti n xs v.seen w.seen → n' ≡ n → s' ≡ s → IsReady start w n' s' → MayCall start w n' s'
call_multi start v w n n' s s' xs m went number same r = record {
  ready = r;
  stage = subst (λ (z : ℕ × Session). IsInStage start w.seen z.0 (inner_id z.1) z.1.levels.open_ids.items z.1.stage) (λ j. (sym number j, sym same j))
      (stage_later start v.seen w.seen n (inner_id s) s.levels.open_ids.items s.stage went.grows went.asks m.stage);
}

-- its command is the same
pub command_kept : (n n' : ℕ) (s s' : Session) → n' ≡ n → s' ≡ s → by_at n' s'.levels.commands ≡ by_at n s.levels.commands
command_kept n n' s s' number same = λ j. by_at (number j) (same j).levels.commands

module _ {H L P : Type 0} {l : logs.Ghosts L} {p : disks.Ghosts P} (hall : Hall H (Part L P l p) Entry Start) (banks : ℕ) where
  -- one critical section
  pub visited_now : (May : ℕ → Kind → Type 0) (xs : List MultiEvent) (old new : Caller L P l p) → MayStep hall banks old → IsOf hall new.pass → IsReady (start_of hall) (view new.pass) new.number new.session → WentMulti old.number xs (view old.pass).seen (view new.pass).seen → (new.session ≡ old.session) × (new.number ≡ old.number)
      → Adds (by_at old.number old.session.levels.commands) May (view old.pass).seen (view new.pass).seen → Visited hall banks May xs old new
  visited_now May xs old new m own ready went same adds = record {
    step = record {
      own = own;
      laid = m.laid;
      each = m.each;
      may = call_multi (start_of hall) (view old.pass) (view new.pass) old.number new.number old.session new.session xs m.may went same.1 same.0 ready;
    };
    went = went;
    adds = adds;
    session = same.0;
    number = same.1;
  }

  -- of an entry that may be more
  pub visited_wider : (May More : ℕ → Kind → Type 0) (xs : List MultiEvent) (old new : Caller L P l p) → ((lock : ℕ) (kind : Kind) → May lock kind → More lock kind) → Visited hall banks May xs old new → Visited hall banks More xs old new
  visited_wider May More xs old new wide v = record {
    step = v.step;
    went = v.went;
    adds = adds_wider (by_at old.number old.session.levels.commands) May More (view old.pass).seen (view new.pass).seen wide v.adds;
    session = v.session;
    number = v.number;
  }

  -- two of them
  pub visited_then : (First Second May : ℕ → Kind → Type 0) (xs ys : List MultiEvent) (old mid new : Caller L P l p) → ((lock : ℕ) (kind : Kind) → First lock kind → May lock kind) → ((lock : ℕ) (kind : Kind) → Second lock kind → May lock kind)
      → Visited hall banks First xs old mid → Visited hall banks Second ys mid new → Visited hall banks May (xs ++ ys) old new
  visited_then First Second May xs ys old mid new f g x y = record {
    step = y.step;
    went = multi_then old.number xs ys (view old.pass).seen (view mid.pass).seen (view new.pass).seen x.went (subst (λ z. WentMulti z ys (view mid.pass).seen (view new.pass).seen) x.number y.went);
    adds = adds_then (by_at old.number old.session.levels.commands) May (view old.pass).seen (view mid.pass).seen (view new.pass).seen
        (adds_wider (by_at old.number old.session.levels.commands) First May (view old.pass).seen (view mid.pass).seen f x.adds)
        (subst (λ z. Adds z May (view mid.pass).seen (view new.pass).seen) (command_kept old.number mid.number old.session mid.session x.number x.session)
        (adds_wider (by_at mid.number mid.session.levels.commands) Second May (view mid.pass).seen (view new.pass).seen g y.adds));
    session = y.session ∙ x.session;
    number = y.number ∙ x.number;
  }
