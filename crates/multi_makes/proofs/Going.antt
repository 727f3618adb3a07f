-- What critical sections leave in which a session goes on with a multixact, one after another.
use Rattle.std.proofs.Common.{◌≡◌, ℕ, List, [], ◌++◌, append-nil, append_assoc, refl, sym, ap, subst, ◌∙◌, arith}
use Rattle.std.specs.List.{filter}
use Rattle.disk_core.specs.declared.log_disk.LogDisk as logs
use Rattle.disk_core.specs.declared.page_disk.PageDisk as disks
use Rattle.hall.specs.declared.hall.Hall.{Hall}
use Rattle.hall.specs.Calls.{IsOf, start_of, view}
use Rattle.notes.proofs.Growing.{begins_length, begins_same}
use Rattle.notes.specs.Lists.{Grows, at}
use Rattle.tx_events.specs.declared.event.By.{By}
use Rattle.tx_events.specs.declared.multi.MultiEvent.{MultiEvent}
use Rattle.tx_events.specs.Events.{is_of}
use Rattle.tx_events.specs.Multis.{made, made_by}
use Rattle.tx_core.specs.declared.entry.Entry.{Entry}
use Rattle.tx_core.specs.declared.entry.Kind.{Kind}
use Rattle.tx_core.specs.declared.entry.Start.{Start}
use Rattle.tx_core.specs.Entries.{history}
use Rattle.tx_core.specs.MultiEntries.{AreFewMultis, multi_history}
use Rattle.tx_core.specs.OwnMultis.{own_multis}
use Rattle.tx_core.proofs.Growing.{begins_filter_map}
use Rattle.tx_core.proofs.Rising.{multis_grow}
use Rattle.engine_parts.specs.declared.part.Part.{Part}
use Rattle.engine_parts.specs.declared.session.Caller.{Caller}
use Rattle.engine_parts.specs.declared.session.Session.{Session}
use Rattle.engine_parts.specs.Adding.{Adds}
use Rattle.engine_parts.specs.Calls.{MayStep}
use Rattle.engine_parts.specs.Holds.{Knowledge}
use Rattle.engine_parts.specs.Sessions.{IsReady, MayCall, by_at, inner_id}
use Rattle.engine_parts.specs.Stages.{IsInStage}
use Rattle.engine_parts.specs.Steps.{WentMulti, WentOn}
use Rattle.engine_parts.proofs.Adding.{adds_nothing, adds_then, adds_wider}
use Rattle.engine_parts.proofs.Going.{stage_later}
use Rattle.engine_parts.proofs.Leaving.{grows_then}
use Rattle.engine_parts.proofs.Stepping.{went_then}
use Rattle.multi_makes.specs.Visits.{Visited}

-- ---- the lists

-- a step without an event has none of a multixact
pub went_none : (n : ℕ) (a b : List (List Entry)) → WentOn n [] a b → WentMulti n [] a b
went_none n a b w = record {
  grows = w.on.grows;
  own = w.on.own ∙ append-nil (filter (is_of n) (history a));
  multis = w.on.multis ∙ sym (append-nil (own_multis n a));
  asks = w.asks;
}

-- and the other way round
pub went_on : (n : ℕ) (a b : List (List Entry)) → WentMulti n [] a b → WentOn n [] a b
went_on n a b w = record {
  on = record {
    grows = w.grows;
    own = w.own ∙ sym (append-nil (filter (is_of n) (history a)));
    multis = w.multis ∙ append-nil (own_multis n a);
  };
  asks = w.asks;
}

pub on_then : (n m : ℕ) (a b c : List (List Entry)) → m ≡ n → WentOn n [] a b → WentOn m [] b c → WentOn n [] a c
on_then n m a b c same f g = went_then n [] [] a b c f (subst (λ z. WentOn z [] b c) same g)

-- what is few was few
pub few_before : (lists more : List (List Entry)) → Grows lists more → AreFewMultis more → AreFewMultis lists
few_before lists more g few = let le = begins_length (made (multi_history lists)) (made (multi_history more)) (begins_filter_map made_by (multi_history lists) (multi_history more) (multis_grow lists more g)) in omega arith

pub went_nothing : (n : ℕ) (lists : List (List Entry)) → WentMulti n [] lists lists
went_nothing n lists = record {
  grows = record { begins = λ q. begins_same (at lists q) };
  own = refl;
  multis = sym (append-nil (own_multis n lists));
  asks = λ id state a. a;
}

-- one after the other
pub multi_then : (n : ℕ) (xs ys : List MultiEvent) (a b c : List (List Entry)) → WentMulti n xs a b → WentMulti n ys b c → WentMulti n (xs ++ ys) a c
multi_then n xs ys a b c f g = record {
  grows = grows_then a b c f.grows g.grows;
  own = g.own ∙ f.own;
  multis = g.multis ∙ (ap (λ (t : List MultiEvent). t ++ ys) f.multis ∙ append_assoc (own_multis n a) xs ys);
  asks = λ id state asked. f.asks id state (g.asks id state asked);
}

-- the second one by the session's number there
pub multi_after : (n m : ℕ) (ys : List MultiEvent) (a b c : List (List Entry)) → m ≡ n → WentMulti n [] a b → WentMulti m ys b c → WentMulti n ys a c
multi_after n m ys a b c same f g = multi_then n [] ys a b c f (subst (λ z. WentMulti z ys b c) same g)

pub multi_before : (n m : ℕ) (xs : List MultiEvent) (a b c : List (List Entry)) → m ≡ n → WentMulti n xs a b → WentMulti m [] b c → WentMulti n xs a c
multi_before n m xs a b c same f g = subst (λ (t : List MultiEvent). WentMulti n t a c) (append-nil xs) (multi_then n xs [] a b c f (subst (λ z. WentMulti z [] b c) same g))

-- ---- the session

-- it may call again, whatever it makes
pub call_multi : (start : Start) (v w : Knowledge) (n n' : ℕ) (s s' : Session) (xs : List MultiEvent) → MayCall start v n s → WentMulti n xs v.seen w.seen → n' ≡ n → s' ≡ record s { making = s'.making } → IsReady start w n' s' → MayCall start w n' s'
call_multi start v w n n' s s' xs m went number same r = record {
  ready = r;
  stage = subst (λ (z : ℕ × Session). IsInStage start w.seen z.0 (inner_id z.1) z.1.levels.open_ids.items z.1.stage) (λ j. (sym number j, sym same j))
      (stage_later start v.seen w.seen n (inner_id s) s.levels.open_ids.items s.stage went.grows went.asks m.stage);
}

-- one that stands as before makes what it made
pub same_making : (s s' : Session) → s' ≡ s → s' ≡ record s { making = s'.making }
same_making s s' same = same ∙ (λ j. record s { making = (sym same j).making })

-- two such changes
pub making_then : (s t s' : Session) → t ≡ record s { making = t.making } → s' ≡ record t { making = s'.making } → s' ≡ record s { making = s'.making }
making_then s t s' first second = second ∙ (λ j. record (first j) { making = s'.making })

-- the command is the same
pub command_kept : (n n' : ℕ) (s s' : Session) → n' ≡ n → s' ≡ record s { making = s'.making } → by_at n' s'.levels.commands ≡ by_at n s.levels.commands
command_kept n n' s s' number same = λ j. by_at (number j) (same j).levels.commands

-- ---- both

pub both_add : (by by' : By) (First Second May : ℕ → Kind → Type 0) (a b c : List (List Entry)) → by' ≡ by → ((lock : ℕ) (kind : Kind) → First lock kind → May lock kind) → ((lock : ℕ) (kind : Kind) → Second lock kind → May lock kind) → Adds by First a b → Adds by' Second b c → Adds by May a c
both_add by by' First Second May a b c same f g x y = adds_then by May a b c (adds_wider by First May a b f x) (subst (λ z. Adds z May b c) same (adds_wider by' Second May b c g y))

module _ {H L P : Type 0} {l : logs.Ghosts L} {p : disks.Ghosts P} (hall : Hall H (Part L P l p) Entry Start) (banks : ℕ) where
  pub step_of : (old new : Caller L P l p) (xs : List MultiEvent) → MayStep hall banks old → IsOf hall new.pass → IsReady (start_of hall) (view new.pass) new.number new.session → WentMulti old.number xs (view old.pass).seen (view new.pass).seen → new.number ≡ old.number → new.session ≡ record old.session { making = new.session.making } → MayStep hall banks new
  step_of old new xs m own ready went number same = record {
    own = own;
    laid = m.laid;
    each = m.each;
    may = call_multi (start_of hall) (view old.pass) (view new.pass) old.number new.number old.session new.session xs m.may went number same ready;
  }

  -- critical sections that left the session as it was
  pub visited_of : (May : ℕ → Kind → Type 0) (old new : Caller L P l p) → MayStep hall banks old → IsOf hall new.pass → IsReady (start_of hall) (view new.pass) new.number new.session → WentMulti old.number [] (view old.pass).seen (view new.pass).seen → (new.session ≡ old.session) × (new.number ≡ old.number)
      → Adds (by_at old.number old.session.levels.commands) May (view old.pass).seen (view new.pass).seen → Visited hall banks May old new
  visited_of May old new m own ready went same adds = record {
    step = step_of old new [] m own ready went same.1 (same_making old.session new.session same.0);
    went = went;
    adds = adds;
    number = same.1;
  }

  pub visited_here : (May : ℕ → Kind → Type 0) (old : Caller L P l p) → MayStep hall banks old → Visited hall banks May old old
  visited_here May old m = record {
    step = m;
    went = went_nothing old.number (view old.pass).seen;
    adds = adds_nothing (by_at old.number old.session.levels.commands) May (view old.pass).seen;
    number = refl;
  }

  pub visited_wider : (May More : ℕ → Kind → Type 0) (old new : Caller L P l p) → ((lock : ℕ) (kind : Kind) → May lock kind → More lock kind) → Visited hall banks May old new → Visited hall banks More old new
  visited_wider May More old new wide v = record {
    step = v.step;
    went = v.went;
    adds = adds_wider (by_at old.number old.session.levels.commands) May More (view old.pass).seen (view new.pass).seen wide v.adds;
    number = v.number;
  }

  pub visited_then : (First Second May : ℕ → Kind → Type 0) (old mid new : Caller L P l p) → mid.session ≡ record old.session { making = mid.session.making } → ((lock : ℕ) (kind : Kind) → First lock kind → May lock kind) → ((lock : ℕ) (kind : Kind) → Second lock kind → May lock kind)
      → Visited hall banks First old mid → Visited hall banks Second mid new → Visited hall banks May old new
  visited_then First Second May old mid new same f g x y = record {
    step = y.step;
    went = multi_after old.number mid.number [] (view old.pass).seen (view mid.pass).seen (view new.pass).seen x.number x.went y.went;
    adds = both_add (by_at old.number old.session.levels.commands) (by_at mid.number mid.session.levels.commands) First Second May (view old.pass).seen (view mid.pass).seen (view new.pass).seen (command_kept old.number mid.number old.session mid.session x.number same) f g x.adds y.adds;
    number = y.number ∙ x.number;
  }
