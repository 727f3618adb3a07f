-- The open ids are aborted page by page.
use Rattle.std.proofs.Common.{◌≡◌, ◌⊎◌, ℕ, ◌≤◌, ◌<◌, false, List, refl, sym, ap, subst, ◌∙◌, inl, inr, ⊎_elim, length, arith, Contains, Some, slice_get}
use Rattle.std.specs.List.{slice_range}
use Rattle.std.proofs.lemmas.Option.{slice_get_within}
use Rattle.notes.specs.Lists.{Grows}
use Rattle.tx_events.specs.declared.xact_end.XactEnd.TheVariants as ends
use Rattle.tx_events.proofs.Membership.{contains_has, has_contains, has_place, place_has}
use Rattle.tx_core.specs.declared.entry.Entry.{Entry}
use Rattle.tx_core.specs.declared.entry.Start.{Start}
use Rattle.tx_core.specs.declared.entry.State.TheVariants as states
use Rattle.tx_core.proofs.Lasting.{marked_grows}
use Rattle.slru_bank.proofs.RunShapes.{has_range, range_has}
use Rattle.engine_parts.specs.declared.session.Session.{Session}
use Rattle.engine_parts.specs.Stages.{may_be_recorded}
use Rattle.proc_sections.specs.Endings.{MayEnd}
use Rattle.xact_ends.specs.Aborts.{AreAborted}

-- an id of a part of a list is of the list
pub among_all : (ids : List ℕ) (first past id : ℕ) → Contains (slice_range ids first past) id → Contains ids id
among_all ids first past id c = let r = range_has ids first past id c in has_contains ids id (place_has ids r.0 id r.3)

-- and each of the list is of the whole part
pub in_whole : (ids : List ℕ) (id : ℕ) → Contains ids id → Contains (slice_range ids 0 (length ids)) id
in_whole ids id c =
    let p = has_place ids id (contains_has ids id c) in
    let w = slice_get_within ids p.0 id p.1 in
    has_range ids 0 (length ids) p.0 id (omega arith) (omega arith) p.1

-- none are aborted of no ids
pub aborted_none : (start : Start) (lists : List (List Entry)) (ids : List ℕ) → AreAborted start lists ids 0 0
aborted_none start lists ids id c = let r = range_has ids 0 0 id c in absurd (let hi = r.2 in omega arith)

-- a part and then the next one
pub aborted_more : (start : Start) (lists : List (List Entry)) (ids : List ℕ) (first past : ℕ) → AreAborted start lists ids 0 first → AreAborted start lists ids first past → AreAborted start lists ids 0 past
aborted_more start lists ids first past before then id c =
    let r = range_has ids 0 past id c in
    ⊎_elim
    (λ (early : r.0 < first). before id (has_range ids 0 first r.0 id (omega arith) early r.3))
    (λ (late : first ≤ r.0). then id (has_range ids first past r.0 id late r.2 r.3))
    (either r.0 first)
  where
    either : (j k : ℕ) → (j < k) ⊎ (k ≤ j)
    either j k = grind arith

-- they stay so
pub aborted_on : (start : Start) (lists more : List (List Entry)) (ids : List ℕ) (first past : ℕ) → Grows lists more → AreAborted start lists ids first past → AreAborted start more ids first past
aborted_on start lists more ids first past g a id c = marked_grows start lists more id states.Aborted g (a id c)

-- all states stand
pub may_end_aborted : (start : Start) (lists : List (List Entry)) (s s' : Session) → s' ≡ s → may_be_recorded s.stage ≡ false → AreAborted start lists s.levels.open_ids.items 0 (length s.levels.open_ids.items) → MayEnd start lists s' ends.Abort
may_end_aborted start lists s s' is clear set = subst (λ (z : Session). MayEnd start lists z ends.Abort) (sym is) (record {
  recorded = clear;
  marked = λ id c. set id (in_whole s.levels.open_ids.items id c);
})
