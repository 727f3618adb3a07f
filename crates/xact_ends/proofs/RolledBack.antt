-- The ids of a savepoint are aborted page by page.
use Rattle.std.proofs.Common.{◌≡◌, ◌⊎◌, ℕ, ◌-◌, ◌≤◌, ◌<◌, nat_le, false, true, List, refl, sym, ap, subst, ◌∙◌, inl, inr, ⊎_elim, drop, length, arith, Contains, Some, le-leb}
use Rattle.std.proofs.lemmas.Bool.Decides.{nat_tests}
use Rattle.std.proofs.lemmas.List.{take_rest}
use Rattle.std.proofs.lemmas.Option.{same_Some, slice_get_within}
use Rattle.std.specs.List.{filter, slice_range}
use Rattle.tx_events.proofs.Membership.{contains_has, filter_has, has_contains, has_filter}
use Rattle.tx_core.specs.declared.entry.Entry.{Entry}
use Rattle.tx_core.specs.declared.entry.Start.{Start}
use Rattle.tx_core.specs.declared.entry.State.TheVariants as states
use Rattle.tx_core.specs.AbortRule.{Asks}
use Rattle.slru_bank.proofs.RunShapes.{has_range, range_has}
use Rattle.engine_parts.specs.declared.session.Session.{Session}
use Rattle.engine_parts.specs.declared.session.Stage.{Stage}
use Rattle.engine_parts.specs.declared.session.Stage.TheVariants as stages
use Rattle.engine_parts.specs.Holds.{Knowledge}
use Rattle.engine_parts.specs.Sessions.{IsReady, MayCall, inner_id}
use Rattle.engine_parts.specs.Stages.{AreUnasked, IsInStage, IsUndoing, may_be_aborted, may_be_recorded}
use Rattle.bank_sections.specs.Sets.{AsksOnly}
use Rattle.proc_sections.specs.Undos.{AreRolledBack, IsUndone}
use Rattle.xact_ends.specs.Aborts.{AreAborted}
use Rattle.xact_ends.specs.Undos.{AreOfSavepoint}
use Rattle.xact_ends.proofs.Staging.{call_staged}

-- ---- the stage

undoing_at : (start : Start) (v : Knowledge) (n : ℕ) (s : Session) → MayCall start v n s → s.stage ≡ stages.Undoing → IsUndoing v.seen n (inner_id s) s.levels.open_ids.items
undoing_at start v n s m is = subst (IsInStage start v.seen n (inner_id s) s.levels.open_ids.items) is m.stage

-- the undo is begun, or goes on
pub call_undoing : (start : Start) (v : Knowledge) (n : ℕ) (s : Session) (id : ℕ) → MayCall start v n s → (s.stage ≡ stages.Clear) ⊎ (s.stage ≡ stages.Undoing) → inner_id s ≡ Some id → MayCall start v n (record s { stage = stages.Undoing })
call_undoing start v n s id m stage inner =
    call_staged start v n s stages.Undoing
    (λ q. ⊎_elim (λ (c : s.stage ≡ stages.Clear). ap may_be_recorded c) (λ (u : s.stage ≡ stages.Undoing). ap may_be_recorded u) stage)
    (λ q. ⊎_elim (λ (c : s.stage ≡ stages.Clear). ap may_be_aborted c) (λ (u : s.stage ≡ stages.Undoing). ap may_be_aborted u) stage)
    m.ready
    (⊎_elim
    (λ (c : s.stage ≡ stages.Clear).
    let free : AreUnasked v.seen n s.levels.open_ids.items = subst (IsInStage start v.seen n (inner_id s) s.levels.open_ids.items) c m.stage in
    record { savepoint = id; innermost = inner; unasked = λ x state k below asked. free x state k asked })
    (λ (u : s.stage ≡ stages.Undoing). undoing_at start v n s m u)
    stage)

-- behind states of ids of the savepoint it goes on
pub call_rolling : (start : Start) (v w : Knowledge) (n n' : ℕ) (s s' : Session) (first past : ℕ) → MayCall start v n s → s.stage ≡ stages.Undoing → AreOfSavepoint s first past → AsksOnly n (slice_range s.levels.open_ids.items first past) states.Aborted v.seen w.seen → s' ≡ s → n' ≡ n → IsReady start w n' s' → MayCall start w n' s'
call_rolling start v w n n' s s' first past m is inside asks same number r =
    let g = undoing_at start v n s m is in
    let still : IsUndoing w.seen n (inner_id s) s.levels.open_ids.items = record {
      savepoint = g.savepoint;
      innermost = g.innermost;
      unasked = λ id state c below asked. ⊎_elim (λ old. g.unasked id state c below old) (λ new. absurd (let beyond = inside g.savepoint g.innermost id new.0 in omega arith)) (asks id state asked);
    } in
    record {
      ready = r;
      stage = subst (λ (z : ℕ × Session). IsInStage start w.seen z.0 (inner_id z.1) z.1.levels.open_ids.items z.1.stage) (λ j. (sym number j, sym same j)) (subst (IsInStage start w.seen n (inner_id s) s.levels.open_ids.items) (sym is) still);
    }

-- ---- the ids

-- a part of the savepoint's ids
pub inside_part : (s t : Session) (from first past : ℕ) → t ≡ s → from ≤ first → past ≤ length s.levels.open_ids.items → AreOfSavepoint s from (length s.levels.open_ids.items) → AreOfSavepoint t first past
inside_part s t from first past same low high inside =
    let ids : List ℕ = s.levels.open_ids.items in
    subst (λ (z : Session). AreOfSavepoint z first past) (sym same)
    (λ savepoint inner id c. let r = range_has ids first past id c in inside savepoint inner id (has_range ids from (length ids) r.0 id (let lo = r.1 in omega arith) (let hi = r.2 in omega arith) r.3))

at_or_past : (a b : ℕ) → nat_le a b ≡ true → a ≤ b
at_or_past a b e = grind (arith, nat_tests)

-- the ids from the savepoint's place on
pub inside_place : (s : Session) (from id : ℕ) → inner_id s ≡ Some id → drop from s.levels.open_ids.items ≡ filter (λ x. nat_le id x) s.levels.open_ids.items → AreOfSavepoint s from (length s.levels.open_ids.items)
inside_place s from id inner cut savepoint is x c =
    let ids : List ℕ = s.levels.open_ids.items in
    let k = has_filter (λ y. nat_le id y) ids x (contains_has (filter (λ y. nat_le id y) ids) x (subst (λ (l : List ℕ). Contains l x) (take_rest ids from ∙ cut) c)) in
    subst (λ z. z ≤ x) (same_Some id savepoint (sym inner ∙ is)) (at_or_past id x k.1)

-- are all of them
pub rolled_back : (start : Start) (lists : List (List Entry)) (ids : List ℕ) (from id : ℕ) → drop from ids ≡ filter (λ x. nat_le id x) ids → AreAborted start lists ids from (length ids) → AreRolledBack start lists ids id
rolled_back start lists ids from id cut set x c past =
    set x (subst (λ (l : List ℕ). Contains l x) (sym (take_rest ids from ∙ cut)) (has_contains (filter (λ y. nat_le id y) ids) x (filter_has (λ y. nat_le id y) ids x (contains_has ids x c) (le-leb id x past))))

-- none are aborted of no ids
pub rolled_none : (start : Start) (lists : List (List Entry)) (ids : List ℕ) (from : ℕ) → AreAborted start lists ids from from
rolled_none start lists ids from id c = let r = range_has ids from from id c in absurd (let lo = r.1 in let hi = r.2 in omega arith)

-- a part and then the next one
pub rolled_more : (start : Start) (lists : List (List Entry)) (ids : List ℕ) (from first past : ℕ) → from ≤ first → AreAborted start lists ids from first → AreAborted start lists ids first past → AreAborted start lists ids from past
rolled_more start lists ids from first past low before then id c =
    let r = range_has ids from past id c in
    ⊎_elim
    (λ (early : r.0 < first). before id (has_range ids from first r.0 id r.1 early r.3))
    (λ (late : first ≤ r.0). then id (has_range ids first past r.0 id late r.2 r.3))
    (either r.0 first)
  where
    either : (j k : ℕ) → (j < k) ⊎ (k ≤ j)
    either j k = grind arith

-- the session whose stage alone the undo had changed before
pub undone_from : (id : ℕ) (s t s' : Session) → t ≡ record s { stage = stages.Undoing } → IsUndone id t s' → IsUndone id s s'
undone_from id s t s' is u =
    let b = subst (λ (z : Session). IsUndone id z s') is u in
    record { named = b.named; unnamed = b.unnamed; opened = b.opened; registered = b.registered; count = b.count; stage = b.stage; unlinked = b.unlinked; making = b.making }
