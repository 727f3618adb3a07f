-- A host that has all names learns nothing new at a lock, and adds to the lists what it may.
use Rattle.std.proofs.Common.{◌≡◌, ℕ, suc, ◌<◌, ◌≤◌, ◌+◌, ◌==◌, ⊎_elim, List, [], ◌∷◌, ◌++◌, Contains, Bool, false, length, slice_index_or, append-nil, inl, refl, sym, ap, subst, ◌∙◌, arith}
use Rattle.disk_core.specs.declared.log_disk.LogDisk as logs
use Rattle.disk_core.specs.declared.page_disk.PageDisk as disks
use Rattle.hall.specs.declared.hall.Hall.{Hall}
use Rattle.hall.specs.declared.pass.Token.{Token}
use Rattle.hall.specs.Calls.{Entered, IsOf, Looked, start_of, view}
use Rattle.hall.specs.Rule.{Holds}
use Rattle.hall.specs.Told.{Moment, released}
use Rattle.notes.specs.Lists.{add, at, own}
use Rattle.tx_events.specs.declared.event.By.{By}
use Rattle.tx_events.proofs.ListSteps.{eqb-refl}
use Rattle.tx_events.proofs.Membership.{has_contains, has_right, none_passes}
use Rattle.tx_core.specs.declared.entry.Entry.{Entry}
use Rattle.tx_core.specs.declared.entry.Kind.{Kind}
use Rattle.tx_core.specs.declared.entry.Start.{Start}
use Rattle.tx_core.specs.Consequences.{IsHosts}
use Rattle.tx_core.specs.EngineInvariant.{EngineInvariant}
use Rattle.tx_core.specs.Entries.{session_of}
use Rattle.tx_core.specs.Laws.{HostKindKeeps}
use Rattle.tx_core.specs.ProgramOrder.{IsHostsTurn}
use Rattle.tx_core.proofs.Opening.{sessions_known}
use Rattle.engine_parts.specs.declared.part.Part.{Part}
use Rattle.engine_parts.specs.Alone.{IsAlone, IsIn, StaysAlone}
use Rattle.engine_parts.specs.Holds.{Enters, Knowledge, Leaves}
use Rattle.engine_parts.specs.Law.{MayKeep, writer_of}
use Rattle.engine_parts.specs.Parts.{PartStands}
use Rattle.engine_parts.proofs.Holding.{enters}

-- lists of lists that are the same at each place
lists_equal : {E : Type 0} → (xs ys : List (List E)) → length xs ≡ length ys → ((k : ℕ) → at xs k ≡ at ys k) → xs ≡ ys
lists_equal [] [] long same = refl
lists_equal [] (y ∷ ys) long same = absurd (omega (arith, long))
lists_equal (x ∷ xs) [] long same = absurd (omega (arith, long))
lists_equal (x ∷ xs) (y ∷ ys) long same =
    let tail = lists_equal xs ys (omega (arith, long)) (λ k. same (suc k)) in
    let head = same 0 in
    λ i. head i ∷ tail i

-- a list of which all entries of all sessions were seen
nothing_new : (seen lists rest : List Entry) → seen ++ rest ≡ lists → ((e : Entry) → Contains lists e → own session_of (session_of e) lists ≡ own session_of (session_of e) seen) → lists ≡ seen
nothing_new seen lists [] split all = sym split ∙ append-nil seen
nothing_new seen lists (e ∷ rest) split all =
    let n : ℕ = session_of e in
    let there : Contains lists e = subst (λ (t : List Entry). Contains t e) split (has_contains (seen ++ e ∷ rest) e (has_right seen (e ∷ rest) e (inl refl))) in
    let same : own session_of n (seen ++ e ∷ rest) ≡ own session_of n seen = ap (λ (t : List Entry). own session_of n t) split ∙ all e there in
    absurd (none_passes (λ (f : Entry). session_of f == n) seen (e ∷ rest) same e (inl refl) (eqb-refl n))

-- the lists of a moment at which a pass has all names are those that it has seen
pub sees_same : (start : Start) (v : Knowledge) (lists : List (List Entry)) → ((n : ℕ) → n ≤ start.sessions → Holds v n) → Moment session_of writer_of EngineInvariant start v lists → lists ≡ v.seen
sees_same start v lists all m =
    lists_equal lists v.seen m.long (λ k.
    let b = m.grows.begins k in
    nothing_new (at v.seen k) (at lists k) b.0 b.1 (λ e c.
    let within : session_of e ≤ start.sessions = ⊎_elim (λ (low : e.by.session < start.sessions). omega (arith, low)) (λ (his : IsHosts start e). (let same = his.0 in omega (arith, same))) (sessions_known start lists m.law k e c) in
    (m.own_seen (session_of e) (all (session_of e) within)).entries k))

module _ {H L P : Type 0} {l : logs.Ghosts L} {p : disks.Ghosts P} where
  -- so is what the host knows inside a lock
  pub went_in : (hall : Hall H (Part L P l p) Entry Start) (lock : ℕ) (old new : Token (Part L P l p) Entry Start) (part : Part L P l p) (v : Knowledge) → IsAlone hall old → IsOf hall new → new.cell ≡ lock → Looked (view old) v
      → Entered session_of writer_of PartStands EngineInvariant (start_of hall) lock v part (view new) → IsIn hall lock old new
  went_in hall lock old new part v alone own cell looked entered =
      let into : Enters (start_of hall) lock (view old) (view new) = enters PartStands (start_of hall) lock (view old) v (view new) part alone.own.named looked entered in
      let held : v.holds ≡ (view old).holds = ap (λ (z : Knowledge). z.holds) looked.1 in
      let all : (n : ℕ) → n ≤ (start_of hall).sessions → Holds v n = λ n within. ap (λ (bs : List Bool). slice_index_or bs n false) held ∙ alone.all n within in
      let same : entered.lists ≡ v.seen = sees_same (start_of hall) v entered.lists all entered.moment in
      record {
        own = own;
        cell = cell;
        inside = into.inside;
        name = into.learns.name;
        holds = into.learns.holds;
        seen = ap (λ (z : Knowledge). z.seen) entered.view_is ∙ (same ∙ ap (λ (z : Knowledge). z.seen) looked.1);
        kept = into.kept;
      }

  module _ (hall : Hall H (Part L P l p) Entry Start) (lock : ℕ) (old within new : Token (Part L P l p) Entry Start) (alone : IsAlone hall old) (i : IsIn hall lock old within) (own : IsOf hall new) where
    -- alone again, with these lists
    again : (lists : List (List Entry)) → (view new).stage ≡ (view old).stage → (view new).name ≡ (view within).name → (view new).holds ≡ (view within).holds → (view new).seen ≡ lists → StaysAlone hall lists old new
    again lists free name held seen = record {
      alone = record {
        own = own;
        free = free ∙ alone.free;
        laid = alone.laid;
        banks = alone.banks;
        name = name ∙ (i.name ∙ alone.name);
        all = λ n within_all. ap (λ (bs : List Bool). slice_index_or bs n false) (held ∙ i.holds) ∙ alone.all n within_all;
      };
      seen = seen;
      holds = held ∙ i.holds;
    }

    -- it left the lock with an entry
    pub went_out : (e : Entry) → Leaves (start_of hall) lock e (view within) (view new) → StaysAlone hall (add (view old).seen lock e) old new
    went_out e left = again (add (view old).seen lock e) (left.free ∙ sym alone.free) left.name left.holds (left.seen ∙ ap (λ (z : List (List Entry)). add z lock e) i.seen)

    -- or with none
    pub came_out : view new ≡ released (view within) → StaysAlone hall (view old).seen old new
    came_out is = again (view old).seen (ap (λ (z : Knowledge). z.stage) is ∙ sym alone.free) (ap (λ (z : Knowledge). z.name) is) (ap (λ (z : Knowledge). z.holds) is) (ap (λ (z : Knowledge). z.seen) is ∙ i.seen)

-- an entry of the host's step may be added where the law of its kind says so
pub may_add : (start : Start) (seen : List (List Entry)) (lock : ℕ) (by : By) (kind : Kind) (e : Entry) → e ≡ record { by = by; kind = kind } → HostKindKeeps start seen lock by kind → IsHostsTurn start by → MayKeep start seen lock e
may_add start seen lock by kind e is keeps turn = subst (MayKeep start seen lock) (sym is) (λ lists k knows inside whole. keeps lists k knows inside whole turn)
