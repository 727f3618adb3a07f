-- How a freeze begins in the generator.
use Rattle.std.proofs.Common.{◌≡◌, ℕ, ◌<◌, ◌≤◌, Contains, List, [], ◌∷◌, ◌++◌, Ok, ⊎_elim, refl, sym, subst, arith}
use Rattle.tx_events.specs.Ids.{low_half}
use Rattle.tx_events.specs.declared.event.By.{By}
use Rattle.tx_events.specs.declared.multi.MultiEvent.{MultiEvent}
use Rattle.tx_events.specs.declared.record.Counters.{Counters}
use Rattle.tx_events.specs.declared.refusal.Refusal.{Refusal}
use Rattle.tx_events.specs.declared.refusal.Refusal.TheVariants as refusals
use Rattle.tx_events.specs.Multis.{InBase, IsRaised, MultiMayCome, free_offset, multi_by, next_made, oldest_multi, pin_limit, pins}
use Rattle.multi_store.specs.Generator.{Adds, BeginsWhereRaised, Generator, IsNotRaised, free_of, limit_of, next_of, oldest_of}
use Rattle.multi_store.proofs.RaiseSound.{limit_to}
use Rattle.tx_core.specs.declared.entry.Entry.{Entry}
use Rattle.tx_core.specs.declared.entry.Start.{Start}
use Rattle.tx_core.specs.MultiEntries.{multi_history}
use Rattle.tx_core.specs.MultisLegal.{ToldOf}
use Rattle.tx_core.proofs.Rising.{made_more}
use Rattle.engine_parts.specs.declared.session.Session.{Session}
use Rattle.engine_parts.specs.Sessions.{by_at}
use Rattle.engine_parts.specs.Steps.{WentMulti}
use Rattle.multi_sections.specs.declared.raising.Freezing.{Freezing}
use Rattle.multi_sections.specs.declared.raising.Freezing.TheVariants as freezings
use Rattle.multi_sections.specs.Raisings.{IsFrozenAs, IsNotFrozen, StartsFreeze, freezing_event, frozen_event}
use Rattle.multi_sections.proofs.Answered.{generator_of, is_pinned, pinned_now}

-- ---- the next one

pub begins_next : (g : Generator) (multi offset : ℕ) → (oldest_of g ≤ multi → next_of g ≤ multi) → offset ≡ free_of g → BeginsWhereRaised g multi offset
begins_next g multi offset past free from limit =
    let up : next_of g ≤ multi = past from in
    record {
      of_base = λ l. absurd (between multi g.base.multi (next_of g) l (made_more g.base.multi [] g.events (g.events, refl)) up);
      of_life = λ a l. absurd (apart multi (next_of g) l up);
      of_next = λ e. free;
    }
  where
    apart : (a b : ℕ) → a < b → b ≤ a → ⊥
    apart a b l m = omega arith

    between : (m b n : ℕ) → m < b → b ≤ n → n ≤ m → ⊥
    between m b n x y z = omega arith

pub raised_next : (g : Generator) (multi : ℕ) → (oldest_of g ≤ multi → next_of g ≤ multi) → oldest_of g ≤ multi → multi ≤ limit_of g → multi ≡ next_of g
raised_next g multi past from to = same multi (next_of g) (limit_of g) to (limit_to g.base.multi g.events) (past from)
  where
    same : (m n l : ℕ) → m ≤ l → l ≤ n → n ≤ m → m ≡ n
    same m n l a b c = omega arith

pub not_raised : (g : Generator) (multi : ℕ) (r : Refusal) → IsNotRaised g multi r → IsNotFrozen g.base g.events multi r
not_raised g multi r n =
    ⊎_elim
    (λ (z : (multi < oldest_of g) × (r ≡ refusals.Backward (oldest_of g))). subst (IsNotFrozen g.base g.events multi) (sym z.1) (refl, z.0))
    (λ rest. ⊎_elim
    (λ (z : (oldest_of g ≤ multi) × (limit_of g < multi) × (r ≡ refusals.Held (limit_of g))). subst (IsNotFrozen g.base g.events multi) (sym z.2) (refl, z.1, z.0))
    (λ (z : (oldest_of g ≤ multi) × (multi ≤ limit_of g) × (r ≡ refusals.Memory)). subst (IsNotFrozen g.base g.events multi) (sym z.2) (z.0, to multi (limit_of g) (next_of g) z.1 (limit_to g.base.multi g.events)))
    rest)
    n
  where
    to : (m l n : ℕ) → m ≤ l → l ≤ n → m ≤ n
    to m l n a b = omega arith

-- ---- the freeze in the history

frozen_next : (base : Counters) (h : List MultiEvent) (multi offset : ℕ) → multi ≡ next_made base.multi h → offset ≡ free_offset base.offset h → oldest_multi base.oldest_multi h ≤ multi → multi ≤ pin_limit base.multi h → IsRaised base (InBase base) h multi offset
frozen_next base h multi offset next free from to = record {
  not_back = from;
  not_pinned = to;
  begins = begins_next (generator_of base h) multi offset (λ z. let up : next_made base.multi h ≤ multi = omega arith in up) free from to;
}

pub may_freeze : (base : Counters) (h : List MultiEvent) (new : Generator) (by : By) (multi : ℕ) (f : Freezing) → IsFrozenAs (generator_of base h) new by multi f → MultiMayCome base (InBase base) h (frozen_event by multi f)
may_freeze base h new by multi (freezings.Raised offset) i = frozen_next base h multi offset i.0 i.1 i.2 i.3
may_freeze base h new by multi (freezings.Pinned held) i = (is_pinned base h new by (low_half multi) held i.0).known

pub told_freeze : (start : Start) (h : List MultiEvent) (new : Generator) (by : By) (multi : ℕ) (f : Freezing) → IsFrozenAs (generator_of start.base h) new by multi f → ToldOf start (frozen_event by multi f)
told_freeze start h new by multi (freezings.Raised offset) i = λ told rec among below.
    let up = made_more start.base.multi [] h (h, refl) in
    absurd (between multi start.base.multi (next_made start.base.multi h) below up i.0)
  where
    between : (m b n : ℕ) → m < b → b ≤ n → m ≡ n → ⊥
    between m b n x y z = omega arith
told_freeze start h new by multi (freezings.Pinned held) i = tt

pub adds_freeze : (old new : Generator) (by : By) (multi : ℕ) (f : Freezing) → IsFrozenAs old new by multi f → Adds old new (frozen_event by multi f)
adds_freeze old new by multi (freezings.Raised offset) i = i.4
adds_freeze old new by multi (freezings.Pinned held) i = i.0.adds

pub freezing_is : (n : ℕ) (s : Session) (multi : ℕ) (f : Freezing) → frozen_event (by_at n s.levels.commands) multi f ≡ freezing_event n s multi f
freezing_is n s multi (freezings.Raised offset) = refl
freezing_is n s multi (freezings.Pinned held) = refl

pub own_event : (n : ℕ) (s : Session) (multi : ℕ) (f : Freezing) → multi_by (freezing_event n s multi f) ≡ by_at n s.levels.commands
own_event n s multi (freezings.Raised offset) = refl
own_event n s multi (freezings.Pinned held) = refl

pub starts_of : (start : Start) (n : ℕ) (s : Session) (multi : ℕ) (lists more : List (List Entry)) (before : List MultiEvent) (new : Generator) (by : By) (f : Freezing)
    → WentMulti n (freezing_event n s multi f ∷ []) lists more → multi_history more ≡ before ++ freezing_event n s multi f ∷ [] → IsFrozenAs (generator_of start.base before) new by multi f → StartsFreeze start n s multi lists more (Ok f)
starts_of start n s multi lists more before new by (freezings.Raised offset) went split i = (
  record {
    went = went;
    before = before;
    last = record { split = split };
    raised = frozen_next start.base before multi offset i.0 i.1 i.2 i.3;
  },
  i.0,
)
starts_of start n s multi lists more before new by (freezings.Pinned held) went split i = (
  went,
  subst (λ (m : ℕ). Contains (pins (multi_history more)) (n, m)) i.1
      (subst (λ (h : List MultiEvent). Contains (pins h) (n, held.multi)) (sym split) (pinned_now before (by_at n s.levels.commands) held.multi)),
  i.1,
  before,
  record { split = split },
  is_pinned start.base before new by (low_half multi) held i.0,
)
