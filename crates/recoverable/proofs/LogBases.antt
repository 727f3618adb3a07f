-- The base that the records of a life's log give.
use Rattle.std.proofs.Common.{Contains, inl, inr, ◌⊎◌, ◌≡◌, ℕ, ◌+◌, ◌-◌, ◌<◌, ◌≤◌, ⊎_elim, List, [], ◌∷◌, ◌++◌, length, take, max, sym, ap, subst, arith, ◌∙◌}
use Rattle.std.specs.List.{filter}
use Rattle.tx_events.specs.Ids.{next_id, next_multi}
use Rattle.tx_events.specs.declared.multi.Member.{Member}
use Rattle.tx_events.specs.declared.record.Counters.{Counters}
use Rattle.tx_events.specs.declared.record.Rec.{Rec}
use Rattle.tx_events.specs.declared.record.Rec.TheVariants as records
use Rattle.tx_events.specs.After.{after_record, after_records, ids_of, past_ids}
use Rattle.tx_events.proofs.Membership.{Has, contains_has, has_cases, has_filter}
use Rattle.tx_core.specs.declared.entry.Entry.{Entry}
use Rattle.tx_core.specs.declared.entry.Start.{Start}
use Rattle.tx_core.specs.Entries.{recs_in}
use Rattle.tx_core.specs.Locks.{log_lock}
use Rattle.tx_core.proofs.Rising.{multi_above}
use Rattle.wal_core.proofs.Counts.{past_above}
use Rattle.notes.specs.Lists.{at}
use Rattle.tx_events.specs.LifeBase.{LifeBase, base_after, committed_by, committed_in, is_multi}
use Rattle.tx_events.proofs.BaseSteps.{base_then}
use Rattle.recoverable.specs.Fit.{KeptLog, base_at}
use Rattle.recoverable.specs.Laws.{LogFollows, life_base}
use Rattle.recoverable.proofs.Stretches.{take_past}

-- the records of the life
abbrev pub life_recs : List (List Entry) → List Rec
life_recs lists = recs_in (at lists log_lock)

-- what is recorded with these records was so when the life began, or is one of them
pub recorded_split : (start : Start) (recs : List Rec) (rec : Rec) → Contains (start.recorded ++ filter is_multi recs) rec → Has start.recorded rec ⊎ Has recs rec
recorded_split start recs rec c = ⊎_elim inl (λ h. inr (has_filter is_multi recs rec h).0) (has_cases start.recorded (filter is_multi recs) rec (contains_has _ rec c))

-- from the life's start on the base goes on from the life's
pub base_from : (start : Start) (lists : List (List Entry)) (log : KeptLog) (k : ℕ) → LogFollows start lists log → start.from ≤ k → base_at log k ≡ base_after (life_base start) (take (k - start.from) (life_recs lists))
base_from start lists log k f le =
    let from : start.from ≡ log.first + length f.before = f.from in
    let long : length f.before ≤ k - log.first = omega arith in
    let rest : k - log.first - length f.before ≡ k - start.from = omega arith in
    ap (λ (t : List Rec). base_after log.base (take (k - log.first) t)) f.recs
    ∙ ap (base_after log.base) (take_past f.before (life_recs lists) (k - log.first) long)
    ∙ base_then log.base f.before (take (k - log.first - length f.before) (life_recs lists))
    ∙ ap (λ (b : LifeBase). base_after b (take (k - log.first - length f.before) (life_recs lists))) f.base
    ∙ ap (λ z. base_after (life_base start) (take z (life_recs lists))) rest

-- a counter that each record only raises
pub grows : (f : Counters → ℕ) → ((c : Counters) (r : Rec) → f c ≤ f (after_record c r)) → (c : Counters) (recs : List Rec) → f c ≤ f (after_records c recs)
grows f up c [] = omega arith
grows f up c (r ∷ recs) = let a = up c r in let b = grows f up (after_record c r) recs in omega arith

-- and one of these past this number
past_one : (f : Counters → ℕ) (number : ℕ) (rec : Rec) → ((c : Counters) (r : Rec) → f c ≤ f (after_record c r)) → ((c : Counters) → number ≤ f (after_record c rec)) → (c : Counters) (recs : List Rec) → Has recs rec → number ≤ f (after_records c recs)
past_one f number rec up past c [] h = absurd h
past_one f number rec up past c (r ∷ recs) h =
    ⊎_elim
    (λ (e : r ≡ rec).
    let a : number ≤ f (after_record c r) = subst (λ (z : Rec). number ≤ f (after_record c z)) (sym e) (past c) in
    let b = grows f up (after_record c r) recs in omega arith)
    (λ k. past_one f number rec up past (after_record c r) recs k)
    h

at_least : (a b : ℕ) → (a ≤ max a b) × (b ≤ max a b)
at_least a b = grind arith

oldest_up : (c : Counters) (r : Rec) → c.oldest ≤ (after_record c r).oldest
oldest_up c (records.Commit top subs) = omega arith
oldest_up c (records.Abort top subs) = omega arith
oldest_up c (records.Multi multi offset members) = omega arith
oldest_up c (records.Checkpoint number n) = (at_least c.oldest n.oldest).0
oldest_up c (records.Truncate oldest multi offset) = (at_least c.oldest oldest).0

oldest_multi_up : (c : Counters) (r : Rec) → c.oldest_multi ≤ (after_record c r).oldest_multi
oldest_multi_up c (records.Commit top subs) = omega arith
oldest_multi_up c (records.Abort top subs) = omega arith
oldest_multi_up c (records.Multi multi offset members) = omega arith
oldest_multi_up c (records.Checkpoint number n) = (at_least c.oldest_multi n.oldest_multi).0
oldest_multi_up c (records.Truncate oldest multi offset) = (at_least c.oldest_multi multi).0

pub multi_up : (c : Counters) (r : Rec) → c.multi ≤ (after_record c r).multi
multi_up c (records.Commit top subs) = omega arith
multi_up c (records.Abort top subs) = omega arith
multi_up c (records.Multi multi offset members) = (at_least c.multi (next_multi multi)).0
multi_up c (records.Checkpoint number n) = (at_least c.multi n.multi).0
multi_up c (records.Truncate oldest multi offset) = (at_least c.multi multi).0

-- the oldest id is only raised, and past that of each truncation
pub oldest_grows : (c : Counters) (recs : List Rec) → c.oldest ≤ (after_records c recs).oldest
oldest_grows c recs = grows (λ b. b.oldest) oldest_up c recs

pub oldest_past : (c : Counters) (recs : List Rec) (oldest multi offset : ℕ) → Has recs (records.Truncate oldest multi offset) → oldest ≤ (after_records c recs).oldest
oldest_past c recs oldest multi offset h = past_one (λ b. b.oldest) oldest (records.Truncate oldest multi offset) oldest_up (λ b. (at_least b.oldest oldest).1) c recs h

-- the same of the oldest multixact
pub oldest_multi_grows : (c : Counters) (recs : List Rec) → c.oldest_multi ≤ (after_records c recs).oldest_multi
oldest_multi_grows c recs = grows (λ b. b.oldest_multi) oldest_multi_up c recs

pub oldest_multi_past : (c : Counters) (recs : List Rec) (oldest multi offset : ℕ) → Has recs (records.Truncate oldest multi offset) → multi ≤ (after_records c recs).oldest_multi
oldest_multi_past c recs oldest multi offset h = past_one (λ b. b.oldest_multi) multi (records.Truncate oldest multi offset) oldest_multi_up (λ b. (at_least b.oldest_multi multi).1) c recs h

next_up : (c : Counters) (r : Rec) → c.next ≤ (after_record c r).next
next_up c (records.Commit top subs) = past_above c.next (top ∷ subs)
next_up c (records.Abort top subs) = past_above c.next (top ∷ subs)
next_up c (records.Multi multi offset members) = past_above c.next (ids_of members)
next_up c (records.Checkpoint number n) = (at_least c.next n.next).0
next_up c (records.Truncate oldest multi offset) = (at_least c.next oldest).0

offset_up : (c : Counters) (r : Rec) → c.offset ≤ (after_record c r).offset
offset_up c (records.Commit top subs) = omega arith
offset_up c (records.Abort top subs) = omega arith
offset_up c (records.Multi multi offset members) = (at_least c.offset (offset + length members)).0
offset_up c (records.Checkpoint number n) = (at_least c.offset n.offset).0
offset_up c (records.Truncate oldest multi offset) = (at_least c.offset offset).0

-- the next ones are only raised, past each committed id and each recorded multixact
pub next_grows : (c : Counters) (recs : List Rec) → c.next ≤ (after_records c recs).next
next_grows c recs = grows (λ b. b.next) next_up c recs

pub multi_grows : (c : Counters) (recs : List Rec) → c.multi ≤ (after_records c recs).multi
multi_grows c recs = grows (λ b. b.multi) multi_up c recs

pub offset_grows : (c : Counters) (recs : List Rec) → c.offset ≤ (after_records c recs).offset
offset_grows c recs = grows (λ b. b.offset) offset_up c recs

past_has : (next : ℕ) (ids : List ℕ) (x : ℕ) → Has ids x → x < past_ids next ids
past_has next [] x h = absurd h
past_has next (id ∷ ids) x h =
    ⊎_elim
    (λ (e : id ≡ x). let a = id_above id in let b = (at_least next (next_id id)).1 in let c = past_above (max next (next_id id)) ids in omega arith)
    (λ k. past_has (max next (next_id id)) ids x k)
    h
  where
    id_above : (n : ℕ) → n < next_id n
    id_above n = grind arith

commit_below : (c : Counters) (r : Rec) (x : ℕ) → Has (committed_by r) x → x < (after_record c r).next
commit_below c (records.Commit top subs) x h = past_has c.next (top ∷ subs) x h
commit_below c (records.Abort top subs) x h = absurd h
commit_below c (records.Multi multi offset members) x h = absurd h
commit_below c (records.Checkpoint number n) x h = absurd h
commit_below c (records.Truncate oldest multi offset) x h = absurd h

pub committed_below : (c : Counters) (recs : List Rec) (x : ℕ) → Has (committed_in recs) x → x < (after_records c recs).next
committed_below c [] x h = absurd h
committed_below c (r ∷ recs) x h =
    ⊎_elim
    (λ here. let a = commit_below c r x here in let b = next_grows (after_record c r) recs in omega arith)
    (λ rest. committed_below (after_record c r) recs x rest)
    (has_cases (committed_by r) (committed_in recs) x h)

pub multi_below : (c : Counters) (recs : List Rec) (multi offset : ℕ) (members : List Member) → Has recs (records.Multi multi offset members) → (multi < (after_records c recs).multi) × (offset + length members ≤ (after_records c recs).offset)
multi_below c recs multi offset members h =
    let a = past_one (λ b. b.multi) (next_multi multi) (records.Multi multi offset members) multi_up (λ b. (at_least b.multi (next_multi multi)).1) c recs h in
    let above = multi_above multi in
    (omega arith, past_one (λ b. b.offset) (offset + length members) (records.Multi multi offset members) offset_up (λ b. (at_least b.offset (offset + length members)).1) c recs h)
