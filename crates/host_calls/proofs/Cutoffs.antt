-- The cutoffs of banks are those of the life.
use Rattle.std.proofs.Common.{◌≡◌, ℕ, Some, None, ◌+◌, ◌%◌, ◌^◌, ◌<◌, ◌≤◌, List, [], ◌∷◌, Bool, Contains, inl, inr, map, ⊎_elim, refl, sym, ap, ◌∙◌, arith}
use Rattle.notes.specs.Lists.{at}
use Rattle.tx_events.specs.declared.event.By.{By}
use Rattle.tx_events.specs.declared.record.Rec.{Rec}
use Rattle.tx_events.specs.declared.record.Rec.TheVariants as records
use Rattle.tx_events.specs.declared.refusal.Lock.{Lock}
use Rattle.tx_events.specs.declared.refusal.Lock.TheVariants as locks
use Rattle.tx_events.specs.Base.{IsBase}
use Rattle.tx_events.specs.Horizon.{oldest_xmin}
use Rattle.tx_events.specs.Ids.{id_before}
use Rattle.tx_events.proofs.Membership.{Has, has_contains, place_has}
use Rattle.store_pages.specs.Layouts.{member_page_of, multi_before, subtrans_cut_page, subtrans_cutoff, word_page_of, xact_cut_page, xact_cutoff, xact_page_of}
use Rattle.tx_events.specs.Pages.{subtrans_page, xact_page}
use Rattle.tx_model.specs.declared.report.DumpOf.TheVariants as dumps
use Rattle.life_law.specs.Dumps.{IsMemberCutoff, IsOffsetCutoff, IsSubtransCutoff, IsXactCutoff, MayDump}
use Rattle.slru_bank.specs.declared.refusal.BankRefusal.{BankRefusal}
use Rattle.slru_bank.specs.declared.refusal.BankRefusal.TheVariants as refused
use Rattle.tx_core.specs.declared.entry.Entry.{Entry}
use Rattle.tx_core.specs.declared.entry.Start.{Start}
use Rattle.tx_core.specs.CutsFollow.{IsTruncated}
use Rattle.tx_core.specs.EngineInvariant.{EngineInvariant}
use Rattle.tx_core.specs.Entries.{history, records_of}
use Rattle.tx_core.specs.Locks.{member_page_in_full, members_lock, offset_page, offsets_lock, subtrans_lock, xact_lock}
use Rattle.tx_core.proofs.Cutting.{before_upto, cut_says}
use Rattle.engine_parts.specs.Stand.{IsCutoff, first_subtrans_page, first_xact_page}
use Rattle.engine_parts.specs.Shelf.{IsCutoffOf}
use Rattle.engine_parts.specs.Shelves.{member_shelf, offset_shelf}
use Rattle.engine_host.proofs.Hosting.{xmin_first}
use Rattle.bank_sections.specs.Sections.{IsSubtransCut, IsXactCut}
use Rattle.bank_sections.proofs.Nearing.{stop_tight}
use Rattle.multi_banks.specs.Sections.{IsMemberCut, IsOffsetCut}
use Rattle.session_promise.specs.Promise.{recs_of}
use Rattle.host_calls.specs.Dumps.{HasNoCut, IsCutTold, refusal_by}

-- a page in full, as it is stored
xact_stored : (oldest cutoff : ℕ) → cutoff ≡ xact_page oldest % 2 ^ 17 → cutoff ≡ xact_page_of oldest
xact_stored oldest cutoff e = omega (arith, e)

-- the first cutoffs are those of the oldest id and of the next one
xact_begins : (oldest cutoff : ℕ) → cutoff ≡ xact_page oldest % 2 ^ 17 → cutoff ≡ xact_cutoff oldest oldest
xact_begins oldest cutoff e =
    let same : xact_cut_page oldest oldest ≡ xact_page oldest = omega arith in
    e ∙ ap (λ n. n % 2 ^ 17) (sym same)

subtrans_begins : (oldest next cutoff : ℕ) → next + 2999990 ≤ oldest + 2 ^ 31 → cutoff ≡ subtrans_page (id_before next) % 2 ^ 21 → cutoff ≡ subtrans_cutoff oldest next
subtrans_begins oldest next cutoff near e =
    let back = before_upto next in
    let same : subtrans_cut_page oldest next ≡ subtrans_page (id_before next) = omega arith in
    e ∙ ap (λ n. n % 2 ^ 21) (sym same)

has_mapped : (xs : List (By × Rec)) (by : By) (rec : Rec) → Has xs (by, rec) → Has (map (λ (z : By × Rec). z.1) xs) rec
has_mapped [] by rec k = absurd k
has_mapped (x ∷ xs) by rec k = ⊎_elim (λ (e : x ≡ (by, rec)). inl (ap (λ (z : By × Rec). z.1) e)) (λ t. inr (has_mapped xs by rec t)) k

-- the record of a truncation that is on disk
truncated_among : (start : Start) (lists : List (List Entry)) (oldest multi offset : ℕ) → IsTruncated start lists oldest multi offset → Contains (recs_of lists) (records.Truncate oldest multi offset)
truncated_among start lists oldest multi offset t =
    let f = t.flushed in
    has_contains (recs_of lists) (records.Truncate oldest multi offset) (has_mapped (records_of lists) f.2 (records.Truncate oldest multi offset) (place_has (records_of lists) f.0 (f.2, records.Truncate oldest multi offset) f.4))

pub xact_told : (start : Start) (lists : List (List Entry)) (bank cutoff : ℕ) → EngineInvariant start lists → IsCutoff (first_xact_page start) (2 ^ 17) (at lists (xact_lock bank)) cutoff → IsXactCutoff start.base (recs_of lists) cutoff
xact_told start lists bank cutoff k c =
    ⊎_elim
    (λ (first : c.0 ≡ first_xact_page start). (start.base.oldest, inl refl, xact_begins start.base.oldest cutoff (c.1 ∙ ap (λ n. n % 2 ^ 17) first)))
    (λ z.
    let t = (cut_says start lists (xact_lock bank) c.0 z.0 k z.1 z.2).xact bank refl in
    (t.0, inr (t.1, t.2, truncated_among start lists t.0 t.1 t.2 t.3), c.1 ∙ ap (λ n. n % 2 ^ 17) t.4))
    c.3

pub subtrans_told : (start : Start) (lists : List (List Entry)) (bank cutoff : ℕ) → IsBase start.base → EngineInvariant start lists → IsCutoff (first_subtrans_page start) (2 ^ 21) (at lists (subtrans_lock bank)) cutoff → IsSubtransCutoff start.base (history lists) cutoff
subtrans_told start lists bank cutoff base k c =
    ⊎_elim
    (λ (first : c.0 ≡ first_subtrans_page start).
    let xmin : oldest_xmin start.base.next [] ≡ start.base.next = xmin_first start.base.next base.full in
    let near = stop_tight start.base.oldest in
    let next = base.next in
    (0, omega arith, subtrans_begins start.base.oldest (oldest_xmin start.base.next []) cutoff (omega arith) (c.1 ∙ (ap (λ n. n % 2 ^ 21) first ∙ ap (λ n. subtrans_page (id_before n) % 2 ^ 21) (sym xmin)))))
    (λ z.
    let t = (cut_says start lists (subtrans_lock bank) c.0 z.0 k z.1 z.2).subtrans bank refl in
    (t.0, t.1, c.1 ∙ ap (λ n. n % 2 ^ 21) t.2))
    c.3

-- of offsets, and of members
offset_stored : (multi cutoff : ℕ) → cutoff ≡ offset_page multi % 2 ^ 21 → cutoff ≡ word_page_of multi
offset_stored multi cutoff e = omega (arith, e)

member_stored : (offset cutoff : ℕ) → cutoff ≡ member_page_in_full offset % 2625286 → cutoff ≡ member_page_of offset
member_stored offset cutoff e = omega (arith, e)

pub offset_told : (start : Start) (lists : List (List Entry)) (bank cutoff : ℕ) → EngineInvariant start lists → IsCutoffOf (offset_shelf start) (at lists (offsets_lock bank)) cutoff → IsOffsetCutoff start.base (recs_of lists) cutoff
offset_told start lists bank cutoff k c =
    ⊎_elim
    (λ (first : c.0 ≡ offset_page (multi_before start.base.oldest_multi)). (start.base.oldest_multi, inl refl, offset_stored (multi_before start.base.oldest_multi) cutoff (c.2 ∙ ap (λ n. n % 2 ^ 21) first)))
    (λ z.
    let t = (cut_says start lists (offsets_lock bank) c.0 z.0 k z.1 z.2).offsets bank refl in
    (t.1, inr (t.0, t.2, truncated_among start lists t.0 t.1 t.2 t.3), offset_stored (multi_before t.1) cutoff (c.2 ∙ ap (λ n. n % 2 ^ 21) t.4)))
    c.1

pub member_told : (start : Start) (lists : List (List Entry)) (bank cutoff : ℕ) → EngineInvariant start lists → IsCutoffOf (member_shelf start) (at lists (members_lock bank)) cutoff → IsMemberCutoff start.base (recs_of lists) cutoff
member_told start lists bank cutoff k c =
    ⊎_elim
    (λ (first : c.0 ≡ member_page_in_full start.base.oldest_offset). (start.base.oldest_offset, inl refl, member_stored start.base.oldest_offset cutoff (c.2 ∙ ap (λ n. n % 2625286) first)))
    (λ z.
    let t = (cut_says start lists (members_lock bank) c.0 z.0 k z.1 z.2).members bank refl in
    (t.2, inr (t.0, t.1, truncated_among start lists t.0 t.1 t.2 t.3), member_stored t.2 cutoff (c.2 ∙ ap (λ n. n % 2625286) t.4)))
    c.1

-- ---- where a bank refused

pub xact_refused : (start : Start) (lists : List (List Entry)) (page size bank : ℕ) (refusal : BankRefusal) → EngineInvariant start lists → bank ≡ page % start.banks → bank < start.banks
    → ((cutoff : ℕ) → refusal ≡ refused.Cut cutoff → IsXactCut start lists (page % start.banks) page cutoff) → MayDump start.banks start.base (recs_of lists) (history lists) (dumps.Xact page) size (refusal_by (locks.Xact bank) refusal)
xact_refused start lists page size bank (refused.Cut cutoff) k here low cut = let z = cut cutoff refl in (xact_told start lists (page % start.banks) cutoff k z.0, z.1)
xact_refused start lists page size bank refused.DiskFault k here low cut = (low, here)

pub subtrans_refused : (start : Start) (lists : List (List Entry)) (page size bank : ℕ) (refusal : BankRefusal) → IsBase start.base → EngineInvariant start lists → bank ≡ page % start.banks → bank < start.banks
    → ((cutoff : ℕ) → refusal ≡ refused.Cut cutoff → IsSubtransCut start lists (page % start.banks) page cutoff) → MayDump start.banks start.base (recs_of lists) (history lists) (dumps.Subtrans page) size (refusal_by (locks.Subtrans bank) refusal)
subtrans_refused start lists page size bank (refused.Cut cutoff) base k here low cut = let z = cut cutoff refl in (subtrans_told start lists (page % start.banks) cutoff base k z.0, z.1)
subtrans_refused start lists page size bank refused.DiskFault base k here low cut = (low, here)

-- where no entry cut the bank, its cutoff is the one with which the life began
first_told : (start : Start) (lists : List (List Entry)) (bank cutoff : ℕ) → IsCutoff (first_xact_page start) (2 ^ 17) (at lists (xact_lock bank)) cutoff → HasNoCut (at lists (xact_lock bank)) → cutoff ≡ xact_page_of start.base.oldest
first_told start lists bank cutoff c none =
    ⊎_elim
    (λ (first : c.0 ≡ first_xact_page start). xact_stored start.base.oldest cutoff (c.1 ∙ ap (λ n. n % 2 ^ 17) first))
    (λ z. absurd (let no : Some c.0 ≡ None = sym z.2 ∙ none z.0 z.1 in cc))
    c.3

pub xact_cut_told : (tells : Bool) (start : Start) (lists : List (List Entry)) (page : ℕ) (lock : Lock) (refusal : BankRefusal) → ((cutoff : ℕ) → refusal ≡ refused.Cut cutoff → IsXactCut start lists (page % start.banks) page cutoff)
    → IsCutTold tells start lists (dumps.Xact page) (refusal_by lock refusal)
xact_cut_told tells start lists page lock (refused.Cut cutoff) cut = let z = cut cutoff refl in (z, λ none. first_told start lists (page % start.banks) cutoff z.0 none)
xact_cut_told tells start lists page lock refused.DiskFault cut = tt

pub subtrans_cut_told : (tells : Bool) (start : Start) (lists : List (List Entry)) (page : ℕ) (lock : Lock) (refusal : BankRefusal) → ((cutoff : ℕ) → refusal ≡ refused.Cut cutoff → IsSubtransCut start lists (page % start.banks) page cutoff) → IsCutTold tells start lists (dumps.Subtrans page) (refusal_by lock refusal)
subtrans_cut_told tells start lists page lock (refused.Cut cutoff) cut = cut cutoff refl
subtrans_cut_told tells start lists page lock refused.DiskFault cut = tt

pub offset_refused : (start : Start) (lists : List (List Entry)) (page size bank : ℕ) (refusal : BankRefusal) → EngineInvariant start lists → bank ≡ page % start.banks → bank < start.banks
    → ((cutoff : ℕ) → refusal ≡ refused.Cut cutoff → IsOffsetCut start lists (page % start.banks) page cutoff) → MayDump start.banks start.base (recs_of lists) (history lists) (dumps.Offsets page) size (refusal_by (locks.Offsets bank) refusal)
offset_refused start lists page size bank (refused.Cut cutoff) k here low cut = let z = cut cutoff refl in (offset_told start lists (page % start.banks) cutoff k z.0, z.1)
offset_refused start lists page size bank refused.DiskFault k here low cut = (low, here)

pub member_refused : (start : Start) (lists : List (List Entry)) (page size bank : ℕ) (refusal : BankRefusal) → EngineInvariant start lists → bank ≡ page % start.banks → bank < start.banks
    → ((cutoff : ℕ) → refusal ≡ refused.Cut cutoff → IsMemberCut start lists (page % start.banks) page cutoff) → MayDump start.banks start.base (recs_of lists) (history lists) (dumps.Members page) size (refusal_by (locks.Members bank) refusal)
member_refused start lists page size bank (refused.Cut cutoff) k here low cut = let z = cut cutoff refl in (member_told start lists (page % start.banks) cutoff k z.0, z.1)
member_refused start lists page size bank refused.DiskFault k here low cut = (low, here)

pub offset_cut_told : (tells : Bool) (start : Start) (lists : List (List Entry)) (page : ℕ) (lock : Lock) (refusal : BankRefusal) → ((cutoff : ℕ) → refusal ≡ refused.Cut cutoff → IsOffsetCut start lists (page % start.banks) page cutoff) → IsCutTold tells start lists (dumps.Offsets page) (refusal_by lock refusal)
offset_cut_told tells start lists page lock (refused.Cut cutoff) cut = cut cutoff refl
offset_cut_told tells start lists page lock refused.DiskFault cut = tt

pub member_cut_told : (tells : Bool) (start : Start) (lists : List (List Entry)) (page : ℕ) (lock : Lock) (refusal : BankRefusal) → ((cutoff : ℕ) → refusal ≡ refused.Cut cutoff → IsMemberCut start lists (page % start.banks) page cutoff) → IsCutTold tells start lists (dumps.Members page) (refusal_by lock refusal)
member_cut_told tells start lists page lock (refused.Cut cutoff) cut = cut cutoff refl
member_cut_told tells start lists page lock refused.DiskFault cut = tt
