-- What a recovery leaves is a clean start.
use Rattle.std.proofs.Common.{Contains, IsTrue, List, None, Some, [], ap, append-nil, arith, cond, eq-eqb, inl, inr, length, refl, subst, suc, sym, take, zero, ℕ, ⊎_elim, ◌+◌, ◌++◌, ◌-◌, ◌/◌, ◌%◌, ◌<◌, ◌∙◌, ◌∷◌, ◌≡◌, ◌≤◌, ◌⊎◌}
use Rattle.std.proofs.lemmas.Nat.{mod_below}
use Rattle.std.specs.List.{slice_index}
use Rattle.disk_core.specs.Pages.{page_bytes}
use Rattle.store_pages.specs.Layouts.{member_page_of, member_place_of, mode_place_of, number_in, word_page_of, word_place_of, xact_page_of, xact_place_of}
use Rattle.tx_events.specs.Ids.{IsFullMulti}
use Rattle.tx_events.specs.declared.record.Rec.{Rec}
use Rattle.tx_events.specs.declared.record.Rec.TheVariants as records
use Rattle.tx_core.specs.declared.entry.Start.{Start}
use Rattle.tx_core.specs.declared.entry.State.TheVariants as states
use Rattle.tx_core.specs.CleanStart.{CleanStart}
use Rattle.recoverable.specs.Bytes.{byte_held, slot_place_of}
use Rattle.recoverable.specs.Fit.{IsCommitCode, KeptLog, base_at, log_end, recs_below}
use Rattle.recoverable.specs.FitMultis.{member_at, offset_at}
use Rattle.recoverable.specs.Laws.{life_base}
use Rattle.tx_events.specs.LifeBase.{IsLifeBase, LifeBase, base_after}
use Rattle.recoverable.specs.MemberImages.{CleanMembers}
use Rattle.recoverable.specs.OffsetImages.{CleanOffsets}
use Rattle.recoverable.specs.Volumes.{EndsSettled, Left, ListFits, Restored}
use Rattle.recoverable.specs.XactImages.{code_at}
use Rattle.recoverable.proofs.BytesShow.{in_id}
use Rattle.recoverable.proofs.Checkpoints.{take_next}
use Rattle.tx_events.proofs.BaseSteps.{base_then}
use Rattle.bank_follows.specs.Begins.{offset_bytes_on, state_of_code}
use Rattle.bank_follows.specs.Restored.{RestoredBegins, shown_on}
use Rattle.bank_follows.proofs.Begins.{bits_small, offset_held, slot_held, zero_bytes}

-- which codes a state that counts as committed is read of
commit_code : (code : ℕ) → code < 4 → (state_of_code code ≡ Some states.Committed) ⊎ (state_of_code code ≡ Some states.SubCommitted) → IsCommitCode code
commit_code zero lt e = absurd (⊎_elim (λ (q : None ≡ Some states.Committed). absurd cc) (λ (q : None ≡ Some states.SubCommitted). absurd cc) e)
commit_code (suc zero) lt e = inl refl
commit_code (suc (suc zero)) lt e = absurd (⊎_elim (λ (q : Some states.Aborted ≡ Some states.Committed). absurd cc) (λ (q : Some states.Aborted ≡ Some states.SubCommitted). absurd cc) e)
commit_code (suc (suc (suc n))) lt e = inr (omega arith)

module _ (start : Start) (log : KeptLog) (from : ℕ) (left : Left) (told : IsTrue start.told) (full : IsFullMulti start.base.multi) (some : 1 ≤ start.banks) (list : ListFits log) (settled : EndsSettled log from (life_base start)) (r : Restored start.banks log from start.base left) where
  -- the log is on disk to its end, and gives the life's base there
  flushed_is : log.flushed ≡ from + 1
  flushed_is = let upto = list.upto in let end = settled.end in let past = settled.flushed in omega arith

  at_flushed : base_at log log.flushed ≡ life_base start
  at_flushed = settled.kept log.flushed (omega arith) list.upto

  at_end : base_at log (log_end log) ≡ life_base start
  at_end = let upto = list.upto in settled.kept (log_end log) (omega arith) (omega arith)

  is_base : IsLifeBase (life_base start)
  is_base = subst IsLifeBase at_flushed (list.bases log.flushed (omega arith) list.upto)

  -- the checkpoint at the log's end names no id and no multixact: the base before it has the same ones
  abbrev check : Rec
  check = records.Checkpoint from r.may_begin.counters

  at_from : base_after (base_at log from) (check ∷ []) ≡ life_base start
  at_from =
      let first = r.may_begin.from in
      let next : from + 1 - log.first ≡ suc (from - log.first) = omega arith in
      let one : recs_below log (from + 1) ≡ recs_below log from ++ check ∷ [] = ap (λ j. take j log.recs) next ∙ take_next log.recs (from - log.first) check r.may_begin.checkpoint in
      sym (base_then log.base (recs_below log from) (check ∷ [])) ∙ ap (base_after log.base) (sym one) ∙ ap (base_at log) (sym flushed_is) ∙ at_flushed

  committed_is : (base_at log from).committed ≡ start.committed
  committed_is = sym (append-nil (base_at log from).committed) ∙ ap (λ (b : LifeBase). b.committed) at_from

  recorded_is : (base_at log from).recorded ≡ start.recorded
  recorded_is = sym (append-nil (base_at log from).recorded) ∙ ap (λ (b : LifeBase). b.recorded) at_from

  multi_is : (base_at log (from + 1)).counters.multi ≡ start.base.multi
  multi_is = ap (λ (b : LifeBase). b.counters.multi) (ap (base_at log) (sym flushed_is) ∙ at_flushed)

  oldest_is : (base_at log log.flushed).counters.oldest ≡ start.base.oldest
  oldest_is = ap (λ (b : LifeBase). b.counters.oldest) at_flushed

  oldest_multi_is : (base_at log log.flushed).counters.oldest_multi ≡ start.base.oldest_multi
  oldest_multi_is = ap (λ (b : LifeBase). b.counters.oldest_multi) at_flushed

  inside : (page : ℕ) → page % start.banks < start.banks
  inside page = mod_below page start.banks (omega arith)

  -- the code of an id, on its bank
  abbrev code : ℕ → ℕ
  code x = code_at (left.xact (xact_page_of x % start.banks)) x

  code_small : (x : ℕ) → code x < 4
  code_small x = bits_small (slice_index (page_bytes (left.xact (xact_page_of x % start.banks) (xact_page_of x))) (xact_place_of x / 4)) (xact_place_of x % 4)

  xact_clean : CleanStart start (shown_on start.banks left).xact
  xact_clean = record {
    base = is_base.counters;
    before = λ x c. (is_base.committed x c).1;
    committed = λ x old among.
        let oldest = oldest_is in
        let shows = (r.xact (xact_page_of x % start.banks) (inside (xact_page_of x))).committed x (subst (λ (t : List ℕ). Contains t x) (sym committed_is) among) (omega arith) refl in
        ap state_of_code shows;
    only = λ x old below e.
        let oldest = oldest_is in
        let next : (base_at log (log_end log)).counters.next ≡ start.base.next = ap (λ (b : LifeBase). b.counters.next) at_end in
        let here = (r.xact (xact_page_of x % start.banks) (inside (xact_page_of x))).no_other.here x refl (omega arith) (omega arith) (commit_code (code x) (code_small x) e) in
        subst (λ (b : LifeBase). Contains b.committed x) at_flushed here;
    place = λ x near e.
        let found = (r.xact (xact_page_of x % start.banks) (inside (xact_page_of x))).no_other.place x refl (commit_code (code x) (code_small x) e) in
        (found.0, subst (λ (b : LifeBase). Contains b.committed found.0) at_flushed found.1, found.2);
    clean = λ x low high. ap state_of_code (r.no_state x (low, high));
  }

  offsets_clean : CleanOffsets start (shown_on start.banks left).offsets
  offsets_clean = record {
    told = told;
    full = λ multi offset members among. full;
    before = λ multi offset members among. (is_base.multis multi offset members among).0;
    in_order = is_base.in_order;
    recorded = λ multi offset members among old i lt.
        let oldest = oldest_multi_is in
        let bank : ℕ = word_page_of multi % start.banks in
        let shows = (r.offsets bank (inside (word_page_of multi))).recorded multi offset members (subst (λ (t : List Rec). Contains t (records.Multi multi offset members)) (sym recorded_is) among) (omega arith) refl i lt in
        sym (offset_held (page_bytes (left.offsets bank (word_page_of multi))) multi i lt) ∙ shows;
    other = λ multi full old below never.
        let oldest = oldest_multi_is in let next = multi_is in
        none (word_page_of multi % start.banks) multi ((r.offsets (word_page_of multi % start.banks) (inside (word_page_of multi))).no_other multi full (omega arith) (omega arith)
        (λ offset members among. never offset members (subst (λ (b : LifeBase). Contains b.recorded (records.Multi multi offset members)) at_flushed among)) refl);
    clean = λ x low high. none (word_page_of x % start.banks) x (r.no_offset x (low, high));
  }
    where
      none : (bank multi : ℕ) → offset_at (left.offsets bank) multi ≡ 0 → offset_bytes_on (page_bytes (left.offsets bank (word_page_of multi))) multi ≡ None
      none bank multi e = ap (λ b. cond b None (Some (λ i. slice_index (page_bytes (left.offsets bank (word_page_of multi))) (word_place_of multi + i)))) (eq-eqb (offset_at (left.offsets bank) multi) 0 e)

  -- where a slot's id is 0, so is each of its bytes
  no_id : (x i : ℕ) → member_at (left.members (member_page_of x % start.banks)) x ≡ 0 → i < 4 → byte_held ((shown_on start.banks left).members x) i ≡ 0
  no_id x i e lt =
      let bytes : List ℕ = page_bytes (left.members (member_page_of x % start.banks) (member_page_of x)) in
      sym (slot_held bytes x i (omega arith)) ∙ subst (λ b. slice_index bytes (cond b (mode_place_of x) (member_place_of x + i)) ≡ 0) (sym (in_id i lt)) (zero_bytes bytes (member_place_of x) i e lt)

  members_clean : CleanMembers start (shown_on start.banks left).members
  members_clean = record {
    before = λ multi offset members among. (is_base.multis multi offset members among).0;
    in_order = is_base.in_order;
    recorded = λ multi offset k members member among old here i lt.
        let oldest = oldest_multi_is in
        let x : ℕ = offset + k in
        let bank : ℕ = member_page_of (offset + k) % start.banks in
        let shows = (r.members bank (inside (member_page_of (offset + k)))).recorded multi offset k members member (subst (λ (t : List Rec). Contains t (records.Multi multi offset members)) (sym recorded_is) among) (omega arith) here refl i lt in
        sym (slot_held (page_bytes (left.members bank (member_page_of (offset + k)))) (offset + k) i lt) ∙ shows;
    gap = λ multi offset members among old low i lt.
        let oldest = oldest_multi_is in
        let x : ℕ = offset + length members in
        no_id (offset + length members) i ((r.members (member_page_of (offset + length members) % start.banks) (inside (member_page_of (offset + length members)))).no_gap multi offset members
        (subst (λ (b : LifeBase). Contains b.recorded (records.Multi multi offset members)) (sym at_end) among) (omega arith) low refl) lt;
    clean = λ x i low high lt. no_id x i (r.no_member x (low, high)) lt;
    behind = λ x past high.
        let low : start.base.offset ≤ x = omega arith in
        let bytes : List ℕ = page_bytes (left.members (member_page_of x % start.banks) (member_page_of x)) in
        let id : number_in bytes (member_place_of x) ≡ 0 = r.no_member x (low, high) in
        let mode : slice_index bytes (mode_place_of x) ≡ 0 = r.no_mode x (low, high) past in
        ap (λ b. cond b None (Some (λ i. slice_index bytes (slot_place_of x i)))) (eq-eqb (number_in bytes (member_place_of x) + slice_index bytes (mode_place_of x)) 0 (omega arith));
  }

pub restored_begins : RestoredBegins
restored_begins start log from left on r = record {
  right = record { told = on.told; full = on.full; base = is_base start log from left on.told on.full on.some on.list on.settled r };
  xact = xact_clean start log from left on.told on.full on.some on.list on.settled r;
  offsets = offsets_clean start log from left on.told on.full on.some on.list on.settled r;
  members = members_clean start log from left on.told on.full on.some on.list on.settled r;
}
